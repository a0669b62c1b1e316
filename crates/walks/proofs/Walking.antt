-- What walks need beside the kit's steps. Assumes nothing.
--     places                a list of places in a context, for `keep`
--     behind                what is left of a body after some of its statements
--     room, full            a local that holds nothing, and one that holds a value
--     local, part           an operand that is a local, whose cell is entry n of the context; or a field of one
--     sets, puts, puts_last a local that is empty is set, whose cell is entry n; or it takes a call's result
--     tests                 the head of a `while`. The kit's steps for it ask that the walk knows how the test comes
--                           out; a loop that is walked once for all its turns does not. So both ways are walked, each
--                           with what the test then tells
--     Turned, turns_on      a loop whose turns bring the number `left` down: what a turn comes to, and the loop
-- The laws assume `Logic`.
use mathlib.Core.Path.{◌≡◌}
use Prim.Native.Nat.{ℕ, zero, suc, ◌+◌, ◌<◌}
use mathlib.Core.Bool.{Bool, true, false, not}
use mathlib.Core.List.{List, [], ◌∷◌}
use seplogic.Ra.Ura.{Ura}
use base.Fraction.{full_share}
use lib.Dec.{T}
use mathlib.Core.Option.{some}
use mir.Syntax.{Ty, Opd as Operand, Rv as RValue, field, Body, place, copy, skip, seq, assign, block, loop, cond}
use mir.Syntax.{switch, exit, return, call, call_v, lend_static, unreachable}
use mir.Val.{Val, WT, has_ty, vbool}
use base.Fml.{Share, fat, froom, fdies}
use prog.Wp.{Env, Calls, Loops, Out, next, Tables, Wp, after_turn, after_block, after_seq, at_return, exits, spot_of}
use base.Logic.{SProp}
use mathlib.Core.WellFounded.InvImage
use lib.WfN.{lt-wf_rel}
use types.Logic.{Logic}
use types.Kit.{Item, ‵, nth, put, lands, settles, Step, Post, post, prop, runs, any_q, at_ret, Seq, ◌$◌}
use prog.Memory.{field_of}
use types.Part.{Part, look_in}
use types.Run.{Opd, Rv, Below, fld, assigns, init, land, land_last, stop, from, look, load, stays, leaves_loop, first}
use types.Run.{blocks, loops}

-- i, i + 1, .., n of them, and then ns
abbrev pub places : ℕ → ℕ → List ℕ → List ℕ
places i zero ns = ns
places i (suc n) ns = i ∷ places (suc i) n ns

-- after the first of a sequence's statements; nothing is left of any other body
abbrev after_one : Body → Body
after_one (seq a b) = b
after_one skip = skip
after_one (assign p v) = skip
after_one (block b) = skip
after_one (loop b) = skip
after_one (cond c a b) = skip
after_one (switch c arms) = skip
after_one (exit n) = skip
after_one return = skip
after_one (call f xs p) = skip
after_one (call_v f xs p m) = skip
after_one (lend_static x p m) = skip
after_one unreachable = skip

abbrev pub behind : ℕ → Body → Body
behind zero b = b
behind (suc n) b = behind n (after_one b)

module _ {M : Type 1} {𝓤 : Ura M} where
  abbrev pub room : Ty → ℕ → List (Item 𝓤) → List (Item 𝓤)
  room τ l Γ = ‵ (froom τ l 0) ∷ ‵ (fdies τ l) ∷ Γ

  abbrev pub full : Ty → ℕ → Val → List (Item 𝓤) → List (Item 𝓤)
  full τ l v Γ = ‵ (fat full_share τ l 0 v) ∷ ‵ (fdies τ l) ∷ Γ

module _ {M : Type 1} {𝓤 : Ura M} {𝓛 : Logic 𝓤} {K : Type 0} {Γ : List (Item 𝓤)}
    {E : Env 𝓤 𝓛.H} where
  open 𝓛 use {H}

  pub local : K → (n : ℕ) {q : Share} {i : ℕ} {v : Val}
      → nth 𝓛 n Γ ≡ ‵ (fat q (spot_of 𝓤 H E i).0 (spot_of 𝓤 H E i).1 (spot_of 𝓤 H E i).2 v)
      → Opd K 𝓛 Γ E (copy (place i [])) v
  local t n e = load t (from t (stop t)) (look t n e)

  -- one that is field k of a local, whose cell is entry n
  pub part : K → (n : ℕ) {i k d : ℕ} {q : Share} {τ : Ty} {v : Val} {back : Val → Item 𝓤}
      → field_of (spot_of 𝓤 H E i).0 k ≡ some (τ, d)
      → Part K 𝓛 (nth 𝓛 n Γ) q τ (spot_of 𝓤 H E i).1 ((spot_of 𝓤 H E i).2 + d) v back
      → Opd K 𝓛 Γ E (copy (place i (field k ∷ []))) v
  part t n e p = load t (from t (fld t e (stop t))) (look_in t n p)

  module _ {C : Calls 𝓤 H} {Λ : Loops 𝓤 H} {q : Post 𝓤 H} where
    -- a local that is empty, whose cell is entry n, is set; and a call's result is put there
    pub sets : K → (n : ℕ) {i : ℕ} {rv : RValue} {rest : Body} {v : Val} → Rv K 𝓛 Γ E rv v
        → nth 𝓛 n Γ ≡ ‵ (froom (spot_of 𝓤 H E i).0 (spot_of 𝓤 H E i).1 (spot_of 𝓤 H E i).2)
        → T (has_ty (spot_of 𝓤 H E i).0 v) × WT v
        → Step K 𝓛 (put 𝓛 n (‵ (fat full_share (spot_of 𝓤 H E i).0 (spot_of 𝓤 H E i).1 (spot_of 𝓤 H E i).2 v)) Γ)
        (runs C Λ E rest q) Γ (runs C Λ E (seq (assign (place i []) rv) rest) q)
    sets t n r e ty = assigns t r (from t (stop t)) (init t n e ty)

    pub puts : K → (n : ℕ) {i : ℕ} {rest : Body} {v : Val}
        → nth 𝓛 n Γ ≡ ‵ (froom (spot_of 𝓤 H E i).0 (spot_of 𝓤 H E i).1 (spot_of 𝓤 H E i).2)
        → T (has_ty (spot_of 𝓤 H E i).0 v) × WT v
        → Step K 𝓛 (put 𝓛 n (‵ (fat full_share (spot_of 𝓤 H E i).0 (spot_of 𝓤 H E i).1 (spot_of 𝓤 H E i).2 v)) Γ)
        (runs C Λ E rest q) Γ (lands C Λ E (place i []) v rest q)
    puts t n e ty = land t (from t (stop t)) (init t n e ty)

    pub tests : K → {c : Operand} {n : ℕ} {b : Body} {y : Bool} → Opd K 𝓛 Γ E c (vbool y)
        → (T y → Seq K 𝓛 Γ (runs C Λ E b q)) → (T (not y) → Seq K 𝓛 Γ (prop (post 𝓤 H q (exits n))))
        → Seq K 𝓛 Γ (runs C Λ E (seq (cond c skip (exit n)) b) q)
    tests t {y = true} o on off = stays t o $ on tt
    tests t {y = false} o on off = leaves_loop t o $ off tt

  pub puts_last : K → (n : ℕ) {q : Post 𝓤 H} {i : ℕ} {v : Val}
      → nth 𝓛 n Γ ≡ ‵ (froom (spot_of 𝓤 H E i).0 (spot_of 𝓤 H E i).1 (spot_of 𝓤 H E i).2)
      → T (has_ty (spot_of 𝓤 H E i).0 v) × WT v
      → Step K 𝓛 (put 𝓛 n (‵ (fat full_share (spot_of 𝓤 H E i).0 (spot_of 𝓤 H E i).1 (spot_of 𝓤 H E i).2 v)) Γ)
      (prop (post 𝓤 H q next)) Γ (settles E (place i []) v q)
  puts_last t n e ty = land_last t (from t (stop t)) (init t n e ty)

-- ---- a loop whose turns bring a number down
module _ {M : Type 1} {𝓤 : Ura M} (𝓛 : Logic 𝓤) (𝓣 : Tables 𝓤 𝓛.H) {X : Type 0} (left : X → ℕ)
    (At : X → List (Item 𝓤)) where
  open 𝓛 use {H}

  abbrev pub Fewer : X → X → Type 0
  Fewer t s = left t < left s

  module _ (E : Env 𝓤 H) (rest : Body) (Post : Val → SProp 𝓤) where
    -- a turn's postcondition: it ends with fewer left, or the loop is left and the rest of the body runs
    abbrev pub Turned : X → Out → SProp 𝓤
    Turned s = after_turn 𝓤 H (Below 𝓛 Fewer At s)
        (after_block 𝓤 H (after_seq 𝓤 H (Wp 𝓤 H 𝓣.C 𝓣.Λ E rest (at_return 𝓤 H E Post)) (at_return 𝓤 H E Post)))

module _ {M : Type 1} {𝓤 : Ura M} {𝓛 : Logic 𝓤} {K : Type 0} {X : Type 0} where
  open 𝓛 use {H}

  pub turns_on : K → (𝓣 : Tables 𝓤 H) (left : X → ℕ) (At : X → List (Item 𝓤)) (E : Env 𝓤 H) {b : Body} (rest : Body)
      (Post : Val → SProp 𝓤)
      → ((s : X) → Seq K 𝓛 (At s) (runs 𝓣.C 𝓣.Λ E b (any_q (Turned 𝓛 𝓣 left At E rest Post s))))
      → (s : X) → Seq K 𝓛 (At s) (runs 𝓣.C 𝓣.Λ E (seq (block (loop b)) rest) (at_ret E Post))
  turns_on t 𝓣 left At E rest Post turns s =
      first t $ blocks t $ loops t 𝓣 (λ u v. left u < left v) (InvImage.wf left lt-wf_rel.wf) At turns s
