-- A function is entered, calls, and ends: all of its parameters, tokens and locals at once. Assumes nothing.
--     Has, Hass        how what a parameter owns comes to a call: it is held (`had`), or it is data (`made`); for all
--     values, given    the machine values that are passed; and what is held, before the rest of a context
--     tokens           a token for each lifetime, before the rest of a context
--     tokens_join, tokens_split, owns_join, owns_split    those entries, for what they come to together, and back
--     makes            what data owns is had for nothing
--     copied, copied_ref    what is shared is had twice
--     calls, calls_last    a call of a function T with the clauses c. The context begins with the tokens and with
--                      what is held of the parameters; afterwards with the tokens, and what is left of the
--                      parameters. The result is data, so its machine value is written out
--     env, stand       a function's locals ls at the places l 0, l 1, ..; and each with the value that it holds
--     enters           from the entry to the first statement: the locals, the tokens, what is held
--     freed, returned  every local is emptied and freed; the result is set and returned
-- The laws take `Logic`.
use types.Logic.{Logic, sem}
use denote.Ref.{Bor}
use Rattle.walks.proofs.Kit.{refl, sym, ap, subst, ℕ, suc, List, [], ◌∷◌, Ura, full_share, Val, SProp, ent, sep}
use Rattle.walks.proofs.Kit.{emp, id⊢, via, snd∗, flft, froom, fdies, Heap, Env, Calls, Loops, fact}
use Rattle.walks.proofs.Kit.{Lfts, AllOutlive, Item, ‵, raw, ◌⊛◌, ⋆, some, later, ◌$◌, by, move, drop}
use Rattle.walks.proofs.Kit.{use1, split, pick, await, forget, free0, free1, alloc0, alloc1, FmC, RattleType}
use Rattle.walks.proofs.Kit.{owns, Is, shows, only, heard, peeks, Triple, calls_at, calls_at_last, Args}
use Rattle.walks.proofs.Kit.{Contract, triple_of, Lasts, lasts, runs, T, has_ty, WT, WpFn, Sq, at_ret, on_entry, Lft}
use Rattle.walks.proofs.Kit.{ShrSlice, ShrRef, shr_slice_copy, shr_copy, qed, ◌∵◌, !, enter}
use mathlib.Core.Option.{Option, none, some as just}
use Prim.Native.Nat.{zero}
use mir.Syntax.{Callee as Name, Fn, Lifetime, Place, place, assign, return, Opd as Operand, Rv as RValue, Body, Local}
use mir.Syntax.{local, seq}
use mir.Syntax.{call}
use base.Logic.{comm∗, assoc∗, assoc', mono_l, mono_r, emp∗, wand, wand_i, guard_i}
use prog.Wp.{pass, params}
use types.Kit.{Goal, prop, Post, Soaks, Seq, Step, step, allocs, frees, lands, settles, mean, push, pop}
use types.Run.{Opds, Rv, returns, look}
use contract.Lifetimes.{Shares, toks}
use denote.RattleType.{Denots, Valss, flat, RowLaws}
use denote.Laws.{Copy}
use denote.Signature.{Signature, type_at, types_at}
use denote.Triple.Entry.{Res}
use denote.Triple.Clauses.{Ended, Clauses, at_exit, closing}
use Rattle.walks.proofs.Walking.{room, full, sets}
use Rattle.walks.proofs.Data.{Data}

-- how what a parameter owns comes to a call: it is held, at its machine values, or it is data, which is made
pub data Has (R : RattleType) (x : R.Denot) : Type 2 where
  had : List Val → Has R x
  made : (d : Data R) → Is R x (d.val x ∷ []) → Has R x

abbrev pub its : {R : RattleType} {x : R.Denot} → Has R x → List Val
its {R} {x} (had vs) = vs
its {R} {x} (made d is) = d.val x ∷ []

abbrev pub Hass : (Rs : List RattleType) → Denots Rs → Type 2
Hass [] a = Unit {2}
Hass (R ∷ Rs) a = Has R a.0 × Hass Rs a.1

abbrev pub values : (Rs : List RattleType) (a : Denots Rs) → Hass Rs a → Valss Rs
values [] a hs = tt
values (R ∷ Rs) a hs = (its hs.0, values Rs a.1 hs.1)

module _ {M : Type 1} {𝓤 : Ura M} where
  abbrev pub given1 : {R : RattleType} {x : R.Denot} → Has R x → List (Item 𝓤) → List (Item 𝓤)
  given1 {R} {x} (had vs) Γ = ‵ (R.own_val x vs) ∷ Γ
  given1 {R} {x} (made d is) Γ = Γ

  -- what is held of the parameters, and then Γ
  abbrev pub given : (Rs : List RattleType) (a : Denots Rs) → Hass Rs a → List (Item 𝓤) → List (Item 𝓤)
  given [] a hs Γ = Γ
  given (R ∷ Rs) a hs Γ = given1 hs.0 (given Rs a.1 hs.1 Γ)

  -- a token for each lifetime, and then Γ
  abbrev pub tokens : (n : ℕ) → Lfts n → Shares n → List (Item 𝓤) → List (Item 𝓤)
  tokens zero κs qs Γ = Γ
  tokens (suc n) κs qs Γ = ‵ (flft κs.0 qs.0) ∷ tokens n κs.1 qs.1 Γ

module _ {M : Type 1} {𝓤 : Ura M} (𝓛 : Logic 𝓤) where
  open 𝓛 use {A}

  tokens_in : (n : ℕ) (κs : Lfts n) (qs : Shares n) (Γ : List (Item 𝓤))
      → ent 𝓤 (⋆ 𝓛 (tokens n κs qs Γ)) (sep 𝓤 (toks 𝓛 n κs qs) (⋆ 𝓛 Γ))
  tokens_in zero κs qs Γ = emp∗ 𝓤 (⋆ 𝓛 Γ)
  tokens_in (suc n) κs qs Γ =
      let P : SProp 𝓤 = A.lft κs.0 qs.0 in
      via 𝓤 (sep 𝓤 P (⋆ 𝓛 (tokens n κs.1 qs.1 Γ)))
      (pop 𝓛 (‵ (flft κs.0 qs.0)) (tokens n κs.1 qs.1 Γ))
      (via 𝓤 (sep 𝓤 P (sep 𝓤 (toks 𝓛 n κs.1 qs.1) (⋆ 𝓛 Γ)))
      (mono_r 𝓤 P (tokens_in n κs.1 qs.1 Γ)) (assoc' 𝓤 P (toks 𝓛 n κs.1 qs.1) (⋆ 𝓛 Γ)))

  tokens_out : (n : ℕ) (κs : Lfts n) (qs : Shares n) (Γ : List (Item 𝓤))
      → ent 𝓤 (sep 𝓤 (toks 𝓛 n κs qs) (⋆ 𝓛 Γ)) (⋆ 𝓛 (tokens n κs qs Γ))
  tokens_out zero κs qs Γ = snd∗ 𝓤 (emp 𝓤) (⋆ 𝓛 Γ)
  tokens_out (suc n) κs qs Γ =
      let P : SProp 𝓤 = A.lft κs.0 qs.0 in
      via 𝓤 (sep 𝓤 P (sep 𝓤 (toks 𝓛 n κs.1 qs.1) (⋆ 𝓛 Γ)))
      (assoc∗ 𝓤 P (toks 𝓛 n κs.1 qs.1) (⋆ 𝓛 Γ))
      (via 𝓤 (sep 𝓤 P (⋆ 𝓛 (tokens n κs.1 qs.1 Γ))) (mono_r 𝓤 P (tokens_out n κs.1 qs.1 Γ))
      (push 𝓛 (‵ (flft κs.0 qs.0)) (tokens n κs.1 qs.1 Γ)))

  one_in : {R : RattleType} {x : R.Denot} (h : Has R x) (Γ : List (Item 𝓤))
      → ent 𝓤 (⋆ 𝓛 (given1 h Γ)) (sep 𝓤 (sem 𝓛 (R.own_val x (its h))) (⋆ 𝓛 Γ))
  one_in {R} {x} (had vs) Γ = pop 𝓛 (‵ (R.own_val x vs)) Γ
  one_in {R} {x} (made d is) Γ =
      via 𝓤 (sep 𝓤 (emp 𝓤) (⋆ 𝓛 Γ)) (emp∗ 𝓤 (⋆ 𝓛 Γ))
      (mono_l 𝓤 (⋆ 𝓛 Γ) (d.makes 𝓛 x (d.val x ∷ []) is))

  one_out : {R : RattleType} {x : R.Denot} (h : Has R x) (Γ : List (Item 𝓤))
      → ent 𝓤 (sep 𝓤 (sem 𝓛 (R.own_val x (its h))) (⋆ 𝓛 Γ)) (⋆ 𝓛 (given1 h Γ))
  one_out {R} {x} (had vs) Γ = push 𝓛 (‵ (R.own_val x vs)) Γ
  one_out {R} {x} (made d is) Γ = snd∗ 𝓤 (sem 𝓛 (R.own_val x (d.val x ∷ []))) (⋆ 𝓛 Γ)

  given_in : (Rs : List RattleType) (a : Denots Rs) (hs : Hass Rs a) (Γ : List (Item 𝓤))
      → ent 𝓤 (⋆ 𝓛 (given Rs a hs Γ)) (sep 𝓤 (sem 𝓛 (owns Rs a (values Rs a hs))) (⋆ 𝓛 Γ))
  given_in [] a hs Γ = emp∗ 𝓤 (⋆ 𝓛 Γ)
  given_in (R ∷ Rs) a hs Γ =
      let P : SProp 𝓤 = sem 𝓛 (R.own_val a.0 (its hs.0)) in
      let Q : SProp 𝓤 = sem 𝓛 (owns Rs a.1 (values Rs a.1 hs.1)) in
      via 𝓤 (sep 𝓤 P (⋆ 𝓛 (given Rs a.1 hs.1 Γ))) (one_in hs.0 (given Rs a.1 hs.1 Γ))
      (via 𝓤 (sep 𝓤 P (sep 𝓤 Q (⋆ 𝓛 Γ))) (mono_r 𝓤 P (given_in Rs a.1 hs.1 Γ)) (assoc' 𝓤 P Q (⋆ 𝓛 Γ)))

  given_out : (Rs : List RattleType) (a : Denots Rs) (hs : Hass Rs a) (Γ : List (Item 𝓤))
      → ent 𝓤 (sep 𝓤 (sem 𝓛 (owns Rs a (values Rs a hs))) (⋆ 𝓛 Γ)) (⋆ 𝓛 (given Rs a hs Γ))
  given_out [] a hs Γ = snd∗ 𝓤 (emp 𝓤) (⋆ 𝓛 Γ)
  given_out (R ∷ Rs) a hs Γ =
      let P : SProp 𝓤 = sem 𝓛 (R.own_val a.0 (its hs.0)) in
      let Q : SProp 𝓤 = sem 𝓛 (owns Rs a.1 (values Rs a.1 hs.1)) in
      via 𝓤 (sep 𝓤 P (sep 𝓤 Q (⋆ 𝓛 Γ))) (assoc∗ 𝓤 P Q (⋆ 𝓛 Γ))
      (via 𝓤 (sep 𝓤 P (⋆ 𝓛 (given Rs a.1 hs.1 Γ))) (mono_r 𝓤 P (given_out Rs a.1 hs.1 Γ))
      (one_out hs.0 (given Rs a.1 hs.1 Γ)))

-- the first entries of a context, for what they come to together, and back
module _ {M : Type 1} {𝓤 : Ura M} {𝓛 : Logic 𝓤} {K : Type 0} {Γ : List (Item 𝓤)}
    {G : Goal 𝓤 𝓛.H} where
  pub tokens_join : K → (n : ℕ) (κs : Lfts n) (qs : Shares n)
      → Step K 𝓛 (raw (toks 𝓛 n κs qs) ∷ Γ) G (tokens n κs qs Γ) G
  tokens_join t n κs qs = step (λ s. by t
      (via 𝓤 (sep 𝓤 (toks 𝓛 n κs qs) (⋆ 𝓛 Γ)) (tokens_in 𝓛 n κs qs Γ)
      (via 𝓤 (⋆ 𝓛 (raw (toks 𝓛 n κs qs) ∷ Γ)) (push 𝓛 (raw (toks 𝓛 n κs qs)) Γ) s.prf)))

  pub tokens_split : K → (n : ℕ) (κs : Lfts n) (qs : Shares n)
      → Step K 𝓛 (tokens n κs qs Γ) G (raw (toks 𝓛 n κs qs) ∷ Γ) G
  tokens_split t n κs qs = step (λ s. by t
      (via 𝓤 (sep 𝓤 (toks 𝓛 n κs qs) (⋆ 𝓛 Γ)) (pop 𝓛 (raw (toks 𝓛 n κs qs)) Γ)
      (via 𝓤 (⋆ 𝓛 (tokens n κs qs Γ)) (tokens_out 𝓛 n κs qs Γ) s.prf)))

  pub owns_join : K → (Rs : List RattleType) (a : Denots Rs) (hs : Hass Rs a)
      → Step K 𝓛 (‵ (owns Rs a (values Rs a hs)) ∷ Γ) G (given Rs a hs Γ) G
  owns_join t Rs a hs = step (λ s. by t
      (via 𝓤 (sep 𝓤 (sem 𝓛 (owns Rs a (values Rs a hs))) (⋆ 𝓛 Γ)) (given_in 𝓛 Rs a hs Γ)
      (via 𝓤 (⋆ 𝓛 (‵ (owns Rs a (values Rs a hs)) ∷ Γ)) (push 𝓛 (‵ (owns Rs a (values Rs a hs))) Γ) s.prf)))

  pub owns_split : K → (Rs : List RattleType) (a : Denots Rs) (hs : Hass Rs a)
      → Step K 𝓛 (given Rs a hs Γ) G (‵ (owns Rs a (values Rs a hs)) ∷ Γ) G
  owns_split t Rs a hs = step (λ s. by t
      (via 𝓤 (sep 𝓤 (sem 𝓛 (owns Rs a (values Rs a hs))) (⋆ 𝓛 Γ)) (pop 𝓛 (‵ (owns Rs a (values Rs a hs))) Γ)
      (via 𝓤 (⋆ 𝓛 (given Rs a hs Γ)) (given_out 𝓛 Rs a hs Γ) s.prf)))

-- what data owns is had for nothing
pub makes : {M : Type 1} {𝓤 : Ura M} {𝓛 : Logic 𝓤} {K : Type 0} {Γ : List (Item 𝓤)}
    {G : Goal 𝓤 𝓛.H}
    → K → {R : RattleType} (d : Data R) (x : R.Denot) → Is R x (d.val x ∷ [])
    → Step K 𝓛 (‵ (R.own_val x (d.val x ∷ [])) ∷ Γ) G Γ G
makes {M} {𝓤} {𝓛} {K} {Γ} {G} t {R} d x is =
    step (λ s. by t (via 𝓤 (sep 𝓤 (emp 𝓤) (⋆ 𝓛 Γ)) (emp∗ 𝓤 (⋆ 𝓛 Γ))
    (via 𝓤 (sep 𝓤 (sem 𝓛 (R.own_val x (d.val x ∷ []))) (⋆ 𝓛 Γ))
    (mono_l 𝓤 (⋆ 𝓛 Γ) (d.makes 𝓛 x (d.val x ∷ []) is))
    (via 𝓤 (⋆ 𝓛 (‵ (R.own_val x (d.val x ∷ [])) ∷ Γ)) (push 𝓛 (‵ (R.own_val x (d.val x ∷ []))) Γ) s.prf))))

-- what a shared slice, or a shared reference, owns, twice
module _ {M : Type 1} {𝓤 : Ura M} {𝓛 : Logic 𝓤} {K : Type 0} {Γ : List (Item 𝓤)}
    {G : Goal 𝓤 𝓛.H} where
  twice : K → (R : RattleType) → Copy 𝓛 R → (x : R.Denot) (vs : List Val)
      → Step K 𝓛 (‵ (R.own_val x vs) ∷ ‵ (R.own_val x vs) ∷ Γ) G (‵ (R.own_val x vs) ∷ Γ) G
  twice t R cp x vs = step (λ s. use1 𝓛 (‵ (R.own_val x vs) ⊛ ‵ (R.own_val x vs)) (cp.twice x vs) $ split t $ s)

  pub copied : K → (ℓ : Lifetime) (κ : Lft) (R : RattleType) → RowLaws R → (x : Bor (List R.Denot)) (vs : List Val)
      → Step K 𝓛 (‵ ((ShrSlice ℓ κ R).own_val x vs) ∷ ‵ ((ShrSlice ℓ κ R).own_val x vs) ∷ Γ) G
      (‵ ((ShrSlice ℓ κ R).own_val x vs) ∷ Γ) G
  copied t ℓ κ R laws = twice t (ShrSlice ℓ κ R) (shr_slice_copy 𝓛 ℓ κ R laws)

  pub copied_ref : K → (ℓ : Lifetime) (κ : Lft) (R : RattleType) → RowLaws R → (x : Bor R.Denot) (vs : List Val)
      → Step K 𝓛 (‵ ((ShrRef ℓ κ R).own_val x vs) ∷ ‵ ((ShrRef ℓ κ R).own_val x vs)
      ∷ Γ) G (‵ ((ShrRef ℓ κ R).own_val x vs) ∷ Γ) G
  copied_ref t ℓ κ R laws = twice t (ShrRef ℓ κ R) (shr_copy 𝓛 ℓ κ R laws)

-- a call of the function T, with the clauses c, at the lifetimes κs and the arguments a
module _ (T : Ended) (κs : Lfts T.signature.lifetimes) where
  abbrev pub Result : RattleType
  Result = type_at T.signature.result κs

  abbrev pub Types : List RattleType
  Types = types_at T.signature.params κs

module _ {M : Type 1} {𝓤 : Ura M} (𝓛 : Logic 𝓤) (T : Ended) (c : Clauses 𝓤 T) where
  abbrev pub Callee : Contract 𝓤
  Callee = triple_of 𝓛 T.signature (closing 𝓛 T c)

  abbrev pub At-call : (κs : Lfts T.signature.lifetimes) → Shares T.signature.lifetimes
      → AllOutlive T.signature.lifetimes T.signature.outlives κs → (a : Args T.signature κs)
      → Hass (Types T κs) a → (c κs a).ghost → Callee.Ghost
  At-call κs qs bounds a hs g = ((κs, qs, bounds, a, values (Types T κs) a hs), g)

module _ {M : Type 1} {𝓤 : Ura M} {𝓛 : Logic 𝓤} {K : Type 0} {Γ : List (Item 𝓤)}
    (T : Ended) (c : Clauses 𝓤 T) (κs : Lfts T.signature.lifetimes) (qs : Shares T.signature.lifetimes)
    (bounds : AllOutlive T.signature.lifetimes T.signature.outlives κs) (a : Args T.signature κs)
    (hs : Hass (Types T κs) a) (g : (c κs a).ghost) where
  open 𝓛 use {H}

  asks : {G : Goal 𝓤 H} → K → ent 𝓤 (emp 𝓤) ((c κs a).requires g)
      → Step K 𝓛 (raw ((Callee 𝓛 T c).pre (At-call 𝓛 T c κs qs bounds a hs g)) ∷ Γ) G
      (tokens T.signature.lifetimes κs qs (given (Types T κs) a hs Γ)) G
  asks t req =
      let n : ℕ = T.signature.lifetimes in
      let Rs : List RattleType = Types T κs in
      let P : SProp 𝓤 = toks 𝓛 n κs qs in
      let Q : SProp 𝓤 = sem 𝓛 (owns Rs a (values Rs a hs)) in
      let Z : SProp 𝓤 = ⋆ 𝓛 Γ in
      let Pre : SProp 𝓤 = sep 𝓤 (sep 𝓤 P Q) ((c κs a).requires g) in
      step (λ s. by t
      (via 𝓤 (sep 𝓤 P (⋆ 𝓛 (given Rs a hs Γ))) (tokens_in 𝓛 n κs qs (given Rs a hs Γ))
      (via 𝓤 (sep 𝓤 P (sep 𝓤 Q Z)) (mono_r 𝓤 P (given_in 𝓛 Rs a hs Γ))
      (via 𝓤 (sep 𝓤 (sep 𝓤 P Q) Z) (assoc' 𝓤 P Q Z)
      (via 𝓤 (sep 𝓤 Pre Z)
      (mono_l 𝓤 Z (via 𝓤 (sep 𝓤 (emp 𝓤) (sep 𝓤 P Q)) (emp∗ 𝓤 (sep 𝓤 P Q))
      (via 𝓤 (sep 𝓤 ((c κs a).requires g) (sep 𝓤 P Q)) (mono_l 𝓤 (sep 𝓤 P Q) req)
      (comm∗ 𝓤 ((c κs a).requires g) (sep 𝓤 P Q)))))
      (via 𝓤 (⋆ 𝓛 (raw Pre ∷ Γ)) (push 𝓛 (raw Pre) Γ) s.prf))))))

  gives : K → (G : Val → Goal 𝓤 H) → ((v : Val) → Soaks (G v)) → (d : Data (Result T κs))
      (φ : Res T.signature κs → Lasts T κs a → Type 0)
      → ((r : Res T.signature κs) (ws : Lasts T κs a)
      → ent 𝓤 ((c κs a).ensures g r (at_exit T κs a ws)) (fact 𝓤 (φ r ws)))
      → ((r : Res T.signature κs) (ws : Lasts T κs a) → φ r ws → Is (Result T κs) r (d.val r ∷ [])
      → Seq K 𝓛 (tokens T.signature.lifetimes κs qs (‵ (lasts T κs a ws) ∷ Γ)) (G (d.val r)))
      → (v : Val) → Seq K 𝓛 (raw ((Callee 𝓛 T c).post (At-call 𝓛 T c κs qs bounds a hs g) v) ∷ Γ) (G v)
  gives t G soaks d φ says k v =
      let n : ℕ = T.signature.lifetimes in
      let R : RattleType = Result T κs in
      use1 𝓛 (later (some (λ (r : Res T.signature κs). (raw (toks 𝓛 n κs qs) ⊛ ‵ (R.own_val r (v ∷ []))) ⊛
      some (λ (ws : Lasts T κs a). ‵ (lasts T κs a ws) ⊛ raw ((c κs a).ensures g r (at_exit T κs a ws)))))) (id⊢ 𝓤 _)
      $ await t (soaks v) $ pick t (λ r. split t $ move t (1 ∷ []) $ pick t (λ ws. split t $ move t (1 ∷ [])
      $ use1 𝓛 (raw (fact 𝓤 (φ r ws))) (says r ws) $ heard t (φ r ws) (λ e. move t (1 ∷ []) $ split t $ move t (1 ∷ [])
      $ peeks t R (Is R) (shows 𝓛 R) r (v ∷ []) (λ is. drop t $ tokens_split t n κs qs
      $ subst (λ (u : Val). Seq K 𝓛 (tokens n κs qs (‵ (lasts T κs a ws) ∷ Γ)) (G u))
      (sym (ap only (d.tells r (v ∷ []) is))) (k r ws e (subst (Is R r) (d.tells r (v ∷ []) is) is))))))

  module _ {E : Env 𝓤 H} {C : Calls 𝓤 H} {f : Name} {xs : List Operand} {Λ : Loops 𝓤 H} {q : Post 𝓤 H} {l : Place} where
    pub calls : K → FmC 𝓤 H 𝓛.laws C → {rest : Body} → Triple 𝓤 (C f) (Callee 𝓛 T c)
        → ent 𝓤 (emp 𝓤) ((c κs a).requires g)
        → Opds K 𝓛 (raw ((Callee 𝓛 T c).pre (At-call 𝓛 T c κs qs bounds a hs g)) ∷ Γ) E xs
        (flat (Types T κs) (values (Types T κs) a hs))
        → (d : Data (Result T κs)) (φ : Res T.signature κs → Lasts T κs a → Type 0)
        → ((r : Res T.signature κs) (ws : Lasts T κs a)
        → ent 𝓤 ((c κs a).ensures g r (at_exit T κs a ws)) (fact 𝓤 (φ r ws)))
        → ((r : Res T.signature κs) (ws : Lasts T κs a) → φ r ws → Is (Result T κs) r (d.val r ∷ [])
        → Seq K 𝓛 (tokens T.signature.lifetimes κs qs (‵ (lasts T κs a ws) ∷ Γ)) (lands C Λ E l (d.val r) rest q))
        → Seq K 𝓛 (tokens T.signature.lifetimes κs qs (given (Types T κs) a hs Γ))
        (runs C Λ E (seq (call f xs l) rest) q)
    calls t fm {rest} known req os d φ says k =
        asks t req $ calls_at t fm (Callee 𝓛 T c) known (At-call 𝓛 T c κs qs bounds a hs g) os
        (gives t (λ v. lands C Λ E l v rest q) (λ v. tt) d φ says k)

    pub calls_last : K → FmC 𝓤 H 𝓛.laws C → Triple 𝓤 (C f) (Callee 𝓛 T c)
        → ent 𝓤 (emp 𝓤) ((c κs a).requires g)
        → Opds K 𝓛 (raw ((Callee 𝓛 T c).pre (At-call 𝓛 T c κs qs bounds a hs g)) ∷ Γ) E xs
        (flat (Types T κs) (values (Types T κs) a hs))
        → (d : Data (Result T κs)) (φ : Res T.signature κs → Lasts T κs a → Type 0)
        → ((r : Res T.signature κs) (ws : Lasts T κs a)
        → ent 𝓤 ((c κs a).ensures g r (at_exit T κs a ws)) (fact 𝓤 (φ r ws)))
        → ((r : Res T.signature κs) (ws : Lasts T κs a) → φ r ws → Is (Result T κs) r (d.val r ∷ [])
        → Seq K 𝓛 (tokens T.signature.lifetimes κs qs (‵ (lasts T κs a ws) ∷ Γ)) (settles E l (d.val r) q))
        → Seq K 𝓛 (tokens T.signature.lifetimes κs qs (given (Types T κs) a hs Γ)) (runs C Λ E (call f xs l) q)
    calls_last t fm known req os d φ says k =
        asks t req $ calls_at_last t fm (Callee 𝓛 T c) known (At-call 𝓛 T c κs qs bounds a hs g) os
        (gives t (λ v. settles E l v q) (λ v. tt) d φ says k)

-- ---- locals: ls at the places l 0, l 1, .., each with the value that it holds, if any
module _ {M : Type 1} {𝓤 : Ura M} where
  abbrev pub env : (H : Heap 𝓤) → List Local → (ℕ → ℕ) → Env 𝓤 H
  env H [] l = []
  env H (local τ h ∷ ls) l = (τ, l 0) ∷ env H ls (λ i. l (suc i))

  abbrev pub stand : List Local → (ℕ → ℕ) → List (Option Val) → List (Item 𝓤) → List (Item 𝓤)
  stand [] l vs Γ = Γ
  stand (local τ h ∷ ls) l [] Γ = room τ (l 0) (stand ls (λ i. l (suc i)) [] Γ)
  stand (local τ h ∷ ls) l (none ∷ vs) Γ = room τ (l 0) (stand ls (λ i. l (suc i)) vs Γ)
  stand (local τ h ∷ ls) l (just v ∷ vs) Γ = full τ (l 0) v (stand ls (λ i. l (suc i)) vs Γ)

-- what a function is passed fits its locals
abbrev pub Fits : List Local → List Val → Type 0
Fits [] [] = Unit {0}
Fits [] (v ∷ vs) = ⊥
Fits (local τ h ∷ ls) [] = Unit {0}
Fits (local τ h ∷ ls) (v ∷ vs) = (T (has_ty τ v) × WT v) × Fits ls vs

-- those after the result
abbrev pub Suits : List Local → List Val → Type 0
Suits [] vs = ⊥
Suits (local τ h ∷ ls) vs = Fits ls vs

-- the result's local takes v
abbrev pub Takes : List Local → Val → Type 0
Takes [] v = ⊥
Takes (local τ h ∷ ls) v = T (has_ty τ v) × WT v

abbrev pub as_passed : List Val → List (Option Val)
as_passed [] = []
as_passed (v ∷ vs) = just v ∷ as_passed vs

-- l, behind b
abbrev behind : ℕ → (ℕ → ℕ) → ℕ → ℕ
behind b l zero = b
behind b l (suc i) = l i

module _ {M : Type 1} {𝓤 : Ura M} (𝓛 : Logic 𝓤) where
  open 𝓛 use {H}

  swap : (P Q R : SProp 𝓤) → ent 𝓤 (sep 𝓤 P (sep 𝓤 Q R)) (sep 𝓤 Q (sep 𝓤 P R))
  swap P Q R =
      via 𝓤 (sep 𝓤 (sep 𝓤 P Q) R) (assoc' 𝓤 P Q R)
      (via 𝓤 (sep 𝓤 (sep 𝓤 Q P) R) (mono_l 𝓤 R (comm∗ 𝓤 P Q)) (assoc∗ 𝓤 Q P R))

  -- an entry behind empty locals is brought before them
  brought : (ls : List Local) (l : ℕ → ℕ) (i : Item 𝓤) (Γ : List (Item 𝓤))
      → ent 𝓤 (⋆ 𝓛 (stand ls l [] (i ∷ Γ))) (sep 𝓤 (mean 𝓛 i) (⋆ 𝓛 (stand ls l [] Γ)))
  brought [] l i Γ = pop 𝓛 i Γ
  brought (local τ h ∷ ls) l i Γ =
      let P : SProp 𝓤 = H.room τ (l 0) zero in
      let Q : SProp 𝓤 = H.dies τ (l 0) in
      let I : SProp 𝓤 = mean 𝓛 i in
      let l' : ℕ → ℕ = λ j. l (suc j) in
      let Z : SProp 𝓤 = ⋆ 𝓛 (stand ls l' [] Γ) in
      via 𝓤 (sep 𝓤 P (sep 𝓤 Q (⋆ 𝓛 (stand ls l' [] (i ∷ Γ)))))
      (mono_r 𝓤 P (pop 𝓛 (‵ (fdies τ (l 0))) (stand ls l' [] (i ∷ Γ))))
      (via 𝓤 (sep 𝓤 P (sep 𝓤 Q (sep 𝓤 I Z))) (mono_r 𝓤 P (mono_r 𝓤 Q (brought ls l' i Γ)))
      (via 𝓤 (sep 𝓤 P (sep 𝓤 I (sep 𝓤 Q Z))) (mono_r 𝓤 P (swap Q I Z))
      (via 𝓤 (sep 𝓤 I (sep 𝓤 P (sep 𝓤 Q Z))) (swap P I (sep 𝓤 Q Z))
      (mono_r 𝓤 I (mono_r 𝓤 P (push 𝓛 (‵ (fdies τ (l 0))) (stand ls l' [] Γ)))))))

  -- the arguments are stored, and Q stays
  stored : (ls : List Local) (l : ℕ → ℕ) (vs : List Val) → Fits ls vs → (Q P : SProp 𝓤) (Γ : List (Item 𝓤))
      → ent 𝓤 (sep 𝓤 Q (⋆ 𝓛 (stand ls l (as_passed vs) Γ))) P
      → ent 𝓤 (sep 𝓤 Q (⋆ 𝓛 (stand ls l [] Γ))) (pass 𝓤 H (env H ls l) vs P)
  stored ls l [] fits Q P Γ h = h
  stored [] l (v ∷ vs) fits Q P Γ h = absurd fits
  stored (local τ h ∷ ls) l (v ∷ vs) fits Q P Γ go =
      let Rm : SProp 𝓤 = H.room τ (l 0) zero in
      let At : SProp 𝓤 = H.at full_share τ (l 0) zero v in
      let D : SProp 𝓤 = H.dies τ (l 0) in
      let l' : ℕ → ℕ = λ i. l (suc i) in
      let Z : SProp 𝓤 = ⋆ 𝓛 (stand ls l' [] Γ) in
      let Y : SProp 𝓤 = ⋆ 𝓛 (stand ls l' (as_passed vs) Γ) in
      let X : SProp 𝓤 = pass 𝓤 H (env H ls l') vs P in
      let B : SProp 𝓤 = ⋆ 𝓛 (‵ (fdies τ (l 0)) ∷ stand ls l' [] Γ) in
      via 𝓤 (sep 𝓤 Rm (sep 𝓤 Q B)) (swap Q Rm B)
      (via 𝓤 (sep 𝓤 Rm (wand 𝓤 At X))
      (mono_r 𝓤 Rm (wand_i 𝓤 (sep 𝓤 Q B) At X
      (via 𝓤 (sep 𝓤 (sep 𝓤 Q At) (sep 𝓤 D Z))
      (via 𝓤 (sep 𝓤 Q (sep 𝓤 B At)) (assoc∗ 𝓤 Q B At)
      (via 𝓤 (sep 𝓤 Q (sep 𝓤 At B)) (mono_r 𝓤 Q (comm∗ 𝓤 B At))
      (via 𝓤 (sep 𝓤 (sep 𝓤 Q At) B) (assoc' 𝓤 Q At B)
      (mono_r 𝓤 (sep 𝓤 Q At) (pop 𝓛 (‵ (fdies τ (l 0))) (stand ls l' [] Γ))))))
      (via 𝓤 (sep 𝓤 (sep 𝓤 (sep 𝓤 Q At) D) Z) (assoc' 𝓤 (sep 𝓤 Q At) D Z)
      (stored ls l' vs fits.1 (sep 𝓤 (sep 𝓤 Q At) D) P Γ
      (via 𝓤 (sep 𝓤 (sep 𝓤 Q At) (sep 𝓤 D Y)) (assoc∗ 𝓤 (sep 𝓤 Q At) D Y)
      (via 𝓤 (sep 𝓤 Q (sep 𝓤 At (sep 𝓤 D Y))) (assoc∗ 𝓤 Q At (sep 𝓤 D Y))
      (via 𝓤 (sep 𝓤 Q (⋆ 𝓛 (stand (local τ h ∷ ls) l (just v ∷ as_passed vs) Γ)))
      (mono_r 𝓤 Q (mono_r 𝓤 At (push 𝓛 (‵ (fdies τ (l 0))) (stand ls l' (as_passed vs) Γ)))) go))))))))
      (guard_i 𝓤 (T (has_ty τ v) × WT v) (sep 𝓤 Rm (wand 𝓤 At X)) fits.0))

  -- those after the result
  passes : (ls : List Local) (l : ℕ → ℕ) (vs : List Val) → Suits ls vs → (P : SProp 𝓤) (Γ : List (Item 𝓤))
      → ent 𝓤 (⋆ 𝓛 (stand ls l (none ∷ as_passed vs) Γ)) P
      → ent 𝓤 (⋆ 𝓛 (stand ls l [] Γ)) (params 𝓤 H (env H ls l) vs P)
  passes [] l vs fits P Γ go = absurd fits
  passes (local τ h ∷ ls) l vs fits P Γ go =
      let Rm : SProp 𝓤 = H.room τ (l 0) zero in
      let D : SProp 𝓤 = H.dies τ (l 0) in
      let l' : ℕ → ℕ = λ i. l (suc i) in
      let Z : SProp 𝓤 = ⋆ 𝓛 (stand ls l' [] Γ) in
      let Y : SProp 𝓤 = ⋆ 𝓛 (stand ls l' (as_passed vs) Γ) in
      via 𝓤 (sep 𝓤 Rm (sep 𝓤 D Z)) (mono_r 𝓤 Rm (pop 𝓛 (‵ (fdies τ (l 0))) (stand ls l' [] Γ)))
      (via 𝓤 (sep 𝓤 (sep 𝓤 Rm D) Z) (assoc' 𝓤 Rm D Z)
      (stored ls l' vs fits (sep 𝓤 Rm D) P Γ
      (via 𝓤 (sep 𝓤 Rm (sep 𝓤 D Y)) (assoc∗ 𝓤 Rm D Y)
      (via 𝓤 (sep 𝓤 Rm (⋆ 𝓛 (‵ (fdies τ (l 0)) ∷ stand ls l' (as_passed vs) Γ)))
      (mono_r 𝓤 Rm (push 𝓛 (‵ (fdies τ (l 0))) (stand ls l' (as_passed vs) Γ))) go))))

module _ {M : Type 1} {𝓤 : Ura M} {𝓛 : Logic 𝓤} {K : Type 0} where
  open 𝓛 use {H}

  pub allocates : K → (ls : List Local) {Γ : List (Item 𝓤)} {Kt : Env 𝓤 H → Goal 𝓤 H}
      → ((l : ℕ → ℕ) → Seq K 𝓛 (stand ls l [] Γ) (Kt (env H ls l))) → Seq K 𝓛 Γ (allocs ls Kt)
  allocates t [] k = alloc0 t $ k (λ i. i)
  allocates t (local τ h ∷ ls) {Γ} {Kt} k =
      alloc1 t (λ b. allocates t ls (λ l. by t
      (via 𝓤 (sep 𝓤 (H.room τ b 0) (⋆ 𝓛 (stand ls l [] (‵ (fdies τ b) ∷ Γ))))
      (brought 𝓛 ls l (‵ (froom τ b 0)) (‵ (fdies τ b) ∷ Γ))
      (via 𝓤 (sep 𝓤 (H.room τ b 0) (sep 𝓤 (H.dies τ b) (⋆ 𝓛 (stand ls l [] Γ))))
      (mono_r 𝓤 (H.room τ b 0) (brought 𝓛 ls l (‵ (fdies τ b)) Γ))
      (via 𝓤 (⋆ 𝓛 (stand (local τ h ∷ ls) (behind b l) [] Γ))
      (mono_r 𝓤 (H.room τ b 0) (push 𝓛 (‵ (fdies τ b)) (stand ls l [] Γ))) (k (behind b l)).prf)))))

  -- every local is emptied and freed
  pub freed : K → (ls : List Local) (l : ℕ → ℕ) (vs : List (Option Val)) (Γ : List (Item 𝓤)) {g : Goal 𝓤 H}
      → Step K 𝓛 Γ g (stand ls l vs Γ) (frees (env H ls l) g)
  freed t [] l vs Γ = free0 t
  freed t (local τ h ∷ ls) l [] Γ = step (λ s. free1 t $ freed t ls (λ i. l (suc i)) [] Γ $ s)
  freed t (local τ h ∷ ls) l (none ∷ vs) Γ = step (λ s. free1 t $ freed t ls (λ i. l (suc i)) vs Γ $ s)
  freed t (local τ h ∷ ls) l (just v ∷ vs) Γ =
      step (λ s. forget t 0 refl $ free1 t $ freed t ls (λ i. l (suc i)) vs Γ $ s)

  -- the result is set, and the function returns it
  pub returned : K → (ls : List Local) (l : ℕ → ℕ) (vs : List (Option Val)) (Γ : List (Item 𝓤)) {C : Calls 𝓤 H}
      {Λ : Loops 𝓤 H} {Post : Val → SProp 𝓤} {rv : RValue} {v : Val}
      → Rv K 𝓛 (stand ls l (none ∷ vs) Γ) (env H ls l) rv v → Takes ls v
      → Step K 𝓛 Γ (prop (Post v)) (stand ls l (none ∷ vs) Γ)
      (runs C Λ (env H ls l) (seq (assign (place 0 []) rv) return) (at_ret (env H ls l) Post))
  returned t [] l vs Γ r ty = absurd ty
  returned t (local τ h ∷ ls) l vs Γ {v = v} r ty =
      step (λ s. sets t 0 r refl ty $ returns t (look t 0 refl) $ freed t (local τ h ∷ ls) l (just v ∷ vs) Γ $ s)

-- a function that is entered: its locals, of which those after the result hold the arguments, the tokens, and what is
-- held of what it was passed
pub enters : {M : Type 1} {𝓤 : Ura M} (𝓛 : Logic 𝓤) (S : Signature)
    (κs : Lfts S.lifetimes) (qs : Shares S.lifetimes) (a : Args S κs) (hs : Hass (types_at S.params κs) a)
    (C : Calls 𝓤 𝓛.H) (Λ : Loops 𝓤 𝓛.H) (e : Fn) (vs : List Val) → Suits e.locals vs → (Post : Val → SProp 𝓤)
    → ((l : ℕ → ℕ) → Sq 𝓛
    (stand e.locals l (none ∷ as_passed vs) (tokens S.lifetimes κs qs (given (types_at S.params κs) a hs [])))
    (runs C Λ (env 𝓛.H e.locals l) e.body (at_ret (env 𝓛.H e.locals l) Post)))
    → ent 𝓤 (on_entry 𝓛 S κs qs a (values (types_at S.params κs) a hs)) (WpFn 𝓤 𝓛.H C Λ e vs Post)
enters {𝓤 = 𝓤} 𝓛 S κs qs a hs C Λ e vs fits Post go =
    let Rs : List RattleType = types_at S.params κs in
    let O : SProp 𝓤 = sem 𝓛 (owns Rs a (values Rs a hs)) in
    let P : SProp 𝓤 = toks 𝓛 S.lifetimes κs qs in
    via 𝓤 (sep 𝓤 P (⋆ 𝓛 (given Rs a hs [])))
    (mono_r 𝓤 P (via 𝓤 (sep 𝓤 O (emp 𝓤)) (via 𝓤 (sep 𝓤 (emp 𝓤) O) (emp∗ 𝓤 O) (comm∗ 𝓤 (emp 𝓤) O))
    (given_out 𝓛 Rs a hs [])))
    (via 𝓤 (⋆ 𝓛 (tokens S.lifetimes κs qs (given Rs a hs [])))
    (tokens_out 𝓛 S.lifetimes κs qs (given Rs a hs []))
    (qed 𝓛 (tokens S.lifetimes κs qs (given Rs a hs [])) ∵ enter ! C Λ e vs Post $ allocates ! e.locals
    (λ l. by ! (passes 𝓛 e.locals l vs fits _ (tokens S.lifetimes κs qs (given Rs a hs [])) (go l).prf))))
