-- Slices `&mut [T]` that a function was passed are lent again, one or two together, for the lifetime of a call, and
-- come back with lists as long. Assumes nothing.
--     Hold             a slice that was passed: the elements' type, the lifetime, the share of its token that the
--                      function has, and the reference itself. What changes is the list; the place, the count and so
--                               the machine value do not
--     loan h κ δ xs    a reference to that slice at the list xs, for a lifetime κ under a name δ.        mine h xs
--          the one that was passed, at xs
--     told h δ xs zs   what a call leaves of a loan that began at xs: zs is the last list, and is as long
--     Owed             the way back, for any last list, once the lifetime is over
--     lends_one        the law: of a slice that is held there comes a loan for a new lifetime ν, with its token, and
--                      `Owed`
--     takes_one        `Owed` at what the call has left: ν is ended, and the slice is held again, at its last list
--     BothOwed         the way back from two loans, for any two last lists: it takes the two halves of the lifetime's
--                      token, which are lent with the slices, and what is told of each
--     lends_both       the law: of two slices that are held there come two loans for a new lifetime ν, with its token
--                      halved between them, and `BothOwed`
--     takes_both       `BothOwed` at what the call has left: both slices are held again, at their last lists
-- That there is room is learned when a slice is lent, so it is not asked for at the end. The steps assume `Logic`.
use mathlib.Core.Path.{refl, sym, ap, subst, ◌∙◌}
use Prim.Native.Nat.{ℕ}
use mathlib.Core.List.{List, [], ◌∷◌}
use lib.ListN.{length}
use seplogic.Ra.Ura.{Ura}
use base.Fraction.{full_share}
use base.Fraction as Fraction
use mir.Syntax.{erased}
use mir.Val.{Val}
use base.Logic.{SProp, ent, sep, wand, all, all_e, id⊢, via, snd∗}
use base.Fml.{Lft, GName, Share, Fml, fsep, feq, flft, fdead, flent}
use types.Logic.{Logic, sem}
use types.Kit.{Goal, Soaks, Item, ‵, raw, ◌⊛◌, mean, some, later, Seq, Step, step, ◌$◌, ◌∵◌, !, qed, move}
use types.Kit.{use1, use2, use3, split, group, pick, rewrite, fsplit, fjoin, feq_l, frame, await, updating}
use types.Kit.{now as at_once, assume, apply, each, show, done}
use types.Tokens.{lft_new, lft_end}
use types.SemTy.{cells}
use denote.RattleType.{RattleType}
use denote.Shadow.{pure_l, pure_i}
use denote.Memory.{mem}
use denote.Ref.{MutBor}
use denote.Slice.{slice_val, MutSlice, Room, finally, mut_slice_at}
use denote.Lend.{Held, lends_slice, slice_back}
use denote.Index.{row, whole_out, whole_in, opens_slice, closes_slice}

pub record Hold : Type 2 where
  pub of : RattleType
  pub life : Lft
  pub share : Share
  pub passed : MutBor (List of.Denot)

abbrev Elems : Hold → Type 0
Elems h = List h.of.Denot

abbrev value : Hold → Val
value h = slice_val h.passed.ref_ptr (length h.passed.now)

abbrev pub refers : (h : Hold) → GName → Elems h → MutBor (Elems h)
refers h δ xs = record { ref_ptr = h.passed.ref_ptr; ghost_name = δ; now = xs }

abbrev pub loan : (h : Hold) → Lft → GName → Elems h → Fml
loan h κ δ xs = (MutSlice erased κ h.of).own_val (refers h δ xs) (value h ∷ [])

abbrev pub mine : (h : Hold) → Elems h → Fml
mine h xs = loan h h.life h.passed.ghost_name xs

abbrev pub told : (h : Hold) → GName → Elems h → Elems h → Fml
told h δ xs zs = fsep (finally h.of δ zs) (feq ℕ (length zs) (length xs))

-- a token's two halves
abbrev pub half : Share
half = Fraction.left full_share

abbrev pub rest : Share
rest = Fraction.right full_share

module _ {M : Type 1} {𝓤 : Ura M} (𝓛 : Logic 𝓤) where
  open 𝓛 use {H}

  abbrev held : (h : Hold) → Elems h → Item 𝓤
  held h xs = ‵ (flft h.life h.share) ⊛ ‵ (mine h xs)

  -- the way back of one slice, once the loan's lifetime is over
  abbrev Back : (h : Hold) → ℕ → GName → Elems h → Elems h → SProp 𝓤
  Back h ν δ xs zs = wand 𝓤 (mean 𝓛 (‵ (fdead (ν ∷ [])) ⊛ ‵ (told h δ xs zs))) (H.⇛ (mean 𝓛 (held h zs)))

  abbrev Lent : (h : Hold) → ℕ → Elems h → GName → Item 𝓤
  Lent h ν xs δ = ‵ (loan h (ν ∷ []) δ xs) ⊛ raw (all 𝓤 (Back h ν δ xs))

  lends : (h : Hold) (ν : ℕ) (xs : Elems h)
      → ent 𝓤 (mean 𝓛 (held h xs)) (mean 𝓛 (later (some (Lent h ν xs))))
  lends h ν xs =
      let E = h.of in
      let b = h.passed.ref_ptr.0 in
      let o = h.passed.ref_ptr.1 in
      let n = length xs in
      qed 𝓛 (held h xs ∷ []) ∵ updating ! $ split ! $ move ! (1 ∷ []) $ fsplit !
      $ pure_l ! (mut_slice_at E (refers h h.passed.ghost_name xs) (value h ∷ []))
      (λ fit. fsplit ! $ opens_slice ! tt E xs b o $
      use1 𝓛 (later
      (some (λ (δ : GName). ‵ ((MutSlice erased (ν ∷ []) E).own_val (refers h δ xs) (slice_val (b, o) n ∷ [])) ⊛ ‵
      (flent (ν ∷ []) (Held E n b o δ)))))
      (via 𝓤 (sem 𝓛 (cells (mem E) xs b o)) (whole_in 𝓛 E xs b o)
      (lends_slice 𝓛 E erased (ν ∷ []) xs b o fit.1)) $ await ! tt $ pick ! (λ δ.
      split ! $ rewrite ! 0 (λ (vs : List Val). ‵ ((MutSlice erased (ν ∷ []) E).own_val (refers h δ xs) vs))
      (sym fit.0) refl $ at_once ! $ show ! (λ (γ : GName). mean 𝓛 (Lent h ν xs γ)) δ $ frame !
      $ each ! (Back h ν δ xs) (λ zs.
      assume ! (‵ (fdead (ν ∷ [])) ⊛ ‵ (told h δ xs zs)) $ updating ! $ split ! $ move ! (1 ∷ []) $ fsplit !
      $ move ! (1 ∷ 2 ∷ 3 ∷ 0 ∷ []) $ feq_l ! (λ e.
      -- [the lifetime is over; the lender's part; the last list; the open borrow, and both halves of its name]
      use3 𝓛 (later (‵ (row E full_share zs b o)))
      (via 𝓤 _ (slice_back 𝓛 E (ν ∷ []) δ zs n b o)
      (𝓛.laws.⇛_mono _ _ (via 𝓤 (sem 𝓛 (cells (mem E) zs b o)) (snd∗ 𝓤 (sem 𝓛 (feq ℕ (length zs) n)) _)
      (whole_out 𝓛 E zs b o)))) $ await ! tt $
      closes_slice ! tt E xs zs e b o $ at_once ! $ move ! (2 ∷ []) $ frame ! $ fjoin ! $
      pure_i ! (mut_slice_at E (refers h h.passed.ghost_name zs) (value h ∷ [])) (tt, (tt, tt))
      (fit.0 ∙ ap (λ (m : ℕ). slice_val (b, o) m ∷ []) (sym e), subst (Room E) (sym e) fit.1) $ fjoin !
      $ done !))))

  pub Owed : (h : Hold) → ℕ → GName → Elems h → SProp 𝓤
  Owed h ν δ xs = all 𝓤 (Back h ν δ xs)

  module _ (h k : Hold) (ν : ℕ) (δ δ' : GName) (xs : Elems h) (ws : Elems k) where
    -- what the call leaves
    abbrev Left : Elems h × Elems k → Item 𝓤
    Left at = ‵ (flft (ν ∷ []) half) ⊛ ‵ (flft (ν ∷ []) rest) ⊛ ‵ (told h δ xs at.0) ⊛ ‵ (told k δ' ws at.1)

    abbrev Returns : Elems h × Elems k → SProp 𝓤
    Returns at = wand 𝓤 (mean 𝓛 (Left at)) (H.⇛ (mean 𝓛 (held h at.0 ⊛ held k at.1)))

    pub BothOwed : SProp 𝓤
    BothOwed = all 𝓤 Returns

    -- the token's halves are joined and the lifetime is ended, which each slice's way back asks
    owes : ent 𝓤 (sep 𝓤 (all 𝓤 (Back h ν δ xs)) (all 𝓤 (Back k ν δ' ws))) BothOwed
    unfolding BothOwed
    owes =
        let over = fdead (ν ∷ []) in
        qed 𝓛 (raw (all 𝓤 (Back h ν δ xs)) ∷ raw (all 𝓤 (Back k ν δ' ws)) ∷ []) ∵ each ! Returns (λ at.
        use1 𝓛 (raw (Back h ν δ xs at.0)) (all_e 𝓤 (Back h ν δ xs) at.0) $ move ! (1 ∷ [])
        $ use1 𝓛 (raw (Back k ν δ' ws at.1)) (all_e 𝓤 (Back k ν δ' ws) at.1) $
        assume ! (Left at) $ updating ! $ split ! $ move ! (1 ∷ []) $ split ! $ move ! (1 ∷ []) $ split ! $
        -- [what is told of h; of k; rest; half; the ways back of k and of h]
        move ! (3 ∷ 2 ∷ []) $ use2 𝓛 (‵ (flft (ν ∷ []) full_share)) (𝓛.lfts.lft_join (ν ∷ []) full_share) $ lft_end ! tt
        $ use1 𝓛 (‵ over ⊛ ‵ over) (𝓛.lfts.dead_dup (ν ∷ [])) $ split ! $
        move ! (0 ∷ 2 ∷ []) $ group ! 2 $ move ! (0 ∷ 4 ∷ []) $ apply ! $ use1 𝓛 (later (held h at.0)) (id⊢ 𝓤 _)
        $ await ! tt $
        move ! (1 ∷ 2 ∷ []) $ group ! 2 $ move ! (0 ∷ 2 ∷ []) $ apply ! $ use1 𝓛 (later (held k at.1)) (id⊢ 𝓤 _)
        $ await ! tt $ at_once ! $ move ! (1 ∷ 0 ∷ []) $ done !)

module _ {M : Type 1} {𝓤 : Ura M} {𝓛 : Logic 𝓤} {K : Type 0} {Γ : List (Item 𝓤)}
    {G : Goal 𝓤 𝓛.H} where
  pub lends_one : K → Soaks G → (h : Hold) (xs : Elems h)
      → ((ν : ℕ) (δ : GName) → Seq K 𝓛 (‵ (flft (ν ∷ []) full_share) ∷ ‵ (loan h (ν ∷ []) δ xs)
      ∷ raw (Owed 𝓛 h ν δ xs) ∷ Γ) G)
      → Seq K 𝓛 (‵ (flft h.life h.share) ∷ ‵ (mine h xs) ∷ Γ) G
  unfolding Owed
  lends_one t z h xs go =
      lft_new t z (λ ν. move t (1 ∷ 2 ∷ []) $ use2 𝓛 (later (some (Lent 𝓛 h ν xs))) (lends 𝓛 h ν xs)
      $ await t z $ pick t (λ δ. split t $ move t (2 ∷ 0 ∷ 1 ∷ []) $ go ν δ))

  pub takes_one : K → Soaks G → (h : Hold) (ν : ℕ) (δ : GName) (xs zs : Elems h)
      → Step K 𝓛 (‵ (flft h.life h.share) ∷ ‵ (mine h zs) ∷ Γ) G
      (‵ (flft (ν ∷ []) full_share) ∷ ‵ (told h δ xs zs) ∷ raw (Owed 𝓛 h ν δ xs) ∷ Γ) G
  unfolding Owed
  takes_one t z h ν δ xs zs = step (λ s.
      lft_end t z $ group t 2 $ move t (1 ∷ []) $ use1 𝓛 (raw (Back 𝓛 h ν δ xs zs))
      (all_e 𝓤 (Back 𝓛 h ν δ xs) zs) $ move t (1 ∷ []) $ apply t $
      use1 𝓛 (later (held 𝓛 h zs)) (id⊢ 𝓤 _) $ await t z $ split t $ s)

  pub lends_both : K → Soaks G → (h k : Hold) (xs : Elems h) (ws : Elems k)
      → ((ν : ℕ) (δ δ' : GName) → Seq K 𝓛 (‵ (flft (ν ∷ []) half) ∷ ‵ (flft (ν ∷ []) rest) ∷ ‵ (loan h (ν ∷ []) δ xs)
      ∷ ‵ (loan k (ν ∷ []) δ' ws) ∷ raw (BothOwed 𝓛 h k ν δ δ' xs ws) ∷ Γ) G)
      → Seq K 𝓛 (‵ (flft h.life h.share) ∷ ‵ (mine h xs) ∷ ‵ (flft k.life k.share) ∷ ‵ (mine k ws) ∷ Γ) G
  lends_both t z h k xs ws go =
      lft_new t z (λ ν. move t (1 ∷ 2 ∷ []) $ use2 𝓛 (later (some (Lent 𝓛 h ν xs))) (lends 𝓛 h ν xs)
      $ await t z $ pick t (λ δ. split t $
      move t (3 ∷ 4 ∷ []) $ use2 𝓛 (later (some (Lent 𝓛 k ν ws))) (lends 𝓛 k ν ws) $ await t z
      $ pick t (λ δ'. split t $
      -- [the loan of k; its way back; the loan of h; its way back; ν's token]
      move t (4 ∷ []) $ use1 𝓛 (‵ (flft (ν ∷ []) half) ⊛ ‵ (flft (ν ∷ []) rest)) (𝓛.lfts.lft_split (ν ∷ []) full_share)
      $ split t $
      move t (5 ∷ 3 ∷ []) $ use2 𝓛 (raw (BothOwed 𝓛 h k ν δ δ' xs ws)) (owes 𝓛 h k ν δ δ' xs ws)
      $ move t (1 ∷ 2 ∷ 4 ∷ 3 ∷ 0 ∷ []) $ go ν δ δ')))

  pub takes_both : K → Soaks G → (h k : Hold) (ν : ℕ) (δ δ' : GName) (xs : Elems h) (ws : Elems k) (zs : Elems h)
      (es : Elems k)
      → Step K 𝓛 (‵ (flft h.life h.share) ∷ ‵ (mine h zs) ∷ ‵ (flft k.life k.share) ∷ ‵ (mine k es) ∷ Γ) G
      (‵ (flft (ν ∷ []) half) ∷ ‵ (flft (ν ∷ []) rest) ∷ ‵ (told h δ xs zs) ∷ ‵ (told k δ' ws es)
      ∷ raw (BothOwed 𝓛 h k ν δ δ' xs ws) ∷ Γ) G
  unfolding BothOwed
  takes_both t z h k ν δ δ' xs ws zs es = step (λ s.
      group t 4 $ move t (1 ∷ []) $ use1 𝓛 (raw (Returns 𝓛 h k ν δ δ' xs ws (zs, es)))
      (all_e 𝓤 (Returns 𝓛 h k ν δ δ' xs ws) (zs, es)) $ move t (1 ∷ []) $ apply t $
      use1 𝓛 (later (held 𝓛 h zs ⊛ held 𝓛 k es)) (id⊢ 𝓤 _) $ await t z $ split t $ move t (1 ∷ []) $ split t
      $ move t (2 ∷ []) $ split t $ move t (0 ∷ 1 ∷ 2 ∷ 3 ∷ []) $ s)
