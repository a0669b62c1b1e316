-- The elements of an array that lie in memory are the first k and the others, each way: what lending a part `&a[..k]`
-- of a local array comes to. The kit has it inside the rule for a part of a slice. Assumes nothing. Both laws take
-- `Logic`.
use mathlib.Core.Path.{◌≡◌, refl, sym}
use Prim.Native.Nat.{ℕ}
use mathlib.Core.List.{List, [], ◌∷◌, ◌++◌}
use lib.ListN.{length, take, drop, take-append-drop}
use seplogic.Ra.Ura.{Ura}
use base.Logic.{ent, sep}
use base.Fml.{Share, Fml}
use types.Logic.{Logic, sem}
use types.Kit.{‵, ◌⊛◌, ◌$◌, ◌∵◌, !, qed, use1, use2, drop as toss, rewrite, split, fsplit, fjoin, feq_i, done}
use types.SemTy.{cells}
use types.Share.{arr_parts}
use denote.RattleType.{RattleType}
use denote.Memory.{mem, shares}
use borrow.Table.Elements.{at, cut_app, join_app}
use borrow.Rule.Slice.Shared.{Sh, parts-cells}

-- the share s of n elements, as it is lent
abbrev pub elements : (R : RattleType) → Share → ℕ → List R.Denot → ℕ → ℕ → Fml
elements R s n xs b o = (arr_parts (shares R) n).part s xs b o

-- that of the elements after the first k, where they begin
abbrev pub others : (R : RattleType) → Share → ℕ → List R.Denot → ℕ → ℕ → Fml
others R s k xs b o = cells (Sh R s) (drop k xs) b (at o (mem R).size (length (take k xs)))

module _ {M : Type 1} {𝓤 : Ura M} (𝓛 : Logic 𝓤) (R : RattleType) (s : Share) (n k : ℕ)
    (xs : List R.Denot) (b o : ℕ) where
  pub first_apart : ent 𝓤 (sem 𝓛 (elements R s n xs b o))
      (sep 𝓤 (sem 𝓛 (elements R s (length (take k xs)) (take k xs) b o)) (sem 𝓛 (others R s k xs b o)))
  first_apart =
      qed 𝓛 (‵ (elements R s n xs b o) ∷ []) ∵ fsplit ! $ toss !
      $ rewrite ! 0 (λ (F : Fml). ‵ F) (parts-cells R s xs b o) refl
      $ rewrite ! 0 (λ (ys : List R.Denot). ‵ (cells (Sh R s) ys b o)) (sym (take-append-drop k xs)) refl
      $
      use1 𝓛 (‵ (cells (Sh R s) (take k xs) b o) ⊛ ‵ (others R s k xs b o))
      (cut_app 𝓛 (Sh R s) (take k xs) (drop k xs) b o) $ split ! $
      rewrite ! 0 (λ (F : Fml). ‵ F) (sym (parts-cells R s (take k xs) b o)) refl
      $ feq_i ! ℕ (length (take k xs)) (length (take k xs)) refl $ fjoin ! $ done !

  pub first_back : length xs ≡ n → ent 𝓤
      (sep 𝓤 (sem 𝓛 (elements R s (length (take k xs)) (take k xs) b o)) (sem 𝓛 (others R s k xs b o)))
      (sem 𝓛 (elements R s n xs b o))
  first_back l =
      qed 𝓛 (‵ (elements R s (length (take k xs)) (take k xs) b o) ∷ ‵ (others R s k xs b o) ∷ [])
      ∵ fsplit ! $ toss ! $ rewrite ! 0 (λ (F : Fml). ‵ F) (parts-cells R s (take k xs) b o) refl $
      use2 𝓛 (‵ (cells (Sh R s) (take k xs ++ drop k xs) b o)) (join_app 𝓛 (Sh R s) (take k xs) (drop k xs) b o) $
      rewrite ! 0 (λ (ys : List R.Denot). ‵ (cells (Sh R s) ys b o)) (take-append-drop k xs) refl
      $ rewrite ! 0 (λ (F : Fml). ‵ F) (sym (parts-cells R s xs b o)) refl $
      feq_i ! ℕ (length xs) n l $ fjoin ! $ done !
