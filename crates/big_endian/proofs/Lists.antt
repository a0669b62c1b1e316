-- The laws of lists of fields, over the width and the reading or the bits: none, how many, one more, and one turn of a
-- loop that puts them one after another. Assumes nothing.
use Rattle.std.specs.Prelude.{◌≡◌, ◌∷◌, ◌++◌, ◌+◌, ◌*◌, ◌≤◌, ◌<◌}
use Rattle.lists.specs.Prelude.{refl, sym, ap, ◌∙◌, List, [], ℕ, suc, zero-add, mul_comm, add-one, arith, length}
use Rattle.lists.specs.Prelude.{get_or, take, take-suc, length-take-le}
use Rattle.lists.specs.Tables.{tab}
use Rattle.lists.specs.Placed.{placed}
use Rattle.lists.proofs.Tables.{length_tab, tab_ext, tab_shift, tab_snoc}
use Rattle.lists.proofs.Placed.{placed_none, length_placed, placed_on}
use Rattle.lists.proofs.Joined.{joined_none, joined_more, joined_one, joined_snoc, length_joined}
use Rattle.big_endian.specs.Bytes.{bytes_of}
use Rattle.big_endian.specs.Fields.{with_field}
use Rattle.big_endian.specs.Lists.{strided, field_bytes}
use Rattle.big_endian.proofs.Bytes.{length_bytes}
use Rattle.big_endian.proofs.Fields.{field_put}

-- ---- reading

module _ {A : Type 0} (f : ℕ → A) (w : ℕ) where
  pub strided_none : (at : ℕ) → strided f w at 0 ≡ []
  unfolding strided
  strided_none at = refl

  pub length_strided : (at n : ℕ) → length (strided f w at n) ≡ n
  unfolding strided
  length_strided at n = length_tab 0 n (λ k. f (at + k * w))

  -- one field more before the others, and behind them
  pub strided_more : (at n : ℕ) → strided f w at (suc n) ≡ f at ∷ strided f w (at + w) n
  unfolding strided
  strided_more at n =
      let here : at + 0 * w ≡ at = omega arith in
      rw here (ap (λ (l : List A). f at ∷ l)
      (tab_shift 0 n (λ k. f (at + k * w)) ∙ tab_ext 0 n (λ k. f (at + suc k * w)) (λ k. f (at + w + k * w))
      (λ k h. ap f (omega arith))))

  pub strided_snoc : (at n : ℕ) → strided f w at (suc n) ≡ strided f w at n ++ (f (at + n * w) ∷ [])
  unfolding strided
  strided_snoc at n = tab_snoc 0 n (λ k. f (at + k * w))
      ∙ ap (λ (k : ℕ). tab 0 n (λ k. f (at + k * w)) ++ (f (at + k * w) ∷ [])) (zero-add n)

-- ---- writing

-- a part more, where n bytes stand from `at` on
pub part_more : (out ys last a b : List ℕ) (at n p : ℕ) → ys ≡ placed out at a → length a ≡ n → p ≡ at + n
    → at + n + length b ≤ length out → last ≡ placed ys p b → last ≡ placed out at (a ++ b)
part_more out ys last a b at n p e g q h k = k ∙ rw (e, q) (placed_on out at n a b g h)

module _ {A : Type 0} (w : ℕ) (bits : A → ℕ) where
  abbrev bytes : A → List ℕ
  bytes x = bytes_of w (bits x)

  pub field_bytes_none : field_bytes w bits [] ≡ []
  unfolding field_bytes
  field_bytes_none = joined_none bytes

  pub field_bytes_more : (x : A) (xs : List A) → field_bytes w bits (x ∷ xs) ≡ bytes_of w (bits x)
      ++ field_bytes w bits xs
  unfolding field_bytes
  field_bytes_more = joined_more bytes

  pub length_field_bytes : (xs : List A) → length (field_bytes w bits xs) ≡ w * length xs
  unfolding field_bytes
  length_field_bytes xs = length_joined bytes w (λ x. length_bytes w (bits x)) xs ∙ mul_comm (length xs) w

  pub field_bytes_snoc : (xs : List A) (x : A) → field_bytes w bits (xs ++ (x ∷ [])) ≡ field_bytes w bits xs
      ++ bytes_of w (bits x)
  unfolding field_bytes
  field_bytes_snoc = joined_snoc bytes

  pub field_bytes_two : (a b : A) → field_bytes w bits (a ∷ b ∷ []) ≡ bytes_of w (bits a) ++ bytes_of w (bits b)
  unfolding field_bytes
  field_bytes_two a b = joined_more bytes a (b ∷ [])
      ∙ ap (λ (t : List ℕ). bytes_of w (bits a) ++ t) (joined_one bytes b)

  -- a loop that has put the first k elements from `at` on puts one more
  module _ (out : List ℕ) (at : ℕ) (xs : List A) where
    pub write_none : out ≡ placed out at (field_bytes w bits (take 0 xs))
    write_none = sym (ap (placed out at) field_bytes_none ∙ placed_none out at)

    some : (k : ℕ) → k ≤ length xs → length (field_bytes w bits (take k xs)) ≡ w * k
    some k h = length_field_bytes (take k xs) ∙ ap (λ (n : ℕ). w * n) (length-take-le k xs h)

    pub write_kept : (ys : List ℕ) (k : ℕ) → ys ≡ placed out at (field_bytes w bits (take k xs)) → k ≤ length xs
        → at + w * k ≤ length out → length ys ≡ length out
    write_kept ys k e h g = ap length e
        ∙ length_placed out at (field_bytes w bits (take k xs)) (omega (arith, some k h))

    pub write_more : (ys last : List ℕ) (d : A) (k : ℕ) → w ≤ 8 → ys ≡ placed out at (field_bytes w bits (take k xs))
        → k < length xs → at + w * k + w ≤ length out
        → last ≡ with_field ys (at + w * k) w (bits (get_or xs k d))
        → last ≡ placed out at (field_bytes w bits (take (k + 1) xs))
    write_more ys last d k small e h g f =
        let x = get_or xs k d in
        let long = write_kept ys k e (omega arith) (omega arith) in
        let more : field_bytes w bits (take k xs) ++ bytes_of w (bits x) ≡ field_bytes w bits (take (k + 1) xs) =
        sym (rw (add-one k, take-suc xs k d h) (field_bytes_snoc (take k xs) x)) in
        part_more out ys last (field_bytes w bits (take k xs)) (bytes_of w (bits x)) at (w * k) (at + w * k) e
        (some k (omega arith)) refl (omega (arith, length_bytes w (bits x)))
        (field_put ys last (at + w * k) w (bits x) small (omega arith) f)
        ∙ ap (placed out at) more
