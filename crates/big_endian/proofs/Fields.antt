-- The laws of fields, over the width: what a field that lies inside reads as and what writing one leaves, that reading
-- gives what was written (`field_written`) and writing what was read changes nothing (`written_field`); and what stands
-- at an offset, from what the list is from there on (`stands`, `stands_back`). Assumes nothing.
use Rattle.std.specs.Prelude.{◌≡◌, ◌∷◌, ◌++◌, ◌+◌, ◌-◌, ◌*◌, ◌/◌, ◌%◌, ◌^◌, ◌≤◌, ◌<◌}
use Rattle.lists.specs.Prelude.{sym, ap, ◌∙◌, true, false, List, [], append_assoc, ℕ, zero, suc, pow-suc}
use Rattle.lists.specs.Prelude.{pow-le-pow_right, lt_of_lt_of_le, div-div-eq-div-mul, div-one, add-one, sub-one, arith}
use Rattle.lists.specs.Prelude.{leb-true, le-leb, lt-leb, leb, length, get_or, take, drop, set, length-append}
use Rattle.lists.specs.Prelude.{drop_of_length-le, length-drop, take-append-drop, take-suc, drop-cons, get_or-drop}
use Rattle.lists.specs.Prelude.{drop-drop, take_at, drop_at, length-take-le}
use lib.Arith.{digits_lt}
use Rattle.lists.proofs.Tests.{test_cases}
use Rattle.big_endian.specs.Bytes.{value_of, bytes_of, IsByte, AreBytes}
use Rattle.lists.specs.Placed.{placed}
use Rattle.big_endian.specs.Fields.{lies, field_at, with_field}
use Rattle.lists.proofs.Tables.{length_part}
use Rattle.lists.proofs.ForAll.{forall_drop, forall_take}
use Rattle.lists.proofs.Placed.{placed_none, length_placed, store_before}
use Rattle.big_endian.proofs.Bytes.{power_pos, length_bytes, digit, value_bytes, value_bytes_fits, value_below}
use Rattle.big_endian.proofs.Bytes.{bytes_value, value_snoc}

-- ---- lying inside

pub lies_in : (size at count : ℕ) → count ≤ 8 → at + count ≤ size → lies size at count ≡ true
lies_in size at count h g = rw (le-leb count 8 h, le-leb (at + count) size g)

pub lies_long : (size at count : ℕ) → 8 < count → lies size at count ≡ false
lies_long size at count h = rw (lt-leb count 8 h)

pub lies_out : (size at count : ℕ) → count ≤ 8 → size < at + count → lies size at count ≡ false
lies_out size at count h g = rw (le-leb count 8 h, lt-leb (at + count) size g)

-- a field is one of `count` bytes of width 1
pub lies_room : (size at count : ℕ) → count ≤ 8 → leb (at + 1 * count) size ≡ lies size at count
lies_room size at count h = let one : 1 * count ≡ count = omega arith in rw (one, le-leb count 8 h)

pub lies_true : (size at count : ℕ) → lies size at count ≡ true → (count ≤ 8) × (at + count ≤ size)
lies_true size at count e =
    test_cases (leb count 8) (λ k. (leb-true count 8 k, leb-true (at + count) size (rw k at e)))
    (λ k. let z : false ≡ true = rw k at e in let o : ◌≡◌ {A = ℕ} 0 1 = cc in absurd (omega arith))

-- ---- reading

module _ (s : List ℕ) (at count : ℕ) where
  pub field_out : lies (length s) at count ≡ false → field_at s at count ≡ 0
  unfolding field_at
  field_out h = rw h

  pub field_is : lies (length s) at count ≡ true → field_at s at count ≡ value_of (take count (drop at s))
  unfolding field_at
  field_is h = rw h

  pub field_lies : count ≤ 8 → at + count ≤ length s → field_at s at count ≡ value_of (take count (drop at s))
  field_lies h g = field_is (lies_in (length s) at count h g)

part_are_bytes : (s : List ℕ) (at count : ℕ) → AreBytes s → AreBytes (take count (drop at s))
part_are_bytes s at count h = forall_take IsByte 0 count (drop at s) (omega arith) (forall_drop IsByte 0 at s h)

pub field_below : (s : List ℕ) (at count : ℕ) → AreBytes s → field_at s at count < 256 ^ count
field_below s at count h = test_cases (lies (length s) at count)
    (λ e. let inside = lies_true (length s) at count e in
    rw (field_is s at count e) (rw (length_part s at count inside.1) at
    (value_below (take count (drop at s)) (part_are_bytes s at count h))))
    (λ e. rw (field_out s at count e) (power_pos count))

-- a loop that has read i bytes reads one more
pub value_next : (s : List ℕ) (at i : ℕ) → at + i < length s
    → value_of (take (i + 1) (drop at s)) ≡ value_of (take i (drop at s)) * 256 + get_or s (at + i) 0
value_next s at i h =
    let inside : i < length (drop at s) = omega (arith, length-drop at s) in
    rw (
      add-one i,
      take-suc (drop at s) i 0 inside,
      value_snoc (take i (drop at s)) (get_or (drop at s) i 0),
      get_or-drop at s i 0,
    )

-- and what it has read stays within 64 bits
pub below_next : (n i b : ℕ) → n < 256 ^ i → b < 256 → n * 256 + b < 256 ^ (i + 1)
below_next n i b h g = rw (add-one i, pow-suc 256 i) (digits_lt h g)

pub eight_fit : (n i : ℕ) → i ≤ 8 → n < 256 ^ i → n < 2 ^ 64
eight_fit n i h g = lt_of_lt_of_le g (pow-le-pow_right {n = 256} (omega arith) h)

-- ---- writing

module _ (s : List ℕ) (at count n : ℕ) where
  pub written_out : lies (length s) at count ≡ false → with_field s at count n ≡ s
  unfolding with_field
  written_out h = rw h

  pub written_is : lies (length s) at count ≡ true → with_field s at count n ≡ placed s at (bytes_of count n)
  unfolding with_field
  written_is h = rw h

  pub written_lies : count ≤ 8 → at + count ≤ length s → with_field s at count n ≡ placed s at (bytes_of count n)
  written_lies h g = written_is (lies_in (length s) at count h g)

-- a field that is put where there is room for it stands there
pub field_put : (ys last : List ℕ) (at count n : ℕ) → count ≤ 8 → at + count ≤ length ys
    → last ≡ with_field ys at count n → last ≡ placed ys at (bytes_of count n)
field_put ys last at count n h g e = e ∙ written_lies ys at count n h g

-- a loop that puts the digits in from the last to the first: those from k on stand
unfoldable pub put_from : List ℕ → ℕ → ℕ → ℕ → ℕ → List ℕ
put_from s at count n k = placed s (at + k) (drop k (bytes_of count n))

module _ (s : List ℕ) (at count n : ℕ) where
  left : (k : ℕ) → k ≤ count → length (drop k (bytes_of count n)) ≡ count - k
  left k h = length-drop k (bytes_of count n) ∙ ap (λ (m : ℕ). m - k) (length_bytes count n)

  pub put_none : s ≡ put_from s at count n count
  unfolding put_from
  put_none =
      let none : drop count (bytes_of count n) ≡ [] = drop_of_length-le (bytes_of count n) {i = count}
      (omega (arith, length_bytes count n)) in
      sym (rw none (placed_none s (at + count)))

  put_digit : (j : ℕ) → j < count → at + count ≤ length s
      → set (put_from s at count n (suc j)) (at + j) (n / 256 ^ (count - suc j) % 256) ≡ put_from s at count n j
  unfolding put_from
  put_digit j h g =
      let q : at + suc j ≡ suc (at + j) = omega arith in
      let here : n / 256 ^ (count - suc j) % 256 ∷ drop (suc j) (bytes_of count n) ≡ drop j (bytes_of count n) =
      ap (λ (b : ℕ). b ∷ drop (suc j) (bytes_of count n)) (sym (digit count n j h))
      ∙ sym (drop-cons (bytes_of count n) j 0 (omega (arith, length_bytes count n))) in
      rw q (store_before s (at + j) (drop (suc j) (bytes_of count n)) (n / 256 ^ (count - suc j) % 256)
      (omega (arith, left (suc j) h)) ∙ ap (placed s (at + j)) here)

  pub put_next : (k : ℕ) → 0 < k → k ≤ count → at + count ≤ length s
      → set (put_from s at count n k) (at + (k - 1)) (n / 256 ^ (count - k) % 256) ≡ put_from s at count n (k - 1)
  put_next zero h g room = absurd (omega arith)
  put_next (suc j) h g room = rw (sub-one (suc j)) (put_digit j g room)

  pub put_all : count ≤ 8 → at + count ≤ length s → put_from s at count n 0 ≡ with_field s at count n
  unfolding put_from
  put_all h g = let q : at + 0 ≡ at = omega arith in rw (q, written_lies s at count n h g)

  pub length_put : (k : ℕ) → k ≤ count → at + count ≤ length s → length (put_from s at count n k) ≡ length s
  unfolding put_from
  length_put k h g = length_placed s (at + k) (drop k (bytes_of count n)) (omega (arith, left k h))

-- what is left of a number after j digits, and after one more
pub digits_left : (n count k : ℕ) → 0 < k → k ≤ count → n / 256 ^ (count - k) / 256 ≡ n / 256 ^ (count - (k - 1))
digits_left n count k h g = let q : count - (k - 1) ≡ suc (count - k) = omega arith in rw (q, pow-suc 256 (count - k))
    (div-div-eq-div-mul n (256 ^ (count - k)) 256)

pub all_left : (n count : ℕ) → n ≡ n / 256 ^ (count - count)
all_left n count = let q : count - count ≡ 0 = omega arith in rw q (sym (div-one n))

-- ---- what stands at an offset

-- the `count` bytes of n at p, and t after them
pub record Stands (s : List ℕ) (p count n : ℕ) (t : List ℕ) : Type 0 where
  pub room : p + count ≤ length s
  pub value : field_at s p count ≡ n
  pub after : drop (p + count) s ≡ t

pub stands : (s : List ℕ) (p count n : ℕ) (t : List ℕ) → count ≤ 8 → n < 256 ^ count → 0 < count
    → drop p s ≡ bytes_of count n ++ t → Stands s p count n t
stands s p count n t h fit positive e =
    let k = length_bytes count n in
    let long : length (drop p s) ≡ count + length t = ap length e ∙ length-append (bytes_of count n) t
    ∙ ap (λ (m : ℕ). m + length t) k in
    let room : p + count ≤ length s = omega (arith, length-drop p s) in
    record {
      room = room;
      value = field_lies s p count h room ∙ ap value_of (ap (take count) e ∙ take_at (bytes_of count n) t count k)
          ∙ value_bytes_fits count n fit;
      after = sym (drop-drop count p s) ∙ ap (drop count) e ∙ drop_at (bytes_of count n) t count k;
    }

-- and back: the bytes of the number that is read
pub stands_back : (s : List ℕ) (p count : ℕ) → AreBytes s → count ≤ 8 → p + count ≤ length s
    → drop p s ≡ bytes_of count (field_at s p count) ++ drop (p + count) s
stands_back s p count bytes h g =
    let part = take count (drop p s) in
    let same : bytes_of count (field_at s p count) ≡ part =
    ap (bytes_of count) (field_lies s p count h g) ∙ ap (λ (k : ℕ). bytes_of k (value_of part))
    (sym (length_part s p count g)) ∙ bytes_value part (part_are_bytes s p count bytes) in
    sym (rw (same, ← drop-drop count p s) (take-append-drop count (drop p s)))

-- reading what was written
pub field_written : (s : List ℕ) (at count n : ℕ) → count ≤ 8 → at + count ≤ length s
    → field_at (with_field s at count n) at count ≡ n % 256 ^ count
unfolding placed
field_written s at count n h g =
    let bytes = bytes_of count n in
    let k = length_bytes count n in
    let rest = drop (at + length bytes) s in
    let front : length (take at s) ≡ at = length-take-le at s (omega arith) in
    let long : at + count ≤ length (take at s ++ (bytes ++ rest)) = omega (
      arith,
      length-append (take at s) (bytes ++ rest),
      length-append bytes rest,
    ) in
    rw (
      written_lies s at count n h g,
      append_assoc (take at s) bytes rest,
      field_lies (take at s ++ (bytes ++ rest)) at count h long,
      drop_at (take at s) (bytes ++ rest) at front,
      take_at bytes rest count k,
    )
    (value_bytes count n)

-- writing what was read
pub written_field : (s : List ℕ) (at count : ℕ) → AreBytes s → with_field s at count (field_at s at count) ≡ s
unfolding placed
written_field s at count bytes = test_cases (lies (length s) at count)
    (λ e. let inside = lies_true (length s) at count e in
    let digits = bytes_of count (field_at s at count) in
    written_is s at count (field_at s at count) e ∙ append_assoc (take at s) digits (drop (at + length digits) s)
    ∙ ap (λ (k : ℕ). take at s ++ (digits ++ drop (at + k) s)) (length_bytes count (field_at s at count))
    ∙ ap (λ (t : List ℕ). take at s ++ t) (sym (stands_back s at count bytes inside.0 inside.1))
    ∙ take-append-drop at s)
    (λ e. written_out s at count (field_at s at count) e)
