-- What the promises rule out: a number or an entry from elsewhere or of another width, more lent than there is, a place
-- behind another part, another layout, and a list that is filled though it does not lie inside. Assumes nothing.
use Rattle.std.specs.Prelude.{◌≡◌, ◌∷◌, ◌+◌, ◌-◌, ◌*◌, ◌^◌, ◌≤◌, ◌<◌}
use Rattle.lists.specs.Prelude.{sym, ap, ◌∙◌, List, [], ⊎_elim, ℕ, zero-add, arith, lt-leb, ne_eqb, ℤ, Float, of_bits}
use Rattle.lists.specs.Prelude.{length, get_or}
use lib.Ieee.Positive.{num}
use lib.Signed.{mag}
use Rattle.lists.proofs.Tests.{cond_false}
use Rattle.lists.proofs.Lists.{less_or_at_most}
use Rattle.lists.proofs.Tables.{get_or_tab}
use Rattle.big_endian.specs.Bytes.{value_of}
use Rattle.big_endian.specs.Fields.{field_at, signed_at, float_at}
use Rattle.big_endian.specs.Lists.{strided}
use Rattle.big_endian.proofs.Fields.{lies_out, lies_long, field_out, field_lies}
use Rattle.channel.specs.declared.Layout.{Layout}
use Rattle.channel.specs.declared.Layout.TheVariants.{Surround71, Custom}
use Rattle.probe_request.specs.Requests.{layout_of, eight_at, lent_by, place_in, word_at, list_at}
use Rattle.probe_request.proofs.Requests.{inside, place_there, place_beyond}

-- ---- numbers

-- a number that the arguments end inside of is read from the bytes that are there
cut_number : (args : List ℕ) (at count r : ℕ) → r ≡ field_at args at count → length args < at + count → 0 < r → ⊥
cut_number args at count r is short some = omega (arith, is ∙ ⊎_elim long out (less_or_at_most 8 count))
  where
    long : 8 < count → field_at args at count ≡ 0
    long h = field_out args at count (lies_long (length args) at count h)

    out : count ≤ 8 → field_at args at count ≡ 0
    out h = field_out args at count (lies_out (length args) at count h short)

-- eight bytes are read whatever is asked for, though not all of them are there
eight_bytes_always : (args : List ℕ) (at count : ℕ) → 0 < field_at args at count → length args < at + 8
    → field_at args at 8 ≡ field_at args at count → ⊥
eight_bytes_always args at count some short e = cut_number args at 8 (field_at args at count) (sym e) short some

-- the first byte is read in the place of the second, a larger one
from_the_start : (a b : ℕ) (rest : List ℕ) → a < b → field_at (a ∷ b ∷ rest) 0 1 ≡ field_at (a ∷ b ∷ rest) 1 1 → ⊥
unfolding value_of
from_the_start a b rest h e =
    omega (
      arith,
      e,
      field_lies (a ∷ b ∷ rest) 0 1 (omega arith) (omega arith),
      field_lies (a ∷ b ∷ rest) 1 1 (omega arith) (omega arith),
    )

-- ---- what is lent

module _ (args : List ℕ) (at most r : ℕ) where
  -- more is lent than there is
  more_than_there_is : (count : ℕ) → r ≡ lent_by args at count most → most < r → ⊥
  more_than_there_is count is h = omega arith

  -- the length is read from two bytes, though one is asked for and no other is there
  two_bytes_always : 0 < most → 0 < field_at args at 1 → length args < at + 2 → r ≡ lent_by args at 1 most
      → r ≡ lent_by args at 2 most → ⊥
  two_bytes_always room some short is two =
      let none : 0 < field_at args at 2 → ⊥ =
      cut_number args at 2 (field_at args at 2) (λ i. field_at args at 2) short in
      none (omega arith)

-- ---- places

module _ (args : List ℕ) (at width count r : ℕ) (is : r ≡ place_in (length args) (at + width * count)) where
  -- a list that lies inside ends where it begins
  behind_nothing : at + width * count ≤ length args → 0 < width * count → r ≡ at → ⊥
  behind_nothing whole some e = omega (arith, is, place_there (length args) (at + width * count) whole)

  -- one that does not is followed by what stands behind a part of it
  behind_a_part : length args < at + width * count → length args < 2 ^ 64 - 1 → r ≤ length args → ⊥
  behind_a_part out short h = omega (arith, is, place_beyond (length args) (at + width * count) out)

-- ---- layouts

-- 2 is taken for 7.1
other_surround : (n : ℕ) (r : Layout) → r ≡ layout_of 2 n → r ≡ Surround71 → ⊥
other_surround n r is e = let z : ◌≡◌ {A = ℕ} 0 1 = cc in omega arith

-- a Custom is one of its byte
custom_of_its_byte : (which n : ℕ) (r : Layout) → 3 < which → (which ≡ n → ⊥) → r ≡ layout_of which n → r ≡ Custom which
    → ⊥
custom_of_its_byte which n r h other is e =
    let custom : layout_of which n ≡ Custom n =
    cond_false _ _ (ne_eqb which 0 (λ e. omega arith)) ∙ cond_false _ _ (ne_eqb which 1 (λ e. omega arith))
    ∙ cond_false _ _ (ne_eqb which 2 (λ e. omega arith)) ∙ cond_false _ _ (ne_eqb which 3 (λ e. omega arith)) in
    let same : Custom which ≡ Custom n = sym e ∙ is ∙ custom in
    other (cc)

-- ---- numbers that stand one behind the other

strided_at : {A : Type 0} (f : ℕ → A) (w at n i : ℕ) (d : A) → i < n → get_or (strided f w at n) i d ≡ f (at + i * w)
unfolding strided
strided_at f w at n i d h = get_or_tab 0 n (λ k. f (at + k * w)) i d h ∙ ap (λ (k : ℕ). f (at + k * w)) (zero-add i)

-- ---- eight numbers

module _ (args : List ℕ) (at : ℕ) (r : List ℕ) (is : r ≡ eight_at args at) where
  number_is : (i : ℕ) → i < 8 → get_or r i 0 ≡ field_at args (at + i * 8) 8
  number_is i h = ap (λ (l : List ℕ). get_or l i 0) is ∙ strided_at (λ (p : ℕ). field_at args p 8) 8 at 8 i 0 h

  -- a number is read twice, the second time behind the end of the arguments
  read_twice : (i : ℕ) → i < 7 → length args < at + (i + 1) * 8 + 8 → 0 < field_at args (at + i * 8) 8
      → get_or r (i + 1) 0 ≡ get_or r i 0 → ⊥
  read_twice i h short some e = cut_number args (at + (i + 1) * 8) 8 (get_or r (i + 1) 0)
      (number_is (i + 1) (omega arith)) short (omega (arith, e, number_is i (omega arith)))

  -- the last is read from four bytes, where no more are there
  last_in_four_bytes : length args < at + 7 * 8 + 8 → 0 < field_at args (at + 7 * 8) 4
      → get_or r 7 0 ≡ field_at args (at + 7 * 8) 4 → ⊥
  last_in_four_bytes short some e =
      cut_number args (at + 7 * 8) 8 (get_or r 7 0) (number_is 7 (omega arith)) short (omega arith)

-- ---- lists, over the reading and the width

module _ {A : Type 0} (read : List ℕ → ℕ → A) (w : ℕ) (args : List ℕ) (at : ℕ) (list r : List A)
    (is : r ≡ list_at read w args at list) where
  -- a list that lies inside only in part is filled
  half_inside : length args < at + w * length list → (r ≡ list → ⊥) → ⊥
  unfolding list_at
  half_inside short other = other (is ∙ cond_false _ _ (lt-leb (at + w * length list) (length args) short))

  module _ (whole : at + w * length list ≤ length args) where
    -- an entry is not what stands in its place
    another_entry : (i : ℕ) (d : A) → i < length list → (get_or r i d ≡ read args (at + i * w) → ⊥) → ⊥
    another_entry i d h other = other (ap (λ (l : List A). get_or l i d) (inside read w args at list r is whole)
        ∙ strided_at (read args) w at (length list) i d h)

    -- entries are read v bytes apart, though the second is another one there
    apart : (v : ℕ) → 1 < length list → (read args (at + 1 * v) ≡ read args (at + 1 * w) → ⊥)
        → r ≡ strided (read args) v at (length list) → ⊥
    apart v h differs e =
        let d = read args at in
        let second : get_or r 1 d ≡ read args (at + 1 * v) = ap (λ (l : List A). get_or l 1 d) e
        ∙ strided_at (read args) v at (length list) 1 d h in
        another_entry 1 d h (λ p. differs (sym second ∙ p))

abbrev three : List ℕ
three = 0 ∷ 1 ∷ 0 ∷ 2 ∷ 0 ∷ 3 ∷ []

-- the azimuths 1 and 2, before a 3, are read four bytes apart
azimuths_four_apart : (list r : List ℤ) → length list ≡ 2 → r ≡ list_at signed_at 2 three 0 list
    → r ≡ strided (signed_at three) 4 0 (length list) → ⊥
unfolding signed_at field_at value_of
azimuths_four_apart list r two is e = apart signed_at 2 three 0 list r is (omega arith) 4 (omega arith)
    (λ p. let z : ◌≡◌ {A = ℕ} 3 2 = ap mag p in omega (arith, z)) e

abbrev one_two_three : List ℕ
one_two_three = 63 ∷ 128 ∷ 0 ∷ 0 ∷ 64 ∷ 0 ∷ 0 ∷ 0 ∷ 64 ∷ 64 ∷ 0 ∷ 0 ∷ []

-- the samples 1.0 and 2.0, before a 3.0, are read eight bytes apart
samples_eight_apart : (list r : List Float) → length list ≡ 2 → r ≡ list_at float_at 4 one_two_three 0 list
    → r ≡ strided (float_at one_two_three) 8 0 (length list) → ⊥
unfolding float_at field_at value_of of_bits
samples_eight_apart list r two is e = apart float_at 4 one_two_three 0 list r is (omega arith) 8 (omega arith)
    (λ p. let z : ◌≡◌ {A = ℕ} 3 2 = ap num p in omega (arith, z)) e

abbrev stamps_one_two_three : List ℕ
stamps_one_two_three = 0 ∷ 0 ∷ 0 ∷ 1 ∷ 0 ∷ 0 ∷ 0 ∷ 2 ∷ 0 ∷ 0 ∷ 0 ∷ 3 ∷ []

-- the stamps 1 and 2, before a 3, are read eight bytes apart
stamps_eight_apart : (list r : List ℕ) → length list ≡ 2 → r ≡ list_at word_at 4 stamps_one_two_three 0 list
    → r ≡ strided (word_at stamps_one_two_three) 8 0 (length list) → ⊥
unfolding field_at value_of
stamps_eight_apart list r two is e =
    apart word_at 4 stamps_one_two_three 0 list r is (omega arith) 8 (omega arith) (λ p. omega (arith, p)) e

-- the stamp 1 is read with its smaller part first
stamp_the_other_way : (list r : List ℕ) → length list ≡ 2 → r ≡ list_at word_at 4 stamps_one_two_three 0 list
    → get_or r 0 0 ≡ 16777216 → ⊥
unfolding field_at value_of
stamp_the_other_way list r two is e =
    another_entry word_at 4 stamps_one_two_three 0 list r is (omega arith) 0 0 (omega arith) (λ p. omega (arith, p, e))
