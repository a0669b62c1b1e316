-- What the promises rule out, of every part and so of every list, whatever its entries are: a part put where it has no
-- room, over what stands before it, or of other bytes; entries of another number or width; a number of nine bytes; a
-- refusal in two bytes, or under the numbers; and of a block, a count in four bytes, or more or fewer samples. Assumes
-- nothing.
use Rattle.std.specs.Prelude.{◌≡◌, ◌∷◌, ◌+◌, ◌-◌, ◌*◌, ◌%◌, ◌^◌, ◌≤◌, ◌<◌}
use Rattle.lists.specs.Prelude.{sym, ap, ◌∙◌, List, [], ℕ, mul-le-mul_left, eq_of_mul-eq-mul_right, arith, le-leb}
use Rattle.lists.specs.Prelude.{lt-leb, length, get_or, take, drop, replicate, length-replicate, get_or-replicate}
use Rattle.lists.specs.Prelude.{take-take, drop-drop, Float, binary32, binary64, to_bits}
use Rattle.lists.proofs.Tests.{cond_true, cond_false}
use Rattle.lists.specs.Placed.{placed}
use Rattle.lists.proofs.Placed.{take_placed}
use Rattle.lists.proofs.Lists.{drop_take}
use Rattle.big_endian.specs.Bytes.{value_of, bytes_of}
use Rattle.big_endian.specs.Fields.{field_at}
use Rattle.big_endian.specs.Lists.{field_bytes, float_bytes, double_bytes}
use Rattle.big_endian.proofs.Bytes.{length_bytes, value_bytes}
use Rattle.big_endian.proofs.Fields.{field_lies}
use Rattle.big_endian.proofs.Lists.{length_field_bytes}
use Rattle.probe_answer.specs.Answers.{Draft, draft, none, nowhere, ◌then◌, then_field, refusal_and_doubles, played}
use Rattle.probe_answer.proofs.Meets.{then_cut}
use Rattle.probe_answer.proofs.Standing.{then_long, then_before, then_there, then_same, entry_bytes}
use Rattle.probe_answer.proofs.Standing.{other_end, other_length, other_samples}

-- ---- a part

module _ (d : Draft) (part : List ℕ) (r : Draft) (is : r ≡ d then part) where
  -- a part that has no room is put as far as it goes
  put_in_part : length d.bytes < d.place + length part → (r.bytes ≡ d.bytes → ⊥) → ⊥
  put_in_part short other = other (ap (λ (e : Draft). e.bytes) (is ∙ then_cut d part short))

  -- what stands before the place is put over
  over_what_stands : (n : ℕ) → n ≤ d.place → (take n r.bytes ≡ take n d.bytes → ⊥) → ⊥
  over_what_stands n h other = other (ap (λ (e : Draft). take n e.bytes) is ∙ then_before d part n h)

  module _ (room : d.place + length part ≤ length d.bytes) where
    -- as many other bytes are put
    other_bytes : (q : List ℕ) → length q ≡ length part → (q ≡ part → ⊥) → r ≡ d then q → ⊥
    other_bytes q long other e = other (sym (then_same d part q (sym long) room (sym is ∙ e)))

    -- the first byte is put in every place, though one is another
    first_repeated : (i : ℕ) → i < length part → (get_or part 0 0 ≡ get_or part i 0 → ⊥)
        → r ≡ d then replicate (length part) (get_or part 0 0) → ⊥
    first_repeated i h differs =
        other_bytes (replicate (length part) (get_or part 0 0)) (length-replicate (length part) (get_or part 0 0))
        (λ e. differs (sym (get_or-replicate (length part) i (get_or part 0 0) 0 h)
        ∙ ap (λ (l : List ℕ). get_or l i 0) e))

    -- more bytes are put than the part has, or fewer
    other_size : (q : List ℕ) → length d.bytes < nowhere → (length part ≡ length q → ⊥) → r ≡ d then q → ⊥
    other_size q h other e = other_length (part ∷ []) (q ∷ []) d (omega arith) h (λ s. other (omega arith)) (sym is ∙ e)

-- ---- the entries of a list, over the width and the bits

module _ {A : Type 0} (w : ℕ) (bits : A → ℕ) (d : Draft) (list : List A) (r : Draft)
    (is : r ≡ d then field_bytes w bits list) (room : d.place + w * length list ≤ length d.bytes) where
  -- an entry is another number
  other_entry : (i : ℕ) (x : A) → i < length list → w ≤ 8
      → (field_at r.bytes (d.place + w * i) w ≡ bits (get_or list i x) % 256 ^ w → ⊥) → ⊥
  other_entry i x h small other =
      let part = field_bytes w bits list in
      let size = length_field_bytes w bits list in
      let next : w * (i + 1) ≤ w * length list = mul-le-mul_left w (omega arith) in
      let long : length r.bytes ≡ length d.bytes = ap (λ (e : Draft). length e.bytes) is ∙ then_long d part in
      let rest = drop d.place r.bytes in
      let there : take (length part) rest ≡ part = ap (λ (e : Draft). take (length part) (drop d.place e.bytes))
      is ∙ then_there d part (omega arith) in
      let bytes : take w (drop (d.place + w * i) r.bytes) ≡ bytes_of w (bits (get_or list i x)) =
      ap (take w) (sym (drop-drop (w * i) d.place r.bytes))
      ∙ sym (take-take w (length part - w * i) (drop (w * i) rest) (omega arith))
      ∙ ap (take w) (sym (drop_take (w * i) (length part) rest) ∙ ap (drop (w * i)) there)
      ∙ entry_bytes w bits list i x h in
      other (field_lies r.bytes (d.place + w * i) w small (omega arith) ∙ ap value_of bytes
      ∙ value_bytes w (bits (get_or list i x)))

  -- the entries have v bytes each, and not w
  other_width : (v : ℕ) → (w ≡ v → ⊥) → 0 < length list → length d.bytes < nowhere
      → r ≡ d then field_bytes v bits list → ⊥
  other_width v other some h =
      other_size d (field_bytes w bits list) r is (omega (arith, length_field_bytes w bits list))
      (field_bytes v bits list)
      h
      (λ s. other (eq_of_mul-eq-mul_right (length list) some w v
      (sym (length_field_bytes w bits list) ∙ s ∙ length_field_bytes v bits list)))

-- ---- a number

module _ (d : Draft) (count n : ℕ) (r : Draft) (is : r ≡ then_field d count n) where
  -- a number is put in more than eight bytes
  nine_bytes : 8 < count → (r.bytes ≡ d.bytes → ⊥) → ⊥
  nine_bytes h other = other (ap (λ (e : Draft). e.bytes) (is ∙ cond_false _ _ (lt-leb count 8 h)))

  -- a number is put at the start, where something else stands
  at_the_start : count ≤ 8 → count ≤ d.place → (take count d.bytes ≡ bytes_of count n → ⊥)
      → r.bytes ≡ placed d.bytes 0 (bytes_of count n) → ⊥
  at_the_start small h other e =
      over_what_stands d (bytes_of count n) r (is ∙ cond_true _ _ (le-leb count 8 small)) count h
      (λ same. other (sym same ∙ ap (take count) e ∙ take_placed d.bytes (bytes_of count n) count
      (length_bytes count n)))

-- ---- a refusal, and numbers

module _ (refusal : ℕ) (list : List Float) (out : List ℕ) (r : Draft) (is : r ≡ refusal_and_doubles refusal list out)
    (room : 1 + 8 * length list ≤ length out) (h : length out < nowhere) where
  -- the refusal is put in two bytes
  refusal_in_two_bytes : r ≡ none out then bytes_of 2 refusal then double_bytes list → ⊥
  unfolding refusal_and_doubles
  refusal_in_two_bytes e =
      let size = length_field_bytes 8 (to_bits binary64) list in
      let one = length_bytes 1 refusal in
      let two = length_bytes 2 refusal in
      other_length (bytes_of 1 refusal ∷ double_bytes list ∷ []) (bytes_of 2 refusal ∷ double_bytes list ∷ [])
      (none out)
      (omega arith) h (λ s. omega arith) (sym is ∙ e)

  -- the numbers are put over the refusal
  numbers_over_the_refusal : r ≡ draft 0 (none out then bytes_of 1 refusal).bytes then double_bytes list → ⊥
  unfolding refusal_and_doubles
  numbers_over_the_refusal e =
      let size = length_field_bytes 8 (to_bits binary64) list in
      let one = length_bytes 1 refusal in
      let long = then_long (none out) (bytes_of 1 refusal) in
      other_end (bytes_of 1 refusal ∷ double_bytes list ∷ []) (double_bytes list ∷ []) (none out)
      (draft 0 (none out then bytes_of 1 refusal).bytes) (omega arith) (omega arith) h (omega arith)
      (λ s. omega arith) (sym is ∙ e)

-- ---- a block

module _ (refusal samples : ℕ) (list : List Float) (out : List ℕ) (r : Draft) (is : r ≡ played refusal samples list out)
    (room : 9 + 4 * length list ≤ length out) (h : length out < nowhere) where
  -- the count is put in four bytes
  count_in_four_bytes : r ≡ none out then bytes_of 1 refusal then bytes_of 4 samples then float_bytes list → ⊥
  count_in_four_bytes e =
      let size = length_field_bytes 4 (to_bits binary32) list in
      let one = length_bytes 1 refusal in
      let four = length_bytes 4 samples in
      let eight = length_bytes 8 samples in
      other_length (bytes_of 1 refusal ∷ bytes_of 8 samples ∷ float_bytes list ∷ [])
      (bytes_of 1 refusal ∷ bytes_of 4 samples ∷ float_bytes list ∷ []) (none out) (omega arith) h (λ s. omega arith)
      (sym is ∙ e)

  -- more samples are put, or fewer
  more_or_fewer_samples : (shown : List Float) → (length list ≡ length shown → ⊥) → r ≡ played refusal samples shown out
      → ⊥
  more_or_fewer_samples shown other e = other_samples refusal samples list shown out room h other (sym is ∙ e)
