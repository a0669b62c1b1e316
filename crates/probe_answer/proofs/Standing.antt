-- What stands in an answer: a part that had room is there, and what is put behind it leaves it as it is. Assumes
-- nothing.
use Rattle.std.specs.Prelude.{◌≡◌, ◌∷◌, ◌++◌, ◌⊎◌, ◌+◌, ◌*◌, ◌%◌, ◌^◌, ◌≤◌, ◌<◌}
use Rattle.lists.specs.Prelude.{refl, sym, ap, ◌∙◌, List, [], append_assoc, inl, inr, ⊎_elim, ℕ, zero, suc, mul-zero}
use Rattle.lists.specs.Prelude.{mul-suc, not-suc-le-zero, le_of_suc-le-suc, arith, length, get_or, take, drop}
use Rattle.lists.specs.Prelude.{length-append, take-append-le, drop-append-add, take-take, take_at, drop_at}
use Rattle.lists.specs.Prelude.{length-take-le, Float, binary32, binary64, to_bits}
use Rattle.lists.specs.Placed.{placed}
use Rattle.lists.proofs.Placed.{length_placed}
use Rattle.lists.proofs.Lists.{less_or_at_most, drop_take}
use Rattle.lists.proofs.Tables.{part_is}
use Rattle.big_endian.specs.Bytes.{value_of, bytes_of}
use Rattle.big_endian.specs.Fields.{field_at}
use Rattle.big_endian.specs.Lists.{field_bytes, float_bytes, double_bytes}
use Rattle.big_endian.proofs.Bytes.{length_bytes, value_bytes}
use Rattle.big_endian.proofs.Fields.{field_lies}
use Rattle.big_endian.proofs.Lists.{field_bytes_more, length_field_bytes}
use Rattle.probe_answer.specs.Answers.{Draft, draft, none, taking, nowhere, cut, ◌then◌, refusal_and_doubles}
use Rattle.probe_answer.specs.Answers.{played}
use Rattle.probe_answer.proofs.Meets.{taken, untaken, then_room, then_cut, cut_then}

-- a field is known by the bytes up to its end
same_field : (s t : List ℕ) (at count : ℕ) → length s ≡ length t → take (at + count) s ≡ take (at + count) t
    → field_at s at count ≡ field_at t at count
unfolding field_at
same_field s t at count long e =
    let last : (l : List ℕ) → take count (drop at l) ≡ drop at (take (at + count) l) = λ l.
    sym (drop_take at (at + count) l ∙ part_is at count l) in
    let part : take count (drop at s) ≡ take count (drop at t) = last s ∙ ap (drop at) e ∙ sym (last t) in
    cc

module _ (d : Draft) (part : List ℕ) where
  pub then_long : length (d then part).bytes ≡ length d.bytes
  then_long =
      ⊎_elim (λ s. ap (λ (e : Draft). length e.bytes) (then_cut d part s))
      (λ r. ap (λ (e : Draft). length e.bytes) (then_room d part r) ∙ length_placed d.bytes d.place part r)
      (less_or_at_most (length d.bytes) (d.place + length part))

  -- what stands before the place stays
  pub then_before : (n : ℕ) → n ≤ d.place → take n (d then part).bytes ≡ take n d.bytes
  unfolding placed
  then_before n h =
      let bytes = d.bytes in
      let at = d.place in
      ⊎_elim (λ s. ap (λ (e : Draft). take n e.bytes) (then_cut d part s))
      (λ r.
      let front : length (take at bytes) ≡ at = length-take-le at bytes (omega arith) in
      let long = length-append (take at bytes) part in
      ap (λ (e : Draft). take n e.bytes) (then_room d part r)
      ∙ take-append-le n (take at bytes ++ part) (drop (at + length part) bytes) (omega arith)
      ∙ take-append-le n (take at bytes) part (omega arith)
      ∙ take-take n at bytes h)
      (less_or_at_most (length bytes) (at + length part))

  -- and the part stands from there on
  pub then_there : d.place + length part ≤ length d.bytes
      → take (length part) (drop d.place (d then part).bytes) ≡ part
  unfolding placed
  then_there r =
      let bytes = d.bytes in
      let at = d.place in
      let rest = drop (at + length part) bytes in
      ap (λ (e : Draft). take (length part) (drop at e.bytes)) (then_room d part r)
      ∙ ap (λ (l : List ℕ). take (length part) (drop at l)) (append_assoc (take at bytes) part rest)
      ∙ ap (take (length part)) (drop_at (take at bytes) (part ++ rest) at (length-take-le at bytes (omega arith)))
      ∙ take_at part rest (length part) refl

  -- the next part goes behind it, or nowhere: to no earlier place
  next_place : ((d then part).place ≡ d.place + length part) ⊎ ((d then part).place ≡ nowhere)
  next_place =
      ⊎_elim (λ s. inr (ap (λ (e : Draft). e.place) (then_cut d part s)))
      (λ r. inl (ap (λ (e : Draft). e.place) (then_room d part r)))
      (less_or_at_most (length d.bytes) (d.place + length part))

  then_further : (n : ℕ) → n ≤ d.place → n ≤ nowhere → n ≤ (d then part).place
  then_further n h k = ⊎_elim (λ e. omega arith) (λ e. omega arith) next_place

-- so what is put is known by what stands there
pub then_same : (d : Draft) (p q : List ℕ) → length p ≡ length q → d.place + length p ≤ length d.bytes
    → d then p ≡ d then q → p ≡ q
then_same d p q long room e =
    sym (then_there d p room) ∙ (λ i. take (long i) (drop d.place (e i).bytes)) ∙ then_there d q (omega arith)

-- ---- the entries of a list, over the width and the bits

module _ {A : Type 0} (w : ℕ) (bits : A → ℕ) where
  -- the bytes of entry i
  pub entry_bytes : (list : List A) (i : ℕ) (x : A) → i < length list
      → take w (drop (w * i) (field_bytes w bits list)) ≡ bytes_of w (bits (get_or list i x))
  entry_bytes [] i x h = absurd (not-suc-le-zero h)
  entry_bytes (y ∷ ys) zero x h =
      rw (mul-zero, field_bytes_more w bits y ys)
      (take_at (bytes_of w (bits y)) (field_bytes w bits ys) w (length_bytes w (bits y)))
  entry_bytes (y ∷ ys) (suc i) x h =
      let next : w * suc i ≡ length (bytes_of w (bits y)) + w * i = mul-suc w i
      ∙ omega (arith, length_bytes w (bits y)) in
      rw (field_bytes_more w bits y ys, next, drop-append-add) (entry_bytes ys i x (le_of_suc-le-suc h))

  -- so entries are known by their bytes
  pub same_entry : (xs ys : List A) (i : ℕ) (x : A) → i < length xs → i < length ys
      → field_bytes w bits xs ≡ field_bytes w bits ys → bits (get_or xs i x) % 256 ^ w ≡ bits (get_or ys i x) % 256 ^ w
  same_entry xs ys i x h k e =
      sym (value_bytes w (bits (get_or xs i x)))
      ∙ ap value_of (sym (entry_bytes xs i x h) ∙ ap (λ (l : List ℕ). take w (drop (w * i) l)) e ∙ entry_bytes ys i x k)
      ∙ value_bytes w (bits (get_or ys i x))

-- ---- parts, one behind the other

abbrev pub parts : Draft → List (List ℕ) → Draft
parts d [] = d
parts d (p ∷ ps) = parts (d then p) ps

-- how many bytes they have
abbrev pub total : List (List ℕ) → ℕ
total [] = 0
total (p ∷ ps) = length p + total ps

pub parts_room : (ps : List (List ℕ)) (d : Draft) → d.place + total ps ≤ length d.bytes
    → (parts d ps).place ≡ d.place + total ps
parts_room [] d h = omega arith
parts_room (p ∷ ps) d h =
    let next : (d then p).place ≡ d.place + length p = ap (λ (e : Draft). e.place) (then_room d p (omega arith)) in
    let long = then_long d p in
    omega (arith, parts_room ps (d then p) (omega arith))

parts_nowhere : (ps : List (List ℕ)) (d : Draft) → length d.bytes < nowhere → (parts (cut d) ps).place ≡ nowhere
parts_nowhere [] d h = refl
parts_nowhere (p ∷ ps) d h = ap (λ (e : Draft). (parts e ps).place) (cut_then d p h) ∙ parts_nowhere ps d h

parts_cut : (ps : List (List ℕ)) (d : Draft) → d.place ≤ length d.bytes → length d.bytes < d.place + total ps
    → length d.bytes < nowhere → (parts d ps).place ≡ nowhere
parts_cut [] d inside short h = absurd (omega arith)
parts_cut (p ∷ ps) d inside short h =
    ⊎_elim (λ s. ap (λ (e : Draft). (parts e ps).place) (then_cut d p s) ∙ parts_nowhere ps d h)
    (λ r.
    let next : (d then p).place ≡ d.place + length p = ap (λ (e : Draft). e.place) (then_room d p r) in
    let long = then_long d p in
    parts_cut ps (d then p) (omega arith) (omega arith) (omega arith))
    (less_or_at_most (length d.bytes) (d.place + length p))

-- so an answer that ends elsewhere is another answer
pub other_end : (ps qs : List (List ℕ)) (d e : Draft) → d.place + total ps ≤ length d.bytes
    → e.place ≤ length e.bytes → length d.bytes < nowhere → length e.bytes < nowhere
    → (d.place + total ps ≡ e.place + total qs → ⊥) → parts d ps ≡ parts e qs → ⊥
other_end ps qs d e room inside h k other same =
    let one = parts_room ps d room in
    let place : (parts d ps).place ≡ (parts e qs).place = ap (λ (x : Draft). x.place) same in
    ⊎_elim (λ s. omega (arith, parts_cut qs e inside s k)) (λ r. other (omega (arith, parts_room qs e r)))
    (less_or_at_most (length e.bytes) (e.place + total qs))

-- as one of another length does
pub other_length : (ps qs : List (List ℕ)) (d : Draft) → d.place + total ps ≤ length d.bytes
    → length d.bytes < nowhere → (total ps ≡ total qs → ⊥) → parts d ps ≡ parts d qs → ⊥
other_length ps qs d room h other = other_end ps qs d d room (omega arith) h h (λ s. other (omega arith))

-- so does one that shows more or fewer samples
pub other_samples : (refusal samples : ℕ) (xs ys : List Float) (out : List ℕ) → 9 + 4 * length xs ≤ length out
    → length out < nowhere → (length xs ≡ length ys → ⊥)
    → played refusal samples xs out ≡ played refusal samples ys out → ⊥
other_samples refusal samples xs ys out room h other =
    let counts : List ℕ → List (List ℕ) = λ l. bytes_of 1 refusal ∷ bytes_of 8 samples ∷ l ∷ [] in
    let size : (l : List Float) → length (float_bytes l) ≡ 4 * length l = length_field_bytes 4 (to_bits binary32) in
    let one = length_bytes 1 refusal in
    let eight = length_bytes 8 samples in
    other_length (counts (float_bytes xs)) (counts (float_bytes ys)) (none out) (omega (arith, size xs)) h
    (λ s. other (omega (arith, s, size xs, size ys)))

-- and one that stands behind the start
pub behind_the_start : (ps : List (List ℕ)) (out : List ℕ) (k : ℕ) → total ps ≤ length out → length out < nowhere
    → 0 < k → k ≤ length out → parts (none out) ps ≡ parts (draft k out) ps → ⊥
behind_the_start ps out k room h some inside =
    other_end ps ps (none out) (draft k out) (omega arith) inside h h (λ s. omega arith)

-- what begins with a refusal is counted, whether it has room or not
parts_further : (ps : List (List ℕ)) (d : Draft) (n : ℕ) → n ≤ d.place → n ≤ nowhere → n ≤ (parts d ps).place
parts_further [] d n h k = h
parts_further (p ∷ ps) d n h k = parts_further ps (d then p) n (then_further d p n h k) k

pub counted : (refusal : ℕ) (ps : List (List ℕ)) (out : List ℕ)
    → 0 < (parts (none out then bytes_of 1 refusal) ps).place
counted refusal ps out =
    let one = length_bytes 1 refusal in
    parts_further ps (none out then bytes_of 1 refusal) 1
    (⊎_elim (λ e. omega arith) (λ e. omega arith) (next_place (none out) (bytes_of 1 refusal))) (omega arith)

-- so an operation is not answered as one that takes arguments of another length
pub other_arguments : (size other : ℕ) (args out : List ℕ) (d e r : Draft) → r ≡ taking size args out d → 0 < d.place
    → length args ≡ size → (size ≡ other → ⊥) → r ≡ taking other args out e → ⊥
other_arguments size other args out d e r is some long differs wrong =
    let same : d ≡ none out = taken size args out d long ∙ sym is ∙ wrong
    ∙ sym (untaken other args out e (λ h. differs (sym long ∙ h))) in
    omega (arith, ap (λ (x : Draft). x.place) same)

-- ---- a number in an answer

-- the number n stands in `count` bytes from `at` on, and the next part goes behind it
pub record Told (at count n : ℕ) (d : Draft) : Type 0 where
  pub value : field_at d.bytes at count ≡ n % 256 ^ count
  pub behind : at + count ≤ d.place

module _ (at count n : ℕ) where
  told : (d : Draft) → d.place ≡ at → count ≤ 8 → at + count ≤ length d.bytes
      → Told at count n (d then bytes_of count n)
  told d e small room =
      let part = bytes_of count n in
      let size = length_bytes count n in
      let long = then_long d part in
      let inside : d.place + length part ≤ length d.bytes = omega arith in
      let there : take count (drop at (d then part).bytes) ≡ part = (λ i. take (sym size i)
      (drop (sym e i) (d then part).bytes)) ∙ then_there d part inside in
      record {
        value = field_lies (d then part).bytes at count small (omega arith) ∙ ap value_of there ∙ value_bytes count n;
        behind = omega (arith, ap (λ (x : Draft). x.place) (then_room d part inside));
      }

  still_told : (ps : List (List ℕ)) (d : Draft) → at + count ≤ nowhere → Told at count n d
      → Told at count n (parts d ps)
  still_told [] d h t = t
  still_told (p ∷ ps) d h t =
      still_told ps (d then p) h
      (record {
        value = same_field (d then p).bytes d.bytes at count (then_long d p)
            (then_before d p (at + count) t.behind) ∙ t.value;
        behind = then_further d p (at + count) t.behind h;
      })

-- a number behind any parts
parts_long : (ps : List (List ℕ)) (d : Draft) → length (parts d ps).bytes ≡ length d.bytes
parts_long [] d = refl
parts_long (p ∷ ps) d = parts_long ps (d then p) ∙ then_long d p

pub number_told : (at count n : ℕ) (ps qs : List (List ℕ)) (out : List ℕ) → total ps ≡ at → count ≤ 8
    → at + count ≤ length out → at + count ≤ nowhere
    → Told at count n (parts (parts (none out) ps then bytes_of count n) qs)
number_told at count n ps qs out size small room few =
    let d = parts (none out) ps in
    let long = parts_long ps (none out) in
    let place : d.place ≡ at = omega (arith, size, parts_room ps (none out) (omega arith)) in
    still_told at count n qs (d then bytes_of count n) few (told at count n d place small (omega arith))

-- the refusal with which answers begin, and the number behind it
pub first_told : (refusal : ℕ) (ps : List (List ℕ)) (out : List ℕ) → 1 ≤ length out
    → Told 0 1 refusal (parts (none out then bytes_of 1 refusal) ps)
first_told refusal ps out room = number_told 0 1 refusal [] ps out refl (omega arith) room (omega arith)

pub second_told : (refusal count n : ℕ) (ps : List (List ℕ)) (out : List ℕ) → count ≤ 8 → 1 + count ≤ length out
    → Told 1 count n (parts (none out then bytes_of 1 refusal then bytes_of count n) ps)
second_told refusal count n ps out small room = number_told 1 count n (bytes_of 1 refusal ∷ []) ps out
    (omega (arith, length_bytes 1 refusal)) small room (omega arith)

behind_the_refusal : (refusal : ℕ) (out : List ℕ) → 1 ≤ length out → (none out then bytes_of 1 refusal).place ≡ 1
behind_the_refusal refusal out room =
    let one = length_bytes 1 refusal in omega (arith, parts_room (bytes_of 1 refusal ∷ []) (none out) (omega arith))

-- what an answer tells is told where it is given
pub taken_told : {at count n : ℕ} (size : ℕ) (args out : List ℕ) (r : Draft) {d : Draft} → r ≡ taking size args out d
    → length args ≡ size → Told at count n d → field_at r.bytes at count ≡ n % 256 ^ count
taken_told {at} {count} size args out r {d} is long t =
    ap (λ (x : Draft). field_at x.bytes at count) (is ∙ sym (taken size args out d long)) ∙ t.value

-- and the numbers behind a refusal are known by what stands there
pub doubles_known : (refusal : ℕ) (xs ys : List Float) (out : List ℕ) → length xs ≡ length ys
    → 1 + 8 * length xs ≤ length out → refusal_and_doubles refusal xs out ≡ refusal_and_doubles refusal ys out
    → double_bytes xs ≡ double_bytes ys
unfolding refusal_and_doubles
doubles_known refusal xs ys out same room =
    let x = length_field_bytes 8 (to_bits binary64) xs in
    let y = length_field_bytes 8 (to_bits binary64) ys in
    let place = behind_the_refusal refusal out (omega arith) in
    let long = then_long (none out) (bytes_of 1 refusal) in
    then_same (none out then bytes_of 1 refusal) (double_bytes xs) (double_bytes ys)
    (x ∙ ap (λ (n : ℕ). 8 * n) same ∙ sym y) (omega arith)
