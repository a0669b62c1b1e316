-- The writer's fault is the reader's of the bytes that would be written (`writer_as_reader`), a bank that has its taps
-- has none exactly if it keeps the form (`write_none`), and it is told by 15 to 18 and 20 (`writer_numbers`). Assumes
-- nothing.
use Rattle.std.specs.Prelude.{◌≡◌, ◌&&◌, ◌∷◌, ◌++◌, ◌⊎◌, ◌+◌, ◌-◌, ◌*◌, ◌≤◌}
use Rattle.lists.specs.Prelude.{refl, sym, ap, ap₂, ◌∙◌, Bool, true, false, and-true, and-false, List, [], map, inl}
use Rattle.lists.specs.Prelude.{inr, ℕ, zero, suc, add-one, arith, eq-eqb, eqb, Float, length, take, drop, length-drop}
use Rattle.lists.specs.Prelude.{take-append-drop, drop_of_length-le, take_at, drop_at}
use lib.Ieee.Scale.{finite}
use Rattle.lists.proofs.Tests.{test_cases}
use Rattle.big_endian.specs.Fields.{field_at, signed_at, float_at}
use Rattle.big_endian.specs.Lists.{strided}
use Rattle.big_endian.proofs.Lists.{strided_none, strided_more, strided_snoc, length_strided}
use Rattle.lists.specs.Tables.{every}
use Rattle.lists.proofs.Every.{every_append}
use Rattle.refusals.specs.Ranges.{within}
use Rattle.refusals.proofs.Ranges.{within_in}
use Rattle.bank_form.specs.Fault.{Fault}
use Rattle.bank_form.specs.Bank.{Bank, Pair, rows, pairs, is_azimuth, is_elevation, differ, is_tap, pairwise, valid}
use Rattle.bank_form.specs.Version.{row_size, taps_at, pair_at, elevation_at}
use Rattle.bank_form.specs.Encoding.{encode}
use Rattle.bank_form.specs.Fault.{pair_in, pairs_from, row_taps, taps_from, version_in, rows_in_of, length_in, sound}
use Rattle.bank_form.specs.Fault.{or_else, unless, taps_fault, is_new, elevation_fault, row_fault, rows_fault}
use Rattle.bank_form.specs.Fault.{head_field, head_fault, fault}
use Rattle.bank_form.specs.WriteFault.{taps_wrong, rows_wrong, counts_fault, write_fault}
use Rattle.bank_form.specs.FaultLaws.{writer_gives, WriterNumbers, WriterAsReader}
use Rattle.bank_form.proofs.Lists.{exchange, taps_more}
use Rattle.bank_form.proofs.Walk.{is_clear, clear_else, clear_unless, else_both, else_assoc, field_in, tap_is}
use Rattle.bank_form.proofs.Walk.{fault_is}
use Rattle.bank_form.proofs.Exact.{rows_in}
use Rattle.bank_form.proofs.RoundTrip.{pairs_from_lem, Written, read_write}
use Rattle.bank_form.proofs.Pairs.{length_pairs, azimuths_of, elevations_of}

-- four walks one after another, and a fifth
else_four : (a b c d e : Fault) → or_else (or_else a (or_else b (or_else c d))) e
    ≡ or_else a (or_else b (or_else c (or_else d e)))
else_four a b c d e = cc (else_assoc a (or_else b (or_else c d)) e, else_assoc b (or_else c d) e, else_assoc c d e)

-- ---- a file of the right size: the walk over it is the one over the bank that stands in it

module _ (size : ℕ) (s : List ℕ) where
  taps_as_written : (at n : ℕ) → at + 4 * n ≤ size → taps_fault size s at n
      ≡ taps_wrong at (strided (float_at s) 4 at n)
  unfolding taps_fault taps_wrong
  taps_as_written at zero h = sym (ap (taps_wrong at) (strided_none (float_at s) 4 at))
  taps_as_written at (suc n) h =
      rw (
        field_in size at 4 18 (finite (float_at s at)) (omega arith),
        taps_as_written (at + 4) n (omega arith),
        strided_more (float_at s) 4 at n,
        tap_is s at,
      )

  -- in version 1 an elevation is 0, which is one
  elevation_as_written : (v at : ℕ) → taps_at v at ≤ size → elevation_fault size s v at
      ≡ unless (is_elevation (elevation_at v s at)) 20 (at + 2)
  unfolding elevation_fault elevation_at is_elevation
  elevation_as_written v at h = test_cases (eqb v 1) (λ k. rw k)
      (λ k. rw k (field_in size (at + 2) 2 20 (is_elevation (signed_at s (at + 2))) (rw k at h)))

  module _ (v l : ℕ) where
    -- the rows before one, and it
    before_more : (i at : ℕ) → at ≡ 9 + i * row_size v l → pairs_from s v l 9 i
        ++ (pair_in v s at ∷ []) ≡ pairs_from s v l 9 (i + 1)
    before_more i at e = rw (e, add-one i) (sym (strided_snoc (pair_in v s) (row_size v l) 9 i))

    row_as_written : (i at : ℕ) → at + row_size v l ≤ size → row_fault size s v l i at
        ≡ or_else (unless (is_azimuth (signed_at s at)) 17 at)
        (or_else (unless (is_elevation (elevation_at v s at)) 20 (at + 2))
        (or_else (unless (every (λ (q : Pair). differ q (pair_in v s at)) (pairs_from s v l 9 i)) 17 (pair_at v at))
        (taps_wrong (taps_at v at) (row_taps s v l at))))
    unfolding row_fault is_new
    row_as_written i at h =
        rw (
          field_in size at 2 17 (is_azimuth (signed_at s at)) (omega arith),
          elevation_as_written v at (omega arith),
          taps_as_written (taps_at v at) (2 * l) (omega arith),
        )

    rows_as_written : (i at n : ℕ) → at ≡ 9 + i * row_size v l → size ≡ at + n * row_size v l
        → rows_fault size s v l i at n ≡ rows_wrong v (pairs_from s v l 9 i) (pairs_from s v l at n) l
        (taps_from s v l at n)
        at
    unfolding rows_fault rows_wrong
    rows_as_written i at zero e h = rw (eq-eqb size at (h ∙ omega arith), strided_none (pair_in v s) (row_size v l) at)
    rows_as_written i at (suc n) e h =
        let long : length (row_taps s v l at) ≡ 2 * l = length_strided (float_at s) 4 (taps_at v at) (2 * l) in
        let more = rows_as_written (i + 1) (at + row_size v l) n (omega (arith, e)) (omega (arith, h)) in
        rw (
          strided_more (pair_in v s) (row_size v l) at n,
          taps_more s v l at n,
          take_at (row_taps s v l at) (taps_from s v l (at + row_size v l) n) (2 * l) long,
          drop_at (row_taps s v l at) (taps_from s v l (at + row_size v l) n) (2 * l) long,
          row_as_written i at (omega arith),
          more,
          before_more i at e,
        )
        (else_four _ _ _ _ _)

-- what a file says whose version, length and size are right
module _ (v : ℕ) (b : Bank) (s : List ℕ) (known : within 1 2 v ≡ true) (w : Written v b s) where
  size_nine : 9 ≤ length s
  size_nine = omega (arith, w.size)

  head_as_written : head_fault (length s) s ≡ counts_fault (rows b) b.length
  unfolding head_fault head_field or_else
  head_as_written =
      let size = length s in
      let few : rows_in_of s ≡ rows b = sym (rows_in s) ∙ ap rows w.same in
      let short : length_in s ≡ b.length = ap (λ (c : Bank). c.length) w.same in
      let rest : within (size - 5) (size - 5) (field_at s 1 4) ≡ true = rw w.rest
      (within_in (size - 5) (size - 5) (size - 5) (omega arith) (omega arith)) in
      rw (
        field_in size 0 1 13 (within 1 2 (field_at s 0 1)) (omega (arith, size_nine)),
        field_in size 1 4 14 (within (size - 5) (size - 5) (field_at s 1 4)) (omega (arith, size_nine)),
        field_in size 5 2 15 (within 1 8 (field_at s 5 2)) (omega (arith, size_nine)),
        field_in size 7 2 16 (within 1 512 (field_at s 7 2)) (omega (arith, size_nine)),
        w.version,
        known,
        rest,
        few,
        short,
      )

  rows_of_bank : rows_fault (length s) s (version_in s) (length_in s) 0 9 (rows_in_of s)
      ≡ rows_wrong v [] (pairs b) b.length
      b.taps 9
  rows_of_bank =
      let u = version_in s in
      let l = length_in s in
      let taps = taps_from s u l 9 (rows_in_of s) in
      rows_as_written (length s) s u l 0 9 (rows_in_of s) (omega arith) (rw w.version w.size)
      ∙ ap₂ (λ (before ps : List Pair). rows_wrong u before ps l taps 9) (strided_none (pair_in u s) (row_size u l) 9)
      (sym (pairs_from_lem s u l 9 (rows_in_of s)))
      ∙ ap₂ (λ (n : ℕ) (c : Bank). rows_wrong n [] (pairs c) c.length c.taps 9) w.version w.same

  written_fault : fault s ≡ write_fault v b
  unfolding write_fault
  written_fault = fault_is (length s) s ∙ ap₂ or_else head_as_written rows_of_bank

pub writer_as_reader : WriterAsReader
writer_as_reader v b h = sym (written_fault v b (encode v b) h.holds.known (read_write v b h))

-- ---- a bank has no fault exactly if it keeps the form

clear_taps : (at : ℕ) (xs : List Float) → is_clear (taps_wrong at xs) ≡ every is_tap xs
unfolding taps_wrong
clear_taps at [] = refl
clear_taps at (x ∷ xs) =
    clear_else _ _ ∙ ap₂ ◌&&◌ (clear_unless (is_tap x) 18 at (omega arith)) (clear_taps (at + 4) xs)

-- four walks one after another, and a fifth
clear_four : (a b c d e : Fault) (x y z w : Bool) → is_clear a ≡ x → is_clear b ≡ y → is_clear c ≡ z → is_clear d ≡ w
    → is_clear (or_else a (or_else b (or_else c (or_else d e)))) ≡ (x && (y && (z && (w && is_clear e))))
clear_four a b c d e x y z w p q r t =
    clear_else a _ ∙ ap₂ ◌&&◌ p
    (clear_else b _ ∙ ap₂ ◌&&◌ q
    (clear_else c _ ∙ ap₂ ◌&&◌ r (clear_else d e ∙ ap (λ (k : Bool). k && is_clear e) t)))

-- each of the second list differs from all of the first, and from those before it
abbrev new_to : List Pair → List Pair → Bool
new_to before ps = every (λ (p : Pair). every (λ (q : Pair). differ q p) before) ps && pairwise differ ps

new_behind : (before : List Pair) (p : Pair) (ps : List Pair)
    → every (λ (w : Pair). every (λ (q : Pair). differ q w) (before ++ (p ∷ []))) ps
    ≡ (every (λ (w : Pair). every (λ (q : Pair). differ q w) before) ps && every (differ p) ps)
new_behind before p [] = refl
new_behind before p (w ∷ ps) =
    rw (every_append (λ (q : Pair). differ q w) before (p ∷ []), and-true (differ p w), new_behind before p ps)
    (exchange (every (λ (q : Pair). differ q w) before) (differ p w)
    (every (λ (y : Pair). every (λ (q : Pair). differ q y) before) ps) (every (differ p) ps))

-- the tests of a row and of the rows behind it, in the order of the walk and in that of the form: a its azimuth, h its
-- elevation, e that its pair is new, t its taps; A, H, B, C, P, D those behind it
regroup : (a h e t A H B C P D : Bool) → (a && (h && (e && (t && (A && H && (B && C && P) && D)))))
    ≡ (a && A && (h && H) && (e && B && (C && P)) && (t && D))
regroup false h e t A H B C P D = refl
regroup true false e t A H B C P D = sym (ap (λ (x : Bool). x && (e && B && (C && P)) && (t && D)) (and-false A))
regroup true true false t A H B C P D = sym (ap (λ (x : Bool). x && (t && D)) (and-false (A && H)))
regroup true true true false A H B C P D = sym (and-false (A && H && (B && (C && P))))
regroup true true true true false H B C P D = refl
regroup true true true true true false B C P D = refl
regroup true true true true true true true C P D = refl
regroup true true true true true true false C P D = refl

-- what is asked of the pairs of rows
abbrev azimuth_of : Pair → Bool
azimuth_of p = is_azimuth p.azimuth

abbrev elevation_of : Pair → Bool
elevation_of p = is_elevation p.elevation

clear_rows : (v : ℕ) (before ps : List Pair) (l : ℕ) (xs : List Float) (at : ℕ) → length xs ≡ length ps * (2 * l)
    → is_clear (rows_wrong v before ps l xs at)
    ≡ (every azimuth_of ps && every elevation_of ps && new_to before ps && every is_tap xs)
unfolding rows_wrong pairwise
clear_rows v before [] l xs at n = sym (ap (every is_tap) (drop_of_length-le xs {i = 0} (omega (arith, n))))
clear_rows v before (p ∷ ps) l xs at n =
    let m = 2 * l in
    let split : every is_tap xs ≡ (every is_tap (take m xs) && every is_tap (drop m xs)) = ap (every is_tap)
    (sym (take-append-drop m xs)) ∙ every_append is_tap (take m xs) (drop m xs) in
    let rest = clear_rows v (before ++ (p ∷ [])) ps l (drop m xs) (at + row_size v l)
    (omega (arith, length-drop m xs, n)) in
    let new = every (λ (q : Pair). differ q p) before in
    clear_four _ _ _ _ _ (azimuth_of p) (elevation_of p) new (every is_tap (take m xs))
    (clear_unless (azimuth_of p) 17 at (omega arith))
    (clear_unless (elevation_of p) 20 (at + 2) (omega arith))
    (clear_unless new 17 (pair_at v at) (omega arith))
    (clear_taps (taps_at v at) (take m xs))
    ∙ rw (rest, new_behind before p ps, split)
    (regroup (azimuth_of p) (elevation_of p) new (every is_tap (take m xs)) (every azimuth_of ps)
    (every elevation_of ps)
    (every (λ (w : Pair). every (λ (q : Pair). differ q w) before) ps) (every (differ p) ps) (pairwise differ ps)
    (every is_tap (drop m xs)))

none_before : (ps : List Pair) → every (λ (p : Pair). every (λ (q : Pair). differ q p) []) ps ≡ true
none_before [] = refl
none_before (p ∷ ps) = none_before ps

every_map : {A B : Type 0} (f : A → B) (p : B → Bool) (xs : List A) → every (λ (x : A). p (f x)) xs ≡ every p (map f xs)
every_map f p [] = refl
every_map f p (x ∷ xs) = ap (◌&&◌ (p (f x))) (every_map f p xs)

ending : (a b c h d e : Bool) → (a && b && (c && h && d && e)) ≡ (a && b && true && true && c && h && d && e)
ending false b c h d e = refl
ending true false c h d e = refl
ending true true c h d e = refl

pub write_none : (v : ℕ) (b : Bank) → length b.elevations ≡ rows b → length b.taps ≡ 2 * rows b * b.length
    → eqb (write_fault v b).refusal 0 ≡ valid b
unfolding write_fault valid
write_none v b paired n =
    let rest = rows_wrong v [] (pairs b) b.length b.taps 9 in
    let count = length_pairs b.azimuths b.elevations paired in
    let azimuths : every azimuth_of (pairs b) ≡ every is_azimuth b.azimuths =
    every_map (λ (p : Pair). p.azimuth) is_azimuth (pairs b)
    ∙ ap (every is_azimuth) (azimuths_of b.azimuths b.elevations paired) in
    let elevations : every elevation_of (pairs b) ≡ every is_elevation b.elevations =
    every_map (λ (p : Pair). p.elevation) is_elevation (pairs b)
    ∙ ap (every is_elevation) (elevations_of b.azimuths b.elevations paired) in
    rw (
      clear_else (counts_fault (rows b) b.length) rest,
      clear_else (unless (within 1 8 (rows b)) 15 5) (unless (within 1 512 b.length) 16 7),
      clear_unless (within 1 8 (rows b)) 15 5 (omega arith),
      clear_unless (within 1 512 b.length) 16 7 (omega arith),
      clear_rows v [] (pairs b) b.length b.taps 9 (n ∙ omega (arith, ap (λ (k : ℕ). k * (2 * b.length)) count)),
      none_before (pairs b),
      azimuths,
      elevations,
      eq-eqb (length b.elevations) (rows b) paired,
      eq-eqb (length b.taps) (2 * rows b * b.length) n,
    )
    (ending (within 1 8 (rows b)) (within 1 512 b.length) (every is_azimuth b.azimuths)
    (every is_elevation b.elevations) (pairwise differ (pairs b)) (every is_tap b.taps))

-- ---- which numbers the writer gives

abbrev Known : Fault → Type 0
Known f = (f ≡ sound) ⊎ (writer_gives f.refusal ≡ true)

known_unless : (good : Bool) (n at : ℕ) → writer_gives n ≡ true → Known (unless good n at)
known_unless true n at gives = inl refl
known_unless false n at gives = inr gives

known_taps : (at : ℕ) (xs : List Float) → Known (taps_wrong at xs)
unfolding taps_wrong
known_taps at [] = inl refl
known_taps at (x ∷ xs) = else_both _ _ Known (known_unless (is_tap x) 18 at refl) (known_taps (at + 4) xs)

known_rows : (v : ℕ) (before ps : List Pair) (l : ℕ) (xs : List Float) (at : ℕ) → Known (rows_wrong v before ps l xs at)
unfolding rows_wrong
known_rows v before [] l xs at = inl refl
known_rows v before (p ∷ ps) l xs at =
    else_both _ _ Known (known_unless (is_azimuth p.azimuth) 17 at refl)
    (else_both _ _ Known (known_unless (is_elevation p.elevation) 20 (at + 2) refl)
    (else_both _ _ Known (known_unless (every (λ (q : Pair). differ q p) before) 17 (pair_at v at) refl)
    (else_both _ _ Known (known_taps (taps_at v at) (take (2 * l) xs))
    (known_rows v (before ++ (p ∷ [])) ps l (drop (2 * l) xs) (at + row_size v l)))))

pub writer_numbers : WriterNumbers
unfolding write_fault
writer_numbers v b =
    else_both _ _ Known
    (else_both _ _ Known (known_unless (within 1 8 (rows b)) 15 5 refl)
    (known_unless (within 1 512 b.length) 16 7 refl))
    (known_rows v [] (pairs b) b.length b.taps 9)
