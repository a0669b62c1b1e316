-- One turn of each walk of specs/Fault.antt, and what a walk that finds nothing says. Assumes nothing.
use Rattle.std.specs.Prelude.{◌≡◌, ◌&&◌, ◌+◌, ◌-◌, ◌*◌, ◌≤◌, ◌<◌}
use Rattle.lists.specs.Prelude.{refl, sym, ap, subst, subst₂, ◌∙◌, Bool, true, false, cond, and-eq-true_iff, List, ℕ}
use Rattle.lists.specs.Prelude.{zero, suc, min, suc-le-suc, le_of_suc-le-suc, suc-ne-zero, sub-one, dec_lt, arith}
use Rattle.lists.specs.Prelude.{eqb-true, eqb-false, lt-ltb, le-ltb, eq-eqb, ne_eqb, eqb, binary32, fits}
use lib.Ieee.Bits.{is_true, of_bits-fits}
use lib.Ieee.Scale.{finite}
use Rattle.lists.proofs.Tests.{test_cases, by_test}
use Rattle.big_endian.specs.Fields.{field_at, signed_at, float_at}
use Rattle.big_endian.specs.Lists.{strided}
use Rattle.bank_form.specs.Fault.{Fault}
use Rattle.lists.specs.Tables.{every}
use Rattle.refusals.specs.Ranges.{within}
use Rattle.refusals.specs.Refusals.{answered}
use Rattle.refusals.proofs.Ranges.{within_true, within_in}
use Rattle.refusals.proofs.First.{answered_accepted, answered_refused}
use Rattle.bank_form.specs.Bank.{Pair, is_azimuth, is_elevation, differ, is_tap}
use Rattle.bank_form.specs.Version.{row_size, taps_at, pair_at, elevation_at}
use Rattle.bank_form.specs.Fault.{azimuths_from, elevations_from, row_taps, taps_from}
use Rattle.bank_form.specs.Fault.{version_in, rows_in_of, length_in}
use Rattle.bank_form.specs.Fault.{pair_in, sound, wrong, unless, or_else, field, taps_fault, is_new, elevation_fault}
use Rattle.bank_form.specs.Fault.{row_fault, rows_fault, head_field, head_fault, fault_in}
use Rattle.lists.proofs.Every.{every_append}
use Rattle.bank_form.proofs.Lists.{every_none, every_more, every_next, taps_none, taps_more}

-- ---- what is answered by a fault

pub same_number : {a b : Fault} → a ≡ b → a.refusal ≡ b.refusal
same_number e = ap (λ (f : Fault). f.refusal) e

module _ {A : Type 0} (accepted : A) (refused : Fault → A) where
  abbrev answer : Fault → A
  answer f = answered f.refusal accepted (λ n. refused f)

  pub fault_refused : (f r : Fault) → f ≡ r → (r.refusal ≡ 0 → ⊥) → refused r ≡ answer f
  fault_refused f r e bad = ap refused (sym e)
      ∙ sym (answered_refused accepted (λ n. refused f) f.refusal (λ z. bad (same_number (sym e) ∙ z)))

  pub fault_accepted : (f : Fault) → f.refusal ≡ 0 → accepted ≡ answer f
  fault_accepted f e = sym (answered_accepted accepted (λ n. refused f) f.refusal e)

-- ---- one walk after another

-- whether a walk found nothing
abbrev pub is_clear : Fault → Bool
is_clear f = eqb f.refusal 0

module _ (a b : Fault) where
  -- r is what the first walk answered: it stops there, or the second goes on
  pub else_stop : (r : Fault) → r ≡ a → (r.refusal ≡ 0 → ⊥) → r ≡ or_else a b
  unfolding or_else
  else_stop r e h = fault_refused b (λ f. f) a r (sym e) h

  pub else_on : (r : Fault) → r ≡ a → r.refusal ≡ 0 → or_else a b ≡ b
  unfolding or_else
  else_on r e h = sym (fault_accepted b (λ f. f) a (same_number (sym e) ∙ h))

  -- it finds nothing if both do
  pub clear_else : is_clear (or_else a b) ≡ (is_clear a && is_clear b)
  clear_else = test_cases (is_clear a) (λ e. rw (else_on a refl (eqb-true a.refusal 0 e), e))
      (λ e. rw (← else_stop a refl (eqb-false a.refusal 0 e), e))

  pub else_none : (or_else a b).refusal ≡ 0 → (a.refusal ≡ 0) × (b.refusal ≡ 0)
  else_none h =
      let both = (and-eq-true_iff (is_clear a) (is_clear b)).0 (sym clear_else ∙ eq-eqb (or_else a b).refusal 0 h) in
      (eqb-true a.refusal 0 both.0, eqb-true b.refusal 0 both.1)

  -- what holds of the first, and where it finds nothing of the second, holds of the first fault
  pub else_each : (P : Fault → Type 0) → P a → (a.refusal ≡ 0 → P b) → P (or_else a b)
  else_each P p q = go a.refusal refl
    where
      go : (n : ℕ) → a.refusal ≡ n → P (or_else a b)
      go zero e = subst P (sym (else_on a refl e)) (q e)
      go (suc n) e = subst P (else_stop a refl (λ z. suc-ne-zero n (sym e ∙ z))) p

  pub else_both : (P : Fault → Type 0) → P a → P b → P (or_else a b)
  else_both P p q = else_each P p (λ none. q)

  pub else_sound : a ≡ sound → b ≡ sound → or_else a b ≡ sound
  unfolding or_else
  else_sound e f = rw (e, f)

pub else_assoc : (a b c : Fault) → or_else (or_else a b) c ≡ or_else a (or_else b c)
unfolding or_else
else_assoc a b c = go a.refusal refl
  where
    go : (n : ℕ) → a.refusal ≡ n → or_else (or_else a b) c ≡ or_else a (or_else b c)
    go zero e = rw e
    go (suc n) e = rw e

-- ---- a field

-- a test with its number and its place
pub clear_unless : (good : Bool) (n at : ℕ) → 0 < n → is_clear (unless good n at) ≡ good
clear_unless true n at some = refl
clear_unless false n at some = ne_eqb n 0 (λ z. omega (arith, z, some))

module _ (good : Bool) (n at : ℕ) where
  pub unless_none : 0 < n → (unless good n at).refusal ≡ 0 → good ≡ true
  unless_none some e = sym (clear_unless good n at some) ∙ eq-eqb (unless good n at).refusal 0 e

  pub unless_passes : (f : Fault) → good ≡ true → or_else (unless good n at) f ≡ f
  unfolding or_else
  unless_passes f e = rw e

  pub unless_fails : (f : Fault) → 0 < n → good ≡ false → or_else (unless good n at) f ≡ wrong n at
  unfolding or_else
  unless_fails f some e = rw e (answered_refused f (λ m. wrong n at) n (λ z. omega (arith, some, z)))

  -- what holds of no fault, and of this one where the test does not hold
  pub unless_each : (P : Fault → Type 0) → P sound → (good ≡ false → P (wrong n at)) → P (unless good n at)
  unless_each P p q = by_test (λ b. P (unless b n at)) good (λ e. p) q

module _ (size at count n : ℕ) (good : Bool) where
  pub field_short : size < at + count → field size at count n good ≡ wrong 19 size
  unfolding field
  field_short h = rw (lt-ltb size (at + count) h)

  pub field_bad : at + count ≤ size → good ≡ false → field size at count n good ≡ wrong n at
  unfolding field
  field_bad h g = rw (le-ltb size (at + count) h, g)

  pub field_good : at + count ≤ size → good ≡ true → field size at count n good ≡ sound
  unfolding field
  field_good h g = rw (le-ltb size (at + count) h, g)

  -- one that ends in the file is good, or wrong there
  pub field_in : at + count ≤ size → field size at count n good ≡ unless good n at
  unfolding field
  field_in h = rw (le-ltb size (at + count) h)

  -- what holds of no fault, of a cut file and of a field that is wrong holds of a field
  pub field_each : (P : Fault → Type 0) → P sound → P (wrong 19 size)
      → (at + count ≤ size → good ≡ false → P (wrong n at)) → P (field size at count n good)
  field_each P p q r =
      elim (dec_lt size (at + count)) [
        | yes k ↦ rw (field_short k) q
        | no k ↦ rw (field_in (omega arith)) (unless_each good n at P p (r (omega arith)))
      ]

  pub field_none : 0 < n → (field size at count n good).refusal ≡ 0 → (at + count ≤ size) × (good ≡ true)
  field_none h e =
      elim (dec_lt size (at + count)) [
        | yes k ↦ absurd (omega (arith, e, same_number (field_short k)))
        | no k ↦ (omega arith, unless_none good n at h (same_number (sym (field_in (omega arith))) ∙ e))
      ]

-- ---- taps

pub tap_is : (s : List ℕ) (at : ℕ) → is_tap (float_at s at) ≡ finite (float_at s at)
unfolding float_at is_tap
tap_is s at = rw (is_true (fits binary32 (float_at s at)) (of_bits-fits binary32 (field_at s at 4)))

module _ (size : ℕ) (s : List ℕ) where
  pub taps_next : (at n : ℕ) → 0 < n → taps_fault size s at n ≡ or_else (field size at 4 18 (finite (float_at s at)))
      (taps_fault size s (at + 4) (n - 1))
  unfolding taps_fault
  taps_next at zero h = absurd (omega arith)
  taps_next at (suc n) h = rw (sub-one (suc n))

  pub taps_end : (at : ℕ) → taps_fault size s at 0 ≡ sound
  unfolding taps_fault
  taps_end at = refl

  taps_good : (at n : ℕ) → (taps_fault size s at n).refusal ≡ 0 → every is_tap (strided (float_at s) 4 at n) ≡ true
  unfolding taps_fault
  taps_good at zero e = every_none (float_at s) 4 is_tap at
  taps_good at (suc n) e =
      let both = else_none (field size at 4 18 (finite (float_at s at))) (taps_fault size s (at + 4) n) e in
      let here = field_none size at 4 18 (finite (float_at s at)) (omega arith) both.0 in
      every_more (float_at s) 4 is_tap at n ∙ (and-eq-true_iff _ _).1
      (tap_is s at ∙ here.1, taps_good (at + 4) n both.1)

  taps_sound : (at n : ℕ) → at + 4 * n ≤ size → every is_tap (strided (float_at s) 4 at n) ≡ true
      → taps_fault size s at n ≡ sound
  unfolding taps_fault
  taps_sound at zero h e = refl
  taps_sound at (suc n) h e =
      let both = (and-eq-true_iff _ _).0 (sym (every_more (float_at s) 4 is_tap at n) ∙ e) in
      else_sound _ _ (field_good size at 4 18 _ (omega arith) (sym (tap_is s at) ∙ both.0))
      (taps_sound (at + 4) n (omega arith) both.1)

-- ---- an elevation

module _ (size : ℕ) (s : List ℕ) (v at : ℕ) where
  -- version 1 has none, which is 0; any other has a field
  pub no_elevation : eqb v 1 ≡ true → elevation_fault size s v at ≡ sound
  unfolding elevation_fault
  no_elevation e = rw e

  pub elevation_field : eqb v 1 ≡ false → elevation_fault size s v at ≡ field size (at + 2) 2 20
      (is_elevation (signed_at s (at + 2)))
  unfolding elevation_fault
  elevation_field e = rw e

  pub elevation_none : at + 2 ≤ size → (elevation_fault size s v at).refusal ≡ 0
      → (taps_at v at ≤ size) × (is_elevation (elevation_at v s at) ≡ true)
  unfolding elevation_fault elevation_at is_elevation
  elevation_none h e = test_cases (eqb v 1) (λ k. rw k (omega (arith, h), refl))
      (λ k. let here = field_none size (at + 2) 2 20 (is_elevation (signed_at s (at + 2))) (omega arith) (rw k at e) in
      rw k (here.0, here.1))

  pub elevation_sound : taps_at v at ≤ size → is_elevation (elevation_at v s at) ≡ true
      → elevation_fault size s v at ≡ sound
  unfolding elevation_fault elevation_at
  elevation_sound h e = test_cases (eqb v 1) (λ k. rw k)
      (λ k. rw k (field_good size (at + 2) 2 20 _ (rw k at h) (rw k at e)))

-- ---- rows

-- how many bytes a row has that is not too long
pub one_size : (v l r : ℕ) → l ≤ 512 → r ≡ row_size v (min l 512) → r ≡ row_size v l
one_size v l r h e = omega (arith, h, e)

-- none of the i rows from 9 on has the pair that stands at an offset
abbrev pub New : List ℕ → ℕ → ℕ → ℕ → ℕ → Type 0
New s v l i at = is_new s v l (pair_in v s at) 9 i ≡ true

-- what n rows from `at` on say, with i rows before them, where the walk finds nothing
pub record Rows (size : ℕ) (s : List ℕ) (v l i at n : ℕ) : Type 0 where
  pub ends : size ≡ at + n * row_size v l
  pub azimuths : every is_azimuth (azimuths_from s v l at n) ≡ true
  pub elevations : every is_elevation (elevations_from s v l at n) ≡ true
  pub new : (j : ℕ) → j < n → New s v l (i + j) (at + j * row_size v l)
  pub taps : every is_tap (taps_from s v l at n) ≡ true

module _ (s : List ℕ) (v l : ℕ) where
  -- the walk over the pairs of n rows from `at` on
  module _ (p : Pair) (at n : ℕ) (more : 0 < n) where
    next : is_new s v l p at n ≡ (differ (pair_in v s at) p && is_new s v l p (at + row_size v l) (n - 1))
    unfolding is_new
    next = every_next (pair_in v s) (row_size v l) (λ (q : Pair). differ q p) at n more

    pub new_met : differ (pair_in v s at) p ≡ false → is_new s v l p at n ≡ false
    new_met h = rw (next, h)

    pub new_next : differ (pair_in v s at) p ≡ true → is_new s v l p at n ≡ is_new s v l p (at + row_size v l) (n - 1)
    new_next h = rw (next, h)

  pub new_end : (p : Pair) (at : ℕ) → is_new s v l p at 0 ≡ true
  unfolding is_new
  new_end p at = every_none (pair_in v s) (row_size v l) (λ (q : Pair). differ q p) at

  moved : (i j at to : ℕ) → i ≡ j → at ≡ to → New s v l i at → New s v l j to
  moved i j at to e f h = subst₂ (New s v l) e f h

  -- the taps of n rows and one more are taps if the first row's are, and the others'
  pub taps_parted : (at n : ℕ) → every is_tap (taps_from s v l at (suc n))
      ≡ (every is_tap (row_taps s v l at) && every is_tap (taps_from s v l (at + row_size v l) n))
  taps_parted at n = ap (every is_tap) (taps_more s v l at n)
      ∙ every_append is_tap (row_taps s v l at) (taps_from s v l (at + row_size v l) n)

module _ (size : ℕ) (s : List ℕ) (v l : ℕ) where
  pub rows_next : (i at n : ℕ) → 0 < n → rows_fault size s v l i at n ≡ or_else (row_fault size s v l i at)
      (rows_fault size s v l (i + 1) (at + row_size v l) (n - 1))
  unfolding rows_fault
  rows_next i at zero h = absurd (omega arith)
  rows_next i at (suc n) h = rw (sub-one (suc n))

  pub rows_end : (i at : ℕ) → rows_fault size s v l i at 0 ≡ cond (eqb size at) sound (wrong 14 1)
  unfolding rows_fault
  rows_end i at = refl

  -- what is walked over behind the azimuth of a row, and behind its elevation
  abbrev pub behind_elevation : ℕ → ℕ → Fault
  behind_elevation i at =
      or_else (unless (is_new s v l (pair_in v s at) 9 i) 17 (pair_at v at)) (taps_fault size s (taps_at v at) (2 * l))

  abbrev pub behind_azimuth : ℕ → ℕ → Fault
  behind_azimuth i at = or_else (elevation_fault size s v at) (behind_elevation i at)

  pub row_is : (i at : ℕ) → row_fault size s v l i at ≡ or_else (field size at 2 17 (is_azimuth (signed_at s at)))
      (behind_azimuth i at)
  unfolding row_fault
  row_is i at = refl

  -- what a row says that the walk finds nothing in
  record Row (i at : ℕ) : Type 0 where
    azimuth : is_azimuth (signed_at s at) ≡ true
    elevation : is_elevation (elevation_at v s at) ≡ true
    new : New s v l i at
    taps : every is_tap (row_taps s v l at) ≡ true

  row_none : (i at : ℕ) → (row_fault size s v l i at).refusal ≡ 0 → Row i at
  row_none i at e =
      let first = else_none _ _ (same_number (sym (row_is i at)) ∙ e) in
      let second = else_none _ _ first.1 in
      let third = else_none _ _ second.1 in
      let azimuth = field_none size at 2 17 _ (omega arith) first.0 in
      record {
        azimuth = azimuth.1;
        elevation = (elevation_none size s v at azimuth.0 second.0).1;
        new = unless_none _ 17 (pair_at v at) (omega arith) third.0;
        taps = taps_good size s (taps_at v at) (2 * l) third.1;
      }

  row_sound : (i at : ℕ) → at + row_size v l ≤ size → Row i at → row_fault size s v l i at ≡ sound
  row_sound i at h r =
      row_is i at
      ∙ else_sound _ _ (field_good size at 2 17 _ (omega (arith, h)) r.azimuth)
      (else_sound _ _ (elevation_sound size s v at (omega (arith, h)) r.elevation)
      (else_sound _ _ (rw r.new) (taps_sound size s (taps_at v at) (2 * l) (omega (arith, h)) r.taps)))

  pub rows_none : (i at n : ℕ) → (rows_fault size s v l i at n).refusal ≡ 0 → Rows size s v l i at n
  unfolding rows_fault
  rows_none i at zero e = record {
    ends = ended (eqb size at) refl;
    azimuths = every_none (signed_at s) (row_size v l) is_azimuth at;
    elevations = every_none (elevation_at v s) (row_size v l) is_elevation at;
    new = λ j h. absurd (omega arith);
    taps = ap (every is_tap) (taps_none s v l at);
  }
    where
      ended : (t : Bool) → eqb size at ≡ t → size ≡ at + 0 * row_size v l
      ended true k = eqb-true size at k ∙ omega arith
      ended false k = let z : ◌≡◌ {A = ℕ} 14 0 = rw k at e in absurd (omega arith)
  rows_none i at (suc n) e =
      let both = else_none (row_fault size s v l i at) (rows_fault size s v l (i + 1) (at + row_size v l) n) e in
      let row = row_none i at both.0 in
      let rest = rows_none (i + 1) (at + row_size v l) n both.1 in
      record {
        ends = rest.ends ∙ omega arith;
        azimuths = every_more (signed_at s) (row_size v l) is_azimuth at n
            ∙ (and-eq-true_iff _ _).1 (row.azimuth, rest.azimuths);
        elevations = every_more (elevation_at v s) (row_size v l) is_elevation at n
            ∙ (and-eq-true_iff _ _).1 (row.elevation, rest.elevations);
        new = elim [
          | zero ↦ λ h. moved s v l i (i + 0) at (at + 0 * row_size v l) (omega arith) (omega arith) row.new
          | suc j ↦ λ h. moved s v l (i + 1 + j) (i + suc j) (at + row_size v l + j * row_size v l)
              (at + suc j * row_size v l) (omega arith) (omega arith) (rest.new j (le_of_suc-le-suc h))
        ];
        taps = taps_parted s v l at n ∙ (and-eq-true_iff _ _).1 (row.taps, rest.taps);
      }

  pub rows_sound : (i at n : ℕ) → Rows size s v l i at n → rows_fault size s v l i at n ≡ sound
  unfolding rows_fault
  rows_sound i at zero r = rw (eq-eqb size at (r.ends ∙ omega arith))
  rows_sound i at (suc n) r =
      let azimuths = (and-eq-true_iff _ _).0
      (sym (every_more (signed_at s) (row_size v l) is_azimuth at n) ∙ r.azimuths) in
      let elevations = (and-eq-true_iff _ _).0
      (sym (every_more (elevation_at v s) (row_size v l) is_elevation at n) ∙ r.elevations) in
      let taps = (and-eq-true_iff _ _).0 (sym (taps_parted s v l at n) ∙ r.taps) in
      let ends = r.ends in
      else_sound _ _
      (row_sound i at (omega arith) (record {
        azimuth = azimuths.0;
        elevation = elevations.0;
        new = moved s v l (i + 0) i (at + 0 * row_size v l) at (omega arith) (omega arith) (r.new 0 (omega arith));
        taps = taps.0;
      }))
      (rows_sound (i + 1) (at + row_size v l) n (record {
        ends = ends ∙ omega arith;
        azimuths = azimuths.1;
        elevations = elevations.1;
        new =
            λ j h. moved s v l (i + suc j) (i + 1 + j) (at + suc j * row_size v l)
            (at + row_size v l + j * row_size v l)
            (omega arith) (omega arith) (r.new (suc j) (suc-le-suc h));
        taps = taps.1;
      }))

-- ---- the whole file

-- what a head says in which the walk finds nothing, and a file
pub record Head (size : ℕ) (s : List ℕ) : Type 0 where
  pub version : within 1 2 (version_in s) ≡ true
  pub rest : field_at s 1 4 ≡ size - 5
  pub few : within 1 8 (rows_in_of s) ≡ true
  pub short : within 1 512 (length_in s) ≡ true
  pub long : 9 ≤ size

pub record Whole (size : ℕ) (s : List ℕ) : Type 0 where
  pub head : Head size s
  pub all : Rows size s (version_in s) (length_in s) 0 9 (rows_in_of s)

one_value : (n m : ℕ) → within m m n ≡ true → n ≡ m
one_value n m h = let both = within_true m m n h in omega arith

pub head_none : (size : ℕ) (s : List ℕ) → (head_fault size s).refusal ≡ 0 → Head size s
unfolding head_fault head_field
head_none size s e =
    let version = else_none (head_field size s 0 1 13 1 2) _ e in
    let rest = else_none (head_field size s 1 4 14 (size - 5) (size - 5)) _ version.1 in
    let counts = else_none (head_field size s 5 2 15 1 8) _ rest.1 in
    record {
      version = (field_none size 0 1 13 _ (omega arith) version.0).1;
      rest = one_value _ _ (field_none size 1 4 14 _ (omega arith) rest.0).1;
      few = (field_none size 5 2 15 _ (omega arith) counts.0).1;
      short = (field_none size 7 2 16 _ (omega arith) counts.1).1;
      long = (field_none size 7 2 16 _ (omega arith) counts.1).0;
    }

head_sound : (size : ℕ) (s : List ℕ) → Head size s → head_fault size s ≡ sound
unfolding head_fault head_field
head_sound size s h =
    let nine = h.long in
    let rest : within (size - 5) (size - 5) (field_at s 1 4) ≡ true = rw h.rest
    (within_in (size - 5) (size - 5) (size - 5) (omega arith) (omega arith)) in
    else_sound _ _ (field_good size 0 1 13 _ (omega arith) h.version)
    (else_sound _ _ (field_good size 1 4 14 _ (omega arith) rest)
    (else_sound _ _ (field_good size 5 2 15 _ (omega arith) h.few)
    (field_good size 7 2 16 _ (omega arith) h.short)))

pub fault_is : (size : ℕ) (s : List ℕ) → fault_in size s ≡ or_else (head_fault size s)
    (rows_fault size s (version_in s) (length_in s) 0 9 (rows_in_of s))
unfolding fault_in
fault_is size s = refl

pub whole : (size : ℕ) (s : List ℕ) → (fault_in size s).refusal ≡ 0 → Whole size s
whole size s e =
    let parts = else_none _ _ (same_number (sym (fault_is size s)) ∙ e) in
    record {
      head = head_none size s parts.0;
      all = rows_none size s (version_in s) (length_in s) 0 9 (rows_in_of s) parts.1;
    }

pub nothing_found : (size : ℕ) (s : List ℕ) → Whole size s → fault_in size s ≡ sound
nothing_found size s w = fault_is size s ∙ else_sound _ _ (head_sound size s w.head)
    (rows_sound size s (version_in s) (length_in s) 0 9 (rows_in_of s) w.all)
