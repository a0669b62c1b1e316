-- The start of a file and its size tell its fault (`start_suffices`): no field that is looked at ends behind the
-- largest bank's last. Assumes nothing.
use Rattle.std.specs.Prelude.{◌≡◌, ◌⊎◌, ◌+◌, ◌-◌, ◌≤◌, ◌<◌}
use Rattle.lists.specs.Prelude.{refl, sym, ap, ap₂, ◌∙◌, true, false, List, inl, inr, ⊎_elim, ℕ, min, dec_lt}
use Rattle.lists.specs.Prelude.{ℕ_discrete, arith, eqb-true, leb-true, eq-eqb, ne_eqb, le-leb, lt-leb, T, eqb, leb}
use Rattle.lists.specs.Prelude.{length, length-take, take-length}
use Rattle.lists.proofs.Tests.{test_cases}
use Rattle.big_endian.specs.Fields.{field_at}
use Rattle.refusals.specs.Ranges.{within}
use Rattle.refusals.proofs.Ranges.{within_true, within_low}
use Rattle.bank_form.specs.Fault.{Fault}
use Rattle.bank_form.specs.Version.{largest_file}
use Rattle.bank_form.specs.Fault.{version_in, rows_in_of, length_in, sound, wrong, or_else, head_fault, head_field}
use Rattle.bank_form.specs.Fault.{fault_in, fault}
use Rattle.bank_form.specs.FaultLaws.{row_place, Begins, Exceeds, TakenFrom, suffices, StartSuffices}
use Rattle.bank_form.proofs.Walk.{same_number, Head, else_stop, field_in, head_none, fault_is, whole}
use Rattle.big_endian.proofs.Starts.{SameStart, start_agrees}
use Rattle.bank_form.proofs.Agree.{head_agrees, fault_agrees}
use Rattle.bank_form.proofs.RoundTrip.{rows_reach}

-- ---- the start

-- a head without fault has at most 8 rows of 512 taps for each ear
head_reach : (size : ℕ) (s : List ℕ) → Head size s → row_place s (rows_in_of s) ≤ largest_file
head_reach size s head = omega (
  arith,
  rows_reach (version_in s) (rows_in_of s) 8 (length_in s)
      (within_true 1 8 (rows_in_of s) head.few).1 (within_true 1 512 (length_in s) head.short).1,
)

module _ (size k : ℕ) (s t : List ℕ) (same : SameStart k s t) (long : largest_file ≤ k) where
  -- a head with a fault is all that is looked at
  head_wrong : ((head_fault size s).refusal ≡ 0 → ⊥) → fault_in size t ≡ fault_in size s
  head_wrong bad = fault_is size t
      ∙ sym (else_stop _ _ (head_fault size s) (sym (head_agrees k s t same size (omega arith))) bad)
      ∙ else_stop _ _ (head_fault size s) refl bad ∙ sym (fault_is size s)

  -- and behind one without all rows are among the first k bytes
  head_right : (head_fault size s).refusal ≡ 0 → fault_in size t ≡ fault_in size s
  head_right good = fault_agrees k s t same size (omega (arith, head_reach size s (head_none size s good)))

  start_told : fault_in size t ≡ fault_in size s
  start_told =
      elim (ℕ_discrete (head_fault size s).refusal 0) [
        | yes e ↦ head_right e
        | no h ↦ head_wrong h
      ]

-- a start that is enough is the whole file, or has as many bytes as the largest bank
enough_is : (have size : ℕ) → T (suffices have size) → (have ≡ size) ⊎ (largest_file ≤ have)
enough_is have size h = test_cases (eqb have size) (λ e. inl (eqb-true have size e))
    (λ e. test_cases (leb largest_file have) (λ f. inr (leb-true largest_file have f)) (λ f. absurd (rw (e, f) at h)))

-- a start as long as the file is the file
all_of : (start : List ℕ) (size : ℕ) (file : List ℕ) → Begins start size file → length start ≡ size → file ≡ start
all_of start size file begins e = cc (take-length file, begins.long, e, begins.same)

-- ---- what is enough of a file

module _ (have size : ℕ) where
  pub enough_all : have ≡ size → suffices have size ≡ true
  enough_all e = rw (eq-eqb have size e)

  module _ (other : have ≡ size → ⊥) where
    pub enough_few : have < largest_file → suffices have size ≡ false
    enough_few h = rw (ne_eqb have size other, lt-leb largest_file have h)

    pub enough_first : largest_file ≤ have → suffices have size ≡ leb have size
    enough_first h = rw (ne_eqb have size other, le-leb largest_file have h)

  -- all of it, or as much as the largest bank has
  pub enough_kept : have ≡ min size largest_file → suffices have size ≡ true
  enough_kept e =
      elim (dec_lt size largest_file) [
        | yes h ↦ enough_all (omega (arith, e, h))
        | no h ↦ elim (ℕ_discrete have size) [
          | yes all ↦ enough_all all
          | no other ↦ enough_first other (omega (arith, e, h))
              ∙ le-leb have size (omega (arith, e))
        ]
      ]

-- ---- a file of that size

module _ (start : List ℕ) (size : ℕ) (file : List ℕ) (enough : T (suffices (length start) size))
    (begins : Begins start size file) where
  told_of_size : fault_in size start ≡ fault file
  told_of_size = ⊎_elim all some (enough_is (length start) size enough)
    where
      all : length start ≡ size → fault_in size start ≡ fault file
      all e = ap₂ fault_in (sym begins.long) (sym (all_of start size file begins e))

      some : largest_file ≤ length start → fault_in size start ≡ fault file
      some h =
          start_told size (length start) file start
          (start_agrees (length start) file start (take-length start ∙ sym begins.same)) h
          ∙ ap (λ (n : ℕ). fault_in n file) (sym begins.long)

  -- one without fault is all in its start
  whole_of_size : (fault_in size start).refusal ≡ 0 → file ≡ start
  whole_of_size none =
      let w = whole size start none in
      let reach = head_reach size start w.head in
      let most = sym (ap length begins.same) ∙ length-take (length start) file in
      let all : length start ≡ size =
      ⊎_elim (λ e. e) (λ h. omega (arith, h, reach, w.all.ends, begins.long, most))
      (enough_is (length start) size enough) in
      all_of start size file begins all

-- ---- a longer file

-- nothing behind a version that is wrong is looked at, and nothing behind a length
stops_at_version : (x y : Fault) → or_else (or_else (wrong 13 0) x) y ≡ wrong 13 0
unfolding or_else
stops_at_version x y = refl

stops_at_length : (x y : Fault) → or_else (or_else sound (or_else (wrong 14 1) x)) y ≡ wrong 14 1
unfolding or_else
stops_at_length x y = refl

module _ (s : List ℕ) (size : ℕ) where
  other_version : within 1 2 (field_at s 0 1) ≡ false → 1 ≤ size → fault_in size s ≡ wrong 13 0
  unfolding head_fault head_field
  other_version e h = fault_is size s ∙ rw (field_in size 0 1 13 (within 1 2 (field_at s 0 1)) (omega (arith, h)), e)
      (stops_at_version _ _)

  longer_than_said : within 1 2 (field_at s 0 1) ≡ true → 6 + field_at s 1 4 ≤ size → fault_in size s ≡ wrong 14 1
  unfolding head_fault head_field
  longer_than_said e h =
      let other : within (size - 5) (size - 5) (field_at s 1 4) ≡ false = within_low (size - 5) (size - 5)
      (field_at s 1 4) (omega (arith, h)) in
      fault_is size s
      ∙ rw (
        field_in size 0 1 13 (within 1 2 (field_at s 0 1)) (omega (arith, h)),
        e,
        field_in size 1 4 14 (within (size - 5) (size - 5) (field_at s 1 4)) (omega (arith, h)),
        other,
      )
      (stops_at_length _ _)

module _ (start : List ℕ) (size : ℕ) (file : List ℕ) (enough : T (suffices (length start) size))
    (x : Exceeds start size file) where
  same : SameStart (length start) start file
  same = start_agrees (length start) start file (x.same ∙ sym (take-length start))

  -- so many bytes of the file are in the start
  held : (n : ℕ) → n ≤ largest_file → n ≤ size → n ≤ length start
  held n few h = ⊎_elim (λ e. omega (arith, e, h)) (λ g. omega (arith, g, few)) (enough_is (length start) size enough)

  -- one fault for both
  told_of_longer : (f : Fault) × (fault_in size start ≡ f) × (fault file ≡ f) × (f.refusal ≡ 0 → ⊥)
  told_of_longer = test_cases (within 1 2 (field_at start 0 1))
      (λ e.
      let six : 6 + field_at start 1 4 ≤ size = rw e at x.past in
      let five = held 5 (omega arith) (omega (arith, six)) in
      let version = ap (within 1 2) (same 0 1 (omega (arith, five))) ∙ e in
      let long : 6 + field_at file 1 4 ≤ length file = omega (arith, six, x.more, same 1 4 five) in (
        wrong 14 1,
        longer_than_said start size e six,
        longer_than_said file (length file) version long,
        λ z. omega (arith, z),
      ))
      (λ e.
      let one : 1 ≤ size = rw e at x.past in
      let version = ap (within 1 2) (same 0 1 (held 1 (omega arith) one)) ∙ e in (
        wrong 13 0,
        other_version start size e one,
        other_version file (length file) version (omega (arith, one, x.more)),
        λ z. omega (arith, z),
      ))

-- ---- what is kept of a file

pub start_suffices : StartSuffices
start_suffices start size file enough kept =
    ⊎_elim (told_of_size start size file enough) (λ x. let t =
    told_of_longer start size file enough x in t.1 ∙ sym t.2) kept

-- a file without fault is all in a start that is enough
pub whole_start : (start : List ℕ) (size : ℕ) (file : List ℕ) → T (suffices (length start) size)
    → TakenFrom start size file → (fault_in size start).refusal ≡ 0 → file ≡ start
whole_start start size file enough kept none =
    ⊎_elim (λ b. whole_of_size start size file enough b none)
    (λ x. let t = told_of_longer start size file enough x in absurd
    (t.3 (same_number (sym t.1) ∙ none))) kept
