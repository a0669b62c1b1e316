-- What reading and writing answer at each of their tests, and what a caller learns from an answer. Assumes nothing.
use Rattle.std.specs.Prelude.{◌≡◌, ◌&&◌, ◌⊎◌, ◌+◌, ◌-◌, ◌*◌, ◌^◌, ◌≤◌, ◌<◌}
use Rattle.lists.specs.Prelude.{refl, sym, ap, ap₂, ◌∙◌, Bool, true, false, and-eq-true_iff, List, inl, inr, ℕ, zero}
use Rattle.lists.specs.Prelude.{suc, ℕ_discrete, arith, eq-eqb, ne_eqb, eqb-true, T, eqb, Float, ℤ, length}
use lib.Ieee.Bits.{is_true}
use Rattle.lists.proofs.Tests.{test_cases}
use Rattle.refusals.proofs.First.{answered_number}
use Rattle.refusals.specs.Ranges.{within}
use Rattle.lists.specs.Placed.{placed}
use Rattle.bank_form.specs.Fault.{Fault}
use Rattle.bank_form.specs.Bank.{Bank, rows}
use Rattle.bank_form.specs.Encoding.{encode}
use Rattle.bank_form.specs.Version.{row_size}
use Rattle.bank_form.specs.Fault.{azimuths_from, elevations_from, taps_from, version_in, rows_in_of, length_in, bank_in}
use Rattle.bank_form.specs.Fault.{wrong, or_else, unless, fault_in, fault, is_file}
use Rattle.bank_form.specs.FaultLaws.{TakenFrom, suffices}
use Rattle.bank_form.specs.WriteFault.{counts_fault, write_fault}
use Rattle.bank_form.proofs.Exact.{rows_in, exactly, none_found}
use Rattle.bank_form.proofs.Walk.{same_number, fault_refused, fault_accepted, else_stop, else_none, unless_none}
use Rattle.bank_form.proofs.Walk.{unless_passes, unless_fails}
use Rattle.bank_form.proofs.Start.{start_suffices, whole_start}
use Rattle.bank_form.proofs.RoundTrip.{Counted, length_encode}
use Rattle.refusals.proofs.Ranges.{within_true}
use Rattle.bank.specs.Reading.{ReadOutcome, after_lists, read_refused, read_bank, read_as, read_refusal, read_outcome}
use Rattle.bank.specs.Reading.{start_refusal, start_outcome, ReadStartPromise}
use Rattle.bank.specs.Writing.{WriteOutcome, lengths_fit, write_refusal, write_refused, write_bank, write_as}
use Rattle.bank.specs.Writing.{write_outcome}

-- ---- reading

module _ (zs es : List ℤ) (xs : List Float) where
  -- the lists have their lengths
  abbrev pub ListsFit : Bool
  ListsFit = eqb (length zs) 8 && eqb (length es) 8 && eqb (length xs) 8192

  -- what a refusal leaves
  abbrev refused : Fault → ReadOutcome
  refused f = read_refused f zs es xs

  pub as_told : (f : Fault) (b : Bank) → (read_as f b zs es xs).answer.refusal ≡ f.refusal
  as_told f b =
      answered_number (read_bank b zs es xs) (λ k. read_refused f zs es xs) (λ (o : ReadOutcome). o.answer.refusal)
      refl f.refusal refl

  -- the same refusal, and the same bank where there is none
  as_same : (f g : Fault) (b c : Bank) → f ≡ g → (f.refusal ≡ 0 → b ≡ c) → read_as f b zs es xs ≡ read_as g c zs es xs
  as_same f g b c e same =
      elim (ℕ_discrete f.refusal 0) [
        | yes z ↦ ap₂ (λ (q : Fault) (r : Bank). read_as q r zs es xs) e (same z)
        | no bad ↦ sym (fault_refused _ refused f f refl bad) ∙ fault_refused _ refused g f (sym e) bad
      ]

  wrong_lists : (bank : Fault) → ListsFit ≡ false → after_lists bank zs es xs ≡ wrong 5 0
  wrong_lists bank h = unless_fails _ 5 0 _ (omega arith) h

  right_lists : (bank : Fault) → ListsFit ≡ true → after_lists bank zs es xs ≡ bank
  right_lists bank h = unless_passes _ 5 0 _ h

  -- so a refusal is for a length, or the bank's
  pub wrong_or_bank : (bank : Fault) → (after_lists bank zs es xs ≡ wrong 5 0) ⊎ (after_lists bank zs es xs ≡ bank)
  wrong_or_bank bank = test_cases ListsFit (λ e. inr (right_lists bank e)) (λ e. inl (wrong_lists bank e))

  pub record Lists : Type 0 where
    pub azimuths : length zs ≡ 8
    pub elevations : length es ≡ 8
    pub taps : length xs ≡ 8192

  pub lists_fit : Lists → ListsFit ≡ true
  lists_fit l = rw (eq-eqb _ _ l.azimuths, eq-eqb _ _ l.elevations, eq-eqb _ _ l.taps)

  pub lists_are : ListsFit ≡ true → Lists
  lists_are h =
      let both = (and-eq-true_iff _ (eqb (length xs) 8192)).0 h in
      let first = (and-eq-true_iff (eqb (length zs) 8) (eqb (length es) 8)).0 both.0 in
      record { azimuths = eqb-true _ _ first.0; elevations = eqb-true _ _ first.1; taps = eqb-true _ _ both.1 }

  pub record Accepted (bank : Fault) : Type 0 where
    pub lists : Lists
    pub none : bank.refusal ≡ 0

  pub lists_accepted : (bank : Fault) → (after_lists bank zs es xs).refusal ≡ 0 → Accepted bank
  lists_accepted bank e =
      let first = else_none (unless ListsFit 5 0) bank e in
      record { lists = lists_are (unless_none _ 5 0 (omega arith) first.0); none = first.1 }

  -- ---- of a start

  module _ (start : List ℕ) (size : ℕ) where
    -- the start, and then what is wrong with the bank
    abbrev start_wrong : Fault
    start_wrong = or_else (unless (suffices (length start) size) 5 0) (fault_in size start)

    start_refused : (g : Fault) → start_refusal start size zs es xs ≡ g → (g.refusal ≡ 0 → ⊥)
        → read_refused g zs es xs ≡ start_outcome start size zs es xs
    unfolding start_outcome
    start_refused g e bad = fault_refused _ refused (start_refusal start size zs es xs) g e bad

    pub lists_lent : ListsFit ≡ false → read_refused (wrong 5 0) zs es xs ≡ start_outcome start size zs es xs
    unfolding start_refusal
    lists_lent h = start_refused (wrong 5 0) (wrong_lists start_wrong h) (λ z. omega (arith, z))

    module _ (fit : ListsFit ≡ true) where
      pub start_lent : suffices (length start) size ≡ false
          → read_refused (wrong 5 0) zs es xs ≡ start_outcome start size zs es xs
      unfolding start_refusal
      start_lent h = start_refused (wrong 5 0)
          (right_lists start_wrong fit ∙ unless_fails (suffices (length start) size) 5 0 (fault_in size start)
          (omega arith) h) (λ z. omega (arith, z))

      module _ (enough : suffices (length start) size ≡ true) where
        judged : start_refusal start size zs es xs ≡ fault_in size start
        unfolding start_refusal
        judged = right_lists start_wrong fit ∙ unless_passes (suffices (length start) size) 5 0 (fault_in size start)
            enough

        pub broken : (r : Fault) → r ≡ fault_in size start → (r.refusal ≡ 0 → ⊥)
            → read_refused r zs es xs ≡ start_outcome start size zs es xs
        broken r e bad = start_refused r (judged ∙ sym e) bad

        pub accepted : (fault_in size start).refusal ≡ 0 → read_bank (bank_in start) zs es xs
            ≡ start_outcome start size zs es xs
        unfolding start_outcome
        accepted none = fault_accepted _ refused (start_refusal start size zs es xs) (same_number judged ∙ none)

    -- what is left is what reading a file leaves that they were taken from
    module _ (file : List ℕ) (enough : T (suffices (length start) size)) (kept : TakenFrom start size file) where
      start_fault : start_refusal start size zs es xs ≡ read_refusal file zs es xs
      unfolding start_refusal read_refusal
      start_fault =
          let yes = is_true (suffices (length start) size) enough in
          ap (λ (f : Fault). after_lists f zs es xs)
          (unless_passes (suffices (length start) size) 5 0 (fault_in size start) yes
          ∙ start_suffices start size file enough kept)

      whole_file : (start_refusal start size zs es xs).refusal ≡ 0 → bank_in start ≡ bank_in file
      unfolding start_refusal
      whole_file e =
          let none = else_none (unless (suffices (length start) size) 5 0) (fault_in size start)
          (lists_accepted _ e).none in
          ap bank_in (sym (whole_start start size file enough kept none.1))

      start_reads : start_outcome start size zs es xs ≡ read_outcome file zs es xs
      unfolding start_outcome read_outcome
      start_reads = as_same (start_refusal start size zs es xs) (read_refusal file zs es xs) (bank_in start)
          (bank_in file) start_fault whole_file

  -- ---- of a whole file, in lists of the lengths asked for

  module _ (file : List ℕ) (lists : Lists) where
    found : read_refusal file zs es xs ≡ fault file
    unfolding read_refusal
    found = right_lists (fault file) (lists_fit lists)

    pub read_good : is_file file ≡ true → read_bank (bank_in file) zs es xs ≡ read_outcome file zs es xs
    unfolding read_outcome
    read_good h = fault_accepted _ refused (read_refusal file zs es xs) (same_number found ∙ none_found file h)

    pub read_bad : (f : Fault) → fault file ≡ f → (f.refusal ≡ 0 → ⊥)
        → read_refused f zs es xs ≡ read_outcome file zs es xs
    unfolding read_outcome
    read_bad f e bad = fault_refused _ refused (read_refusal file zs es xs) f (found ∙ e) bad

  pub reads_start : (start : List ℕ) (size : ℕ) (o : ReadOutcome) → o ≡ start_outcome start size zs es xs
      → ReadStartPromise start size zs es xs o
  reads_start start size o e = record {
    bits = e;
    words = λ file bytes enough kept. record {
      bits = e ∙ start_reads start size file enough kept;
      words = exactly file bytes;
    };
  }

module _ (file : List ℕ) (zs es : List ℤ) (xs : List Float) where
  -- what stands in the lists once the rows are filled in
  pub filled : (v n l : ℕ) (ys ts : List ℤ) (ws : List Float) → v ≡ version_in file → n ≡ rows_in_of file
      → l ≡ length_in file
      → ys ≡ placed zs 0 (azimuths_from file v l 9 n) → ts ≡ placed es 0 (elevations_from file v l 9 n)
      → ws ≡ placed xs 0 (taps_from file v l 9 n)
      → ◌≡◌ {A = ReadOutcome}
      (record {
        answer = record { refusal = 0; offset = 0; rows = n; length = l };
        azimuths = ys;
        elevations = ts;
        taps = ws;
      }) (read_bank (bank_in file) zs es xs)
  filled v n l ys ts ws d e f g k h =
      let zs' : ys ≡ placed zs 0 (bank_in file).azimuths = rw (d, e, f) at g in
      let es' : ts ≡ placed es 0 (bank_in file).elevations = rw (d, e, f) at k in
      let xs' : ws ≡ placed xs 0 (bank_in file).taps = rw (d, e, f) at h in
      λ i. record {
        answer = record { refusal = 0; offset = 0; rows = (e ∙ sym (rows_in file)) i; length = f i };
        azimuths = zs' i;
        elevations = es' i;
        taps = xs' i;
      }

-- ---- the lengths that writing is lent, as numbers: n rows, and so many elevations, taps and bytes

-- the bytes behind the head are as many as 64 bits hold: without taps those of the rows alone, and with some at most
-- twice the taps'
pub bytes_fit : (n taps l : ℕ) → taps ≡ 2 * n * l → n * 2 < 2 ^ 63 → taps * 4 < 2 ^ 63 → n * 4 + taps * 4 < 2 ^ 64
bytes_fit n taps zero e h g = omega (arith, h, e)
bytes_fit n taps (suc k) e h g = omega (arith, g, e)

module _ (n elevations taps l file : ℕ) where
  abbrev Fit : Bool
  Fit = eqb elevations n && eqb taps (2 * n * l) && eqb file (9 + n * row_size 2 l)

  pub same_length : elevations ≡ n → taps ≡ 2 * n * l → 9 ≤ file → eqb (file - 9) (n * 4 + taps * 4) ≡ Fit
  same_length paired counted h =
      let fit : Fit ≡ eqb file (9 + n * row_size 2 l) = rw (
        eq-eqb elevations n paired,
        eq-eqb taps (2 * n * l) counted,
      ) in
      elim (ℕ_discrete file (9 + n * row_size 2 l)) [
        | yes k ↦ eq-eqb (file - 9) (n * 4 + taps * 4) (omega arith) ∙ sym (fit ∙ eq-eqb file _ k)
        | no k ↦ ne_eqb (file - 9) (n * 4 + taps * 4) (λ g. k (omega arith)) ∙ sym (fit ∙ ne_eqb file _ k)
      ]

-- ---- writing

-- counts that are right, and those that are not
pub counts_fit : (n l : ℕ) → (counts_fault n l).refusal ≡ 0 → (n ≤ 8) × (l ≤ 512)
counts_fit n l e =
    let both = else_none (unless (within 1 8 n) 15 5) (unless (within 1 512 l) 16 7) e in (
      (within_true 1 8 n (unless_none _ 15 5 (omega arith) both.0)).1,
      (within_true 1 512 l (unless_none _ 16 7 (omega arith) both.1)).1,
    )

pub counts_break : (v : ℕ) (b : Bank) (r : Fault) → r ≡ counts_fault (rows b) b.length → (r.refusal ≡ 0 → ⊥)
    → r ≡ write_fault v b
unfolding write_fault
counts_break v b r e bad = else_stop (counts_fault (rows b) b.length) _ r e bad

module _ (v : ℕ) (b : Bank) (file : List ℕ) where
  pub told_as : (f : Fault) → (write_as f v b file).answer.refusal ≡ f.refusal
  told_as f = answered_number (write_bank v b) (λ k. write_refused f file) (λ (w : WriteOutcome). w.answer.refusal) refl
      f.refusal refl

  pub wrote : (n : ℕ) (last : List ℕ) → n ≡ length (encode v b) → last ≡ encode v b
      → ◌≡◌ {A = WriteOutcome} (record { answer = record { refusal = 0; offset = 0; bytes = n }; file = last })
      (write_bank v b)
  wrote n last e f = λ i. record { answer = record { refusal = 0; offset = 0; bytes = e i }; file = f i }

module _ (b : Bank) (file : List ℕ) where
  pub record LengthsFit : Type 0 where
    pub counted : Counted b
    pub size : length file ≡ length (encode 2 b)

  -- as numbers
  abbrev sizes_fit : Bool
  sizes_fit = Fit (rows b) (length b.elevations) (length b.taps) b.length (length file)

  counted_if : length b.elevations ≡ rows b → length b.taps ≡ 2 * rows b * b.length → Counted b
  counted_if e f = record { paired = e; count = f ∙ omega arith }

  -- a file has the size that its counts ask for
  sizes_same : sizes_fit ≡ lengths_fit b file
  sizes_same = go (eqb (length b.elevations) (rows b)) (eqb (length b.taps) (2 * rows b * b.length)) refl refl
    where
      go : (s t : Bool) → eqb (length b.elevations) (rows b) ≡ s
          → eqb (length b.taps) (2 * rows b * b.length) ≡ t → sizes_fit ≡ lengths_fit b file
      go false t e f = rw e
      go true false e f = rw (e, f)
      go true true e f = rw (e, f)
          (ap (eqb (length file)) (sym (length_encode 2 b (counted_if (eqb-true _ _ e) (eqb-true _ _ f)))))

  pub sizes_refused : sizes_fit ≡ false → write_refused (wrong 5 0) file ≡ write_outcome b file
  unfolding write_outcome write_refusal
  sizes_refused h = fault_refused _ (λ f. write_refused f file) (write_refusal b file) (wrong 5 0)
      (unless_fails (lengths_fit b file) 5 0 _ (omega arith) (sym sizes_same ∙ h)) (λ z. omega (arith, z))

  lengths_are : lengths_fit b file ≡ true → LengthsFit
  lengths_are h =
      let both = (and-eq-true_iff _ (eqb (length file) (length (encode 2 b)))).0 h in
      let first = (and-eq-true_iff (eqb (length b.elevations) (rows b))
      (eqb (length b.taps) (2 * rows b * b.length))).0 both.0 in
      record { counted = counted_if (eqb-true _ _ first.0) (eqb-true _ _ first.1); size = eqb-true _ _ both.1 }

  pub sizes_fit_lem : sizes_fit ≡ true → LengthsFit
  sizes_fit_lem h = lengths_are (sym sizes_same ∙ h)

  lengths_fit_lem : LengthsFit → lengths_fit b file ≡ true
  lengths_fit_lem l = rw (
    eq-eqb _ _ l.counted.paired,
    eq-eqb (length b.taps) (2 * rows b * b.length)
        (l.counted.count ∙ omega arith),
    eq-eqb _ _ l.size,
  )

  judged_bank : LengthsFit → write_refusal b file ≡ write_fault 2 b
  unfolding write_refusal
  judged_bank l = unless_passes _ 5 0 _ (lengths_fit_lem l)

  pub breaks : LengthsFit → (r : Fault) → r ≡ write_fault 2 b → (r.refusal ≡ 0 → ⊥)
      → write_refused r file ≡ write_outcome b file
  unfolding write_outcome
  breaks l r e bad = fault_refused _ (λ f. write_refused f file) (write_refusal b file) r (judged_bank l ∙ sym e) bad

  pub written : LengthsFit → (write_fault 2 b).refusal ≡ 0 → write_bank 2 b ≡ write_outcome b file
  unfolding write_outcome
  written l none = fault_accepted _ (λ f. write_refused f file) (write_refusal b file)
      (same_number (judged_bank l) ∙ none)

  pub written_lengths : (write_refusal b file).refusal ≡ 0 → LengthsFit × ((write_fault 2 b).refusal ≡ 0)
  unfolding write_refusal
  written_lengths e =
      let first = else_none (unless (lengths_fit b file) 5 0) (write_fault 2 b) e in
      (lengths_are (unless_none _ 5 0 (omega arith) first.0), first.1)
