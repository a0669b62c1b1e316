-- A bank that keeps the form is never refused: `set_up_accepted` of one call, `never_refused` of every call of a run,
-- and `never_refused_from` from the bank file on; and before the first call the set-ups and the reset accept it too.
-- Assumes nothing.
use Rattle.std.specs.Prelude.{◌≡◌, ◌∷◌, ◌*◌, ◌≤◌, ◌<◌}
use Rattle.lists.specs.Prelude.{refl, sym, ap, ◌∙◌, subst, true, false, not, and-eq-true_iff, List, [], ℕ, zero-add}
use Rattle.lists.specs.Prelude.{arith, lt-leb, leb, ℤ, length, get_or, replicate, length-replicate, Float, binary32}
use Rattle.lists.specs.Prelude.{fits}
use lib.Ieee.Scale.{finite}
use Rattle.refusals.specs.Refusals.{outside}
use Rattle.formats.specs.Floats.{zero_float}
use Rattle.checks.specs.Finite.{has_nonfinite}
use Rattle.checks.proofs.Checks.{both_off, all_off, not_outside, count_inside, equal_passes}
use Rattle.bank_form.specs.Bank as Form
use Rattle.lists.specs.Tables.{every}
use Rattle.lists.proofs.Placed.{length_placed}
use Rattle.bank_form.specs.Bank.{Bank, is_tap, valid}
use Rattle.bank_form.specs.Fault.{bank_in}
use Rattle.bank_form.proofs.Exact.{keeps, paired_in}
use Rattle.bank.specs.Reading.{ReadOutcome, ReadPromise, bank_found}
use Rattle.bank.proofs.Meets.{Lists}
use Rattle.bank.proofs.Laws.{accepted_parts, accepted_is, is_accepted, read_is}
use Rattle.hrtf_desk.specs.declared.Desk.{Desk}
use Rattle.hrtf_history.specs.Setup.{Setup}
use Rattle.hrtf_rings.specs.State.{State, StateFits}
use Rattle.hrtf_rings.proofs.RingsHoldHistory.{left_fits}
use Rattle.hrtf_rings.proofs.Blocks.{rings_room, waits_few}
use Rattle.hrtf_checks.specs.Call.{BlockCall, setup, frames_in}
use Rattle.hrtf_checks.specs.Refusals.{misshapen, refusal_of}
use Rattle.hrtf_checks.proofs.Refusing.{lengths_fit_lem, on_desk, accept}
use Rattle.hrtf.specs.Promise.{state_after}
use Rattle.hrtf.specs.Reset.{reset_refusal, ResetOutcome, ResetPromise}
use Rattle.hrtf.proofs.Meets.{outcome_computed, reset_accepts, reset_number}
use Rattle.hrtf_setup.specs.Arrangement.{Wanted, Arrangement, arranged_by, arrangement}
use Rattle.hrtf_setup.specs.Arrangement as Arranging
use Rattle.hrtf_setup.specs.Promise.{ArrangePromise}
use Rattle.hrtf_setup.proofs.Accepted.{Playable, set_up_lem, surround_playable, ambisonic_playable}
use Rattle.hrtf_runs.specs.Runs.{next}
use Rattle.hrtf_runs.specs.NeverRefused.{shape_of, call_with, Fitted, AllFitted, NoneRefused, NeverRefused}
use Rattle.hrtf_runs.proofs.Demand.{reset_starts}

-- ---- a bank that keeps the form

pub taps_sound : (xs : List Float) → every is_tap xs ≡ true → has_nonfinite xs ≡ false
unfolding is_tap
taps_sound [] e = refl
taps_sound (x ∷ xs) e =
    let p = (and-eq-true_iff (is_tap x) (every is_tap xs)).0 e in
    let q = (and-eq-true_iff (fits binary32 x) (finite x)).0 p.0 in
    both_off (not (finite x)) (has_nonfinite xs) (ap not q.1) (taps_sound xs p.1)

-- ---- what is set up has counts and rows that the convolver takes

well_shaped : (b : Bank) (o : Arrangement) → Playable (Form.rows b) o → outside (Form.rows b) 8 ≡ false
    → misshapen (shape_of b o) o.rows ≡ false
well_shaped b o p few =
    both_off _ _ (count_inside o.answer.speakers 8 p.speakers.0 p.speakers.1)
    (both_off _ _ few
    (both_off _ _ (count_inside o.answer.channels 16 p.channels.0 p.channels.1)
    (all_off 0 o.answer.speakers (λ s. leb (Form.rows b) (get_or o.rows s 0))
    (λ s h. ap (λ (k : ℕ). leb (Form.rows b) (get_or o.rows k 0)) (zero-add s)
    ∙ lt-leb (Form.rows b) (get_or o.rows s 0) (p.chosen s h)))))

-- ---- one call

module _ (b : Bank) (v : valid b ≡ true) (o : Arrangement) (p : Playable (Form.rows b) o) (c : BlockCall)
    (f : Fitted b o c)
    (t : State) (fits : StateFits o.answer.speakers b.length t) where
  made : c ≡ call_with b o c.frames c.stride c.inputs c.ears
  made = λ i. record {
    shape = f.shape i;
    frames = c.frames;
    stride = c.stride;
    inputs = c.inputs;
    weights = f.weights i;
    rows = f.rows i;
    taps = f.taps i;
    ears = c.ears;
  }

  pub set_up_accepted : refusal_of c t ≡ 0
  set_up_accepted =
      let form = keeps b v in
      ap (λ (d : BlockCall). refusal_of d t) made
      ∙ sym (accept (call_with b o c.frames c.stride c.inputs c.ears) t (
        well_shaped b o p (ap not form.few),
        (
          ap not form.short,
          (
            lengths_fit_lem (shape_of b o) _ _ _ _ _ _ _ f.room f.inputs f.ears fits.ringed p.weighed
                form.count,
            (
              both_off _ _ p.sound (taps_sound b.taps form.numbers),
              (on_desk t.desk b.length fits.within fits.waits, tt),
            ),
          ),
        ),
      ))

-- ---- what a block leaves fits again

pub next_fits : (speakers : ℕ) (c : BlockCall) (t : State) → refusal_of c t ≡ 0 → StateFits speakers c.shape.length t
    → StateFits speakers c.shape.length (next c t)
next_fits speakers c t e r = subst (StateFits speakers c.shape.length)
    (sym (ap state_after (outcome_computed c t e))) (left_fits (setup c) speakers t (frames_in c) r)

-- ---- and so every call of a run

module _ (b : Bank) (v : valid b ≡ true) (o : Arrangement) (p : Playable (Form.rows b) o) where
  pub never_refused : (cs : List BlockCall) → AllFitted b o cs → (t : State)
      → StateFits o.answer.speakers b.length t
      → NoneRefused t cs
  never_refused [] fs t r = tt
  never_refused (c ∷ cs) fs t r =
      let e = set_up_accepted b v o p c fs.0 t r in
      let long : c.shape.length ≡ b.length = λ i. (fs.0.shape i).length in (
        e,
        never_refused cs fs.1 (next c t)
            (subst (λ (L : ℕ). StateFits o.answer.speakers L (next c t)) long
            (next_fits o.answer.speakers c t e
            (subst (λ (L : ℕ). StateFits o.answer.speakers L t) (sym long) r))),
      )

-- and such calls there are, of any number of frames
pub some_block : (b : Bank) (o : Arrangement) (n : ℕ) → Fitted b o (call_with b o n n
    (replicate (o.answer.channels * n) zero_float) (replicate (2 * n) zero_float))
some_block b o n =
    record {
      shape = refl;
      weights = refl;
      rows = refl;
      taps = refl;
      room = omega arith;
      inputs = length-replicate (o.answer.channels * n) zero_float;
      ears = length-replicate (2 * n) zero_float;
    }

-- ---- a reset

-- what is left fits
pub reset_fits : (d : Desk) (speakers L : ℕ) (rings : List Float) (a : ResetOutcome) → ResetPromise d speakers L rings a
    → a.answer.refusal ≡ 0
    → StateFits speakers L (record { rings = a.rings; desk = a.answer.desk })
reset_fits d speakers L rings a r e =
    let u : Setup = record { channels = 0; speakers = speakers; L = L; weights = []; taps = []; rows = [] } in
    let s = reset_starts u d rings a r e in
    let t : State = record { rings = a.rings; desk = a.answer.desk } in
    record { ringed = rings_room u [] t s; within = s.0; waits = waits_few u [] t s }

-- ---- from the bank file on

module _ (file : List ℕ) (zs es : List ℤ) (xs : List Float) (r : ReadOutcome) (reads : ReadPromise file zs es xs r)
    (good : r.answer.refusal ≡ 0) where
  keeps_form : valid (bank_found r) ≡ true
  keeps_form = ap valid (read_is file zs es xs r reads good) ∙ (accepted_is file zs es xs r reads good).0.keeps

  rows_are : r.answer.rows ≡ Form.rows (bank_found r)
  rows_are = ap (λ (y : ReadOutcome). y.answer.rows) (accepted_is file zs es xs r reads good).1
      ∙ ap Form.rows (sym (read_is file zs es xs r reads good))

  pub few_rows : outside r.answer.rows 8 ≡ false
  few_rows = ap (λ (n : ℕ). outside n 8) rows_are ∙ ap not (keeps (bank_found r) keeps_form).few

  pub short_filters : outside r.answer.length 512 ≡ false
  short_filters = ap not (keeps (bank_found r) keeps_form).short

  -- both lists are as long as they were lent
  lent : Lists zs es xs
  lent = (accepted_parts file zs es xs (ap (λ (y : ReadOutcome). y.answer.refusal) (sym reads.bits) ∙ good)).lists

  most : Form.rows (bank_in file) ≤ 8
  most = subst (λ (n : ℕ). n ≤ 8) (rows_are ∙ ap Form.rows (read_is file zs es xs r reads good))
      (not_outside r.answer.rows 8 few_rows).1

  eight_azimuths : length r.azimuths ≡ 8
  eight_azimuths =
      ap (λ (y : ReadOutcome). length y.azimuths) (accepted_is file zs es xs r reads good).1
      ∙ length_placed zs 0 (bank_in file).azimuths (omega (arith, lent.azimuths, most)) ∙ lent.azimuths

  eight_elevations : length r.elevations ≡ 8
  eight_elevations =
      ap (λ (y : ReadOutcome). length y.elevations) (accepted_is file zs es xs r reads good).1
      ∙ length_placed es 0 (bank_in file).elevations (omega (arith, lent.elevations, most, paired_in file))
      ∙ lent.elevations

  -- speakers that are offered are set up, and rings of their cells are reset
  pub good_bank_set_up : (w : Wanted) (weights : List Float) → w.check.holds ≡ false
      → length weights ≡ w.speakers * w.channels → Arranging.refusal_of w r.azimuths r.elevations
      r.answer.rows weights ≡ 0
  good_bank_set_up w weights h long =
      set_up_lem w r.azimuths r.elevations r.answer.rows weights h few_rows eight_azimuths eight_elevations long

  pub good_bank_reset : (speakers : ℕ) (rings : List Float) → 0 < speakers → speakers ≤ 8
      → length rings ≡ speakers * r.answer.length → reset_refusal speakers r.answer.length rings ≡ 0
  good_bank_reset speakers rings some few long =
      reset_accepts speakers r.answer.length rings (
        count_inside speakers 8 some few,
        (short_filters, (equal_passes (length rings) (speakers * r.answer.length) long, tt)),
      )

  -- and then no call is refused
  never_refused_from : (o : Arrangement) → Playable r.answer.rows o → (d : Desk) (rings : List Float)
      (t : State) → ResetPromise d o.answer.speakers r.answer.length rings
      (record { answer = record { refusal = 0; desk = t.desk }; rings = t.rings })
      → (cs : List BlockCall) → AllFitted (bank_found r) o cs → NoneRefused t cs
  never_refused_from o p d rings t rested cs fs =
      never_refused (bank_found r) keeps_form o (subst (λ (n : ℕ). Playable n o) rows_are p) cs fs t
      (reset_fits d o.answer.speakers r.answer.length rings _ rested refl)

-- what was promised of a set-up that is not refused, and of a reset
arrangement_accepted : (w : Wanted) (zs es : List ℤ) (n : ℕ) (weights : List Float) (given : List ℕ) (o : Arrangement)
    → ArrangePromise w zs es n weights given o → Arranging.refusal_of w zs es n weights ≡ 0
    → o.answer.refusal ≡ 0
unfolding arrangement
arrangement_accepted w zs es n weights given o new e =
    ap (λ (q : Arrangement). q.answer.refusal)
    (new.bits ∙ ap (λ (k : ℕ). arranged_by k w.whose w.speakers w.channels zs es n weights given) e)

pub good_bank : NeverRefused
good_bank =
    record {
      reads = λ file v b is zs es xs eight high most r reads.
          ap (λ (y : ReadOutcome). y.answer.refusal)
          (is_accepted file zs es xs r reads (record { azimuths = eight; elevations = high; taps = most }) v b
          is);
      arranges = λ r k w offered weights given o long new.
          arrangement_accepted w r.azimuths r.elevations r.answer.rows weights given o new
          (good_bank_set_up k.file k.zs k.es k.xs r k.reads k.accepted w weights offered long);
      rests = λ r k d speakers rings a some few long rested.
          reset_number d speakers r.answer.length rings a rested
          ∙ good_bank_reset k.file k.zs k.es k.xs r k.reads k.accepted speakers rings some few
          long;
      surround = λ r k l weights given o eight n e. never_refused_from k.file k.zs k.es k.xs r k.reads
          k.accepted o
          (surround_playable r.azimuths r.elevations r.answer.rows weights given o eight e l n);
      ambisonic = λ r k order weights given o eight n e. never_refused_from k.file k.zs k.es k.xs r
          k.reads k.accepted o
          (ambisonic_playable r.azimuths r.elevations r.answer.rows weights given o eight e order n);
    }
