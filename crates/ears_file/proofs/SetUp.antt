-- A bank that was found and keeps the form is set up for 5.1, and the convolver refuses no block with it: `ready`.
-- Assumes nothing.
use Rattle.std.specs.Prelude.{◌≡◌, ◌*◌, ◌≤◌, ◌<◌, Result, Ok}
use Rattle.lists.specs.Prelude.{refl, sym, ap, ◌∙◌, subst, true, false, cond, List, [], ℕ, mul-le-mul, arith, ℤ, pos}
use Rattle.lists.specs.Prelude.{length, replicate, length-take, Float}
use Rattle.refusals.proofs.First.{answered_accepted, answered_refused}
use Rattle.lists.proofs.Placed.{length_placed}
use Rattle.checks.proofs.Checks.{not_outside}
use Rattle.channel.specs.declared.Layout.TheVariants.{Surround51}
use Rattle.bank_form.specs.Bank.{Bank, rows}
use Rattle.bank_form.specs.Fault.{bank_in, fault, is_file}
use Rattle.bank_form.proofs.Exact.{is_file_lem}
use Rattle.bank.specs.Reading.{ReadOutcome, read_refused, read_bank}
use Rattle.bank.proofs.Meets.{Lists, Accepted, read_good, read_bad}
use Rattle.bank.proofs.Laws.{accepted_parts, accepted_is, read_is}
use Rattle.hrtf_history.specs.Setup.{Setup}
use Rattle.hrtf_checks.specs.declared.ConvolverShape.{ConvolverShape}
use Rattle.hrtf_checks.specs.Call.{setup_of}
use Rattle.refusals.specs.declared.Refusal.{Refusal}
use Rattle.hrtf_setup.specs.declared.Arranged.{Arranged}
use Rattle.hrtf_setup.specs.Arrangement.{setup_answer, Arrangement, arranged_by, arrangement}
use Rattle.hrtf_setup.specs.Promise.{of_layout, NewSurroundPromise}
use Rattle.hrtf_setup.proofs.Accepted.{Playable, surround_playable}
use Rattle.bank.specs.Reading.{bank_found}
use Rattle.hrtf_rings.specs.State.{StateFits}
use Rattle.hrtf_runs.proofs.NeverRefused.{few_rows, short_filters, good_bank_set_up, set_up_accepted}
use Rattle.ears_file.specs.declared.Ended.{Ended}
use Rattle.ears_file.specs.declared.RunOutcome.{RunOutcome}
use Rattle.ears_file.specs.Lines.{arranged, setup_with, part_frame, refused_bank, ends_as, item_ten}
use Rattle.files.specs.Promise.{Found}
use Rattle.ears_file.specs.Promise.{Ends, Answers}
use Rattle.ears_file.specs.Turns.{BlocksAccepted}

-- the lists that azimuths and elevations are read into
abbrev zeros : List ℤ
zeros = replicate 8 (pos 0)

-- what is played with what was set up and what was read
abbrev shape_of : Arrangement → ReadOutcome → ConvolverShape
shape_of a o = record {
  channels = a.answer.channels;
  speakers = a.answer.speakers;
  rows = o.answer.rows;
  length = o.answer.length;
}

-- what is promised of a set-up whose answer is known
pub new_known : {zs es : List ℤ} {n : ℕ} {weights ws : List Float} {given rs : List ℕ} {r : Result Arranged Refusal}
    {v : Arranged}
    → NewSurroundPromise Surround51 zs es n weights given (record { answer = setup_answer r; weights = ws; rows = rs })
    → r ≡ Ok v
    → NewSurroundPromise Surround51 zs es n weights given
    (record { answer = setup_answer (Ok v); weights = ws; rows = rs })
new_known {zs} {es} {n} {weights} {ws} {given} {rs} p e =
    subst (λ (q : Result Arranged Refusal). NewSurroundPromise Surround51 zs es n weights given
    (record { answer = setup_answer q; weights = ws; rows = rs })) e p

module _ (xs : List Float) (o : ReadOutcome) (f : Found zeros zeros xs o) where
  lists : length xs ≡ 8192 → Lists zeros zeros xs
  lists most = record { azimuths = refl; elevations = refl; taps = most }

  -- a bank that breaks the form
  pub bank_refused : length xs ≡ 8192 → (o.answer.refusal ≡ 0 → ⊥) → (e : Ended) (r : RunOutcome)
      → e ≡ refused_bank (record { refusal = o.answer.refusal; offset = o.answer.offset })
      → r ≡ record { failed = false; ended = e } → Answers r
  bank_refused most bad e r refused is =
      subst Answers
      (sym (is ∙ ap {B = RunOutcome} (λ (q : Ended). record { failed = false; ended = q }) (refused ∙ told)))
      (record {
        bank = f.file;
        ends = record { line = []; bits = sym (answered_refused _ _ (fault f.file).refusal bad_file) };
      })
    where
      -- one that is a file would have been accepted
      no_file : is_file f.file ≡ true → ⊥
      no_file h = bad (ap (λ (q : ReadOutcome). q.answer.refusal)
          (f.reads.bits ∙ sym (read_good zeros zeros xs f.file (lists most) h)))

      bad_file : (fault f.file).refusal ≡ 0 → ⊥
      bad_file z = no_file (is_file_lem f.file z)

      left : o ≡ read_refused (fault f.file) zeros zeros xs
      left = f.reads.bits ∙ sym (read_bad zeros zeros xs f.file (lists most) (fault f.file) refl bad_file)

      told : refused_bank (record { refusal = o.answer.refusal; offset = o.answer.offset })
          ≡ refused_bank (fault f.file)
      told = ap (λ (q : ReadOutcome). refused_bank (record { refusal = q.answer.refusal; offset = q.answer.offset }))
          left

  -- one that keeps it
  module _ (good : o.answer.refusal ≡ 0) where
    b : Bank
    b = bank_in f.file

    parts : Accepted zeros zeros xs (fault f.file)
    parts = accepted_parts f.file zeros zeros xs
        (ap (λ (q : ReadOutcome). q.answer.refusal) (sym f.reads.bits) ∙ good)

    is : o ≡ read_bank b zeros zeros xs
    unfolding b
    is = (accepted_is f.file zeros zeros xs o f.reads good).1

    bank_is : bank_found o ≡ b
    unfolding b
    bank_is = read_is f.file zeros zeros xs o f.reads good

    taps_are : (bank_found o).taps ≡ b.taps
    taps_are = ap (λ (q : Bank). q.taps) bank_is

    -- so a run that ends as some line does with it answers as item 10 does
    pub bank_answers : (r : RunOutcome) → Ends (ends_as (setup_with (bank_found o))) r → Answers r
    unfolding b
    bank_answers r e =
        let end : ends_as (setup_with (bank_found o)) e.line ≡ item_ten f.file e.line =
        ap (λ (q : Bank). ends_as (setup_with q) e.line) bank_is
        ∙ sym (answered_accepted _ _ (fault f.file).refusal parts.none) in
        record {
          bank = f.file;
          ends = record {
            line = e.line;
            bits = e.bits
                ∙ ap (cond r.failed part_frame) end;
          };
        }

    -- there is room for its filters, and for the cells of six speakers
    pub rows_few : o.answer.rows ≤ 8
    rows_few = (not_outside o.answer.rows 8 (few_rows f.file zeros zeros xs o f.reads good)).1

    short : (0 < o.answer.length) × (o.answer.length ≤ 512)
    short = not_outside o.answer.length 512 (short_filters f.file zeros zeros xs o f.reads good)

    pub taps_fit : 2 * o.answer.rows * o.answer.length ≤ 8192
    taps_fit = let few : 2 * o.answer.rows ≤ 16 = omega (arith, rows_few) in omega (arith, mul-le-mul few short.1)

    pub taps_long : length o.taps ≡ 8192
    taps_long =
        let few : length b.taps ≤ 8192 = omega (
          arith,
          ap length taps_are,
          length-take (2 * o.answer.rows * o.answer.length) o.taps,
          taps_fit,
        ) in
        ap (λ (q : ReadOutcome). length q.taps) is ∙ length_placed xs 0 b.taps
        (omega (arith, few, parts.lists.taps)) ∙ parts.lists.taps

    module _ (weights : List Float) (size : length weights ≡ 36) (a : Arrangement)
        (new : NewSurroundPromise Surround51 o.azimuths o.elevations o.answer.rows weights (replicate 8 0)
        a) where
      arranged_is : a ≡ arranged b
      unfolding arrangement
      arranged_is =
          let whose = (of_layout Surround51).whose in
          new.bits
          ∙ ap (λ (m : ℕ). arranged_by m whose 6 6 o.azimuths o.elevations o.answer.rows weights
          (replicate 8 0))
          (good_bank_set_up f.file zeros zeros xs o f.reads good (of_layout Surround51) weights refl size)
          ∙ ap (λ (q : ReadOutcome). arranged_by 0 whose 6 6 q.azimuths q.elevations q.answer.rows weights
          (replicate 8 0)) is

      pub set_up_kept : a.answer.refusal ≡ 0
      set_up_kept = ap (λ (q : Arrangement). q.answer.refusal) arranged_is

      pub cells_fit : a.answer.speakers * o.answer.length ≤ 3072
      cells_fit =
          let six : a.answer.speakers ≤ 6 = omega (
            arith,
            ap (λ (q : Arrangement). q.answer.speakers) arranged_is,
          ) in
          mul-le-mul six short.1

      plays : Playable (rows b) a
      plays =
          subst (λ (n : ℕ). Playable n a) (ap (λ (q : ReadOutcome). q.answer.rows) is)
          (surround_playable o.azimuths o.elevations o.answer.rows weights (replicate 8 0) a refl
          (ap (λ (q : Arrangement). q.answer.refusal) arranged_is) Surround51 new)

      pub ready : BlocksAccepted (shape_of a o) a.weights a.rows (bank_found o).taps
      unfolding b
      ready =
          record {
            six = ap (λ (q : Arrangement). q.answer.channels) arranged_is;
            long = short.0;
            accepts = λ n inputs ears t few inputs_long ears_long fits.
                set_up_accepted b (accepted_is f.file zeros zeros xs o f.reads good).0.keeps a plays
                (record {
                  shape = shape_of a o;
                  frames = n;
                  stride = 1024;
                  inputs = inputs;
                  weights = a.weights;
                  rows = a.rows;
                  taps = (bank_found o).taps;
                  ears = ears;
                })
                (record {
                  shape = ap (shape_of a) is;
                  weights = refl;
                  rows = refl;
                  taps = taps_are;
                  room = few;
                  inputs = inputs_long ∙ sym (ap (λ (q : Arrangement). q.answer.channels * 1024) arranged_is);
                  ears = ears_long;
                })
                t (subst (λ (q : ReadOutcome). StateFits a.answer.speakers q.answer.length t) is fits);
          }

      -- the set-up is the one that item 10 gives for the bank that was read
      set_up_lem : setup_of (shape_of a o) a.weights a.rows (bank_found o).taps ≡ setup_with (bank_found o)
      unfolding b
      set_up_lem =
          ap (λ (q : Arrangement). setup_of (shape_of q o) q.weights q.rows (bank_found o).taps) arranged_is
          ∙ ap (λ (q : ReadOutcome). setup_of (shape_of (arranged b) q) (arranged b).weights (arranged b).rows
          (bank_found o).taps) is
          ∙ ap (setup_of (shape_of (arranged b) (read_bank b zeros zeros xs)) (arranged b).weights (arranged b).rows)
          taps_are
          ∙ sym (ap setup_with bank_is)

      pub played_ends : (r : RunOutcome)
          → Ends (ends_as (setup_of (shape_of a o) a.weights a.rows (bank_found o).taps)) r
          → Ends (ends_as (setup_with (bank_found o))) r
      played_ends r e = subst (λ (u : Setup). Ends (ends_as u) r) set_up_lem e
