-- Document 02, E1: "Demand 3 reads on the frames after encoding." There are drills: a bank file is read, speakers are
-- set up from it for the order, the rings are reset, and planes are lent to the convolver as `render` left them. None
-- of these calls is refused (`DrillPlays`, shown in proofs/Playing.antt). Definitions only.
use Rattle.std.specs.Prelude.{◌*◌, ◌≡◌, ◌∷◌}
use Rattle.lists.specs.Prelude.{ℕ, List, [], map, length, replicate, Float}
use Rattle.formats.specs.Floats.{zero_float}
use Rattle.lists.specs.Pairwise.{Pairwise}
use Rattle.bank_form.specs.Bank as Form
use Rattle.bank.specs.Reading.{ReadOutcome, bank_found}
use Rattle.hrtf_desk.specs.declared.Desk.{Desk}
use Rattle.hrtf_history.specs.Setup.{Setup}
use Rattle.hrtf_checks.specs.Call.{BlockCall, setup_of}
use Rattle.hrtf.specs.Reset.{ResetPromise}
use Rattle.hrtf_setup.specs.Arrangement.{Arrangement}
use Rattle.hrtf_setup.specs.Promise.{NewAmbisonicPromise}
use Rattle.hrtf_runs.specs.NeverRefused.{shape_of, BankAccepted, NoneRefused}
use Rattle.drills.specs.Drills.{Drill, Drilled, Planes, planes_left}

-- the set-up of a bank and of what a set-up left
abbrev pub set_up : Form.Bank → Arrangement → Setup
set_up b o = setup_of (shape_of b o) o.weights o.rows b.taps

-- the call of `process` that is made of them, and is lent these planes and this list for the ears; and calls, one for
-- each
abbrev pub drill_call : Form.Bank → Arrangement → Planes → List Float → BlockCall
drill_call b o p ears = record {
  shape = shape_of b o;
  frames = p.frames;
  stride = p.stride;
  inputs = p.list;
  weights = o.weights;
  rows = o.rows;
  taps = b.taps;
  ears = ears;
}

abbrev pub calls_of : Form.Bank → Arrangement → List Planes → List (List Float) → List BlockCall
calls_of b o [] es = []
calls_of b o (p ∷ ps) [] = []
calls_of b o (p ∷ ps) (e ∷ es) = drill_call b o p e ∷ calls_of b o ps es

-- two planes for the ears, at the stride of the planes
abbrev pub Eared : Planes → List Float → Type 0
Eared p ears = length ears ≡ 2 * p.stride

pub record DrillPlays : Type 0 where
  -- lists for the ears there are
  pub ears : (ps : List Planes) → Pairwise Eared ps (map (λ (p : Planes). replicate (2 * p.stride) zero_float) ps)
  -- whatever the calls of `render` are: no call is refused that is lent what the accepted ones left, and all together
  -- are a drill
  pub plays : (r : ReadOutcome) → BankAccepted r → (d : Drill) (weights : List Float) (given : List ℕ) (o : Arrangement)
      → length given ≡ 8
      → NewAmbisonicPromise d.order r.azimuths r.elevations r.answer.rows weights given o
      → o.answer.refusal ≡ 0
      → (k : Desk) (rings : List Float) → ResetPromise k o.answer.speakers r.answer.length rings
      (record { answer = record { refusal = 0; desk = d.start.desk }; rings = d.start.rings })
      → (es : List (List Float)) → Pairwise Eared (planes_left d) es
      → d.plays ≡ calls_of (bank_found r) o (planes_left d) es
      → NoneRefused d.start d.plays × Drilled (set_up (bank_found r) o) d
