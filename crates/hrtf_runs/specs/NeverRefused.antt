-- A bank file is read, speakers are set up from it, rings are reset, and blocks are played: where the file keeps the
-- form, none of these is refused, whatever is heard (`NeverRefused`, shown in proofs/NeverRefused.antt). Definitions
-- only.
use Rattle.std.specs.Prelude.{◌*◌, ◌≤◌, ◌<◌, ◌≡◌, ◌∷◌}
use Rattle.lists.specs.Prelude.{ℕ, false, List, [], length, ℤ, Float}
use Rattle.bank_form.specs.Bank as Form
use Rattle.bank_form.specs.File.{IsFile}
use Rattle.bank.specs.Reading.{ReadOutcome, ReadPromise, bank_found}
use Rattle.channel.specs.declared.Layout.{Layout}
use Rattle.hrtf_desk.specs.declared.Desk.{Desk}
use Rattle.hrtf_rings.specs.State.{State}
use Rattle.hrtf_checks.specs.declared.ConvolverShape.{ConvolverShape}
use Rattle.hrtf_checks.specs.Call.{BlockCall}
use Rattle.hrtf_checks.specs.Refusals.{refusal_of}
use Rattle.hrtf.specs.Reset.{ResetOutcome, ResetPromise}
use Rattle.hrtf_setup.specs.Arrangement.{Wanted, Arrangement}
use Rattle.hrtf_setup.specs.Promise.{ArrangePromise, NewSurroundPromise, NewAmbisonicPromise}
use Rattle.hrtf_runs.specs.Runs.{next}

-- the counts of a bank and of what a set-up left, and a call that is made of them
abbrev pub shape_of : Form.Bank → Arrangement → ConvolverShape
shape_of b o =
    record { channels = o.answer.channels; speakers = o.answer.speakers; rows = Form.rows b; length = b.length }

abbrev pub call_with : Form.Bank → Arrangement → ℕ → ℕ → List Float → List Float → BlockCall
call_with b o frames stride inputs ears = record {
  shape = shape_of b o;
  frames = frames;
  stride = stride;
  inputs = inputs;
  weights = o.weights;
  rows = o.rows;
  taps = b.taps;
  ears = ears;
}

-- such a call, its planes being as long as its frames need
pub record Fitted (b : Form.Bank) (o : Arrangement) (c : BlockCall) : Type 0 where
  pub shape : c.shape ≡ record {
    channels = o.answer.channels;
    speakers = o.answer.speakers;
    rows = Form.rows b;
    length = b.length;
  }
  pub weights : c.weights ≡ o.weights
  pub rows : c.rows ≡ o.rows
  pub taps : c.taps ≡ b.taps
  pub room : c.frames ≤ c.stride
  pub inputs : length c.inputs ≡ o.answer.channels * c.stride
  pub ears : length c.ears ≡ 2 * c.stride

abbrev pub AllFitted : Form.Bank → Arrangement → List BlockCall → Type 0
AllFitted b o [] = Unit {0}
AllFitted b o (c ∷ cs) = Fitted b o c × AllFitted b o cs

-- every call of a run is accepted
abbrev pub NoneRefused : State → List BlockCall → Type 0
NoneRefused t [] = Unit {0}
NoneRefused t (c ∷ cs) = (refusal_of c t ≡ 0) × NoneRefused (next c t) cs

-- ---- a good bank is never refused

-- what `bank::read` promises where it accepts
pub record BankAccepted (r : ReadOutcome) : Type 0 where
  pub file : List ℕ
  pub zs : List ℤ
  pub es : List ℤ
  pub xs : List Float
  pub reads : ReadPromise file zs es xs r
  pub accepted : r.answer.refusal ≡ 0

-- whatever `hrtf::reset` accepts and leaves: no call that is made of that bank and set-up is refused
abbrev pub AlwaysPlays : ReadOutcome → Arrangement → Type 0
AlwaysPlays r o =
    (d : Desk) (rings : List Float) (t : State) → ResetPromise d o.answer.speakers r.answer.length rings
    (record { answer = record { refusal = 0; desk = t.desk }; rings = t.rings })
    → (cs : List BlockCall) → AllFitted (bank_found r) o cs → NoneRefused t cs

pub record NeverRefused : Type 0 where
  -- a file that keeps the form is read, in either version
  pub reads : (file : List ℕ) (v : ℕ) (b : Form.Bank) → IsFile v file b → (zs es : List ℤ) (xs : List Float)
      → length zs ≡ 8 → length es ≡ 8 → length xs ≡ 8192 → (r : ReadOutcome) → ReadPromise file zs es xs r
      → r.answer.refusal ≡ 0
  -- speakers that are offered are set up from it, weights of their number being lent
  pub arranges : (r : ReadOutcome) → BankAccepted r → (w : Wanted) → w.check.holds ≡ false
      → (weights : List Float) (given : List ℕ) (o : Arrangement) → length weights ≡ w.speakers * w.channels
      → ArrangePromise w r.azimuths r.elevations r.answer.rows weights given o → o.answer.refusal ≡ 0
  -- rings of the cells that they need are reset
  pub rests : (r : ReadOutcome) → BankAccepted r → (d : Desk) (speakers : ℕ) (rings : List Float) (a : ResetOutcome)
      → 0 < speakers → speakers ≤ 8 → length rings ≡ speakers * r.answer.length
      → ResetPromise d speakers r.answer.length rings a → a.answer.refusal ≡ 0
  -- and then every call is accepted
  pub surround : (r : ReadOutcome) → BankAccepted r → (l : Layout) (weights : List Float) (given : List ℕ)
      (o : Arrangement) → length given ≡ 8
      → NewSurroundPromise l r.azimuths r.elevations r.answer.rows weights given o → o.answer.refusal ≡ 0
      → AlwaysPlays r o
  pub ambisonic : (r : ReadOutcome) → BankAccepted r → (n : ℕ) (weights : List Float) (given : List ℕ) (o : Arrangement)
      → length given ≡ 8
      → NewAmbisonicPromise n r.azimuths r.elevations r.answer.rows weights given o → o.answer.refusal ≡ 0
      → AlwaysPlays r o
