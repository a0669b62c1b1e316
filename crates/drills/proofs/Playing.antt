-- There are drills: planes that `render` left are taken by every convolver that was set up for the order from a good
-- bank, and none of its calls is refused. Assumes nothing.
use Rattle.std.specs.Prelude.{◌≡◌, ◌∷◌, ◌++◌, ◌*◌, ◌≤◌}
use Rattle.lists.specs.Prelude.{refl, sym, ap, ◌∙◌, subst, List, [], map, ℕ, zero, suc, suc-ne-zero, ℤ, length}
use Rattle.lists.specs.Prelude.{replicate, length-replicate, Float}
use Rattle.formats.specs.Floats.{zero_float}
use Rattle.lists.specs.Pairwise.{Pairwise}
use Rattle.channel.specs.Orders.{channels_of_order}
use Rattle.planes.proofs.Planes.{length_with_frames}
use Rattle.planes.proofs.Blocks.{block_accepted}
use Rattle.cues.specs.declared.Cue.{Cue}
use Rattle.script.specs.Rendering.{played_of}
use Rattle.script.specs.Promise.{answer_of, RenderedBlock}
use Rattle.script.specs.Stretches as Script
use Rattle.script.proofs.Played.{room, long}
use Rattle.bank_form.specs.Bank as Form
use Rattle.bank.specs.Reading.{ReadOutcome, bank_found}
use Rattle.hrtf_desk.specs.declared.Desk.{Desk}
use Rattle.hrtf_history.proofs.Filters.{same_filters}
use Rattle.hrtf_rings.specs.State.{State}
use Rattle.hrtf_checks.specs.Call.{BlockCall}
use Rattle.hrtf.specs.Reset.{ResetPromise}
use Rattle.hrtf_setup.specs.Arrangement.{Wanted, Arrangement, arranged_by, arrangement}
use Rattle.hrtf_setup.specs.Arrangement as Arranging
use Rattle.hrtf_setup.specs.Promise.{ArrangePromise, of_order, NewAmbisonicPromise}
use Rattle.hrtf_setup.proofs.Accepted.{ambisonic_arranges, ambisonic_playable}
use Rattle.hrtf_runs.specs.Runs.{next, CallsAlike}
use Rattle.hrtf_runs.specs.Demand.{Run}
use Rattle.hrtf_runs.specs.NeverRefused.{AllFitted, BankAccepted, NoneRefused}
use Rattle.hrtf_runs.proofs.NeverRefused.{good_bank}
use Rattle.drills.specs.Drills.{Drill, Drilled, Planes, passing, outputs, leaves, planes_left, takes}
use Rattle.drills.specs.Playing.{set_up, drill_call, calls_of, Eared, DrillPlays}
use Rattle.drills.proofs.Demand.{drill_handed}

-- ---- what `render` leaves fits planes of the order's channels

abbrev Fits : ℕ → Planes → Type 0
Fits channels p = (p.frames ≤ p.stride) × (length p.list ≡ channels * p.stride)

abbrev AllFit : ℕ → List Planes → Type 0
AllFit channels [] = Unit {0}
AllFit channels (p ∷ ps) = Fits channels p × AllFit channels ps

module _ (cues : List Cue) (order : ℕ) where
  left_fits : (c : Script.RenderCall) (f : ℕ) → Script.refusal_at cues order c f ≡ 0
      → Fits (channels_of_order order) (outputs cues order c f)
  left_fits c f z =
      let s = Script.stretch_of cues order c f in
      let played = played_of s cues c.input in (
        room s cues c.input c.out z,
        ap (λ (b : RenderedBlock). length b.out)
            (block_accepted answer_of c.frames c.stride played c.out (Script.refusal_at cues order c f) z)
            ∙ length_with_frames c.out c.stride 0 played ∙ long s cues c.input c.out z,
      )

  one_fits : (c : Script.RenderCall) (f n : ℕ) → Script.refusal_at cues order c f ≡ n → (ps : List Planes)
      → AllFit (channels_of_order order) ps
      → AllFit (channels_of_order order) (passing (Script.refusal_at cues order c f) (outputs cues order c f) ++ ps)
  one_fits c f zero e ps h = subst
      (λ (m : ℕ). AllFit (channels_of_order order) (passing m (outputs cues order c f) ++ ps)) (sym e)
      (left_fits c f e, h)
  one_fits c f (suc n) e ps h =
      subst (λ (m : ℕ). AllFit (channels_of_order order) (passing m (outputs cues order c f) ++ ps)) (sym e) h

  all_fit : (f : ℕ) (cs : List Script.RenderCall) → AllFit (channels_of_order order) (leaves cues order f cs)
  all_fit f [] = tt
  all_fit f (c ∷ cs) = one_fits c f (Script.refusal_at cues order c f) refl
      (leaves cues order (Script.next cues order c f) cs) (all_fit (Script.next cues order c f) cs)

-- ---- calls that are lent such planes

module _ (b : Form.Bank) (o : Arrangement) where
  calls_fitted : (ps : List Planes) (es : List (List Float)) → AllFit o.answer.channels ps → Pairwise Eared ps es
      → AllFitted b o (calls_of b o ps es)
  calls_fitted [] [] h k = tt
  calls_fitted [] (e ∷ es) h k = elim k [ ]
  calls_fitted (p ∷ ps) [] h k = elim k [ ]
  calls_fitted (p ∷ ps) (e ∷ es) h k = (
    record {
      shape = refl;
      weights = refl;
      rows = refl;
      taps = refl;
      room = h.0.0;
      inputs = h.0.1;
      ears = k.0;
    },
    calls_fitted ps es h.1 k.1,
  )

  calls_alike : (t : State) (ps : List Planes) (es : List (List Float)) → CallsAlike (set_up b o) t (calls_of b o ps es)
  calls_alike t [] es = tt
  calls_alike t (p ∷ ps) [] = tt
  calls_alike t (p ∷ ps) (e ∷ es) = (λ z. same_filters (set_up b o), calls_alike (next (drill_call b o p e) t) ps es)

  -- being accepted, they take them all
  calls_take : (t : State) (ps : List Planes) (es : List (List Float)) → Pairwise Eared ps es
      → NoneRefused t (calls_of b o ps es) → takes t (calls_of b o ps es) ≡ ps
  calls_take t [] [] k h = refl
  calls_take t [] (e ∷ es) k h = elim k [ ]
  calls_take t (p ∷ ps) [] k h = elim k [ ]
  calls_take t (p ∷ ps) (e ∷ es) k h =
      let c = drill_call b o p e in
      ap (λ (n : ℕ). passing n p ++ takes (next c t) (calls_of b o ps es)) h.0
      ∙ ap (λ (qs : List Planes). p ∷ qs) (calls_take (next c t) ps es k.1 h.1)

-- ---- from the bank file on

-- what was set up has the channels that were wanted
module _ (w : Wanted) (zs es : List ℤ) (rows : ℕ) (weights : List Float) (given : List ℕ) where
  channels_by : (n : ℕ) → (arranged_by n w.whose w.speakers w.channels zs es rows weights given).answer.refusal
      ≡ 0
      → (arranged_by n w.whose w.speakers w.channels zs es rows weights given).answer.channels ≡ w.channels
  channels_by zero e = refl
  channels_by (suc n) e = absurd (suc-ne-zero n e)

  channels_are : (o : Arrangement) → ArrangePromise w zs es rows weights given o → o.answer.refusal ≡ 0
      → o.answer.channels ≡ w.channels
  unfolding arrangement
  channels_are o a e =
      ap (λ (q : Arrangement). q.answer.channels) a.bits
      ∙ channels_by (Arranging.refusal_of w zs es rows weights)
      (sym (ap (λ (q : Arrangement). q.answer.refusal) a.bits) ∙ e)

ears_there : (ps : List Planes) → Pairwise Eared ps (map (λ (p : Planes). replicate (2 * p.stride) zero_float) ps)
ears_there [] = tt
ears_there (p ∷ ps) = (length-replicate (2 * p.stride) zero_float, ears_there ps)

module _ (r : ReadOutcome) (k : BankAccepted r) (d : Drill) (weights : List Float) (given : List ℕ) (o : Arrangement)
    (eight : length given ≡ 8)
    (new : NewAmbisonicPromise d.order r.azimuths r.elevations r.answer.rows weights given o)
    (e : o.answer.refusal ≡ 0) (desk : Desk) (rings : List Float)
    (rested : ResetPromise desk o.answer.speakers r.answer.length rings
    (record { answer = record { refusal = 0; desk = d.start.desk }; rings = d.start.rings }))
    (es : List (List Float)) (eared : Pairwise Eared (planes_left d) es) where
  abbrev calls : List BlockCall
  calls = calls_of (bank_found r) o (planes_left d) es

  counted : o.answer.channels ≡ channels_of_order d.order
  counted = channels_are (of_order d.order) r.azimuths r.elevations r.answer.rows weights given o
      (ambisonic_arranges d.order r.azimuths r.elevations r.answer.rows weights given o new) e

  none_refused : NoneRefused d.start calls
  none_refused =
      good_bank.ambisonic r k d.order weights given o eight new e desk rings d.start rested calls
      (calls_fitted (bank_found r) o (planes_left d) es
      (subst (λ (n : ℕ). AllFit n (planes_left d)) (sym counted)
      (all_fit d.cues d.order d.first d.renders)) eared)

  runs : Run (set_up (bank_found r) o) d.start calls
  runs =
      record {
        desk = desk;
        rings = rings;
        reset = rested;
        finite = (ambisonic_playable r.azimuths r.elevations r.answer.rows weights given o eight e
            d.order new).sound;
        alike = calls_alike (bank_found r) o d.start (planes_left d) es;
      }

  play : d.plays ≡ calls → NoneRefused d.start d.plays × Drilled (set_up (bank_found r) o) d
  play is = (
    subst (NoneRefused d.start) (sym is) none_refused,
    drill_handed (set_up (bank_found r) o) d (subst (Run (set_up (bank_found r) o) d.start) (sym is) runs) counted
        (ap (takes d.start) is ∙ calls_take (bank_found r) o d.start (planes_left d) es eared none_refused),
  )

pub drill_plays : DrillPlays
drill_plays = record { ears = ears_there; plays = play }
