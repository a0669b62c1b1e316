-- What the tests of a call show: which number is given, and that the lent lists of a call that none refuses fit.
-- Assumes nothing.
use Rattle.std.specs.Prelude.{◌≡◌, ◌||◌, ◌*◌, ◌≤◌, ◌<◌}
use Rattle.lists.specs.Prelude.{sym, subst, Bool, false, not, List, ℕ, zero-add, leb-false, lt-leb, leb, eqb, length}
use Rattle.lists.specs.Prelude.{get_or}
use Rattle.refusals.specs.Refusals.{outside}
use Rattle.refusals.proofs.Chains.{Off, FirstAt, number_at, first_holds, off_accepts, none_holds}
use Rattle.checks.specs.Finite.{has_nonfinite}
use Rattle.checks.specs.Lengths.{unfit, block_unfit}
use Rattle.checks.proofs.Checks.{or_off, both_off, any_off, is_equal, equal_passes, not_outside, planes_fit, fitted}
use Rattle.hrtf_desk.specs.declared.Desk.{Desk}
use Rattle.hrtf_rings.specs.State.{State}
use Rattle.hrtf_checks.specs.declared.ConvolverShape.{ConvolverShape}
use Rattle.hrtf_checks.specs.Call.{BlockCall}
use Rattle.hrtf_checks.specs.Computed.{Ready}
use Rattle.hrtf_checks.specs.Refusals.{row_missing, misshapen, convolver_unfit, desk_out_of_range, call_checks}
use Rattle.hrtf_checks.specs.Refusals.{refusal_of}

-- ---- what a test shows that does not hold

-- of the counts and the speakers' rows
pub shaped : (h : ConvolverShape) (rows : List ℕ) → misshapen h rows ≡ false
    → (outside h.speakers 8 ≡ false) × (outside h.rows 8 ≡ false) × (outside h.channels 16 ≡ false)
    × (row_missing rows h.speakers h.rows ≡ false)
shaped h rows e =
    let a = or_off (outside h.speakers 8) _ e in
    let b = or_off (outside h.rows 8) _ a.1 in
    let c = or_off (outside h.channels 16) _ b.1 in (a.0, b.0, c.0, c.1)

-- a bank that is well shaped has at most 8 rows
pub few_rows : (h : ConvolverShape) (rows : List ℕ) → misshapen h rows ≡ false → h.rows ≤ 8
few_rows h rows e = (not_outside h.rows 8 (shaped h rows e).1).1

-- of the lengths of rings, weights and taps
pub lists_fitted : (h : ConvolverShape) (rings weights taps : ℕ) → (not (eqb rings (h.speakers * h.length))
    || (not (eqb weights (h.speakers * h.channels)) || not (eqb taps (2 * h.rows * h.length)))) ≡ false
    → (rings ≡ h.speakers * h.length) × (weights ≡ h.speakers * h.channels) × (taps ≡ 2 * h.rows * h.length)
lists_fitted h rings weights taps e =
    let a = or_off (not (eqb rings (h.speakers * h.length))) _ e in
    let b = or_off (not (eqb weights (h.speakers * h.channels))) _ a.1 in
    (is_equal rings _ a.0, is_equal weights _ b.0, is_equal taps _ b.1)

-- of the desk
pub desk_in : (d : Desk) (L : ℕ) → desk_out_of_range d L ≡ false → (d.position < L) × (d.to_go < L)
desk_in d L e =
    let a = or_off (leb L d.position) _ e in (leb-false L d.position a.0, leb-false L d.to_go a.1)

-- ---- and what passes

-- lists of the lengths that are asked for fit
pub lengths_fit_lem : (h : ConvolverShape) (frames stride inputs weights taps rings ears : ℕ) → frames ≤ stride
    → inputs ≡ h.channels * stride → ears ≡ 2 * stride → rings ≡ h.speakers * h.length
    → weights ≡ h.speakers * h.channels → taps ≡ 2 * h.rows * h.length
    → convolver_unfit h frames stride inputs weights taps rings ears ≡ false
lengths_fit_lem h frames stride inputs weights taps rings ears low ei ee er ew et =
    both_off _ _ (both_off _ _ (planes_fit inputs h.channels stride frames low ei)
    (planes_fit ears 2 stride frames low ee))
    (both_off _ _ (equal_passes rings (h.speakers * h.length) er)
    (both_off _ _ (equal_passes weights (h.speakers * h.channels) ew)
    (equal_passes taps (2 * h.rows * h.length) et)))

-- a desk whose numbers are below L is in range
pub on_desk : (d : Desk) (L : ℕ) → d.position < L → d.to_go < L → desk_out_of_range d L ≡ false
on_desk d L p w = both_off _ _ (lt-leb L d.position p) (lt-leb L d.to_go w)

module _ (c : BlockCall) (t : State) where
  -- the number of the first test that fails
  pub refuse : (k : ℕ) → FirstAt k (call_checks c t) → number_at k (call_checks c t) ≡ refusal_of c t
  unfolding refusal_of
  refuse k h = sym (first_holds k (call_checks c t) h)

  pub accept : Off (call_checks c t) → 0 ≡ refusal_of c t
  unfolding refusal_of
  accept h = sym (off_accepts (call_checks c t) h)

  -- ---- a call that is not refused

  every_test : refusal_of c t ≡ 0 → Off (call_checks c t)
  unfolding refusal_of
  every_test e = none_holds (call_checks c t) tt e

  abbrev bad_planes : Bool
  bad_planes = block_unfit (length c.inputs) c.shape.channels (length c.ears) 2 c.stride c.frames

  both_fit : refusal_of c t ≡ 0 → (unfit (length c.inputs) c.shape.channels c.stride c.frames ≡ false)
      × (unfit (length c.ears) 2 c.stride c.frames ≡ false)
  both_fit e = or_off (unfit (length c.inputs) c.shape.channels c.stride c.frames) _
      (or_off bad_planes _ (every_test e).1.1.0).0

  -- the ear planes
  pub ears_fit : refusal_of c t ≡ 0 → (c.frames ≤ c.stride) × (length c.ears ≡ 2 * c.stride)
  ears_fit e = fitted (length c.ears) 2 c.stride c.frames (both_fit e).1

  -- the frames to go
  pub waits : refusal_of c t ≡ 0 → t.desk.to_go < c.shape.length
  waits e = (desk_in t.desk c.shape.length (every_test e).1.1.1.1.0).1

  pub some_speakers : refusal_of c t ≡ 0 → 0 < c.shape.speakers
  some_speakers e = (not_outside c.shape.speakers 8 (shaped c.shape c.rows (every_test e).0).0).0

  -- the rings, the weights and the taps
  lent : refusal_of c t ≡ 0 → (length t.rings ≡ c.shape.speakers * c.shape.length)
      × (length c.weights ≡ c.shape.speakers * c.shape.channels)
      × (length c.taps ≡ 2 * c.shape.rows * c.shape.length)
  lent e = lists_fitted c.shape (length t.rings) (length c.weights) (length c.taps)
      (or_off bad_planes _ (every_test e).1.1.0).1

  pub weighed : refusal_of c t ≡ 0 → length c.weights ≡ c.shape.speakers * c.shape.channels
  weighed e = (lent e).1

  -- 7 was not given
  pub taps_finite : refusal_of c t ≡ 0 → has_nonfinite c.taps ≡ false
  taps_finite e = (or_off (has_nonfinite c.weights) _ (every_test e).1.1.1.0).1

  pub ready : refusal_of c t ≡ 0 → Ready c.shape t.desk.position c.rows c.taps t.rings
  ready e =
      let counts = shaped c.shape c.rows (every_test e).0 in
      record {
        few = (not_outside c.shape.speakers 8 counts.0).1;
        chosen = λ s lt. leb-false c.shape.rows (get_or c.rows s 0)
            (subst (λ (k : ℕ). leb c.shape.rows (get_or c.rows k 0) ≡ false) (zero-add s)
            (any_off 0 c.shape.speakers (λ k. leb c.shape.rows (get_or c.rows k 0)) counts.3 s lt));
        tapped = (lent e).2;
        ringed = (lent e).0;
        within = (desk_in t.desk c.shape.length (every_test e).1.1.1.1.0).0;
      }
