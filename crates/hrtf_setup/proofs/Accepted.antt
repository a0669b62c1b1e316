-- What an accepted set-up leaves fits the convolver: speakers and channels as many as it plays, finite weights, and for
-- each speaker a row of the bank, which at one elevation is document 01's. And which set-ups are accepted. Assumes
-- nothing.
use Rattle.std.specs.Prelude.{◌≡◌, ◌∷◌, ◌+◌, ◌*◌, ◌%◌, ◌≤◌, ◌<◌}
use Rattle.lists.specs.Prelude.{refl, sym, ap, ◌∙◌, subst, Bool, true, false, cond, List, ℕ, zero, suc, zero-add}
use Rattle.lists.specs.Prelude.{mod-lt, arith, not-false, eqb, lit<, lit≤, ℤ, pos, length, get_or, drop, get_or-append}
use Rattle.lists.specs.Prelude.{sets, sets-eq, Float, fin}
use lib.Ieee.Scale.{finite}
use Rattle.refusals.specs.Refusals.{outside}
use Rattle.refusals.proofs.Chains.{off_accepts}
use Rattle.lists.specs.Tables.{tab}
use Rattle.checks.specs.Finite.{has_nonfinite}
use Rattle.lists.proofs.Tables.{length_tab, get_or_tab}
use Rattle.checks.proofs.Checks.{equal_passes, finite_at, finite_tab}
use Rattle.channel.specs.declared.Layout.{Layout}
use Rattle.channel.specs.Layouts.{surround}
use Rattle.channel.proofs.Orders.{by_order_lem}
use Rattle.channel.proofs.Counts.{surround_few}
use Rattle.bank_choice.specs.Nearest.{TakesByAzimuth, OneElevation}
use Rattle.bank_choice.proofs.Level.{one_elevation_as_before}
use Rattle.virtual_speaker.specs.Promise.{outcome, position_of}
use Rattle.virtual_speaker.proofs.Laws.{outcome_kept, weights_length, weights_sound}
use Rattle.hrtf_setup.specs.declared.Speakers.{Speakers}
use Rattle.hrtf_setup.specs.declared.Speakers.TheVariants.{Of, Virtual}
use Rattle.hrtf_setup.specs.Speakers.{tenths_at, speaker_elevation, row_at, one_if, weight_of, weight_at}
use Rattle.hrtf_setup.specs.Arrangement.{Wanted, later_checks, refusal_of, Arrangement, arranged_by}
use Rattle.hrtf_setup.specs.Promise.{ArrangePromise, of_layout, of_order, NewSurroundPromise, NewAmbisonicPromise}
use Rattle.hrtf_setup.proofs.Arranging.{offered, by_wanted}

-- ---- a weight is finite

own_finite : (s c : ℕ) → finite (one_if s c) ≡ true
own_finite s c = go (eqb s c)
  where
    go : (b : Bool) → finite (cond b (fin false 1 (pos 0)) (fin false 0 (pos 0))) ≡ true
    go true = refl
    go false = refl

weight_finite : (k : Speakers) (s c : ℕ) → c < 16 → finite (weight_of k s c) ≡ true
weight_finite (Of l) s c h = own_finite s c
weight_finite (Virtual order) s c h =
    let o = outcome order (position_of s) in
    let kept = outcome_kept order (position_of s) in
    finite_at o.weights c (weights_sound order (position_of s) o kept)
    (subst (λ (n : ℕ). c < n) (sym (weights_length order (position_of s) o kept)) h)

-- ---- what an accepted set-up leaves

pub record Playable (rows : ℕ) (o : Arrangement) : Type 0 where
  pub speakers : (0 < o.answer.speakers) × (o.answer.speakers ≤ 8)
  pub channels : (0 < o.answer.channels) × (o.answer.channels ≤ 16)
  pub weighed : length o.weights ≡ o.answer.speakers * o.answer.channels
  pub sound : has_nonfinite o.weights ≡ false
  pub chosen : (s : ℕ) → s < o.answer.speakers → get_or o.rows s 0 < rows

-- so many speakers and channels are wanted
abbrev Few : Wanted → Type 0
Few w = ((0 < w.speakers) × (w.speakers ≤ 8)) × ((0 < w.channels) × (w.channels ≤ 16))

module _ (w : Wanted) (azimuths elevations : List ℤ) (rows : ℕ) (weights : List Float) (given : List ℕ)
    (o : Arrangement) (a : ArrangePromise w azimuths elevations rows weights given o) where
  -- the number answered is the one that is asked for
  refusal_told : o.answer.refusal ≡ refusal_of w azimuths elevations rows weights
  refusal_told = ap (λ (q : Arrangement). q.answer.refusal)
      (a.bits ∙ by_wanted w azimuths elevations rows weights given (refusal_of w azimuths elevations rows weights)
      refl) ∙ go (refusal_of w azimuths elevations rows weights)
    where
      go : (n : ℕ) → (arranged_by n w.whose w.speakers w.channels azimuths elevations rows weights
          given).answer.refusal ≡ n
      go zero = refl
      go (suc n) = refl

  pub accepted_of : o.answer.refusal ≡ 0 → refusal_of w azimuths elevations rows weights ≡ 0
  accepted_of e = sym refusal_told ∙ e

  -- where the bank's rows stand at one elevation, each speaker takes the row that document 01 names
  pub one_elevation_rows : refusal_of w azimuths elevations rows weights ≡ 0 → OneElevation elevations rows → (s : ℕ)
      → TakesByAzimuth azimuths rows (tenths_at w.whose s) (row_at w.whose azimuths elevations rows s)
  one_elevation_rows z flat s =
      (one_elevation_as_before azimuths elevations rows (tenths_at w.whose s) speaker_elevation flat
      (row_at w.whose azimuths elevations rows s)).0 (a.words.takes z s)

  module _ (few : Few w) (eight : length given ≡ 8) (z : refusal_of w azimuths elevations rows weights ≡ 0) where
    is : o ≡ arranged_by 0 w.whose w.speakers w.channels azimuths elevations rows weights given
    is = a.bits ∙ by_wanted w azimuths elevations rows weights given 0 z

    rows_are : o.rows ≡ sets given 0 (tab 0 w.speakers (row_at w.whose azimuths elevations rows))
    rows_are = ap (λ (q : Arrangement). q.rows) is

    row_is : (s : ℕ) → s < w.speakers → get_or o.rows s 0 ≡ row_at w.whose azimuths elevations rows s
    row_is s h =
        let f = row_at w.whose azimuths elevations rows in
        let n : length (tab 0 w.speakers f) ≡ w.speakers = length_tab 0 w.speakers f in
        ap (λ (l : List ℕ). get_or l s 0)
        (rows_are ∙ sets-eq (tab 0 w.speakers f) given 0 (omega (arith, n, eight, few.0.1)))
        ∙ get_or-append (tab 0 w.speakers f) (drop (0 + length (tab 0 w.speakers f)) given) 0 s
        (omega (arith, n, h))
        ∙ get_or_tab 0 w.speakers f s 0 h
        ∙ ap f (zero-add s)

    playable : Playable rows o
    playable =
        let counted : (o.answer.speakers ≡ w.speakers) × (o.answer.channels ≡ w.channels) = (
          ap
              (λ (q : Arrangement). q.answer.speakers) is,
          ap (λ (q : Arrangement). q.answer.channels) is,
        ) in
        record {
          speakers = subst (λ (n : ℕ). (0 < n) × (n ≤ 8)) (sym counted.0) few.0;
          channels = subst (λ (n : ℕ). (0 < n) × (n ≤ 16)) (sym counted.1) few.1;
          weighed = ap (λ (q : Arrangement). length q.weights) is
              ∙ length_tab 0 (w.speakers * w.channels) (weight_at w.whose w.channels)
              ∙ sym (ap (λ (q : Arrangement). q.answer.speakers * q.answer.channels) is);
          sound = ap (λ (q : Arrangement). has_nonfinite q.weights) is
              ∙ finite_tab 0 (w.speakers * w.channels) (weight_at w.whose w.channels)
              (λ i. weight_finite w.whose _ (i % w.channels)
              (omega (arith, mod-lt i {m = w.channels} few.1.0, few.1.1)));
          chosen = λ s h. let g : s < w.speakers = subst (λ (n : ℕ). s < n) counted.0 h in
              subst (λ (r : ℕ). r < rows) (sym (row_is s g)) (a.words.takes z s).among;
        }

-- ---- which set-ups are accepted: speakers that are offered, 1 to 8 rows of lists of 8 azimuths and 8 elevations, and
-- as many weights as there are

pub set_up_lem : (w : Wanted) (azimuths elevations : List ℤ) (rows : ℕ) (weights : List Float) → w.check.holds ≡ false
    → outside rows 8 ≡ false → length azimuths ≡ 8 → length elevations ≡ 8
    → length weights ≡ w.speakers * w.channels → refusal_of w azimuths elevations rows weights ≡ 0
unfolding refusal_of
set_up_lem w azimuths elevations rows weights h few full high long =
    off_accepts (w.check ∷ later_checks (w.speakers * w.channels) azimuths elevations rows weights) (
      h,
      (
        few,
        (
          equal_passes (length azimuths) 8 full,
          (
            equal_passes (length elevations) 8 high,
            (equal_passes (length weights) (w.speakers * w.channels) long, tt),
          ),
        ),
      ),
    )

-- ---- each of the two

pub ambisonic_arranges : (order : ℕ) (azimuths elevations : List ℤ) (rows : ℕ) (weights : List Float) (given : List ℕ)
    (o : Arrangement)
    → NewAmbisonicPromise order azimuths elevations rows weights given o
    → ArrangePromise (of_order order) azimuths elevations rows weights given o
ambisonic_arranges order azimuths elevations rows weights given o p =
    record { bits = p.bits; words = p.words.arranges }

module _ (azimuths elevations : List ℤ) (rows : ℕ) (weights : List Float) (given : List ℕ) (o : Arrangement)
    (eight : length given ≡ 8) (e : o.answer.refusal ≡ 0) where
  pub surround_playable : (l : Layout) → NewSurroundPromise l azimuths elevations rows weights given o → Playable rows o
  surround_playable l p =
      let z = accepted_of (of_layout l) azimuths elevations rows weights given o p e in
      let f = surround_few l
      (not-false (surround l) (offered (of_layout l) azimuths elevations rows weights 1 refl z)) in
      playable (of_layout l) azimuths elevations rows weights given o p (f, (f.0, omega (arith, f.1))) eight z

  pub ambisonic_playable : (order : ℕ) → NewAmbisonicPromise order azimuths elevations rows weights given o
      → Playable rows o
  ambisonic_playable order p =
      let z = accepted_of (of_order order) azimuths elevations rows weights given o
      (ambisonic_arranges order azimuths elevations rows weights given o p) e in
      playable (of_order order) azimuths elevations rows weights given o
      (ambisonic_arranges order azimuths elevations rows weights given o p)
      (by_order_lem (λ (n : ℕ). Few (of_order n)) ((lit< tt, lit≤ tt), (lit< tt, lit≤ tt))
      ((lit< tt, lit≤ tt), (lit< tt, lit≤ tt)) ((lit< tt, lit≤ tt), (lit< tt, lit≤ tt)) order
      (offered (of_order order) azimuths elevations rows weights 0 refl z)) eight z
