-- From the tests and the filled lists to what the set-ups promise. Assumes nothing.
use Rattle.std.specs.Prelude.{◌≡◌, ◌+◌, ◌*◌, ◌/◌, ◌%◌, ◌-◌, ◌≤◌, ◌<◌}
use Rattle.lists.specs.Prelude.{refl, sym, ap, ◌∙◌, subst, true, false, not, cond, List, ℕ, suc, zero-add, add-zero}
use Rattle.lists.specs.Prelude.{mul-add-mod_self_right, mul-add-div_right, mod-eq_of_lt, div-eq_of_lt, arith, not-false}
use Rattle.lists.specs.Prelude.{ℤ, length, get_or, Float, nan}
use Rattle.refusals.specs.Refusals.{Check, first_of, outside}
use Rattle.refusals.proofs.First.{passed, answered_accepted}
use Rattle.lists.proofs.Tests.{cond_true, cond_false}
use Rattle.refusals.proofs.Chains.{Off, FirstAt, number_at, first_holds, off_accepts, none_holds}
use Rattle.lists.specs.Tables.{tab}
use Rattle.lists.proofs.Tables.{get_or_tab, inside}
use Rattle.checks.proofs.Checks.{is_equal, not_outside}
use Rattle.channel.specs.declared.Layout.{Layout}
use Rattle.channel.specs.Layouts.{channels_of, layout_channels, surround}
use Rattle.channel.specs.Orders.{refuses_order, channels_of_order}
use Rattle.channel.proofs.Counts.{surround_counted, surround_few}
use Rattle.bank_choice.specs.Choice.{Choice}
use Rattle.bank_choice.specs.Nearest.{Takes}
use Rattle.bank_choice.specs.Computed.{nearest_from}
use Rattle.bank_choice.specs.Choice.{is_elevation, refused_with, choice_of}
use Rattle.bank_choice.proofs.Takes.{takes}
use Rattle.bank_choice.proofs.Meets.{none_refused}
use Rattle.virtual_speaker.specs.Promise.{position_of}
use Rattle.virtual_speaker.proofs.Laws.{outcome_kept, position_accepted}
use Rattle.hrtf_setup.specs.Arrangement.{SetupAnswer}
use Rattle.hrtf_setup.specs.declared.Speakers.{Speakers}
use Rattle.hrtf_setup.specs.declared.Speakers.TheVariants.{Of, Virtual}
use Rattle.hrtf_setup.specs.Speakers.{tenths_at, speaker_elevation, row_at, rows_of, weight_of, weight_at}
use Rattle.hrtf_setup.specs.Arrangement.{Wanted, later_checks, later_refusal, refusal_of, Arrangement, arranged_by}
use Rattle.hrtf_setup.specs.Arrangement.{arrangement}
use Rattle.hrtf_setup.specs.Promise.{ArrangePromise, of_layout, of_order, NewSurroundPromise, NewAmbisonicPromise}
use Rattle.hrtf_setup.proofs.Standing.{stands}

-- ---- the weights

-- channel c of speaker s
weighed : (k : Speakers) (n s c : ℕ) → c < n → weight_at k n (s * n + c) ≡ weight_of k s c
weighed k n s c hc = ap (λ (q : ℕ). weight_of k q ((s * n + c) % n)) quotient
    ∙ ap (weight_of k s) (mul-add-mod_self_right s n c ∙ mod-eq_of_lt hc)
  where
    quotient : (s * n + c) / n ≡ s
    quotient = mul-add-div_right {m = n} (omega (arith, hc)) s c ∙ ap (λ (q : ℕ). s + q) (div-eq_of_lt hc) ∙ add-zero s

-- ---- the row of a speaker

module _ (k : Speakers) (azimuths elevations : List ℤ) (rows s : ℕ) (few : outside rows 8 ≡ false)
    (full : length azimuths ≡ 8) (high : length elevations ≡ 8) where
  row_is : nearest_from azimuths elevations (tenths_at k s) speaker_elevation 0 1 (rows - 1)
      ≡ row_at k azimuths elevations rows s
  unfolding choice_of is_elevation
  row_is = sym (ap (λ (c : Choice). c.row)
      (answered_accepted _ refused_with _
      (none_refused azimuths elevations rows (tenths_at k s) speaker_elevation few (stands k s) refl full high)))

  -- rows from 1 to 8 of lists of 8: the row is the one that the words name
  row_taken : Takes azimuths elevations rows (tenths_at k s) speaker_elevation (row_at k azimuths elevations rows s)
  row_taken = subst (Takes azimuths elevations rows (tenths_at k s) speaker_elevation) row_is
      (takes azimuths elevations (tenths_at k s) speaker_elevation rows (not_outside rows 8 few).0)

-- ---- what both set-ups do

module _ (k : Speakers) (speakers channels : ℕ) (azimuths elevations : List ℤ) (rows : ℕ) (weights : List Float)
    (given : List ℕ) where
  abbrev tests : List Check
  tests = later_checks (speakers * channels) azimuths elevations rows weights

  abbrev later : ℕ
  later = later_refusal (speakers * channels) azimuths elevations rows weights

  by : (n : ℕ) → later ≡ n → arranged_by later k speakers channels azimuths elevations rows weights given
      ≡ arranged_by n k speakers channels azimuths elevations rows weights given
  by n e = ap (λ (m : ℕ). arranged_by m k speakers channels azimuths elevations rows weights given) e

  -- refused with the number of the first test that holds, and both lists as they were
  pub refused_at : (i n : ℕ) (a : SetupAnswer) → number_at i tests ≡ suc n → FirstAt i tests
      → a ≡ record { refusal = suc n; speakers = 0; channels = 0 }
      → record { answer = a; weights = weights; rows = given } ≡ arranged_by later k speakers channels azimuths
      elevations rows weights given
  unfolding later_refusal
  refused_at i n a e h ea = ap (λ (b : SetupAnswer). record { answer = b; weights = weights; rows = given }) ea
      ∙ sym (by (suc n) (first_holds i tests h ∙ e))

  pub arranged : (weights₁ : List Float) (rows₁ : List ℕ) → Off tests
      → weights₁ ≡ tab 0 (length weights) (weight_at k channels)
      → rows₁ ≡ rows_of k speakers azimuths elevations rows given
      → record {
        answer = record { refusal = 0; speakers = speakers; channels = channels };
        weights = weights₁;
        rows = rows₁;
      }
      ≡ arranged_by later k speakers channels azimuths elevations rows weights given
  unfolding later_refusal
  arranged weights₁ rows₁ h ew er =
      cc (
        ew
            ∙ ap (λ (n : ℕ). tab 0 n (weight_at k channels))
            (is_equal (length weights) (speakers * channels) h.1.1.1.0),
        er,
      ) ∙ sym (by 0 (off_accepts tests h))

-- ---- what each promises

module _ (w : Wanted) (azimuths elevations : List ℤ) (rows : ℕ) (weights : List Float) where
  -- where the check that stands first does not hold, the later ones decide
  later_of : w.check.holds ≡ false → refusal_of w azimuths elevations rows weights
      ≡ later_refusal (w.speakers * w.channels) azimuths elevations rows weights
  unfolding refusal_of later_refusal
  later_of h = cond_false w.check.number _ h

  later_passed : later_refusal (w.speakers * w.channels) azimuths elevations rows weights ≡ 0
      → (outside rows 8 ≡ false) × (length azimuths ≡ 8) × (length elevations ≡ 8)
  unfolding later_refusal
  later_passed e =
      let off = none_holds (later_checks (w.speakers * w.channels) azimuths elevations rows weights) tt e in
      (off.0, is_equal (length azimuths) 8 off.1.0, is_equal (length elevations) 8 off.1.1.0)

  -- a check with a number above 0 does not hold of a set-up that is accepted
  pub offered : (n : ℕ) → w.check.number ≡ suc n → refusal_of w azimuths elevations rows weights ≡ 0
      → w.check.holds ≡ false
  unfolding refusal_of
  offered n en e = (passed w.check.holds n _
      (ap (λ (m : ℕ). cond w.check.holds m
      (first_of (later_checks (w.speakers * w.channels) azimuths elevations rows weights))) (sym en) ∙ e)).0

  -- the two lists as they are handed back
  module _ (given : List ℕ) where
    pub by_wanted : (n : ℕ) → refusal_of w azimuths elevations rows weights ≡ n
        → arrangement w azimuths elevations rows weights given ≡ arranged_by n w.whose w.speakers
        w.channels azimuths elevations rows weights given
    unfolding arrangement
    by_wanted n e =
        ap (λ (m : ℕ). arranged_by m w.whose w.speakers w.channels azimuths elevations rows weights given) e

    arranges : (n : ℕ) → w.check.number ≡ suc n → (o : Arrangement)
        → o ≡ arrangement w azimuths elevations rows weights given
        → ArrangePromise w azimuths elevations rows weights given o
    arranges n en o e =
        record {
          bits = e;
          words =
              record {
                weighs = λ z s c hs hc.
                    ap (λ (q : Arrangement). get_or q.weights (s * w.channels + c) nan) (e ∙ by_wanted 0 z)
                    ∙ get_or_tab 0 (w.speakers * w.channels) (weight_at w.whose w.channels) (s * w.channels + c)
                    nan (inside w.speakers w.channels s c (w.speakers * w.channels) hs hc refl)
                    ∙ ap (weight_at w.whose w.channels) (zero-add (s * w.channels + c))
                    ∙ weighed w.whose w.channels s c hc;
                takes = λ z s. let p = later_passed (sym (later_of (offered n en z)) ∙ z) in row_taken
                    w.whose azimuths elevations rows s p.0 p.1 p.2;
              };
        }

    -- the first check decides
    not_offered : (n : ℕ) → w.check.number ≡ suc n → (a : SetupAnswer) → w.check.holds ≡ true
        → a ≡ record { refusal = suc n; speakers = 0; channels = 0 }
        → ArrangePromise w azimuths elevations rows weights given
        (record { answer = a; weights = weights; rows = given })
    unfolding refusal_of
    not_offered n en a h ea =
        arranges n en (record { answer = a; weights = weights; rows = given })
        (ap (λ (b : SetupAnswer). record { answer = b; weights = weights; rows = given }) ea
        ∙ sym (by_wanted (suc n) (cond_true w.check.number _ h ∙ en)))

    -- or leaves it to what both do
    goes_on_to : (n : ℕ) → w.check.number ≡ suc n → w.check.holds ≡ false → (o : Arrangement)
        → o ≡ arranged_by (later_refusal (w.speakers * w.channels) azimuths elevations rows weights) w.whose
        w.speakers w.channels azimuths elevations rows weights given
        → ArrangePromise w azimuths elevations rows weights given o
    goes_on_to n en h o e = arranges n en o
        (e ∙ sym (by_wanted (later_refusal (w.speakers * w.channels) azimuths elevations rows weights) (later_of h)))

-- ---- a layout

module _ (l : Layout) (h : not (surround l) ≡ false) (n : ℕ) (counts : n ≡ (layout_channels l).channels) where
  count_is : n ≡ channels_of l
  count_is = counts ∙ surround_counted l (not-false (surround l) h)

  pub few_of_layout : (n ≤ 8) × (0 < n) × (n ≤ 16)
  few_of_layout =
      let f = surround_few l (not-false (surround l) h) in
      let e = count_is in
      (omega (arith, e, f.1), omega (arith, e, f.0), omega (arith, e, f.1))

module _ (l : Layout) (azimuths elevations : List ℤ) (rows : ℕ) (weights : List Float) (given : List ℕ) where
  pub layout_refused_lem : (a : SetupAnswer) → not (surround l) ≡ true → a
      ≡ record { refusal = 2; speakers = 0; channels = 0 }
      → NewSurroundPromise l azimuths elevations rows weights given
      (record { answer = a; weights = weights; rows = given })
  layout_refused_lem a h ea = not_offered (of_layout l) azimuths elevations rows weights given 1 refl a h ea

  pub layout_arranged : (n : ℕ) → not (surround l) ≡ false → n ≡ (layout_channels l).channels → (o : Arrangement)
      → o ≡ arranged_by (later_refusal (n * n) azimuths elevations rows weights) (Of l) n n azimuths elevations rows
      weights given → NewSurroundPromise l azimuths elevations rows weights given o
  layout_arranged n h counts o e =
      goes_on_to (of_layout l) azimuths elevations rows weights given 1 refl h o
      (e ∙ ap (λ (m : ℕ). arranged_by (later_refusal (m * m) azimuths elevations rows weights) (Of l) m m azimuths
      elevations rows weights given) (count_is l h n counts))

-- ---- an order

module _ (order : ℕ) (azimuths elevations : List ℤ) (rows : ℕ) (weights : List Float) (given : List ℕ) where
  ambisonic : (o : Arrangement) → ArrangePromise (of_order order) azimuths elevations rows weights given o
      → NewAmbisonicPromise order azimuths elevations rows weights given o
  ambisonic o a =
      record {
        bits = a.bits;
        words =
            record {
              arranges = a.words;
              near = λ z s. (outcome_kept order (position_of s)).words
                  (position_accepted order s (offered (of_order order) azimuths elevations rows weights 0 refl z));
            };
      }

  pub order_refused_lem : (a : SetupAnswer) → refuses_order order ≡ true
      → a ≡ record { refusal = 1; speakers = 0; channels = 0 }
      → NewAmbisonicPromise order azimuths elevations rows weights given
      (record { answer = a; weights = weights; rows = given })
  order_refused_lem a h ea = ambisonic (record { answer = a; weights = weights; rows = given })
      (not_offered (of_order order) azimuths elevations rows weights given 0 refl a h ea)

  pub order_arranged : (n : ℕ) → refuses_order order ≡ false → n ≡ channels_of_order order → (o : Arrangement)
      → o ≡ arranged_by (later_refusal (8 * n) azimuths elevations rows weights) (Virtual order) 8 n azimuths elevations
      rows weights given → NewAmbisonicPromise order azimuths elevations rows weights given o
  order_arranged n h counts o e =
      ambisonic o (goes_on_to (of_order order) azimuths elevations rows weights given 0 refl h o
      (e ∙ ap (λ (m : ℕ). arranged_by (later_refusal (8 * m) azimuths elevations rows weights) (Virtual order) 8 m
      azimuths elevations rows weights given) counts))
