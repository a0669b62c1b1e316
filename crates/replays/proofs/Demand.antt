-- DEMAND 3 FOR REPLAYS. However a recording is cut into calls and whatever calls are refused between, the counts are
-- those of the definition over the recorded list, and what is heard from a reset is document 01's sums over the frames
-- as fed since the last restart. Assumes nothing.
use Rattle.std.specs.Prelude.{◌≡◌, ◌∷◌, ◌++◌, ◌+◌, ◌<◌}
use Rattle.lists.specs.Prelude.{refl, sym, ap, ◌∙◌, subst, Bool, List, [], ℕ, arith, length, get_or, length-map, Float}
use Rattle.lists.specs.Tables.{count, tab}
use Rattle.hrtf_history.specs.Setup.{Setup}
use Rattle.hrtf_history.specs.Signals.{silent_frame}
use Rattle.hrtf_history.specs.History.{ear_samples, heard, flagged_counts}
use Rattle.hrtf_history.proofs.Silence.{damage_agrees}
use Rattle.hrtf_history.proofs.Pieces.{Told, told_append}
use Rattle.hrtf_rings.specs.Held.{Represents}
use Rattle.stamps.specs.Arrivals.{Expected}
use Rattle.stamps.specs.declared.Planned.{Planned}
use Rattle.stamps.specs.Arrivals.{expected_after}
use Rattle.stamps.specs.Counts.{out_one, late_one, silent_one, reset_one, out_in, late_in, silent_in, resets_in}
use Rattle.stamps.specs.Events.{Recorded, Event, fed, events_of, stamps_of}
use Rattle.stamps.proofs.Recordings.{samples_and_late, feeds_out, restarts_resets, length_fed}
use Rattle.replay.specs.Promise.{ReplayTold}
use Rattle.replay.specs.Heard.{heard_by, unsettled_each_by, after_by}
use Rattle.replay.specs.Computed.{state_left_by, played_by, unsettled_played_by}
use Rattle.replay.proofs.Eventful.{length_played_by}
use Rattle.replay.proofs.Hearing.{played_by_heard, counted_by_told, left_by_kept}
use Rattle.hrtf_runs.specs.Runs.{sum_of_counts}
use Rattle.hrtf_runs.proofs.Demand.{reset_starts}
use Rattle.replays.specs.Calls.{ReplayCall, Place, outcome_at, next, taken, ReplayCallsAlike, taken_all, sounded_all}
use Rattle.replays.specs.Calls.{end}
use Rattle.replays.specs.Calls.{counts, stamps_all, events_all}
use Rattle.replays.specs.Demand.{upto_fed, fed_since, damaged_among, damaged_counts, first_part, later_parts}
use Rattle.replays.specs.Demand.{heard_parts, Replay, ReplayFramesAgree, Counted, SameReplay, Over, ReplayDemand3}
use Rattle.replays.proofs.Calls.{events, called, events_on, all_sounded, all_unsettled, all_left, all_expected}
use Rattle.replays.proofs.Calls.{all_counted}
use Rattle.replays.proofs.Fed.{heard_by_at, length_each_by, each_by_append, parts_heard, fed_same, flags_told}

-- ---- the counts, from any rings and desk

module _ (u : Setup) where
  all_late : (p : Place) (cs : List ReplayCall) → ReplayCallsAlike u p cs
      → sum_of_counts (counts (λ (r : ReplayTold). r.late) p cs) ≡ late_in p.expected (stamps_all p cs)
  all_late = all_counted u (λ (r : ReplayTold). r.late) late_one (λ p c w. ap (λ (q : Planned). q.late) w.told)

  all_silent : (p : Place) (cs : List ReplayCall) → ReplayCallsAlike u p cs
      → sum_of_counts (counts (λ (r : ReplayTold). r.silent) p cs) ≡ silent_in p.expected (stamps_all p cs)
  all_silent =
      all_counted u (λ (r : ReplayTold). r.silent) silent_one (λ p c w. ap (λ (q : Planned). q.silent) w.told)

  all_resets : (p : Place) (cs : List ReplayCall) → ReplayCallsAlike u p cs
      → sum_of_counts (counts (λ (r : ReplayTold). r.resets) p cs) ≡ resets_in p.expected (stamps_all p cs)
  all_resets = all_counted u (λ (r : ReplayTold). r.resets) reset_one (λ p c w. ap (λ (q : Planned). q.resets) w.told)

  all_samples : (p : Place) (cs : List ReplayCall) → ReplayCallsAlike u p cs
      → sum_of_counts (counts (λ (r : ReplayTold). r.samples) p cs) ≡ out_in p.expected (stamps_all p cs)
  all_samples = all_counted u (λ (r : ReplayTold). r.samples) out_one (λ p c w. ap (λ (q : Planned). q.out) w.told)

  -- as many frames are fed as come out
  fed_out : (x : Expected) (rs : List (Recorded (List Float)))
      → out_in x (stamps_of rs) ≡ length (fed (events_of (silent_frame u) x rs))
  fed_out x rs = sym (length_fed (silent_frame u) (events_of (silent_frame u) x rs) ∙ feeds_out (silent_frame u) x rs)

  replay_counted : (p : Place) (cs : List ReplayCall) → ReplayCallsAlike u p cs → Counted u p cs
  replay_counted p cs a =
      record {
        late = all_late p cs a;
        silent = all_silent p cs a;
        resets = all_resets p cs a;
        samples = all_samples p cs a;
        fed = all_samples p cs a ∙ fed_out p.expected (taken_all p cs);
        restarted = all_resets p cs a ∙ sym (restarts_resets (silent_frame u) p.expected (taken_all p cs));
        balance =
            omega (
              arith,
              all_samples p cs a,
              all_late p cs a,
              all_silent p cs a,
              samples_and_late p.expected (stamps_all p cs),
              length-map (taken_all p cs) (λ (r : Recorded (List Float)). r.stamp),
            );
        expected = all_expected u p cs a;
      }

  replay_all : (p : Place) (cs : List ReplayCall) → ReplayCallsAlike u p cs
      → length (sounded_all p cs) ≡ length (fed (events_all u p cs))
  replay_all p cs a = ap length (all_sounded u p cs a) ∙ length_played_by u p.state (events_all u p cs)
      ∙ sym (length_fed (silent_frame u) (events_all u p cs))

  -- ---- (d): cutting a recording anywhere changes nothing. It needs no reset
  replay_cut : (p : Place) (cs ds : List ReplayCall) → ReplayCallsAlike u p cs → ReplayCallsAlike u p ds
      → taken_all p cs ≡ taken_all p ds
      → SameReplay p cs ds
  replay_cut p cs ds a b e =
      let es : events_all u p cs ≡ events_all u p ds = ap (events_of (silent_frame u) p.expected) e in
      let state : (end p cs).state ≡ (end p ds).state = all_left u p cs a ∙ ap (state_left_by u p.state) es
      ∙ sym (all_left u p ds b) in
      let expected : (end p cs).expected ≡ (end p ds).expected = all_expected u p cs a
      ∙ ap (λ (rs : List (Recorded (List Float))). expected_after p.expected (stamps_of rs)) e
      ∙ sym (all_expected u p ds b) in
      record {
        sounds = all_sounded u p cs a ∙ ap (played_by u p.state) es ∙ sym (all_sounded u p ds b);
        samples = all_samples p cs a ∙ by_stamps out_in e ∙ sym (all_samples p ds b);
        unsettled = all_unsettled u p cs a ∙ ap (unsettled_played_by u p.state) es ∙ sym (all_unsettled u p ds b);
        late = all_late p cs a ∙ by_stamps late_in e ∙ sym (all_late p ds b);
        silent = all_silent p cs a ∙ by_stamps silent_in e ∙ sym (all_silent p ds b);
        resets = all_resets p cs a ∙ by_stamps resets_in e ∙ sym (all_resets p ds b);
        leaves = λ i. record { expected = expected i; state = state i };
      }
    where
      by_stamps : (by : Expected → List ℕ → ℕ) {rs vs : List (Recorded (List Float))} → rs ≡ vs
          → by p.expected (stamps_of rs) ≡ by p.expected (stamps_of vs)
      by_stamps by e = ap (λ (rs : List (Recorded (List Float))). by p.expected (stamps_of rs)) e

-- ---- over a past

replay_over : (u : Setup) (p : Place) (cs : List ReplayCall) → ReplayCallsAlike u p cs → (past : List (List Float))
    → Represents u past p.state → Over u p cs past
replay_over u p cs a past r =
    record {
      sounds = all_sounded u p cs a ∙ played_by_heard u past p.state r (events_all u p cs);
      unsettled = all_unsettled u p cs a ∙ counted_by_told u past p.state r (events_all u p cs);
      keeps = subst (Represents u (after_by u past (events_all u p cs))) (sym (all_left u p cs a))
          (left_by_kept u past p.state (events_all u p cs) r);
    }

-- ---- from a reset

module _ (u : Setup) (p : Place) (cs : List ReplayCall) (r : Replay u p cs) where
  pub replay_starts : Represents u [] p.state
  replay_starts = reset_starts u r.desk r.rings _ r.reset refl

  -- the whole replay sounds as the frames as fed, however it was cut
  pub replay_heard : sounded_all p cs ≡ heard_by u [] (events_all u p cs)
  replay_heard = (replay_over u p cs r.alike [] replay_starts).sounds

  -- (a)
  replay_sums : (n : ℕ) → n < length (fed (events_all u p cs))
      → get_or (sounded_all p cs) n [] ≡ ear_samples u (after_by u [] (upto_fed (events_all u p cs) n))
  replay_sums n h = ap (λ (l : List (List Float)). get_or l n []) replay_heard
      ∙ heard_by_at u [] (events_all u p cs) n [] (omega (arith, h, length_fed (silent_frame u) (events_all u p cs)))

  replay_parts : sounded_all p cs ≡ heard u [] (first_part (events_all u p cs))
      ++ heard_parts u (later_parts (events_all u p cs))
  replay_parts = replay_heard ∙ parts_heard u [] (events_all u p cs)

-- (b): two replays that agree on a frame as fed and the L-1 before it give the same two ear samples there, whatever
-- came earlier
replay_equal : (u : Setup) (p q : Place) (cs ds : List ReplayCall) → Replay u p cs → Replay u q ds → (n m : ℕ)
    → n < length (fed (events_all u p cs)) → m < length (fed (events_all u q ds)) → ReplayFramesAgree u p cs n q ds m
    → get_or (sounded_all p cs) n [] ≡ get_or (sounded_all q ds) m []
replay_equal u p q cs ds r v n m hn hm e =
    replay_sums u p cs r n hn ∙ fed_same u r.finite (events_all u p cs) (events_all u q ds) n m e
    ∙ sym (replay_sums u q ds v m hm)

-- both have a damaged frame among those L, or neither
replay_settled : (u : Setup) (p q : Place) (cs ds : List ReplayCall) (n m : ℕ) → ReplayFramesAgree u p cs n q ds m
    → damaged_among u (events_all u p cs) n ≡ damaged_among u (events_all u q ds) m
replay_settled u p q cs ds n m =
    damage_agrees u (fed_since [] (upto_fed (events_all u p cs) n)) (fed_since [] (upto_fed (events_all u q ds) m))

-- (c): each call's count, over a past that rings and desk stand for, where a rule tells which frames are unsettled
counts_on : (u : Setup) (flag : ℕ → Bool) (n : ℕ) (past : List (List Float)) (p : Place) (cs : List ReplayCall)
    → ReplayCallsAlike u p cs → Represents u past p.state → Told flag n (unsettled_each_by u 0 past (events_all u p cs))
    → counts (λ (r : ReplayTold). r.unsettled) p cs
    ≡ flagged_counts flag n (counts (λ (r : ReplayTold). r.samples) p cs)
counts_on u flag n past p [] a r e = refl
counts_on u flag n past p (c ∷ cs) a r e =
    let w = called u p c a.0 in
    let es = events u p c in
    let many = length_each_by u past es ∙ feeds_out (silent_frame u) p.expected (taken p c)
    ∙ sym (ap (λ (q : Planned). q.out) w.told) in
    let parts = told_append flag n (outcome_at p c).answer.samples (unsettled_each_by u 0 past es) _ many
    (subst (Told flag n) (ap (unsettled_each_by u 0 past) (events_on u p c cs w)
    ∙ each_by_append u past es (events_all u (next p c) cs)) e) in
    cc (
      w.unsettled ∙ counted_by_told u past p.state r es ∙ ap count parts.0,
      counts_on u flag (n + (outcome_at p c).answer.samples) (after_by u past es) (next p c) cs a.1
          (subst (Represents u (after_by u past es)) (sym w.state) (left_by_kept u past p.state es r))
          parts.1,
    )

-- the counts by that rule are those of the calls, one after another
counts_are : (u : Setup) (es : List (Event (List Float))) (n : ℕ) (p : Place) (cs : List ReplayCall)
    → flagged_counts (damaged_among u es) n (counts (λ (r : ReplayTold). r.samples) p cs) ≡ damaged_counts u es n p cs
counts_are u es n p [] = refl
counts_are u es n p (c ∷ cs) =
    ap (λ (l : List ℕ). count (tab n (outcome_at p c).answer.samples (damaged_among u es)) ∷ l)
    (counts_are u es (n + (outcome_at p c).answer.samples) (next p c) cs)

replay_unsettled : (u : Setup) (p : Place) (cs : List ReplayCall) → Replay u p cs
    → counts (λ (r : ReplayTold). r.unsettled) p cs ≡ damaged_counts u (events_all u p cs) 0 p cs
replay_unsettled u p cs r = counts_on u (damaged_among u (events_all u p cs)) 0 [] p cs r.alike
    (replay_starts u p cs r) (flags_told u r.finite (events_all u p cs))
    ∙ counts_are u (events_all u p cs) 0 p cs

pub replay_demand_3 : ReplayDemand3
replay_demand_3 =
    record {
      counted = replay_counted;
      all = replay_all;
      over = replay_over;
      sums = replay_sums;
      parts = replay_parts;
      equal = replay_equal;
      settled = replay_settled;
      unsettled = replay_unsettled;
      cut = replay_cut;
    }
