-- DEMAND 3. From a reset, however a run is cut into calls and whatever calls are refused between, what is heard is
-- document 01's sums over the frames that were fed. Assumes nothing.
use Rattle.std.specs.Prelude.{◌≡◌, ◌<◌, ◌∷◌, ◌+◌}
use Rattle.lists.specs.Prelude.{refl, sym, ap, ◌∙◌, false, List, [], map, reverse, ℕ, suc, length, get_or, take, Float}
use Rattle.lists.specs.Prelude.{arith}
use Rattle.lists.specs.Calls.{of_each_call}
use Rattle.lists.specs.Tables.{any, tab, count}
use Rattle.lists.proofs.Tables.{tab_is}
use Rattle.checks.specs.Finite.{has_nonfinite}
use Rattle.hrtf_desk.specs.declared.Desk.{Desk}
use Rattle.hrtf_history.specs.Setup.{Setup}
use Rattle.hrtf_history.specs.History.{ear_samples, heard, unsettled_each, upto, flagged_counts}
use Rattle.hrtf_history.proofs.Silence.{ears_agree, damaged_last_lem, damage_agrees, after_is}
use Rattle.hrtf_history.proofs.Pieces.{length_heard, heard_at, length_each, each_at, Told}
use Rattle.hrtf_rings.specs.State.{State}
use Rattle.hrtf_rings.specs.Computed.{state_left, played_by_rings, unsettled_count_by_desk}
use Rattle.hrtf_rings.specs.Held.{Represents}
use Rattle.hrtf_rings.proofs.Blocks.{played_heard}
use Rattle.hrtf_checks.specs.Call.{BlockCall}
use Rattle.hrtf.specs.Reset.{ResetOutcome, ResetPromise}
use Rattle.hrtf.proofs.Meets.{reset_number}
use Rattle.hrtf_runs.specs.Runs.{CallsAlike, next, fed, fed_all, sounded_all, unsettled_counts}
use Rattle.hrtf_runs.specs.Demand.{Run, FramesAgree, damaged_among, damaged_counts, SameRun, Demand3}
use Rattle.hrtf_runs.proofs.Calls.{all_sounded, all_left, all_counted, all_flagged}

-- a reset that is accepted leaves the empty past
pub reset_starts : (u : Setup) (d : Desk) (rings : List Float) (a : ResetOutcome)
    → ResetPromise d u.speakers u.L rings a → a.answer.refusal ≡ 0
    → Represents u [] (record { rings = a.rings; desk = a.answer.desk })
reset_starts u d rings a r e = r.words (sym (reset_number d u.speakers u.L rings a r) ∙ e) u refl refl

-- a run begins there
pub run_starts : (u : Setup) (t : State) (cs : List BlockCall) → Run u t cs → Represents u [] t
run_starts u t cs r = reset_starts u r.desk r.rings _ r.reset refl

-- the whole run sounds as the frames that were fed, however it was cut
pub run_heard : (u : Setup) (t : State) (cs : List BlockCall) → Run u t cs → sounded_all t cs
    ≡ heard u [] (fed_all t cs)
run_heard u t cs r = all_sounded u t cs r.alike ∙ played_heard u [] t (run_starts u t cs r) (fed_all t cs)

run_all : (u : Setup) (t : State) (cs : List BlockCall) → Run u t cs → length (sounded_all t cs) ≡ length (fed_all t cs)
run_all u t cs r = ap length (run_heard u t cs r) ∙ length_heard u [] (fed_all t cs)

-- (a)
run_sums : (u : Setup) (t : State) (cs : List BlockCall) → Run u t cs → (n : ℕ) → n < length (fed_all t cs)
    → get_or (sounded_all t cs) n [] ≡ ear_samples u (upto u (fed_all t cs) n)
run_sums u t cs r n h =
    ap (λ (l : List (List Float)). get_or l n []) (run_heard u t cs r) ∙ heard_at u (fed_all t cs) n [] h

-- ---- frames that agree

-- both have a damaged frame among the last L, or neither
run_settled : (u : Setup) (t s : State) (cs ds : List BlockCall) (n m : ℕ) → FramesAgree u t cs n s ds m
    → damaged_among u (fed_all t cs) n ≡ damaged_among u (fed_all s ds) m
run_settled u t s cs ds n m =
    damage_agrees u (reverse (take (suc n) (fed_all t cs))) (reverse (take (suc m) (fed_all s ds)))

-- (b): two runs that agree on a frame and the L-1 frames before it give the same two ear samples there, whatever came
-- earlier
run_agree : (u : Setup) (t s : State) (cs ds : List BlockCall) → Run u t cs → Run u s ds → (n m : ℕ)
    → n < length (fed_all t cs) → m < length (fed_all s ds) → FramesAgree u t cs n s ds m
    → get_or (sounded_all t cs) n [] ≡ get_or (sounded_all s ds) m []
run_agree u t s cs ds r q n m hn hm e =
    let past = take (suc n) (fed_all t cs) in
    let qast = take (suc m) (fed_all s ds) in
    run_sums u t cs r n hn ∙ ap (ear_samples u) (after_is u past [])
    ∙ ears_agree u r.finite (reverse past) (reverse qast) e
    ∙ sym (run_sums u s ds q m hm ∙ ap (ear_samples u) (after_is u qast []))

-- (c): the unsettled frames are those with a damaged frame among the last L
flags_told : (u : Setup) → has_nonfinite u.weights ≡ false → (fs : List (List Float))
    → Told (damaged_among u fs) 0 (unsettled_each u 0 [] fs)
flags_told u finite fs =
    sym (tab_is (unsettled_each u 0 [] fs) false (damaged_among u fs)
    (λ n h. sym (each_at u [] fs n false (omega (arith, h, length_each u 0 [] fs))
    ∙ ap (λ (past : List (List Float)). any (take u.L (map has_nonfinite past))) (after_is u (take (suc n) fs) [])
    ∙ damaged_last_lem u finite (reverse (take (suc n) fs)))))

-- the counts by that rule are those of the calls, one after another
counts_are : (u : Setup) (fs : List (List Float)) (n : ℕ) (t : State) (cs : List BlockCall)
    → flagged_counts (damaged_among u fs) n (of_each_call next (λ c t. length (fed c t)) t cs)
    ≡ damaged_counts u fs n t cs
counts_are u fs n t [] = refl
counts_are u fs n t (c ∷ cs) =
    ap (λ (l : List ℕ). count (tab n (length (fed c t)) (damaged_among u fs)) ∷ l)
    (counts_are u fs (n + length (fed c t)) (next c t) cs)

run_counts : (u : Setup) (t : State) (cs : List BlockCall) → Run u t cs
    → unsettled_counts t cs ≡ damaged_counts u (fed_all t cs) 0 t cs
run_counts u t cs r = all_flagged u (damaged_among u (fed_all t cs)) 0 [] t cs (run_starts u t cs r) r.alike
    (flags_told u r.finite (fed_all t cs))
    ∙ counts_are u (fed_all t cs) 0 t cs

-- (d): cutting a run into blocks anywhere changes nothing. It needs no reset
run_cut : (u : Setup) (t : State) (cs ds : List BlockCall) → CallsAlike u t cs → CallsAlike u t ds
    → fed_all t cs ≡ fed_all t ds
    → SameRun t cs ds
run_cut u t cs ds a b e =
    record {
      sounds = all_sounded u t cs a ∙ ap (played_by_rings u t) e ∙ sym (all_sounded u t ds b);
      counts = all_counted u t cs a ∙ ap (unsettled_count_by_desk u t) e ∙ sym (all_counted u t ds b);
      leaves = all_left u t cs a ∙ ap (state_left u t) e ∙ sym (all_left u t ds b);
    }

pub demand_3 : Demand3
demand_3 = record {
  all = run_all;
  sums = run_sums;
  equal = run_agree;
  settled = run_settled;
  counts = run_counts;
  cut = run_cut;
}
