-- DEMAND 3 ON THE FRAMES AFTER ENCODING. What the convolver is fed is what was encoded, so every sentence of `demand_3`
-- of `hrtf_runs` reads on the encoded frames. Assumes nothing.
use Rattle.std.specs.Prelude.{◌≡◌, ◌+◌, ◌<◌}
use Rattle.lists.specs.Prelude.{sym, ap, ◌∙◌, subst, Bool, true, false, List, [], ℕ, mul-pos, arith, length, get_or}
use Rattle.lists.specs.Prelude.{Float, nan, inf, binary32, mul}
use Rattle.formats.specs.Floats.{zero_float}
use Rattle.channel.specs.Orders.{channels_of_order}
use Rattle.harmonics.specs.declared.Direction.{Direction}
use Rattle.cues.specs.Cues.{speaking, voice_at}
use Rattle.script.specs.Rendering.{rendered}
use Rattle.script.specs.DrillScript.{Before}
use Rattle.script.proofs.Divided.{stretches}
use Rattle.hrtf_history.specs.Setup.{Setup}
use Rattle.hrtf_history.specs.Signals.{damaged}
use Rattle.hrtf_history.specs.History.{ear_samples, upto}
use Rattle.hrtf_rings.specs.State.{State}
use Rattle.hrtf_rings.specs.Held.{state_of}
use Rattle.hrtf_checks.specs.Call.{BlockCall}
use Rattle.hrtf.specs.Reset.{ResetOutcome}
use Rattle.hrtf.proofs.Meets.{reset_by, reset_number}
use Rattle.hrtf_runs.specs.Runs.{CallsAlike, fed_all, sounded_all, end, unsettled_counts, sum_of_counts}
use Rattle.hrtf_runs.specs.Demand.{Run, frame_ago, damaged_among, damaged_counts, SameRun}
use Rattle.hrtf_runs.proofs.Demand.{run_starts, demand_3}
use Rattle.drills.specs.Drills.{Drill, drill_samples, encoded, fed, drill_heard, Drilled, planes_left, planes_taken}
use Rattle.drills.specs.Demand.{gains_at, DrillFramesAgree, SameDrill, SameScript, DrillDemand3}
use Rattle.drills.proofs.Passing.{read_all, put_all, fed_all_lem}
use Rattle.drills.proofs.Silence.{silent_sound, silent_settled, before_nobody}
use Rattle.drills.proofs.Damage.{product_damages}

-- planes lent as they were left
pub drill_handed : (u : Setup) (d : Drill) → Run u d.start d.plays → u.channels ≡ channels_of_order d.order
    → planes_taken d ≡ planes_left d → Drilled u d
drill_handed u d r c e =
    record {
      run = r;
      channels = c;
      passed = fed_all_lem u d.start d.plays r.alike ∙ (λ i. read_all (c i) (e i))
          ∙ sym (put_all d.cues d.order d.first d.renders);
    }

-- the frames that are fed are those after encoding
pub drill_fed : (u : Setup) (d : Drill) → Drilled u d → fed d ≡ encoded d
drill_fed u d h = h.passed ∙ stretches d.cues d.order d.first d.renders

drill_all : (u : Setup) (d : Drill) → Drilled u d → length (drill_heard d) ≡ length (encoded d)
drill_all u d h = demand_3.all u d.start d.plays h.run ∙ ap length (drill_fed u d h)

-- (a)
drill_sums : (u : Setup) (d : Drill) → Drilled u d → (n : ℕ) → n < length (encoded d)
    → get_or (drill_heard d) n [] ≡ ear_samples u (upto u (encoded d) n)
drill_sums u d h n =
    subst (λ (fs : List (List Float)). n < length fs → get_or (drill_heard d) n [] ≡ ear_samples u (upto u fs n))
    (drill_fed u d h) (demand_3.sums u d.start d.plays h.run n)

-- (b): a fact of the frames that are fed in two drills is one of those after encoding
both_fed : (u : Setup) (d e : Drill) → Drilled u d → Drilled u e → (P : List (List Float) → List (List Float) → Type 0)
    → P (fed d) (fed e) → P (encoded d) (encoded e)
both_fed u d e h k P p =
    subst (P (encoded d)) (drill_fed u e k) (subst (λ (fs : List (List Float)). P fs (fed e)) (drill_fed u d h) p)

drill_equal : (u : Setup) (d e : Drill) → Drilled u d → Drilled u e → (n m : ℕ) → n < length (encoded d)
    → m < length (encoded e) → DrillFramesAgree u d n e m → get_or (drill_heard d) n [] ≡ get_or (drill_heard e) m []
drill_equal u d e h k n m =
    both_fed u d e h k
    (λ fs gs. n < length fs → m < length gs → ((j : ℕ) → j < u.L → frame_ago u fs n j ≡ frame_ago u gs m j)
    → get_or (drill_heard d) n [] ≡ get_or (drill_heard e) m [])
    (demand_3.equal u d.start e.start d.plays e.plays h.run k.run n m)

drill_settled : (u : Setup) (d e : Drill) → Drilled u d → Drilled u e → (n m : ℕ) → DrillFramesAgree u d n e m
    → damaged_among u (encoded d) n ≡ damaged_among u (encoded e) m
drill_settled u d e h k n m =
    both_fed u d e h k
    (λ fs gs. ((j : ℕ) → j < u.L → frame_ago u fs n j ≡ frame_ago u gs m j) → damaged_among u fs n
    ≡ damaged_among u gs m)
    (demand_3.settled u d.start e.start d.plays e.plays n m)

-- (c)
drill_counts : (u : Setup) (d : Drill) → Drilled u d → unsettled_counts d.start d.plays ≡ damaged_counts u
    (encoded d) 0 d.start d.plays
drill_counts u d h = demand_3.counts u d.start d.plays h.run
    ∙ ap (λ (fs : List (List Float)). damaged_counts u fs 0 d.start d.plays) (drill_fed u d h)

-- whatever its samples are: every frame before the first cue is settled
pub before_settled : (u : Setup) (d : Drill) → Drilled u d → (n : ℕ) → n < length (encoded d)
    → Before d.cues (d.first + n) → damaged_among u (encoded d) n ≡ false
before_settled u d h n l b = silent_settled u h.run.finite d h.channels n l (before_nobody d n l b)

-- a sample whose product with a gain is NaN
module _ (u : Setup) (d : Drill) (h : Drilled u d) (n : ℕ) (l : n < length (encoded d)) (v : Direction)
    (at : voice_at d.cues (d.first + n) ≡ speaking v) where
  nan_encoded : get_or (drill_samples d) n nan ≡ nan → damaged u (get_or (encoded d) n []) ≡ true
  unfolding mul
  nan_encoded e = product_damages u d h.run.alike h.channels (drill_fed u d h) n l v at 0
      (mul-pos (omega arith) (omega arith)) (ap (λ (x : Float). mul binary32 x (get_or (gains_at d.order v) 0 nan)) e)

  infinite_encoded : (s : Bool) → get_or (drill_samples d) n nan ≡ inf s → (p : ℕ) → p < channels_of_order d.order
      → get_or (gains_at d.order v) p nan ≡ zero_float → damaged u (get_or (encoded d) n []) ≡ true
  unfolding mul
  infinite_encoded s e p c g =
      product_damages u d h.run.alike h.channels (drill_fed u d h) n l v at p c (λ i. mul binary32 (e i) (g i))

-- ---- (d)

-- a reset leaves one state
run_start : (u : Setup) (t : State) (cs : List BlockCall) → Run u t cs → t ≡ state_of u 0 0 []
run_start u t cs r = (run_starts u t cs r).1 ∙ ap (λ (p : ℕ). state_of u p 0 []) zeroed_position
  where
    zeroed_position : t.desk.position ≡ 0
    zeroed_position =
        ap (λ (a : ResetOutcome). a.answer.desk.position)
        (r.reset.bits ∙ reset_by r.desk u.speakers u.L r.rings 0
        (sym (reset_number r.desk u.speakers u.L r.rings _ r.reset)))

-- so two runs that are fed the same are the same, also where each has its own reset
run_same : (u : Setup) (t s : State) (cs ds : List BlockCall) → Run u t cs → Run u s ds → fed_all t cs ≡ fed_all s ds
    → (sounded_all t cs ≡ sounded_all s ds)
    × ((sum_of_counts (unsettled_counts t cs) ≡ sum_of_counts (unsettled_counts s ds)) × (end t cs ≡ end s ds))
run_same u t s cs ds r q e =
    let p : s ≡ t = run_start u s ds q ∙ sym (run_start u t cs r) in
    let w : SameRun t cs ds = demand_3.cut u t cs ds r.alike (subst (λ (v : State). CallsAlike u v ds) p q.alike)
    (e ∙ ap (λ (v : State). fed_all v ds) p) in (
      w.sounds ∙ sym (ap (λ (v : State). sounded_all v ds) p),
      (
        w.counts ∙ sym (ap (λ (v : State). sum_of_counts (unsettled_counts v ds)) p),
        w.leaves
            ∙ sym (ap (λ (v : State). end v ds) p),
      ),
    )

drill_cut : (u : Setup) (d e : Drill) → Drilled u d → Drilled u e → encoded d ≡ encoded e → SameDrill d e
drill_cut u d e h k s =
    let w = run_same u d.start e.start d.plays e.plays h.run k.run
    (drill_fed u d h ∙ s ∙ sym (drill_fed u e k)) in
    record { sounds = w.0; counts = w.1.0; leaves = w.1.1 }

drill_divided : (u : Setup) (d e : Drill) → Drilled u d → Drilled u e → SameScript d e → SameDrill d e
drill_divided u d e h k s = drill_cut u d e h k (λ i. rendered (s.cues i) (s.order i) (s.first i) (s.samples i))

pub drill_demand_3 : DrillDemand3
drill_demand_3 =
    record {
      handed = drill_handed;
      after_encoding = drill_fed;
      all = drill_all;
      sums = drill_sums;
      equal = drill_equal;
      settled = drill_settled;
      counts = drill_counts;
      silent = λ u d h. silent_sound u h.run.finite d h.channels;
      quiet = λ u d h. silent_settled u h.run.finite d h.channels;
      nan_damages = nan_encoded;
      infinite_damages = infinite_encoded;
      cut = drill_cut;
      divided = drill_divided;
    }
