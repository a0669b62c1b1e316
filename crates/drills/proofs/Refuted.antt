-- Wrong readings of demand 3, and wrong answers in a drill, each held against what is promised: the samples before
-- encoding compared, damage judged on them, a frame before the first cue counted as unsettled, an infinite sample at a
-- gain of 0.0 counted otherwise, and other ears than those of a drill that agrees after encoding. Assumes nothing.
use Rattle.std.specs.Prelude.{◌≡◌, ◌∷◌, ◌+◌, ◌<◌, ◌≤◌}
use Rattle.lists.specs.Prelude.{refl, sym, ap, ◌∙◌, subst, Bool, false, not, cond, true≢false, List, [], ℕ, zero, suc}
use Rattle.lists.specs.Prelude.{suc-ne-zero, zero-add, add-zero, add-suc, suc-add, arith, lit<, length, get_or}
use Rattle.lists.specs.Prelude.{length-append, get_or-append, Float, nan}
use lib.Ieee.Positive.{positive}
use lib.Ieee.Scale.{finite}
use Rattle.lists.specs.Tables.{tab, count}
use Rattle.lists.proofs.Tables.{length_tab, get_or_tab}
use Rattle.planes.specs.Planes.{sample_at, frame_at}
use Rattle.script.specs.DrillScript.{Before}
use Rattle.hrtf_history.specs.Setup.{Setup}
use Rattle.hrtf_history.specs.Signals.{damaged}
use Rattle.hrtf_rings.proofs.Blocks.{fresh}
use Rattle.hrtf_checks.specs.Call.{BlockCall}
use Rattle.hrtf_checks.specs.Refusals.{refusal_of}
use Rattle.hrtf.specs.Promise.{BlockOutcome, outcome, ProcessPromise}
use Rattle.hrtf_runs.specs.Runs.{next, fed as fedTo, fed_all, sounded, sounded_all}
use Rattle.hrtf_runs.specs.Demand.{damaged_among}
use Rattle.drills.specs.Drills.{Drill, drill_samples, encoded, drill_heard, Drilled}
use Rattle.drills.specs.Demand.{DrillFramesAgree}
use Rattle.drills.proofs.Demand.{drill_fed, drill_demand_3, before_settled}
use Rattle.drills.proofs.Worked.{four, one, unheard, samples_are, one_encoded, one_drilled, unheard_drilled}
use Rattle.drills.proofs.Worked.{one_heard, unheard_heard, silent_call, refused_call, one_call, infinite_call}
use Rattle.drills.proofs.Worked.{infinite_counts}

-- ---- demand 3 read on the samples before encoding: two drills with the same samples sound the same
before_encoding : ((u : Setup) (d e : Drill) → Drilled u d → Drilled u e → drill_samples d ≡ drill_samples e
    → drill_heard d ≡ drill_heard e)
    → ⊥
before_encoding h =
    true≢false (ap (λ (l : List (List Float)). positive (get_or (get_or l 1 []) 0 nan))
    (sym one_heard ∙ h four one unheard one_drilled unheard_drilled (samples_are _) ∙ unheard_heard))

-- ---- damage judged on the samples: frame 0 of the worked drill is a NaN before the first cue
judged_on_samples : ((u : Setup) (d : Drill) → Drilled u d → (n : ℕ) → n < length (encoded d)
    → damaged u (get_or (encoded d) n []) ≡ not (finite (get_or (drill_samples d) n nan))) → ⊥
judged_on_samples h =
    let some : 0 < length (encoded one) = subst (λ (fs : List (List Float)). 0 < length fs) (sym one_encoded)
    (lit< tt) in
    true≢false (ap (λ (l : List Float). not (finite (get_or l 0 nan))) (sym (samples_are _))
    ∙ sym (h four one one_drilled 0 some) ∙ drill_demand_3.silent four one one_drilled 0 some refl)

-- ---- an invented count for the infinite sample: two frames are unsettled
invented : (o : BlockOutcome) → ProcessPromise infinite_call (next refused_call (next silent_call (fresh four))) o
    → (n : ℕ)
    → (n ≡ 2 → ⊥) → o.answer.unsettled ≡ n → ⊥
invented o p n other e = other (sym e ∙ ap (λ (q : BlockOutcome). q.answer.unsettled) p.bits
    ∙ ap (λ (l : List ℕ). get_or l 2 0) infinite_counts)

-- ---- the first call of any drill, and what answers it

none_counted : (i n : ℕ) (f : ℕ → Bool) → ((k : ℕ) → k < n → f (i + k) ≡ false) → count (tab i n f) ≡ 0
none_counted i zero f h = refl
none_counted i (suc n) f h =
    ap (λ (b : Bool). cond b 1 0 + count (tab (suc i) n f)) (ap f (sym (add-zero i)) ∙ h 0 (omega arith))
    ∙ zero-add (count (tab (suc i) n f))
    ∙ none_counted (suc i) n f (λ k l. ap f (suc-add i k ∙ sym (add-suc i k)) ∙ h (suc k) (omega (arith, l)))

-- a drill that begins with this call
abbrev begun : Drill → BlockCall → List BlockCall → Drill
begun d c cs = record {
  cues = d.cues;
  order = d.order;
  first = d.first;
  renders = d.renders;
  start = d.start;
  plays = c ∷ cs;
}

module _ (u : Setup) (d : Drill) (c : BlockCall) (cs : List BlockCall) (h : Drilled u (begun d c cs)) (o : BlockOutcome)
    (p : ProcessPromise c d.start o) where
  fed_among : length (fedTo c d.start) ≤ length (encoded d)
  fed_among = omega (
    arith,
    length-append (fedTo c d.start) (fed_all (next c d.start) cs),
    ap length (drill_fed u (begun d c cs) h),
  )

  -- its frames are before the first cue, and one is counted as unsettled: whatever the samples are
  counted_before : ((n : ℕ) → n < length (fedTo c d.start) → Before d.cues (d.first + n)) → (n : ℕ)
      → o.answer.unsettled ≡ suc n → ⊥
  counted_before b n e =
      suc-ne-zero n
      (sym e
      ∙ ap (λ (q : BlockOutcome). q.answer.unsettled) p.bits
      ∙ ap (λ (l : List ℕ). get_or l 0 0) (drill_demand_3.counts u (begun d c cs) h)
      ∙ none_counted 0 (length (fedTo c d.start)) (damaged_among u (encoded d))
      (λ k l. before_settled u (begun d c cs) h (0 + k) (omega (arith, l, fed_among)) (b (0 + k) (omega (arith, l)))))

  -- the frames that it says it played are among those after encoding, and its ears are what is heard there
  played_among : o.answer.samples ≤ length (encoded d)
  played_among =
      omega (
        arith,
        ap (λ (q : BlockOutcome). q.answer.samples) p.bits,
        length-append (sounded c d.start) (sounded_all (next c d.start) cs),
        length_tab 0 (outcome c d.start).answer.samples (frame_at (outcome c d.start).ears c.stride 2),
        drill_demand_3.all u (begun d c cs) h,
      )

  ears_heard : (n ear : ℕ) → n < o.answer.samples → ear < 2
      → sample_at o.ears c.stride ear n ≡ get_or (get_or (drill_heard (begun d c cs)) n []) ear nan
  ears_heard n ear l k =
      subst (λ (q : BlockOutcome). n < q.answer.samples → sample_at q.ears c.stride ear n
      ≡ get_or (get_or (drill_heard (begun d c cs)) n []) ear nan) (sym p.bits) promised l
    where
      q : BlockOutcome
      q = outcome c d.start

      promised : n < q.answer.samples → sample_at q.ears c.stride ear n ≡ get_or
          (get_or (drill_heard (begun d c cs)) n [])
          ear nan
      promised m =
          sym
          (ap (λ (f : List Float). get_or f ear nan)
          (get_or-append (sounded c d.start) (sounded_all (next c d.start) cs) [] n
          (omega (arith, m, length_tab 0 q.answer.samples (frame_at q.ears c.stride 2)))
          ∙ get_or_tab 0 q.answer.samples (frame_at q.ears c.stride 2) n [] m
          ∙ ap (frame_at q.ears c.stride 2) (zero-add n))
          ∙ get_or_tab 0 2 (λ s. sample_at q.ears c.stride s n) ear nan k
          ∙ ap (λ (s : ℕ). sample_at q.ears c.stride s n) (zero-add ear))

-- so it is of the first call of the worked drill, whose sample is a NaN
one_fed : length (fedTo silent_call (fresh four)) ≡ 1
unfolding refusal_of
one_fed = refl

nan_counted : (o : BlockOutcome) → ProcessPromise silent_call (fresh four) o → (n : ℕ) → o.answer.unsettled ≡ suc n
    → ⊥
nan_counted o p = counted_before four one silent_call (refused_call ∷ one_call ∷ []) one_drilled o p
    (λ n l. omega (arith, l, one_fed))

-- other ears than another drill's, at frames that agree after encoding with the L-1 before them
other_ears : (u : Setup) (d₁ d₂ : Drill) (c₁ c₂ : BlockCall) (cs₁ cs₂ : List BlockCall) → Drilled u (begun d₁ c₁ cs₁)
    → Drilled u (begun d₂ c₂ cs₂)
    → (o₁ o₂ : BlockOutcome) → ProcessPromise c₁ d₁.start o₁ → ProcessPromise c₂ d₂.start o₂ → (n m : ℕ)
    → n < o₁.answer.samples → m < o₂.answer.samples → DrillFramesAgree u d₁ n d₂ m
    → (ear : ℕ) → ear < 2 → (sample_at o₁.ears c₁.stride ear n ≡ sample_at o₂.ears c₂.stride ear m → ⊥) → ⊥
other_ears u d₁ d₂ c₁ c₂ cs₁ cs₂ h₁ h₂ o₁ o₂ p₁ p₂ n m l₁ l₂ a ear k other =
    other
    (ears_heard u d₁ c₁ cs₁ h₁ o₁ p₁ n ear l₁ k
    ∙ ap (λ (f : List Float). get_or f ear nan)
    (drill_demand_3.equal u (begun d₁ c₁ cs₁) (begun d₂ c₂ cs₂) h₁ h₂ n m
    (omega (arith, l₁, played_among u d₁ c₁ cs₁ h₁ o₁ p₁)) (omega (arith, l₂, played_among u d₂ c₂ cs₂ h₂ o₂ p₂))
    a)
    ∙ sym (ears_heard u d₂ c₂ cs₂ h₂ o₂ p₂ m ear l₂ k))
