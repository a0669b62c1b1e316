-- The loop of `gather`: what is in the block and what is left of the recording are what the recording does, after each
-- step; and something is left the less. Assumes nothing.
use Rattle.std.specs.Prelude.{◌≡◌, ◌∷◌, ◌++◌, ◌+◌, ◌-◌, ◌*◌, ◌^◌, ◌≤◌, ◌<◌}
use Rattle.lists.specs.Prelude.{refl, sym, ap, ◌∙◌, subst, Bool, true, false, cond, List, [], append_assoc, ℕ, zero-le}
use Rattle.lists.specs.Prelude.{le_refl, zero-add, suc-ne-zero, add-one, arith, ltb-true, ltb-false, leb, ltb, length}
use Rattle.lists.specs.Prelude.{get_or, drop, length-map, length-replicate, drop-cons, Float}
use Rattle.formats.specs.Floats.{zero_float}
use Rattle.lists.proofs.Tests.{by_test, by_at_most}
use Rattle.lists.proofs.Tables.{length_tab, get_or_tab}
use Rattle.planes.specs.Planes.{frame_at, with_frame}
use Rattle.planes.proofs.Planes.{length_with_frame}
use Rattle.stamps.specs.Arrivals.{Expected}
use Rattle.std.specs.Prelude.{Some}
use Rattle.stamps.specs.declared.Arrival.{Arrival}
use Rattle.stamps.specs.declared.Arrival.TheVariants.{Next, Ahead, Jump, Late}
use Rattle.stamps.specs.Arrivals.{Comes, coming_of, stamp_of, skipped_of}
use Rattle.stamps.specs.Events.{Recorded, Event, feed, restart, events_of, fed, stamps_of}
use Rattle.stamps.proofs.Recordings.{restarts_append, events_late, events_next, events_jump, events_silent}
use Rattle.replay.specs.declared.gather.Gathered.{Gathered}
use Rattle.replay.specs.Recording.{recorded_at, recording}
use Rattle.replay.specs.Computed.{silent_frame_of, is_gathering_on, gathered_by, filled_by, TakesFrame, restarting}
use Rattle.replay.specs.Computed.{events_from, Gathering}
use Rattle.replay.specs.Computed.{Gathers, feeds}
use Rattle.replay.proofs.Blocks.{block_more, fed_append}
use Rattle.replay.proofs.Eventful.{feeds_fed}

-- ---- one step

module _ (stamps : List ℕ) (channels stride : ℕ) (inputs : List Float) (g : Gathered) (block : List Float) where
  -- what an arm does
  pub took : (s : ℕ) (what y : Arrival) (r : Gathered) (block₁ : List Float) → Comes g.expected s what
      → s ≡ get_or stamps g.at 0 → s < 2 ^ 32 → what ≡ y
      → r ≡ gathered_by y g s → block₁ ≡ filled_by y block g.count (frame_at inputs stride channels g.at)
      (silent_frame_of channels) → TakesFrame stamps channels stride inputs g block r block₁
  took s what y r block₁ c es hs k et ef =
      record {
        below = c.below;
        stamp = rw es at hs;
        taken = et ∙ ap (λ (z : Arrival). gathered_by z g s) (sym k ∙ c.bits)
            ∙ ap (λ (n : ℕ). gathered_by (coming_of g.expected n) g n) es;
        filled = ef ∙ ap (λ (z : Arrival). filled_by z block g.count (frame_at inputs stride channels g.at)
            (silent_frame_of channels)) (sym k ∙ c.bits ∙ ap (coming_of g.expected) es);
      }

-- ---- while it goes on

pub goes_on_is : (g : Gathered) (frames : ℕ) → is_gathering_on g frames ≡ true
    → (g.restart ≡ false) × ((g.at < frames) × (g.count < 64))
goes_on_is g frames =
    by_test (λ (b : Bool). cond b false (cond (leb frames g.at) false (ltb g.count 64)) ≡ true
    → (b ≡ false) × ((g.at < frames) × (g.count < 64))) g.restart
    (λ e h. absurd (suc-ne-zero 0 (cc)))
    (λ e. by_at_most (λ (b : Bool). b ≡ true → (false ≡ false) × ((g.at < frames) × (g.count < 64))) frames g.at
    (λ a h. absurd (suc-ne-zero 0 (cc))) (λ a h. (refl, (a, ltb-true g.count 64 h))))

-- and where it does not: a recorded frame that is left comes after a full block, or after a reset
pub goes_off_is : (g : Gathered) (frames : ℕ) → is_gathering_on g frames ≡ false → g.at < frames
    → 0 < g.count + cond g.restart 1 0
goes_off_is g frames =
    by_test (λ (b : Bool). cond b false (cond (leb frames g.at) false (ltb g.count 64)) ≡ false → g.at < frames
    → 0 < g.count + cond b 1 0) g.restart
    (λ e h lt. omega arith)
    (λ e. by_at_most (λ (b : Bool). b ≡ false → g.at < frames → 0 < g.count + 0) frames g.at
    (λ a h lt. omega arith) (λ a h lt. omega (arith, ltb-false g.count 64 h)))

-- ---- what is gathered

-- what is left: events, and recorded frames
abbrev pub left_of : List (Recorded (List Float)) → ℕ → ℕ → Gathered → ℕ
left_of rs channels frames g = length (events_from rs channels g.expected g.at) + (frames - g.at)

module _ (stamps : List ℕ) (channels stride : ℕ) (inputs : List Float) (x : Expected) (at frames : ℕ) where
  abbrev rs : List (Recorded (List Float))
  rs = recording stamps channels stride inputs frames

  abbrev q : List Float
  q = silent_frame_of channels

  pub gathering_none : {block : List Float} → at ≤ frames → length block ≡ channels * 64
      → Gathering rs channels x at frames (record { count = 0; at = at; restart = false; expected = x }) block
  gathering_none h e =
      record {
        gone = [];
        whole = refl;
        put = refl;
        split = refl;
        few = zero-le;
        on = le_refl at;
        within = h;
        long = e;
      }

  -- the recorded frame that comes next
  next_is : (k : ℕ) → k < frames → drop k rs ≡ recorded_at stamps channels stride inputs k ∷ drop (k + 1) rs
  next_is k h =
      drop-cons rs k (recorded_at stamps channels stride inputs 0)
      (rw (length_tab 0 frames (recorded_at stamps channels stride inputs)) h)
      ∙ cc (
        get_or_tab 0 frames (recorded_at stamps channels stride inputs) k (recorded_at stamps channels stride inputs 0)
            h,
        ap (recorded_at stamps channels stride inputs) (zero-add k),
        ap (λ (n : ℕ). drop n rs) (add-one k),
      )

  module _ (g : Gathered) (block : List Float) (p : Gathering rs channels x at frames g block)
      (going : is_gathering_on g frames ≡ true)
      (below : stamp_of g.expected < 2 ^ 32) (low : get_or stamps g.at 0 < 2 ^ 32) where
    abbrev s : ℕ
    s = get_or stamps g.at 0

    abbrev f : List Float
    f = frame_at inputs stride channels g.at

    abbrev r : Recorded (List Float)
    r = recorded_at stamps channels stride inputs g.at

    abbrev after : List (Recorded (List Float))
    after = drop (g.at + 1) rs

    free : (g.restart ≡ false) × ((g.at < frames) × (g.count < 64))
    free = goes_on_is g frames going

    -- the event that comes next, if there is one
    abbrev first : Arrival → List (Event (List Float))
    first Next = feed s f ∷ []
    first (Ahead d) = feed (stamp_of g.expected) q ∷ []
    first Jump = restart ∷ []
    first Late = []

    does : (c : Arrival) → coming_of g.expected s ≡ c → events_from rs channels g.expected g.at ≡ first c
        ++ events_from rs channels (gathered_by c g s).expected (gathered_by c g s).at
    does c k = ap (events_of q g.expected) here ∙ arm c k
      where
        here : drop g.at rs ≡ r ∷ after
        here = next_is g.at free.1.0

        arm : (c : Arrival) → coming_of g.expected s ≡ c → events_of q g.expected (r ∷ after) ≡ first c
            ++ events_from rs channels (gathered_by c g s).expected (gathered_by c g s).at
        arm Next k = events_next q r after g.expected k
        arm (Ahead d) k = events_silent q r after g.expected d below low k
            ∙ ap (λ (l : List (Recorded (List Float))). first (Ahead d) ++ events_of q (skipped_of g.expected) l)
            (sym here)
        arm Jump k = events_jump q r after g.expected low k
            ∙ ap (λ (l : List (Recorded (List Float))). restart ∷ events_of q (Some s) l) (sym here)
        arm Late k = events_late q r after g.expected k

    -- no reset so far
    so_far : (es : List (Event (List Float))) → events_from rs channels g.expected g.at ≡ es
        → events_from rs channels x at ≡ p.gone ++ es
    so_far es e = p.split ∙ ap (λ (b : Bool). p.gone
        ++ (restarting b ++ events_from rs channels g.expected g.at)) free.0
        ∙ ap (λ (l : List (Event (List Float))). p.gone ++ l) e

    -- one frame more in the block, or none
    one_more : (t : ℕ) (h : List Float) (k : ℕ) (y : Expected) → length h ≡ channels → g.at ≤ k → k ≤ frames
        → events_from rs channels g.expected g.at ≡ feed t h ∷ events_from rs channels y k
        → Gathering rs channels x at frames (record { count = g.count + 1; at = k; restart = false; expected = y })
        (with_frame block 64 g.count h)
    one_more t h k y eh on within e =
        record {
          gone = p.gone ++ (feed t h ∷ []);
          whole = restarts_append q p.gone (feed t h ∷ []) ∙ omega (arith, p.whole);
          put = fed_append p.gone (feed t h ∷ []) ∙ ap (λ (l : List (List Float)). l ++ (h ∷ [])) p.put
              ∙ sym (block_more block 64 channels g.count h eh free.1.1 p.long);
          split = so_far (feed t h ∷ events_from rs channels y k) e
              ∙ sym (append_assoc p.gone (feed t h ∷ []) (events_from rs channels y k));
          few = omega (arith, free.1.1);
          on = omega (arith, p.on);
          within = within;
          long = length_with_frame 0 block 64 g.count h ∙ p.long;
        }

    none_more : (k : ℕ) (b : Bool) (y : Expected) → g.at ≤ k → k ≤ frames
        → events_from rs channels g.expected g.at ≡ restarting b ++ events_from rs channels y k
        → Gathering rs channels x at frames (record { count = g.count; at = k; restart = b; expected = y }) block
    none_more k b y on within e =
        record {
          gone = p.gone;
          whole = p.whole;
          put = p.put;
          split = so_far (restarting b ++ events_from rs channels y k) e;
          few = p.few;
          on = omega (arith, p.on);
          within = within;
          long = p.long;
        }

    taken_on : (c : Arrival) → coming_of g.expected s ≡ c
        → Gathering rs channels x at frames (gathered_by c g s) (filled_by c block g.count f q)
    taken_on Next k = one_more s f (g.at + 1) _ (length_tab 0 channels _) (omega arith) (omega (arith, free.1.0))
        (does Next k)
    taken_on (Ahead d) k = one_more (stamp_of g.expected) q g.at _ (length-replicate channels zero_float)
        (omega arith) p.within (does (Ahead d) k)
    taken_on Jump k = none_more g.at true _ (omega arith) p.within (does Jump k)
    taken_on Late k = none_more (g.at + 1) false _ (omega arith) (omega (arith, free.1.0)) (does Late k)

    less_on : (c : Arrival) → coming_of g.expected s ≡ c
        → left_of rs channels frames (gathered_by c g s) < left_of rs channels frames g
    less_on Next k = omega (arith, free.1.0, ap length (does Next k))
    less_on (Ahead d) k = omega (arith, ap length (does (Ahead d) k))
    less_on Jump k = omega (arith, ap length (does Jump k))
    less_on Late k = omega (arith, free.1.0, ap length (does Late k))

  module _ {g : Gathered} {block : List Float} (p : Gathering rs channels x at frames g block)
      (going : is_gathering_on g frames ≡ true)
      {g₁ : Gathered} {block₁ : List Float} (t : TakesFrame stamps channels stride inputs g block g₁ block₁) where
    abbrev kind : Arrival
    kind = coming_of g.expected (get_or stamps g.at 0)

    pub gathering_more : Gathering rs channels x at frames g₁ block₁
    gathering_more =
        subst (λ (h : Gathered). Gathering rs channels x at frames h block₁) (sym t.taken)
        (subst (λ (b : List Float). Gathering rs channels x at frames (gathered_by kind g (get_or stamps g.at 0)) b)
        (sym t.filled) (taken_on g block p going t.below t.stamp kind refl))

    pub gathering_less : left_of rs channels frames g₁ < left_of rs channels frames g
    gathering_less = subst (λ (h : Gathered). left_of rs channels frames h < left_of rs channels frames g)
        (sym t.taken) (less_on g block p going t.below t.stamp kind refl)

  pub gathering_all : {g : Gathered} {block : List Float} → Gathering rs channels x at frames g block
      → is_gathering_on g frames ≡ false → Gathers rs channels x at frames g block
  gathering_all {g} {block} p off = record {
    stamps = stamps_of (fed p.gone);
    as_many = length-map (fed p.gone) (λ (r : Recorded (List Float)). r.stamp)
        ∙ sym (length-map (fed p.gone) (λ (r : Recorded (List Float)). r.frame)) ∙ ap length p.put
        ∙ length_tab 0 g.count (frame_at block 64 channels);
    split = p.split
        ∙ ap (λ (es : List (Event (List Float))). es
        ++ (restarting g.restart ++ events_from rs channels g.expected g.at))
        (sym (feeds_fed p.gone p.whole) ∙ ap (feeds (stamps_of (fed p.gone))) p.put);
    few = p.few;
    on = p.on;
    within = p.within;
    goes = goes_off_is g frames off;
  }
