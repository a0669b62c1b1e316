-- What one frame makes of rings, ears and desk, and what the loop of `block` keeps: the frames that are left, played
-- from here, give what the block promises. Assumes nothing.
use Rattle.std.specs.Prelude.{◌≡◌, ◌||◌, ◌∷◌, ◌+◌, ◌≤◌, ◌<◌}
use Rattle.lists.specs.Prelude.{refl, sym, ap, ◌∙◌, subst, Bool, cond, List, [], ℕ, suc, zero-le, zero-add, add-zero}
use Rattle.lists.specs.Prelude.{add_assoc, arith, ltb, length, Float}
use Rattle.planes.specs.Planes.{frame_at, with_sample, with_frame, FramePut, with_frames}
use Rattle.lists.proofs.LoopOverTable.{LoopOverTable, loop-none, loop-more, loop-all}
use Rattle.lists.proofs.Lists.{one_at_most}
use Rattle.planes.proofs.Planes.{length_with_frame}
use Rattle.hrtf_desk.specs.declared.Desk.{Desk}
use Rattle.hrtf_desk.specs.Numbers.{stepped_of}
use Rattle.hrtf_desk.proofs.DeskInRange.{position_below}
use Rattle.hrtf_history.specs.Setup.{Setup}
use Rattle.hrtf_history.specs.Signals.{signals}
use Rattle.hrtf_rings.specs.State.{State}
use Rattle.hrtf_rings.specs.Computed.{stored, ears_by_rings, is_unsettled_by_desk, stepped, state_left, played_by_rings}
use Rattle.hrtf_rings.specs.Computed.{unsettled_count_by_desk}
use Rattle.hrtf_rings.proofs.RingsHoldHistory.{length_stored}
use Rattle.hrtf_checks.specs.declared.ConvolverShape.{ConvolverShape}
use Rattle.hrtf_checks.specs.Call.{BlockCall, setup_of, setup, frames_in}
use Rattle.hrtf_checks.specs.Computed.{Ready}
use Rattle.hrtf.specs.Promise.{BlockOutcome}
use Rattle.hrtf.specs.declared.frames.EarSamples.{EarSamples}
use Rattle.hrtf.specs.Computed.{ears_by, FramePlayed, BlockPlayed}

-- ---- one frame

module _ (h : ConvolverShape) (weights : List Float) (rows : List ℕ) (taps : List Float) (t : State)
    (f : List Float) where
  abbrev u : Setup
  u = setup_of h weights rows taps

  -- a frame leaves the rings as long as they were, so that the ears may be read
  pub ready_stored : (rings₁ : List Float) → Ready h t.desk.position rows taps t.rings → rings₁ ≡ stored u t f
      → Ready h t.desk.position rows taps rings₁
  ready_stored rings₁ r e =
      record {
        few = r.few;
        chosen = r.chosen;
        tapped = r.tapped;
        ringed = ap length e ∙ length_stored u t f
            ∙ r.ringed;
        within = r.within;
      }

  pub turned : (stride n : ℕ) (ears₀ rings₁ : List Float) (bad : Bool) (both : EarSamples) (ears₁ ears₂ : List Float)
      (late : Bool)
      → FramePut t.rings h.length t.desk.position (signals u f) rings₁ bad
      → both ≡ ears_by h rows taps (suc t.desk.position) rings₁
      → ears₁ ≡ with_sample ears₀ stride 0 n both.left
      → ears₂ ≡ with_sample ears₁ stride 1 n both.right
      → late ≡ (bad || ltb 0 t.desk.to_go)
      → FramePlayed h weights rows taps t f stride n ears₀ rings₁ ears₂ late bad
  turned stride n ears₀ rings₁ bad both ears₁ ears₂ late put eb e₁ e₂ el =
      record {
        ringed = put.put;
        eared =
            e₂
            ∙ ap (λ (ys : List Float). with_sample ys stride 1 n both.right) e₁
            ∙ ap (λ (b : EarSamples). with_sample (with_sample ears₀ stride 0 n b.left) stride 1 n b.right)
            (eb ∙ ap (ears_by h rows taps (suc t.desk.position)) put.put);
        unsettled = el ∙ ap (λ (b : Bool). b || ltb 0 t.desk.to_go) put.damage;
        damage = put.damage;
      }

-- ---- the loop of `block`

-- what stands before a frame: rings and desk, the ear planes, and how many frames were unsettled
record Stage : Type 0 where
  pub state : State
  pub ears : List Float
  pub count : ℕ

module _ (c : BlockCall) where
  -- what comes out where frames n, n + 1, .. are played from there
  abbrev sounded : ℕ → Stage → ℕ → List (List Float) → BlockOutcome
  sounded n s more fs =
      record {
        answer = record {
          refusal = 0;
          samples = c.frames;
          unsettled = more;
          desk = (state_left (setup c) s.state fs).desk;
        };
        rings = (state_left (setup c) s.state fs).rings;
        ears = with_frames s.ears c.stride n (played_by_rings (setup c) s.state fs);
      }

  abbrev onward : ℕ → Stage → List (List Float) → BlockOutcome
  onward n s fs = sounded n s (s.count + unsettled_count_by_desk (setup c) s.state fs) fs

  abbrev one_late : Stage → List Float → ℕ
  one_late s f = cond (is_unsettled_by_desk (setup c) s.state f) 1 0

  abbrev staged : ℕ → Stage → List Float → Stage
  staged n s f =
      record {
        state = stepped (setup c) s.state f;
        ears = with_frame s.ears c.stride n
            (ears_by_rings (setup c) s.state f);
        count = s.count + one_late s f;
      }

  takes : (n : ℕ) (s : Stage) (f : List Float) (fs : List (List Float))
      → onward n s (f ∷ fs) ≡ onward (suc n) (staged n s f) fs
  takes n s f fs =
      ap (λ (k : ℕ). sounded n s k (f ∷ fs))
      (sym (add_assoc s.count (one_late s f) (unsettled_count_by_desk (setup c) (stepped (setup c) s.state f) fs)))

pub record Playing (c : BlockCall) (t : State) (rings ears₁ : List Float) (d : Desk) (count n : ℕ) : Type 0 where
  pub few : count ≤ n
  pub ready : Ready c.shape d.position c.rows c.taps rings
  pub room : length ears₁ ≡ length c.ears
  pub same : length rings ≡ length t.rings
  pub goes :
      LoopOverTable (onward c) (frame_at c.inputs c.stride c.shape.channels) c.frames
      (record { state = t; ears = c.ears; count = 0 })
      (record { state = record { rings = rings; desk = d }; ears = ears₁; count = count }) n

module _ (c : BlockCall) (t : State) where
  abbrev frame : ℕ → List Float
  frame = frame_at c.inputs c.stride c.shape.channels

  abbrev first : Stage
  first = record { state = t; ears = c.ears; count = 0 }

  pub playing_none : Ready c.shape t.desk.position c.rows c.taps t.rings
      → Playing c t t.rings c.ears t.desk 0 0
  playing_none r =
      record { few = zero-le; ready = r; room = refl; same = refl; goes = loop-none (onward c) frame c.frames first }

  module _ (rings ears₁ : List Float) (d : Desk) (count n : ℕ) (p : Playing c t rings ears₁ d count n) where
    abbrev st : State
    st = record { rings = rings; desk = d }

    abbrev now_stands : Stage
    now_stands = record { state = st; ears = ears₁; count = count }

    -- a frame further, the record changed after it
    pub playing_more : (rings₂ ears₂ : List Float) (d₂ : Desk) (one : ℕ) (late bad : Bool) → n < c.frames
        → FramePlayed c.shape c.weights c.rows c.taps st (frame n) c.stride n ears₁ rings₂ ears₂ late bad
        → one ≡ cond late 1 0
        → d₂ ≡ stepped_of c.shape.length bad d
        → Playing c t rings₂ ears₂ d₂ (count + one) (n + 1)
    playing_more rings₂ ears₂ d₂ one late bad h e eo ed =
        record {
          few = omega (arith, p.few, counts, one_at_most (is_unsettled_by_desk (setup c) st (frame n)));
          ready =
              record {
                few = p.ready.few;
                chosen = p.ready.chosen;
                tapped = p.ready.tapped;
                ringed = long ∙ p.ready.ringed;
                within = subst (λ (b : Desk). b.position < c.shape.length) (sym ed)
                    (position_below c.shape.length bad d p.ready.within);
              };
          room = ap length e.eared ∙ length_with_frame 0 ears₁ c.stride n (ears_by_rings (setup c) st (frame n))
              ∙ p.room;
          same = long ∙ p.same;
          goes = loop-more (onward c) frame c.frames first (staged c) (takes c) now_stands n (frame n) _
              p.goes h refl stands;
        }
      where
        counts : one ≡ one_late c now_stands (frame n)
        counts = eo ∙ ap (λ (b : Bool). cond b 1 0) e.unsettled

        desked : d₂ ≡ (stepped (setup c) st (frame n)).desk
        desked = ed ∙ ap (λ (b : Bool). stepped_of c.shape.length b d) e.damage

        stands : ◌≡◌ {A = Stage}
            (record { state = record { rings = rings₂; desk = d₂ }; ears = ears₂; count = count + one })
            (staged c n now_stands (frame n))
        stands = cc (e.ringed, desked, e.eared, counts)

        long : length rings₂ ≡ length rings
        long = ap length e.ringed ∙ length_stored (setup c) st (frame n)

    pub playing_all : c.frames ≤ n → BlockPlayed c t rings ears₁ d count
    playing_all h =
        ap (λ (k : ℕ). sounded c n now_stands k []) (sym (add-zero count))
        ∙ loop-all (onward c) frame c.frames first now_stands n p.goes h
        ∙ ap (λ (k : ℕ). sounded c 0 first k (frames_in c))
        (zero-add (unsettled_count_by_desk (setup c) t (frames_in c)))
