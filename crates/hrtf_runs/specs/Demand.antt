-- Demand 3, in the order of its words; it is shown in proofs/Demand.antt. Definitions only.
use Rattle.std.specs.Prelude.{◌+◌, ◌<◌, ◌≡◌, ◌∷◌}
use Rattle.lists.specs.Prelude.{ℕ, suc, Bool, false, List, [], reverse, length, get_or, take, Float}
use Rattle.lists.specs.Tables.{tab, any, count}
use Rattle.checks.specs.Finite.{has_nonfinite}
use Rattle.hrtf_desk.specs.declared.Desk.{Desk}
use Rattle.hrtf_history.specs.Setup.{Setup}
use Rattle.hrtf_history.specs.Signals.{damaged, silent_frame}
use Rattle.hrtf_history.specs.History.{ear_samples, upto}
use Rattle.hrtf_rings.specs.State.{State}
use Rattle.hrtf_checks.specs.Call.{BlockCall}
use Rattle.hrtf.specs.Reset.{ResetPromise}
use Rattle.hrtf_runs.specs.Runs.{next, fed, CallsAlike, fed_all, sounded_all, end, unsettled_counts, sum_of_counts}

-- "from reset with the same filters, finite weights, speaker count and filter length L throughout, .. refused calls
-- between them, state and rings passed on untouched from call to call": t is what `hrtf::reset` promises to leave of a
-- desk and rings that it accepts
pub record Run (u : Setup) (t : State) (cs : List BlockCall) : Type 0 where
  pub desk : Desk
  pub rings : List Float
  pub reset : ResetPromise desk u.speakers u.L rings
      (record { answer = record { refusal = 0; desk = t.desk }; rings = t.rings })
  pub finite : has_nonfinite u.weights ≡ false
  pub alike : CallsAlike u t cs

-- the frame k frames before frame n: "silence before the first"
abbrev pub frame_ago : Setup → List (List Float) → ℕ → ℕ → List Float
frame_ago u fs n k = get_or (reverse (take (suc n) fs)) k (silent_frame u)

-- frame n of one run and frame m of another, and the L-1 frames before each, agree
abbrev pub FramesAgree : Setup → State → List BlockCall → ℕ → State → List BlockCall → ℕ → Type 0
FramesAgree u t cs n s ds m = (k : ℕ) → k < u.L → frame_ago u (fed_all t cs) n k ≡ frame_ago u (fed_all s ds) m k

-- "a damaged frame among those L", frame n and the L-1 frames before it
abbrev pub damaged_among : Setup → List (List Float) → ℕ → Bool
damaged_among u fs n = any (tab 0 u.L (λ k. damaged u (frame_ago u fs n k)))

-- of each call the number of its frames that have one: fs are the frames of the whole run, n of which were fed before
-- the call
abbrev pub damaged_counts : Setup → List (List Float) → ℕ → State → List BlockCall → List ℕ
damaged_counts u fs n t [] = []
damaged_counts u fs n t (c ∷ cs) =
    count (tab n (length (fed c t)) (damaged_among u fs)) ∷ damaged_counts u fs (n + length (fed c t)) (next c t) cs

-- two runs from the same rings and desk sound the same, count the same in all, and leave the same
pub record SameRun (t : State) (cs ds : List BlockCall) : Type 0 where
  pub sounds : sounded_all t cs ≡ sounded_all t ds
  pub counts : sum_of_counts (unsettled_counts t cs) ≡ sum_of_counts (unsettled_counts t ds)
  pub leaves : end t cs ≡ end t ds

pub record Demand3 : Type 0 where
  -- every frame that is fed is played
  pub all : (u : Setup) (t : State) (cs : List BlockCall) → Run u t cs → length (sounded_all t cs)
      ≡ length (fed_all t cs)
  -- (a) "both ear samples at n are document 01's sums"
  pub sums : (u : Setup) (t : State) (cs : List BlockCall) → Run u t cs → (n : ℕ) → n < length (fed_all t cs)
      → get_or (sounded_all t cs) n [] ≡ ear_samples u (upto u (fed_all t cs) n)
  -- (b) "If they agree on frame n and the L-1 frames before it", they are "equal in both runs, whatever NaN or noise
  -- came earlier"
  pub equal : (u : Setup) (t s : State) (cs ds : List BlockCall) → Run u t cs → Run u s ds → (n m : ℕ)
      → n < length (fed_all t cs) → m < length (fed_all s ds) → FramesAgree u t cs n s ds m
      → get_or (sounded_all t cs) n [] ≡ get_or (sounded_all s ds) m []
  -- and they are both unsettled there, or both settled
  pub settled : (u : Setup) (t s : State) (cs ds : List BlockCall) (n m : ℕ) → FramesAgree u t cs n s ds m
      → damaged_among u (fed_all t cs) n ≡ damaged_among u (fed_all s ds) m
  -- (c) "Each call's unsettled count is exactly the number of its frames with a damaged frame among those L"
  pub counts : (u : Setup) (t : State) (cs : List BlockCall) → Run u t cs
      → unsettled_counts t cs ≡ damaged_counts u (fed_all t cs) 0 t cs
  -- (d) "each cut into blocks anywhere": the same frames, cut as they may be, and refused calls where they may be; from
  -- any rings and desk
  pub cut : (u : Setup) (t : State) (cs ds : List BlockCall) → CallsAlike u t cs → CallsAlike u t ds
      → fed_all t cs ≡ fed_all t ds
      → SameRun t cs ds
