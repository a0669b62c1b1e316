-- A frame put sample by sample, and judged by the way, and frames put one after another: those that are left, put where
-- they belong, give the planes that are promised. Assumes nothing.
use Rattle.std.specs.Prelude.{◌+◌, ◌-◌, ◌≤◌, ◌<◌, ◌≡◌, ◌||◌}
use Rattle.lists.specs.Prelude.{ℕ, arith, refl, sym, ap, ◌∙◌, Bool, false, not, or-false, or_assoc, List, length, Float}
use lib.Ieee.Scale.{finite}
use Rattle.checks.specs.Finite.{has_nonfinite}
use Rattle.lists.specs.Tables.{tab}
use Rattle.lists.proofs.Tables.{length_tab, tab_all, tab_cut}
use Rattle.lists.proofs.LoopOverTable.{left_more, left_none, LoopOverTable, loop-none, loop-more, loop-all, loop-kept}
use Rattle.planes.specs.Planes.{with_sample, with_frame_from, with_frame, FramePut, with_frames}
use Rattle.planes.proofs.Planes.{length_with_frame, length_with_frames, with_frames_append}

-- ---- samples of the function f are put as one frame, those before plane p so far

-- samples put from plane p on
abbrev samples : ℕ → ℕ → ℕ → List Float → List Float → List Float
samples stride frame p out xs = with_frame_from p out stride frame xs

pub record Sampling (out₀ : List Float) (stride frame planes : ℕ) (f : ℕ → Float) (out : List Float)
    (p : ℕ) : Type 0 where
  pub laid : LoopOverTable (samples stride frame) f planes out₀ out p
  pub long : length out ≡ length out₀

module _ (out₀ : List Float) (stride frame planes : ℕ) (f : ℕ → Float) where
  sampled : (out : List Float) (p : ℕ) → LoopOverTable (samples stride frame) f planes out₀ out p
      → Sampling out₀ stride frame planes f out p
  sampled out p g = record {
    laid = g;
    long = loop-kept (samples stride frame) f planes out₀ length length
        (λ k ys xs. length_with_frame k ys stride frame xs) out p g;
  }

  pub sampling_none : Sampling out₀ stride frame planes f out₀ 0
  sampling_none = sampled out₀ 0 (loop-none (samples stride frame) f planes out₀)

  module _ (out : List Float) (p : ℕ) (s : Sampling out₀ stride frame planes f out p) where
    pub sampling_more : (x : Float) (out₁ : List Float) → p < planes → x ≡ f p → out₁ ≡ with_sample out stride p frame x
        → Sampling out₀ stride frame planes f out₁ (p + 1)
    sampling_more x out₁ h ex eo =
        sampled out₁ (p + 1) (loop-more (samples stride frame) f planes out₀ (λ k ys y. with_sample ys stride k frame y)
        (λ k ys y rest. refl) out p x out₁ s.laid h ex eo)

    pub sampling_all : planes ≤ p → out ≡ with_frame out₀ stride frame (tab 0 planes f)
    sampling_all = loop-all (samples stride frame) f planes out₀ out p s.laid

-- ---- the same, with whether one of those put so far is NaN or infinite

abbrev judged : ℕ → Bool → List Float → Bool
judged p bad xs = bad || has_nonfinite xs

-- y is the sample x, widened, b whether it was found finite, and t what the test of it said
pub judged_by : (bad bad₁ : Bool) (x y : Float) (b : Bool) → y ≡ x → b ≡ finite y → (t : Bool) → not b ≡ t
    → bad₁ ≡ (bad || t) → bad₁ ≡ (bad || not (finite x))
judged_by bad bad₁ x y b ey eb t et e =
    e ∙ ap (λ (w : Bool). bad || w) (sym et ∙ ap not eb ∙ ap (λ (v : Float). not (finite v)) ey)

pub record Judging (out₀ : List Float) (stride frame planes : ℕ) (f : ℕ → Float) (out : List Float) (bad : Bool)
    (p : ℕ) : Type 0 where
  pub puts : Sampling out₀ stride frame planes f out p
  pub finds : LoopOverTable judged f planes false bad p

module _ (out₀ : List Float) (stride frame planes : ℕ) (f : ℕ → Float) where
  pub judging_none : Judging out₀ stride frame planes f out₀ false 0
  judging_none = record { puts = sampling_none out₀ stride frame planes f; finds = loop-none judged f planes false }

  module _ (out : List Float) (bad : Bool) (p : ℕ) (s : Judging out₀ stride frame planes f out bad p) where
    pub judging_more : (x : Float) (out₁ : List Float) (bad₁ : Bool) → p < planes → x ≡ f p
        → out₁ ≡ with_sample out stride p frame x → bad₁ ≡ (bad || not (finite x))
        → Judging out₀ stride frame planes f out₁ bad₁ (p + 1)
    judging_more x out₁ bad₁ h ex eo eb =
        record {
          puts = sampling_more out₀ stride frame planes f out p s.puts x out₁ h ex eo;
          finds = loop-more judged f planes false (λ k b y. b || not (finite y))
              (λ k b y l. sym (or_assoc b (not (finite y)) (has_nonfinite l))) bad p x bad₁ s.finds h ex eb;
        }

    pub judging_all : planes ≤ p → FramePut out₀ stride frame (tab 0 planes f) out bad
    judging_all h = record {
      put = sampling_all out₀ stride frame planes f out p s.puts h;
      damage = sym (or-false bad) ∙ loop-all judged f planes false bad p s.finds h;
    }

-- ---- frames of the function f are put, those from `from` to before n so far, of those to before `to`

-- frames put from n on
abbrev following : ℕ → ℕ → List Float → List (List Float) → List Float
following stride n out fs = with_frames out stride n fs

pub record Parting (out₀ : List Float) (stride from to : ℕ) (f : ℕ → List Float) (out : List Float)
    (n : ℕ) : Type 0 where
  pub left : with_frames out stride n (tab n (to - n) f) ≡ with_frames out₀ stride from (tab from (to - from) f)
  pub long : length out ≡ length out₀

module _ (out₀ : List Float) (stride from to : ℕ) (f : ℕ → List Float) where
  abbrev whole : List Float
  whole = with_frames out₀ stride from (tab from (to - from) f)

  pub parting_none : Parting out₀ stride from to f out₀ from
  parting_none = record { left = refl; long = refl }

  module _ (out : List Float) (n : ℕ) (p : Parting out₀ stride from to f out n) where
    pub parting_more : (out₁ : List Float) → n < to → out₁ ≡ with_frame out stride n (f n)
        → Parting out₀ stride from to f out₁ (n + 1)
    parting_more out₁ h e =
        record {
          left = left_more (following stride) f to whole (λ k ys y. with_frame ys stride k y) (λ k ys y rest. refl) out
              n
              (f n) out₁ p.left h refl e;
          long = ap length e ∙ length_with_frame 0 out stride n (f n) ∙ p.long;
        }

    -- a part of them at once, those to before m
    pub parting_part : (m : ℕ) (out₁ : List Float) → n ≤ m → m ≤ to → out₁ ≡ with_frames out stride n (tab n (m - n) f)
        → Parting out₀ stride from to f out₁ m
    parting_part m out₁ a b e =
        record {
          left =
              ap (λ (o : List Float). with_frames o stride m (tab m (to - m) f)) e
              ∙ ap (λ (k : ℕ). with_frames (with_frames out stride n (tab n (m - n) f)) stride k (tab m (to - m) f))
              (sym end)
              ∙ sym (with_frames_append out stride n (tab n (m - n) f) (tab m (to - m) f))
              ∙ ap (with_frames out stride n) (sym (tab_cut n m to f a b))
              ∙ p.left;
          long = ap length e ∙ length_with_frames out stride n (tab n (m - n) f) ∙ p.long;
        }
      where
        end : n + length (tab n (m - n) f) ≡ m
        end = ap (λ (k : ℕ). n + k) (length_tab n (m - n) f) ∙ (omega arith)

    pub parting_all : to ≤ n → out ≡ whole
    parting_all = left_none (following stride) f to whole out n p.left

-- ---- the same from 0 on
abbrev pub Framing : List Float → ℕ → ℕ → (ℕ → List Float) → List Float → ℕ → Type 0
Framing out₀ stride frames f = Parting out₀ stride 0 frames f

module _ (out₀ : List Float) (stride frames : ℕ) (f : ℕ → List Float) where
  pub framing_none : Framing out₀ stride frames f out₀ 0
  framing_none = parting_none out₀ stride 0 frames f

  module _ (out : List Float) (n : ℕ) (p : Framing out₀ stride frames f out n) where
    pub framing_more : (out₁ : List Float) → n < frames → out₁ ≡ with_frame out stride n (f n)
        → Framing out₀ stride frames f out₁ (n + 1)
    framing_more = parting_more out₀ stride 0 frames f out n p

    pub framing_all : frames ≤ n → out ≡ with_frames out₀ stride 0 (tab 0 frames f)
    framing_all h = parting_all out₀ stride 0 frames f out n p h ∙ ap (with_frames out₀ stride 0) (tab_all frames f)
