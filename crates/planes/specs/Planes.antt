-- Document 01, 'What must change shape': "`&[&[S]]` becomes planes with a stride in one slice".
-- Frame n of plane p stands at p x stride + n. Definitions only. A place outside the list reads as NaN, and writing
-- there changes nothing.
use Rattle.std.specs.Prelude.{◌+◌, ◌*◌, ◌≡◌, ◌∷◌}
use Rattle.lists.specs.Prelude.{ℕ, suc, Bool, List, [], get_or, set, Float, nan}
use Rattle.lists.specs.Tables.{tab}
use Rattle.checks.specs.Finite.{has_nonfinite}

-- ---- reading

abbrev pub sample_at : List Float → ℕ → ℕ → ℕ → Float
sample_at xs stride plane n = get_or xs (plane * stride + n) nan

-- frame n: one sample of each plane
abbrev pub frame_at : List Float → ℕ → ℕ → ℕ → List Float
frame_at xs stride planes n = tab 0 planes (λ p. sample_at xs stride p n)

-- the first frames, in the order of time
abbrev pub frames_of : List Float → ℕ → ℕ → ℕ → List (List Float)
frames_of xs stride planes frames = tab 0 frames (frame_at xs stride planes)

-- ---- writing

abbrev pub with_sample : List Float → ℕ → ℕ → ℕ → Float → List Float
with_sample xs stride plane n x = set xs (plane * stride + n) x

-- the samples of frame n, put in planes p, p + 1, ..
abbrev pub with_frame_from : ℕ → List Float → ℕ → ℕ → List Float → List Float
with_frame_from p xs stride n [] = xs
with_frame_from p xs stride n (x ∷ f) = with_frame_from (suc p) (with_sample xs stride p n x) stride n f

abbrev pub with_frame : List Float → ℕ → ℕ → List Float → List Float
with_frame xs stride n f = with_frame_from 0 xs stride n f

-- the samples f are put as frame n, and the answer is whether one of them is NaN or infinite
pub record FramePut (xs : List Float) (stride n : ℕ) (f ys : List Float) (bad : Bool) : Type 0 where
  pub put : ys ≡ with_frame xs stride n f
  pub damage : bad ≡ has_nonfinite f

-- frames n, n + 1, ..
abbrev pub with_frames : List Float → ℕ → ℕ → List (List Float) → List Float
with_frames xs stride n [] = xs
with_frames xs stride n (f ∷ fs) = with_frames (with_frame xs stride n f) stride (suc n) fs
