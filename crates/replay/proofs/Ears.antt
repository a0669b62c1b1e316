-- The block's ears are put behind those that stand in the ear planes. Assumes nothing.
use Rattle.std.specs.Prelude.{◌≡◌, ◌+◌, ◌≤◌, ◌<◌}
use Rattle.lists.specs.Prelude.{refl, sym, ap, ◌∙◌, List, ℕ, add-zero, add-suc, length, Float}
use Rattle.lists.specs.Tables.{tab}
use Rattle.lists.proofs.LoopOverTable.{LoopOverTable, loop-none, loop-more, loop-all, loop-kept}
use Rattle.planes.specs.Planes.{sample_at, frame_at, with_sample, with_frame, with_frames}
use Rattle.planes.proofs.Planes.{length_with_frames}

-- one frame
pub pair_put : (ears mid out own : List Float) (stride place frame : ℕ) (l r : Float) → l ≡ sample_at own 64 0 frame
    → r ≡ sample_at own 64 1 frame
    → mid ≡ with_sample ears stride 0 place l → out ≡ with_sample mid stride 1 place r
    → out ≡ with_frame ears stride place (frame_at own 64 2 frame)
pair_put ears mid out own stride place frame l r el er em eo =
    eo
    ∙ ap (λ (xs : List Float). with_sample xs stride 1 place r) em
    ∙ ap (λ (x : Float). with_sample (with_sample ears stride 0 place l) stride 1 place x) er
    ∙ ap (λ (x : Float). with_sample (with_sample ears stride 0 place x) stride 1 place (sample_at own 64 1 frame)) el

-- ---- frames of the function f are put from `done` on, those before n so far

abbrev behind : ℕ → ℕ → ℕ → List Float → List (List Float) → List Float
behind stride done n out fs = with_frames out stride (done + n) fs

pub record Earing (out₀ : List Float) (stride done count : ℕ) (f : ℕ → List Float) (out : List Float)
    (n : ℕ) : Type 0 where
  pub laid : LoopOverTable (behind stride done) f count out₀ out n
  pub long : length out ≡ length out₀

module _ (out₀ : List Float) (stride done count : ℕ) (f : ℕ → List Float) where
  eared : (out : List Float) (n : ℕ) → LoopOverTable (behind stride done) f count out₀ out n
      → Earing out₀ stride done count f out n
  eared out n g = record {
    laid = g;
    long = loop-kept (behind stride done) f count out₀ length length
        (λ k ys fs. length_with_frames ys stride (done + k) fs) out n g;
  }

  pub earing_none : Earing out₀ stride done count f out₀ 0
  earing_none = eared out₀ 0 (loop-none (behind stride done) f count out₀)

  module _ (out : List Float) (n : ℕ) (g : Earing out₀ stride done count f out n) where
    pub earing_more : (out₁ : List Float) → n < count → out₁ ≡ with_frame out stride (done + n) (f n)
        → Earing out₀ stride done count f out₁ (n + 1)
    earing_more out₁ h e =
        eared out₁ (n + 1)
        (loop-more (behind stride done) f count out₀ (λ k ys y. with_frame ys stride (done + k) y)
        (λ k ys y rest. ap (λ (m : ℕ). with_frames (with_frame ys stride (done + k) y) stride m rest)
        (sym (add-suc done k))) out n (f n) out₁ g.laid h refl e)

    pub earing_all : count ≤ n → out ≡ with_frames out₀ stride done (tab 0 count f)
    earing_all h =
        loop-all (behind stride done) f count out₀ out n g.laid h
        ∙ ap (λ (m : ℕ). with_frames out₀ stride m (tab 0 count f)) (add-zero done)
