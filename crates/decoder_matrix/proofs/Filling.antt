-- Rows put speaker by speaker: those that are left, put where they belong, give the list that is promised. Assumes
-- nothing.
use Rattle.std.specs.Prelude.{◌+◌, ◌-◌, ◌*◌, ◌≤◌, ◌<◌, ◌≡◌}
use Rattle.lists.specs.Prelude.{ℕ, zero-le, sub-zero, arith, refl, ap, ◌∙◌, List, length, take, drop, sets, length-sets}
use Rattle.lists.specs.Prelude.{Float}
use Rattle.rows.specs.Rows.{scaled}
use Rattle.rows.specs.Computed.{put_rows}
use Rattle.lists.specs.Tables.{tab}
use Rattle.lists.proofs.LoopOverTable.{LoopOverTable, loop-none, loop-more, loop-all}

-- rows put behind one another, in a list and from a place in it
abbrev following : ℕ → ℕ → List Float × ℕ → List (List Float) → List Float
following channels i w rows = put_rows channels w.0 w.1 rows

-- rows 0 to i of the function f are put, and `at` is where the next goes
pub record Filling (w₀ : List Float) (channels n : ℕ) (f : ℕ → List Float) (w : List Float) (at i : ℕ) : Type 0 where
  pub far : at ≤ 16 * i
  pub long : length w ≡ length w₀
  pub laid : LoopOverTable (following channels) f n (w₀, 0) (w, at) i

module _ (w₀ : List Float) (channels n : ℕ) (f : ℕ → List Float) where
  pub filling_none : Filling w₀ channels n f w₀ 0 0
  filling_none = record { far = zero-le; long = refl; laid = loop-none (following channels) f n (w₀, 0) }

  module _ (w : List Float) (at i : ℕ) (p : Filling w₀ channels n f w at i) where
    pub filling_more : (w₁ : List Float) → channels ≤ 16 → i < n → w₁ ≡ sets w at (f i)
        → Filling w₀ channels n f w₁ (at + channels) (i + 1)
    filling_more w₁ c h e =
        record {
          far = omega (arith, p.far);
          long = ap length e ∙ length-sets w at (f i) ∙ p.long;
          laid =
              loop-more (following channels) f n (w₀, 0) (λ k v row. (sets v.0 v.1 row, v.1 + channels))
              (λ k v row rest. refl) (w, at) i (f i) (w₁, at + channels) p.laid h refl
              (ap (λ (v : List Float). (v, at + channels)) e);
        }

    pub filling_all : n ≤ i → w ≡ put_rows channels w₀ 0 (tab 0 n f)
    filling_all = loop-all (following channels) f n (w₀, 0) (w, at) i p.laid

-- the first numbers of a row, as a part that starts at its head
pub first_put : (w v : List Float) (at channels : ℕ) (scale : Float) (xs ys : List Float) → xs ≡ ys
    → v ≡ sets w at (scaled scale (take (channels - 0) (drop 0 xs))) → v ≡ sets w at (scaled scale (take channels ys))
first_put w v at channels scale xs ys e h = h ∙ ap (λ (k : ℕ). sets w at (scaled scale (take k xs))) (sub-zero channels)
    ∙ ap (λ (zs : List Float). sets w at (scaled scale (take channels zs))) e
