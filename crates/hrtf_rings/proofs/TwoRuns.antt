-- What the loop over a straight run keeps, and that two runs, one after the other, are the ring from its newest signal
-- back round to the oldest. Assumes nothing.
use Rattle.std.specs.Prelude.{◌≡◌, ◌+◌, ◌-◌, ◌≤◌, ◌<◌}
use Rattle.lists.specs.Prelude.{refl, sym, ap, ◌∙◌, List, reverse, ℕ, min, arith, length, get_or, take, drop}
use Rattle.lists.specs.Prelude.{length-reverse, length-drop, take_all, length-take-le, Float, nan, binary64, add, mul}
use Rattle.formats.specs.Floats.{zero_float}
use Rattle.lists.proofs.Lists.{get_d_reverse, take_min, drop_min}
use Rattle.lists.proofs.LoopOverTable.{LoopOverTable, loop-none, loop-more}
use Rattle.planes.specs.Sums.{total, dot}
use Rattle.planes.proofs.Sums.{product_at, dot_on, dot_joined}
use Rattle.hrtf_rings.specs.Unrolled.{unrolled}

-- ---- a run: its cells from the last back to the first times the taps in order, added to a first sum; `sum` is what
-- the
-- first k products have come to

pub record Running (cells taps : List Float) (first : Float) (count : ℕ) (sum : Float) (k : ℕ) : Type 0 where
  pub ends : count ≡ min (length cells) (length taps)
  pub summed : LoopOverTable (λ i. total) (product_at (reverse cells) taps) count first sum k

module _ {cells taps : List Float} {first : Float} {count : ℕ} where
  pub running_none : count ≡ min (length cells) (length taps) → Running cells taps first count first 0
  running_none e = record { ends = e; summed = loop-none (λ i. total) (product_at (reverse cells) taps) count first }

  pub running_more : {sum : Float} {k : ℕ} {x y : Float} → Running cells taps first count sum k → k < count
      → x ≡ get_or cells (length cells - 1 - k) nan → y ≡ get_or taps k nan
      → Running cells taps first count (add binary64 sum (mul binary64 x y)) (k + 1)
  running_more {sum} {k} r h ex ey =
      record {
        ends = r.ends;
        summed =
            loop-more (λ i. total) (product_at (reverse cells) taps) count first (λ i. add binary64) (λ i s a l. refl)
            sum k _ _
            r.summed h (cc (ex ∙ sym (get_d_reverse cells k nan (omega (arith, r.ends))), ey)) refl;
      }

  pub running_all : {sum : Float} {k : ℕ} → Running cells taps first count sum k → count ≤ k
      → sum ≡ dot first (reverse cells) taps
  running_all {sum} {k} r h =
      dot_on first (reverse cells) taps count sum k r.summed h
      (r.ends ∙ ap (λ (n : ℕ). min n (length taps)) (sym (length-reverse cells)))

-- ---- two runs

-- all that comes after a place, as a part up to the end
to_the_end : (n : ℕ) (xs : List Float) → take (length xs - n) (drop n xs) ≡ drop n xs
to_the_end n xs = take_all (length xs - n) (drop n xs) (omega (arith, length-drop n xs))

-- from the cell before p back to the start, then from the end back to p; the second sum goes on from the first
pub two_runs : (p : ℕ) (ring taps : List Float) (split used : ℕ) {first sum : Float}
    → split ≡ min p (length ring) → used ≡ min split (length taps)
    → first ≡ dot zero_float (reverse (take split ring)) (take used taps)
    → sum ≡ dot first (reverse (take (length ring - split) (drop split ring)))
    (take (length taps - used) (drop used taps))
    → sum ≡ dot zero_float (unrolled p ring) taps
two_runs p ring taps split used es eu ef e =
    e
    ∙ cc (
      ef,
      to_the_end split ring,
      to_the_end used taps,
      take_min taps split used eu,
      drop_min taps split used eu,
      long,
    )
    ∙ sym (dot_joined zero_float (reverse (take split ring)) (reverse (drop split ring)) taps)
    ∙ cc (take_min ring p split es, drop_min ring p split es)
  where
    long : split ≡ length (reverse (take split ring))
    long = sym (length-reverse (take split ring) ∙ length-take-le split ring (omega arith))
