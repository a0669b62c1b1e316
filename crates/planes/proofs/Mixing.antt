-- What the loop of `mix` keeps: the sum of sample times weight over the channels so far. And what `mix_frame` puts: the
-- sum over a row of the weights, which is handed on as a part. Assumes nothing.
use Rattle.std.specs.Prelude.{◌≡◌, ◌+◌, ◌-◌, ◌*◌, ◌≤◌, ◌<◌}
use Rattle.lists.specs.Prelude.{sym, ap, ◌∙◌, List, ℕ, min, zero-mul, suc-mul, add-one, arith, length, get_or, take}
use Rattle.lists.specs.Prelude.{drop, length-take, length-drop, Float, nan, binary64, add, mul}
use Rattle.formats.specs.Floats.{zero_float}
use Rattle.numbers.specs.Computed.{narrowed}
use Rattle.lists.specs.Tables.{chunk}
use Rattle.planes.specs.Planes.{sample_at, frame_at}
use Rattle.planes.specs.Sums.{total, dot, mixed}
use Rattle.lists.proofs.Lists.{get_or_min, drop_min, take_min}
use Rattle.lists.proofs.Tables.{length_tab, get_or_table, take_tab}
use Rattle.planes.proofs.Sums.{Summing, summing_none, summing_more, product_at, dot_all, products_take}

-- ---- the loop over channels

pub record Mixing (weights inputs : List Float) (stride frame : ℕ) (sum : Float) (at c : ℕ) : Type 0 where
  pub place : at ≡ min (c * stride + frame) (length inputs)
  pub summed : Summing (product_at (frame_at inputs stride (length weights) frame) weights) (length weights) sum c

module _ (weights inputs : List Float) (stride frame : ℕ) where
  -- the sample of channel c
  there : ℕ → Float
  there c = sample_at inputs stride c frame

  pub mixing_none : (at : ℕ) → at ≡ min (0 + frame) (length inputs) → Mixing weights inputs stride frame zero_float at 0
  mixing_none at e =
      record {
        place = e ∙ ap (λ (k : ℕ). min (k + frame) (length inputs)) (sym (zero-mul stride));
        summed = summing_none (product_at (frame_at inputs stride (length weights) frame) weights) (length weights);
      }

  pub mixing_more : (sum : Float) (at c : ℕ) (x : Float) (next : ℕ) → Mixing weights inputs stride frame sum at c
      → c < length weights → x ≡ get_or inputs at nan → next ≡ min (at + stride) (length inputs)
      → Mixing weights inputs stride frame (add binary64 sum (mul binary64 x (get_or weights c nan))) next (c + 1)
  unfolding there
  mixing_more sum at c x next m h ex en =
      record {
        place = omega (arith, m.place, en, ap (λ (k : ℕ). k * stride) (add-one c) ∙ suc-mul c stride);
        summed =
            summing_more (product_at (frame_at inputs stride (length weights) frame) weights) (length weights) sum c _
            m.summed h
            (ap (λ (z : Float). mul binary64 z (get_or weights c nan))
            (ex ∙ get_or_min inputs (c * stride + frame) at nan m.place
            ∙ sym (get_or_table (length weights) there c nan h)));
      }

  pub mixing_all : (sum : Float) (at c : ℕ) (r : Float) → Mixing weights inputs stride frame sum at c
      → length weights ≤ c → r ≡ narrowed sum
      → r ≡ mixed weights (frame_at inputs stride (length weights) frame)
  unfolding mixed there
  mixing_all sum at c r m h e =
      e
      ∙ ap narrowed (dot_all (frame_at inputs stride (length weights) frame) weights (length weights) sum c m.summed h
      (omega (arith, length_tab 0 (length weights) there)))

-- ---- a row of the weights, handed on as a part

row_part : (n i : ℕ) (xs : List Float) (from to : ℕ) → from ≡ min (i * n + 0) (length xs)
    → to ≡ min (from + n) (length xs) → take (to - from) (drop from xs) ≡ chunk n i xs
row_part n i xs from to ef et = take_min (drop from xs) n (to - from) (omega (arith, length-drop from xs))
    ∙ ap (take n) (drop_min xs (i * n) from (omega arith))

-- a row is no longer than n, so that it does not reach further channels
mixed_row : (n i : ℕ) (weights inputs : List Float) (stride frame : ℕ)
    → mixed (chunk n i weights) (frame_at inputs stride (length (chunk n i weights)) frame) ≡ mixed (chunk n i weights)
    (frame_at inputs stride n frame)
unfolding mixed
mixed_row n i weights inputs stride frame =
    ap narrowed
    (ap (λ (f : List Float). dot zero_float f (chunk n i weights))
    (sym (take_tab 0 (length (chunk n i weights)) n (λ p. sample_at inputs stride p frame)
    (omega (arith, length-take n (drop (i * n) weights)))))
    ∙ ap (total zero_float) (products_take (length (chunk n i weights)) (frame_at inputs stride n frame)
    (chunk n i weights) (omega arith)))

-- ---- the loop over outputs

-- output o of a frame
abbrev pub output : List Float → ℕ → List Float → ℕ → ℕ → ℕ → Float
output weights channels inputs stride frame o = mixed (chunk channels o weights) (frame_at inputs stride channels frame)

pub output_is : (weights : List Float) (channels : ℕ) (inputs : List Float) (stride frame o from to : ℕ) (x : Float)
    → from ≡ min (o * channels + 0) (length weights)
    → to ≡ min (from + channels) (length weights)
    → x ≡ mixed (take (to - from) (drop from weights))
    (frame_at inputs stride (length (take (to - from) (drop from weights))) frame)
    → x ≡ output weights channels inputs stride frame o
output_is weights channels inputs stride frame o from to x ef et ex =
    ex ∙ ap (λ (ws : List Float). mixed ws (frame_at inputs stride (length ws) frame))
    (row_part channels o weights from to ef et) ∙ mixed_row channels o weights inputs stride frame
