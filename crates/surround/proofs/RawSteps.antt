-- The steps of `raw_gain` and `channel_gain` are those of the definitions. Assumes nothing.
use Rattle.std.specs.Prelude.{◌≡◌}
use Rattle.lists.specs.Prelude.{sym, ap, ◌∙◌, Bool, true, false, not, ℕ, not-true, not-false, Float, binary64, lt, sub}
use Rattle.lists.proofs.Tests.{cond_true, cond_false}
use Rattle.series.specs.Sums.{cosine}
use Rattle.angles.specs.Promise.{Answer}
use Rattle.angles.specs.Promise as Angles
use Rattle.formats.specs.Floats.{zero_float}
use Rattle.angles.specs.Promise.{WavePromise}
use Rattle.channel.specs.Layouts.{low_frequency, azimuth_of}
use Rattle.channel.specs.declared.Layout.{Layout}
use Rattle.surround.specs.Computed.{absolute, not_below, turned_towards, is_near, way_of, raw_of, channel_gain}

-- t is the place, and b whether the azimuth is near it
module _ (a s t : Float) (b : Bool) (e : t ≡ turned_towards a s) (n : b ≡ is_near a t) where
  near_place : b ≡ is_near a (turned_towards a s)
  near_place = n ∙ ap (is_near a) e

  pub far : not b ≡ true → zero_float ≡ raw_of a s
  unfolding raw_of
  far h = sym (cond_false _ _ (sym near_place ∙ not-true b h))

  -- x is the way to it, and g the cosine's answer
  module _ (x : Float) (g : Answer) (h : not b ≡ false) (w : x ≡ absolute (sub binary64 a t))
      (p : WavePromise cosine x g) where
    value_is : g.value ≡ (Angles.outcome cosine (way_of a (turned_towards a s))).value
    unfolding way_of
    value_is =
        ap (λ (r : Answer). r.value) p.bits
        ∙ ap (λ (y : Float). (Angles.outcome cosine y).value) (w ∙ ap (λ (z : Float). absolute (sub binary64 a z)) e)

    raw_is : raw_of a s ≡ not_below g.value
    unfolding raw_of
    raw_is = cond_true _ _ (sym near_place ∙ not-false b h) ∙ ap not_below (sym value_is)

    pub lifted : lt g.value zero_float ≡ true → zero_float ≡ raw_of a s
    unfolding not_below
    lifted l = sym (raw_is ∙ cond_true zero_float g.value l)

    pub kept : lt g.value zero_float ≡ false → g.value ≡ raw_of a s
    unfolding not_below
    kept l = sym (raw_is ∙ cond_false zero_float g.value l)

module _ (l : Layout) (a : Float) (c : ℕ) (b : Bool) (e : b ≡ low_frequency l c) where
  pub low : b ≡ true → zero_float ≡ channel_gain l a c
  unfolding channel_gain
  low h = sym (cond_true _ _ (sym e ∙ h))

  pub directed : (s g : Float) → b ≡ false → s ≡ azimuth_of l c → g ≡ raw_of a s → g ≡ channel_gain l a c
  unfolding channel_gain
  directed s g h d r = r ∙ ap (raw_of a) d ∙ sym (cond_false zero_float (raw_of a (azimuth_of l c)) (sym e ∙ h))
