-- `surround::raw_gain` meets its contract: `RawSteps`. Assumes nothing.
use Rattle.lists.specs.Prelude.{of_bits, of_int, ap, not, ◌∙◌, sym, lt}
use Rattle.formats.specs.Floats.{zero_float}
use Rattle.surround.proofs.RawSteps.{far, lifted, kept}
use Rattle.surround.proofs.raw_gain.Goals as goal

pub returns-then-gain : goal.returns-then-gain
unfolding of_bits of_int
returns-then-gain c =
    lifted _ _ _ _ c.place-place.ensures c.is_near.ensures _ _ (ap not c.if-not-is_near.false)
    c.absolute_value.ensures c.cosine.ensures
    (ap (λ g. lt g zero_float) (sym c.unwrap_or-gain.ensures) ∙ c.if-gain.true)

pub returns : goal.returns
unfolding of_bits of_int
returns c =
    c.unwrap_or-gain.ensures
    ∙ kept _ _ _ _ c.place-place.ensures c.is_near.ensures _ _ (ap not c.if-not-is_near.false)
    c.absolute_value.ensures c.cosine.ensures
    (ap (λ g. lt g zero_float) (sym c.unwrap_or-gain.ensures) ∙ c.if-gain.false)

pub returns-then-not-is_near : goal.returns-then-not-is_near
unfolding of_bits of_int
returns-then-not-is_near c = far _ _ _ _ c.place-place.ensures c.is_near.ensures (ap not c.if-not-is_near.true)
