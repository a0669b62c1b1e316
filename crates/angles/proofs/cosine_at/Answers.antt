-- `angles::cosine_at` meets its contract: its steps are those of the definition, and none of its numbers is too large.
-- Assumes nothing.
use Rattle.lists.specs.Prelude.{ap, ◌∙◌, ℕ, ltb, lit≤}
use Rattle.angles.specs.Computed.{one, outermost, from_one, rounded_units, cosine_at}
use Rattle.angles.proofs.Room.{outermost_room, cosine_room}
use Rattle.angles.proofs.cosine_at.Goals as goal

pub outermost-g-requires : goal.outermost-g-requires
outermost-g-requires c = (outermost_room _ _ c.radians-x.ensures, lit≤ tt)

pub rounded-requires : goal.rounded-requires
rounded-requires c = cosine_room _ _ c.before.before.radians-x.ensures _
    (c.from_one.ensures ∙ ap from_one c.before.outermost-g.ensures)

pub returns : goal.returns
unfolding cosine_at
returns c =
    let s = c.before in
    let g = s.before.outermost-g.ensures ∙ ap (λ (z : ℕ). outermost z 26) s.before.before.radians-x.ensures in
    c.rounded.ensures ∙ (λ i. rounded_units (ltb one (g i)) ((s.from_one.ensures ∙ ap from_one g) i))
