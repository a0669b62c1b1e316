-- `angles::sine_at` meets its contract: its steps are those of the definition, and none of its numbers is too large.
-- Assumes nothing.
use Rattle.std.specs.Prelude.{◌-◌, ◌^◌, ◌<◌}
use Rattle.lists.specs.Prelude.{sym, ap, ◌∙◌, subst, ℕ, ltb, lit≤, Float, unlike}
use Rattle.angles.specs.Computed.{one, half, times, outermost, from_one, rounded_units, sine_at}
use Rattle.angles.proofs.Room.{outermost_room, sine_room}
use Rattle.angles.proofs.sine_at.Goals as goal

pub outermost-g-requires : goal.outermost-g-requires
outermost-g-requires c = (outermost_room _ _ c.radians-x.ensures, lit≤ tt)

pub times-requires : goal.times-requires
times-requires c = (sine_room _ _ c.before.before.radians-x.ensures _
    (c.from_one.ensures ∙ ap from_one c.before.outermost-g.ensures)).0

pub rounded-requires : goal.rounded-requires
rounded-requires c =
    let s = c.before in
    subst (λ (n : ℕ). n < 2 ^ 62 - 256) (sym c.times.ensures)
    (sine_room _ _ s.before.before.radians-x.ensures _
    (s.from_one.ensures ∙ ap from_one s.before.outermost-g.ensures)).1

pub returns : goal.returns
unfolding sine_at
returns c =
    let s = c.before.before in
    let x = s.before.before.radians-x.ensures in
    let g = s.before.outermost-g.ensures ∙ ap (λ (z : ℕ). outermost z 25) x in
    let f : ℕ → ℕ → Float = λ z w. rounded_units (unlike (ltb half s.before.before.before.args.a) (ltb one z))
    w in
    c.rounded.ensures
    ∙ (λ i. f (g i) ((c.before.times.ensures ∙ λ j. times (x j) ((s.from_one.ensures ∙ ap from_one g) j)) i))
