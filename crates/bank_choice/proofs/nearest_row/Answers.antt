-- `bank_choice::nearest_row` meets its contract. Assumes nothing.
use Rattle.std.specs.Prelude.{◌≡◌}
use Rattle.lists.specs.Prelude.{sym, ◌∙◌, arith}
use mir.Facts.{to_z-of_z}
use Rattle.refusals.proofs.Counts.{not_outside}
use Rattle.bank_choice.specs.Choice.{in_tenths, is_elevation}
use Rattle.bank_choice.proofs.Meets.{no_rows, no_azimuth, no_elevation, no_azimuths, no_elevations, chosen}
use Rattle.bank_choice.proofs.nearest_row.Goals.{After-is_between, After-is_between-2}
use Rattle.bank_choice.proofs.nearest_row.Goals as goal

-- the tests of the azimuth and of the elevation say whether these are in their ranges
azimuth : (c : After-is_between) → c.is_between.result ≡ in_tenths c.args.azimuth
unfolding in_tenths
azimuth c = rw (to_z-of_z c.ranges.azimuth) at c.is_between.ensures

elevation : (c : After-is_between-2) → c.is_between-2.result ≡ is_elevation c.args.elevation
unfolding is_elevation
elevation c = rw (to_z-of_z c.ranges.elevation) at c.is_between-2.ensures

pub returns-then-is_outside : goal.returns-then-is_outside
returns-then-is_outside c = no_rows _ _ _ _ _ (sym c.is_outside.ensures ∙ c.if-is_outside.true)

pub returns-then-not-is_between : goal.returns-then-not-is_between
returns-then-not-is_between c =
    no_azimuth _ _ _ _ _ (sym c.is_outside.ensures ∙ c.if-is_outside.false)
    (sym (azimuth (goal.at.returns-then-not-is_between c).After-is_between) ∙ c.if-not-is_between.true)

pub returns-then-not-is_between-2 : goal.returns-then-not-is_between-2
returns-then-not-is_between-2 c =
    let at = goal.at.returns-then-not-is_between-2 c in
    no_elevation _ _ _ _ _ (sym c.is_outside.ensures ∙ c.if-is_outside.false)
    (sym (azimuth at.After-is_between) ∙ c.if-not-is_between.false)
    (sym (elevation at.After-is_between-2) ∙ c.if-not-is_between-2.true)

pub returns-then-azimuths-ne8 : goal.returns-then-azimuths-ne8
returns-then-azimuths-ne8 c =
    let at = goal.at.returns-then-azimuths-ne8 c in
    no_azimuths _ _ _ _ _ (sym c.is_outside.ensures ∙ c.if-is_outside.false)
    (sym (azimuth at.After-is_between) ∙ c.if-not-is_between.false)
    (sym (elevation at.After-is_between-2) ∙ c.if-not-is_between-2.false)
    (λ e. c.if-azimuths-ne8.true (omega arith))

pub returns-then-elevations-ne8 : goal.returns-then-elevations-ne8
returns-then-elevations-ne8 c =
    let at = goal.at.returns-then-elevations-ne8 c in
    no_elevations _ _ _ _ _ (sym c.is_outside.ensures ∙ c.if-is_outside.false)
    (sym (azimuth at.After-is_between) ∙ c.if-not-is_between.false)
    (sym (elevation at.After-is_between-2) ∙ c.if-not-is_between-2.false)
    (omega arith) (λ e. c.if-elevations-ne8.true (omega arith))

pub returns : goal.returns
returns c =
    let at = goal.at.returns c in
    let rows = sym c.is_outside.ensures ∙ c.if-is_outside.false in
    let found = rw (to_z-of_z c.ranges.azimuth, to_z-of_z c.ranges.elevation) at c.nearest.ensures in
    chosen _ _ _ _ _ rows (sym (azimuth at.After-is_between) ∙ c.if-not-is_between.false)
    (sym (elevation at.After-is_between-2) ∙ c.if-not-is_between-2.false) (omega arith) (omega arith) _ found
    (not_outside _ 8 rows).0
