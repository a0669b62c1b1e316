-- `checks::has_nonfinite` meets its contract: none of the elements that the loop has passed is NaN or infinite. Assumes
-- nothing.
use Rattle.lists.specs.Prelude.{ap, ◌∙◌, not, length, map}
use Rattle.checks.proofs.Checks.{finite_more, nonfinite_found, finite_all}
use Rattle.checks.proofs.Checks.{element_at, number_at, nonfinite_numbers}
use Rattle.checks.proofs.has_nonfinite.Goals as goal

pub returns-then-not-is_finite : goal.returns-then-not-is_finite
returns-then-not-is_finite g c =
    let number = g.T.Sample.number in
    let xs = c.args.list.now in
    nonfinite_found (element_at (map number xs)) (length xs) _ _ _ c.loop-x.invariant c.loop-x-test.true
    (c.widened.ensures ∙ number_at number xs _ _ c.loop-x-test.true c.x-item.is) c.is_finite.ensures
    (ap not c.if-not-is_finite.true)
    ∙ nonfinite_numbers number xs

pub loop-x-preserved : goal.loop-x-preserved
loop-x-preserved g c =
    let number = g.T.Sample.number in
    let xs = c.args.list.now in
    finite_more (element_at (map number xs)) (length xs) _ _ _ c.loop-x.invariant c.loop-x-test.true
    (c.widened.ensures ∙ number_at number xs _ _ c.loop-x-test.true c.x-item.is) c.is_finite.ensures
    (ap not c.if-not-is_finite.false)

pub returns : goal.returns
returns g c =
    let number = g.T.Sample.number in
    let xs = c.args.list.now in
    finite_all (element_at (map number xs)) (length xs) _ c.loop-x.invariant c.loop-x-test.false
    ∙ nonfinite_numbers number xs
