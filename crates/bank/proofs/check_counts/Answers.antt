-- `bank::check_counts` meets its contract. Assumes nothing.
use Rattle.std.specs.Prelude.{◌≡◌}
use Rattle.lists.specs.Prelude.{sym, ◌∙◌, true, arith}
use Rattle.refusals.specs.Ranges.{within}
use Rattle.bank_form.proofs.Walk.{unless_passes, unless_fails}
use Rattle.bank.proofs.check_counts.Goals.{Else-not-is_within}
use Rattle.bank.proofs.check_counts.Goals as goal

-- past the test of the row count
few : (c : Else-not-is_within) → within 1 8 c.before.before.args.rows ≡ true
few c = sym c.before.is_within.ensures ∙ c.if-not-is_within.false

pub returns-then-not-is_within : goal.returns-then-not-is_within
returns-then-not-is_within c =
    sym (unless_fails _ 15 5 _ (omega arith) (sym c.before.is_within.ensures ∙ c.if-not-is_within.true))

pub returns-then-not-is_within-2 : goal.returns-then-not-is_within-2
returns-then-not-is_within-2 c = sym (unless_passes _ 15 5 _ (few c.before.before)
    ∙ rw (sym c.before.is_within-2.ensures ∙ c.if-not-is_within-2.true))

pub returns : goal.returns
returns c = sym (unless_passes _ 15 5 _ (few c.before.before)
    ∙ rw (sym c.before.is_within-2.ensures ∙ c.if-not-is_within-2.false))
