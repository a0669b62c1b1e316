-- `ears_wire::records::keep_rest` meets its contract. Assumes nothing.
use Rattle.lists.specs.Prelude.{◌∙◌}
use Rattle.ears_wire.proofs.Keeping.{kept_none, kept_all}
use Rattle.ears_wire.proofs.records.keep_rest.Goals as goal

pub returns-then-from-end : goal.returns-then-from-end
returns-then-from-end c = c.copy_within.ensures.after ∙ kept_all _ _ _ _ c.min-end.ensures

pub returns-else-from-end : goal.returns-else-from-end
returns-else-from-end c = kept_none _ _ _ _ c.min-end.ensures c.if-from-end.false
