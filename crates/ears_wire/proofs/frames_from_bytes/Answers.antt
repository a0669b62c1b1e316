-- `ears_wire::frames_from_bytes` meets its contract. Assumes nothing.
use Rattle.lists.specs.Prelude.{sym, ◌∙◌}
use Rattle.ears_wire.proofs.Meets.{taken_refused, taken_filled}
use Rattle.ears_wire.proofs.frames_from_bytes.Goals as goal

pub returns-then-is_unfit : goal.returns-then-is_unfit
returns-then-is_unfit c = sym (taken_refused _ _ _ (sym c.is_unfit.ensures ∙ c.if-is_unfit.true))

pub returns : goal.returns
returns c = taken_filled _ _ _ _ (sym c.is_unfit.ensures ∙ c.if-is_unfit.false) c.take_frames.ensures
