-- `ears_wire::bytes_from_ears` meets its contract. Assumes nothing.
use Rattle.lists.specs.Prelude.{sym, ◌∙◌, arith}
use Rattle.ears_wire.proofs.Meets.{given_unfit, given_short, given_filled}
use Rattle.ears_wire.proofs.bytes_from_ears.Goals as goal

pub returns-then-is_unfit : goal.returns-then-is_unfit
returns-then-is_unfit c = sym (given_unfit _ _ _ _ (sym c.is_unfit.ensures ∙ c.if-is_unfit.true))

pub returns-then-out-frames : goal.returns-then-out-frames
returns-then-out-frames c =
    sym (given_short _ _ _ _ (sym c.is_unfit.ensures ∙ c.if-is_unfit.false) c.if-out-frames.true)

pub returns : goal.returns
returns c =
    given_filled _ _ _ _ _ (sym c.is_unfit.ensures ∙ c.if-is_unfit.false) (omega (arith, c.if-out-frames.false))
    c.give_frames.ensures
