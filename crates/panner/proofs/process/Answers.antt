-- `panner::process` meets its contract: `Meets`. Assumes nothing.
use Rattle.lists.specs.Prelude.{refl, sym, ◌∙◌, arith}
use Rattle.std.proofs.lemmas.Result.{err_from_is_err_and}
use Rattle.refusals.proofs.First.{not_accepted}
use Rattle.refusals.proofs.Numbers.{number_above}
use Rattle.panner.proofs.Meets.{by_command, plays}
use Rattle.panner.proofs.process.Goals as goal

pub returns-in_err-played : goal.returns-in_err-played
returns-in_err-played c =
    let a = c.args in
    let p = err_from_is_err_and c.from_residual.result c.from_residual.ensures.1 in
    rw (p.1, p.2) (by_command
    (record { command = a.command; layout = a.layout; frames = a.frames; stride = a.stride }) a.input.now
    a.out.now _ c.in_err-played.ensures (not_accepted _ (number_above _) refl))

pub returns : goal.returns
returns c =
    let a = c.args in
    plays (record { command = a.command; layout = a.layout; frames = a.frames; stride = a.stride }) a.input.now
    a.out.now _ c.in_ok-played.ensures refl (sym c.is_block_unfit.ensures ∙ c.if-is_block_unfit.false)
    c.play_part.new.out (omega arith) c.play_part.ensures
