-- `ears_file::input::step` meets its contract: a read, and then nothing, or a turn. Assumes nothing.
use Rattle.std.specs.Prelude.{◌<◌}
use Rattle.lists.specs.Prelude.{sym, lt_of_le_of_ne, arith}
use Rattle.ears_file.proofs.Stepping.{failing_further, read_further, none_further}
use Rattle.ears_file.proofs.input.step.Goals as goal

pub returns-then-size-held-clause-further : goal.returns-then-size-held-clause-further
returns-then-size-held-clause-further g c =
    none_further _ _ _ _ _ c.in-Ok.ensures.keeps _

pub returns-clause-further : goal.returns-clause-further
returns-clause-further g c =
    let read = c.in-Ok.ensures in
    -- more bytes are there than were held
    let went_on : c.args.progress.held < c.in-Ok.size =
    lt_of_le_of_ne (omega (arith, read.more)) (λ e. c.if-size-held.false (sym e)) in
    read_further _ _ _ _ _ read.keeps _ _ _ _ _ went_on read.room c.play-turn.ensures.further

-- a read that fails brings nothing, and a write that fails comes after a turn

pub returns-in-Err-clause-failed_further : goal.returns-in-Err-clause-failed_further
returns-in-Err-clause-failed_further g c =
    let none = none_further _ _ _ _ _ c.in-Err.ensures.keeps _ in
    (none.0, _, none.2)

pub returns-in_err-write_some-clause-failed_further : goal.returns-in_err-write_some-clause-failed_further
returns-in_err-write_some-clause-failed_further g c =
    let read = c.in-Ok.ensures in
    let went_on : c.args.progress.held < c.in-Ok.size =
    lt_of_le_of_ne (omega (arith, read.more)) (λ e. c.if-size-held.false (sym e)) in
    let more = read_further _ _ _ _ _ read.keeps _ _ _ _ _ went_on read.room c.play-turn.ensures.further in
    failing_further _ more.2
