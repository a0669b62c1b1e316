use Rattle.lists.specs.Prelude.{length}
use Rattle.lists.proofs.Filling.{Filling}
use Rattle.hrtf_setup.specs.Speakers.{row_at}
use Rattle.hrtf_setup.proofs.choose_rows.Given as goal

abbrev pub invariant-loop-s : goal.invariant-loop-s
invariant-loop-s l =
    Filling (row_at l.whose l.azimuths l.elevations l.rows) (length l.initial.row-items) l.initial.row-items l.row-items
    l.s
