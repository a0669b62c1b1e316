use Rattle.std.specs.Prelude.{◌+◌, ◌*◌}
use Rattle.lists.specs.Prelude.{ℕ, length}
use Rattle.big_endian.specs.Fields.{float_at}
use Rattle.lists.proofs.Filling.{Filling}
use Rattle.bank.proofs.rows.fill_taps.Given as goal

abbrev pub invariant-loop-k : goal.invariant-loop-k
invariant-loop-k l =
    Filling (λ (k : ℕ). float_at l.file (l.at + k * 4)) (length l.initial.taps) l.initial.taps l.taps l.k
