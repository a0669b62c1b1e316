use Rattle.std.specs.Prelude.{◌/◌, ◌%◌}
use Rattle.planes.specs.Planes.{sample_at}
use Rattle.demo_line.proofs.Line.{Begun}
use Rattle.demo_line.proofs.line_of.Given as goal

abbrev pub invariant-loop-i : goal.invariant-loop-i
invariant-loop-i l = Begun (λ k. sample_at l.planes 32 (k % 6) (k / 6)) 192 l.initial.line l.line l.i
