-- `angles::sine` meets its contract: `Meets`. Assumes nothing.
use Rattle.lists.specs.Prelude.{of_bits, of_int}
use Rattle.std.proofs.lemmas.Result.{err_from_is_err_and}
use Rattle.series.specs.Sums as Sums
use Rattle.angles.proofs.Meets.{placed, accepted_kept, refused_kept}
use Rattle.angles.proofs.sine.Goals as goal

pub returns-in_err-place_of : goal.returns-in_err-place_of
unfolding of_bits of_int
returns-in_err-place_of c =
    let p = err_from_is_err_and c.from_residual.result c.from_residual.ensures.1 in
    rw (p.1, p.2) (refused_kept Sums.sine c.args.d _ c.in_err-place_of.ensures)

pub sine_at-requires : goal.sine_at-requires
sine_at-requires c = placed c.args.d _ c.in_ok-place_of.ensures.1

pub returns : goal.returns
unfolding of_bits of_int
returns c = accepted_kept Sums.sine c.args.d _ _ c.in_ok-place_of.ensures c.sine_at.ensures
