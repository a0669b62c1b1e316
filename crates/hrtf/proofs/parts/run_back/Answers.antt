-- `hrtf::parts::run_back` meets its contract: `hrtf_rings`' `Running`, once for each ear; and `nan_heard`, at a NaN.
-- Assumes nothing.
use Rattle.lists.specs.Prelude.{refl, arith, div, of_bits}
use lib.Ieee.Compare.{differs_from_itself}
use denote.Floats.{passes}
use Rattle.formats.proofs.Patterns.{no_nan}
use Rattle.hrtf_rings.proofs.TwoRuns.{running_more, running_all}
use Rattle.hrtf.proofs.SpeakerParts.{casts, tap_casts, nan_heard}
use Rattle.hrtf.proofs.parts.run_back.Goals as goal

pub returns-then-cell : goal.returns-then-cell
unfolding div of_bits
returns-then-cell c =
    nan_heard c.args.sums c.loop-k.k c.requires.0 c.requires.1 (omega arith)
    (differs_from_itself _ (passes _ c.if-cell.true))

pub float_to_float-signal : goal.float_to_float-signal
float_to_float-signal c = casts _ (c.type_inv.cells _) (no_nan _ c.if-cell.false)

pub float_to_float-to_left : goal.float_to_float-to_left
float_to_float-to_left c =
    tap_casts _ c.requires.0 (omega arith) (c.type_inv.left c.loop-k.k)

pub float_to_float-to_right : goal.float_to_float-to_right
float_to_float-to_right c =
    tap_casts _ c.requires.1 (omega arith) (c.type_inv.right c.loop-k.k)

pub loop-k-preserved : goal.loop-k-preserved
loop-k-preserved c =
    let so_far = c.loop-k.invariant in
    (running_more so_far.0 (omega arith) refl refl, running_more so_far.1 (omega arith) refl refl)

pub returns : goal.returns
returns c =
    let left = running_all c.loop-k.invariant.0 (omega arith) in
    let right = running_all c.loop-k.invariant.1 (omega arith) in
    λ i. record { left = left i; right = right i }
