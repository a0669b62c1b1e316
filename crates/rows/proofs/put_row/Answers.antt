-- `rows::put_row` meets its contract: what is left to put, put where it belongs, gives the promised list. Assumes
-- nothing.
use Rattle.lists.specs.Prelude.{◌∙◌}
use Rattle.rows.proofs.Putting.{one_put, one_left_out}
use Rattle.rows.proofs.put_row.Goals.{then-to-weights, else-to-weights}
use Rattle.rows.proofs.put_row.Goals as goal

pub loop-x-preserved : goal.loop-x-preserved
loop-x-preserved c =
    elim c.if-to-weights.branch [
      | then-to-weights w ↦ rw (w.to-is, w.weights-is)
          (one_put c.args.row.now c.args.scale c.loop-x.weights c.loop-x.to c.loop-x.x-index _ c.loop-x-test.true
          ∙ c.loop-x.invariant)
      | else-to-weights w ↦ rw (w.to-is, w.weights-is)
          (one_left_out c.args.row.now c.args.scale c.loop-x.weights c.loop-x.to c.loop-x.x-index w.if-to-weights.false
          ∙ c.loop-x.invariant)
    ]
