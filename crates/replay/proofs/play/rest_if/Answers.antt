-- `replay::play::rest_if` meets its contract. Assumes nothing.
use Rattle.lists.specs.Prelude.{sym, ap, ◌∙◌, Bool}
use Rattle.replay.specs.Computed.{state_with, rested_if}
use Rattle.replay.proofs.Convolver.{reset_ok, reset_leaves}
use Rattle.replay.proofs.play.rest_if.Goals as goal

pub unwrap-requires : goal.unwrap-requires
unwrap-requires c =
    let a = c.args in reset_ok a.desk a.speakers a.length a.rings.now _ c.requires c.reset.ensures

pub returns-then-restart : goal.returns-then-restart
returns-then-restart c =
    let a = c.args in
    reset_leaves a.desk a.speakers a.length a.rings.now _ c.requires c.reset.ensures c.unwrap.ensures
    ∙ sym (ap (λ (b : Bool). rested_if b (state_with a.desk a.rings.now)) c.if-restart.true)
