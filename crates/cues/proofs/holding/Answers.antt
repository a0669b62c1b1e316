-- `cues::holding` meets its contract: `Halving`. Assumes nothing.
use Rattle.std.specs.Prelude.{◌≤◌}
use Rattle.lists.specs.Prelude.{arith, sym, ap, ◌∙◌, subst}
use Rattle.cues.specs.declared.Cue.{Cue}
use Rattle.cues.specs.declared.Search.{Search}
use Rattle.cues.specs.Computed.{halved_of}
use Rattle.cues.specs.Promise.{FindPromise}
use Rattle.cues.proofs.Halving.{Halving, halving_whole, halving_more, halving_all, next_after}
use Rattle.cues.proofs.holding.Goals as goal

pub loop-s-init : goal.loop-s-init
loop-s-init c = record {
  halving = subst (Halving c.args.cues.now c.args.frame) (sym c.whole_of-s.ensures)
      (halving_whole c.args.cues.now c.args.frame);
  after = subst (λ (s : Search). c.args.frame ≤ s.next) (sym c.whole_of-s.ensures) (omega arith);
}

pub loop-s-preserved : goal.loop-s-preserved
loop-s-preserved c =
    let s = c.loop-s.s in
    let turned = c.halved-s.ensures ∙ ap (λ (d : Cue). halved_of s d c.args.frame) c.cue_at.ensures in record {
      halving = subst (Halving c.args.cues.now c.args.frame) (sym turned)
          (halving_more c.args.cues.now c.args.frame s c.loop-s-test.true c.loop-s.invariant.halving).0;
      after = subst (λ (t : Search). c.args.frame ≤ t.next) (sym c.halved-s.ensures)
          (next_after s c.cue_at.result c.args.frame c.loop-s.invariant.after);
    }

pub returns : goal.returns
returns c = subst (FindPromise c.args.cues.now c.args.frame) (sym c.held_of.ensures)
    (halving_all c.args.cues.now c.args.frame c.loop-s.s c.loop-s-test.false c.loop-s.invariant.halving)
