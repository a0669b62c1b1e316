-- `replay::gather::take_one` meets its contract: a frame of silence is one whose source gives 0.0. Assumes nothing.
use Rattle.lists.specs.Prelude.{refl, ap, ◌∙◌, arith, of_bits, rules}
use Rattle.formats.specs.Floats.{zero_float}
use Rattle.lists.proofs.Tables.{tab_constant}
use Rattle.planes.specs.Planes.{with_frame}
use Rattle.stamps.specs.declared.Arrival.TheVariants.{Ahead}
use Rattle.replay.proofs.Gathering.{took}
use Rattle.replay.proofs.gather.take_one.Goals as goal

pub returns-in-Ahead : goal.returns-in-Ahead
unfolding of_bits
returns-in-Ahead c =
    let a = c.args in
    took _ _ _ _ _ _ _ _ (Ahead _) _ _ c.coming.ensures refl
    (omega (arith, c.type_inv.stamps c.args.so_far.at)) c.in-Ahead.is (cc)
    (c.put_frame-in-Ahead.ensures (λ p. zero_float) (λ p x lt h. search rules)
    ∙ ap (with_frame a.block.now 64 a.so_far.count) (tab_constant 0 a.channels zero_float))
