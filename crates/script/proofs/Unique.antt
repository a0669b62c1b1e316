-- No two answers meet the promise. Assumes nothing.
use Rattle.lists.specs.Prelude.{refl, sym, ap, ◌∙◌}
use Rattle.lists.specs.OneAnswer.{AllowsOneAnswer, States}
use Rattle.planes.proofs.Played.{played_apart}
use Rattle.script.specs.Promise.{RenderedBlock}
use Rattle.script.specs.contracts.render

-- what `render` ensures
abbrev render_states : States render.ended
    (λ w κs a. (render.clauses w.𝓛 w.𝓜.mem w.𝓡.run κs a).ensures tt)
render_states = record { claim = _; stated = λ w κs a r e. refl }

-- the answer and what the output planes hold
pub render_unique : AllowsOneAnswer render.ended render_states.claim
render_unique κs a x y p q =
    let same = p.bits ∙ sym q.bits in λ i. (
      played_apart x.0 y.0 (ap (λ (b : RenderedBlock). b.answer) same) i,
      (_, (_, (_, (_, (_, (_, ((same i).out, _))))))),
    )
