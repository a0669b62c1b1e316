-- `script::speak` meets its contract: `Segments`. Assumes nothing.
use Rattle.std.specs.Prelude.{Result}
use Rattle.lists.specs.Prelude.{ap, ◌∙◌, subst, List, Float}
use Rattle.refusals.specs.declared.Refusal.{Refusal}
use Rattle.planes.specs.Planes.{with_frames}
use Rattle.channel.specs.declared.Layout.TheVariants.{Mono}
use Rattle.panner.specs.declared.CommandGains.{CommandGains}
use Rattle.panner.specs.declared.Command.TheVariants.{Ambisonic}
use Rattle.panner.specs.Halves.{gained, CommandGainsPromise}
use Rattle.script.proofs.Segments.{speaks_so}
use Rattle.script.proofs.speak.Goals as goal

pub returns-in-Some : goal.returns-in-Some
returns-in-Some c =
    let a = c.args in (
      c.until-to.ensures,
      c.play_part.ensures ∙ ap (λ (fs : List (List Float)). with_frames a.out.now a.stride a.from fs)
          (speaks_so a.order a.held c.requires.1 c.in-Some.direction c.in-Some.is _
          (subst (λ (r : Result CommandGains Refusal). CommandGainsPromise (Ambisonic c.in-Some.direction a.order) Mono
          (gained r)) c.unwrap-played.ensures c.command_gains.ensures)
          a.stride a.from c.until-to.result a.input.now),
    )
