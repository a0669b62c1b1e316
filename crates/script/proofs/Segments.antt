-- What is put for a segment at a direction is what document 02 says of its frames: the panner's gains at the direction
-- that holds. Assumes nothing.
use Rattle.std.specs.Prelude.{◌≡◌, ◌-◌, Some}
use Rattle.lists.specs.Prelude.{refl, sym, ap, ◌∙◌, List, ℕ, min, arith, Float}
use Rattle.refusals.specs.Refusals.{first_of}
use Rattle.refusals.proofs.Chains.{off_accepts}
use Rattle.lists.specs.Tables.{tab}
use Rattle.channel.specs.Orders.{channels_of_order}
use Rattle.harmonics.specs.declared.Direction.{Direction}
use Rattle.channel.specs.declared.Layout.TheVariants.{Mono}
use Rattle.channel.proofs.Orders.{few_channels}
use Rattle.planes.specs.Planes.{sample_at}
use Rattle.panner.specs.declared.Command.TheVariants.{Ambisonic}
use Rattle.panner.specs.Commands.{command_checks, gains_of_command}
use Rattle.panner.specs.Blocks.{narrowed_all}
use Rattle.panner.specs.Halves.{GainsAnswer, panned_part, CommandGainsPromise}
use Rattle.panner.proofs.Halves.{gained_accepted}
use Rattle.cues.specs.declared.Held.{Held}
use Rattle.cues.specs.Cues.{Voice, voice_from}
use Rattle.script.specs.Rendering.{spoken}
use Rattle.script.specs.Computed.{Speakable, Spoken}

-- the panner's gains are those of the command, since nothing of it is refused
module _ (order : ℕ) (h : Held) (S : Speakable order h) (d : Direction) (on : h.direction ≡ Some d) (g : GainsAnswer)
    (G : CommandGainsPromise (Ambisonic d order) Mono g) (stride from to : ℕ) (input : List Float) where
  none : first_of (command_checks (Ambisonic d order) Mono) ≡ 0
  none = off_accepts (command_checks (Ambisonic d order) Mono) (S.order_good, (refl, (S.direction_good d on, tt)))

  few : min (channels_of_order order) 16 ≡ channels_of_order order
  few = let l = (few_channels order S.order_good).1 in omega (arith, l)

  pub speaks_so : panned_part stride from to (min g.planes 16) g.gains input ≡ Spoken order h stride from to input
  speaks_so =
      ap (λ (c : GainsAnswer). panned_part stride from to (min c.planes 16) c.gains input)
      (gained_accepted (Ambisonic d order) Mono g G none)
      ∙ ap (λ (k : ℕ). panned_part stride from to k (narrowed_all (gains_of_command (Ambisonic d order) Mono))
      input) few
      ∙ ap (λ (v : Voice). tab from (to - from) (λ n. spoken order v (sample_at input stride 0 n)))
      (sym (ap voice_from on))
