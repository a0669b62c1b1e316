-- What the two halves of `process` promise: the gains that a command plays with, and some frames of a block played.
-- Document 01: "A refusal returns its number, counts of 0, 0.0 for any number or gain"; 'Sums': "Panner: the f32
-- product of sample and narrowed gain." Definitions only.
use Rattle.std.specs.Prelude.{◌-◌, ◌≡◌, Result}
use Rattle.lists.specs.Prelude.{ℕ, List, replicate, Float}
use Rattle.refusals.specs.Refusals.{first_of, answered}
use Rattle.refusals.specs.Numbers.{number_in, value_in}
use Rattle.refusals.specs.declared.Refusal.{Refusal}
use Rattle.formats.specs.Floats.{zero_float}
use Rattle.lists.specs.Tables.{tab}
use Rattle.planes.specs.Planes.{sample_at}
use Rattle.channel.specs.declared.Layout.{Layout}
use Rattle.panner.specs.declared.Command.{Command}
use Rattle.panner.specs.declared.CommandGains.{CommandGains}
use Rattle.panner.specs.Commands.{command_checks, planes_of, gains_of_command, GainsPromised}
use Rattle.panner.specs.Blocks.{narrowed_all, panned}

-- the gains, or a refusal, no planes and 0.0 for each gain
pub record GainsAnswer : Type 0 where
  pub refusal : ℕ
  pub planes : ℕ
  pub gains : List Float

abbrev pub ungained : CommandGains
ungained = record { planes = 0; gains = replicate 16 zero_float }

abbrev pub gained : Result CommandGains Refusal → GainsAnswer
gained r = record {
  refusal = number_in r;
  planes = (value_in ungained r).planes;
  gains = (value_in ungained r).gains;
}

abbrev pub gains_played : Command → Layout → GainsAnswer
gains_played c l = record { refusal = 0; planes = planes_of c l; gains = narrowed_all (gains_of_command c l) }

abbrev pub refused_gains : ℕ → GainsAnswer
refused_gains n = record { refusal = n; planes = 0; gains = replicate 16 zero_float }

abbrev pub command_gains : Command → Layout → GainsAnswer
command_gains c l = answered (first_of (command_checks c l)) (gains_played c l) refused_gains

-- all that is handed back; and that the gains are those promised
pub record CommandGainsPromise (c : Command) (l : Layout) (answer : GainsAnswer) : Type 0 where
  pub bits : answer ≡ command_gains c l
  pub words : first_of (command_checks c l) ≡ 0 → GainsPromised c l (gains_of_command c l)

-- the frames from one to before another: frame n of the outputs, of sample n of the input
abbrev pub panned_part : ℕ → ℕ → ℕ → ℕ → List Float → List Float → List (List Float)
panned_part stride from to planes gains input =
    tab from (to - from) (λ n. panned planes gains (sample_at input stride 0 n))
