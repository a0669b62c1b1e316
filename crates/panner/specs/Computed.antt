-- What the steps of the program hand to each other. Definitions only, and none that the public promise cites.
use Rattle.std.specs.Prelude.{◌≡◌, Result}
use Rattle.lists.specs.Prelude.{ℕ, Bool, List, replicate, Float}
use Rattle.refusals.specs.Refusals.{first_of}
use Rattle.refusals.specs.Numbers.{number_in, value_in}
use Rattle.refusals.specs.declared.Refusal.{Refusal}
use Rattle.formats.specs.Floats.{zero_float}
use Rattle.channel.specs.Layouts.{channels_of, refuses_channels}
use Rattle.channel.specs.declared.Layout.{Layout}
use Rattle.panner.specs.declared.Command.{Command}
use Rattle.panner.specs.declared.Commanded.{Commanded}
use Rattle.panner.specs.Commands.{command_checks, planes_of, gains_of_command, GainsPromised}

abbrev pub is_bad_layout : Layout → Bool
is_bad_layout l = refuses_channels (channels_of l)

abbrev pub command_refusal : Command → Layout → ℕ
command_refusal c l = first_of (command_checks c l)

pub record CommandAnswer : Type 0 where
  pub refusal : ℕ
  pub planes : ℕ
  pub gains : List Float

abbrev pub uncommanded : Commanded
uncommanded = record { planes = 0; gains = replicate 16 zero_float }

abbrev pub commanded : Result Commanded Refusal → CommandAnswer
commanded r = record {
  refusal = number_in r;
  planes = (value_in uncommanded r).planes;
  gains = (value_in uncommanded r).gains;
}

-- the gains of a command: its refusal, and if there is none how many planes, with which gains
pub record CommandComputed (c : Command) (l : Layout) (g : CommandAnswer) : Type 0 where
  pub refusal : g.refusal ≡ command_refusal c l
  pub planes : command_refusal c l ≡ 0 → g.planes ≡ planes_of c l
  pub gains : command_refusal c l ≡ 0 → g.gains ≡ gains_of_command c l
  pub promised : command_refusal c l ≡ 0 → GainsPromised c l (gains_of_command c l)
