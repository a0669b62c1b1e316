-- What the promise of `command_gains` says of a command that is refused, and of one that is not. Assumes nothing.
use Rattle.std.specs.Prelude.{◌≡◌}
use Rattle.lists.specs.Prelude.{refl, ap, ◌∙◌}
use Rattle.refusals.specs.Refusals.{first_of}
use Rattle.refusals.proofs.First.{answered_accepted, answered_refused, answered_number}
use Rattle.channel.specs.declared.Layout.{Layout}
use Rattle.panner.specs.declared.Command.{Command}
use Rattle.panner.specs.Commands.{command_checks}
use Rattle.panner.specs.Halves.{GainsAnswer, gains_played, refused_gains, CommandGainsPromise}

module _ (c : Command) (l : Layout) (g : GainsAnswer) (G : CommandGainsPromise c l g) where
  pub gained_number : g.refusal ≡ first_of (command_checks c l)
  gained_number = ap (λ (r : GainsAnswer). r.refusal) G.bits
      ∙ answered_number (gains_played c l) refused_gains (λ (r : GainsAnswer). r.refusal) refl
      (first_of (command_checks c l))
      refl

  pub gained_accepted : first_of (command_checks c l) ≡ 0 → g ≡ gains_played c l
  gained_accepted z = G.bits ∙ answered_accepted (gains_played c l) refused_gains (first_of (command_checks c l)) z

  pub gained_refused : (first_of (command_checks c l) ≡ 0 → ⊥) → g ≡ refused_gains (first_of (command_checks c l))
  gained_refused h = G.bits ∙ answered_refused (gains_played c l) refused_gains (first_of (command_checks c l)) h
