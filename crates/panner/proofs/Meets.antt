-- The answers of `command_gains` and of `process` are those promised: refused by the command, by a length, by the
-- number of frames, and played. Assumes nothing.
use Rattle.std.specs.Prelude.{◌≡◌, ◌≤◌, ◌<◌}
use Rattle.lists.specs.Prelude.{sym, ap, ◌∙◌, true, false, List, ℕ, min, sub-zero, arith, lt-ltb, le-ltb, length, Float}
use Rattle.refusals.specs.Refusals.{Check, first_of}
use Rattle.refusals.proofs.First.{answered_accepted, answered_refused}
use Rattle.lists.proofs.Tests.{cond_true, cond_false}
use Rattle.refusals.proofs.Chains.{first_refused, first_accepted, none_holds}
use Rattle.lists.specs.Tables.{tab}
use Rattle.channel.specs.declared.Layout.{Layout}
use Rattle.planes.specs.Planes.{sample_at, with_frames}
use Rattle.planes.proofs.Blocks.{refused_with_lem, played_with}
use Rattle.panner.specs.declared.Command.{Command}
use Rattle.panner.specs.Commands.{command_checks, gains_of_command}
use Rattle.panner.specs.Blocks.{PannedShape, panner_unfit, most_frames, planes_in, block_checks, refusal_of}
use Rattle.panner.specs.Blocks.{narrowed_all}
use Rattle.panner.specs.Blocks.{panned, frames_panned}
use Rattle.panner.specs.Halves.{GainsAnswer, panned_part, gains_played, refused_gains, CommandGainsPromise}
use Rattle.panner.specs.Promise.{answer_of, PannerPromise}
use Rattle.panner.specs.Computed.{CommandAnswer, command_refusal, CommandComputed}
use Rattle.panner.proofs.Gains.{planes_most}
use Rattle.panner.proofs.Halves.{gained_number, gained_accepted}

-- ---- what a command plays
module _ (c : Command) (l : Layout) (g : CommandAnswer) (G : CommandComputed c l g) where
  pub gives_refused : (g.refusal ≡ 0 → ⊥) → CommandGainsPromise c l (refused_gains g.refusal)
  gives_refused h = record {
    bits = ap refused_gains G.refusal
        ∙ sym (answered_refused (gains_played c l) refused_gains (command_refusal c l) (λ k. h (G.refusal ∙ k)));
    words = G.promised;
  }

  pub gives_gains : g.refusal ≡ 0 → (narrow : List Float) → narrow ≡ narrowed_all g.gains
      → CommandGainsPromise c l (record { refusal = 0; planes = g.planes; gains = narrow })
  gives_gains z narrow e =
      let accepted : command_refusal c l ≡ 0 = sym G.refusal ∙ z in
      let narrow_is : narrow ≡ narrowed_all (gains_of_command c l) = e ∙ ap narrowed_all (G.gains accepted) in
      record {
        bits = (λ i. record { refusal = 0; planes = G.planes accepted i; gains = narrow_is i })
            ∙ sym (answered_accepted (gains_played c l) refused_gains (command_refusal c l) accepted);
        words = G.promised;
      }

-- ---- a block
module _ (s : PannedShape) (input out : List Float) where
  abbrev refusal : ℕ
  refusal = refusal_of s (length input) (length out)

  refused : (n : ℕ) → (n ≡ 0 → ⊥) → refusal ≡ n → PannerPromise s input out (record { refusal = n; samples = 0 }) out
  refused n h e = record {
    bits = refused_with_lem answer_of s.frames s.stride (frames_panned s input) out n refusal
        (sym e) h;
    words = λ k. absurd (h (sym e ∙ k));
  }

  module _ (g : GainsAnswer) (G : CommandGainsPromise s.command s.layout g) where
    abbrev first : List Check
    first = command_checks s.command s.layout

    abbrev then : List Check
    then = block_checks s (length input) (length out)

    number : g.refusal ≡ first_of first
    number = gained_number s.command s.layout g G

    pub by_command : (g.refusal ≡ 0 → ⊥) → PannerPromise s input out (record { refusal = g.refusal; samples = 0 }) out
    by_command h = refused g.refusal h (first_refused first then (λ k. h (number ∙ k)) ∙ sym number)

    module _ (z : g.refusal ≡ 0) where
      accepted : first_of first ≡ 0
      accepted = sym number ∙ z

      gains_are : g ≡ gains_played s.command s.layout
      gains_are = gained_accepted s.command s.layout g G accepted

      goes : refusal ≡ first_of then
      goes = first_accepted first then tt accepted

      misfit_is : panner_unfit (length input) (length out) g.planes s.stride s.frames ≡ panner_unfit
          (length input)
          (length out) (planes_in s) s.stride s.frames
      misfit_is = ap (λ (r : GainsAnswer). panner_unfit (length input) (length out) r.planes s.stride s.frames)
          gains_are

      pub by_length : panner_unfit (length input) (length out) g.planes s.stride s.frames ≡ true
          → PannerPromise s input out (record { refusal = 5; samples = 0 }) out
      by_length m = refused 5 (λ e. omega arith) (goes ∙ cond_true 5 _ (sym misfit_is ∙ m))

      module _ (m : panner_unfit (length input) (length out) g.planes s.stride s.frames ≡ false) where
        pub by_frames : most_frames < s.frames → PannerPromise s input out (record { refusal = 6; samples = 0 }) out
        by_frames h = refused 6 (λ e. omega arith)
            (goes ∙ cond_false 5 _ (sym misfit_is ∙ m) ∙ cond_true 6 0 (lt-ltb most_frames s.frames h))

        -- a part from 0 on is the whole block, and its planes are sixteen at most
        whole : with_frames out s.stride 0
            (panned_part s.stride 0 s.frames (min g.planes 16) g.gains input) ≡ with_frames out
            s.stride 0 (frames_panned s input)
        whole =
            let off = none_holds first tt accepted in
            let most = planes_most s.command s.layout off.0 off.1.0 in
            let few : min (planes_in s) 16 ≡ planes_in s = omega (arith, most) in
            ap (λ (r : GainsAnswer). with_frames out s.stride 0
            (panned_part s.stride 0 s.frames (min r.planes 16) r.gains input)) gains_are
            ∙ (λ i. with_frames out s.stride 0
            (tab 0 (sub-zero s.frames i)
            (λ n. panned (few i) (narrowed_all (gains_of_command s.command s.layout))
            (sample_at input s.stride 0 n))))

        pub plays : (after : List Float) → s.frames ≤ most_frames
            → after ≡ with_frames out s.stride 0
            (panned_part s.stride 0 s.frames (min g.planes 16) g.gains input)
            → PannerPromise s input out (record { refusal = 0; samples = s.frames }) after
        plays after h w = record {
          bits = played_with answer_of s.frames s.stride (frames_panned s input) out refusal after
              (goes ∙ cond_false 5 _ (sym misfit_is ∙ m) ∙ cond_false 6 0 (le-ltb most_frames s.frames h))
              (w ∙ whole);
          words = λ k. G.words accepted;
        }
