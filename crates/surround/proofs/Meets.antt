-- The answers of the program are those promised: refused by 2, by 3, and played. Assumes nothing.
use Rattle.std.specs.Prelude.{◌≡◌, ◌≤◌, ◌<◌, Result, IsOk}
use Rattle.lists.specs.Prelude.{sym, ap, ◌∙◌, subst, Bool, true, false, not, List, ℕ, arith, not-false, lit<, get_or}
use Rattle.lists.specs.Prelude.{Float, binary64, of_int, T}
use lib.Ieee.Positive.{positive}
use Rattle.refusals.specs.declared.Refusal.{Refusal}
use Rattle.refusals.specs.Numbers.{told}
use Rattle.refusals.proofs.Numbers.{accepted_ok}
use Rattle.numbers.specs.Promise.{RootPromise}
use Rattle.formats.specs.Floats.{zero_float}
use Rattle.refusals.proofs.First.{not_accepted, answered_accepted, answered_by_lem}
use Rattle.lists.proofs.Tests.{cond_true, cond_false}
use Rattle.numbers.specs.Computed.{root_of, root_answer}
use Rattle.numbers.specs.Computed.{Rooted}
use Rattle.numbers.proofs.RootAnswer.{root_value}
use Rattle.channel.specs.Layouts.{channels_of, surround, layout_channels}
use Rattle.channel.specs.declared.Layout.{Layout}
use Rattle.channel.specs.Layouts.{CountTold}
use Rattle.channel.proofs.Counts.{surround_counted, surround_few}
use Rattle.harmonics.specs.Promise.{refuses_azimuth, silent_gains}
use Rattle.harmonics.proofs.Laws.{azimuth_number, azimuth_size}
use Rattle.surround.specs.Promise.{SurroundGains}
use Rattle.surround.specs.Computed.{raw_gains, sum_of, divided_by}
use Rattle.surround.specs.Promise.{refusal_of, surround_gains, SurroundWords, SurroundPromise}
use Rattle.surround.proofs.Gains.{gains, sum_above_zero}

-- b is whether the layout is one that is offered
module _ (l : Layout) (a : Float) (b : Bool) (s : b ≡ surround l) where
  abbrev accepting : List Float → SurroundGains
  accepting g = record { refusal = 0; gains = g }

  abbrev refusing : ℕ → SurroundGains
  refusing n = record { refusal = n; gains = silent_gains }

  refuses : (n : ℕ) (r : SurroundGains) → 0 < n → refusal_of l a ≡ n → r ≡ refusing n → SurroundPromise l a r
  refuses n r o h e = record {
    bits = e ∙ answered_by_lem (accepting (surround_gains l a)) refusing (refusal_of l a) n o h;
    words = λ k. absurd (not_accepted n o h k);
  }

  pub no_layout : (r : SurroundGains) → not b ≡ true → r ≡ record { refusal = 2; gains = silent_gains }
      → SurroundPromise l a r
  no_layout r h e = refuses 2 r (lit< tt) (cond_true 2 _ (ap not (sym s) ∙ h)) e

  pub no_azimuth : (r : SurroundGains) → not b ≡ false → refuses_azimuth a ≡ true
      → r ≡ record { refusal = 3; gains = silent_gains } → SurroundPromise l a r
  no_azimuth r h i e = refuses 3 r (lit< tt) (cond_false 2 _ (ap not (sym s) ∙ h) ∙ cond_true 3 0 i) e

  -- n channels, their raw gains, and the sum of their squares, which has a root
  pub sum_rooted : (n : ℕ) (raw : List Float) (x : Float) (r : Result Float Refusal) → not b ≡ false
      → refuses_azimuth a ≡ false → n ≡ (layout_channels l).channels → raw ≡ raw_gains l a n → x ≡ sum_of n raw
      → RootPromise x (told zero_float r) → IsOk r
  sum_rooted n raw x r h i en er es p =
      let surrounds = sym s ∙ not-false b h in
      let count = en ∙ surround_counted l surrounds in
      let sum_is = es ∙ (λ j. sum_of (count j) ((er ∙ ap (raw_gains l a) count) j)) in
      accepted_ok r (p.words.nearest (subst (λ (y : Float). T (positive y)) (sym sum_is)
      (sum_above_zero l a surrounds (azimuth_number a i) (azimuth_size a i)))).0

  -- and with that root
  pub plays : (n : ℕ) (raw : List Float) (x : Float) (r : Rooted) (g : List Float) → not b ≡ false
      → refuses_azimuth a ≡ false → n ≡ (layout_channels l).channels → raw ≡ raw_gains l a n → x ≡ sum_of n raw
      → r ≡ root_answer x → g ≡ divided_by r.value raw → SurroundPromise l a (record { refusal = 0; gains = g })
  unfolding surround_gains of_int
  plays n raw x r g h i en er es eo eg =
      let surrounds = sym s ∙ not-false b h in
      let count = en ∙ surround_counted l surrounds in
      let accepted : refusal_of l a ≡ 0 = cond_false 2 _ (ap not surrounds) ∙ cond_false 3 0 i in
      let raw_is : raw ≡ raw_gains l a (channels_of l) = er ∙ ap (raw_gains l a) count in
      let root_is : r.value ≡ root_of binary64 (sum_of (channels_of l) (raw_gains l a (channels_of l))) =
      ap (λ (y : Rooted). y.value) eo ∙ root_value x
      ∙ ap (root_of binary64) (es ∙ (λ j. sum_of (count j) (raw_is j))) in
      let gains_are : g ≡ surround_gains l a = eg ∙ (λ j. divided_by (root_is j) (raw_is j)) in
      record {
        bits = ap accepting gains_are
            ∙ sym (answered_accepted (accepting (surround_gains l a)) refusing (refusal_of l a) accepted);
        words = λ k. subst (λ (y : List Float). SurroundWords l a (λ c. get_or y c zero_float)) (sym gains_are)
            (gains l a surrounds (azimuth_number a i) (azimuth_size a i));
      }

-- how many channels there are to go over
pub few_counted : (l : Layout) (b : Bool) (k : CountTold) → b ≡ surround l → not b ≡ false → k ≡ layout_channels l
    → k.channels ≤ 16
few_counted l b k e h c = let s = sym e ∙ not-false b h in
    omega (arith, ap (λ (x : CountTold). x.channels) c ∙ surround_counted l s, (surround_few l s).1)
