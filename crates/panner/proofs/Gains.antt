-- The gains of a command are those of the crate that computes them, and its refusal is theirs, in the panner's order.
-- Assumes nothing.
use Rattle.std.specs.Prelude.{◌≡◌, ◌∷◌, ◌≤◌, ◌<◌, Err}
use Rattle.lists.specs.Prelude.{refl, sym, ap, ◌∙◌, subst, Bool, true, false, false≢true, not, cond, ℕ, arith}
use Rattle.lists.specs.Prelude.{not-false, lit<, lit≤, replicate, Float}
use Rattle.refusals.specs.Numbers.{number_of}
use Rattle.refusals.specs.declared.Refusal.{Refusal}
use Rattle.refusals.proofs.Numbers.{number_above}
use Rattle.refusals.proofs.First.{passed, not_accepted, answered_number}
use Rattle.lists.proofs.Tests.{cond_true, cond_false}
use Rattle.channel.specs.Layouts.{channels_of, surround, channels_answer, layout_channels}
use Rattle.channel.specs.Orders.{refuses_order, channels_of_order, counted_order}
use Rattle.channel.proofs.Counts.{layout_refused as layout_why, surround_counted, surround_few}
use Rattle.channel.proofs.Orders.{few_channels, order_refused as order_why}
use Rattle.channel.specs.declared.Layout.{Layout}
use Rattle.channel.specs.Layouts.{CountTold, count_told}
use Rattle.channel.specs.declared.Layout.TheVariants.{Mono, Stereo, Surround51, Surround71, Custom}
use Rattle.stereo.specs.Promise as Stereo
use Rattle.stereo.specs.Promise.{StereoAnswer}
use Rattle.surround.specs.Promise as Surround
use Rattle.formats.specs.Floats.{zero_float}
use Rattle.surround.specs.Promise.{SurroundGains}
use Rattle.surround.proofs.Laws as SurroundLaws
use Rattle.harmonics.specs.Promise as Harmonics
use Rattle.harmonics.specs.declared.Direction.{Direction}
use Rattle.harmonics.specs.Promise.{Coefficients}
use Rattle.harmonics.proofs.Laws.{refusal_is}
use Rattle.panner.specs.declared.Command.{Command}
use Rattle.panner.specs.declared.Command.TheVariants.{Stereo, Surround, Ambisonic}
use Rattle.panner.specs.Commands.{order_refused, layout_refused, planes_of}
use Rattle.panner.specs.Computed.{CommandAnswer, commanded, is_bad_layout, command_refusal, CommandComputed}

-- ---- a refusal
pub refused : (c : Command) (l : Layout) (g : CommandAnswer) (n : ℕ) → 0 < n → g.refusal ≡ n → command_refusal c l ≡ n
    → CommandComputed c l g
refused c l g n o r e = record {
  refusal = r ∙ sym e;
  planes = λ k. absurd (not_accepted n o e k);
  gains = λ k. absurd (not_accepted n o e k);
  promised = λ k. absurd (not_accepted n o e k);
}

-- a test that alone is left gives its 3 where there is a refusal
three : (r : Bool) (n : ℕ) → n ≡ cond r 3 0 → (n ≡ 0 → ⊥) → ◌≡◌ {A = ℕ} (cond r 3 0) 3
three true n e h = refl
three false n e h = absurd (h e)

-- ---- a count that is refused: of a layout, which is a Custom of 0 or above 16, and of an order
layout_err : (l : Layout) (r : Refusal) → count_told (Err r) ≡ layout_channels l
    → (number_of r ≡ 2) × (is_bad_layout l ≡ true)
layout_err l r e = let why = layout_why l r e in (ap number_of why.1, why.0)

order_err : (n : ℕ) (r : Refusal) → count_told (Err r) ≡ counted_order n → (number_of r ≡ 1) × (refuses_order n ≡ true)
order_err n r e = let why = order_why n r e in (ap number_of why.1, why.0)

-- such a layout does not surround
unsurrounded : (l : Layout) → is_bad_layout l ≡ true → surround l ≡ false
unsurrounded Mono b = refl
unsurrounded Stereo b = refl
unsurrounded Surround51 b = absurd (false≢true b)
unsurrounded Surround71 b = absurd (false≢true b)
unsurrounded (Custom n) b = refl

-- ---- a stereo position
module _ (l : Layout) (p : Float) (s : StereoAnswer) (h : Stereo.StereoPromise p s) where
  stereo_refusal : s.refusal ≡ cond (Stereo.is_refused p) 3 0
  unfolding Stereo.outcome
  stereo_refusal = ap (λ (x : StereoAnswer). x.refusal) h.bits
      ∙ answered_number (Stereo.played p) Stereo.refused (λ (x : StereoAnswer). x.refusal) refl (Stereo.refusal_of p)
      refl

  stereo_number : (s.refusal ≡ 0 → ⊥) → s.refusal ≡ 3
  stereo_number n = stereo_refusal ∙ three (Stereo.is_refused p) s.refusal stereo_refusal n

  stereo_refused : is_bad_layout l ≡ false → (s.refusal ≡ 0 → ⊥) → command_refusal (Stereo p) l ≡ 3
  stereo_refused b n = cond_false 2 _ b ∙ three (Stereo.is_refused p) s.refusal stereo_refusal n

  pub stereo_accepted : (g : CommandAnswer) → is_bad_layout l ≡ false → s.refusal ≡ 0
      → g ≡ record { refusal = 0; planes = 2; gains = s.left ∷ s.right ∷ replicate 14 zero_float }
      → CommandComputed (Stereo p) l g
  stereo_accepted g b z e = record {
    refusal = ap (λ (x : CommandAnswer). x.refusal) e ∙ sym (cond_false 2 _ b ∙ sym stereo_refusal ∙ z);
    planes = λ k. ap (λ (x : CommandAnswer). x.planes) e;
    gains = λ k. ap (λ (x : CommandAnswer). x.gains) e
        ∙ ap (λ (x : StereoAnswer). x.left ∷ x.right ∷ replicate 14 zero_float) h.bits;
    promised = λ k. subst (Stereo.StereoPromise p)
        (λ i. record { refusal = z i; left = (h.bits i).left; right = (h.bits i).right }) h;
  }

pub stereo_by_layout : (l : Layout) (p : Float) (r : Refusal) → count_told (Err r) ≡ layout_channels l
    → CommandComputed (Stereo p) l (commanded (Err r))
stereo_by_layout l p r e =
    let b = layout_err l r e in refused (Stereo p) l (commanded (Err r)) 2 (lit< tt) b.0 (cond_true 2 _ b.1)

pub stereo_by_position : (l : Layout) (p : Float) (r : Refusal) → is_bad_layout l ≡ false
    → Stereo.StereoPromise p (Stereo.steered (Err r)) → CommandComputed (Stereo p) l (commanded (Err r))
stereo_by_position l p r b h =
    let n = not_accepted (number_of r) (number_above r) refl in
    refused (Stereo p) l (commanded (Err r)) 3 (lit< tt) (stereo_number l p (Stereo.steered (Err r)) h n)
    (stereo_refused l p (Stereo.steered (Err r)) h b n)

-- ---- a surround azimuth
module _ (l : Layout) (a : Float) (s : SurroundGains) (h : Surround.SurroundPromise l a s) where
  surround_refusal : s.refusal ≡ command_refusal (Surround a) l
  surround_refusal = ap (λ (x : SurroundGains). x.refusal) h.bits ∙ SurroundLaws.refusal_is l a

  offered : s.refusal ≡ 0 → surround l ≡ true
  offered z = not-false (surround l) (passed (not (surround l)) 1 _ (sym surround_refusal ∙ z)).0

  pub surround_accepted : (g : CommandAnswer) (k : CountTold) → k ≡ layout_channels l → s.refusal ≡ 0
      → g ≡ record { refusal = 0; planes = k.channels; gains = s.gains } → CommandComputed (Surround a) l g
  surround_accepted g k n z e =
      let o = offered z in
      let count : g.planes ≡ channels_of l = ap (λ (x : CommandAnswer). x.planes) e
      ∙ ap (λ (x : CountTold). x.channels) n
      ∙ surround_counted l o in
      record {
        refusal = ap (λ (x : CommandAnswer). x.refusal) e ∙ sym (sym surround_refusal ∙ z);
        planes = λ k. count;
        gains = λ k. ap (λ (x : CommandAnswer). x.gains) e ∙ ap (λ (x : SurroundGains). x.gains) h.bits;
        promised = λ k. subst (Surround.SurroundPromise l a) (λ i. record { refusal = z i; gains = (h.bits i).gains })
            h;
      }

pub surround_by_layout : (l : Layout) (a : Float) (r : Refusal) → count_told (Err r) ≡ layout_channels l
    → CommandComputed (Surround a) l (commanded (Err r))
surround_by_layout l a r e =
    let b = layout_err l r e in
    refused (Surround a) l (commanded (Err r)) 2 (lit< tt) b.0 (cond_true 2 _ (ap not (unsurrounded l b.1)))

pub surround_by_azimuth : (l : Layout) (a : Float) (r : Refusal)
    → Surround.SurroundPromise l a (Harmonics.coefficients (Err r)) → CommandComputed (Surround a) l (commanded (Err r))
surround_by_azimuth l a r h = refused (Surround a) l (commanded (Err r)) (number_of r) (number_above r) refl
    (sym (surround_refusal l a (Harmonics.coefficients (Err r)) h))

-- ---- a direction with an order
module _ (l : Layout) (d : Direction) (n : ℕ) where
  order_refused_lem : refuses_order n ≡ true → command_refusal (Ambisonic d n) l ≡ 1
  order_refused_lem o = cond_true 1 _ o

  layout_refused_lem : refuses_order n ≡ false → is_bad_layout l ≡ true → command_refusal (Ambisonic d n) l ≡ 2
  layout_refused_lem o b = cond_false 1 _ o ∙ cond_true 2 _ b

  module _ (s : Coefficients) (h : Harmonics.HarmonicsPromise n d s) (o : refuses_order n ≡ false)
      (b : is_bad_layout l ≡ false) where
    direction_is : s.refusal ≡ cond (Harmonics.refuses_direction d) 3 0
    direction_is = refusal_is n d s h ∙ cond_false 1 _ o

    command_is : command_refusal (Ambisonic d n) l ≡ cond (Harmonics.refuses_direction d) 3 0
    command_is = cond_false 1 _ o ∙ cond_false 2 _ b

    direction_number : (s.refusal ≡ 0 → ⊥) → s.refusal ≡ 3
    direction_number k = direction_is ∙ three (Harmonics.refuses_direction d) s.refusal direction_is k

    direction_refused : (s.refusal ≡ 0 → ⊥) → command_refusal (Ambisonic d n) l ≡ 3
    direction_refused k = command_is ∙ three (Harmonics.refuses_direction d) s.refusal direction_is k

    pub ambisonic_accepted : (g : CommandAnswer) → s.refusal ≡ 0
        → g ≡ record { refusal = 0; planes = channels_of_order n; gains = s.gains }
        → CommandComputed (Ambisonic d n) l g
    ambisonic_accepted g z e = record {
      refusal = ap (λ (x : CommandAnswer). x.refusal) e ∙ sym (command_is ∙ sym direction_is ∙ z);
      planes = λ k. ap (λ (x : CommandAnswer). x.planes) e;
      gains = λ k. ap (λ (x : CommandAnswer). x.gains) e ∙ ap (λ (x : Coefficients). x.gains) h.bits;
      promised = λ k. subst (Harmonics.HarmonicsPromise n d) (λ i. record { refusal = z i; gains = (h.bits i).gains })
          h;
    }

module _ (l : Layout) (d : Direction) (n : ℕ) where
  pub ambisonic_by_order : (r : Refusal) → count_told (Err r) ≡ counted_order n
      → CommandComputed (Ambisonic d n) l (commanded (Err r))
  ambisonic_by_order r e =
      let b = order_err n r e in
      refused (Ambisonic d n) l (commanded (Err r)) 1 (lit< tt) b.0 (order_refused_lem l d n b.1)

  pub ambisonic_by_layout : (r : Refusal) → refuses_order n ≡ false → count_told (Err r) ≡ layout_channels l
      → CommandComputed (Ambisonic d n) l (commanded (Err r))
  ambisonic_by_layout r o e =
      let b = layout_err l r e in
      refused (Ambisonic d n) l (commanded (Err r)) 2 (lit< tt) b.0 (layout_refused_lem l d n o b.1)

  pub ambisonic_by_direction : (r : Refusal) → Harmonics.HarmonicsPromise n d (Harmonics.coefficients (Err r))
      → refuses_order n ≡ false → is_bad_layout l ≡ false → CommandComputed (Ambisonic d n) l (commanded (Err r))
  ambisonic_by_direction r h o b =
      let k = not_accepted (number_of r) (number_above r) refl in
      let s = Harmonics.coefficients (Err r) in
      refused (Ambisonic d n) l (commanded (Err r)) 3 (lit< tt) (direction_number l d n s h o b k)
      (direction_refused l d n s h o b k)

-- ---- at most sixteen planes
pub planes_most : (c : Command) (l : Layout) → order_refused c ≡ false → layout_refused c l ≡ false → planes_of c l ≤ 16
planes_most (Stereo p) l o b = lit≤ tt
planes_most (Surround a) l o b = omega (arith, (surround_few l (not-false (surround l) b)).1)
planes_most (Ambisonic d n) l o b = (few_channels n o).1
