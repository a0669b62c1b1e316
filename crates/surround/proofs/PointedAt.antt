-- A voice at the azimuth of a speaker is loudest there, by one computed test over the speakers of both layouts. Assumes
-- nothing.
use Rattle.std.specs.Prelude.{◌≡◌, ◌&&◌, ◌<◌}
use Rattle.lists.specs.Prelude.{refl, sym, ap, ◌∙◌, subst, Bool, true, false, cond, and-eq-true_iff, List, ℕ, arith, T}
use Rattle.lists.specs.Prelude.{eqb}
use Rattle.lists.specs.Tables.{tab, every}
use Rattle.lists.proofs.Tables.{length_tab, get_or_table}
use Rattle.lists.proofs.Every.{every_at}
use Rattle.lists.proofs.Tests.{cond_false}
use Rattle.fractions.specs.Fraction.{whole, square, is_less}
use Rattle.fractions.proofs.Order.{is_same, same_computed}
use Rattle.fractions.proofs.Compare.{less_true}
use Rattle.series.specs.Sums.{cosine_sum, term, power, factorial}
use Rattle.series.specs.Angles.{turned, around, reduced, radians, is_multiple, quarters, defined}
use Rattle.channel.proofs.Counts.{by_surround}
use Rattle.channel.specs.Layouts.{channels_of, low_frequency}
use Rattle.channel.specs.declared.Layout.{Layout}
use Rattle.channel.specs.declared.Layout.TheVariants.{Surround51, Surround71}
use Rattle.surround.specs.Formula.{distance, raw_gain, speaker_at, raw_at}
use Rattle.surround.specs.PointedAt.{Loudest, PointedAt}

-- what every number below n passes
passed : (p : ℕ → Bool) (n c : ℕ) → every p (tab 0 n (λ i. i)) ≡ true → c < n → p c ≡ true
passed p n c t h =
    ap p (sym (get_or_table n (λ i. i) c 0 h))
    ∙ every_at p (tab 0 n (λ i. i)) 0 c t (omega (arith, length_tab 0 n (λ i. i)))

module _ (l : Layout) where
  abbrev channels : List ℕ
  channels = tab 0 (channels_of l) (λ i. i)

  -- of the speaker of channel c, at its own azimuth: it has all, and whatever another has is less
  abbrev full : ℕ → Bool
  full c = is_same (raw_at l (speaker_at l c) c) (whole 1)

  abbrev softer : ℕ → ℕ → Bool
  softer c k = cond (eqb k c) true (is_less (square (raw_at l (speaker_at l c) k)) (whole 1))

  abbrev loudest : ℕ → Bool
  loudest c = cond (low_frequency l c) true (full c && every (softer c) channels)

  says : every loudest channels ≡ true → (c : ℕ) → c < channels_of l → low_frequency l c ≡ false → Loudest l c
  says t c h low =
      let both = (and-eq-true_iff (full c) (every (softer c) channels)).0
      (sym (cond_false true _ low) ∙ passed loudest (channels_of l) c t h) in
      record {
        itself = same_computed _ _ (subst T (sym both.0) tt);
        others = λ k i apart. less_true _ _
            (sym (cond_false true _ apart) ∙ passed (softer c) (channels_of l) k both.1 i);
      }

loudest_51 : every (loudest Surround51) (channels Surround51) ≡ true
unfolding raw_at raw_gain distance defined is_multiple quarters turned reduced around radians cosine_sum term power
    factorial
loudest_51 = refl

loudest_71 : every (loudest Surround71) (channels Surround71) ≡ true
unfolding raw_at raw_gain distance defined is_multiple quarters turned reduced around radians cosine_sum term power
    factorial
loudest_71 = refl

pub pointed_at : PointedAt
pointed_at l e = says l (by_surround (λ (l : Layout). every (loudest l) (channels l) ≡ true) loudest_51 loudest_71 l e)
