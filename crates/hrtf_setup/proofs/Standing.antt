-- Where speakers stand in tenths: from -1800 to 1800, by one test over each table of angles, so that row choice accepts
-- them and an i16 holds them. Assumes nothing.
use Rattle.std.specs.Prelude.{◌≡◌, ◌+◌, ◌*◌, ◌*ℤ◌}
use Rattle.lists.specs.Prelude.{sym, ap, ◌∙◌, subst, true, ℕ, arith, le-leb, T, leb→le, ℤ, pos, negsuc, neg_ℤ, get_or}
use mir.Syntax.{w16, w32}
use mir.Val.{SFits, to_z, of_z}
use mir.Facts.{sfits_widen, to_z-of_z}
use Rattle.channel.specs.Layouts.{positions, degrees_of}
use Rattle.channel.proofs.Tables.{turned, speaker_turned, position_turned, ten_more, tenths_fit_16}
use Rattle.bank_choice.specs.Choice.{in_tenths}
use Rattle.hrtf_setup.specs.declared.Speakers.{Speakers}
use Rattle.hrtf_setup.specs.declared.Speakers.TheVariants.{Of, Virtual}
use Rattle.hrtf_setup.specs.Speakers.{tenths_at}

ten_times : (z : ℤ) → T (turned z) → in_tenths (z *ℤ pos 10) ≡ true
unfolding in_tenths
ten_times (pos n) t = rw (le-leb (n * 10) 1800 (omega (arith, leb→le n 180 t)))
ten_times (negsuc n) t = subst (λ (k : ℕ). in_tenths (neg_ℤ (pos k)) ≡ true) (sym (ten_more n))
    (rw (le-leb (n * 10 + 9) 1799 (omega (arith, leb→le n 179 t))))

pub stands : (k : Speakers) (s : ℕ) → in_tenths (tenths_at k s) ≡ true
stands (Of l) s = ten_times (degrees_of l s) (speaker_turned l s)
stands (Virtual order) s = ten_times (get_or positions s (pos 0)) (position_turned s)

fits_16 : (k : Speakers) (s : ℕ) → SFits w16 (tenths_at k s)
fits_16 (Of l) s = tenths_fit_16 (degrees_of l s) (speaker_turned l s)
fits_16 (Virtual order) s = tenths_fit_16 (get_or positions s (pos 0)) (position_turned s)

-- ---- an i32 of that many tenths, as an i16

module _ (k : Speakers) (s : ℕ) (z : ℤ) (e : z ≡ tenths_at k s) where
  held : to_z w32 (of_z w32 z) ≡ tenths_at k s
  held = ap (λ (y : ℤ). to_z w32 (of_z w32 y)) e
      ∙ to_z-of_z {w = w32} (sfits_widen {w = w16} {w' = w32} tt (fits_16 k s))

  pub cast_fits : SFits w16 (to_z w32 (of_z w32 z))
  cast_fits = subst (SFits w16) (sym held) (fits_16 k s)

  pub cast_is : to_z w16 (of_z w16 (to_z w32 (of_z w32 z))) ≡ tenths_at k s
  cast_is = ap (λ (y : ℤ). to_z w16 (of_z w16 y)) held ∙ to_z-of_z {w = w16} (fits_16 k s)

  -- an i16 that is handed on
  pub held_16 : to_z w16 (of_z w16 z) ≡ tenths_at k s
  held_16 = ap (λ (y : ℤ). to_z w16 (of_z w16 y)) e ∙ to_z-of_z {w = w16} (fits_16 k s)
