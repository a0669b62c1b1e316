-- The tables of angles: every entry lies from -180 to 180, by one test over each table, so that an entry and ten times
-- an entry are i32s. Assumes nothing.
use Rattle.std.specs.Prelude.{◌≡◌, ◌+◌, ◌*◌, ◌*ℤ◌}
use Rattle.lists.specs.Prelude.{refl, sym, ap, subst, Bool, cond, List, ℕ, suc, arith, leb-true, T}
use Rattle.lists.specs.Prelude.{leb, leb→le, ℤ, pos, negsuc, neg_ℤ, length, get_or-eq_default, of_int}
use mir.Syntax.{w16, w32}
use mir.Val.{SFits, to_z, of_z}
use mir.Facts.{sfits_widen, to_z-of_z}
use Rattle.lists.specs.Tables.{every}
use Rattle.lists.proofs.Every.{every_holds}
use Rattle.lists.proofs.Tests.{by_test}
use Rattle.refusals.specs.Refusals.{answered}
use Rattle.formats.specs.Floats.{zero_float, float}
use Rattle.channel.specs.Layouts.{speakers, positions, degrees_at, missing, degrees_of}
use Rattle.channel.specs.declared.Layout.{Layout}
use Rattle.channel.specs.declared.Layout.TheVariants.{Mono, Stereo, Surround51, Surround71, Custom}
use Rattle.channel.specs.Layouts.{Angle}
use Rattle.channel.specs.Layouts.{Tenths}

-- from -180 to 180
abbrev pub turned : ℤ → Bool
turned (pos n) = leb n 180
turned (negsuc n) = leb n 179

turned_at : (zs : List ℤ) → T (every turned zs) → (i : ℕ) → T (turned (degrees_at zs i))
turned_at zs = every_holds turned zs (pos 0) tt

pub speaker_turned : (l : Layout) (i : ℕ) → T (turned (degrees_of l i))
speaker_turned Mono i = turned_at (speakers Mono) tt i
speaker_turned Stereo i = turned_at (speakers Stereo) tt i
speaker_turned Surround51 i = turned_at (speakers Surround51) tt i
speaker_turned Surround71 i = turned_at (speakers Surround71) tt i
speaker_turned (Custom n) i = tt

pub position_turned : (i : ℕ) → T (turned (degrees_at positions i))
position_turned i = turned_at positions tt i

-- ---- such a number is an i32, and ten times it an i16
fits : (z : ℤ) → T (turned z) → SFits w32 z
fits (pos n) t = record { sfits = omega (arith, leb→le n 180 t) }
fits (negsuc n) t = record { sfits = omega (arith, leb→le n 179 t) }

pub ten_more : (n : ℕ) → suc n * 10 ≡ suc (n * 10 + 9)
ten_more n = omega arith

pub tenths_fit_16 : (z : ℤ) → T (turned z) → SFits w16 (z *ℤ pos 10)
tenths_fit_16 (pos n) t = record { sfits = omega (arith, leb→le n 180 t) }
tenths_fit_16 (negsuc n) t =
    subst (λ (k : ℕ). SFits w16 (neg_ℤ (pos k))) (sym (ten_more n)) record { sfits = omega (arith, leb→le n 179 t) }

tenths_fit : (z : ℤ) → T (turned z) → SFits w32 (z *ℤ pos 10)
tenths_fit z t = sfits_widen {w = w16} {w' = w32} tt (tenths_fit_16 z t)

back : (z : ℤ) → T (turned z) → to_z w32 (of_z w32 z) ≡ z
back z t = to_z-of_z {w = w32} (fits z t)

-- ---- what a table gives at a place
module _ (table : List ℤ) (i : ℕ) where
  -- ---- what is answered is made of the entry, since beyond the end of a table its entry is 0
  abbrev degrees_answered : Angle
  degrees_answered = answered (missing table i) (record { refusal = 0; degrees = float (degrees_at table i) })
      (λ n. record { refusal = n; degrees = zero_float })

  abbrev tenths_answered : Tenths
  tenths_answered = answered (missing table i) (record { refusal = 0; tenths = degrees_at table i *ℤ pos 10 })
      (λ n. record { refusal = n; tenths = pos 0 })

  entry_answered : {A : Type 0} (made : ℕ → ℤ → A) → answered (missing table i) (made 0 (degrees_at table i))
      (λ n. made n (pos 0)) ≡ made (missing table i) (degrees_at table i)
  entry_answered {A} made =
      by_test (λ (b : Bool). answered (cond b 2 0) (made 0 (degrees_at table i)) (λ n. made n (pos 0))
      ≡ made (cond b 2 0) (degrees_at table i)) (leb (length table) i)
      (λ h. ap (made 2) (sym (get_or-eq_default table (pos 0) (leb-true (length table) i h)))) (λ h. refl)

  pub degrees_answered_lem : degrees_answered
      ≡ record { refusal = missing table i; degrees = float (degrees_at table i) }
  unfolding of_int
  degrees_answered_lem = entry_answered (λ n z. record { refusal = n; degrees = float z })

  pub tenths_answered_lem : tenths_answered
      ≡ record { refusal = missing table i; tenths = degrees_at table i *ℤ pos 10 }
  tenths_answered_lem = entry_answered (λ n z. record { refusal = n; tenths = z *ℤ pos 10 })
