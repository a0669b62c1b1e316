-- Answers of another shape than the code's, each of which a worked input shows to break its promise. Assumes nothing.
use Rattle.std.specs.Prelude.{◌≡◌, ◌∷◌, ◌≤◌}
use Rattle.lists.specs.Prelude.{ap, [], ℕ, min, arith, pos}
use lib.Signed.{mag}
use Rattle.big_endian.specs.Bytes.{value_of}
use Rattle.big_endian.specs.Fields.{field_at, signed_at}
use Rattle.bank_form.specs.Version.{elevation_size, elevation_at, row_size, largest_row}

-- an elevation has two bytes in every version, or none
always_two : (2 ≡ elevation_size 1) × (◌≤◌ 2 2) → ⊥
always_two h = omega (arith, h.0)

never_any : (0 ≡ elevation_size 2) × (◌≤◌ 0 2) → ⊥
never_any h = omega (arith, h.0)

-- a row has the taps of one ear, or no elevation
one_ear : (8 ≡ row_size 2 (min 1 512)) × (8 ≤ largest_row) → ⊥
one_ear h = omega (arith, h.0)

version_1_for_2 : (10 ≡ row_size 2 (min 1 512)) × (10 ≤ largest_row) → ⊥
version_1_for_2 h = omega (arith, h.0)

-- the bytes behind an azimuth are read as an elevation in version 1, and the azimuth for it in version 2: here 7 stands
-- in the second field, and then in the first
behind_the_azimuth : pos 7 ≡ elevation_at 1 (0 ∷ 0 ∷ 0 ∷ 7 ∷ []) 0 → ⊥
unfolding elevation_at
behind_the_azimuth e = let z : ◌≡◌ {A = ℕ} 7 0 = ap mag e in omega arith

the_azimuth_itself : pos 7 ≡ elevation_at 2 (0 ∷ 7 ∷ 0 ∷ 0 ∷ []) 0 → ⊥
unfolding elevation_at signed_at field_at value_of
the_azimuth_itself e = let z : ◌≡◌ {A = ℕ} 7 0 = ap mag e in omega arith
