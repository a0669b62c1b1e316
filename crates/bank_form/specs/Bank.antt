-- Document 01, 'Filter bank file': "row count 1..8", "azimuth in tenths of a degree, -1799..1800", "L is 1..512", "taps
-- are finite", "2 x rows x L taps". Document 02, E6: "elevation in tenths, -900..900", "pairs of azimuth and elevation
-- must differ, instead of azimuths". Definitions only.
use Rattle.std.specs.Prelude.{◌*◌, ◌&&◌, ◌||◌, ◌∷◌}
use Rattle.lists.specs.Prelude.{ℕ, Bool, true, not, List, [], eqb, Float, binary32, fits, ℤ, pos, negsuc}
use Rattle.std.specs.Float.Ieee.Scale.{finite}
use Rattle.std.proofs.Math.ListN as ListN
use Rattle.std.specs.Int.Signed.{lt_z}
use Rattle.refusals.specs.Ranges.{within, between}
unfoldable pub use Rattle.refusals.specs.Ranges.{is_elevation}
use Rattle.lists.specs.Tables.{every}

-- a bank: an azimuth and an elevation for each row, L, and the taps in file order, for each row those of the left ear
-- and then those of the right
pub record Bank : Type 0 where
  pub azimuths : List ℤ
  pub elevations : List ℤ
  pub length : ℕ
  pub taps : List Float

abbrev pub rows : Bank → ℕ
rows b = ListN.length b.azimuths

-- ---- the pair of a row

pub record Pair : Type 0 where
  pub azimuth : ℤ
  pub elevation : ℤ

unfoldable pub pairs_of : List ℤ → List ℤ → List Pair
pairs_of [] es = []
pairs_of (z ∷ zs) [] = []
pairs_of (z ∷ zs) (e ∷ es) = record { azimuth = z; elevation = e } ∷ pairs_of zs es

abbrev pub pairs : Bank → List Pair
pairs b = pairs_of b.azimuths b.elevations

-- two numbers that are not the same
unfoldable pub unlike : ℤ → ℤ → Bool
unlike a b = lt_z a b || lt_z b a

unfoldable pub differ : Pair → Pair → Bool
differ p q = unlike p.azimuth q.azimuth || unlike p.elevation q.elevation

-- each with each that comes after it
unfoldable pub pairwise : {A : Type 0} → (A → A → Bool) → List A → Bool
pairwise r [] = true
pairwise r (x ∷ xs) = every (r x) xs && pairwise r xs

-- ---- the form

-- -1799 .. 1800
unfoldable pub is_azimuth : ℤ → Bool
is_azimuth z = between (negsuc 1798) (pos 1800) z

-- an f32 that is neither a NaN nor an infinity
unfoldable pub is_tap : Float → Bool
is_tap x = fits binary32 x && finite x

-- whether a bank keeps the form
unfoldable pub valid : Bank → Bool
valid b =
    within 1 8 (rows b) && within 1 512 b.length && eqb (ListN.length b.elevations) (rows b)
    && eqb (ListN.length b.taps) (2 * rows b * b.length)
    && every is_azimuth b.azimuths
    && every is_elevation b.elevations
    && pairwise differ (pairs b)
    && every is_tap b.taps

-- ---- banks without elevations

unfoldable pub is_level : ℤ → Bool
is_level z = not (unlike z (pos 0))

-- "only if every elevation is 0"
abbrev pub level : Bank → Bool
level b = every is_level b.elevations
