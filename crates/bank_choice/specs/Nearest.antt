-- Which row is the nearest. Document 01, 'Filter bank file': ".. takes .. the one nearest it by the difference modulo
-- 3600, the shorter way round; on a tie the earlier row." Document 02, E6: "Row choice becomes least elevation
-- distance, then the shorter way round, then the earlier row." Definitions only.
use Rattle.std.specs.Prelude.{◌≡◌, ◌⊎◌, ◌-◌, ◌%◌, ◌≤◌, ◌<◌, ◌-ℤ◌}
use Rattle.lists.specs.Prelude.{List, ℕ, min, ℤ, pos, nat_abs, get_or}

-- the difference modulo 3600, the shorter way round
unfoldable pub angle_apart : ℤ → ℤ → ℕ
angle_apart a b = min (nat_abs (a -ℤ b) % 3600) (3600 - nat_abs (a -ℤ b) % 3600)

-- how far row j of a list of azimuths is from a speaker at azimuth p
abbrev pub away : List ℤ → ℤ → ℕ → ℕ
away zs p j = angle_apart (get_or zs j (pos 0)) p

-- elevation distance: the plain difference, which has no shorter way round, of row j of a list of elevations and a
-- speaker at elevation q
unfoldable pub elevation_away : List ℤ → ℤ → ℕ → ℕ
elevation_away es q j = nat_abs (get_or es j (pos 0) -ℤ q)

-- "least elevation distance, then the shorter way round": row a is nearer than row b to a speaker at azimuth p and
-- elevation q
abbrev pub Nearer : List ℤ → List ℤ → ℤ → ℤ → ℕ → ℕ → Type 0
Nearer zs es p q a b = (elevation_away es q a < elevation_away es q b)
    ⊎ ((elevation_away es q a ≡ elevation_away es q b) × (away zs p a < away zs p b))

-- row r is the one that the speaker takes among the first n: none is nearer, and each that comes before it is farther
pub record Takes (zs es : List ℤ) (n : ℕ) (p q : ℤ) (r : ℕ) : Type 0 where
  pub among : r < n
  pub nearest : (j : ℕ) → j < n → Nearer zs es p q j r → ⊥
  pub earliest : (j : ℕ) → j < r → Nearer zs es p q r j

-- document 01's choice, by azimuths alone: none is nearer by the shorter way round, and each that comes before it is
-- farther
pub record TakesByAzimuth (zs : List ℤ) (n : ℕ) (p : ℤ) (r : ℕ) : Type 0 where
  pub among : r < n
  pub nearest : (j : ℕ) → j < n → away zs p r ≤ away zs p j
  pub earliest : (j : ℕ) → j < r → away zs p r < away zs p j

-- the first n rows stand at one elevation
abbrev pub OneElevation : List ℤ → ℕ → Type 0
OneElevation es n = (i j : ℕ) → i < n → j < n → get_or es i (pos 0) ≡ get_or es j (pos 0)
