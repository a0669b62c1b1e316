-- What tests on two signed numbers say of two pairs, and how pairs are made of two lists. Assumes nothing.
use Rattle.std.specs.Prelude.{◌≡◌, ◌||◌, ◌∷◌, ◌+◌, ◌<◌}
use Rattle.lists.specs.Prelude.{refl, sym, ap, ◌∙◌, true, false, not, or-true, true≢false, List, [], map, ℕ, zero, suc}
use Rattle.lists.specs.Prelude.{le_refl, le_of_suc-le-suc, dec_lt, ℕ_discrete, lt_of_le_of_ne, arith, lt-ltb, le-ltb}
use Rattle.lists.specs.Prelude.{ltb, ℤ, pos, negsuc, length, get_or}
use lib.Signed.{mag, lt_z}
use Rattle.big_endian.specs.Lists.{strided}
use Rattle.big_endian.proofs.Lists.{strided_none, strided_more}
use Rattle.bank_form.specs.Bank.{Pair, pairs_of, unlike, differ, is_level}

-- ---- two numbers

unlike_same : (z : ℤ) → unlike z z ≡ false
unfolding unlike
unlike_same (pos n) = rw (le-ltb n n (le_refl n))
unlike_same (negsuc n) = rw (le-ltb n n (le_refl n))

one_less : (m n : ℕ) → (m ≡ n → ⊥) → (ltb m n || ltb n m) ≡ true
one_less m n h =
    elim (dec_lt m n) [
      | yes k ↦ rw (lt-ltb m n k)
      | no k ↦ rw (le-ltb m n (omega arith), lt-ltb n m (lt_of_le_of_ne (omega arith) (λ e. h (sym e))))
    ]

unlike_other : (y z : ℤ) → (y ≡ z → ⊥) → unlike y z ≡ true
unfolding unlike
unlike_other (pos m) (pos n) h = one_less m n (λ e. h (ap pos e))
unlike_other (pos m) (negsuc n) h = refl
unlike_other (negsuc m) (pos n) h = refl
unlike_other (negsuc m) (negsuc n) h = one_less n m (λ e. h (ap negsuc (sym e)))

-- ---- an elevation of 0

pub level_zero : is_level (pos 0) ≡ true
unfolding is_level
level_zero = ap not (unlike_same (pos 0))

pub level_other : (z : ℤ) → (z ≡ pos 0 → ⊥) → is_level z ≡ false
unfolding is_level
level_other z h = ap not (unlike_other z (pos 0) h)

pub level_is : (z : ℤ) → is_level z ≡ true → z ≡ pos 0
level_is (pos n) h =
    elim (ℕ_discrete n 0) [
      | yes e ↦ ap pos e
      | no k ↦ absurd (true≢false (sym h ∙ level_other (pos n) (λ e. k (ap mag e))))
    ]
level_is (negsuc n) h = absurd (true≢false (sym h ∙ level_other (negsuc n) not_zero))
  where
    not_zero : negsuc n ≡ pos 0 → ⊥
    not_zero e = true≢false (ap (λ (z : ℤ). lt_z z (pos 0)) e)

-- ---- two pairs

pub differ_same : (p q : Pair) → p.azimuth ≡ q.azimuth → p.elevation ≡ q.elevation → differ p q ≡ false
unfolding differ
differ_same p q e f = rw (e, f, unlike_same q.azimuth, unlike_same q.elevation)

pub differ_azimuth : (p q : Pair) → (p.azimuth ≡ q.azimuth → ⊥) → differ p q ≡ true
unfolding differ
differ_azimuth p q h = rw (unlike_other p.azimuth q.azimuth h)

pub differ_elevation : (p q : Pair) → (p.elevation ≡ q.elevation → ⊥) → differ p q ≡ true
unfolding differ
differ_elevation p q h = rw (unlike_other p.elevation q.elevation h) (or-true (unlike p.azimuth q.azimuth))

-- ---- pairs of two lists

pub length_pairs : (zs es : List ℤ) → length es ≡ length zs → length (pairs_of zs es) ≡ length zs
unfolding pairs_of
length_pairs [] es h = refl
length_pairs (z ∷ zs) [] h = absurd (omega (arith, h))
length_pairs (z ∷ zs) (e ∷ es) h = ap suc (length_pairs zs es (omega (arith, h)))

-- the two lists again
pub azimuths_of : (zs es : List ℤ) → length es ≡ length zs → map (λ (p : Pair). p.azimuth) (pairs_of zs es) ≡ zs
unfolding pairs_of
azimuths_of [] es h = refl
azimuths_of (z ∷ zs) [] h = absurd (omega (arith, h))
azimuths_of (z ∷ zs) (e ∷ es) h = ap (λ (ys : List ℤ). z ∷ ys) (azimuths_of zs es (omega (arith, h)))

pub elevations_of : (zs es : List ℤ) → length es ≡ length zs → map (λ (p : Pair). p.elevation) (pairs_of zs es) ≡ es
unfolding pairs_of
elevations_of [] [] h = refl
elevations_of [] (e ∷ es) h = absurd (omega (arith, h))
elevations_of (z ∷ zs) [] h = absurd (omega (arith, h))
elevations_of (z ∷ zs) (e ∷ es) h = ap (λ (ys : List ℤ). e ∷ ys) (elevations_of zs es (omega (arith, h)))

-- of one row
pub pair_of : (zs es : List ℤ) (i : ℕ) (d : Pair) → i < length zs → i < length es
    → get_or (pairs_of zs es) i d ≡ record { azimuth = get_or zs i (pos 0); elevation = get_or es i (pos 0) }
unfolding pairs_of
pair_of [] es i d h g = absurd (omega (arith, h))
pair_of (z ∷ zs) [] i d h g = absurd (omega (arith, g))
pair_of (z ∷ zs) (e ∷ es) zero d h g = refl
pair_of (z ∷ zs) (e ∷ es) (suc i) d h g = pair_of zs es i d (le_of_suc-le-suc h) (le_of_suc-le-suc g)

-- of fields that stand a stride apart
module _ (f g : ℕ → ℤ) (w : ℕ) where
  abbrev both : ℕ → Pair
  both p = record { azimuth = f p; elevation = g p }

  pub pairs_strided : (at n : ℕ) → pairs_of (strided f w at n) (strided g w at n) ≡ strided both w at n
  unfolding pairs_of
  pairs_strided at zero = rw (strided_none f w at) (sym (strided_none both w at))
  pairs_strided at (suc n) =
      rw (strided_more f w at n, strided_more g w at n, pairs_strided (at + w) n) (sym (strided_more both w at n))
