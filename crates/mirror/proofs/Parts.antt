-- The first two parts of a sum may be exchanged (`total_exchanged`), and a later pair where one of it is 0.0, or the
-- sum before it is (`next_pair`, `parts_exchanged`). Assumes nothing.
use Rattle.std.specs.Prelude.{◌≡◌, ◌⊎◌, ◌∷◌}
use Rattle.lists.specs.Prelude.{refl, sym, ap, ◌∙◌, inl, inr, List, [], ℕ, zero, suc, Float, nan, binary64, add}
use lib.Ieee.Fits.{nan-fits, add-fits}
use Rattle.lists.specs.Tables.{tab}
use Rattle.lists.specs.ForAll.{ForAll}
use Rattle.formats.specs.Floats.{Held, zero_float}
use Rattle.formats.specs.Zeros.{unsigned_zero}
use Rattle.formats.proofs.Exchanged.{add_exchanged}
use Rattle.formats.proofs.Zeros.{Unsigned, unsigned_twice, add_unsigned, sum_unsigned}
use Rattle.formats.proofs.Added.{held_and_zero, zero_and}
use Rattle.planes.specs.Sums.{total}
use Rattle.planes.proofs.Zeros.{zero_held, zero_unsigned, total_held, sum_stays}
use Rattle.mirror.specs.Parts.{OneZero, Settled, SameAcross, PartsExchanged}

-- ---- the first two

pub total_exchanged : (x y : Float) (rest : List Float) → Held x → Held y
    → total zero_float (x ∷ y ∷ rest) ≡ total zero_float (y ∷ x ∷ rest)
total_exchanged x y rest h k =
    ap (λ (a : Float). total a rest)
    (ap (λ (a : Float). add binary64 a y) (zero_and binary64 x h)
    ∙ add_unsigned binary64 (unsigned_zero x) y (unsigned_twice x)
    ∙ add_exchanged binary64 (unsigned_zero x) (unsigned_zero y)
    ∙ sym (add_unsigned binary64 (unsigned_zero y) x (unsigned_twice y))
    ∙ sym (ap (λ (a : Float). add binary64 a x) (zero_and binary64 y k)))

-- ---- later ones

-- 0.0 may come before or after what is added to a number that is no -0.0
zero_exchanged : (b x y : Float) → Held b → Unsigned b → Held y → x ≡ zero_float
    → add binary64 (add binary64 b x) y ≡ add binary64 (add binary64 b y) x
zero_exchanged b x y B U Y z =
    ap (λ (s : Float). add binary64 s y) (ap (add binary64 b) z ∙ held_and_zero binary64 b U B)
    ∙ sym (ap (add binary64 (add binary64 b y)) z ∙ held_and_zero binary64 (add binary64 b y)
    (sum_unsigned binary64 b y U B Y) (add-fits binary64 b y))

-- so two that are added may be exchanged where one of them is 0.0, or what they are added to
pair_exchanged : (b x y : Float) → Held b → Unsigned b → Held x → Held y → OneZero x y ⊎ (b ≡ zero_float)
    → add binary64 (add binary64 b x) y ≡ add binary64 (add binary64 b y) x
pair_exchanged b x y B U X Y (inl (inl z)) = zero_exchanged b x y B U Y z
pair_exchanged b x y B U X Y (inl (inr z)) = sym (zero_exchanged b y x B U X z)
pair_exchanged b x y B U X Y (inr z) =
    ap (λ (s : Float). add binary64 (add binary64 s x) y) z ∙ total_exchanged x y [] X Y
    ∙ sym (ap (λ (s : Float). add binary64 (add binary64 s y) x) z)

-- the parts of a sum
module _ (part : ℕ → Float) (held : (c : ℕ) → Held (part c)) where
  table_held : (i n : ℕ) → ForAll Held nan (tab i n part)
  table_held i zero k = nan-fits binary64
  table_held i (suc n) zero = held i
  table_held i (suc n) (suc k) = table_held (suc i) n k

  -- the sum of those before part n, and the pair that comes there
  abbrev before : ℕ → Float
  before n = total zero_float (tab 0 n part)

  next_pair : (n : ℕ) (rest : List Float) → Settled part n → total (before n) (part (suc n) ∷ part n ∷ rest)
      ≡ total (before n) (part n ∷ part (suc n) ∷ rest)
  next_pair n rest h =
      sym (ap (λ (s : Float). total s rest)
      (pair_exchanged (before n) (part n) (part (suc n)) (total_held zero_float (tab 0 n part) zero_held)
      (sum_stays zero_float (tab 0 n part) zero_unsigned zero_held (table_held 0 n)) (held n) (held (suc n)) h))

  six_exchanged : Settled part 4 → SameAcross 6 part
  six_exchanged h = next_pair 0 (part 2 ∷ part 3 ∷ part 5 ∷ part 4 ∷ []) (inr refl) ∙ next_pair 4 [] h

  eight_exchanged : Settled part 4 → Settled part 6 → SameAcross 8 part
  eight_exchanged h k = next_pair 0 (part 2 ∷ part 3 ∷ part 5 ∷ part 4 ∷ part 7 ∷ part 6 ∷ []) (inr refl)
      ∙ next_pair 4 (part 7 ∷ part 6 ∷ []) h ∙ next_pair 6 [] k

pub parts_exchanged : PartsExchanged
parts_exchanged = record { first_two = total_exchanged; six = six_exchanged; eight = eight_exchanged }
