-- Document 01, 'Sums': parts are added "from 0.0", in one order. Of these the first two may be exchanged, and later
-- ones may not, but where one of the two is 0.0, or those before them add up to 0.0. Shown in proofs/Parts.antt, and
-- refuted of later ones in proofs/RefutedOrder.antt. Definitions only.
use Rattle.std.specs.Prelude.{◌≡◌, ◌⊎◌, ◌∷◌}
use Rattle.lists.specs.Prelude.{ℕ, suc, List, [], Float}
use Rattle.formats.specs.Floats.{Held, zero_float}
use Rattle.lists.specs.Tables.{tab}
use Rattle.planes.specs.Sums.{total}
use Rattle.mirror.specs.Partners.{across_from}

-- of a pair one is 0.0
abbrev pub OneZero : Float → Float → Type 0
OneZero x y = (x ≡ zero_float) ⊎ (y ≡ zero_float)

-- so it is of parts n and n + 1, or those before them add up to 0.0
abbrev pub Settled : (ℕ → Float) → ℕ → Type 0
Settled part n = OneZero (part n) (part (suc n)) ⊎ (total zero_float (tab 0 n part) ≡ zero_float)

-- the parts of the speakers across, in the order of the speakers, add up to the same
abbrev pub SameAcross : ℕ → (ℕ → Float) → Type 0
SameAcross n part = total zero_float (tab 0 n (λ c. part (across_from c))) ≡ total zero_float (tab 0 n part)

pub record PartsExchanged : Type 0 where
  pub first_two : (x y : Float) (rest : List Float) → Held x → Held y
      → total zero_float (x ∷ y ∷ rest) ≡ total zero_float (y ∷ x ∷ rest)
  -- of the six speakers of 5.1, and of the eight of 7.1
  pub six : (part : ℕ → Float) → ((c : ℕ) → Held (part c)) → Settled part 4 → SameAcross 6 part
  pub eight : (part : ℕ → Float) → ((c : ℕ) → Held (part c)) → Settled part 4 → Settled part 6 → SameAcross 8 part

-- refuted
abbrev pub NextTwoExchanged : Type 0
NextTwoExchanged =
    (x y z : Float) → Held x → Held y → Held z → total zero_float (x ∷ y ∷ z ∷ []) ≡ total zero_float (x ∷ z ∷ y ∷ [])
