-- Document 01, 'Sums': "times 1.0/root(speakers)", and 'Gains': "times 1/root(n)", "times 1.0/root(2.0)". Definitions
-- only. The root is the one that `numbers::root` promises, the f64 nearest the exact root; its inverse is one f64
-- division.
use Rattle.std.specs.Prelude.{◌≡◌, ◌∷◌}
use Rattle.lists.specs.Prelude.{ℕ, [], eqb, pos, Float, binary64, div}
use Rattle.refusals.specs.Refusals.{first_of, ◌when◌, answered}
use Rattle.formats.specs.Floats.{zero_float, one_float, float}
use Rattle.numbers.specs.Computed.{root_of}
use Rattle.numbers.specs.Promise.{RootPromise}
use Rattle.refusals.specs.Numbers.{Told}
use Rattle.numbers.specs.Computed.{Rooted}

unfoldable pub inverse_root_of : ℕ → Float
unfolding div root_of
inverse_root_of n = div binary64 one_float (root_of binary64 (float (pos n)))

-- "speakers or bank rows are not 1..8", "Custom n is 0": no count that a root is taken of is 0
abbrev pub inverse_refusal : ℕ → ℕ
inverse_refusal n = first_of (2 when eqb n 0 ∷ [])

-- "A refusal returns its number, [..] 0.0 for any number"
abbrev pub Inverse : Type 0
Inverse = Told Float

abbrev pub inverse_answer : ℕ → Inverse
inverse_answer n = answered (inverse_refusal n) (record { refusal = 0; value = inverse_root_of n })
    (λ r. record { refusal = r; value = zero_float })

-- every bit of the answer; and where it is accepted, it is 1.0 over whatever document 01's words allow for the root of
-- n
pub record InverseRoot (n : ℕ) (answer : Inverse) : Type 0 where
  pub bits : answer ≡ inverse_answer n
  pub words : inverse_refusal n ≡ 0 → (r : Rooted) → RootPromise (float (pos n)) r
      → answer.value ≡ div binary64 one_float r.value
