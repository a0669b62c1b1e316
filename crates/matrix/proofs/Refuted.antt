-- Wrong rows, each held against what E7 asks: no rows that differ from the promised ones in a sign are an answer,
-- whichever weight it is, and those of 002 do not swap the ears. Assumes nothing.
use Rattle.std.specs.Prelude.{◌≡◌, ◌∷◌, ◌++◌, ◌+◌, ◌<◌}
use Rattle.lists.specs.Prelude.{refl, sym, ap, ◌∙◌, subst, Bool, true, false, not, cond, true≢false, List, [], ℕ}
use Rattle.lists.specs.Prelude.{zero-add, eq-eqb, eqb, ℤ, pos, length, get_or, Float, nan, inf, fin, neg, add, sum, mul}
use Rattle.lists.specs.Prelude.{round}
use lib.Ieee.Scale.{finite}
use Rattle.numbers.specs.Conversions.{negative}
use Rattle.numbers.specs.Computed.{rounded}
use Rattle.checks.proofs.Checks.{finite_at}
use Rattle.rows.specs.Rows.{scaled}
use Rattle.numbers.specs.Normalization.{inverse_root_of}
use Rattle.planes.specs.Sums.{mixed}
use Rattle.channel.specs.Layouts.{minus}
use Rattle.matrix.specs.Mirror.{negated_at}
use Rattle.matrix.specs.Rows.{left, soa, toa, literals, binaural_rows}
use Rattle.matrix.specs.Promise.{BinauralRowsPromise}
use Rattle.matrix.specs.Ears.{Mirrors}
use Rattle.matrix.proofs.Mirror.{get_or_negated}
use Rattle.matrix.proofs.Ears.{computed_order, computed_rows}
use Rattle.matrix.proofs.Sound.{root_of_half, inverse_root_two, rows_finite}
use Rattle.matrix.proofs.Worked.{alone}

-- ---- any one weight with the other sign, of either ear: a sign missing on 5 or on 11, one on 13 or on 14

not_self : (s : Bool) → not s ≡ s → ⊥
not_self true e = absurd (true≢false (sym e))
not_self false e = absurd (true≢false e)

-- no finite number is its own opposite: the two zeros are two
not_opposite : (x : Float) → finite x ≡ true → neg x ≡ x → ⊥
unfolding neg
not_opposite nan f e = absurd (true≢false (sym f))
not_opposite (inf s) f e = absurd (true≢false (sym f))
not_opposite (fin s m e) f p = not_self s (ap negative p)

other_sign : (n : ℕ) (lent : List Float) (k : ℕ) → k < length (binaural_rows n)
    → BinauralRowsPromise n lent (record {
      refusal = 0;
      weights = negated_at neg (λ (i : ℕ). eqb i k) 0 (binaural_rows n);
    }) → ⊥
unfolding neg
other_sign n lent k h p =
    let wrong : List Float = negated_at neg (λ (i : ℕ). eqb i k) 0 (binaural_rows n) in
    let x : Float = get_or (binaural_rows n) k nan in
    not_opposite x (finite_at (binaural_rows n) k (rows_finite n (computed_order n lent wrong p)) h)
    (sym (get_or_negated neg (λ (i : ℕ). eqb i k) nan refl 0 (binaural_rows n) k
    ∙ ap (λ (b : Bool). cond b (neg x) x) (eq-eqb (0 + k) k (zero-add k)))
    ∙ ap (λ (w : List Float). get_or w k nan) (computed_rows n lent wrong p))

-- ---- 002's rows

-- Of the second order 1.0 on channel 5 alone is the same at both ears, and mirrored it has the other sign at both. Of
-- the third 1.0 on channel 14 alone, which a mirror leaves as it is, has the other sign at the right ear.

second_of002 : List ℤ
second_of002 = pos 45 ∷ minus 45 ∷ pos 9 ∷ pos 32 ∷ minus 25 ∷ pos 8 ∷ pos 5 ∷ pos 8 ∷ pos 15 ∷ []

third_of002 : List ℤ
third_of002 = pos 42 ∷ minus 42 ∷ pos 8 ∷ pos 30 ∷ minus 22 ∷ pos 7 ∷ pos 4 ∷ pos 7 ∷ pos 13 ∷ minus 15 ∷ minus 10
    ∷ pos 5 ∷ pos 3 ∷ pos 5 ∷ minus 10 ∷ pos 10 ∷ []

-- a left and a right row, times 1.0/root(2.0), and times the float that this is
abbrev rows_of : List ℤ → List ℤ → Float → List Float
rows_of ls rs f = scaled f (literals ls ++ literals rs)

by_half : (n : ℕ) (ls rs : List ℤ) → Mirrors n (rows_of ls rs (inverse_root_of 2))
    → Mirrors n (rows_of ls rs root_of_half)
by_half n ls rs = subst (λ (f : Float). Mirrors n (rows_of ls rs f)) inverse_root_two

second_of_002 : Mirrors 2 (rows_of soa second_of002 (inverse_root_of 2)) → ⊥
unfolding second_of002 mixed rounded add sum mul neg round
second_of_002 m = true≢false (ap negative ((by_half 2 soa second_of002 m).swaps left (alone 5 9)))

third_of_002 : Mirrors 3 (rows_of toa third_of002 (inverse_root_of 2)) → ⊥
unfolding third_of002 mixed rounded add sum mul neg round
third_of_002 m = true≢false (ap negative ((by_half 3 toa third_of002 m).swaps left (alone 14 16)))
