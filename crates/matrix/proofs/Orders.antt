-- The rows are those of the order; other numbers are no orders. Assumes nothing.
use Rattle.std.specs.Prelude.{◌*◌, ◌≡◌, ◌∷◌}
use Rattle.lists.specs.Prelude.{ℕ, sym, ap, ◌∙◌, Bool, true, not, List, [], eqb, length, Float}
use Rattle.refusals.specs.Refusals.{first_of, ◌when◌}
use Rattle.channel.specs.Orders.{refuses_order, channels_of_order}
use Rattle.rows.specs.Rows.{computed_by}
use Rattle.matrix.specs.Rows.{binaural_rows}
use Rattle.matrix.specs.Promise.{WeightsAnswer, outcome, BinauralRowsPromise}

pub of_order_lem : {n m : ℕ} (w : List Float) (o : WeightsAnswer) → n ≡ m → o ≡ outcome m w → BinauralRowsPromise n w o
of_order_lem w o e p = p ∙ ap (λ (k : ℕ). outcome k w) (sym e)

pub no_order : (n : ℕ) (w : List Float) → refuses_order n ≡ true
    → BinauralRowsPromise n w (record { refusal = 1; weights = w })
unfolding outcome
no_order n w e =
    sym (ap (λ (t : Bool). computed_by (first_of (1 when t ∷ 5 when not (eqb (length w) (2 * channels_of_order n))
    ∷ []))
    (binaural_rows n) w) e)
