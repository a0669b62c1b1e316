-- No two answers meet the promise, and one that is accepted is the only row that the speaker takes. Assumes nothing.
use Rattle.std.specs.Prelude.{◌≡◌, Result}
use Rattle.lists.specs.Prelude.{ap, sym, ◌∙◌, List, ℕ, ℤ}
use Rattle.lists.specs.OneAnswer.{AllowsOneAnswer}
use Rattle.refusals.specs.declared.Refusal.{Refusal}
use Rattle.refusals.proofs.Numbers.{told_apart}
use Rattle.bank_choice.specs.Choice.{Choice, choice, ChoicePromise}
use Rattle.bank_choice.specs.Nearest.{Takes}
use Rattle.bank_choice.proofs.Takes.{takes_one}
use Rattle.bank_choice.specs.contracts.nearest_row as nearest_row
use Rattle.bank_choice.proofs.nearest_row.Reads as nearest_row_reads

-- an answer is known by its number and its row
choice_apart : (x y : Result ℕ Refusal) → choice x ≡ choice y → x ≡ y
choice_apart x y e = told_apart 0 x y (ap (λ (c : Choice). c.refusal) e) (ap (λ (c : Choice). c.row) e)

pub nearest_row_unique : AllowsOneAnswer nearest_row.ended nearest_row_reads.Learnt
nearest_row_unique κs a x y p q = λ i. (choice_apart x.0 y.0 (p.bits ∙ sym q.bits) i, _)

-- by the documents' words alone
pub only_row : (zs es : List ℤ) (n : ℕ) (p q : ℤ) (a : Choice) → ChoicePromise zs es n p q a → a.refusal ≡ 0 → (r : ℕ)
    → Takes zs es n p q r → r ≡ a.row
only_row zs es n p q a x e r t = takes_one zs es p q n r a.row t (x.words e)
