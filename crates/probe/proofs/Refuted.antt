-- What the promise rules out: an answer to an operation that there is not. Assumes nothing.
use mathlib.Core.Path.{◌≡◌, sym, ◌∙◌}
use mathlib.Core.List.{List}
use Prim.Native.Nat.{ℕ, ◌<◌}
use Rattle.probe_answer.specs.Answers.{Draft, none}
use Rattle.probe.specs.Answers.{answer_of}
use Rattle.probe.proofs.Meets.{of_none}

-- an operation beyond 25 is answered, or the lent bytes are put over
unknown_answered : (operation : ℕ) (args out : List ℕ) (r : Draft) → r ≡ answer_of operation args out → 25 < operation
    → (r ≡ none out → ⊥) → ⊥
unknown_answered operation args out r is h other = other (is ∙ sym (of_none operation args out (λ l. h)))
