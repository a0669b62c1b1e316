-- Where a promise says what the answer is equal to, it allows one answer (`determined_by`). Every uniqueness theorem
-- cites this. Assumes nothing.
use mathlib.Core.Path.{◌≡◌, sym, ◌∙◌}
use Rattle.lists.specs.OneAnswer.{OneAnswer}

pub determined_by : {A : Type 0} {P : A → Type 0} {x : A} → ((a : A) → P a → a ≡ x) → OneAnswer P
determined_by f a b p q = f a p ∙ sym (f b q)
