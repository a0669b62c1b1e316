-- Rows put one behind another: a row put where the finished ones end lengthens them. Assumes nothing.
use Rattle.std.specs.Prelude.{◌+◌, ◌≤◌, ◌≡◌, ◌++◌}
use Rattle.lists.specs.Prelude.{arith, ap, ◌∙◌, List, length, drop, length-append, sets, sets-eq, take-append_seam}
use Rattle.lists.specs.Prelude.{drop-append-add}

pub put_behind : {A : Type 0} (done vs rest : List A) → length vs ≤ length rest
    → sets (done ++ rest) (length done) vs ≡ done ++ vs ++ drop (length vs) rest
put_behind {A = A} done vs rest room =
    sets-eq vs (done ++ rest) (length done) (rw (length-append done rest) (omega arith))
    ∙ ap (λ (xs : List A). xs ++ vs ++ drop (length done + length vs) (done ++ rest)) (take-append_seam done rest)
    ∙ ap (λ (xs : List A). done ++ vs ++ xs) (drop-append-add done rest (length vs))
