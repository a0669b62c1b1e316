-- `hrtf_checks::is_row_missing` meets its contract: one of the first rows is missing just where one of their table is.
-- Assumes nothing.
use Rattle.std.specs.Prelude.{◌≡◌, ◌||◌, ◌≤◌}
use Rattle.std.specs.List.{list_any}
use borrow.Author.Tests.{tests}
use Rattle.std.proofs.lemmas.Iterator.{YieldsList-from_slice}
use Rattle.std.proofs.lemmas.Iterator.Search.{any_from_yields_List}
use Rattle.lists.specs.Prelude.{refl, sym, ap, ◌∙◌, List, [], ◌∷◌, ℕ, zero, suc, Bool, arith, leb, length, get_or, take}
use Rattle.lists.specs.Prelude.{rules}
use Rattle.lists.specs.Prelude.{le_of_suc-le-suc, not-suc-le-zero}
use Rattle.lists.specs.Tables.{tab, any}
use Rattle.lists.proofs.Tables.{tab_shift}
use Rattle.hrtf_checks.proofs.is_row_missing.Goals as goal

any_of_first : (test : ℕ → Bool) (n : ℕ) (xs : List ℕ) → n ≤ length xs
    → list_any test (take n xs) ≡ any (tab 0 n (λ s. test (get_or xs s 0)))
any_of_first test zero xs h = refl
any_of_first test (suc n) [] h = absurd (not-suc-le-zero h)
any_of_first test (suc n) (x ∷ xs) h =
    ap (λ (b : Bool). test x || b) (any_of_first test n xs (le_of_suc-le-suc h)
    ∙ ap any (sym (tab_shift 0 n (λ s. test (get_or (x ∷ xs) s 0)))))

pub returns : goal.returns
returns c =
    let a = c.args in
    any_from_yields_List (leb a.rows) _ _ c.any.result c.any.ensures.ran
    (YieldsList-from_slice (take a.speakers a.row_of.now) cc) (λ x b q k. search (rules, tests))
    ∙ any_of_first (leb a.rows) a.speakers a.row_of.now (omega (arith, c.fits-row_of))
