-- `hrtf_checks::refusal` meets its contract, each answer by the first of the tests that fails. Assumes nothing.
use Rattle.std.specs.Prelude.{◌≡◌}
use Rattle.lists.specs.Prelude.{sym, ◌∙◌, Bool, true, false, List, map, Float}
use Rattle.checks.specs.Finite.{has_nonfinite}
use Rattle.checks.proofs.Checks.{nonfinite_of, or_yes, or_next}
use Rattle.hrtf_checks.proofs.Refusing.{refuse, accept}
use Rattle.hrtf_checks.proofs.refusal.Goals as goal

-- what the search of a list of floats found
searched : (xs : List Float) {r t : Bool} → r ≡ has_nonfinite (map (λ (x : Float). x) xs) → r ≡ t → has_nonfinite xs ≡ t
searched xs e h = sym (nonfinite_of xs) ∙ sym e ∙ h

pub returns-then-is_misshapen : goal.returns-then-is_misshapen
returns-then-is_misshapen c = refuse _ _ 0 (sym c.is_misshapen.ensures ∙ c.if-is_misshapen.true)

pub returns-then-is_outside : goal.returns-then-is_outside
returns-then-is_outside c =
    refuse _ _ 1 (
      sym c.is_misshapen.ensures ∙ c.if-is_misshapen.false,
      sym c.is_outside.ensures
          ∙ c.if-is_outside.true,
    )

pub returns-then-is_misfit : goal.returns-then-is_misfit
returns-then-is_misfit c =
    refuse _ _ 2 (
      sym c.is_misshapen.ensures ∙ c.if-is_misshapen.false,
      (
        sym c.is_outside.ensures ∙ c.if-is_outside.false,
        sym c.is_misfit.ensures
            ∙ c.if-is_misfit.true,
      ),
    )

pub returns-then-has_nonfinite : goal.returns-then-has_nonfinite
returns-then-has_nonfinite c =
    refuse _ _ 3 (
      sym c.is_misshapen.ensures ∙ c.if-is_misshapen.false,
      (
        sym c.is_outside.ensures ∙ c.if-is_outside.false,
        (
          sym c.is_misfit.ensures ∙ c.if-is_misfit.false,
          sym (or_yes _ _ (searched c.args.weights.now c.has_nonfinite.ensures c.if-has_nonfinite.true)),
        ),
      ),
    )

pub returns-then-has_nonfinite-2 : goal.returns-then-has_nonfinite-2
returns-then-has_nonfinite-2 c =
    refuse _ _ 3 (
      sym c.is_misshapen.ensures ∙ c.if-is_misshapen.false,
      (
        sym c.is_outside.ensures ∙ c.if-is_outside.false,
        (
          sym c.is_misfit.ensures ∙ c.if-is_misfit.false,
          sym (or_next _ _ true (searched c.args.weights.now c.has_nonfinite.ensures c.if-has_nonfinite.false)
              (sym (searched c.args.taps.now c.has_nonfinite-2.ensures c.if-has_nonfinite-2.true))),
        ),
      ),
    )

pub returns-then-is_desk_out_of_range : goal.returns-then-is_desk_out_of_range
returns-then-is_desk_out_of_range c =
    refuse _ _ 4 (
      sym c.is_misshapen.ensures ∙ c.if-is_misshapen.false,
      (
        sym c.is_outside.ensures ∙ c.if-is_outside.false,
        (
          sym c.is_misfit.ensures ∙ c.if-is_misfit.false,
          (
            sym (or_next _ _ false
                (searched c.args.weights.now c.has_nonfinite.ensures c.if-has_nonfinite.false)
                (sym (searched c.args.taps.now c.has_nonfinite-2.ensures c.if-has_nonfinite-2.false))),
            sym c.is_desk_out_of_range.ensures ∙ c.if-is_desk_out_of_range.true,
          ),
        ),
      ),
    )

pub returns : goal.returns
returns c =
    accept _ _ (
      sym c.is_misshapen.ensures ∙ c.if-is_misshapen.false,
      (
        sym c.is_outside.ensures ∙ c.if-is_outside.false,
        (
          sym c.is_misfit.ensures ∙ c.if-is_misfit.false,
          (
            sym (or_next _ _ false
                (searched c.args.weights.now c.has_nonfinite.ensures c.if-has_nonfinite.false)
                (sym (searched c.args.taps.now c.has_nonfinite-2.ensures c.if-has_nonfinite-2.false))),
            (sym c.is_desk_out_of_range.ensures ∙ c.if-is_desk_out_of_range.false, tt),
          ),
        ),
      ),
    )
