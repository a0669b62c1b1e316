-- `hrtf::reset` meets its contract. Assumes nothing.
use Rattle.lists.specs.Prelude.{sym, ap, ◌∙◌, not, of_bits}
use Rattle.hrtf.proofs.Meets.{reset_refuses, reset_accepts, reset_refused, reset_accepted}
use Rattle.hrtf.proofs.reset.Goals as goal

pub returns-then-is_outside : goal.returns-then-is_outside
returns-then-is_outside c =
    let a = c.args in reset_refused a.desk a.speakers a.length a.rings.now 1
    (reset_refuses _ _ _ 0 (sym c.is_outside.ensures ∙ c.if-is_outside.true))

pub returns-then-is_outside-2 : goal.returns-then-is_outside-2
returns-then-is_outside-2 c =
    let a = c.args in reset_refused a.desk a.speakers a.length a.rings.now 3
    (reset_refuses _ _ _ 1 (
      sym c.is_outside.ensures
          ∙ c.if-is_outside.false,
      sym c.is_outside-2.ensures ∙ c.if-is_outside-2.true,
    ))

pub returns-then-not-is_product : goal.returns-then-not-is_product
returns-then-not-is_product c =
    let a = c.args in reset_refused a.desk a.speakers a.length a.rings.now 4
    (reset_refuses _ _ _ 2 (
      sym c.is_outside.ensures ∙ c.if-is_outside.false,
      (
        sym c.is_outside-2.ensures
            ∙ c.if-is_outside-2.false,
        ap not (sym c.is_product.ensures) ∙ (ap not c.if-not-is_product.true),
      ),
    ))

pub returns : goal.returns
unfolding of_bits
returns c =
    let a = c.args in
    reset_accepted a.desk a.speakers a.length a.rings.now _
    (reset_accepts _ _ _ (
      sym c.is_outside.ensures ∙ c.if-is_outside.false,
      (
        sym c.is_outside-2.ensures ∙ c.if-is_outside-2.false,
        (ap not (sym c.is_product.ensures) ∙ (ap not c.if-not-is_product.false), tt),
      ),
    ))
    (c.fill.ensures.after (λ y same. same))
