-- `panner::narrowed` meets its contract: what the map gives at each place. Assumes nothing.
use Rattle.std.specs.Prelude.{◌≡◌}
use Rattle.lists.specs.Prelude.{sym, ◌∙◌, arith, rules, ext_get_or, get_or, nan}
use Rattle.numbers.specs.Computed.{narrowed}
use Rattle.lists.proofs.Tables.{get_or_table}
use Rattle.panner.proofs.narrowed.Goals as goal

pub returns : goal.returns
returns c =
    let m = c.map.ensures.items in
    ext_get_or nan c.map.result _ (search (rules, m.long))
    (λ i h.
    let z = m.at i nan nan (omega (arith, m.long)) in
    let e : get_or c.map.result i nan ≡ narrowed (get_or c.args.gains i nan) = search rules in
    e ∙ sym (get_or_table 16 (λ k. narrowed (get_or c.args.gains k nan)) i nan (omega (arith, m.long))))
