-- `angles::rounded` meets its contract. Assumes nothing.
use Rattle.std.specs.Prelude.{◌+◌, ◌/◌}
use Rattle.lists.specs.Prelude.{sym, ap, Bool, false, cond, ℕ, pos, eqb, Float, binary64, fin, of_bits, neg, div}
use Rattle.lists.specs.Prelude.{of_int, eq-eqb, ne_eqb}
use Rattle.angles.specs.Computed.{rounded_units}
use Rattle.angles.proofs.rounded.Goals as goal

-- the definition, with its two tests as unknowns
abbrev pick : Bool → Bool → ℕ → Float
pick negative none n =
    let v = div binary64 (of_int binary64 (pos n)) (fin false 1 (pos 51)) in cond negative (cond none v (neg v)) v

pub returns-then-n-eq0 : goal.returns-then-n-eq0
unfolding rounded_units of_bits
returns-then-n-eq0 c =
    let start = c.before.before.before in
    let s = start.args in let n = (s.size + 256) / 512 in
    sym (λ i. pick (c.before.if-negative.true i) (eq-eqb n 0 c.if-n-eq0.true i) n)

pub returns-else-n-eq0 : goal.returns-else-n-eq0
unfolding rounded_units of_bits
returns-else-n-eq0 c =
    let start = c.before.before.before in
    let s = start.args in let n = (s.size + 256) / 512 in
    sym (λ i. pick (c.before.if-negative.true i) (ne_eqb n 0 c.if-n-eq0.false i) n)

pub returns-else-negative : goal.returns-else-negative
unfolding rounded_units of_bits
returns-else-negative c = let s = c.before.before.args in let n = (s.size + 256) / 512 in
    sym (ap (λ (b : Bool). pick b (eqb n 0) n) c.if-negative.false)
