-- `big_endian::get` meets its contract. What the loop has read is the value of the bytes passed. Assumes nothing.
use Rattle.std.specs.Prelude.{◌≡◌, ◌+◌, ◌-◌, ◌<◌, ◌≤◌}
use Rattle.lists.specs.Prelude.{refl, sym, ap, ◌∙◌, ℕ, arith, length, take, drop, get_or, length-take, length-drop}
use Rattle.lists.specs.Prelude.{get_or-take, get_or-drop}
use Rattle.big_endian.specs.Bytes.{value_of}
use Rattle.big_endian.proofs.Bytes.{power_pos}
use Rattle.big_endian.proofs.Fields.{lies_true, field_out, field_lies, value_next, below_next, eight_fit}
use Rattle.big_endian.proofs.get.Goals.{In-loop-b, After-from}
use Rattle.big_endian.proofs.get.Goals as goal

pub returns-then-not-lies_inside : goal.returns-then-not-lies_inside
returns-then-not-lies_inside c = record {
  bits = sym (field_out _ _ _ (sym c.lies_inside.ensures ∙ c.if-not-lies_inside.true));
  bound = power_pos _;
}

pub loop-b-init : goal.loop-b-init
unfolding value_of
loop-b-init c = (refl, omega arith)

-- where the field lies
module _ (c : In-loop-b) where
  inside : (c.args.count ≤ 8) × (c.args.at + c.args.count ≤ length c.args.s.now)
  inside = lies_true _ _ _ (sym c.lies_inside.ensures ∙ c.if-not-lies_inside.false)

  early : c.loop-b.b-index < c.args.count
  early = omega (arith, c.loop-b-test.true, length-take {A = ℕ})

pub overflow_mul-n : goal.overflow_mul-n
overflow_mul-n c =
    let small = eight_fit _ _ (omega (arith, early c, (inside c).0))
    (below_next c.loop-b.n c.loop-b.b-index 0 c.loop-b.invariant.1 (omega arith)) in
    omega arith

-- the byte that the loop has come to
module _ (c : After-from) where
  read : c.from.result ≡ get_or c.args.s.now (c.args.at + c.loop-b.b-index) 0
  read =
      let width : c.args.at + c.args.count - c.args.at ≡ c.args.count = omega arith in
      let lt : c.loop-b.b-index < c.args.count = early (goal.at.overflow_add-n c).In-loop-b in
      c.from.ensures ∙ rw (width, get_or-take, get_or-drop) refl

  below : c.from.result < 256
  below = rw read (c.type_inv.s (c.args.at + c.loop-b.b-index)).fits

pub overflow_add-n : goal.overflow_add-n
overflow_add-n c =
    let turn = (goal.at.overflow_add-n c).In-loop-b in
    record {
      fits = eight_fit _ _ (omega (arith, early turn, (inside turn).0))
          (below_next _ _ _ c.loop-b.invariant.1 (below c));
    }

pub loop-b-preserved : goal.loop-b-preserved
loop-b-preserved c =
    let turn = (goal.at.loop-b-preserved c).In-loop-b in
    let within : c.args.at + c.loop-b.b-index < length c.args.s.now = omega (arith, early turn, (inside turn).1) in (
      rw (value_next c.args.s.now c.args.at c.loop-b.b-index within, ← c.loop-b.invariant.0, read c) refl,
      below_next _ _ _ c.loop-b.invariant.1 (below c),
    )

pub returns : goal.returns
returns c =
    let inside : (c.args.count ≤ 8) × (c.args.at + c.args.count ≤ length c.args.s.now) =
    lies_true _ _ _ (sym c.lies_inside.ensures ∙ c.if-not-lies_inside.false) in
    let done : c.loop-b.b-index ≡ c.args.count =
    omega (arith, length-take {A = ℕ}, length-drop {A = ℕ}) in
    record {
      bits = c.loop-b.invariant.0 ∙ ap (λ (k : ℕ). value_of (take k (drop c.args.at c.args.s.now))) done
          ∙ sym (field_lies _ _ _ inside.0 inside.1);
      bound = rw done at c.loop-b.invariant.1;
    }
