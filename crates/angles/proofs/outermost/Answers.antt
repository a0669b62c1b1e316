-- `angles::outermost` meets its contract. The loop's invariant: f is 1 less the nestings so far, of which n are left.
-- Assumes nothing.
use Rattle.std.specs.Prelude.{◌≡◌, ◌+◌, ◌-◌, ◌*◌, ◌^◌, ◌≤◌, ◌<◌}
use Rattle.lists.specs.Prelude.{sym, ap, ◌∙◌, subst, ℕ, suc, arith}
use Rattle.angles.specs.Computed.{one, times, nesting, nest}
use Rattle.angles.proofs.Room.{nest_most, nesting_most, square_most}
use Rattle.angles.proofs.outermost.Goals as goal

start : (y j n : ℕ) → n ≡ 0 → one ≡ nest y j n
unfolding nest
start y j n e = ap (nest y j) (sym e)

again : (y f r n h : ℕ) → 0 < n → n ≤ h → f ≡ nest y (r + 2 + 2 * n) (h - n)
    → one - nesting y f (r + 2 + 2 * (n - 1)) ≡ nest y (r + 2 + 2 * (n - 1)) (h - (n - 1))
unfolding nest
again y f r n h l m e =
    let below : r + 2 + 2 * n ≡ r + 2 + 2 * (n - 1) + 2 = omega arith in
    let more : suc (h - n) ≡ h - (n - 1) = omega arith in
    ap (λ (x : ℕ). one - nesting y x (r + 2 + 2 * (n - 1))) (e ∙ ap (λ (j : ℕ). nest y j (h - n)) below)
    ∙ ap (nest y (r + 2 + 2 * (n - 1))) more

-- what `nesting` asks at every turn, and after the last
asked : (x y f j k n : ℕ) → x * x ≤ 12 * 2 ^ 120 → y ≡ times x x → f ≡ nest y k n → j ≤ 26
    → (y ≤ 12 * 2 ^ 60) × (f ≤ 2 ^ 60) × (j ≤ 26)
asked x y f j k n h d e m =
    (subst (λ (z : ℕ). z ≤ 12 * one) (sym d) (square_most x h), subst (λ (z : ℕ). z ≤ one) (sym e) (nest_most y k n), m)

pub loop-n-init : goal.loop-n-init
loop-n-init c = start c.times-y.result _ _ (omega arith)

pub nesting-f-requires : goal.nesting-f-requires
nesting-f-requires c =
    asked c.args.x _ _ _ _ _ c.requires.0 c.times-y.ensures c.loop-n.invariant (omega (arith, c.requires.1))

pub overflow_sub-f : goal.overflow_sub-f
overflow_sub-f c =
    let a = asked c.args.x c.times-y.result c.loop-n.f 0 _ _ c.requires.0 c.times-y.ensures c.loop-n.invariant
    (omega arith) in
    subst (λ (x : ℕ). x ≤ one) (sym c.nesting-f.ensures)
    (nesting_most c.times-y.result c.loop-n.f _ a.0 a.1 (omega arith))

pub loop-n-preserved : goal.loop-n-preserved
loop-n-preserved c =
    ap (λ (x : ℕ). one - x) c.nesting-f.ensures
    ∙ again c.times-y.result c.loop-n.f _ c.loop-n.n _ c.loop-n-test.true c.loop-n.auto.n c.loop-n.invariant

pub nesting-requires : goal.nesting-requires
nesting-requires c =
    asked c.args.x _ _ _ _ _ c.requires.0 c.times-y.ensures c.loop-n.invariant (omega (arith, c.requires.1))
