-- Wrong answers that the promises rule out. Assumes nothing.
use Rattle.std.specs.Prelude.{◌<◌, ◌≡◌, ◌∷◌}
use Rattle.lists.specs.Prelude.{ℕ, arith, ap, Bool, cond, List, [], lt-leb}
use Rattle.stamps.specs.Arrivals.{Expected}
use Rattle.std.specs.Prelude.{None, Some}
use Rattle.stamps.specs.declared.Arrival.TheVariants.{Late}
use Rattle.stamps.specs.declared.Planned.{Planned}
use Rattle.stamps.specs.Arrivals.{coming_by, coming_of, stamp_of, then_of, skipped_of}
use Rattle.stamps.specs.Counts.{out_in, silent_in, planned_of, plan_of}

apart : ◌≡◌ {A = ℕ} 0 1 → ⊥
apart z = omega arith

-- ---- what a frame is

-- stamps compared as numbers: 1 is less than 4294967295, and is not late
as_numbers : coming_of (Some 4294967295) 1 ≡ Late → ⊥
unfolding coming_by
as_numbers e = apart (cc)

-- a larger gap counted as a late frame
jump_late : coming_of (Some 1) 4098 ≡ Late → ⊥
unfolding coming_by
jump_late e = apart (cc)

-- the first frame judged as if the stamp 0 were expected
first_judged : coming_of None 5000 ≡ coming_of (Some 0) 5000 → ⊥
unfolding coming_by
first_judged e = apart (cc)

-- ---- what is expected then

-- a late frame that moves the stamp: after 7 and 3 the stamp 8 is next, and not four frames ahead
late_moves : silent_in None (7 ∷ 3 ∷ 8 ∷ []) ≡ 4 → ⊥
unfolding coming_by
late_moves e = omega arith

-- the same stamp again, after a frame and after a missing one; and a stamp that stays at the top
then_again : then_of (Some 5) 5 ≡ Some 5 → ⊥
unfolding coming_by
then_again e = omega (arith, ap stamp_of e)

skipped_again : skipped_of (Some 5) ≡ Some 5 → ⊥
skipped_again e = omega (arith, ap stamp_of e)

no_roll_over : skipped_of (Some 4294967295) ≡ Some 4294967295 → ⊥
no_roll_over e = omega (arith, ap stamp_of e)

-- ---- what a recording comes to

-- as many frames as there is room for
as_many_as_fit : (p : Planned) → plan_of None (0 ∷ 1 ∷ []) 1 ≡ Some p → p.out ≡ 1 → ⊥
unfolding coming_by
as_many_as_fit p f e = apart (cc)

-- what is expected after as many
expected_moves : (p : Planned) → plan_of None (0 ∷ 1 ∷ []) 1 ≡ Some p → p.expected ≡ Some 1 → ⊥
unfolding coming_by
expected_moves p f e = apart (cc)

-- one that does not fit said to fit, and its frames counted
unplanned_fits : (x : Expected) (ss : List ℕ) (room : ℕ) (p : Planned) → room < out_in x ss
    → plan_of x ss room ≡ Some p → ⊥
unplanned_fits x ss room p h f =
    apart (cc (ap (λ (b : Bool). cond b (Some (planned_of x ss)) None) (lt-leb (out_in x ss) room h)))

unplanned_counted : (x : Expected) (ss : List ℕ) (room : ℕ) (p : Planned) → room < out_in x ss
    → plan_of x ss room ≡ Some p → 0 < p.out → ⊥
unplanned_counted x ss room p h f some = unplanned_fits x ss room p h f
