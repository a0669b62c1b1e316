-- Document 01, 'Marked drill table', items 6 and 7, and a few numbers more, from the definitions by computing. Assumes
-- nothing.
use Rattle.std.specs.Prelude.{◌≡◌}
use Rattle.lists.specs.Prelude.{refl, true, false, pos, negsuc, inf, fin, binary64, size, units, round, to_bits}
use Rattle.numbers.specs.Computed.{rounded, narrowed, whole_root, root_of, root_answer}

-- ---- item 6: the root of 4 is 2; 2 gives bits 3FF6A09E667F3BCD
pub root_four : root_answer (fin false 1 (pos 2)) ≡ record { refusal = 0; value = fin false 1 (pos 1) }
unfolding root_of whole_root size units
root_four = refl

pub root_two : to_bits binary64 (root_answer (fin false 1 (pos 1))).value ≡ 0x3FF6A09E667F3BCD
unfolding root_of whole_root size units to_bits
root_two = refl

-- ---- item 7: 1 + 2 ^ -24 narrows to 1; 1 + 3 * 2 ^ -24 to 1 + 2 ^ -22
pub tie_down : narrowed (fin false 16777217 (negsuc 23)) ≡ fin false 1 (pos 0)
unfolding rounded round
tie_down = refl

pub tie_up : narrowed (fin false 16777219 (negsuc 23)) ≡ fin false 4194305 (negsuc 21)
unfolding rounded round
tie_up = refl

-- ---- the sign of a zero goes through a root
root_minus_zero : root_answer (fin true 0 (pos 0)) ≡ record { refusal = 0; value = fin true 0 (pos 0) }
unfolding root_of
root_minus_zero = refl

-- ---- half of the smallest value is a zero of its sign, and a little more is the smallest value
half_of_least : narrowed (fin true 1 (negsuc 149)) ≡ fin true 0 (pos 0)
unfolding rounded round
half_of_least = refl

above_half : narrowed (fin true 3 (negsuc 150)) ≡ fin true 1 (negsuc 148)
unfolding rounded round
above_half = refl

-- ---- the middle between the largest value and 2 ^ 128 is an infinity, and what is below it is the largest value
tie_at_the_end : narrowed (fin false 33554431 (pos 103)) ≡ inf false
unfolding rounded round
tie_at_the_end = refl

below_the_end : narrowed (fin false 9007198986305535 (pos 75)) ≡ fin false 16777215 (pos 104)
unfolding rounded round
below_the_end = refl
