-- One ring, read from its newest signal: writing at the position puts a signal before all but the oldest, and the
-- position after the last cell is the first. Assumes nothing.
use Rattle.std.specs.Prelude.{◌≡◌, ◌∷◌, ◌++◌, ◌+◌, ◌-◌, ◌%◌, ◌≤◌, ◌<◌}
use Rattle.lists.specs.Prelude.{sym, ap, ◌∙◌, ⊎_elim, List, [], reverse, reverse-cons, reverse-append, reverse-reverse}
use Rattle.lists.specs.Prelude.{append-nil, append_assoc, ℕ, suc, mod-eq_of_lt, mod_self, add-one, arith, length}
use Rattle.lists.specs.Prelude.{get_or, set, take, drop, length-take, length-drop, length-append, length-reverse}
use Rattle.lists.specs.Prelude.{take-append-drop, drop_of_length-le, take_all, take-suc-set, drop-set-lt, drop-cons}
use Rattle.lists.specs.Prelude.{take_at, drop_at, length-take-le, Float, nan}
use Rattle.lists.proofs.Lists.{less_or_at_most}
use Rattle.hrtf_rings.specs.Unrolled.{unrolled}

-- all but the oldest, which stands at p
abbrev front : ℕ → List Float → List Float
front p ring = reverse (take p ring) ++ reverse (drop (suc p) ring)

-- writing at p puts x before all but the oldest
pub unrolled_set : (p : ℕ) (ring : List Float) (x : Float) → p < length ring → unrolled (suc p) (set ring p x) ≡ x
    ∷ take (length ring - 1) (unrolled p ring)
unrolled_set p ring x h =
    cc (
      take-suc-set ring p x h,
      drop-set-lt (suc p) ring p x (omega arith),
      reverse-append (take p ring) (x ∷ []),
      rest,
    )
  where
    length_front : length (front p ring) ≡ length ring - 1
    length_front = simp (length-append, length-reverse, length-drop, length-take) (omega arith)

    cut : unrolled p ring ≡ front p ring ++ (get_or ring p nan ∷ [])
    cut = cc (drop-cons ring p nan h, reverse-cons (get_or ring p nan) (drop (suc p) ring))
        ∙ sym (append_assoc (reverse (take p ring)) (reverse (drop (suc p) ring)) (get_or ring p nan ∷ []))

    rest : take (length ring - 1) (unrolled p ring) ≡ front p ring
    rest = cc (cut, take_at (front p ring) (get_or ring p nan ∷ []) (length ring - 1) length_front)

-- from the end on, every position reads the ring alike: back from its last cell
unrolled_whole : (p : ℕ) (ring : List Float) → length ring ≤ p → unrolled p ring ≡ reverse ring
unrolled_whole p ring ge = cc (take_all p ring ge, drop_of_length-le ring ge, append-nil (reverse ring))

-- the position after the last is the first
pub unrolled_wrapped : (p : ℕ) (ring : List Float) → p < length ring
    → unrolled ((p + 1) % length ring) ring ≡ unrolled (suc p) ring
unrolled_wrapped p ring h =
    ⊎_elim
    (λ (lt : suc p < length ring). ap (λ (k : ℕ). unrolled (k % length ring) ring) (add-one p)
    ∙ ap (λ (k : ℕ). unrolled k ring) (mod-eq_of_lt lt))
    (λ (ge : length ring ≤ suc p).
    ap (λ (k : ℕ). unrolled (k % length ring) ring) (end ge) ∙ ap (λ (k : ℕ). unrolled k ring) (mod_self (length ring))
    ∙ sym (unrolled_whole (suc p) ring ge))
    (less_or_at_most (suc p) (length ring))
  where
    end : length ring ≤ suc p → p + 1 ≡ length ring
    end ge = omega arith

pub length_unrolled : (p : ℕ) (ring : List Float) → length (unrolled p ring) ≡ length ring
length_unrolled p ring = simp (length-append, length-reverse, length-take, length-drop) (omega arith)

-- what is read back twice is as it was
pub unrolled_twice : (p : ℕ) (ring : List Float) → p ≤ length ring → unrolled p (unrolled p ring) ≡ ring
unrolled_twice p ring h =
    let long : length (reverse (take p ring)) ≡ p = length-reverse (take p ring) ∙ length-take-le p ring h in
    cc (
      take_at (reverse (take p ring)) (reverse (drop p ring)) p long,
      drop_at (reverse (take p ring)) (reverse (drop p ring)) p long,
      reverse-reverse (take p ring),
      reverse-reverse (drop p ring),
      take-append-drop p ring,
    )
