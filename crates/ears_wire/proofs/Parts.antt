-- Parts put one after another into a list, the line that stands at its start or not at all, and that the fewest digits
-- are the decimal ones. Assumes nothing.
use Rattle.std.specs.Prelude.{◌≡◌, ◌∷◌, ◌++◌, ◌+◌, ◌-◌, ◌/◌, ◌%◌, ◌^◌, ◌≤◌, ◌<◌}
use Rattle.lists.specs.Prelude.{refl, sym, ap, ◌∙◌, List, [], append_assoc, ℕ, zero, suc, pow-suc, pow-le-pow_right}
use Rattle.lists.specs.Prelude.{one-le-pow, mod-eq_of_lt, zero-add, dec_lt, arith, lt-ltb, le-ltb, length, take, drop}
use Rattle.lists.specs.Prelude.{length-append, drop-drop}
use Rattle.io.specs.Digits.{last_digits, hex_digit_ascii, IsDigitCount}
use Rattle.lists.specs.Placed.{placed}
use Rattle.lists.proofs.Placed.{placed_on}
use Rattle.ears_wire.specs.Line.{decimal_by}
use Rattle.ears_wire.specs.Promise.{Put, Lined}
use Rattle.ears_wire.proofs.Meets.{line_refused, line_accepted}

-- a part that is copied into a list from `at` on
pub put_copied : (out part ys : List ℕ) (at n : ℕ) → n ≡ length part → ys ≡ part
    → take at out ++ (ys ++ drop n (drop at out)) ≡ placed out at part
unfolding placed
put_copied out part ys at n long e =
    rw (long, e, drop-drop (length part) at out)
    (sym (append_assoc (take at out) part (drop (at + length part) out)))

-- a part more, where the last one ended
pub put_more : {out : List ℕ} {at : ℕ} {a : List ℕ} {end : ℕ} {ys b : List ℕ} {end₁ : ℕ} {last : List ℕ}
    → Put out at a end ys → Put ys end b end₁ last
    → end₁ ≤ length out → Put out at (a ++ b) end₁ last
put_more {out} {at} {a} {end} {ys} {b} p q h =
    record {
      ends = q.ends ∙ omega (arith, p.ends, length-append a b);
      filled =
          q.filled ∙ ap (λ (k : ℕ). placed ys k b) p.ends
          ∙ ap (λ (l : List ℕ). placed l (at + length a) b) p.filled
          ∙ placed_on out at (length a) a b refl (omega (arith, p.ends, q.ends));
    }

-- a part is known by what it holds
pub put_same : {out : List ℕ} {at : ℕ} {a b : List ℕ} {end : ℕ} {after : List ℕ} → a ≡ b → Put out at a end after
    → Put out at b end after
put_same {out} {at} e p =
    record { ends = p.ends ∙ ap (λ (t : List ℕ). at + length t) e; filled = p.filled ∙ ap (placed out at) e }

-- a list with no room, and one with room
pub lined_not : (out line : List ℕ) → length out < 64 → Lined out line 0 out
lined_not out line h = sym (line_refused out line h)

pub lined_put : (out line : List ℕ) (size : ℕ) (after : List ℕ) → 64 ≤ length out → Put out 0 line size after
    → Lined out line size after
lined_put out line size after h p =
    (λ i. record { size = (p.ends ∙ zero-add (length line)) i; out = p.filled i }) ∙ sym (line_accepted out line h)

-- ---- digits

-- a number of 64 bits has at most twenty
pub fewest_few : (n r : ℕ) → n < 2 ^ 64 → IsDigitCount 10 1 n r → r ≤ 20
fewest_few n r small f =
    elim (dec_lt 20 r) [
      | yes many ↦ let more : 20 ≤ r - 1 = omega arith in let low : 10 ^ 20 ≤ 10 ^ (r - 1) = pow-le-pow_right {n = 10}
          (omega arith) more in absurd (omega (arith, f.2 (omega arith)))
      | no few ↦ omega arith
    ]

digit_glyph : (d : ℕ) → d < 10 → hex_digit_ascii d ≡ 48 + d
digit_glyph d h = rw (lt-ltb d 10 h)

pub fewest_digits : (k r n : ℕ) → r ≤ k → IsDigitCount 10 1 n r → last_digits 10 r n ≡ decimal_by k n
unfolding decimal_by
fewest_digits k zero n h f = absurd (omega arith)
fewest_digits zero (suc r) n h f = absurd (omega arith)
fewest_digits (suc k) (suc zero) n h f =
    let small : n < 10 = f.1 in
    rw (lt-ltb n 10 small, mod-eq_of_lt small) (ap (λ (d : ℕ). d ∷ []) (digit_glyph n small))
fewest_digits (suc k) (suc (suc r)) n h f =
    let p = pow-suc 10 (suc r) in
    let q = pow-suc 10 r in
    let big : 10 ^ (suc (suc r) - 1) ≤ n = f.2 (omega arith) in
    let same : suc (suc r) - 1 ≡ suc r = omega arith in
    let big₁ : 10 ^ suc r ≤ n = rw same at big in
    let pos : 0 < 10 ^ r = one-le-pow r 10 (omega arith) in
    let ten : 10 ≤ n = omega arith in
    let upper : n / 10 < 10 ^ suc r = omega (arith, f.1) in
    let less : suc r - 1 ≡ r = omega arith in
    let lower : 10 ^ (suc r - 1) ≤ n / 10 = rw less (omega arith) in
    rw (le-ltb n 10 ten, fewest_digits k (suc r) (n / 10) (omega arith) (omega arith, upper, λ _. lower))
    (ap (λ (d : ℕ). decimal_by k (n / 10) ++ (d ∷ [])) (digit_glyph (n % 10) (omega arith)))
