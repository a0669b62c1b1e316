-- A sum and a product of two floats are the same either way round, in any format. Assumes nothing.
use Rattle.std.specs.Prelude.{◌≡◌, ◌&&◌, ◌-◌, ◌*◌, ◌<◌}
use Rattle.lists.specs.Prelude.{refl, sym, ap, ◌∙◌, Bool, true, false, cond, and-true, and-false, ℕ, mul_comm, add_comm}
use Rattle.lists.specs.Prelude.{le_of_eq, le_of_lt, lt-ltb, le-ltb, ltb, eqb, Float, nan, inf, fin, Format, up, down}
use Rattle.lists.specs.Prelude.{unlike, round, sum, add, mul}
use Rattle.lists.proofs.Tests.{order_cases}

unlike_exchanged : (s t : Bool) → unlike s t ≡ unlike t s
unlike_exchanged true true = refl
unlike_exchanged true false = refl
unlike_exchanged false true = refl
unlike_exchanged false false = refl

-- a - b with a sign for each way, and b - a
module _ (f : Format) (c : ℕ) where
  abbrev difference : Bool → ℕ → Bool → ℕ → Float
  difference s a t b = cond (ltb a b) (round f t (b - a) c) (round f (s && ltb b a) (a - b) c)

  less_exchanged : (s : Bool) (a : ℕ) (t : Bool) (b : ℕ) → a < b → difference s a t b ≡ difference t b s a
  less_exchanged s a t b l = rw (lt-ltb a b l, le-ltb b a (le_of_lt l), and-true t)

  equal_exchanged : (s : Bool) (a : ℕ) (t : Bool) (b : ℕ) → a ≡ b → difference s a t b ≡ difference t b s a
  equal_exchanged s a t b e = rw (le-ltb a b (le_of_eq (sym e)), le-ltb b a (le_of_eq e), and-false s, and-false t, e)

  difference_exchanged : (s : Bool) (a : ℕ) (t : Bool) (b : ℕ) → difference s a t b ≡ difference t b s a
  difference_exchanged s a t b =
      order_cases a b (less_exchanged s a t b) (equal_exchanged s a t b) (λ l. sym (less_exchanged t b s a l))

sum_exchanged : (f : Format) (s : Bool) (a : ℕ) (t : Bool) (b c : ℕ) → sum f s a t b c ≡ sum f t b s a c
unfolding sum
sum_exchanged f true a true b c = ap (λ (k : ℕ). round f true k c) (add_comm a b)
sum_exchanged f false a false b c = ap (λ (k : ℕ). round f false k c) (add_comm a b)
sum_exchanged f true a false b c = difference_exchanged f c true a false b
sum_exchanged f false a true b c = difference_exchanged f c false a true b

module _ (f : Format) where
  pub add_exchanged : (x y : Float) → add f x y ≡ add f y x
  unfolding add
  add_exchanged nan nan = refl
  add_exchanged nan (inf t) = refl
  add_exchanged nan (fin t n d) = refl
  add_exchanged (inf s) nan = refl
  add_exchanged (inf true) (inf true) = refl
  add_exchanged (inf true) (inf false) = refl
  add_exchanged (inf false) (inf true) = refl
  add_exchanged (inf false) (inf false) = refl
  add_exchanged (inf s) (fin t n d) = refl
  add_exchanged (fin s m e) nan = refl
  add_exchanged (fin s m e) (inf t) = refl
  add_exchanged (fin s m e) (fin t n d) =
      sum_exchanged f s _ t _ _ ∙ ap (sum f t (n * up d * down e) s (m * up e * down d)) (mul_comm (down e) (down d))

  pub mul_exchanged : (x y : Float) → mul f x y ≡ mul f y x
  unfolding mul
  mul_exchanged nan nan = refl
  mul_exchanged nan (inf t) = refl
  mul_exchanged nan (fin t n d) = refl
  mul_exchanged (inf s) nan = refl
  mul_exchanged (inf s) (inf t) = ap inf (unlike_exchanged s t)
  mul_exchanged (inf s) (fin t n d) = ap (λ (b : Bool). cond (eqb n 0) nan (inf b)) (unlike_exchanged s t)
  mul_exchanged (fin s m e) nan = refl
  mul_exchanged (fin s m e) (inf t) = ap (λ (b : Bool). cond (eqb m 0) nan (inf b)) (unlike_exchanged s t)
  mul_exchanged (fin s m e) (fin t n d) =
      λ i. round f (unlike_exchanged s t i) (mul_comm (m * up e) (n * up d) i) (mul_comm (down e) (down d) i)
