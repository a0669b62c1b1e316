-- No operation favours a sign, in any format: with the other sign a fraction rounds to the other float of that size
-- (`round_negated`), a factor gives the other product (`mul_negated`), whichever factor it is (`mul_either`), and a
-- literal is the other one (`literal_negated`). Two opposites compare the other way round (`lt_negated`, `le_negated`).
-- Signs of zeros and infinities are among them, and the one NaN stays. Assumes nothing.
use Rattle.std.specs.Prelude.{◌≡◌, ◌&&◌, ◌||◌, ◌+◌, ◌*◌, ◌^◌}
use Rattle.lists.specs.Prelude.{refl, ap, ap₂, sym, ◌∙◌, subst, Bool, true, false, not, bool_beq, cond, ℕ, zero, suc}
use Rattle.lists.specs.Prelude.{add_comm, eqb-true, eqb-false, ne_eqb, pos, negsuc, eqb, ltb, Float, nan, inf, fin}
use Rattle.lists.specs.Prelude.{Format, binary64, prec, emax, low, mul, neg, unlike, odd, units, round, up, down, below}
use Rattle.lists.specs.Prelude.{level, lt, eq, le}
use lib.Ieee.Scale.{finite}
use Rattle.lists.proofs.Tests.{by_test}
use Rattle.formats.specs.Floats.{literal}
use Rattle.formats.proofs.Exchanged.{mul_exchanged}

-- ---- the other sign

not_not : (s : Bool) → not (not s) ≡ s
not_not true = refl
not_not false = refl

pub unlike_not : (s t : Bool) → unlike (not s) t ≡ not (unlike s t)
unlike_not true true = refl
unlike_not true false = refl
unlike_not false true = refl
unlike_not false false = refl

pub neg_neg : (x : Float) → neg (neg x) ≡ x
unfolding neg
neg_neg nan = refl
neg_neg (inf s) = ap inf (not_not s)
neg_neg (fin s m e) = ap (λ (b : Bool). fin b m e) (not_not s)

neg_cond : (b : Bool) (x y : Float) → neg (cond b x y) ≡ cond b (neg x) (neg y)
neg_cond true x y = refl
neg_cond false x y = refl

-- ---- rounding

odd_negated : (d : ℕ) (s : Bool) (q k l : ℕ) → neg (odd d s q k l) ≡ odd d (not s) q k l
unfolding odd neg
odd_negated d s zero k l = refl
odd_negated d s (suc q) k l = refl

units_negated : (f : Format) (s : Bool) (q k : ℕ) → neg (units f s q k) ≡ units f (not s) q k
unfolding units neg
units_negated f s q k =
    let below : Bool = ltb (q * 2 ^ k) (2 ^ (low f + suc (emax f))) in
    neg_cond below (odd (suc (prec f)) s q k (low f)) (inf s)
    ∙ ap (λ (x : Float). cond below x (inf (not s))) (odd_negated (suc (prec f)) s q k (low f))

pub round_negated : (f : Format) (s : Bool) (num den : ℕ) → neg (round f s num den) ≡ round f (not s) num den
unfolding round
round_negated f s num den = units_negated f s _ _

-- of z / d for a z above 0: there is one 0, and its literal has no sign
pub literal_negated : (n d : ℕ) → literal (negsuc n) d ≡ neg (literal (pos (suc n)) d)
literal_negated n d = sym (round_negated binary64 false (suc n) d)

-- ---- products

module _ (f : Format) where
  pub mul_negated : (x y : Float) → mul f (neg x) y ≡ neg (mul f x y)
  unfolding mul neg
  mul_negated nan y = refl
  mul_negated (inf s) nan = refl
  mul_negated (inf s) (inf t) = ap inf (unlike_not s t)
  mul_negated (inf s) (fin t n d) =
      ap (λ (b : Bool). cond (eqb n 0) nan (inf b)) (unlike_not s t) ∙ sym (neg_cond (eqb n 0) nan (inf (unlike s t)))
  mul_negated (fin s m e) nan = refl
  mul_negated (fin s m e) (inf t) =
      ap (λ (b : Bool). cond (eqb m 0) nan (inf b)) (unlike_not s t) ∙ sym (neg_cond (eqb m 0) nan (inf (unlike s t)))
  mul_negated (fin s m e) (fin t n d) =
      let size : ℕ = m * up e * (n * up d) in
      ap (λ (b : Bool). round f b size (down e * down d)) (unlike_not s t)
      ∙ sym (round_negated f (unlike s t) size (down e * down d))

  pub mul_negated_right : (x y : Float) → mul f x (neg y) ≡ neg (mul f x y)
  mul_negated_right x y = mul_exchanged f x (neg y) ∙ mul_negated y x ∙ ap neg (mul_exchanged f y x)

  pub mul_either : (x y : Float) → mul f (neg x) y ≡ mul f x (neg y)
  mul_either x y = mul_negated x y ∙ sym (mul_negated_right x y)

-- ---- comparing

below_negated : (s : Bool) (a : ℕ) (t : Bool) (b : ℕ) → below (not s) a (not t) b ≡ below t b s a
below_negated false a false b = refl
below_negated false a true b = ap (ltb 0) (add_comm a b)
below_negated true a false b = refl
below_negated true a true b = refl

level_negated : (s : Bool) (a : ℕ) (t : Bool) (b : ℕ) → level (not s) a (not t) b ≡ level t b s a
level_negated s a t b = by_test (λ (q : Bool). level (not s) a (not t) b ≡ level t b s a) (eqb a b) same other
  where
    signs : (s t q : Bool) → bool_beq (not s) (not t) || q ≡ bool_beq t s || q
    signs true true q = refl
    signs true false q = refl
    signs false true q = refl
    signs false false q = refl

    same : eqb a b ≡ true → level (not s) a (not t) b ≡ level t b s a
    same e = subst (λ (n : ℕ). level (not s) a (not t) n ≡ level t n s a) (eqb-true a b e)
        (ap (λ (q : Bool). eqb a a && q) (signs s t (eqb a 0)))

    other : eqb a b ≡ false → level (not s) a (not t) b ≡ level t b s a
    other e =
        ap (λ (q : Bool). q && (bool_beq (not s) (not t) || eqb a 0)) e
        ∙ sym (ap (λ (q : Bool). q && (bool_beq t s || eqb b 0)) (ne_eqb b a (λ h. eqb-false a b e (sym h))))

-- both comparisons at once
compared_negated : (x y : Float) → (lt (neg x) (neg y) ≡ lt y x) × (eq (neg x) (neg y) ≡ eq y x)
unfolding lt eq neg
compared_negated nan nan = (refl, refl)
compared_negated nan (inf t) = (refl, refl)
compared_negated nan (fin t n d) = (refl, refl)
compared_negated (inf s) nan = (refl, refl)
compared_negated (inf true) (inf true) = (refl, refl)
compared_negated (inf true) (inf false) = (refl, refl)
compared_negated (inf false) (inf true) = (refl, refl)
compared_negated (inf false) (inf false) = (refl, refl)
compared_negated (inf s) (fin t n d) = (refl, refl)
compared_negated (fin s m e) nan = (refl, refl)
compared_negated (fin s m e) (inf true) = (refl, refl)
compared_negated (fin s m e) (inf false) = (refl, refl)
compared_negated (fin s m e) (fin t n d) =
    let a : ℕ = m * up e * down d in
    let b : ℕ = n * up d * down e in
    (below_negated s a t b, level_negated s a t b)

pub lt_negated : (x y : Float) → lt (neg x) (neg y) ≡ lt y x
lt_negated x y = (compared_negated x y).0

pub le_negated : (x y : Float) → le (neg x) (neg y) ≡ le y x
unfolding le
le_negated x y = ap₂ ◌||◌ (compared_negated x y).0 (compared_negated x y).1

pub finite_negated : (x : Float) → finite (neg x) ≡ finite x
unfolding neg
finite_negated nan = refl
finite_negated (inf s) = refl
finite_negated (fin s m e) = refl
