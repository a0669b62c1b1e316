-- The walk finds the row that a speaker takes (`takes`), and there is only one (`takes_one`). Assumes nothing.
use Rattle.std.specs.Prelude.{◌≡◌, ◌+◌, ◌-◌, ◌≤◌, ◌<◌}
use Rattle.lists.specs.Prelude.{refl, Bool, true, false, cond, List, ℕ, zero, suc, le_refl, dec_lt, sub-one, arith}
use Rattle.lists.specs.Prelude.{lt-ltb, le-ltb, ltb, ℤ}
use Rattle.lists.specs.OneAnswer.{OneAnswer}
use Rattle.bank_choice.specs.Nearest.{Takes}
use Rattle.bank_choice.specs.Choice.{ChoiceMeets}
use Rattle.bank_choice.specs.Computed.{key, nearer, nearest_from}
use Rattle.bank_choice.proofs.KeyOrder.{key_nearer, nearer_key}

module _ (zs es : List ℤ) (p q : ℤ) where
  pub nearer_other : (best j : ℕ) → key zs es p q j < key zs es p q best → j ≡ nearer zs es p q best j
  unfolding nearer
  nearer_other best j h = rw (lt-ltb _ _ h)

  pub nearer_first : (best j : ℕ) → key zs es p q best ≤ key zs es p q j → best ≡ nearer zs es p q best j
  unfolding nearer
  nearer_first best j h = rw (le-ltb _ _ h)

  pub nearer_below : (best j n : ℕ) → best < n → j < n → nearer zs es p q best j < n
  unfolding nearer
  nearer_below best j n h g = go (ltb (key zs es p q j) (key zs es p q best))
    where
      go : (t : Bool) → cond t j best < n
      go true = g
      go false = h

  pub nearest_next : (best j k : ℕ) → 0 < k → nearest_from zs es p q best j k ≡ nearest_from zs es p q
      (nearer zs es p q best j) (j + 1) (k - 1)
  unfolding nearest_from
  nearest_next best j zero h = absurd (omega arith)
  nearest_next best j (suc k) h = rw (sub-one (suc k))

  pub nearest_end : (best j : ℕ) → nearest_from zs es p q best j 0 ≡ best
  unfolding nearest_from
  nearest_end best j = refl

  walk : (best j k : ℕ) → best < j → ((i : ℕ) → i < j → key zs es p q best ≤ key zs es p q i)
      → ((i : ℕ) → i < best → key zs es p q best < key zs es p q i)
      → Takes zs es (j + k) p q (nearest_from zs es p q best j k)
  unfolding nearest_from
  walk best j zero h near first =
      record {
        among = omega arith;
        nearest = λ i g n. omega (arith, near i (omega arith), nearer_key zs es p q i best n);
        earliest = λ i g. key_nearer zs es p q best i (first i g);
      }
  walk best j (suc k) h near first =
      let l : j + suc k ≡ j + 1 + k = omega arith in
      elim (dec_lt (key zs es p q j) (key zs es p q best)) [
        | yes f ↦
            rw (← nearer_other best j f, l)
            (walk j (j + 1) k (omega arith)
            (λ i g. elim (dec_lt i j) [
              | yes s ↦ let t = near i s in omega arith
              | no s ↦ let e : i
                  ≡ j = omega arith in rw e (le_refl (key zs es p q j))
            ])
            (λ i g. let t = near i g in omega arith))
        | no f ↦
            rw (← nearer_first best j (omega arith), l)
            (walk best (j + 1) k (omega arith)
            (λ i g. elim (dec_lt i j)
            [ yes s ↦ near i s | no s ↦ let e : i ≡ j = omega arith in rw e (omega arith) ]) first)
      ]

  pub takes : (n : ℕ) → 1 ≤ n → Takes zs es n p q (nearest_from zs es p q 0 1 (n - 1))
  takes n h =
      let l : 1 + (n - 1) ≡ n = omega arith in
      rw l at (walk 0 1 (n - 1) (omega arith) (λ i g. let e : i ≡ 0 = omega arith in rw e (le_refl (key zs es p q 0)))
      (λ i g. absurd (omega arith)))

  pub takes_one : (n : ℕ) → OneAnswer (Takes zs es n p q)
  takes_one n a b x y =
      elim (dec_lt a b) [
        | yes h ↦ absurd (x.nearest b y.among (y.earliest a h))
        | no h ↦
            elim (dec_lt b a) [
              | yes g ↦ absurd (y.nearest a x.among (x.earliest b g))
              | no g ↦ omega arith
            ]
      ]

pub choice_meets : ChoiceMeets
choice_meets zs es p q = takes zs es p q
