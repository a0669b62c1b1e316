-- Laws of `||` over a list of tests, the invariant of a loop that stops at the first test that holds (`Passing`),
-- and laws of lists of finite floats. Assumes nothing.
use Rattle.std.specs.Prelude.{◌≡◌, ◌||◌, ◌∷◌, ◌+◌, ◌-◌, ◌*◌, ◌≤◌, ◌<◌, slice_index_or}
use Rattle.lists.specs.Prelude.{refl, sym, ap, ◌∙◌, subst, Bool, true, false, not, List, [], ℕ, zero, suc, zero-le}
use Rattle.lists.specs.Prelude.{not-suc-le-zero, zero-add, add-zero, add-suc, suc-add, arith, length, get_or, take, map}
use Rattle.lists.specs.Prelude.{length-map}
use Rattle.lists.specs.Prelude.{drop, eqb, ltb, eq-eqb, le-ltb, eqb-true, not-false, ltb-false, Float, nan}
use lib.Ieee.Scale.{finite}
pub use Rattle.refusals.proofs.Counts.{not_outside, count_inside}
pub use Rattle.refusals.proofs.First.{or_off}
use Rattle.std.specs.List.{list_any}
use Rattle.std.proofs.lemmas.List.{get_or-map}
use Rattle.lists.specs.Tables.{tab, any}
use Rattle.checks.specs.Finite.{has_nonfinite}
use Rattle.checks.specs.Lengths.{unfit}
use Rattle.lists.proofs.Tables.{tab_more, tab_none, tab_all, tab_get_or}

-- ---- the first that holds makes an `||` true; one that does not leaves it to the rest

pub or_yes : (a b : Bool) → a ≡ true → true ≡ (a || b)
or_yes a b e = ap (λ (t : Bool). t || b) (sym e)

pub or_next : (a b x : Bool) → a ≡ false → x ≡ b → x ≡ (a || b)
or_next a b x e n = n ∙ ap (λ (t : Bool). t || b) (sym e)

pub both_off : (a b : Bool) → a ≡ false → b ≡ false → (a || b) ≡ false
both_off a b p q = ap (λ (t : Bool). t || b) p ∙ q

pub any_off : (i n : ℕ) (f : ℕ → Bool) → any (tab i n f) ≡ false → (k : ℕ) → k < n → f (i + k) ≡ false
any_off i zero f e k h = absurd (not-suc-le-zero h)
any_off i (suc n) f e zero h = ap f (add-zero i) ∙ (or_off (f i) (any (tab (suc i) n f)) e).0
any_off i (suc n) f e (suc k) h = ap f (add-suc i k ∙ sym (suc-add i k))
    ∙ any_off (suc i) n f (or_off (f i) (any (tab (suc i) n f)) e).1 k (omega arith)

-- said of the places themselves
pub at_each : (i n : ℕ) (f : ℕ → Bool) → any (tab i n f) ≡ false → (k : ℕ) → i ≤ k → k < i + n → f k ≡ false
at_each i n f e k h l = subst (λ (j : ℕ). f j ≡ false) (omega arith) (any_off i n f e (k - i) (omega arith))

pub all_off : (i n : ℕ) (f : ℕ → Bool) → ((k : ℕ) → k < n → f (i + k) ≡ false) → any (tab i n f) ≡ false
all_off i zero f e = refl
all_off i (suc n) f e =
    both_off (f i) (any (tab (suc i) n f)) (ap f (sym (add-zero i)) ∙ e 0 (omega arith))
    (all_off (suc i) n f (λ k h. ap f (suc-add i k ∙ sym (add-suc i k)) ∙ e (suc k) (omega arith)))

-- a length that was tested is that product
pub is_equal : (a b : ℕ) → not (eqb a b) ≡ false → a ≡ b
is_equal a b e = eqb-true a b (not-false (eqb a b) e)

-- planes that were tested fit
pub fitted : (size planes stride frames : ℕ) → unfit size planes stride frames ≡ false
    → (frames ≤ stride) × (size ≡ planes * stride)
fitted size planes stride frames e =
    let p = or_off (ltb stride frames) (not (eqb size (planes * stride))) e in
    (ltb-false stride frames p.0, is_equal size (planes * stride) p.1)

-- and the other way: such a product and such planes pass the test

pub equal_passes : (a b : ℕ) → a ≡ b → not (eqb a b) ≡ false
equal_passes a b e = ap not (eq-eqb a b e)

pub planes_fit : (size planes stride frames : ℕ) → frames ≤ stride → size ≡ planes * stride
    → unfit size planes stride frames ≡ false
planes_fit size planes stride frames room e = both_off (ltb stride frames) (not (eqb size (planes * stride)))
    (le-ltb stride frames room) (equal_passes size (planes * stride) e)

-- ---- a loop over places 0, 1, .. that stops at the first of which f holds

pub record Passing (f : ℕ → Bool) (n s : ℕ) : Type 0 where
  pub below : s ≤ n
  pub same : any (tab s (n - s) f) ≡ any (tab 0 n f)

module _ (f : ℕ → Bool) (n : ℕ) where
  pub passing_none : Passing f n 0
  passing_none = record { below = zero-le; same = ap any (tab_all n f) }

  pub passing_more : (s : ℕ) → Passing f n s → s < n → f s ≡ false → Passing f n (s + 1)
  passing_more s p h e =
      record {
        below = omega arith;
        same = ap (λ (b : Bool). b || any (tab (s + 1) (n - (s + 1)) f)) (sym e)
            ∙ ap any (sym (tab_more n s f h)) ∙ p.same;
      }

  pub passing_found : (s : ℕ) → Passing f n s → s < n → f s ≡ true → true ≡ any (tab 0 n f)
  passing_found s p h e = or_yes (f s) (any (tab (s + 1) (n - (s + 1)) f)) e ∙ ap any (sym (tab_more n s f h)) ∙ p.same

  pub passing_all : (s : ℕ) → Passing f n s → n ≤ s → false ≡ any (tab 0 n f)
  passing_all s p h = ap any (sym (tab_none n s f h)) ∙ p.same

-- ---- floats that are NaN or infinite

-- of what is counted as a number by a function, as `any` finds it
pub nonfinite_any : {A : Type 0} (number : A → Float) (xs : List A)
    → list_any (λ x. not (finite (number x))) xs ≡ has_nonfinite (map number xs)
nonfinite_any number [] = refl
nonfinite_any number (x ∷ xs) = ap (λ (b : Bool). not (finite (number x)) || b) (nonfinite_any number xs)

-- what is a number itself
pub nonfinite_of : (xs : List Float) → has_nonfinite (map (λ (x : Float). x) xs) ≡ has_nonfinite xs
nonfinite_of [] = refl
nonfinite_of (x ∷ xs) = ap (λ (b : Bool). not (finite x) || b) (nonfinite_of xs)

abbrev pub is_nonfinite_at : (ℕ → Float) → ℕ → Bool
is_nonfinite_at f k = not (finite (f k))

nonfinite_tab : (i n : ℕ) (f : ℕ → Float) → any (tab i n (is_nonfinite_at f)) ≡ has_nonfinite (tab i n f)
nonfinite_tab i zero f = refl
nonfinite_tab i (suc n) f = ap (λ (b : Bool). is_nonfinite_at f i || b) (nonfinite_tab (suc i) n f)

-- the loop that stops at the first of them: x is the one looked at, and b whether it was found finite
module _ (f : ℕ → Float) (n : ℕ) where
  looked_at : (s : ℕ) (x : Float) (b t : Bool) → x ≡ f s → b ≡ finite x → not b ≡ t → is_nonfinite_at f s ≡ t
  looked_at s x b t ex eb e = ap (λ (v : Float). not (finite v)) (sym ex) ∙ ap not (sym eb) ∙ e

  pub finite_more : (s : ℕ) (x : Float) (b : Bool) → Passing (is_nonfinite_at f) n s → s < n → x ≡ f s → b ≡ finite x
      → not b ≡ false → Passing (is_nonfinite_at f) n (s + 1)
  finite_more s x b p h ex eb e = passing_more (is_nonfinite_at f) n s p h (looked_at s x b false ex eb e)

  pub nonfinite_found : (s : ℕ) (x : Float) (b : Bool) → Passing (is_nonfinite_at f) n s → s < n → x ≡ f s → b
      ≡ finite x
      → not b ≡ true → true ≡ has_nonfinite (tab 0 n f)
  nonfinite_found s x b p h ex eb e =
      passing_found (is_nonfinite_at f) n s p h (looked_at s x b true ex eb e) ∙ nonfinite_tab 0 n f

  pub finite_all : (s : ℕ) → Passing (is_nonfinite_at f) n s → n ≤ s → false ≡ has_nonfinite (tab 0 n f)
  finite_all s p h = passing_all (is_nonfinite_at f) n s p h ∙ nonfinite_tab 0 n f

-- the floats of a list
abbrev pub element_at : List Float → ℕ → Float
element_at xs k = get_or xs k nan

pub nonfinite_list : (xs : List Float) → has_nonfinite (tab 0 (length xs) (element_at xs)) ≡ has_nonfinite xs
nonfinite_list xs = ap has_nonfinite (tab_get_or xs nan)

-- the numbers of a list, each of which is what a function makes of the element that a loop is at
module _ {A : Type 0} (number : A → Float) (xs : List A) where
  pub number_at : (i : ℕ) (x : A) → i < length xs → x ≡ slice_index_or xs i x → number x ≡ element_at (map number xs) i
  number_at i x h e = ap number e ∙ sym (get_or-map number xs i x nan h)

  pub nonfinite_numbers : has_nonfinite (tab 0 (length xs) (element_at (map number xs))) ≡ has_nonfinite (map number xs)
  nonfinite_numbers =
      ap (λ (n : ℕ). has_nonfinite (tab 0 n (element_at (map number xs)))) (sym (length-map xs number))
      ∙ nonfinite_list (map number xs)

-- a place of a sound list is finite, and a list of finite places is sound

pub finite_at : (xs : List Float) (i : ℕ) → has_nonfinite xs ≡ false → i < length xs → finite (get_or xs i nan) ≡ true
finite_at xs i e h =
    not-false (finite (get_or xs i nan))
    (ap (is_nonfinite_at (element_at xs)) (sym (zero-add i)) ∙ any_off 0 (length xs) (is_nonfinite_at (element_at xs))
    (nonfinite_tab 0 (length xs) (element_at xs) ∙ nonfinite_list xs ∙ e) i h)

pub finite_tab : (i n : ℕ) (f : ℕ → Float) → ((k : ℕ) → finite (f k) ≡ true) → has_nonfinite (tab i n f) ≡ false
finite_tab i zero f e = refl
finite_tab i (suc n) f e = ap (λ (b : Bool). not b || has_nonfinite (tab (suc i) n f)) (e i) ∙ finite_tab (suc i) n f e

-- what is sound is sound in its parts

pub finite_take : (n : ℕ) (xs : List Float) → has_nonfinite xs ≡ false → has_nonfinite (take n xs) ≡ false
finite_take zero xs h = refl
finite_take (suc n) [] h = refl
finite_take (suc n) (x ∷ xs) h =
    let o = or_off (not (finite x)) (has_nonfinite xs) h in
    both_off (not (finite x)) (has_nonfinite (take n xs)) o.0 (finite_take n xs o.1)

pub finite_drop : (n : ℕ) (xs : List Float) → has_nonfinite xs ≡ false → has_nonfinite (drop n xs) ≡ false
finite_drop zero xs h = h
finite_drop (suc n) [] h = refl
finite_drop (suc n) (x ∷ xs) h = finite_drop n xs (or_off (not (finite x)) (has_nonfinite xs) h).1
