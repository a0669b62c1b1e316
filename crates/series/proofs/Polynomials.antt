-- Polynomials as lists of whole coefficients, the lowest first, evaluated at a fraction x / d over the one denominator
-- d ^ m: at a sum, a product, a fraction written larger, and a place shifted. Its laws are equations of values. Assumes
-- nothing.
use Rattle.std.specs.Prelude.{◌≡◌, ◌∷◌, ◌*◌, ◌<◌}
use Rattle.lists.specs.Prelude.{refl, List, [], ℕ, zero, suc, mul-pos, arith, lit<}
use Rattle.series.proofs.Wholes.{Whole, nought, more, ◌⊞◌, ◌⊠◌, ◌·◌, by_parts}

-- d ^ m and n + m, which unfold at a variable
unfoldable pub power_of : ℕ → ℕ → ℕ
power_of d zero = 1
power_of d (suc m) = d * power_of d m

unfoldable pub further : ℕ → ℕ → ℕ
further zero m = m
further (suc n) m = suc (further n m)

pub power_pos : (d m : ℕ) → 0 < d → 0 < power_of d m
unfolding power_of
power_pos d zero h = lit< tt
power_pos d (suc m) h = mul-pos h (power_pos d m h)

pub power_times : (k d m : ℕ) → power_of (k * d) m ≡ power_of k m * power_of d m
unfolding power_of
power_times k d zero = refl
power_times k d (suc m) = rw (power_times k d m) (omega arith)

pub power_further : (d n m : ℕ) → power_of d (further n m) ≡ power_of d n * power_of d m
unfolding power_of further
power_further d zero m = omega arith
power_further d (suc n) m = rw (power_further d n m) (omega arith)

-- the sum of c_j * x ^ j * d ^ (m - j): the polynomial at x / d, times d ^ m. The list has m coefficients at most.
unfoldable pub value : ℕ → List Whole → Whole → ℕ → Whole
value zero cs x d = nought
value (suc m) [] x d = nought
value (suc m) (c ∷ cs) x d = power_of d (suc m) · c ⊞ x ⊠ value m cs x d

-- ---- sums, multiples and products of polynomials

unfoldable pub add : List Whole → List Whole → List Whole
add [] bs = bs
add (a ∷ us) [] = a ∷ us
add (a ∷ us) (b ∷ bs) = (a ⊞ b) ∷ add us bs

unfoldable pub times : Whole → List Whole → List Whole
times c [] = []
times c (b ∷ bs) = (c ⊠ b) ∷ times c bs

unfoldable pub product : List Whole → List Whole → List Whole
product [] bs = []
product (a ∷ us) bs = add (times a bs) (nought ∷ product us bs)

-- the list has m coefficients at most
unfoldable pub Fits : ℕ → List Whole → Type 0
Fits m [] = Unit {0}
Fits zero (c ∷ cs) = ⊥
Fits (suc m) (c ∷ cs) = Fits m cs

fits_suc : (m : ℕ) (bs : List Whole) → Fits m bs → Fits (suc m) bs
unfolding Fits
fits_suc m [] h = tt
fits_suc zero (b ∷ bs) h = absurd h
fits_suc (suc m) (b ∷ bs) h = fits_suc m bs h

fits_further : (n m : ℕ) (bs : List Whole) → Fits m bs → Fits (further n m) bs
unfolding further
fits_further zero m bs h = h
fits_further (suc n) m bs h = fits_suc (further n m) bs (fits_further n m bs h)

-- the same fraction, written larger
pub value_larger : (k m : ℕ) (cs : List Whole) (x : Whole) (d : ℕ)
    → value m cs (k · x) (k * d) ≡ power_of k m · value m cs x d
unfolding value power_of
value_larger k zero cs x d = by_parts (omega arith) (omega arith)
value_larger k (suc m) [] x d = by_parts (omega arith) (omega arith)
value_larger k (suc m) (c ∷ cs) x d =
    rw (value_larger k m cs x d, power_times k d m) (by_parts (omega arith) (omega arith))

module _ (x : Whole) (d : ℕ) where
  pub value_none : (m : ℕ) → value m [] x d ≡ nought
  unfolding value
  value_none zero = refl
  value_none (suc m) = refl

  pub value_constant : (m : ℕ) (c : Whole) → value (suc m) (c ∷ []) x d ≡ power_of d (suc m) · c
  unfolding value
  value_constant m c = rw (value_none m) (by_parts (omega arith) (omega arith))

  pub value_add : (m : ℕ) (us bs : List Whole) → value m (add us bs) x d ≡ value m us x d ⊞ value m bs x d
  unfolding value add
  value_add zero us bs = refl
  value_add (suc m) [] bs = by_parts (omega arith) (omega arith)
  value_add (suc m) (a ∷ us) [] = by_parts (omega arith) (omega arith)
  value_add (suc m) (a ∷ us) (b ∷ bs) = rw (value_add m us bs) (by_parts (omega arith) (omega arith))

  pub value_times : (m : ℕ) (c : Whole) (bs : List Whole) → value m (times c bs) x d ≡ c ⊠ value m bs x d
  unfolding value times
  value_times zero c bs = by_parts (omega arith) (omega arith)
  value_times (suc m) c [] = by_parts (omega arith) (omega arith)
  value_times (suc m) c (b ∷ bs) = rw (value_times m c bs) (by_parts (omega arith) (omega arith))

  value_suc : (m : ℕ) (bs : List Whole) → Fits m bs → value (suc m) bs x d ≡ d · value m bs x d
  unfolding value Fits power_of
  value_suc zero [] h = by_parts (omega arith) (omega arith)
  value_suc zero (b ∷ bs) h = absurd h
  value_suc (suc m) [] h = by_parts (omega arith) (omega arith)
  value_suc (suc m) (b ∷ bs) h = rw (value_suc m bs h) (by_parts (omega arith) (omega arith))

  value_further : (n m : ℕ) (bs : List Whole) → Fits m bs → value (further n m) bs x d ≡ power_of d n · value m bs x d
  unfolding power_of further
  value_further zero m bs h = by_parts (omega arith) (omega arith)
  value_further (suc n) m bs h = rw (value_suc (further n m) bs (fits_further n m bs h), value_further n m bs h)
      (by_parts (omega arith) (omega arith))

  pub value_product : (n m : ℕ) (us bs : List Whole) → Fits n us → Fits m bs
      → value (further n m) (product us bs) x d ≡ value n us x d ⊠ value m bs x d
  unfolding value product Fits further
  value_product zero m [] bs h k = rw (value_none m) (by_parts (omega arith) (omega arith))
  value_product zero m (a ∷ us) bs h k = absurd h
  value_product (suc n) m [] bs h k = by_parts (omega arith) (omega arith)
  value_product (suc n) m (a ∷ us) bs h k =
      rw (
        value_add (suc (further n m)) (times a bs) (nought ∷ product us bs),
        value_times (suc (further n m)) a bs,
        value_further (suc n) m bs k,
        value_product n m us bs h k,
      )
      (by_parts (omega arith) (omega arith))

-- ---- at x + a / b

-- a + b x, times t
unfoldable pub linear : ℕ → ℕ → List Whole → List Whole
linear a b t = add (times (more a) t) (nought ∷ times (more b) t)

-- b ^ m times the polynomial at x + a / b
unfoldable pub shifted : ℕ → ℕ → ℕ → List Whole → List Whole
shifted a b zero cs = []
shifted a b (suc m) [] = []
shifted a b (suc m) (c ∷ cs) = add ((power_of b (suc m) · c) ∷ []) (linear a b (shifted a b m cs))

fits_add : (m : ℕ) (us vs : List Whole) → Fits m us → Fits m vs → Fits m (add us vs)
unfolding Fits add
fits_add m [] vs h k = k
fits_add m (u ∷ us) [] h k = h
fits_add zero (u ∷ us) (v ∷ vs) h k = h
fits_add (suc m) (u ∷ us) (v ∷ vs) h k = fits_add m us vs h k

fits_times : (m : ℕ) (c : Whole) (us : List Whole) → Fits m us → Fits m (times c us)
unfolding Fits times
fits_times m c [] h = tt
fits_times zero c (u ∷ us) h = h
fits_times (suc m) c (u ∷ us) h = fits_times m c us h

fits_linear : (a b m : ℕ) (t : List Whole) → Fits m t → Fits (suc m) (linear a b t)
unfolding Fits linear
fits_linear a b m t h = fits_add (suc m) (times (more a) t) (nought ∷ times (more b) t)
    (fits_suc m (times (more a) t) (fits_times m (more a) t h)) (fits_times m (more b) t h)

fits_shifted : (a b m : ℕ) (cs : List Whole) → Fits m (shifted a b m cs)
unfolding Fits shifted
fits_shifted a b zero cs = tt
fits_shifted a b (suc m) [] = tt
fits_shifted a b (suc m) (c ∷ cs) = fits_add (suc m) ((power_of b (suc m) · c) ∷ []) (linear a b (shifted a b m cs)) tt
    (fits_linear a b m (shifted a b m cs) (fits_shifted a b m cs))

value_linear : (x : Whole) (d a b m : ℕ) (t : List Whole) → Fits m t
    → value (suc m) (linear a b t) x d ≡ (d * a) · value m t x d ⊞ b · (x ⊠ value m t x d)
unfolding linear value
value_linear x d a b m t h =
    rw (
      value_add x d (suc m) (times (more a) t) (nought ∷ times (more b) t),
      value_times x d (suc m) (more a) t,
      value_suc x d m t h,
      value_times x d m (more b) t,
    )
    (by_parts (omega arith) (omega arith))

pub value_shifted : (a b k m : ℕ) (cs : List Whole) (x : Whole)
    → value m (shifted a b m cs) x (k * b) ≡ power_of b m · value m cs (more (k * a) ⊞ x) (k * b)
unfolding value shifted power_of
value_shifted a b k zero cs x = by_parts (omega arith) (omega arith)
value_shifted a b k (suc m) [] x = by_parts (omega arith) (omega arith)
value_shifted a b k (suc m) (c ∷ cs) x =
    rw (
      value_add x (k * b) (suc m) ((power_of b (suc m) · c) ∷ []) (linear a b (shifted a b m cs)),
      value_none x (k * b) m,
      value_linear x (k * b) a b m (shifted a b m cs) (fits_shifted a b m cs),
      value_shifted a b k m cs x,
    ) (by_parts (omega arith) (omega arith))
