-- A sum begun at a number that is no -0.0 stays none, and so sees no sign of a zero, added or multiplied
-- (`total_unsigned`, `dot_unsigned`); so does an output of a frame (`mixed_unsigned`). Assumes nothing.
use Rattle.std.specs.Prelude.{◌≡◌, ◌∷◌}
use Rattle.lists.specs.Prelude.{refl, sym, ap, ◌∙◌, List, [], map, zero, suc, Float, nan, binary64, add, fits}
use lib.Ieee.Fits.{nan-fits, add-fits, mul-fits}
use Rattle.formats.specs.Floats.{Held, zero_float}
use Rattle.numbers.specs.Computed.{narrowed}
use Rattle.lists.specs.ForAll.{ForAll}
use Rattle.planes.specs.Sums.{total, products, dot, mixed}
use Rattle.formats.specs.Zeros.{unsigned_zero}
use Rattle.formats.proofs.Zeros.{Unsigned, mul_unsigned, add_unsigned, sum_unsigned}

-- ---- sums of f64

abbrev AllHeld : List Float → Type 0
AllHeld xs = ForAll Held nan xs

pub zero_held : Held zero_float
unfolding fits
zero_held = tt

pub zero_unsigned : Unsigned zero_float
zero_unsigned = refl

pub total_held : (a : Float) (xs : List Float) → Held a → Held (total a xs)
total_held a [] h = h
total_held a (x ∷ xs) h = total_held (add binary64 a x) xs (add-fits binary64 a x)

pub sum_stays : (a : Float) (xs : List Float) → Unsigned a → Held a → AllHeld xs → Unsigned (total a xs)
sum_stays a [] u h k = u
sum_stays a (x ∷ xs) u h k =
    sum_stays (add binary64 a x) xs (sum_unsigned binary64 a x u h (k 0)) (add-fits binary64 a x) (λ i. k (suc i))

total_unsigned : (a : Float) (xs : List Float) → Unsigned a → Held a → AllHeld xs
    → total a xs ≡ total a (map unsigned_zero xs)
total_unsigned a [] u h k = refl
total_unsigned a (x ∷ xs) u h k =
    total_unsigned (add binary64 a x) xs (sum_unsigned binary64 a x u h (k 0)) (add-fits binary64 a x) (λ i. k (suc i))
    ∙ ap (λ (b : Float). total b (map unsigned_zero xs)) (add_unsigned binary64 a x u)

-- ---- of products

products_held : (xs ys : List Float) → AllHeld (products xs ys)
products_held [] ys i = nan-fits binary64
products_held (x ∷ xs) [] i = nan-fits binary64
products_held (x ∷ xs) (y ∷ ys) zero = mul-fits binary64 x y
products_held (x ∷ xs) (y ∷ ys) (suc i) = products_held xs ys i

products_unsigned : (xs ys : List Float) → map unsigned_zero (products xs ys) ≡ map unsigned_zero
    (products (map unsigned_zero xs) (map unsigned_zero ys))
products_unsigned [] ys = refl
products_unsigned (x ∷ xs) [] = refl
products_unsigned (x ∷ xs) (y ∷ ys) = λ i. mul_unsigned binary64 x y i ∷ products_unsigned xs ys i

dot_unsigned : (a : Float) (xs ys : List Float) → Unsigned a → Held a
    → dot a xs ys ≡ dot a (map unsigned_zero xs) (map unsigned_zero ys)
dot_unsigned a xs ys u h =
    let ps = products xs ys in
    let qs = products (map unsigned_zero xs) (map unsigned_zero ys) in
    total_unsigned a ps u h (products_held xs ys) ∙ ap (total a) (products_unsigned xs ys)
    ∙ sym (total_unsigned a qs u h (products_held (map unsigned_zero xs) (map unsigned_zero ys)))

-- ---- outputs

pub mixed_unsigned : (ws xs : List Float) → mixed ws xs ≡ mixed (map unsigned_zero ws) (map unsigned_zero xs)
unfolding mixed
mixed_unsigned ws xs = ap narrowed (dot_unsigned zero_float xs ws zero_unsigned zero_held)
