-- Lists of which one is the other negated at some places, but for the signs of zeros: joined, cut short, read at a
-- place, put down by a rule, and multiplied or narrowed. Whatever the places are; and what is mixed of such lists.
-- Assumes nothing.
use Rattle.std.specs.Prelude.{◌≡◌, ◌∷◌, ◌++◌, ◌+◌, ◌*◌}
use Rattle.lists.specs.Prelude.{refl, sym, ap, ap₂, ◌∙◌, Bool, true, false, cond, List, [], map, map-append, ℕ, zero}
use Rattle.lists.specs.Prelude.{suc, zero-add, zero-mul, length, get_or, take, get_or-map, Float, nan, inf, fin, Format}
use Rattle.lists.specs.Prelude.{binary32, up, down, mul, neg}
use lib.Ieee.Fits.{down_pos}
use Rattle.lists.specs.Tables.{tab}
use Rattle.lists.proofs.Mapped.{map_take}
use Rattle.formats.specs.Zeros.{unsigned_zero}
use Rattle.formats.proofs.Signs.{round_negated, mul_negated, mul_negated_right}
use Rattle.formats.proofs.Zeros.{unsigned_twice, zero_signs}
use Rattle.formats.proofs.Opposite.{mul_alike}
use Rattle.numbers.specs.Computed.{rounded, narrowed}
use Rattle.planes.specs.Sums.{mixed}
use Rattle.planes.proofs.Zeros.{mixed_unsigned}
use Rattle.matrix.specs.Mirror.{negated_at, mirrored}
use Rattle.matrix.proofs.Mirror.{get_or_negated, negated_take, negated_append, map_negated_each}
use Rattle.matrix.proofs.Ears.{mixed_mirrored}
use Rattle.mirror.specs.Scenes.{Swapped}

-- ---- what is done to each number: of the opposite it makes the opposite, and it looks at no zero's sign, but for the
-- sign of the zero that it gives

pub record Odd (f : Float → Float) : Type 0 where
  pub alike : (x y : Float) → unsigned_zero x ≡ unsigned_zero y → unsigned_zero (f x) ≡ unsigned_zero (f y)
  pub negated : (x : Float) → f (neg x) ≡ neg (f x)

pub times_odd : (f : Format) (k : Float) → Odd (λ (x : Float). mul f x k)
times_odd f k = record { alike = λ x y h. mul_alike f x y k k h refl; negated = λ x. mul_negated f x k }

pub factor_odd : (f : Format) (k : Float) → Odd (λ (x : Float). mul f k x)
factor_odd f k = record { alike = λ x y h. mul_alike f k k x y refl h; negated = λ x. mul_negated_right f k x }

pub narrowed_odd : Odd narrowed
unfolding rounded neg
narrowed_odd = record {
  alike = λ x y h. unsigned x ∙ ap (λ (z : Float). unsigned_zero (narrowed z)) h
      ∙ sym (unsigned y);
  negated = opposite;
}
  where
    unsigned : (x : Float) → unsigned_zero (narrowed x) ≡ unsigned_zero (narrowed (unsigned_zero x))
    unsigned nan = refl
    unsigned (inf s) = refl
    unsigned (fin s zero e) = zero_signs binary32 s false (0 * up e) (down e) (zero-mul (up e)) (down_pos e)
    unsigned (fin s (suc m) e) = refl

    opposite : (x : Float) → narrowed (neg x) ≡ neg (narrowed x)
    opposite nan = refl
    opposite (inf s) = refl
    opposite (fin s m e) = sym (round_negated binary32 s (m * up e) (down e))

module _ (named : ℕ → Bool) where
  -- ys is xs, whose first element is at place i, negated at the places that are named
  abbrev pub SwappedAt : ℕ → List Float → List Float → Type 0
  SwappedAt i xs ys = map unsigned_zero ys ≡ map unsigned_zero (negated_at neg named i xs)

  -- one element
  abbrev if_named : ℕ → Float → Float
  if_named i x = cond (named i) (neg x) x

  -- ---- joined

  pub swapped_append : (i : ℕ) (xs xs' ys ys' : List Float) → SwappedAt i xs xs' → SwappedAt (i + length xs) ys ys'
      → SwappedAt i (xs ++ ys) (xs' ++ ys')
  swapped_append i xs xs' ys ys' h k =
      map-append unsigned_zero xs' ys' ∙ ap₂ ◌++◌ h k
      ∙ sym (map-append unsigned_zero (negated_at neg named i xs) (negated_at neg named (i + length xs) ys))
      ∙ ap (map unsigned_zero) (sym (negated_append neg named i xs ys))

  -- ---- cut short

  pub swapped_take : (n i : ℕ) (xs ys : List Float) → SwappedAt i xs ys → SwappedAt i (take n xs) (take n ys)
  swapped_take n i xs ys h = map_take unsigned_zero n ys ∙ ap (take n) h
      ∙ sym (map_take unsigned_zero n (negated_at neg named i xs))
      ∙ ap (map unsigned_zero) (negated_take neg named n i xs)

  -- ---- read at a place, and put down by a rule

  pub swapped_at : (xs ys : List Float) → SwappedAt 0 xs ys → (k : ℕ)
      → unsigned_zero (get_or ys k nan) ≡ unsigned_zero (if_named k (get_or xs k nan))
  unfolding neg
  swapped_at xs ys h k =
      sym (get_or-map unsigned_zero ys k nan) ∙ ap (λ (l : List Float). get_or l k nan) h
      ∙ get_or-map unsigned_zero (negated_at neg named 0 xs) k nan
      ∙ ap unsigned_zero (get_or_negated neg named nan refl 0 xs k
      ∙ ap (λ (j : ℕ). if_named j (get_or xs k nan)) (zero-add k))

  pub swapped_tab : (i n : ℕ) (f g : ℕ → Float) → ((k : ℕ) → unsigned_zero (g k) ≡ unsigned_zero (if_named k (f k)))
      → SwappedAt i (tab i n f) (tab i n g)
  swapped_tab i zero f g h = refl
  swapped_tab i (suc n) f g h = ap₂ ◌∷◌ (h i) (swapped_tab (suc i) n f g h)

  -- ---- done something to

  module _ {f : Float → Float} (odd : Odd f) where
    pub swapped_by : (i : ℕ) (x y : Float) → unsigned_zero y ≡ unsigned_zero (if_named i x)
        → unsigned_zero (f y) ≡ unsigned_zero (if_named i (f x))
    swapped_by i x y h = odd.alike y (if_named i x) h ∙ ap unsigned_zero (either (named i))
      where
        either : (b : Bool) → f (cond b (neg x) x) ≡ cond b (neg (f x)) (f x)
        either true = odd.negated x
        either false = refl

    map_unsigned : (xs : List Float) → map unsigned_zero (map f xs) ≡ map (λ (x : Float). unsigned_zero (f x))
        (map unsigned_zero xs)
    map_unsigned [] = refl
    map_unsigned (x ∷ xs) = ap₂ ◌∷◌ (odd.alike x (unsigned_zero x) (sym (unsigned_twice x))) (map_unsigned xs)

    pub swapped_map : (i : ℕ) (xs ys : List Float) → SwappedAt i xs ys → SwappedAt i (map f xs) (map f ys)
    swapped_map i xs ys h =
        map_unsigned ys ∙ ap (map (λ (x : Float). unsigned_zero (f x))) h
        ∙ sym (map_unsigned (negated_at neg named i xs))
        ∙ ap (map unsigned_zero) (map_negated_each neg neg f odd.negated named i xs)

-- ---- mixed: a sum sees no sign of a zero, so that what is swapped gives the same bits as what is mirrored

pub mixed_weights : (xs ys frame : List Float) → Swapped xs ys → mixed ys frame ≡ mixed xs (mirrored neg frame)
mixed_weights xs ys frame h =
    mixed_unsigned ys frame ∙ ap (λ (w : List Float). mixed w (map unsigned_zero frame)) h
    ∙ sym (mixed_unsigned (mirrored neg xs) frame) ∙ mixed_mirrored xs frame

pub mixed_frames : (weights xs ys : List Float) → Swapped xs ys → mixed weights ys ≡ mixed weights (mirrored neg xs)
mixed_frames weights xs ys h =
    mixed_unsigned weights ys ∙ ap (mixed (map unsigned_zero weights)) h
    ∙ sym (mixed_unsigned weights (mirrored neg xs))
