-- The laws of numbers as bytes, over the width: the value of a number's bytes is the number (`value_bytes`), the bytes
-- of a value are the bytes (`bytes_value`). Assumes nothing.
use Rattle.std.specs.Prelude.{◌≡◌, ◌∷◌, ◌++◌, ◌+◌, ◌-◌, ◌*◌, ◌/◌, ◌%◌, ◌^◌, ◌<◌}
use Rattle.lists.specs.Prelude.{refl, sym, ap, ◌∙◌, List, [], ℕ, zero, suc, pow-suc, one-le-pow, mod-eq_of_lt, mod-one}
use Rattle.lists.specs.Prelude.{mul-add-div_right, mul-add-mod_self_right, arith, length, get_or, length-append}
use lib.Arith.{digits_div, mod-mul, digits_lt}
use Rattle.big_endian.specs.Bytes.{value_of, bytes_of, AreBytes}

pub power_pos : (k : ℕ) → 0 < 256 ^ k
power_pos k = one-le-pow k 256 (omega arith)

pub length_bytes : (count n : ℕ) → length (bytes_of count n) ≡ count
unfolding bytes_of
length_bytes zero n = refl
length_bytes (suc k) n = ap suc (length_bytes k n)

-- the byte that weighs 256 ^ k
pub digit : (count n i : ℕ) → i < count → get_or (bytes_of count n) i 0 ≡ n / 256 ^ (count - suc i) % 256
unfolding bytes_of
digit zero n i h = absurd (omega arith)
digit (suc k) n zero h = let q : suc k - 1 ≡ k = omega arith in rw q
digit (suc k) n (suc i) h = let q : suc k - suc (suc i) ≡ k - suc i = omega arith in rw q (digit k n i (omega arith))

-- reading what was written: the last `count` digits are the number modulo 256 ^ count
pub value_bytes : (count n : ℕ) → value_of (bytes_of count n) ≡ n % 256 ^ count
unfolding value_of bytes_of
value_bytes zero n = sym (mod-one n)
value_bytes (suc k) n =
    let c = 256 ^ k in
    let w : 256 ^ suc k ≡ 256 * c = pow-suc 256 k ∙ omega arith in
    rw (length_bytes k n, value_bytes k n, w) (sym (mod-mul n {m = 256} {c = c} (omega arith) (power_pos k)))

pub value_bytes_fits : (count n : ℕ) → n < 256 ^ count → value_of (bytes_of count n) ≡ n
value_bytes_fits count n h = value_bytes count n ∙ mod-eq_of_lt h

pub value_below : (bs : List ℕ) → AreBytes bs → value_of bs < 256 ^ length bs
unfolding value_of
value_below [] h = power_pos 0
value_below (b ∷ bs) h =
    let c = 256 ^ length bs in
    let w : 256 ^ suc (length bs) ≡ 256 * c = pow-suc 256 (length bs) ∙ omega arith in
    rw w (digits_lt {q = b} {m = 256} {r = value_of bs} {c = c} (h 0) (value_below bs (λ i. h (suc i))))

-- digits that weigh more than the last k change none of these
bytes_above : (k a v : ℕ) → bytes_of k (a * 256 ^ k + v) ≡ bytes_of k v
unfolding bytes_of
bytes_above zero a v = refl
bytes_above (suc k) a v =
    let c = 256 ^ k in
    let w : a * 256 ^ suc k + v ≡ a * 256 * c + v = ap (λ (y : ℕ). a * y + v) (pow-suc 256 k) ∙ omega arith in
    let d : (a * 256 * c + v) / c ≡ a * 256 + v / c = mul-add-div_right {m = c} (power_pos k) (a * 256) v in
    rw (w, d, mul-add-mod_self_right a 256 (v / c), bytes_above k (a * 256) v)

-- writing what was read
pub bytes_value : (bs : List ℕ) → AreBytes bs → bytes_of (length bs) (value_of bs) ≡ bs
unfolding value_of bytes_of
bytes_value [] h = refl
bytes_value (b ∷ bs) h =
    let k = length bs in
    let v = value_of bs in
    let d : (b * 256 ^ k + v) / 256 ^ k ≡ b = digits_div b (value_below bs (λ i. h (suc i))) in
    rw (d, mod-eq_of_lt (h 0), bytes_above k b v, bytes_value bs (λ i. h (suc i)))

-- one byte more, as a loop takes it in
pub value_snoc : (bs : List ℕ) (b : ℕ) → value_of (bs ++ (b ∷ [])) ≡ value_of bs * 256 + b
unfolding value_of
value_snoc [] b = omega arith
value_snoc (a ∷ bs) b =
    let k = length bs in
    let n : length (bs ++ (b ∷ [])) ≡ suc k = length-append bs (b ∷ []) ∙ omega arith in
    rw (n, value_snoc bs b, pow-suc 256 k) (omega arith)
