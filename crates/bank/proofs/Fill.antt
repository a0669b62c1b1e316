-- One turn of each loop that fills a lent list: what stood there after i rows, or k taps, stands there after one more.
-- Assumes nothing.
use Rattle.std.specs.Prelude.{◌≡◌, ◌++◌, ◌+◌, ◌*◌, ◌≤◌, ◌<◌}
use Rattle.lists.specs.Prelude.{refl, sym, ap, ◌∙◌, List, [], append-nil, ℕ, mul-le-mul, mul-le-mul_right, add-one}
use Rattle.lists.specs.Prelude.{arith, Float, binary32, to_bits, ℤ, length, get_or, take, drop, set, length-append}
use Rattle.lists.specs.Prelude.{append_assoc, drop-drop, drop_of_length-le, take-length, length-take-le}
use borrow.Rule.Slice.PartMut.{put_mid}
use mir.Syntax.{w16}
use mir.Val.{of_z}
use Rattle.big_endian.specs.Bytes.{bytes_of}
use Rattle.big_endian.specs.Fields.{float_at, with_field}
use Rattle.big_endian.specs.Lists.{strided, float_bytes}
use Rattle.big_endian.proofs.Bytes.{length_bytes}
use Rattle.big_endian.proofs.Fields.{field_put}
use Rattle.big_endian.proofs.Lists.{length_strided, part_more, length_field_bytes}
use Rattle.bank_form.specs.Bank.{Bank, Pair, rows}
use Rattle.bank_form.specs.Version.{elevation_bytes, row_size, taps_at}
use Rattle.bank_form.specs.Encoding.{row_bytes, all_rows, head_bytes, encode}
use Rattle.bank_form.proofs.RoundTrip.{Counted, length_elevation, length_head, length_all, length_row_bytes, one_row}
use Rattle.bank_form.proofs.RoundTrip.{row_bytes_snoc}
use Rattle.lists.specs.Placed.{placed}
use Rattle.lists.proofs.Filling.{fill_more}
use Rattle.lists.proofs.Tables.{length_part, chunk_end}
use Rattle.lists.proofs.Placed.{placed_on, placed_start, take_placed, length_placed}
use Rattle.bank_form.specs.Fault.{row_taps, taps_from}
use Rattle.bank_form.proofs.Lists.{taps_snoc, length_taps}

-- how far the taps of i rows reach in the list of taps, where there are at most k
pub taps_reach : (i k l : ℕ) → i ≤ k → l ≤ 512 → i * (2 * l) ≤ k * 1024
taps_reach i k l h g = let taps : 2 * l ≤ 1024 = omega (arith, g) in mul-le-mul h taps

-- fields that stand a stride apart, from the head on, filled in up to the i-th
pub entry_more : (f : ℕ → ℤ) (w : ℕ) (zs ys : List ℤ) (i : ℕ) (z : ℤ) → ys ≡ placed zs 0 (strided f w 9 i)
    → i < length zs → z ≡ f (9 + i * w) → set ys i z ≡ placed zs 0 (strided f w 9 (i + 1))
unfolding strided
entry_more f w zs ys i z e h g =
    let none : 0 + i ≡ i = omega arith in
    rw none at (fill_more (λ k. f (9 + k * w)) zs 0 ys i z e (omega arith) g)

module _ (s : List ℕ) (v l : ℕ) where
  pub row_more : (xs ys zs : List Float) (i q : ℕ) → ys ≡ placed xs 0 (taps_from s v l 9 i) → q ≡ i * (2 * l)
      → q + 2 * l ≤ length xs → zs ≡ placed ys q (row_taps s v l (9 + i * row_size v l))
      → zs ≡ placed xs 0 (taps_from s v l 9 (i + 1))
  row_more xs ys zs i q e h g k =
      let none : 0 + q ≡ q = omega arith in
      let long : length (taps_from s v l 9 i) ≡ q = length_taps s v l 9 i ∙ sym h in
      let row : length (row_taps s v l (9 + i * row_size v l)) ≡ 2 * l = length_strided (float_at s) 4
      (taps_at v (9 + i * row_size v l)) (2 * l) in
      k ∙ rw (e, add-one i, taps_snoc s v l 9 i)
      (rw none at (placed_on xs 0 q (taps_from s v l 9 i) (row_taps s v l (9 + i * row_size v l)) long
      (omega arith)))

-- ---- writing

-- a row of its pair and its taps
pub length_chunk : (v : ℕ) (p : Pair) (l : ℕ) (xs : List Float) (q : ℕ) → q + 2 * l ≤ length xs
    → length (one_row v p l xs q) ≡ row_size v l
length_chunk v p l xs q h =
    let taps = float_bytes (take (2 * l) (drop q xs)) in
    length-append (bytes_of 2 (of_z w16 p.azimuth)) (elevation_bytes v p.elevation ++ taps)
    ∙ omega (
      arith,
      length_bytes 2 (of_z w16 p.azimuth),
      length-append (elevation_bytes v p.elevation) taps,
      length_elevation v p.elevation,
      length_field_bytes 4 (to_bits binary32) (take (2 * l) (drop q xs)),
      length_part xs q (2 * l) h,
    )

module _ (v : ℕ) (ps : List Pair) (l : ℕ) (xs : List Float) (count : length xs ≡ length ps * (2 * l)) where
  pub length_rows : (i : ℕ) → i ≤ length ps → length (row_bytes v (take i ps) l xs) ≡ i * row_size v l
  length_rows i h =
      let some : length (take i ps) ≡ i = length-take-le i ps h in
      length_row_bytes v (take i ps) l xs (rw (some, count) (mul-le-mul_right (2 * l) h))
      ∙ ap (λ (n : ℕ). n * row_size v l) some

  pub rows_more : (out ys last : List ℕ) (d : Pair) (i q at : ℕ) → i < length ps → q ≡ i * (2 * l)
      → at ≡ 9 + i * row_size v l
      → 9 + length ps * row_size v l ≤ length out → ys ≡ placed out 9 (row_bytes v (take i ps) l xs)
      → last ≡ placed ys at (one_row v (get_or ps i d) l xs q)
      → last ≡ placed out 9 (row_bytes v (take (i + 1) ps) l xs)
  rows_more out ys last d i q at h e f room g k =
      let p = get_or ps i d in
      let taps = chunk_end i (length ps) (2 * l) _ h refl in
      let bytes = chunk_end i (length ps) (row_size v l) _ h refl in
      let front = length_rows i (omega arith) in
      let row : length (one_row v p l xs q) ≡ row_size v l = length_chunk v p l xs q (omega arith) in
      let more : row_bytes v (take i ps) l xs ++ one_row v p l xs q ≡ row_bytes v (take (i + 1) ps) l xs = rw (
        add-one i,
        e,
      ) (sym (row_bytes_snoc v ps d l xs i h)) in
      part_more out ys last (row_bytes v (take i ps) l xs) (one_row v p l xs q) 9 (i * row_size v l) at g front f
      (omega arith) k ∙ ap (placed out 9) more

pub no_rows : (v l : ℕ) (xs : List Float) → row_bytes v [] l xs ≡ []
unfolding row_bytes
no_rows v l xs = refl

-- the head, from four fields one behind the other
module _ (out one two three four : List ℕ) (v rest n l : ℕ) (room : 9 ≤ length out) where
  next : (ys last a : List ℕ) (at count n : ℕ) → count ≤ 8 → at + count ≤ 9 → ys ≡ placed out 0 a → length a ≡ at
      → last ≡ with_field ys at count n → last ≡ placed out 0 (a ++ bytes_of count n)
  next ys last a at count n small h e g f =
      let long : length ys ≡ length out = ap length e ∙ length_placed out 0 a (omega arith) in
      part_more out ys last a (bytes_of count n) 0 at at e g (omega arith) (omega (arith, length_bytes count n))
      (field_put ys last at count n small (omega arith) f)

  pub head_put : one ≡ with_field out 0 1 v → two ≡ with_field one 1 4 rest → three ≡ with_field two 5 2 n
      → four ≡ with_field three 7 2 l → four ≡ placed out 0 (head_bytes v rest n l)
  unfolding head_bytes bytes_of
  head_put e f g h =
      let a = field_put out one 0 1 v (omega arith) (omega arith) e in
      let b = next one two (bytes_of 1 v) 1 4 rest (omega arith) (omega arith) a refl f in
      let d = next two three (bytes_of 1 v ++ bytes_of 4 rest) 5 2 n (omega arith) (omega arith) b refl g in
      next three four (bytes_of 1 v ++ bytes_of 4 rest ++ bytes_of 2 n) 7 2 l (omega arith) (omega arith) d refl h

pub bank_put : (v : ℕ) (b : Bank) (out one two : List ℕ) (rest : ℕ) → Counted b
    → 9 + rows b * row_size v b.length ≤ length out → rest ≡ 4 + rows b * row_size v b.length
    → one ≡ placed out 0 (head_bytes v rest (rows b) b.length) → two ≡ placed one 9 (all_rows v b)
    → two ≡ placed out 0 (encode v b)
unfolding encode
bank_put v b out one two rest counted room e f g =
    let all = length_all v b counted in
    part_more out one two (head_bytes v rest (rows b) b.length) (all_rows v b) 0 9 9 f
    (length_head v rest (rows b) b.length) (omega arith) (omega arith) g
    ∙ ap (λ (k : ℕ). placed out 0 (head_bytes v k (rows b) b.length ++ all_rows v b)) (omega arith)

-- a file that was made at the start of a longer list
pub made_file : (out made part : List ℕ) (size : ℕ) → length part ≡ size → made ≡ placed out 0 part
    → take size made ≡ part
made_file out made part size h e = ap (take size) e ∙ take_placed out part size h

-- all of a list, copied into one as long
pub copied : (src dst : List ℕ) → length src ≡ length dst → take (length src) src ++ drop (length src) dst ≡ src
copied src dst h = rw (take-length src, drop_of_length-le dst {i = length src} (omega arith)) (append-nil src)

-- a part of a list, given back as other elements
pub part_placed : {A : Type 0} (xs ys : List A) (at n : ℕ) → length ys ≡ n → put_mid at n xs ys ≡ placed xs at ys
unfolding placed
part_placed xs ys at n h = sym (rw (h, append_assoc, drop-drop) refl)

-- a list as long as another, put over it
pub placed_all : (out part : List ℕ) → length out ≡ length part → placed out 0 part ≡ part
placed_all out part h =
    placed_start out part ∙ rw (drop_of_length-le out {i = length part} (omega (arith, h))) (append-nil part)
