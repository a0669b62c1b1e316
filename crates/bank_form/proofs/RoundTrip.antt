-- The laws of the form: reading what was written gives the same bank (`read_write`), and writing what was read gives
-- the same bytes (`write_read`). Assumes nothing.
use Rattle.std.specs.Prelude.{◌≡◌, ◌∷◌, ◌++◌, ◌+◌, ◌-◌, ◌*◌, ◌^◌, ◌≤◌, ◌<◌}
use Rattle.lists.specs.Prelude.{refl, sym, ap, ◌∙◌, true, and-eq-true_iff, List, [], map, append_assoc, append-nil, ℕ}
use Rattle.lists.specs.Prelude.{zero, suc, mul-le-mul, le_of_suc-le-suc, arith, Float, nan, binary32, fits, of_bits}
use Rattle.lists.specs.Prelude.{to_bits, eqb-true, eqb, ℤ, pos, length, get_or, take, drop, length-append, length-drop}
use Rattle.lists.specs.Prelude.{take-append-drop, drop_of_length-le, drop-drop, take_at, drop_at, length-take-le}
use lib.Ieee.Bits.{of_bits-to_bits, to_bits-of_bits, to_bits-lt}
use lib.Ieee.Fits.{nan-fits}
use lib.Ieee.Scale.{finite}
use mir.Syntax.{w16}
use mir.Val.{to_z, of_z, SFits}
use mir.Facts.{to_z-of_z, of_z-to_z, Fits-of_z}
use Rattle.lists.proofs.Tests.{test_cases}
use Rattle.formats.proofs.Patterns.{finite_no_nan}
use Rattle.big_endian.specs.Bytes.{bytes_of, AreBytes}
use Rattle.big_endian.specs.Fields.{field_at, signed_at, float_at}
use Rattle.big_endian.specs.Lists.{strided, float_bytes}
use Rattle.big_endian.proofs.Bytes.{length_bytes}
use Rattle.big_endian.proofs.Fields.{stands, stands_back, field_below}
use Rattle.big_endian.proofs.Lists.{strided_none, strided_more, length_strided, field_bytes_none, field_bytes_more}
use Rattle.big_endian.proofs.Lists.{length_field_bytes}
use Rattle.refusals.proofs.Ranges.{within_true}
use Rattle.lists.specs.Tables.{every}
use Rattle.lists.specs.ForAll.{ForAll}
use Rattle.lists.proofs.ForAll.{forall_drop, forall_take}
use Rattle.bank_form.specs.Bank.{Bank, Pair, rows, pairs, pairs_of, is_tap, is_level}
use Rattle.bank_form.specs.Version.{elevation_size, elevation_bytes, elevation_at, row_size, taps_at, largest_row}
use Rattle.bank_form.specs.Encoding.{row_bytes, all_rows, head_bytes, encode}
use Rattle.bank_form.specs.FitsFields.{IsI16, IsFloat, FitsFields}
use Rattle.bank_form.specs.Fault.{azimuths_from, elevations_from, row_taps, taps_from, pair_in, pairs_from, version_in}
use Rattle.bank_form.specs.Fault.{rows_in_of, length_in, bank_in}
use Rattle.bank_form.proofs.Lists.{every_more, taps_none, taps_more}
use Rattle.bank_form.proofs.Pairs.{level_is, length_pairs, azimuths_of, elevations_of, pairs_strided}
use Rattle.bank_form.proofs.Walk.{Whole, taps_parted}

-- ---- a signed field, where its bytes stand

signed_stands : (s : List ℕ) (p : ℕ) (z : ℤ) (t : List ℕ) → IsI16 z → drop p s ≡ bytes_of 2 (of_z w16 z) ++ t
    → (signed_at s p ≡ z) × (drop (p + 2) s ≡ t)
unfolding signed_at
signed_stands s p z t f e =
    let here : SFits w16 z = record { sfits = f } in
    let a = stands s p 2 (of_z w16 z) t (omega arith) (Fits-of_z here).fits (omega arith) e in
    (ap (to_z w16) a.value ∙ to_z-of_z here, a.after)

signed_forth : (s : List ℕ) (p : ℕ) → AreBytes s → p + 2 ≤ length s
    → bytes_of 2 (of_z w16 (signed_at s p)) ++ drop (p + 2) s ≡ drop p s
unfolding signed_at
signed_forth s p bytes h =
    let bits : of_z w16 (to_z w16 (field_at s p 2)) ≡ field_at s p 2 = of_z-to_z {w = w16}
    (record { fits = field_below s p 2 bytes }) in
    rw bits (sym (stands_back s p 2 bytes (omega arith) h))

-- ---- an elevation

-- an i16, which is 0 in version 1
pub record FitsElevation (v : ℕ) (z : ℤ) : Type 0 where
  pub i16 : IsI16 z
  pub levelled : eqb v 1 ≡ true → z ≡ pos 0

pub length_elevation : (v : ℕ) (z : ℤ) → length (elevation_bytes v z) ≡ elevation_size v
unfolding elevation_bytes
length_elevation v z = test_cases (eqb v 1) (λ e. rw e) (λ e. rw e (length_bytes 2 (of_z w16 z)))

pub elevation_small : (v : ℕ) → elevation_size v ≤ 2
elevation_small v = test_cases (eqb v 1) (λ e. rw e (omega arith)) (λ e. rw e (omega arith))

-- the elevation of the row at an offset, where its bytes stand
no_field : (s : List ℕ) (at : ℕ) → drop (at + 2 + 0) s ≡ drop (at + 2) s
no_field s at = let q : at + 2 + 0 ≡ at + 2 = omega arith in rw q

elevation_stands : (s : List ℕ) (v at : ℕ) (z : ℤ) (t : List ℕ) → FitsElevation v z
    → drop (at + 2) s ≡ elevation_bytes v z ++ t → (elevation_at v s at ≡ z) × (drop (taps_at v at) s ≡ t)
unfolding elevation_bytes elevation_at
elevation_stands s v at z t f e =
    test_cases (eqb v 1) (λ k. rw k (sym (f.levelled k), no_field s at ∙ rw k at e))
    (λ k. rw k (signed_stands s (at + 2) z t f.i16 (rw k at e)))

elevation_forth : (s : List ℕ) (v at : ℕ) → AreBytes s → taps_at v at ≤ length s
    → elevation_bytes v (elevation_at v s at)
    ++ drop (taps_at v at) s ≡ drop (at + 2) s
unfolding elevation_bytes elevation_at
elevation_forth s v at bytes h =
    test_cases (eqb v 1) (λ k. rw k (no_field s at)) (λ k. rw k (signed_forth s (at + 2) bytes (rw k at h)))

-- ---- lengths

pub length_row_bytes : (v : ℕ) (ps : List Pair) (l : ℕ) (xs : List Float) → length ps * (2 * l) ≤ length xs
    → length (row_bytes v ps l xs) ≡ length ps * row_size v l
unfolding row_bytes
length_row_bytes v [] l xs n = omega arith
length_row_bytes v (p ∷ ps) l xs n =
    let m = 2 * l in
    let rows = row_bytes v ps l (drop m xs) in
    let mine : length (take m xs) ≡ m = length-take-le m xs (omega arith) in
    let rest = length_row_bytes v ps l (drop m xs) (omega (arith, length-drop m xs)) in
    omega (
      arith,
      length-append (bytes_of 2 (of_z w16 p.azimuth))
          (elevation_bytes v p.elevation ++ (float_bytes (take m xs) ++ rows)),
      length_bytes 2 (of_z w16 p.azimuth),
      length-append (elevation_bytes v p.elevation) (float_bytes (take m xs) ++ rows),
      length_elevation v p.elevation,
      length-append (float_bytes (take m xs)) rows,
      length_field_bytes 4 (to_bits binary32) (take m xs),
    )

pub length_head : (v follow n l : ℕ) → length (head_bytes v follow n l) ≡ 9
unfolding head_bytes bytes_of
length_head v follow n l = refl

-- a bank that has an elevation for each row, and its taps
pub record Counted (b : Bank) : Type 0 where
  pub paired : length b.elevations ≡ rows b
  pub count : length b.taps ≡ rows b * (2 * b.length)

pub fits_counted : (v : ℕ) (b : Bank) → FitsFields v b → Counted b
fits_counted v b h = record { paired = h.paired; count = h.count }

module _ (v : ℕ) (b : Bank) (c : Counted b) where
  pub length_all : length (all_rows v b) ≡ rows b * row_size v b.length
  length_all =
      let n = length_pairs b.azimuths b.elevations c.paired in
      length_row_bytes v (pairs b) b.length b.taps (omega (arith, ap (λ (k : ℕ). k * (2 * b.length)) n, c.count))
      ∙ ap (λ (k : ℕ). k * row_size v b.length) n

  pub length_encode : length (encode v b) ≡ 9 + rows b * row_size v b.length
  unfolding encode
  length_encode = length-append (head_bytes _ _ _ _) (all_rows v b)
      ∙ omega (arith, length_head v (2 + 2 + length (all_rows v b)) (rows b) b.length, length_all)

-- ---- one row more

-- the bytes of a row with the pair p, whose taps start at q of the list
abbrev pub one_row : ℕ → Pair → ℕ → List Float → ℕ → List ℕ
one_row v p l xs q =
    bytes_of 2 (of_z w16 p.azimuth) ++ (elevation_bytes v p.elevation ++ float_bytes (take (2 * l) (drop q xs)))

-- the parts of a row, and what is behind it
regroup : (a b c d e : List ℕ) → (a ++ (b ++ (c ++ d))) ++ e ≡ a ++ (b ++ (c ++ (d ++ e)))
regroup a b c d e = simp append_assoc

pub row_bytes_snoc : (v : ℕ) (ps : List Pair) (d : Pair) (l : ℕ) (xs : List Float) (i : ℕ) → i < length ps
    → row_bytes v (take (suc i) ps) l xs ≡ row_bytes v (take i ps) l xs ++ one_row v (get_or ps i d) l xs (i * (2 * l))
unfolding row_bytes
row_bytes_snoc v [] d l xs i h = absurd (omega arith)
row_bytes_snoc v (p ∷ ps) d l xs zero h =
    let q : 0 * (2 * l) ≡ 0 = omega arith in rw (q, append-nil (float_bytes (take (2 * l) xs)))
row_bytes_snoc v (p ∷ ps) d l xs (suc i) h =
    let m = 2 * l in
    let azimuth = bytes_of 2 (of_z w16 p.azimuth) in
    let elevation = elevation_bytes v p.elevation in
    let mine = float_bytes (take m xs) in
    let front = row_bytes v (take i ps) l (drop m xs) in
    let row = one_row v (get_or ps i d) l xs (suc i * m) in
    let q : m + i * m ≡ suc i * m = omega arith in
    let next : row_bytes v (take (suc i) ps) l (drop m xs) ≡ front ++ row = rw (drop-drop (i * m) m xs, q) at
    (row_bytes_snoc v ps d l (drop m xs) i (le_of_suc-le-suc h)) in
    ap (λ (t : List ℕ). azimuth ++ (elevation ++ (mine ++ t))) next ∙ sym (regroup azimuth elevation mine front row)

-- how far i rows reach, where there are at most k
pub rows_reach : (v i k l : ℕ) → i ≤ k → l ≤ 512 → i * row_size v l ≤ k * largest_row
rows_reach v i k l h g = mul-le-mul h (omega (arith, g, elevation_small v))

-- ---- reading what was written

from_there : (s : List ℕ) (p q : ℕ) (t : List ℕ) → p ≡ q → drop q s ≡ t → drop p s ≡ t
from_there s p q t e h = ap (λ (k : ℕ). drop k s) e ∙ h

record TapsStand (s : List ℕ) (p : ℕ) (xs : List Float) (t : List ℕ) : Type 0 where
  same : strided (float_at s) 4 p (length xs) ≡ xs
  after : drop (p + 4 * length xs) s ≡ t

taps_stand : (s : List ℕ) (p : ℕ) (xs : List Float) (t : List ℕ) → ForAll IsFloat nan xs
    → drop p s ≡ float_bytes xs ++ t
    → TapsStand s p xs t
unfolding float_at
taps_stand s p [] t f e = record {
  same = strided_none (float_at s) 4 p;
  after = from_there s (p + 4 * 0) p t (omega arith)
      (e ∙ ap (λ (b : List ℕ). b ++ t) (field_bytes_none 4 (to_bits binary32)));
}
taps_stand s p (x ∷ xs) t f e =
    let here : IsFloat x = f 0 in
    let a = stands s p 4 (to_bits binary32 x) (float_bytes xs ++ t) (omega arith) (to_bits-lt binary32 x here)
    (omega arith) (e ∙ ap (λ (b : List ℕ). b ++ t) (field_bytes_more 4 (to_bits binary32) x xs)
    ∙ append_assoc (bytes_of 4 (to_bits binary32 x)) (float_bytes xs) t) in
    let rest = taps_stand s (p + 4) xs t (λ i. f (suc i)) a.after in
    let v : float_at s p ≡ x = ap (of_bits binary32) a.value ∙ of_bits-to_bits binary32 x here in
    record {
      same = strided_more (float_at s) 4 p (length xs) ∙ rw (v, rest.same);
      after = from_there s (p + 4 * suc (length xs)) (p + 4 + 4 * length xs) t (omega arith) rest.after;
    }

-- the fields of a pair
pub record FitsPair (v : ℕ) (p : Pair) : Type 0 where
  pub azimuth : IsI16 p.azimuth
  pub elevation : FitsElevation v p.elevation

no_pair : Pair
no_pair = record { azimuth = pos 0; elevation = pos 0 }

pairs_fit : (v : ℕ) (zs es : List ℤ) → ForAll IsI16 (pos 0) zs → ForAll IsI16 (pos 0) es
    → (eqb v 1 ≡ true → every is_level es ≡ true) → ForAll (FitsPair v) no_pair (pairs_of zs es)
unfolding pairs_of no_pair
pairs_fit v [] es f g flat i = search
pairs_fit v (z ∷ zs) [] f g flat i = search
pairs_fit v (z ∷ zs) (e ∷ es) f g flat zero =
    record {
      azimuth = f 0;
      elevation = record {
        i16 = g 0;
        levelled = λ k. level_is e ((and-eq-true_iff (is_level e) (every is_level es)).0 (flat k)).0;
      };
    }
pairs_fit v (z ∷ zs) (e ∷ es) f g flat (suc i) = pairs_fit v zs es (λ j. f (suc j)) (λ j. g (suc j))
    (λ k. ((and-eq-true_iff (is_level e) (every is_level es)).0 (flat k)).1) i

record RowsStand (s : List ℕ) (v p : ℕ) (ps : List Pair) (l : ℕ) (xs : List Float) (t : List ℕ) : Type 0 where
  pairs : pairs_from s v l p (length ps) ≡ ps
  taps : taps_from s v l p (length ps) ≡ xs
  after : drop (p + length ps * row_size v l) s ≡ t

rows_stand : (s : List ℕ) (v p : ℕ) (ps : List Pair) (l : ℕ) (xs : List Float) (t : List ℕ)
    → length xs ≡ length ps * (2 * l) → ForAll (FitsPair v) no_pair ps → ForAll IsFloat nan xs
    → drop p s ≡ row_bytes v ps l xs ++ t → RowsStand s v p ps l xs t
unfolding row_bytes
rows_stand s v p [] l xs t n g f e = record {
  pairs = strided_none (pair_in v s) (row_size v l) p;
  taps = taps_none s v l p ∙ sym (drop_of_length-le xs {i = 0} (omega (arith, n)));
  after = from_there s (p + 0 * row_size v l) p t (omega arith) e;
}
rows_stand s v p (pair ∷ ps) l xs t n g f e =
    let m = 2 * l in
    let elevation = elevation_bytes v pair.elevation in
    let mine = float_bytes (take m xs) in
    let others = row_bytes v ps l (drop m xs) in
    let long : length (take m xs) ≡ m = length-take-le m xs (omega arith) in
    let a = signed_stands s p pair.azimuth (elevation ++ (mine ++ (others ++ t))) (g 0).azimuth
    (e ∙ regroup (bytes_of 2 (of_z w16 pair.azimuth)) elevation mine others t) in
    let h = elevation_stands s v p pair.elevation (mine ++ (others ++ t)) (g 0).elevation a.1 in
    let b = taps_stand s (taps_at v p) (take m xs) (others ++ t) (forall_take IsFloat nan m xs (nan-fits binary32) f)
    h.1 in
    let rest = rows_stand s v (p + row_size v l) ps l (drop m xs) t (omega (arith, length-drop m xs)) (λ i. g (suc i))
    (forall_drop IsFloat nan m xs f)
    (from_there s (p + row_size v l) (taps_at v p + 4 * length (take m xs)) (others ++ t) (omega arith) b.after) in
    let both : pair_in v s p ≡ pair = λ i. record { azimuth = a.0 i; elevation = h.0 i } in
    let w : row_taps s v l p ≡ take m xs = ap (strided (float_at s) 4 (taps_at v p)) (sym long) ∙ b.same in
    record {
      pairs = strided_more (pair_in v s) (row_size v l) p (length ps) ∙ rw (both, rest.pairs);
      taps = taps_more s v l p (length ps) ∙ rw (w, rest.taps) (take-append-drop m xs);
      after = from_there s (p + suc (length ps) * row_size v l) (p + row_size v l + length ps * row_size v l) t
          (omega arith) rest.after;
    }

-- the pairs of a file are those of its two lists
pub pairs_from_lem : (s : List ℕ) (v l at n : ℕ) → pairs_of (azimuths_from s v l at n) (elevations_from s v l at n)
    ≡ pairs_from s v l at n
pairs_from_lem s v l at n = pairs_strided (signed_at s) (elevation_at v s) (row_size v l) at n

-- lists whose pairs are the same, and which have as many of each
lists_same : {A : Type 0} (f : Pair → A) (ps qs : List Pair) (xs ys : List A) → map f ps ≡ xs → map f qs ≡ ys → ps ≡ qs
    → xs ≡ ys
lists_same f ps qs xs ys e g h = sym e ∙ ap (map f) h ∙ g

-- what the file of a bank says
pub record Written (v : ℕ) (b : Bank) (s : List ℕ) : Type 0 where
  pub version : version_in s ≡ v
  pub rest : field_at s 1 4 ≡ length s - 5
  pub size : length s ≡ 9 + rows_in_of s * row_size v (length_in s)
  pub same : bank_in s ≡ b

-- the fields, one after another
encode_is : (v : ℕ) (b : Bank) → encode v b ≡ bytes_of 1 v
    ++ (bytes_of 4 (2 + 2 + length (all_rows v b)) ++ (bytes_of 2 (rows b) ++ (bytes_of 2 b.length ++ all_rows v b)))
unfolding encode head_bytes bytes_of
encode_is v b = refl

-- reading what was written gives the same bank, whether or not it keeps the form
pub read_write : (v : ℕ) (b : Bank) → FitsFields v b → Written v b (encode v b)
read_write v b h =
    let s = encode v b in
    let n = rows b in
    let l = b.length in
    let tail = all_rows v b in
    let counted = fits_counted v b h in
    let paired = h.paired in
    let follow = 2 + 2 + length tail in
    let long = length_encode v b counted in
    let known = within_true 1 2 v h.holds.known in
    let small : follow < 2 ^ 32 = omega (arith, length_all v b counted, h.follow) in
    let w = stands s 0 1 v (bytes_of 4 follow ++ (bytes_of 2 n ++ (bytes_of 2 l ++ tail))) (omega arith)
    (omega (arith, known.1)) (omega arith) (encode_is v b) in
    let a = stands s 1 4 follow (bytes_of 2 n ++ (bytes_of 2 l ++ tail)) (omega arith) (omega arith) (omega arith)
    w.after in
    let c = stands s 5 2 n (bytes_of 2 l ++ tail) (omega arith) (omega (arith, h.few)) (omega arith) a.after in
    let d = stands s 7 2 l tail (omega arith) (omega (arith, h.short)) (omega arith) c.after in
    let count = length_pairs b.azimuths b.elevations paired in
    let fit = pairs_fit v b.azimuths b.elevations h.azimuths h.elevations
    (λ e. h.holds.levelled (eqb-true v 1 e)) in
    let r = rows_stand s v 9 (pairs b) l b.taps [] (h.count ∙ ap (λ (k : ℕ). k * (2 * l)) (sym count)) fit h.taps
    (d.after ∙ sym (append-nil tail)) in
    let pairs' : pairs_of (azimuths_from s v l 9 n) (elevations_from s v l 9 n) ≡ pairs b = pairs_from_lem s v l 9 n
    ∙ ap (strided (pair_in v s) (row_size v l) 9) (sym count) ∙ r.pairs in
    let even : length (elevations_from s v l 9 n) ≡ length (azimuths_from s v l 9 n) = length_strided (elevation_at v s)
    (row_size v l) 9 n ∙ sym (length_strided (signed_at s) (row_size v l) 9 n) in
    record {
      version = w.value;
      rest = a.value ∙ omega (arith, length_all v b counted);
      size = rw (c.value, d.value) long;
      same = rw (w.value, c.value, d.value) (λ i. record {
        azimuths = lists_same (λ (p : Pair). p.azimuth) _ _ _ _
            (azimuths_of (azimuths_from s v l 9 n) (elevations_from s v l 9 n) even)
            (azimuths_of b.azimuths b.elevations paired) pairs' i;
        elevations = lists_same (λ (p : Pair). p.elevation) _ _ _ _
            (elevations_of (azimuths_from s v l 9 n) (elevations_from s v l 9 n) even)
            (elevations_of b.azimuths b.elevations paired) pairs' i;
        length = l;
        taps = (ap (taps_from s v l 9) (sym count) ∙ r.taps) i;
      });
    }

-- ---- writing what was read

-- the bits of a tap that was read are the bits that were there
tap_back : (s : List ℕ) (p : ℕ) → AreBytes s → is_tap (float_at s p) ≡ true
    → to_bits binary32 (float_at s p) ≡ field_at s p 4
unfolding float_at is_tap
tap_back s p bytes h = to_bits-of_bits binary32 (field_at s p 4) (field_below s p 4 bytes)
    (finite_no_nan (float_at s p) ((and-eq-true_iff (fits binary32 (float_at s p)) (finite (float_at s p))).0 h).1)

taps_forth : (s : List ℕ) (p k : ℕ) → AreBytes s → p + 4 * k ≤ length s
    → every is_tap (strided (float_at s) 4 p k) ≡ true
    → float_bytes (strided (float_at s) 4 p k) ++ drop (p + 4 * k) s ≡ drop p s
taps_forth s p zero bytes h e = rw (strided_none (float_at s) 4 p, field_bytes_none 4 (to_bits binary32))
    (sym (from_there s p (p + 4 * 0) _ (omega arith) refl))
taps_forth s p (suc k) bytes h e =
    let both = (and-eq-true_iff (is_tap (float_at s p)) (every is_tap (strided (float_at s) 4 (p + 4) k))).0
    (sym (every_more (float_at s) 4 is_tap p k) ∙ e) in
    let here = bytes_of 4 (field_at s p 4) in
    let q : p + 4 * suc k ≡ p + 4 + 4 * k = omega arith in
    rw (
      strided_more (float_at s) 4 p k,
      field_bytes_more 4 (to_bits binary32) (float_at s p)
          (strided (float_at s) 4 (p + 4) k),
      tap_back s p bytes both.0,
      q,
    )
    (append_assoc here (float_bytes (strided (float_at s) 4 (p + 4) k)) (drop (p + 4 + 4 * k) s)
    ∙ ap (λ (y : List ℕ). here ++ y) (taps_forth s (p + 4) k bytes (omega arith) both.1)
    ∙ sym (stands_back s p 4 bytes (omega arith) (omega arith)))

rows_forth : (s : List ℕ) (v l p n : ℕ) → AreBytes s → length s ≡ p + n * row_size v l
    → every is_tap (taps_from s v l p n) ≡ true → row_bytes v (pairs_from s v l p n) l (taps_from s v l p n) ≡ drop p s
unfolding row_bytes
rows_forth s v l p zero bytes size e =
    rw (strided_none (pair_in v s) (row_size v l) p) (sym (drop_of_length-le s {i = p} (omega arith)))
rows_forth s v l p (suc n) bytes size e =
    let both = (and-eq-true_iff (every is_tap (row_taps s v l p)) (every is_tap (taps_from s v l
    (p + row_size v l) n))).0
    (sym (taps_parted s v l p n) ∙ e) in
    let long : length (row_taps s v l p) ≡ 2 * l = length_strided (float_at s) 4 (taps_at v p) (2 * l) in
    let q : taps_at v p + 4 * (2 * l) ≡ p + row_size v l = omega arith in
    rw (
      strided_more (pair_in v s) (row_size v l) p n,
      taps_more s v l p n,
      take_at (row_taps s v l p) (taps_from s v l (p + row_size v l) n) (2 * l) long,
      drop_at (row_taps s v l p) (taps_from s v l (p + row_size v l) n) (2 * l) long,
      rows_forth s v l (p + row_size v l) n bytes (size ∙ omega arith) both.1,
      ← q,
    )
    (ap (λ (y : List ℕ). bytes_of 2 (of_z w16 (signed_at s p)) ++ y)
    (ap (λ (y : List ℕ). elevation_bytes v (elevation_at v s p) ++ y)
    (taps_forth s (taps_at v p) (2 * l) bytes (omega arith) both.0) ∙ elevation_forth s v p bytes (omega arith))
    ∙ signed_forth s p bytes (omega arith))

-- writing what was read, in the version that it was read in, gives the same bytes
pub write_read : (s : List ℕ) → AreBytes s → Whole (length s) s → encode (version_in s) (bank_in s) ≡ s
write_read s bytes w =
    let v = version_in s in
    let l = length_in s in
    let n = rows_in_of s in
    let size = w.all.ends in
    let count : rows (bank_in s) ≡ n = length_strided (signed_at s) (row_size v l) 9 n in
    let all : all_rows v (bank_in s) ≡ drop 9 s = ap (λ (ps : List Pair). row_bytes v ps l (taps_from s v l 9 n))
    (pairs_from_lem s v l 9 n) ∙ rows_forth s v l 9 n bytes size w.all.taps in
    let follow : 2 + 2 + length (drop 9 s) ≡ field_at s 1 4 = omega (arith, length-drop 9 s, w.head.rest) in
    rw (
      encode_is v (bank_in s),
      all,
      count,
      follow,
      ← stands_back s 7 2 bytes (omega arith) (omega arith),
      ← stands_back s 5 2 bytes (omega arith) (omega arith),
      ← stands_back s 1 4 bytes (omega arith) (omega arith),
    )
    (sym (stands_back s 0 1 bytes (omega arith) (omega arith)))
