-- The walk finds nothing exactly if the bytes are those of a bank that keeps the form (`exactly`). Assumes nothing.
use Rattle.std.specs.Prelude.{◌≡◌, ◌+◌, ◌*◌, ◌^◌, ◌<◌}
use Rattle.lists.specs.Prelude.{sym, ap, ◌∙◌, true, and-eq-true_iff, List, ℕ, zero, suc, arith, leb-true, eqb-true}
use Rattle.lists.specs.Prelude.{eq-eqb, leb, eqb, Float, nan, binary32, fits, ℤ, pos, negsuc, length}
use lib.Ieee.Fits.{nan-fits}
use lib.Ieee.Scale.{finite}
use Rattle.big_endian.specs.Bytes.{AreBytes}
use Rattle.big_endian.specs.Fields.{signed_at}
use Rattle.big_endian.proofs.Lists.{length_strided}
use Rattle.lists.specs.Tables.{every}
use Rattle.refusals.specs.Ranges.{within, between}
use Rattle.refusals.proofs.Ranges.{within_true}
use Rattle.bank_form.specs.Bank.{Bank, rows, pairs, is_azimuth, is_elevation, differ, is_tap, is_level, pairwise}
use Rattle.bank_form.specs.Bank.{valid, level}
use Rattle.bank_form.specs.Version.{row_size, elevation_at}
use Rattle.bank_form.specs.Encoding.{encode}
use Rattle.bank_form.specs.FitsFields.{IsI16, IsFloat, FitsFields}
use Rattle.bank_form.specs.Fault.{elevations_from, pair_in, pairs_from, version_in, rows_in_of}
use Rattle.bank_form.specs.Fault.{length_in, bank_in, is_new}
use Rattle.bank_form.specs.Fault.{fault, is_file}
use Rattle.bank_form.specs.File.{Holds, IsFile, Exactly}
use Rattle.lists.proofs.ForAll.{forall_every}
use Rattle.bank_form.proofs.Lists.{every_none, every_more, length_taps, pairwise_before, before_pairwise}
use Rattle.bank_form.proofs.Walk.{same_number, Whole, whole, nothing_found}
use Rattle.bank_form.proofs.Pairs.{level_zero}
use Rattle.bank_form.proofs.RoundTrip.{rows_reach, pairs_from_lem, Written, read_write, write_read}

-- ---- the rules of the form, one by one

pub record Keeps (b : Bank) : Type 0 where
  pub few : within 1 8 (rows b) ≡ true
  pub short : within 1 512 b.length ≡ true
  pub paired : length b.elevations ≡ rows b
  pub count : length b.taps ≡ 2 * rows b * b.length
  pub azimuths : every is_azimuth b.azimuths ≡ true
  pub elevations : every is_elevation b.elevations ≡ true
  pub apart : pairwise differ (pairs b) ≡ true
  pub numbers : every is_tap b.taps ≡ true

pub keeps : (b : Bank) → valid b ≡ true → Keeps b
unfolding valid
keeps b h =
    let a = (and-eq-true_iff _ (every is_tap b.taps)).0 h in
    let c = (and-eq-true_iff _ (pairwise differ (pairs b))).0 a.0 in
    let d = (and-eq-true_iff _ (every is_elevation b.elevations)).0 c.0 in
    let e = (and-eq-true_iff _ (every is_azimuth b.azimuths)).0 d.0 in
    let f = (and-eq-true_iff _ (eqb (length b.taps) (2 * rows b * b.length))).0 e.0 in
    let g = (and-eq-true_iff _ (eqb (length b.elevations) (rows b))).0 f.0 in
    let k = (and-eq-true_iff (within 1 8 (rows b)) (within 1 512 b.length)).0 g.0 in
    record {
      few = k.0;
      short = k.1;
      paired = eqb-true _ _ g.1;
      count = eqb-true _ _ f.1;
      azimuths = e.1;
      elevations = d.1;
      apart = c.1;
      numbers = a.1;
    }

pub is_valid : (b : Bank) → Keeps b → valid b ≡ true
unfolding valid
is_valid b k = rw (
  k.few,
  k.short,
  eq-eqb _ _ k.paired,
  eq-eqb _ _ k.count,
  k.azimuths,
  k.elevations,
  k.apart,
  k.numbers,
)

-- ---- the bank that stands in a file

-- version 1 reads as elevation 0
levels : (s : List ℕ) (v l at n : ℕ) → v ≡ 1 → every is_level (elevations_from s v l at n) ≡ true
unfolding elevation_at
levels s v l at zero e = every_none (elevation_at v s) (row_size v l) is_level at
levels s v l at (suc n) e =
    every_more (elevation_at v s) (row_size v l) is_level at n
    ∙ (and-eq-true_iff _ _).1 (ap is_level (rw (eq-eqb v 1 e)) ∙ level_zero, levels s v l (at + row_size v l) n e)

module _ (s : List ℕ) where
  pub rows_in : rows (bank_in s) ≡ rows_in_of s
  rows_in = length_strided (signed_at s) (row_size (version_in s) (length_in s)) 9 (rows_in_of s)

  pub paired_in : length (bank_in s).elevations ≡ rows (bank_in s)
  paired_in =
      length_strided (elevation_at (version_in s) s) (row_size (version_in s) (length_in s)) 9 (rows_in_of s)
      ∙ sym rows_in

  pub flat_in : version_in s ≡ 1 → level (bank_in s) ≡ true
  flat_in e = levels s (version_in s) (length_in s) 9 (rows_in_of s) e

  pairs_in : pairs (bank_in s) ≡ pairs_from s (version_in s) (length_in s) 9 (rows_in_of s)
  pairs_in = pairs_from_lem s (version_in s) (length_in s) 9 (rows_in_of s)

  whole_keeps : Whole (length s) s → Keeps (bank_in s)
  unfolding is_new
  whole_keeps w = record {
    few = rw rows_in w.head.few;
    short = w.head.short;
    paired = paired_in;
    count = rw rows_in (length_taps s (version_in s) (length_in s) 9 (rows_in_of s) ∙ omega arith);
    azimuths = w.all.azimuths;
    elevations = w.all.elevations;
    apart = ap (pairwise differ) pairs_in
        ∙ before_pairwise (pair_in (version_in s) s) (row_size (version_in s) (length_in s)) differ 9 (rows_in_of s)
        (λ j h. let z : 0 + j ≡ j = omega arith in rw z at (w.all.new j h));
    numbers = w.all.taps;
  }

  keeps_whole : (v : ℕ) (b : Bank) → within 1 2 v ≡ true → Written v b s → Keeps (bank_in s) → Whole (length s) s
  unfolding is_new
  keeps_whole v b known a k = record {
    head = record {
      version = rw a.version known;
      rest = a.rest;
      few = rw rows_in at k.few;
      short = k.short;
      long = omega (arith, a.size);
    };
    all = record {
      ends = rw a.version a.size;
      azimuths = k.azimuths;
      elevations = k.elevations;
      new = λ j h.
          let z : 0 + j ≡ j = omega arith in
          rw z (pairwise_before (pair_in (version_in s) s) (row_size (version_in s) (length_in s)) differ 9
          (rows_in_of s)
          (ap (pairwise differ) (sym pairs_in) ∙ k.apart) j h);
      taps = k.numbers;
    };
  }

-- ---- a bank that keeps the form is one that the lists hold

between_small : (low high : ℕ) → low < 2 ^ 15 → high < 2 ^ 15 → (z : ℤ) → between (negsuc low) (pos high) z ≡ true
    → IsI16 z
between_small low high h g (pos n) e = let k = leb-true n high e in omega arith
between_small low high h g (negsuc n) e = omega (arith, leb-true n low ((and-eq-true_iff (leb n low) true).0 e).0)

azimuth_small : (z : ℤ) → is_azimuth z ≡ true → IsI16 z
unfolding is_azimuth
azimuth_small z h = between_small 1798 1800 (omega arith) (omega arith) z h

elevation_small : (z : ℤ) → is_elevation z ≡ true → IsI16 z
unfolding is_elevation
elevation_small z h = between_small 899 900 (omega arith) (omega arith) z h

tap_fits : (x : Float) → is_tap x ≡ true → IsFloat x
unfolding is_tap
tap_fits x h = rw ((and-eq-true_iff (fits binary32 x) (finite x)).0 h).0 tt

pub keeps_fits : (v : ℕ) (b : Bank) → Holds v b → Keeps b → FitsFields v b
keeps_fits v b h k = record {
  holds = h;
  few = omega (arith, (within_true 1 8 (rows b) k.few).1);
  short = omega (arith, (within_true 1 512 b.length k.short).1);
  follow = omega (
    arith,
    rows_reach v (rows b) 8 b.length (within_true 1 8 (rows b) k.few).1
        (within_true 1 512 b.length k.short).1,
  );
  paired = k.paired;
  count = k.count ∙ omega arith;
  azimuths = forall_every IsI16 (pos 0) is_azimuth azimuth_small (omega arith) b.azimuths k.azimuths;
  elevations = forall_every IsI16 (pos 0) is_elevation elevation_small (omega arith) b.elevations k.elevations;
  taps = forall_every IsFloat nan is_tap tap_fits (nan-fits binary32) b.taps k.numbers;
}

-- ---- exactly

pub is_file_lem : (s : List ℕ) → (fault s).refusal ≡ 0 → is_file s ≡ true
unfolding is_file
is_file_lem s e = eq-eqb (fault s).refusal 0 e

pub none_found : (s : List ℕ) → is_file s ≡ true → (fault s).refusal ≡ 0
unfolding is_file
none_found s e = eqb-true (fault s).refusal 0 e

written_keeps : (v : ℕ) (b : Bank) → FitsFields v b → Keeps b → is_file (encode v b) ≡ true
written_keeps v b h k =
    let w = read_write v b h in
    is_file_lem (encode v b) (same_number
    (nothing_found (length (encode v b)) (encode v b)
    (keeps_whole (encode v b) v b h.holds.known w (rw w.same k))))

-- a bank file says its version
pub version_of : (v : ℕ) (s : List ℕ) (b : Bank) → IsFile v s b → version_in s ≡ v
version_of v s b f = cc (f.bytes, (read_write v b (keeps_fits v b f.holds (keeps b f.keeps))).version)

-- a file is accepted exactly if it is the encoding of a bank that keeps the form, in a version that holds it
pub exactly : (s : List ℕ) → AreBytes s → Exactly s
unfolding is_file
exactly s bytes = record {
  sound = λ e.
      let w = whole (length s) s (none_found s e) in
      record {
        holds = record { known = w.head.version; levelled = flat_in s };
        keeps = is_valid (bank_in s) (whole_keeps s w);
        bytes = write_read s bytes w;
      };
  complete = λ v b f. complete v b f.holds (keeps b f.keeps) f.bytes;
}
  where
    complete : (v : ℕ) (b : Bank) → Holds v b → Keeps b → encode v b ≡ s → (is_file s ≡ true) × (version_in s ≡ v)
        × (bank_in s ≡ b)
    complete v b h k e =
        let fit = keeps_fits v b h k in
        let w = read_write v b fit in
        (ap is_file (sym e) ∙ written_keeps v b fit k, ap version_in (sym e) ∙ w.version, ap bank_in (sym e) ∙ w.same)
