-- Both ears' parts of one speaker: taps that go with cells, the two straight runs for each ear, and where a speaker's
-- ring and taps stand in the lent lists. Assumes nothing.
use Rattle.std.specs.Prelude.{◌≡◌, ◌&&◌, ◌+◌, ◌-◌, ◌*◌, ◌≤◌, ◌<◌}
use Rattle.lists.specs.Prelude.{sym, ap, ◌∙◌, not, List, reverse, ℕ, min, add-zero, mul-le-mul_left, mul-one, suc-mul}
use Rattle.lists.specs.Prelude.{add-one, arith, T, length, get_or, take, drop, length-take, length-drop, length-reverse}
use Rattle.lists.specs.Prelude.{Float, nan, binary32, binary64, is_nan, fits}
use lib.Ieee.Fits.{and_i, fits_widens}
use Rattle.formats.specs.Floats.{zero_float}
use Rattle.formats.proofs.Patterns.{finite_no_nan}
use Rattle.lists.specs.Tables.{chunk}
use Rattle.lists.proofs.Lists.{get_d_reverse}
use Rattle.lists.proofs.Tables.{length_part, part_is, chunk_end}
use Rattle.checks.proofs.Checks.{finite_at, finite_take, finite_drop}
use Rattle.planes.specs.Sums.{dot}
use Rattle.planes.proofs.Sums.{dot_nan}
use Rattle.hrtf_rings.specs.Unrolled.{unrolled}
use Rattle.hrtf_rings.specs.Computed.{part_by}
use Rattle.hrtf_rings.proofs.TwoRuns.{two_runs}
use Rattle.hrtf_checks.specs.declared.ConvolverShape.{ConvolverShape}
use Rattle.hrtf.specs.declared.parts.EarSums.{EarSums}
use Rattle.hrtf.specs.Computed.{TapsFor, dot_each, no_sums, PartsInside, parts_by}

-- what a cast asks of an f32, which holds of every one but a NaN
abbrev Casts : Float → Type 0
Casts x = T (fits binary64 x && not (is_nan x))

pub casts : (x : Float) → T (fits binary32 x) → T (not (is_nan x)) → Casts x
casts x held number = and_i (fits binary64 x) (not (is_nan x)) (fits_widens x held) number

-- ---- taps that go with cells: each may be cast, and so go the parts of both

pub tap_casts : {cells taps : List Float} (k : ℕ) → TapsFor cells taps → k < length cells
    → T (fits binary32 (get_or taps k nan))
    → Casts (get_or taps k nan)
tap_casts {taps = taps} k t h held =
    casts (get_or taps k nan) held
    (finite_no_nan (get_or taps k nan) (finite_at taps k t.finite (omega (arith, t.each))))

pub taps_before : {cells taps : List Float} (n : ℕ) → TapsFor cells taps → TapsFor (take n cells) (take n taps)
taps_before {taps =
    taps} n t = record { each = simp (length-take) (omega (arith, t.each)); finite = finite_take n taps t.finite }

pub taps_behind : {cells taps : List Float} (n : ℕ) → TapsFor cells taps
    → TapsFor (take (length cells - n) (drop n cells)) (take (length taps - n) (drop n taps))
taps_behind {taps = taps} n t =
    record {
      each = simp (length-take, length-drop) (omega (arith, t.each));
      finite = finite_take (length taps - n) (drop n taps) (finite_drop n taps t.finite);
    }

-- a cell that is a NaN makes both sums one, wherever it stands
pub nan_heard : {cells left right : List Float} (sums : EarSums) (k : ℕ) → TapsFor cells left → TapsFor cells right
    → k < length cells → get_or cells (length cells - 1 - k) nan ≡ nan
    → record { left = nan; right = nan } ≡ dot_each sums (reverse cells) left right
nan_heard {cells} {left} {right} sums k tl tr h e =
    λ i. record { left = ear left sums.left tl i; right = ear right sums.right tr i }
  where
    ear : (taps : List Float) (a : Float) → TapsFor cells taps → nan ≡ dot a (reverse cells) taps
    ear taps a t =
        sym
        (dot_nan a (reverse cells) taps k (omega (arith, h, length-reverse cells)) (omega (arith, h, t.each))
        (get_d_reverse cells k nan h ∙ e))

-- ---- the two straight runs, for each ear

-- the cells of the second run, or its taps
abbrev behind : ℕ → List Float → List Float
behind n xs = take (length xs - n) (drop n xs)

pub both_runs : (p : ℕ) (ring left right : List Float) (split : ℕ) {first sums : EarSums} → split ≡ min p (length ring)
    → TapsFor ring left → TapsFor ring right
    → first ≡ dot_each no_sums (reverse (take split ring)) (take split left) (take split right)
    → sums ≡ dot_each first (reverse (behind split ring)) (behind split left) (behind split right)
    → sums ≡ dot_each no_sums (unrolled p ring) left right
both_runs p ring left right split es tl tr ef e = λ i. record {
  left = ear left tl (ap (λ (s : EarSums). s.left) ef) (ap (λ (s : EarSums). s.left) e) i;
  right = ear right tr (ap (λ (s : EarSums). s.right) ef) (ap (λ (s : EarSums). s.right) e) i;
}
  where
    ear : (taps : List Float) → TapsFor ring taps → {x y : Float}
        → x ≡ dot zero_float (reverse (take split ring)) (take split taps)
        → y ≡ dot x (reverse (behind split ring)) (behind split taps) → y ≡ dot zero_float (unrolled p ring) taps
    ear taps t = two_runs p ring taps split split es (omega (arith, t.each))

-- ---- where a speaker's ring and its taps stand

-- a part of a list as it is handed on, n long
abbrev piece : ℕ → ℕ → List Float → List Float
piece at n xs = take (at + n - at) (drop at xs)

length_piece : (at n : ℕ) (xs : List Float) → at + n ≤ length xs → length (piece at n xs) ≡ n
length_piece at n xs h = ap length (part_is at n xs) ∙ length_part xs at n h

module _ (h : ConvolverShape) (s j : ℕ) (taps rings : List Float) (p : PartsInside h s j taps rings) where
  -- the left ear's taps come first, the right ear's right behind them
  right_behind : (j * 2 + 1) * h.length ≡ j * 2 * h.length + h.length
  right_behind = ap (λ (n : ℕ). n * h.length) (add-one (j * 2)) ∙ suc-mul (j * 2) h.length

  pub ring_end : s * h.length + h.length ≤ length rings
  ring_end = chunk_end s h.speakers h.length (length rings) p.ring p.ringed

  pub taps_end : j * 2 * h.length + h.length + h.length ≤ length taps
  taps_end = omega (
    arith,
    right_behind,
    chunk_end (j * 2 + 1) (2 * h.rows) h.length (length taps)
        (omega (arith, p.row)) p.tapped,
  )

  -- the row's number is no larger than its place, so that it fits where the place does
  pub row_small : j * 2 < length taps
  row_small = small (j * 2) h.length (length taps) p.some (omega (arith, taps_end))
    where
      small : (k n room : ℕ) → 0 < n → k * n + n ≤ room → k < room
      small k n room p e = omega (arith, mul-le-mul_left k p, mul-one k)

  abbrev ring : List Float
  ring = piece (s * h.length) h.length rings

  abbrev left_taps : List Float
  left_taps = piece (j * 2 * h.length) h.length taps

  abbrev right_taps : List Float
  right_taps = piece (j * 2 * h.length + h.length) h.length taps

  -- so they may be gone through
  pub parts_asked : TapsFor ring left_taps × TapsFor ring right_taps
  parts_asked = (stand (j * 2 * h.length) (omega (arith, taps_end)), stand (j * 2 * h.length + h.length) taps_end)
    where
      long : length ring ≡ h.length
      long = length_piece (s * h.length) h.length rings ring_end

      stand : (at : ℕ) → at + h.length ≤ length taps → TapsFor ring (piece at h.length taps)
      stand at e =
          record {
            each = length_piece at h.length taps e ∙ sym long;
            finite = finite_take (at + h.length - at) (drop at taps) (finite_drop at taps p.finite);
          }

  -- and give the speaker's parts
  pub parts_there : (q : ℕ) {sums : EarSums} → sums ≡ dot_each no_sums (unrolled q ring) left_taps right_taps
      → sums ≡ parts_by h q s j taps rings
  parts_there q e = e ∙ (λ i. record {
    left = ear 0 (ap (λ (n : ℕ). n * h.length) (sym (add-zero (j * 2)))) i;
    right = ear 1 (sym right_behind) i;
  })
    where
      ear : (side : ℕ) {at : ℕ} → at ≡ (j * 2 + side) * h.length
          → dot zero_float (unrolled q ring) (piece at h.length taps) ≡ part_by h.length q s j side taps rings
      ear side {at} there =
          ap (λ (l : List Float). dot zero_float (unrolled q l) (piece at h.length taps))
          (part_is (s * h.length) h.length rings)
          ∙ ap (dot zero_float (unrolled q (chunk h.length s rings)))
          (part_is at h.length taps ∙ ap (λ (k : ℕ). take h.length (drop k taps)) there)
