-- The loop over the speakers: each ear's parts are added to its own sum, and the sums become the ears' samples. Assumes
-- nothing.
use Rattle.std.specs.Prelude.{◌≡◌, ◌+◌, ◌≤◌, ◌<◌}
use Rattle.lists.specs.Prelude.{ap, ◌∙◌, List, [], ℕ, get_or, Float, binary64, add, mul}
use Rattle.formats.specs.Floats.{zero_float}
use Rattle.numbers.specs.Computed.{narrowed}
use Rattle.numbers.specs.Normalization.{inverse_root_of}
use Rattle.planes.proofs.Sums.{Summing, summing_none, summing_more, summing_all}
use Rattle.hrtf_history.specs.History.{ear_of}
use Rattle.hrtf_rings.specs.Computed.{part_of}
use Rattle.hrtf_checks.specs.declared.ConvolverShape.{ConvolverShape}
use Rattle.hrtf_checks.specs.Call.{setup_of}
use Rattle.hrtf.specs.declared.parts.EarSums.{EarSums}
use Rattle.hrtf.specs.Computed.{parts_by, ear_by, ears_by}

-- each speaker's part of an ear
abbrev parts : ConvolverShape → ℕ → List ℕ → List Float → List Float → ℕ → ℕ → Float
parts h p rows taps rings ear = part_of (setup_of h [] rows taps) ear p rings

-- the parts of the speakers before s are added, each ear's to its own sum
pub record Adding (h : ConvolverShape) (p : ℕ) (rows : List ℕ) (taps rings : List Float) (left right : Float)
    (s : ℕ) : Type 0 where
  pub to_left : Summing (parts h p rows taps rings 0) h.speakers left s
  pub to_right : Summing (parts h p rows taps rings 1) h.speakers right s

module _ {h : ConvolverShape} {p : ℕ} {rows : List ℕ} {taps rings : List Float} where
  pub adding_none : Adding h p rows taps rings zero_float zero_float 0
  adding_none =
      record {
        to_left = summing_none (parts h p rows taps rings 0) h.speakers;
        to_right = summing_none (parts h p rows taps rings 1) h.speakers;
      }

  pub adding_more : {left right : Float} {s : ℕ} {both : EarSums} → Adding h p rows taps rings left right s
      → s < h.speakers
      → both ≡ parts_by h p s (get_or rows s 0) taps rings
      → Adding h p rows taps rings (add binary64 left both.left) (add binary64 right both.right) (s + 1)
  adding_more g lt e =
      record {
        to_left = summing_more (parts h p rows taps rings 0) h.speakers _ _ _ g.to_left lt
            (ap (λ (b : EarSums). b.left) e);
        to_right = summing_more (parts h p rows taps rings 1) h.speakers _ _ _ g.to_right lt
            (ap (λ (b : EarSums). b.right) e);
      }

  -- the sums times the factor, narrowed, are the ears' samples
  pub adding_all : {left right : Float} {s : ℕ} {factor x y : Float} → Adding h p rows taps rings left right s
      → h.speakers ≤ s
      → factor ≡ inverse_root_of h.speakers → x ≡ narrowed (mul binary64 left factor)
      → y ≡ narrowed (mul binary64 right factor)
      → record { left = x; right = y } ≡ ears_by h rows taps p rings
  unfolding ear_of
  adding_all {s = s} {factor = factor} g end ef ex ey = λ i.
      record { left = eared 0 g.to_left ex i; right = eared 1 g.to_right ey i }
    where
      eared : (ear : ℕ) {sum r : Float} → Summing (parts h p rows taps rings ear) h.speakers sum s
          → r ≡ narrowed (mul binary64 sum factor)
          → r ≡ ear_by h rows taps ear p rings
      eared ear {sum} summed er = er
          ∙ rw (summing_all (parts h p rows taps rings ear) h.speakers sum s summed end, ef)
