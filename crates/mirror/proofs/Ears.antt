-- Negating the lateral channels swaps the two ears, in each frame alone and in blocks (`ears_swap`): the right ear is
-- the left one's partner. Assumes nothing.
use Rattle.std.specs.Prelude.{◌≡◌, ◌||◌, ◌∷◌, ◌*◌, ◌≤◌, ◌<◌}
use Rattle.lists.specs.Prelude.{refl, ap, ◌∙◌, Bool, false, not, List, [], ℕ, zero, suc, arith, lit<, eqb, length}
use Rattle.lists.specs.Prelude.{Float, neg}
use Rattle.lists.specs.Tables.{chunk}
use Rattle.planes.specs.Sums.{mixed}
use Rattle.refusals.specs.Refusals.{◌when◌, outside}
use Rattle.refusals.proofs.Counts.{count_inside}
use Rattle.refusals.proofs.Chains.{off_accepts}
use Rattle.checks.specs.Finite.{has_nonfinite}
use Rattle.checks.specs.Lengths.{unfit}
use Rattle.checks.proofs.Checks.{both_off, planes_fit, equal_passes}
use Rattle.channel.specs.Orders.{refuses_order, channels_of_order}
use Rattle.channel.proofs.Orders.{by_order_lem, few_channels}
use Rattle.matrix.specs.Mirror.{mirrored}
use Rattle.matrix.specs.Rows.{left, right, hundredths, binaural_rows}
use Rattle.ambisonic_decoder.specs.Blocks.{refusal_of}
use Rattle.matrix.specs.Ears.{Mirrors}
use Rattle.matrix.proofs.Sound.{rows_finite}
use Rattle.matrix.proofs.Ears.{computed_order, computed_rows, computed_mirrors}
use Rattle.mirror.specs.Blocks.{PartnersSwap}
use Rattle.mirror.specs.Partners.{other_ear}
use Rattle.mirror.specs.Ears.{RowsSwapEars}
use Rattle.mirror.proofs.Blocks.{blocks_mirror}
use Rattle.mirror.proofs.Scenes.{scenes_mirror}

ears_partners : (n : ℕ) (weights : List Float) → Mirrors n weights
    → PartnersSwap 2 (channels_of_order n) weights other_ear
ears_partners n weights m = record { inside = inside; swaps = swap }
  where
    inside : (o : ℕ) → o < 2 → other_ear o < 2
    inside zero h = lit< tt
    inside (suc o) h = lit< tt

    swap : (o : ℕ) → o < 2 → (frame : List Float) → mixed (chunk (channels_of_order n) o weights) (mirrored neg frame)
        ≡ mixed (chunk (channels_of_order n) (other_ear o) weights) frame
    swap zero h frame = m.swaps right frame
    swap (suc zero) h frame = m.swaps left frame
    swap (suc (suc o)) h frame = absurd (omega arith)

-- a block whose lengths fit is refused by none of its tests
module _ (n : ℕ) (order : refuses_order n ≡ false) (weights : List Float) (same : weights ≡ binaural_rows n) where
  long : length weights ≡ 2 * channels_of_order n
  unfolding binaural_rows hundredths
  long = ap length same
      ∙ by_order_lem (λ (m : ℕ). length (binaural_rows m) ≡ 2 * channels_of_order m) refl refl refl n order

  fits_accepted : (frames stride inputs out : ℕ) → frames ≤ stride → inputs ≡ channels_of_order n * stride
      → out ≡ 2 * stride
      → refusal_of (record { outputs = 2; channels = channels_of_order n; frames = frames; stride = stride }) weights
      inputs out ≡ 0
  fits_accepted frames stride inputs out fit e o =
      let k : ℕ = channels_of_order n in
      let some = few_channels n order in
      let planes : Bool = unfit inputs k stride frames || unfit out 2 stride frames in
      let lengths : Bool = planes || not (eqb (length weights) (2 * k)) in
      off_accepts (2 when outside 2 16 ∷ 2 when outside k 16 ∷ 5 when lengths ∷ 7 when has_nonfinite weights ∷ []) (
        refl,
        (
          count_inside k 16 some.0 some.1,
          (
            both_off planes (not (eqb (length weights) (2 * k)))
                (both_off (unfit inputs k stride frames) (unfit out 2 stride frames)
                (planes_fit inputs k stride frames fit e) (planes_fit out 2 stride frames fit o))
                (equal_passes (length weights) (2 * k) long),
            (ap has_nonfinite same ∙ rows_finite n order, tt),
          ),
        ),
      )

pub ears_swap : RowsSwapEars
ears_swap n lent weights p =
    let swap = computed_mirrors n lent weights p in
    let partners = ears_partners n weights swap in
    record {
      frames = swap;
      blocks = blocks_mirror 2 (channels_of_order n) weights other_ear partners;
      accepted = fits_accepted n (computed_order n lent weights p) weights (computed_rows n lent weights p);
      voices = (scenes_mirror n).outputs 2 weights other_ear partners;
    }
