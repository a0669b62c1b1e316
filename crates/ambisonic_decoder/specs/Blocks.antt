-- Document 01, 'Sums': "Decoder and rows: each output is the f64 sum from 0.0, channels rising, of sample times
-- coefficient, then narrowed." 'Refusal numbers': 2 when "channels not 1..16", which outputs are too; 5 when "a lent
-- length doesn't fit: stride below the frame count, or a length other than planes x stride, [..] weights outputs (or
-- speakers) x channels"; 7 when "a weight [..] is NaN or infinite". Definitions only.
use Rattle.std.specs.Prelude.{◌*◌, ◌||◌, ◌∷◌}
use Rattle.lists.specs.Prelude.{ℕ, Bool, not, List, [], eqb, length, Float}
use Rattle.refusals.specs.Refusals.{first_of, ◌when◌, outside}
use Rattle.lists.specs.Tables.{tab}
use Rattle.checks.specs.Finite.{has_nonfinite}
use Rattle.checks.specs.Lengths.{block_unfit}
use Rattle.planes.specs.Planes.{frame_at}
use Rattle.planes.specs.Sums.{mixed_all}
use Rattle.ambisonic_decoder.specs.declared.DecoderShape.{DecoderShape}

-- the lengths of the weights, the inputs and the outputs
abbrev pub decoder_unfit : DecoderShape → ℕ → ℕ → ℕ → Bool
decoder_unfit s weights inputs out =
    block_unfit inputs s.channels out s.outputs s.stride s.frames
    || not (eqb weights (s.outputs * s.channels))

abbrev pub refusal_of : DecoderShape → List Float → ℕ → ℕ → ℕ
refusal_of s weights inputs out =
    first_of (2 when outside s.outputs 16 ∷ 2 when outside s.channels 16
    ∷ 5 when decoder_unfit s (length weights) inputs out ∷ 7 when has_nonfinite weights ∷ [])

-- frame n of the outputs, of frame n of the inputs
abbrev pub decoded : DecoderShape → List Float → List Float → List (List Float)
decoded s weights inputs =
    tab 0 s.frames (λ n. mixed_all s.outputs s.channels weights (frame_at inputs s.stride s.channels n))
