-- Document 01, 'Gains', decoder matrix: "LFE takes the 0 degree row": so it is in every accepted matrix of a surround
-- layout, at every order. Assumes nothing.
use Rattle.std.specs.Prelude.{◌<◌, ◌≡◌}
use Rattle.lists.specs.Prelude.{ℕ, sym, ap, ◌∙◌, subst, true, true≢false, List, eqb-true, lit<, pos, Float}
use Rattle.formats.specs.Floats.{float}
use Rattle.refusals.proofs.Chains.{none_holds}
use Rattle.lists.specs.Tables.{chunk}
use Rattle.channel.specs.declared.Layout.{Layout}
use Rattle.channel.specs.declared.Layout.TheVariants.{Mono, Stereo, Surround51, Surround71, Custom}
use Rattle.channel.specs.Layouts.{channels_of, azimuth_of, low_frequency}
use Rattle.channel.specs.Orders.{channels_of_order}
use Rattle.decoder_matrix.specs.Speakers.{azimuth_by}
use Rattle.decoder_matrix.specs.Matrix.{row_towards}
use Rattle.decoder_matrix.specs.Promise.{WeightsAnswer, checks_of, refusal_of, DecoderMatrixPromise}
use Rattle.decoder_matrix.proofs.Meets.{row_is, weights_are}

-- it is one of the speakers, and counts as 0 degrees
in_front : (l : Layout) (i : ℕ) → low_frequency l i ≡ true → (i < channels_of l)
    × (azimuth_by l (channels_of l) i ≡ float (pos 0))
in_front Mono i e = absurd (true≢false (sym e))
in_front Stereo i e = absurd (true≢false (sym e))
in_front Surround51 i e =
    (subst (λ (k : ℕ). k < 6) (sym (eqb-true i 3 e)) (lit< tt), ap (azimuth_of Surround51) (eqb-true i 3 e))
in_front Surround71 i e =
    (subst (λ (k : ℕ). k < 8) (sym (eqb-true i 3 e)) (lit< tt), ap (azimuth_of Surround71) (eqb-true i 3 e))
in_front (Custom n) i e = absurd (true≢false (sym e))

pub low_frequency_row : (order : ℕ) (l : Layout) (w : List Float) (r : WeightsAnswer) → DecoderMatrixPromise order l w r
    → refusal_of order l w ≡ 0 → (i : ℕ) → low_frequency l i ≡ true
    → chunk (channels_of_order order) i r.weights ≡ row_towards order (channels_of l) (channels_of_order order)
    (float (pos 0))
low_frequency_row order l w r p z i e =
    ap (chunk (channels_of_order order) i) (ap (λ (c : WeightsAnswer). c.weights) p.bits ∙ weights_are order l w z)
    ∙ row_is order l w i (none_holds (checks_of order l w) tt z).0 (in_front l i e).0
    ∙ ap (row_towards order (channels_of l) (channels_of_order order)) (in_front l i e).1
