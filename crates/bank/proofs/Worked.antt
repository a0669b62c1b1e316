-- Worked conversions (document 02, E6): which refusal comes first, in whatever output, and three rows there and back.
-- Assumes nothing.
use Rattle.std.specs.Prelude.{◌≡◌, ◌∷◌}
use Rattle.lists.specs.Prelude.{refl, sym, ap, ◌∙◌, true, List, [], flat_map, ℕ, arith, to_bits, fits, pos, negsuc}
use Rattle.lists.specs.Prelude.{length, set}
use Rattle.formats.specs.Floats.{one_float, half_float}
use Rattle.big_endian.specs.Bytes.{bytes_of}
use Rattle.big_endian.specs.Lists.{field_bytes}
use Rattle.bank_form.specs.Bank.{Bank, pairs_of, unlike, differ, is_azimuth, is_elevation, is_tap, is_level, pairwise}
use Rattle.bank_form.specs.Bank.{valid, level}
use Rattle.bank_form.specs.Version.{elevation_bytes}
use Rattle.bank_form.specs.Encoding.{row_bytes, head_bytes, encode}
use Rattle.bank_form.specs.Fault.{wrong}
use Rattle.bank_form.specs.File.{IsFile}
use Rattle.bank_form.proofs.Worked.{example2, one_at, version_2_with_1_in_front_forward}
use Rattle.bank_form.proofs.Worked.{raised_back, elevation_901_back}
use Rattle.bank.specs.Writing.{WriteOutcome}
use Rattle.bank.specs.Conversion.{conversion_refusal, ToVersion1Promise, ToVersion2Promise}
use Rattle.bank.proofs.Converting.{holds_2, forward_told, back_told}
use Rattle.bank.proofs.Laws.{handed}

-- ---- the length of the output comes last

forward_cut : (out : List ℕ) → conversion_refusal 1 2 (set example2 0 1) out ≡ wrong 14 1
forward_cut out =
    forward_told (set example2 0 1) out (wrong 14 1) version_2_with_1_in_front_forward (λ z. omega (arith, z))

back_at_901 : (out : List ℕ) → conversion_refusal 2 1 (one_at 0x00 0x00 0x03 0x85) out ≡ wrong 20 11
back_at_901 out = back_told (one_at 0x00 0x00 0x03 0x85) out (wrong 20 11) elevation_901_back (λ z. omega (arith, z))

back_raised : (out : List ℕ) → conversion_refusal 2 1 (one_at 0x00 0x00 0x00 0x64) out ≡ wrong 21 11
back_raised out = back_told (one_at 0x00 0x00 0x00 0x64) out (wrong 21 11) raised_back (λ z. omega (arith, z))

-- ---- three rows, at 0, 450 and -1799

three_rows : Bank
three_rows = record {
  azimuths = pos 0 ∷ pos 450 ∷ negsuc 1798 ∷ [];
  elevations = pos 0 ∷ pos 0 ∷ pos 0 ∷ [];
  length = 1;
  taps = one_float ∷ half_float ∷ one_float ∷ half_float ∷ one_float ∷ half_float ∷ [];
}

abbrev three_bytes : List ℕ
three_bytes =
    0x01 ∷ 0x00 ∷ 0x00 ∷ 0x00 ∷ 0x22 ∷ 0x00 ∷ 0x03 ∷ 0x00 ∷ 0x01
    ∷ 0x00 ∷ 0x00 ∷ 0x3F ∷ 0x80 ∷ 0x00 ∷ 0x00 ∷ 0x3F ∷ 0x00 ∷ 0x00 ∷ 0x00
    ∷ 0x01 ∷ 0xC2 ∷ 0x3F ∷ 0x80 ∷ 0x00 ∷ 0x00 ∷ 0x3F ∷ 0x00 ∷ 0x00 ∷ 0x00
    ∷ 0xF8 ∷ 0xF9 ∷ 0x3F ∷ 0x80 ∷ 0x00 ∷ 0x00 ∷ 0x3F ∷ 0x00 ∷ 0x00 ∷ 0x00 ∷ []

abbrev three_bytes2 : List ℕ
three_bytes2 =
    0x02 ∷ 0x00 ∷ 0x00 ∷ 0x00 ∷ 0x28 ∷ 0x00 ∷ 0x03 ∷ 0x00 ∷ 0x01
    ∷ 0x00 ∷ 0x00 ∷ 0x00 ∷ 0x00 ∷ 0x3F ∷ 0x80 ∷ 0x00 ∷ 0x00 ∷ 0x3F ∷ 0x00 ∷ 0x00 ∷ 0x00
    ∷ 0x01 ∷ 0xC2 ∷ 0x00 ∷ 0x00 ∷ 0x3F ∷ 0x80 ∷ 0x00 ∷ 0x00 ∷ 0x3F ∷ 0x00 ∷ 0x00 ∷ 0x00
    ∷ 0xF8 ∷ 0xF9 ∷ 0x00 ∷ 0x00 ∷ 0x3F ∷ 0x80 ∷ 0x00 ∷ 0x00 ∷ 0x3F ∷ 0x00 ∷ 0x00 ∷ 0x00 ∷ []

three_level : level three_rows ≡ true
unfolding three_rows is_level unlike
three_level = refl

three_keep : valid three_rows ≡ true
unfolding three_rows valid is_azimuth is_elevation is_tap unlike differ pairs_of pairwise fits
three_keep = refl

three_1 : IsFile 1 three_bytes three_rows
unfolding three_rows encode head_bytes row_bytes pairs_of elevation_bytes field_bytes flat_map bytes_of to_bits
three_1 = record { holds = record { known = refl; levelled = λ e. three_level }; keeps = three_keep; bytes = refl }

three_2 : IsFile 2 three_bytes2 three_rows
unfolding three_rows encode head_bytes row_bytes pairs_of elevation_bytes field_bytes flat_map bytes_of to_bits
three_2 = record { holds = holds_2 three_rows; keeps = three_keep; bytes = refl }

three_forward : (out : List ℕ) (w : WriteOutcome) → length out ≡ 45 → ToVersion2Promise three_bytes out w
    → w ≡ handed three_bytes2
three_forward out w h t =
    t.words.accepted three_rows three_1 (h ∙ sym (ap length three_2.bytes)) ∙ ap handed three_2.bytes

three_back : (out : List ℕ) (w : WriteOutcome) → length out ≡ 39 → ToVersion1Promise three_bytes2 out w
    → w ≡ handed three_bytes
three_back out w h t =
    t.words.accepted three_rows three_2 three_level (h ∙ sym (ap length three_1.bytes)) ∙ ap handed three_1.bytes
