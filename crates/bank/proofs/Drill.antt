-- Item 11 of the marked drill table (document 02, E2 and E6): the bank of one row at 0, L = 1, left 1.0, right 0.5 is
-- exactly the bytes of document 01 in version 1, and one elevation more in version 2, which is what is written; both
-- read as that bank, at elevation 0; each turns into the other; and without the last byte those of document 01 are
-- refused with 14 at 1. Assumes nothing.
use Rattle.std.specs.Prelude.{◌≡◌}
use Rattle.lists.specs.Prelude.{refl, sym, ap, ◌∙◌, true, List, flat_map, ℕ, arith, Float, to_bits, fits, ℤ, length}
use Rattle.lists.specs.Prelude.{take}
use Rattle.big_endian.specs.Bytes.{bytes_of}
use Rattle.big_endian.specs.Lists.{field_bytes}
use Rattle.bank_form.specs.Bank.{pairs_of, is_azimuth, is_elevation, is_tap, is_level, unlike, pairwise, valid, level}
use Rattle.bank_form.specs.Version.{elevation_bytes}
use Rattle.bank_form.specs.Encoding.{row_bytes, head_bytes, encode}
use Rattle.bank_form.specs.Fault.{wrong, fault}
use Rattle.bank_form.specs.File.{IsFile}
use Rattle.bank_form.proofs.Worked.{cut_file}
use Rattle.bank.specs.Reading.{ReadOutcome, read_bank, read_refused, ReadPromise}
use Rattle.bank.specs.Writing.{WriteOutcome, WritePromise}
use Rattle.bank.specs.Conversion.{ToVersion1Promise, ToVersion2Promise}
use Rattle.bank.specs.Drill.{one_row, one_row_bytes, one_row_bytes2}
use Rattle.bank.proofs.Meets.{Lists, read_bad}
use Rattle.bank.proofs.Converting.{holds_2}
use Rattle.bank.proofs.Laws.{is_accepted, is_written, handed}

pub bank_bytes : encode 1 one_row ≡ one_row_bytes
unfolding encode head_bytes row_bytes pairs_of elevation_bytes field_bytes flat_map bytes_of to_bits
bank_bytes = refl

pub bank_bytes_2 : encode 2 one_row ≡ one_row_bytes2
unfolding encode head_bytes row_bytes pairs_of elevation_bytes field_bytes flat_map bytes_of to_bits
bank_bytes_2 = refl

pub bank_keeps : valid one_row ≡ true
unfolding valid is_azimuth is_elevation is_tap pairs_of pairwise fits
bank_keeps = refl

pub bank_level : level one_row ≡ true
unfolding is_level unlike
bank_level = refl

pub bank_cut : fault (take 18 one_row_bytes) ≡ wrong 14 1
bank_cut = cut_file

file_1 : IsFile 1 one_row_bytes one_row
file_1 = record { holds = record { known = refl; levelled = λ e. bank_level }; keeps = bank_keeps; bytes = bank_bytes }

file_2 : IsFile 2 one_row_bytes2 one_row
file_2 = record { holds = holds_2 one_row; keeps = bank_keeps; bytes = bank_bytes_2 }

-- what every writing, turning and reading of them comes to

pub drill_written : (buffer : List ℕ) (w : WriteOutcome) → length buffer ≡ 21 → WritePromise one_row buffer w
    → w ≡ record { answer = record { refusal = 0; offset = 0; bytes = 21 }; file = one_row_bytes2 }
drill_written buffer w h r =
    is_written one_row buffer w r bank_keeps (h ∙ sym (ap length bank_bytes_2)) ∙ ap handed bank_bytes_2

pub drill_forward : (out : List ℕ) (w : WriteOutcome) → length out ≡ 21 → ToVersion2Promise one_row_bytes out w
    → w ≡ record { answer = record { refusal = 0; offset = 0; bytes = 21 }; file = one_row_bytes2 }
drill_forward out w h t =
    t.words.accepted one_row file_1 (h ∙ sym (ap length bank_bytes_2)) ∙ ap handed bank_bytes_2

pub drill_back : (out : List ℕ) (w : WriteOutcome) → length out ≡ 19 → ToVersion1Promise one_row_bytes2 out w
    → w ≡ record { answer = record { refusal = 0; offset = 0; bytes = 19 }; file = one_row_bytes }
drill_back out w h t =
    t.words.accepted one_row file_2 bank_level (h ∙ sym (ap length bank_bytes)) ∙ ap handed bank_bytes

module _ (zs es : List ℤ) (xs : List Float) (lists : Lists zs es xs) (o : ReadOutcome) where
  pub drill_read : ReadPromise one_row_bytes zs es xs o → o ≡ read_bank one_row zs es xs
  drill_read r = is_accepted one_row_bytes zs es xs o r lists 1 one_row file_1

  pub drill_read_2 : ReadPromise one_row_bytes2 zs es xs o → o ≡ read_bank one_row zs es xs
  drill_read_2 r = is_accepted one_row_bytes2 zs es xs o r lists 2 one_row file_2

  pub drill_cut : ReadPromise (take 18 one_row_bytes) zs es xs o → o ≡ read_refused (wrong 14 1) zs es xs
  drill_cut r =
      r.bits ∙ sym (read_bad zs es xs (take 18 one_row_bytes) lists (wrong 14 1) bank_cut (λ z. omega (arith, z)))
