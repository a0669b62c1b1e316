-- `bank::write_checked` meets its contract. What was made is the encoding of the bank, whose first fault is the bank's.
-- Assumes nothing.
use Rattle.std.specs.Prelude.{◌≡◌, ◌+◌, ◌*◌, ◌≤◌}
use Rattle.lists.specs.Prelude.{sym, ap, ◌∙◌, List, ℕ, arith, length, take, pos, nan}
use Rattle.lists.specs.ForAll.{ForAll}
use Rattle.lists.specs.Placed.{placed}
use Rattle.bank_form.specs.Fault.{Fault}
use Rattle.bank_form.specs.Bank.{Bank, rows}
use Rattle.bank_form.specs.Encoding.{encode}
use Rattle.bank_form.specs.Version.{row_size, largest_file}
use Rattle.bank_form.specs.Fault.{fault}
use Rattle.bank_form.specs.FitsFields.{FitsFields, IsI16, IsFloat}
use Rattle.bank_form.specs.WriteFault.{write_fault}
use Rattle.bank_form.proofs.Writer.{writer_as_reader}
use Rattle.bank_form.proofs.Walk.{same_number}
use Rattle.bank_form.proofs.Found.{handed, told_bad}
use Rattle.bank_form.proofs.RoundTrip.{Counted, length_encode, rows_reach}
use Rattle.bank.proofs.Converting.{holds_2}
use Rattle.bank.proofs.Meets.{LengthsFit, breaks, written, wrote}
use Rattle.bank.proofs.Fill.{made_file}
use Rattle.bank.proofs.write_checked.Goals as goal

-- how far a file of such counts reaches
room_made : (n l : ℕ) → n ≤ 8 → l ≤ 512 → 9 + n * row_size 2 l ≤ largest_file
room_made n l h g = omega (arith, rows_reach 2 n 8 l h g)

pub put_bank-requires : goal.put_bank-requires
put_bank-requires c =
    let room = room_made (length c.args.azimuths.now) c.args.l c.requires.1 c.requires.0 in (
      c.requires.0,
      c.requires.1,
      c.requires.2,
      c.requires.3,
      c.requires.4,
      omega (arith, room, c.requires.4, c.requires.5),
    )

-- what is known once the file is made
module _ (b : Bank) (file out made : List ℕ) (few : rows b ≤ 8) (short : b.length ≤ 512) (counted : Counted b)
    (long : length file ≡ 9 + rows b * row_size 2 b.length) (all : length made ≡ largest_file)
    (put : made ≡ placed out 0 (encode 2 b)) where
  size : length (encode 2 b) ≡ length file
  size = length_encode 2 b counted ∙ sym long

  same : take (length file) made ≡ encode 2 b
  same = made_file out made (encode 2 b) (length file) size put

  reach : 9 + rows b * row_size 2 b.length ≤ largest_file
  reach = room_made (rows b) b.length few short

  lengths : LengthsFit b file
  lengths = record { counted = counted; size = sym size }

  module _ (azimuths : ForAll IsI16 (pos 0) b.azimuths) (elevations : ForAll IsI16 (pos 0) b.elevations)
      (taps : ForAll IsFloat nan b.taps) where
    held : FitsFields 2 b
    held = record {
      holds = holds_2 b;
      few = omega (arith, few);
      short = omega (arith, short);
      follow = omega (arith, reach);
      paired = counted.paired;
      count = counted.count;
      azimuths = azimuths;
      elevations = elevations;
      taps = taps;
    }

    -- what the check of it found
    judged : (r : Fault) → r ≡ fault (take (length file) made) → r ≡ write_fault 2 b
    judged r e = e ∙ ap fault same ∙ sym (writer_as_reader 2 b held)

pub returns-in_err-check_file : goal.returns-in_err-check_file
returns-in_err-check_file c =
    let args = c.args in
    let bank : Bank = record {
      azimuths = args.azimuths.now;
      elevations = args.elevations.now;
      length = args.l;
      taps = args.taps.now;
    } in
    let file = args.file.now in
    let put = c.put_bank in
    let counted : Counted bank = record { paired = c.requires.2; count = c.requires.3 } in
    let all : length put.new.file ≡ largest_file = put.auto.file ∙ c.requires.5 in
    let wrong = judged bank file args.made.now put.new.file c.requires.1 c.requires.0 counted c.requires.4 all
    put.ensures.bytes put.ensures.azimuths put.ensures.elevations c.type_inv.taps _ c.in_err-check_file.ensures.bits in
    rw (handed c.from_residual.result _ c.from_residual.ensures.1)
    (breaks bank file (lengths bank file args.made.now put.new.file c.requires.1 c.requires.0 counted c.requires.4 all
    put.ensures.bytes) _ wrong (told_bad c.in_err-check_file.field-0.0))

pub returns : goal.returns
returns c =
    let args = c.args in
    let bank : Bank = record {
      azimuths = args.azimuths.now;
      elevations = args.elevations.now;
      length = args.l;
      taps = args.taps.now;
    } in
    let file = args.file.now in
    let put = c.put_bank in
    let counted : Counted bank = record { paired = c.requires.2; count = c.requires.3 } in
    let all : length put.new.file ≡ largest_file = put.auto.file ∙ c.requires.5 in
    let good = judged bank file args.made.now put.new.file c.requires.1 c.requires.0 counted c.requires.4 all
    put.ensures.bytes put.ensures.azimuths put.ensures.elevations c.type_inv.taps _ c.in_ok-check_file.ensures.bits in
    let none = same_number (sym good) in
    let copy = c.copy_from_slice.ensures.after ∙ same bank file args.made.now put.new.file c.requires.1 c.requires.0
    counted c.requires.4 all put.ensures.bytes in
    let fit = lengths bank file args.made.now put.new.file c.requires.1 c.requires.0 counted c.requires.4 all
    put.ensures.bytes in
    wrote 2 bank file _ _ fit.size copy ∙ written bank file fit none
