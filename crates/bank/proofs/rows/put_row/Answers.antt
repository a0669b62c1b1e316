-- `bank::rows::put_row` meets its contract. Assumes nothing.
use Rattle.std.specs.Prelude.{◌≡◌, ◌++◌, ◌+◌}
use Rattle.lists.specs.Prelude.{refl, ap, ◌∙◌, append_assoc, arith, binary32, to_bits, ℤ, length-append}
use mir.Syntax.{w16}
use mir.Val.{to_z, of_z}
use mir.Facts.{to_z-of_z}
use Rattle.big_endian.specs.Bytes.{bytes_of}
use Rattle.big_endian.specs.Fields.{with_signed}
use Rattle.lists.specs.Placed.{placed}
use Rattle.big_endian.specs.Lists.{float_bytes}
use Rattle.big_endian.proofs.Bytes.{length_bytes}
use Rattle.big_endian.proofs.Fields.{field_put}
use Rattle.big_endian.proofs.Lists.{part_more, length_field_bytes}
use Rattle.bank_form.specs.Version.{elevation_size, elevation_bytes}
use Rattle.bank_form.proofs.RoundTrip.{length_elevation}
use Rattle.bank.proofs.rows.put_row.Goals as goal

pub returns : goal.returns
unfolding with_signed
returns c =
    let args = c.args in
    let bits : of_z w16 (to_z w16 (of_z w16 args.azimuth)) ≡ of_z w16 args.azimuth = ap (of_z w16)
    (to_z-of_z c.ranges.azimuth) in
    let azimuth = bytes_of 2 (of_z w16 args.azimuth) in
    let elevation = elevation_bytes args.version args.elevation in
    let size = length_elevation args.version args.elevation in
    let one = field_put args.file.now c.put_i16.new.out args.at 2 _ (omega arith) (omega arith)
    c.put_i16.ensures ∙ ap (placed _ _) (ap (bytes_of 2) bits) in
    let up = c.put_elevation in
    let two =
    part_more args.file.now c.put_i16.new.out up.new.file azimuth elevation args.at 2
    (args.at + 2) one (length_bytes 2 _) refl (omega (arith, size))
    (up.ensures ∙ ap (λ (z : ℤ). placed c.put_i16.new.out (args.at + 2) (elevation_bytes args.version z))
    (to_z-of_z c.ranges.elevation)) in
    let three =
    part_more args.file.now up.new.file _ (azimuth ++ elevation) (float_bytes args.taps.now) args.at
    (2 + elevation_size args.version) _ two
    (length-append azimuth elevation ∙ omega (arith, length_bytes 2 (of_z w16 args.azimuth), size))
    (omega (arith, c.elevation_size.ensures.0))
    (omega (arith, length_field_bytes 4 (to_bits binary32) args.taps.now))
    c.put_taps.ensures in
    three ∙ ap (placed _ _) (append_assoc azimuth elevation (float_bytes args.taps.now))
