-- `ears_file::turn::play` meets its contract: `turn_further`, from the four calls. Assumes nothing.
use Rattle.std.specs.Prelude.{◌≡◌, ◌≤◌}
use Rattle.lists.specs.Prelude.{sym, ap, ◌∙◌, arith, length, length-take}
use Rattle.files.proofs.Parts.{counts}
use Rattle.refusals.specs.Numbers.{value_in}
use Rattle.hrtf.proofs.Meets.{block_promised}
use Rattle.ears_wire.specs.Promise.{taken_told, given_told}
use Rattle.ears_wire.proofs.Meets.{taken_few, given_few}
use Rattle.ears_file.proofs.Turning.{frames_ok, block_ok, ears_ok, turn_further}
use Rattle.ears_file.proofs.turn.play.Goals as goal

pub unwrap-frames-requires : goal.unwrap-frames-requires
unwrap-frames-requires c =
    let inputs_long : length c.args.inputs.now ≡ 6144 = omega arith in
    frames_ok c.args.size c.args.bytes.now _ _ _ c.requires.held_lt_size.1 c.requires.held_lt_size.2 inputs_long
    c.frames_from_bytes.ensures

-- the whole frames end where the bytes that have come end, or before
pub overflow_mul-from : goal.overflow_mul-from
overflow_mul-from c =
    omega (
      arith,
      taken_few _ _ _ _ c.frames_from_bytes.ensures,
      ap (value_in 0) c.unwrap-frames.ensures,
      length-take c.args.size c.args.bytes.now,
      c.requires.held_lt_size,
    )

pub overflow_sub-result : goal.overflow_sub-result
overflow_sub-result c =
    omega (
      arith,
      taken_few _ _ _ _ c.frames_from_bytes.ensures,
      ap (value_in 0) c.unwrap-frames.ensures,
      length-take c.args.size c.args.bytes.now,
    )

pub unwrap-played-requires : goal.unwrap-played-requires
unwrap-played-requires c =
    let a = c.args in
    let few : c.unwrap-frames.result ≤ 1024 = omega (
      arith,
      taken_few _ _ _ _ c.frames_from_bytes.ensures,
      ap (value_in 0) c.unwrap-frames.ensures,
      length-take c.args.size c.args.bytes.now,
      c.requires.held_lt_size,
    ) in
    let inputs_long : length c.frames_from_bytes.new.inputs ≡ 6144 = omega (arith, c.frames_from_bytes.auto.inputs) in
    let ears_long : length a.ears.now ≡ 2048 = omega arith in
    let ready = c.requires.blocks_accepted in
    block_ok _ _ _ _ ready _ _ _ _ few inputs_long ears_long c.requires.state_fits _ c.process.ensures

pub unwrap-given-requires : goal.unwrap-given-requires
unwrap-given-requires c =
    let few : c.unwrap-frames.result ≤ 1024 = omega (
      arith,
      taken_few _ _ _ _ c.frames_from_bytes.ensures,
      ap (value_in 0) c.unwrap-frames.ensures,
      length-take c.args.size c.args.bytes.now,
      c.requires.held_lt_size,
    ) in
    let ears_long : length c.process.new.ears ≡ 2048 = omega (arith, c.process.auto.ears) in
    let out_long : length c.args.out.now ≡ 8192 = omega arith in
    ears_ok _ _ _ _ _ few ears_long out_long c.bytes_from_ears.ensures

pub returns : goal.returns
returns c =
    let a = c.args in
    let inputs_long : length a.inputs.now ≡ 6144 = omega arith in
    let ears_long : length a.ears.now ≡ 2048 = omega arith in
    let out_long : length a.out.now ≡ 8192 = omega arith in
    let took = ap (λ r. record { answer = taken_told r; inputs = c.frames_from_bytes.new.inputs })
    (sym c.unwrap-frames.ensures) ∙ c.frames_from_bytes.ensures in
    let gave = ap (λ r. record { answer = given_told r; out = c.bytes_from_ears.new.out }) (sym c.unwrap-given.ensures)
    ∙ c.bytes_from_ears.ensures in
    record {
      further =
          turn_further _ _ _ _ c.requires.blocks_accepted _ _ _ _ _ _ _ c.requires.held_lt_size inputs_long ears_long
          out_long _ _ took _ (block_promised c.unwrap-played.ensures c.process.ensures) c.process.auto.ears _ _ gave _
          c.keep_rest.ensures _ _ c.count_on.ensures c.count_on-2.ensures;
      room =
          counts _ _
          (omega (
            arith,
            given_few _ _ _ _ _ gave,
            c.bytes_from_ears.auto.out,
          ));
    }
