-- `ears_file::play_with` meets its contract: what was found is set up, and ready. Assumes nothing.
use Rattle.std.specs.Prelude.{◌*◌}
use Rattle.lists.specs.Prelude.{refl, sym, ap, ◌∙◌, arith, take, replicate, length-replicate, length-take-le, Float}
use Rattle.lists.specs.Prelude.{binary32}
use Rattle.lists.specs.Prelude.{of_bits}
use Rattle.formats.proofs.Patterns.{zero_bits}
use Rattle.formats.specs.Floats.{zero_float}
use Rattle.lists.proofs.Lists.{take_replicate}
use Rattle.refusals.proofs.Numbers.{accepted_ok}
use Rattle.ears_file.proofs.SetUp.{rows_few, taps_fit, taps_long, set_up_kept, new_known, cells_fit, ready, played_ends}
use Rattle.ears_file.proofs.play_with.Goals as goal

pub unwrap-arranged-requires : goal.unwrap-arranged-requires
unwrap-arranged-requires g c =
    accepted_ok _ (set_up_kept _ _ c.requires.1 refl _ (length-replicate 36 zero_float) _ c.new_surround.ensures)

pub overflow_mul-filters : goal.overflow_mul-filters
overflow_mul-filters g c = omega (arith, rows_few _ _ c.requires.1 refl)

pub overflow_mul-filters-2 : goal.overflow_mul-filters-2
overflow_mul-filters-2 g c = omega (arith, taps_fit _ _ c.requires.1 refl)

pub overflow_mul-cells : goal.overflow_mul-cells
overflow_mul-cells g c =
    let few = cells_fit _ _ c.requires.1 refl _ (length-replicate 36 zero_float) _
    (new_known c.new_surround.ensures c.unwrap-arranged.ensures) in
    omega (arith, few)

pub slice_bounds-play_all-end-2 : goal.slice_bounds-play_all-end-2
slice_bounds-play_all-end-2 g c =
    sym (length-take-le _ c.args.taps.now
    (omega (
      arith,
      taps_fit _ _ c.requires.1 refl,
      taps_long _ _ c.requires.1 refl,
    )))

pub slice_bounds-rings-end : goal.slice_bounds-rings-end
slice_bounds-rings-end g c =
    cells_fit _ _ c.requires.1 refl _ (length-replicate 36 zero_float) _
    (new_known c.new_surround.ensures c.unwrap-arranged.ensures)

pub slice_bounds-play_all-end-3 : goal.slice_bounds-play_all-end-3
slice_bounds-play_all-end-3 g c =
    sym (length-take-le _ (replicate 3072 (of_bits binary32 0))
    (cells_fit _ _ c.requires.1 refl _ (length-replicate 36 zero_float) _
    (new_known c.new_surround.ensures c.unwrap-arranged.ensures)))

pub play_all-requires : goal.play_all-requires
play_all-requires g c =
    let few = cells_fit _ _ c.requires.1 refl _ (length-replicate 36 zero_float) _
    (new_known c.new_surround.ensures c.unwrap-arranged.ensures) in
    record {
      blocks_accepted =
          ready _ _ c.requires.1 refl _ (length-replicate 36 zero_float) _
          (new_known c.new_surround.ensures c.unwrap-arranged.ensures);
      rings_value =
          ap
          (λ (x : Float). take (c.unwrap-arranged.result.speakers * c.args.read.length) (replicate 3072 x))
          (zero_bits binary32)
          ∙ take_replicate _ 3072 zero_float few;
    }

pub returns : goal.returns
returns g c =
    played_ends _ _ c.requires.1 refl _ (length-replicate 36 zero_float) _
    (new_known c.new_surround.ensures c.unwrap-arranged.ensures) _ c.play_all.ensures
