-- The marked drill table, all eleven: each example is shown in the crate that it is about. Assumes nothing.
use Rattle.std.specs.Prelude.{◌≡◌}
use Rattle.lists.specs.Prelude.{ap, ◌∙◌, pos, binary64, of_int, to_bits}
use Rattle.formats.specs.Floats.{float}
use Rattle.numbers.specs.Computed.{Rooted}
use Rattle.numbers.specs.Promise.{RootPromise}
use Rattle.numbers.proofs.Drill.{root_four, root_two, tie_down, tie_up}
use Rattle.harmonics.proofs.Drill.{drill_1, drill_1_floats, drill_2, drill_2_floats, drill_3, drill_3_floats}
use Rattle.stereo.proofs.Drill.{left_at_minus_100, right_at_minus_100, left_at_250, right_at_250, at_minus_100, at_250}
use Rattle.surround.proofs.Drill.{silent_at_120, only_ls, silent_at_0, centre, left_and_right, centre_loudest, at_120}
use Rattle.surround.proofs.Drill.{at_0}
use Rattle.hrtf_history.proofs.Drill.{drill_8, drill_9, drill_9_each, drill_9_heard}
use Rattle.bank_choice.proofs.Drill.{drill_tie}
use Rattle.bank.proofs.Drill.{drill_written, drill_forward, drill_back, drill_read, drill_cut}
use Rattle.drill_table.specs.Table.{DrillTable}

-- the roots of 4 and 2, whose floats are computed
four : (r : Rooted) → RootPromise (float (pos 4)) r → r ≡ record { refusal = 0; value = float (pos 2) }
unfolding of_int
four r p = p.bits ∙ root_four

two : (r : Rooted) → RootPromise (float (pos 2)) r → (r.refusal ≡ 0)
    × (to_bits binary64 r.value ≡ 0x3FF6A09E667F3BCD)
unfolding of_int
two r p = ((p.words.nearest tt).0, ap (λ (a : Rooted). to_bits binary64 a.value) p.bits ∙ root_two)

pub drill_table : DrillTable
drill_table = record {
  item_1 = drill_1;
  item_1_given = drill_1_floats;
  item_2 = drill_2;
  item_2_given = drill_2_floats;
  item_3 = drill_3;
  item_3_given = drill_3_floats;
  item_4_left = (left_at_minus_100, right_at_minus_100);
  item_4_right = (left_at_250, right_at_250);
  item_4_left_given = at_minus_100;
  item_4_right_given = at_250;
  item_5_at_120 = silent_at_120;
  item_5_ls = only_ls;
  item_5_at_0 = silent_at_0;
  item_5_centre = centre;
  item_5_equal = left_and_right;
  item_5_loudest = centre_loudest;
  item_5_at_120_given = at_120;
  item_5_at_0_given = at_0;
  item_6_four = four;
  item_6_two = two;
  item_7_down = λ y p. p.bits ∙ tie_down;
  item_7_up = λ y p. p.bits ∙ tie_up;
  item_8 = drill_8;
  item_9 = drill_9;
  item_9_each = drill_9_each;
  item_9_heard = drill_9_heard;
  item_10 = λ rest heights six six-heights r. drill_tie rest six heights six-heights r;
  item_11_read = λ zs es xs z e x o. drill_read zs es xs (record { azimuths = z; elevations = e; taps = x }) o;
  item_11_written = λ buffer e w. drill_written buffer w e;
  item_11_forward = λ out e w. drill_forward out w e;
  item_11_back = λ out e w. drill_back out w e;
  item_11_cut = λ zs es xs z e x o. drill_cut zs es xs (record { azimuths = z; elevations = e; taps = x }) o;
}
