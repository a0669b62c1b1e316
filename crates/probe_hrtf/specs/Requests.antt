-- What stands in a request for the convolver (docs/PROBE.md, 'Operations', 17, 18 and 25). Definitions only.
use Rattle.std.specs.Prelude.{◌+◌, ◌*◌}
use Rattle.lists.specs.Prelude.{ℕ, List, length, Float}
use Rattle.big_endian.specs.Fields.{field_at, float_at, double_at}
use Rattle.big_endian.specs.Lists.{floats_at, doubles_at}
use Rattle.hrtf_desk.specs.declared.Desk.{Desk}
use Rattle.hrtf_rings.specs.State.{State}
use Rattle.hrtf_checks.specs.declared.ConvolverShape.{ConvolverShape}
use Rattle.hrtf_checks.specs.Call.{BlockCall}
use Rattle.probe_request.specs.Requests.{eight_at, samples_lent, weights_lent, cells_lent, place_in, list_at}

-- "ring position, frames-to-go .. (8 each)"
abbrev pub desk_at : List ℕ → ℕ → Desk
desk_at args at = record { position = field_at args at 8; to_go = field_at args (at + 8) 8 }

-- "channels, speakers, bank rows, L .. (8 each)"
abbrev pub shape_at : List ℕ → ConvolverShape
shape_at args = record {
  channels = field_at args 26 8;
  speakers = field_at args 34 8;
  rows = field_at args 42 8;
  length = field_at args 50 8;
}

-- ---- 17: how many of each list are lent

pub record Lengths : Type 0 where
  pub inputs : ℕ
  pub weights : ℕ
  pub taps : ℕ
  pub rings : ℕ
  pub ears : ℕ

-- "i, w, t, r, e: input samples, weights, taps, ring cells and ear samples lent (2 each)"
abbrev pub lent_of : List ℕ → Lengths
lent_of args = record {
  inputs = samples_lent args 0;
  weights = weights_lent args 2;
  taps = samples_lent args 4;
  rings = cells_lent args 6;
  ears = samples_lent args 8;
}

-- ---- 17: the five lists, "the i samples (f32, 4 each), the w weights (f64, 8 each), the t taps, the r cells and the
-- e samples (f32, 4 each)"

pub record Lists : Type 0 where
  pub inputs : List Float
  pub weights : List Float
  pub taps : List Float
  pub rings : List Float
  pub ears : List Float

abbrev pub listed : List Float → List Float → List Float → List Float → List Float → Lists
listed inputs weights taps rings ears =
    record { inputs = inputs; weights = weights; taps = taps; rings = rings; ears = ears }

abbrev pub lengths : Lists → Lengths
lengths l = record {
  inputs = length l.inputs;
  weights = length l.weights;
  taps = length l.taps;
  rings = length l.rings;
  ears = length l.ears;
}

-- one behind the other, the first from `at` on, and where they end

abbrev pub weights_from : ℕ → Lengths → ℕ
weights_from at n = at + 4 * n.inputs

abbrev pub taps_from : ℕ → Lengths → ℕ
taps_from at n = weights_from at n + 8 * n.weights

abbrev pub rings_from : ℕ → Lengths → ℕ
rings_from at n = taps_from at n + 4 * n.taps

abbrev pub ears_from : ℕ → Lengths → ℕ
ears_from at n = rings_from at n + 4 * n.rings

abbrev pub lists_end : ℕ → Lengths → ℕ
lists_end at n = ears_from at n + 4 * n.ears

-- "every other list holds what the request gives": as it stands, where all lie inside the arguments
abbrev pub lists_at : List ℕ → ℕ → Lengths → Lists
lists_at args at n =
    record {
      inputs = floats_at args at n.inputs;
      weights = doubles_at args (weights_from at n) n.weights;
      taps = floats_at args (taps_from at n) n.taps;
      rings = floats_at args (rings_from at n) n.rings;
      ears = floats_at args (ears_from at n) n.ears;
    }

-- and any lists, each that does not lie inside as it was
abbrev pub lists_read : List ℕ → ℕ → Lists → Lists
lists_read args at l =
    record {
      inputs = list_at float_at 4 args at l.inputs;
      weights = list_at double_at 8 args (weights_from at (lengths l)) l.weights;
      taps = list_at float_at 4 args (taps_from at (lengths l)) l.taps;
      rings = list_at float_at 4 args (rings_from at (lengths l)) l.rings;
      ears = list_at float_at 4 args (ears_from at (lengths l)) l.ears;
    }

-- with the place behind them
pub record ReadLists : Type 0 where
  pub lists : Lists
  pub end : ℕ

abbrev pub read_from : List ℕ → ℕ → Lists → ReadLists
read_from args at l = record { lists = lists_read args at l; end = place_in (length args) (lists_end at (lengths l)) }

-- ---- 17: what is handed to the convolver

abbrev pub block_end : Lengths → ℕ
block_end n = lists_end 138 n

-- "frames, stride (8 each), the bank row of each of eight speakers (8 each)", beside the lists
abbrev pub call_of : List ℕ → Lists → BlockCall
call_of args l =
    record {
      shape = shape_at args;
      frames = field_at args 58 8;
      stride = field_at args 66 8;
      inputs = l.inputs;
      weights = l.weights;
      rows = eight_at args 74;
      taps = l.taps;
      ears = l.ears;
    }

abbrev pub state_of : List ℕ → Lists → State
state_of args l = record { rings = l.rings; desk = desk_at args 10 }

unfoldable pub call_at : List ℕ → Lengths → BlockCall
call_at args n = call_of args (lists_at args 138 n)

unfoldable pub state_at : List ℕ → Lengths → State
state_at args n = state_of args (lists_at args 138 n)

-- ---- 25: "the r cells and the t taps (f32, 4 each)", one behind the other, and where they end

abbrev pub sum_taps : ℕ → ℕ
sum_taps r = 12 + 4 * r

abbrev pub sum_end : ℕ → ℕ → ℕ
sum_end r t = sum_taps r + 4 * t
