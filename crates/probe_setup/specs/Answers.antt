-- What is answered to requests for setting up the convolver (docs/PROBE.md, operations 19 and 20), in its words and
-- order. Definitions only.
use Rattle.std.specs.Prelude.{◌+◌, ◌*◌}
use Rattle.lists.specs.Prelude.{ℕ, cond, List, eqb}
use Rattle.big_endian.specs.Bytes.{bytes_of}
use Rattle.big_endian.specs.Fields.{field_at}
use Rattle.big_endian.specs.Lists.{double_bytes, number_bytes, signeds_at, doubles_at}
use Rattle.hrtf_setup.specs.Arrangement.{Wanted, Arrangement, arrangement}
use Rattle.hrtf_setup.specs.Promise.{of_layout, of_order}
use Rattle.probe_request.specs.Requests.{layout_at, eight_at, azimuths_lent, weights_lent}
use Rattle.probe_answer.specs.Answers.{Draft, none, taking, ◌then◌}

-- "refusal (1), speakers, channels (8 each), the eight rows (8 each), the w weights"
abbrev pub shown : Arrangement → List ℕ → Draft
shown o out =
    none out then bytes_of 1 o.answer.refusal then bytes_of 8 o.answer.speakers then bytes_of 8
    o.answer.channels then number_bytes o.rows then double_bytes o.weights

-- 19: "layout (9)"; 20: "the same with an order (8) in the layout's place"
abbrev pub wanted_at : ℕ → List ℕ → Wanted
wanted_at operation args = cond (eqb operation 19) (of_layout (layout_at args 76)) (of_order (field_at args 76 8))

-- "bank rows (8), the list of eight speakers' rows (8 each)", and behind what is wanted "the a azimuths (2 each), the e
-- elevations (2 each), the w weights (f64, 8 each)"
abbrev pub arranged_at : ℕ → List ℕ → ℕ → ℕ → ℕ → ℕ → Arrangement
arranged_at operation args at a e w =
    arrangement (wanted_at operation args) (signeds_at args at a) (signeds_at args (at + 2 * a) e) (field_at args 4 8)
    (doubles_at args (at + 2 * a + 2 * e) w) (eight_at args 12)

unfoldable pub arranged_answer : ℕ → List ℕ → ℕ → ℕ → ℕ → ℕ → List ℕ → Draft
arranged_answer operation args at a e w out = shown (arranged_at operation args at a e w) out

-- of lists of these lengths from `at` on; no answer where the arguments have another length
abbrev pub set_up_lent : ℕ → List ℕ → ℕ → ℕ → ℕ → ℕ → List ℕ → Draft
set_up_lent operation args at a e w out =
    taking (at + 2 * a + 2 * e + 8 * w) args out (arranged_answer operation args at a e w out)

-- "a: azimuths lent (1), e: elevations lent (1), w: weights lent (2)"; there is as much room for elevations as for
-- azimuths
unfoldable pub set_up_answer : ℕ → List ℕ → ℕ → List ℕ → Draft
set_up_answer operation args at out =
    set_up_lent operation args at (azimuths_lent args 0) (azimuths_lent args 1) (weights_lent args 2) out

-- the lists stand behind the layout, or behind the order; no other operation is answered here
abbrev pub answer_of : ℕ → List ℕ → List ℕ → Draft
answer_of operation args out = cond (eqb operation 19) (set_up_answer 19 args 85 out)
    (cond (eqb operation 20) (set_up_answer 20 args 84 out) (none out))
