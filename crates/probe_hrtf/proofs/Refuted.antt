-- What the promise rules out: of every accepted block the unsettled count in the place of the samples, of every refused
-- reset the desk of a block, and of no cells a sum of -0.0; and a desk, a shape or lists that are read or put
-- otherwise. Assumes nothing.
use Rattle.std.specs.Prelude.{◌≡◌, ◌∷◌, ◌+◌, ◌*◌, ◌%◌, ◌^◌, ◌≤◌, ◌<◌}
use Rattle.lists.specs.Prelude.{sym, ap, ◌∙◌, subst, true, List, [], ℕ, suc, arith, lt-leb, length, pos, Float, fin}
use Rattle.lists.specs.Prelude.{nan, binary64, to_bits}
use Rattle.formats.specs.Floats.{zero_float}
use Rattle.big_endian.specs.Bytes.{bytes_of}
use Rattle.big_endian.specs.Fields.{field_at}
use Rattle.big_endian.specs.Lists.{strided, float_bytes, double_bytes, floats_at}
use Rattle.big_endian.proofs.Bytes.{length_bytes}
use Rattle.big_endian.proofs.Fields.{lies_out, field_out}
use Rattle.big_endian.proofs.Lists.{length_field_bytes}
use Rattle.hrtf_desk.specs.declared.Desk.{Desk}
use Rattle.hrtf_checks.specs.declared.ConvolverShape.{ConvolverShape}
use Rattle.hrtf_checks.specs.Refusals.{refusal_of}
use Rattle.hrtf.specs.Promise.{BlockOutcome, outcome}
use Rattle.hrtf.specs.Reset.{ResetOutcome, reset_refusal, reset_by_of, reset_outcome}
use Rattle.hrtf.proofs.Meets.{outcome_by_lem}
use Rattle.lists.proofs.Tests.{cond_false}
use Rattle.probe_request.specs.Requests.{samples_lent, cells_lent, list_at}
use Rattle.probe_request.proofs.Requests.{place_there}
use Rattle.probe_answer.specs.Answers.{Draft, draft, none, ◌then◌}
use Rattle.probe_answer.proofs.Meets.{taken}
use Rattle.probe_answer.proofs.Standing.{Told, then_same, same_entry, parts_room, second_told, taken_told}
use Rattle.probe_hrtf.specs.Requests.{desk_at, shape_at, lent_of, Lists, ReadLists, lengths, lists_end, read_from}
use Rattle.probe_hrtf.specs.Requests.{block_end, call_at, state_at, sum_end}
use Rattle.probe_hrtf.specs.Answers as Answers
use Rattle.probe_hrtf.specs.Answers.{then_desk, block_shown, block_by, reset_shown, sum_at, sum_shown, sum_by}
use Rattle.probe_hrtf.specs.Answers.{answer_of}

module _ (args out : List ℕ) (r : Draft) (room : 9 ≤ length out) where
  -- of an accepted block the unsettled count is told in the place of the samples
  unsettled_before_samples : let n = lent_of args in let unsettled = (outcome (call_at args n)
      (state_at args n)).answer.unsettled in r ≡ answer_of 17 args out → length args ≡ block_end n
      → refusal_of (call_at args n) (state_at args n) ≡ 0 → (field_at args 58 8 % 256 ^ 8 ≡ unsettled % 256 ^ 8 → ⊥)
      → field_at r.bytes 1 8 ≡ unsettled % 256 ^ 8 → ⊥
  unfolding answer_of block_by block_shown call_at
  unsettled_before_samples is long accepted differs e =
      let n = lent_of args in
      let c = call_at args n in
      let t = state_at args n in
      let o = outcome c t in
      let a = o.answer in
      let rest = bytes_of 8 a.unsettled ∷ bytes_of 8 a.desk.position ∷ bytes_of 8 a.desk.to_go
      ∷ float_bytes o.rings ∷ float_bytes o.ears ∷ [] in
      let told = taken_told (block_end n) args out r is long
      (second_told a.refusal 8 a.samples rest out (omega arith) room) in
      let samples : a.samples ≡ field_at args 58 8 = ap (λ (x : BlockOutcome). x.answer.samples)
      (outcome_by_lem c t 0 accepted) in
      differs (sym (told ∙ ap (λ (k : ℕ). k % 256 ^ 8) samples) ∙ e)

  -- a refused reset tells the ring position that it is given
  position_told : (d : Desk) (speakers L k : ℕ) (cells : List Float) → reset_refusal speakers L cells ≡ suc k
      → Told 1 8 d.position (reset_shown (reset_outcome d speakers L cells) out)
  unfolding reset_shown reset_outcome
  position_told d speakers L k cells refused =
      subst (λ (o : ResetOutcome). Told 1 8 d.position (reset_shown o out))
      (sym (ap (λ (n : ℕ). reset_by_of n d cells) refused))
      (second_told (suc k) 8 d.position (bytes_of 8 d.to_go ∷ float_bytes cells ∷ []) out (omega arith) room)

  -- of a refused reset the desk is read where a block has it, and so the frames-to-go are told in the place of the ring
  -- position
  desk_at_the_place_of_a_block : (k : ℕ) → let cells = floats_at args 34 (cells_lent args 0) in
      r ≡ answer_of 18 args out
      → length args ≡ 34 + 4 * cells_lent args 0
      → reset_refusal (field_at args 18 8) (field_at args 26 8) cells ≡ suc k
      → (field_at args 2 8 % 256 ^ 8 ≡ field_at args 10 8 % 256 ^ 8 → ⊥)
      → r ≡ reset_shown (reset_outcome (desk_at args 10) (field_at args 18 8) (field_at args 26 8) cells) out → ⊥
  unfolding answer_of Answers.reset_by_of
  desk_at_the_place_of_a_block k is long refused differs e =
      let told : (at : ℕ) → Told 1 8 (field_at args at 8)
      (reset_shown (reset_outcome (desk_at args at) (field_at args 18 8) (field_at args 26 8)
      (floats_at args 34 (cells_lent args 0))) out) =
      λ at. position_told (desk_at args at) (field_at args 18 8) (field_at args 26 8) k
      (floats_at args 34 (cells_lent args 0)) refused in
      differs (sym (taken_told (34 + 4 * cells_lent args 0) args out r is long (told 2))
      ∙ ap (λ (d : Draft). field_at d.bytes 1 8) e ∙ (told 10).value)

  -- of no cells the sum is told as -0.0, as where it does not begin at 0.0
  no_cells_minus_zero : r ≡ answer_of 25 args out → cells_lent args 0 ≡ 0
      → length args ≡ sum_end 0 (samples_lent args 2)
      → r ≡ sum_shown (fin true 0 (pos 0)) out → ⊥
  unfolding answer_of sum_by sum_at strided to_bits
  no_cells_minus_zero is none_lent long e =
      let zero = double_bytes (zero_float ∷ []) in
      let minus = double_bytes (fin true 0 (pos 0) ∷ []) in
      let size : (x : Float) → length (double_bytes (x ∷ [])) ≡ 8 = λ x. length_field_bytes 8 (to_bits binary64)
      (x ∷ []) in
      let right : r ≡ sum_shown zero_float out = is ∙ ap (λ (n : ℕ). sum_by n (samples_lent args 2) args out) none_lent
      ∙ sym (taken (sum_end 0 (samples_lent args 2)) args out _ long) in
      let same : zero ≡ minus = then_same (none out) zero minus (size _ ∙ sym (size _)) (omega (arith, size zero_float))
      (sym right ∙ e) in
      let bits = same_entry 8 (to_bits binary64) (zero_float ∷ []) (fin true 0 (pos 0) ∷ []) 0 nan (omega arith)
      (omega arith) same in
      omega (arith, bits)

-- ---- what a replay uses too

module _ (args : List ℕ) where
  -- the frames-to-go are read as the ring position
  desk_swapped : (at : ℕ) (r : Desk) → r ≡ desk_at args at → (field_at args at 8 ≡ field_at args (at + 8) 8 → ⊥)
      → r.position ≡ field_at args (at + 8) 8 → ⊥
  desk_swapped at r is differs e = differs (sym (ap (λ (d : Desk). d.position) is) ∙ e)

  -- a ring position that the arguments end inside of is read from the bytes that are there
  desk_cut : (at : ℕ) (r : Desk) → r ≡ desk_at args at → length args < at + 8 → 0 < r.position → ⊥
  desk_cut at r is short some = omega (
    arith,
    ap (λ (d : Desk). d.position) is,
    field_out args at 8 (lies_out (length args) at 8 (omega arith) short),
  )

  module _ (r : ConvolverShape) (is : r ≡ shape_at args) where
    -- the speakers are read as the channels
    shape_swapped : (field_at args 26 8 ≡ field_at args 34 8 → ⊥) → r.channels ≡ field_at args 34 8 → ⊥
    shape_swapped differs e = differs (sym (ap (λ (h : ConvolverShape). h.channels) is) ∙ e)

    -- the bank rows are read as L
    rows_for_L : (field_at args 50 8 ≡ field_at args 42 8 → ⊥) → r.length ≡ field_at args 42 8 → ⊥
    rows_for_L differs e = differs (sym (ap (λ (h : ConvolverShape). h.length) is) ∙ e)

  module _ (at : ℕ) (l : Lists) (r : ReadLists) (is : r ≡ read_from args at l) where
    -- samples that lie inside only in part are filled
    samples_cut : length args < at + 4 * length l.inputs → (r.lists.inputs ≡ l.inputs → ⊥) → ⊥
    unfolding list_at
    samples_cut short other = other (ap (λ (x : ReadLists). x.lists.inputs) is
        ∙ cond_false _ _ (lt-leb (at + 4 * length l.inputs) (length args) short))

    -- behind lists that lie inside there is another place
    end_further : (k : ℕ) → lists_end at (lengths l) ≤ length args → 0 < k → r.end ≡ lists_end at (lengths l) + k → ⊥
    end_further k whole some e =
        omega (arith, e, ap (λ (x : ReadLists). x.end) is, place_there (length args) (lists_end at (lengths l)) whole)

module _ (d : Desk) (out : List ℕ) (r : Draft) where
  -- the frames-to-go are put before the ring position
  desk_put_swapped : (refusal : ℕ) → 9 ≤ length out → let before = none out then bytes_of 1 refusal in r
      ≡ then_desk before d → (d.position % 256 ^ 8 ≡ d.to_go % 256 ^ 8 → ⊥)
      → r ≡ then_desk before (record { position = d.to_go; to_go = d.position }) → ⊥
  desk_put_swapped refusal room is differs e =
      let told : (n m : ℕ) → Told 1 8 n (none out then bytes_of 1 refusal then bytes_of 8 n then bytes_of 8 m) = λ n m.
      second_told refusal 8 n (bytes_of 8 m ∷ []) out (omega arith) room in
      differs (sym (told d.position d.to_go).value ∙ ap (λ (x : Draft). field_at x.bytes 1 8) (sym is ∙ e)
      ∙ (told d.to_go d.position).value)

  -- the frames-to-go are left out
  desk_half_put : (at : ℕ) → at + 16 ≤ length out → r ≡ then_desk (draft at out) d → r.place ≡ at + 8 → ⊥
  desk_half_put at room is e =
      let first = length_bytes 8 d.position in
      let second = length_bytes 8 d.to_go in
      omega (
        arith,
        e,
        ap (λ (x : Draft). x.place) is,
        parts_room
            (bytes_of 8 d.position ∷ bytes_of 8 d.to_go ∷ []) (draft at out) (omega arith),
      )
