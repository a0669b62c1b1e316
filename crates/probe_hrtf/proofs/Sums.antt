-- A sum: what is read is summed, and the sum is put, each from the one before. Assumes nothing.
use Rattle.std.specs.Prelude.{◌≡◌, ◌-◌, ◌*◌, ◌^◌, ◌+◌, ◌<◌}
use Rattle.lists.specs.Prelude.{◌∙◌, List, ℕ, arith, length, Float}
use Rattle.big_endian.specs.Fields.{field_at, float_at}
use Rattle.probe_request.specs.Requests.{samples_lent, cells_lent, place_in, list_at}
use Rattle.probe_request.proofs.Requests.{inside, place_behind, place_list, place_end, place_no_end}
use Rattle.probe_answer.specs.Answers.{Draft, none}
use Rattle.probe_answer.proofs.Meets.{taken, untaken}
use Rattle.probe_hrtf.specs.Requests.{sum_taps, sum_end}
use Rattle.probe_hrtf.specs.Answers.{sum_of, sum_at, sum_shown, sum_by, sum_answer}

module _ (args out : List ℕ) (ring taps : List Float) {p q : ℕ}
    (e : q ≡ place_in (length args) (p + 4 * length taps)) (f : p ≡ place_in (length args) (sum_taps (length ring)))
    (short : length args < 2 ^ 64 - 1) where
  ends : q ≡ place_in (length args) (sum_end (length ring) (length taps))
  ends = place_behind args short (sum_taps (length ring)) (4 * length taps) f e

  pub left : (length args ≡ q → ⊥) → none out ≡ sum_by (length ring) (length taps) args out
  unfolding sum_by
  left h = untaken (sum_end (length ring) (length taps)) args out _ (place_no_end args short _ ends h)

  pub summed : length args ≡ q → {d : Draft} {sum : Float} {newest : ℕ} {ring₁ taps₁ : List Float}
      → d ≡ sum_shown sum out → sum ≡ sum_of ring₁ newest taps₁ → newest ≡ field_at args 4 8
      → ring₁ ≡ list_at float_at 4 args 12 ring → taps₁ ≡ list_at float_at 4 args p taps
      → d ≡ sum_by (length ring) (length taps) args out
  unfolding sum_by sum_at
  summed h {d} put is en er et =
      let full : length args ≡ sum_end (length ring) (length taps) = place_end args short _ ends h in
      let r = inside float_at 4 args 12 ring _ er (omega arith) in
      let t = inside float_at 4 args (sum_taps (length ring)) taps _
      (place_list args short float_at 4 (sum_taps (length ring)) taps f et) (omega arith) in
      let shown : d ≡ sum_shown (sum_at args (length ring) (length taps)) out = cc in
      shown ∙ taken (sum_end (length ring) (length taps)) args out _ full

pub both_lent : (args out : List ℕ) {d : Draft} {r t : ℕ} → d ≡ sum_by r t args out → r ≡ cells_lent args 0
    → t ≡ samples_lent args 2 → d ≡ sum_answer args out
both_lent args out p rs ts = p ∙ (λ k. sum_by (rs k) (ts k) args out)
