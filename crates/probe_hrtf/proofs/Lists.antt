-- The five lists of a request: read one behind the other, they are what stands there. Assumes nothing.
use Rattle.std.specs.Prelude.{◌≡◌, ◌+◌, ◌-◌, ◌*◌, ◌^◌, ◌≤◌, ◌<◌}
use Rattle.lists.specs.Prelude.{refl, ap, ◌∙◌, List, ℕ, arith, length, Float}
use Rattle.big_endian.specs.Fields.{float_at, double_at}
use Rattle.probe_request.specs.Requests.{samples_lent, weights_lent, cells_lent, place_in, list_at}
use Rattle.probe_request.proofs.Requests.{inside, place_behind, place_list, place_no_end}
use Rattle.probe_answer.specs.Answers.{Draft, none, taking}
use Rattle.probe_answer.proofs.Meets.{untaken}
use Rattle.probe_hrtf.specs.Requests.{Lengths, lent_of, Lists, listed, lengths, weights_from, taps_from, rings_from}
use Rattle.probe_hrtf.specs.Requests.{ears_from, lists_end, lists_at, ReadLists, read_from}

-- as many are lent as is asked for
pub lent_of_lem : (args : List ℕ) {i w t r e : ℕ} → i ≡ samples_lent args 0 → w ≡ weights_lent args 2
    → t ≡ samples_lent args 4
    → r ≡ cells_lent args 6 → e ≡ samples_lent args 8
    → record { inputs = i; weights = w; taps = t; rings = r; ears = e } ≡ lent_of args
lent_of_lem args is ws ts rs es = λ k. record { inputs = is k; weights = ws k; taps = ts k; rings = rs k; ears = es k }

-- no answer where the arguments do not end at the place that was found
pub end_missed : (end : ℕ) (args out : List ℕ) (answer : Draft) {p : ℕ} → (length args ≡ p → ⊥)
    → p ≡ place_in (length args) end → length args < 2 ^ 64 - 1 → none out ≡ taking end args out answer
end_missed end args out answer h e short = untaken end args out answer (place_no_end args short end e h)

module _ (args : List ℕ) (at : ℕ) (l : Lists) where
  abbrev size : ℕ
  size = length args

  abbrev n : Lengths
  n = lengths l

  -- each from the place behind the one before
  pub lists_got : length args < 2 ^ 64 - 1 → {w t r e z : ℕ} → w ≡ place_in size (at + 4 * n.inputs)
      → t ≡ place_in size (w + 8 * n.weights) → r ≡ place_in size (t + 4 * n.taps)
      → e ≡ place_in size (r + 4 * n.rings) → z ≡ place_in size (e + 4 * n.ears)
      → {inputs weights taps rings ears : List Float} → inputs ≡ list_at float_at 4 args at l.inputs
      → weights ≡ list_at double_at 8 args w l.weights → taps ≡ list_at float_at 4 args t l.taps
      → rings ≡ list_at float_at 4 args r l.rings → ears ≡ list_at float_at 4 args e l.ears
      → record { lists = listed inputs weights taps rings ears; end = z } ≡ read_from args at l
  lists_got short pw wt tr re ez is ws ts rs es =
      let pt = place_behind args short (weights_from at n) (8 * n.weights) pw wt in
      let pr = place_behind args short (taps_from at n) (4 * n.taps) pt tr in
      let pe = place_behind args short (rings_from at n) (4 * n.rings) pr re in
      let weights = place_list args short double_at 8 (weights_from at n) l.weights pw ws in
      let taps = place_list args short float_at 4 (taps_from at n) l.taps pt ts in
      let rings = place_list args short float_at 4 (rings_from at n) l.rings pr rs in
      let ears = place_list args short float_at 4 (ears_from at n) l.ears pe es in
      let end = place_behind args short (ears_from at n) (4 * n.ears) pe ez in
      λ k. record { lists = listed (is k) (weights k) (taps k) (rings k) (ears k); end = end k }

  module _ {x : Lists} {end : ℕ} (e : record { lists = x; end = end } ≡ read_from args at l) where
    pub read_end : end ≡ place_in size (lists_end at n)
    read_end = ap (λ (y : ReadLists). y.end) e

    -- where all lie inside the arguments, whatever they held
    pub lists_standing : lists_end at n ≤ length args → x ≡ lists_at args at n
    lists_standing h =
        let i = inside float_at 4 args at l.inputs _ refl (omega arith) in
        let w = inside double_at 8 args (weights_from at n) l.weights _ refl (omega arith) in
        let t = inside float_at 4 args (taps_from at n) l.taps _ refl (omega arith) in
        let r = inside float_at 4 args (rings_from at n) l.rings _ refl (omega arith) in
        let s = inside float_at 4 args (ears_from at n) l.ears _ refl (omega arith) in
        ap (λ (y : ReadLists). y.lists) e ∙ (λ k. listed (i k) (w k) (t k) (r k) (s k))
