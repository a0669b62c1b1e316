-- Whether fields lie inside a list, decided by a quotient and a difference. Assumes nothing.
use Rattle.std.specs.Prelude.{◌≡◌, ◌+◌, ◌-◌, ◌*◌, ◌/◌, ◌≤◌, ◌<◌}
use Rattle.lists.specs.Prelude.{sym, ap, ◌∙◌, false, ℕ, le-div_iff_mul-le, div-lt_iff_lt-mul, dec_lt, arith, le-leb}
use Rattle.lists.specs.Prelude.{lt-leb, leb}

-- fields of no bytes take no room
pub no_width : (size at width count : ℕ) → width ≡ 0 → leb at size ≡ leb (at + width * count) size
no_width size at width count e =
    let none : at ≡ at + width * count = rw e (omega arith) in ap (λ (n : ℕ). leb n size) none

pub too_many : (size at width count : ℕ) → (width ≡ 0 → ⊥) → size / width < count
    → false ≡ leb (at + width * count) size
too_many size at width count wide h =
    let positive : 0 < width = omega arith in
    let long : size < count * width = (div-lt_iff_lt-mul positive).0 h in
    sym (lt-leb (at + width * count) size (omega arith))

pub few_enough : (size width count : ℕ) → (width ≡ 0 → ⊥) → count ≤ size / width → width * count ≤ size
few_enough size width count wide h =
    let positive : 0 < width = omega arith in
    let short : count * width ≤ size = (le-div_iff_mul-le positive).0 h in
    omega arith

pub same_room : (size at n : ℕ) → n ≤ size → leb at (size - n) ≡ leb (at + n) size
same_room size at n h =
    elim (dec_lt (size - n) at) [
      | yes k ↦ lt-leb at (size - n) k ∙ sym (lt-leb (at + n) size (omega arith))
      | no k ↦ le-leb at (size - n) (omega arith) ∙ sym (le-leb (at + n) size (omega arith))
    ]
