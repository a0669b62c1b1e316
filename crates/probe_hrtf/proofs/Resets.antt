-- A reset: what is read is reset, and its outcome is put, each from the one before. Assumes nothing.
use Rattle.std.specs.Prelude.{◌≡◌, ◌+◌, ◌-◌, ◌*◌, ◌^◌, ◌<◌}
use Rattle.lists.specs.Prelude.{◌∙◌, List, ℕ, arith, length, Float}
use Rattle.big_endian.specs.Bytes.{bytes_of}
use Rattle.big_endian.specs.Fields.{field_at, float_at}
use Rattle.big_endian.specs.Lists.{float_bytes, floats_at}
use Rattle.hrtf_desk.specs.declared.Desk.{Desk}
use Rattle.hrtf.specs.Reset.{Rested, reset_outcome}
use Rattle.probe_request.specs.Requests.{place_in, list_at}
use Rattle.probe_request.proofs.Requests.{inside, place_end}
use Rattle.probe_answer.specs.Answers.{Draft, none, ◌then◌}
use Rattle.probe_answer.proofs.Meets.{taken}
use Rattle.probe_hrtf.specs.Requests.{desk_at}
use Rattle.probe_hrtf.specs.Answers.{then_desk, reset_shown, reset_by_of}

pub rested : (args out : List ℕ) (rings : List Float) {rings₁ rings₂ : List Float} {a b c : Draft} {r : Rested}
    {d left : Desk} {speakers L p n : ℕ}
    → c ≡ b then float_bytes rings₂ → b ≡ then_desk a left → a ≡ none out then bytes_of 1 n
    → record { answer = r; rings = rings₂ } ≡ reset_outcome d speakers L rings₁ → n ≡ r.refusal → left ≡ r.desk
    → d ≡ desk_at args 2
    → speakers ≡ field_at args 18 8 → L ≡ field_at args 26 8 → rings₁ ≡ list_at float_at 4 args 34 rings
    → length args ≡ p
    → p ≡ place_in (length args) (34 + 4 * length rings) → length args < 2 ^ 64 - 1
    → c ≡ reset_by_of (length rings) args out
unfolding reset_shown reset_by_of
rested args out rings {c = c} cells desk refusal is told handed ed es el er h e short =
    let full : length args ≡ 34 + 4 * length rings = place_end args short _ e h in
    let read = inside float_at 4 args 34 rings _ er (omega arith) in
    let shown : c ≡ reset_shown (reset_outcome (desk_at args 2) (field_at args 18 8) (field_at args 26 8)
    (floats_at args 34 (length rings))) out = cc in
    shown ∙ taken (34 + 4 * length rings) args out _ full
