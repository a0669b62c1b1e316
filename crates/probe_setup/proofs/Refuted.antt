-- What the promise rules out of every request for an order: a refused order answered as a layout is, and of an accepted
-- one the channels before the speakers. Assumes nothing.
use Rattle.std.specs.Prelude.{◌≡◌, ◌∷◌, ◌+◌, ◌*◌, ◌%◌, ◌^◌, ◌≤◌}
use Rattle.lists.specs.Prelude.{refl, sym, ap, ◌∙◌, Bool, true, false, not, List, [], ℕ, zero, suc, arith, eqb, ℤ}
use Rattle.lists.specs.Prelude.{length, Float}
use Rattle.refusals.specs.Refusals.{first_of, ◌when◌, outside}
use Rattle.refusals.proofs.First.{passed, answered_accepted}
use Rattle.lists.proofs.Tests.{cond_true}
use Rattle.big_endian.specs.Bytes.{bytes_of}
use Rattle.big_endian.specs.Fields.{field_at}
use Rattle.big_endian.specs.Lists.{double_bytes, number_bytes, signeds_at, doubles_at}
use Rattle.channel.specs.declared.Layout.{Layout}
use Rattle.channel.specs.Layouts.{channels_of, surround}
use Rattle.channel.specs.Orders.{refuses_order, channels_of_order}
use Rattle.channel.proofs.Orders.{by_order_lem}
use Rattle.hrtf_setup.specs.Arrangement.{Wanted, refusal_of, Arrangement, arranged_by, arrangement}
use Rattle.hrtf_setup.specs.Promise.{of_layout, of_order}
use Rattle.probe_request.specs.Requests.{layout_at, azimuths_lent, weights_lent}
use Rattle.probe_answer.specs.Answers.{Draft}
use Rattle.probe_answer.proofs.Standing.{Told, first_told, second_told, taken_told}
use Rattle.probe_setup.specs.Answers.{shown, arranged_at, arranged_answer, set_up_answer, answer_of}

-- a set-up gives its refusal
module _ (w : Wanted) (azimuths elevations : List ℤ) (rows : ℕ) (weights : List Float) (given : List ℕ) where
  given_by : (n : ℕ) → (arranged_by n w.whose w.speakers w.channels azimuths elevations rows weights
      given).answer.refusal ≡ n
  given_by zero = refl
  given_by (suc n) = refl

  refusal_given : (arrangement w azimuths elevations rows weights given).answer.refusal
      ≡ refusal_of w azimuths elevations rows weights
  unfolding arrangement
  refusal_given = given_by (refusal_of w azimuths elevations rows weights)

-- that of a layout is never 1, which is an order's
not_one : (a b c d e : Bool) → first_of (2 when a ∷ 2 when b ∷ 5 when c ∷ 5 when d ∷ 5 when e ∷ []) % 256 ^ 1 ≡ 1 → ⊥
not_one true b c d e h = omega (arith, h)
not_one false true c d e h = omega (arith, h)
not_one false false true d e h = omega (arith, h)
not_one false false false true e h = omega (arith, h)
not_one false false false false true h = omega (arith, h)
not_one false false false false false h = omega (arith, h)

module _ (azimuths elevations : List ℤ) (rows : ℕ) (weights : List Float) where
  of_layout_lem : (l : Layout) → refusal_of (of_layout l) azimuths elevations rows weights % 256 ^ 1 ≡ 1 → ⊥
  unfolding refusal_of
  of_layout_lem l = not_one (not (surround l)) (outside rows 8) (not (eqb (length azimuths) 8))
      (not (eqb (length elevations) 8)) (not (eqb (length weights) (channels_of l * channels_of l)))

  of_refused_order : (order : ℕ) → refuses_order order ≡ true
      → refusal_of (of_order order) azimuths elevations rows weights ≡ 1
  unfolding refusal_of
  of_refused_order order e = cond_true _ _ e

  accepted_order : (order : ℕ) → refusal_of (of_order order) azimuths elevations rows weights ≡ 0
      → refuses_order order ≡ false
  unfolding refusal_of
  accepted_order order e = (passed (refuses_order order) 0 _ e).0

module _ (args out : List ℕ) (r : Draft) where
  abbrev azimuths : ℕ
  azimuths = azimuths_lent args 0

  abbrev elevations : ℕ
  elevations = azimuths_lent args 1

  abbrev weights : ℕ
  weights = weights_lent args 2

  abbrev order : ℕ
  order = field_at args 76 8

  -- what is told of what is asked for with an order, or with a layout in its place
  abbrev by : ℕ → Arrangement
  by operation = arranged_at operation args 84 azimuths elevations weights

  abbrev refusal_by : Wanted → ℕ
  refusal_by wanted = refusal_of wanted (signeds_at args 84 azimuths) (signeds_at args (84 + 2 * azimuths) elevations)
      (field_at args 4 8) (doubles_at args (84 + 2 * azimuths + 2 * elevations) weights)

  module _ (is : r ≡ answer_of 20 args out)
      (long : length args ≡ 84 + 2 * azimuths + 2 * elevations + 8 * weights) where
    -- a refused order is answered as a layout is
    twenty_with_a_layout : 1 ≤ length out → refuses_order order ≡ true
        → r ≡ arranged_answer 19 args 84 azimuths elevations weights out → ⊥
    unfolding set_up_answer arranged_answer
    twenty_with_a_layout room refused e =
        let told : (operation : ℕ) → Told 0 1 (by operation).answer.refusal (shown (by operation) out) = λ operation.
        let o = by operation in
        first_told o.answer.refusal (bytes_of 8 o.answer.speakers ∷ bytes_of 8 o.answer.channels
        ∷ number_bytes o.rows ∷ double_bytes o.weights ∷ []) out room in
        let right : field_at r.bytes 0 1 ≡ 1 =
        taken_told (84 + 2 * azimuths + 2 * elevations + 8 * weights) args out r is long (told 20)
        ∙ ap (λ (n : ℕ). n % 256 ^ 1)
        (refusal_given (of_order order) _ _ _ _ _ ∙ of_refused_order _ _ _ _ order refused) in
        let wrong = ap (λ (d : Draft). field_at d.bytes 0 1) e ∙ (told 19).value
        ∙ ap (λ (n : ℕ). n % 256 ^ 1) (refusal_given (of_layout (layout_at args 76)) _ _ _ _ _) in
        of_layout_lem _ _ _ _ (layout_at args 76) (sym wrong ∙ right)

    -- of an accepted order the channels are told in the place of the eight speakers
    channels_for_speakers : 9 ≤ length out → refusal_by (of_order order) ≡ 0
        → field_at r.bytes 1 8 ≡ channels_of_order order → ⊥
    unfolding set_up_answer arranged_answer arrangement
    channels_for_speakers room accepted e =
        let o = by 20 in
        let told = taken_told (84 + 2 * azimuths + 2 * elevations + 8 * weights) args out r is long
        (second_told o.answer.refusal 8 o.answer.speakers
        (bytes_of 8 o.answer.channels ∷ number_bytes o.rows ∷ double_bytes o.weights ∷ []) out
        (omega arith) room) in
        let eight : o.answer.speakers ≡ 8 = ap (λ (x : Arrangement). x.answer.speakers)
        (answered_accepted _ _ (refusal_by (of_order order)) accepted) in
        by_order_lem (λ n. channels_of_order n ≡ 8 → ⊥) (λ z. omega (arith, z)) (λ z. omega (arith, z))
        (λ z. omega (arith, z)) order (accepted_order _ _ _ _ order accepted)
        (sym e ∙ told ∙ ap (λ (n : ℕ). n % 256 ^ 8) eight)
