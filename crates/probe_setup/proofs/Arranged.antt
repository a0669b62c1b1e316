-- The answer to a set-up: of the arrangement that `hrtf_setup` promises for what the request gives, or none. Assumes
-- nothing.
use Rattle.std.specs.Prelude.{◌≡◌, ◌+◌, ◌*◌}
use Rattle.lists.specs.Prelude.{sym, ap, ◌∙◌, List, ℕ, arith, ne_eqb, Float, ℤ, length}
use Rattle.lists.proofs.Tests.{cond_false}
use Rattle.big_endian.specs.Fields.{field_at, signed_at, double_at}
use Rattle.channel.specs.declared.Layout.{Layout}
use Rattle.hrtf_setup.specs.Arrangement.{Wanted, Arrangement, arrangement}
use Rattle.hrtf_setup.specs.Promise.{of_layout, of_order}
use Rattle.probe_request.specs.Requests.{layout_of, list_at, eight_at, azimuths_lent, weights_lent}
use Rattle.probe_answer.specs.Answers.{Draft, none}
use Rattle.probe_answer.proofs.Meets.{taken, untaken}
use Rattle.probe_request.proofs.Requests.{inside, layout_read}
use Rattle.probe_setup.specs.Answers.{shown, wanted_at, arranged_answer, set_up_lent, set_up_answer}

-- what is wanted
module _ (operation : ℕ) (args : List ℕ) where
  pub of_layout_lem : (l : Layout) (which n : ℕ) → operation ≡ 19 → l ≡ layout_of which n → which ≡ field_at args 76 1
      → n ≡ field_at args 77 8 → of_layout l ≡ wanted_at operation args
  of_layout_lem l which n h e p q =
      ap of_layout (layout_read args 76 which n l e p q) ∙ ap (λ (k : ℕ). wanted_at k args) (sym h)

  pub of_order_lem : (order : ℕ) → (operation ≡ 19 → ⊥) → order ≡ field_at args 76 8
      → of_order order ≡ wanted_at operation args
  of_order_lem order h e = ap of_order e ∙ sym (cond_false _ _ (ne_eqb _ _ h))

  pub as_wanted : (o : Arrangement) (wanted : Wanted) (azimuths elevations : List ℤ) (rows : ℕ) (weights : List Float)
      (given : List ℕ)
      → o ≡ arrangement wanted azimuths elevations rows weights given → wanted ≡ wanted_at operation args
      → rows ≡ field_at args 4 8
      → o ≡ arrangement (wanted_at operation args) azimuths elevations (field_at args 4 8) weights given
  as_wanted o wanted azimuths elevations rows weights given e w r =
      e ∙ (λ j. arrangement (w j) azimuths elevations (r j) weights given)

module _ (operation : ℕ) (args : List ℕ) (at : ℕ) (out : List ℕ) where
  pub arranges : (azimuths turned elevations raised : List ℤ) (weights weighed : List Float) (given : List ℕ)
      (o : Arrangement) (d : Draft)
      → length args ≡ at + 2 * length azimuths + 2 * length elevations + 8 * length weights
      → turned ≡ list_at signed_at 2 args at azimuths
      → raised ≡ list_at signed_at 2 args (at + 2 * length azimuths) elevations
      → weighed ≡ list_at double_at 8 args (at + 2 * length azimuths + 2 * length elevations) weights
      → given ≡ eight_at args 12
      → o ≡ arrangement (wanted_at operation args) turned raised (field_at args 4 8) weighed given → d ≡ shown o out
      → d ≡ arranged_answer operation args at (length azimuths) (length elevations) (length weights) out
  unfolding arranged_answer
  arranges azimuths turned elevations raised weights weighed given o d long e f g h p q =
      let a = inside signed_at 2 args at azimuths turned e (omega arith) in
      let u = inside signed_at 2 args (at + 2 * length azimuths) elevations raised f (omega arith) in
      let w = inside double_at 8 args (at + 2 * length azimuths + 2 * length elevations) weights weighed g
      (omega arith) in
      q ∙ ap (λ (x : Arrangement). shown x out)
      (p ∙ (λ j. arrangement (wanted_at operation args) (a j) (u j) (field_at args 4 8) (w j) (h j)))

  module _ (a e w : ℕ) (first : a ≡ azimuths_lent args 0) (second : e ≡ azimuths_lent args 1)
      (third : w ≡ weights_lent args 2) where
    pub set_up_none : (length args ≡ at + 2 * a + 2 * e + 8 * w → ⊥) → none out ≡ set_up_answer operation args at out
    unfolding set_up_answer
    set_up_none h = untaken _ args out (arranged_answer operation args at a e w out) h
        ∙ (λ j. set_up_lent operation args at (first j) (second j) (third j) out)

    pub set_up_some : (d : Draft) → length args ≡ at + 2 * a + 2 * e + 8 * w
        → d ≡ arranged_answer operation args at a e w out → d ≡ set_up_answer operation args at out
    unfolding set_up_answer
    set_up_some d h is = is ∙ taken _ args out (arranged_answer operation args at a e w out) h
        ∙ (λ j. set_up_lent operation args at (first j) (second j) (third j) out)

-- the lists lent are as long as they are to be
pub set_up_fits : (n at a e w k l m : ℕ) → a ≡ k → e ≡ l → w ≡ m → n ≡ at + 2 * a + 2 * e + 8 * w
    → n ≡ at + 2 * k + 2 * l + 8 * m
set_up_fits n at a e w k l m p q r h = omega arith
