-- A fault that code hands on, by its refusal's name: it is told by its number, which is above 0, and its place, and is
-- known by them; so code stops where a walk finds one, and goes on where it finds none. Assumes nothing.
use Rattle.std.specs.Prelude.{◌≡◌, ◌<◌, Result, Ok, Err, IsErrAnd, ⊤}
use Rattle.std.specs.Result.{result_unwrap_or}
use Rattle.lists.specs.Prelude.{refl, sym, ap, arith}
use Rattle.refusals.specs.Numbers.{number_of}
use Rattle.refusals.proofs.Numbers.{number_above, number_apart}
use Rattle.bank_form.specs.declared.Fault.{Fault as FaultFound}
use Rattle.bank_form.specs.Fault.{Fault, told_as_number, found, sound, or_else}
use Rattle.bank_form.proofs.Walk.{else_stop, else_on}

pub told_bad : (f : FaultFound) → (told_as_number f).refusal ≡ 0 → ⊥
told_bad f e = let h : 0 < number_of f.refusal = number_above f.refusal in omega arith

module _ (a b : Fault) where
  pub found_stop : (f : FaultFound) → told_as_number f ≡ a → told_as_number f ≡ or_else a b
  found_stop f e = else_stop a b (told_as_number f) e (told_bad f)

  pub found_on : sound ≡ a → or_else a b ≡ b
  found_on e = else_on a b sound e refl

-- what `?` hands on is the fault that it was given
module _ {A : Type 0} (r : Result A FaultFound) (f : FaultFound) where
  pub handed : IsErrAnd r (λ g. g ≡ f) → r ≡ Err f
  handed h = handed_in r h
    where
      handed_in : (r : Result A FaultFound) → IsErrAnd r (λ g. g ≡ f) → r ≡ Err f
      handed_in (Ok a) h = absurd h
      handed_in (Err g) h = ap Err h

  pub handed_on : IsErrAnd r (λ g. g ≡ f) → found r ≡ told_as_number f
  handed_on h = ap found (handed h)

told_apart : (f g : FaultFound) → told_as_number f ≡ told_as_number g → f ≡ g
told_apart f g e =
    let named = number_apart f.refusal g.refusal (ap (λ (t : Fault). t.refusal) e) in
    let place = ap (λ (t : Fault). t.offset) e in
    λ i. record { refusal = named i; offset = place i }

module _ {A : Type 0} (other : A) where
  -- an answer is known by its fault and its value
  pub found_apart : (x y : Result A FaultFound) → found x ≡ found y
      → result_unwrap_or x other ≡ result_unwrap_or y other → x ≡ y
  found_apart (Ok a) (Ok b) e v = ap Ok v
  found_apart (Ok a) (Err g) e v = absurd (told_bad g (ap (λ (t : Fault). t.refusal) (sym e)))
  found_apart (Err f) (Ok b) e v = absurd (told_bad f (ap (λ (t : Fault). t.refusal) e))
  found_apart (Err f) (Err g) e v = ap Err (told_apart f g e)

pub found_once : (x y : Result ⊤ FaultFound) → found x ≡ found y → x ≡ y
found_once x y e = found_apart tt x y e refl
