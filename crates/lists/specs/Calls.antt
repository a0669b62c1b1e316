-- Calls one after another, each in the state that the one before it left. Definitions only.
use Rattle.std.specs.Prelude.{◌∷◌, ◌++◌, List, []}

-- next: the state that a call leaves
module _ {S C : Type 0} (next : C → S → S) where
  -- the state at the end
  abbrev pub last_state : S → List C → S
  last_state s [] = s
  last_state s (c ∷ cs) = last_state (next c s) cs

  -- one thing of each call
  abbrev pub of_each_call : {A : Type 0} → (C → S → A) → S → List C → List A
  of_each_call f s [] = []
  of_each_call f s (c ∷ cs) = f c s ∷ of_each_call f (next c s) cs

  -- a list of each call, one behind the other
  abbrev pub of_all_calls : {A : Type 0} → (C → S → List A) → S → List C → List A
  of_all_calls f s [] = []
  of_all_calls f s (c ∷ cs) = f c s ++ of_all_calls f (next c s) cs

  -- something that holds of each call
  abbrev pub HoldsOfEachCall : (C → S → Type 0) → S → List C → Type 0
  HoldsOfEachCall P s [] = Unit {0}
  HoldsOfEachCall P s (c ∷ cs) = P c s × HoldsOfEachCall P (next c s) cs
