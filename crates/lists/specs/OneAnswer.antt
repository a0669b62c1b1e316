-- Document 01, 'Proof of delivery': "Show that no two different answers satisfy one", a promise. Definitions only.
-- `OneAnswer P`: no two different answers have the property P. `AllowsOneAnswer` says it of a function's contract. The
-- theorems that say it are those named `..-unique`.
use Rattle.std.specs.Prelude.{◌≡◌}
use contract.Lifetimes.{Lfts}
use contract.Monad.{fact}
use borrow.Fn.World.{World, Pr}
use denote.Triple.Entry.{Args, Res}
use denote.Triple.Clauses.{Ended, Lasts, AtExit, at_exit}

abbrev pub OneAnswer : {A : Type 0} → (A → Type 0) → Type 0
OneAnswer {A} P = (a b : A) → P a → P b → a ≡ b

-- T is a function's signature, as Rattle makes it: `f.ended` of the function f
module _ (T : Ended) where
  abbrev pub Lives : Type 0
  Lives = Lfts T.signature.lifetimes

  -- what a contract says: of the arguments, the result, and the arguments as they are at the end. Of f it is
  -- `f.Reads.Learnt`, what a caller of f learns, which Rattle reads off f's `ensures`
  abbrev pub Claim : Type 1
  Claim = (κs : Lives) → Args T.signature κs → Res T.signature κs → AtExit T κs → Type 0

  -- everything that is handed back: the result, and what each argument that was lent to be written holds at the end
  abbrev pub HandedBack : (κs : Lives) → Args T.signature κs → Type 0
  HandedBack κs a = Res T.signature κs × Lasts T κs a

  -- the contract allows this answer
  abbrev pub Allows : Claim → (κs : Lives) (a : Args T.signature κs) → HandedBack κs a → Type 0
  Allows claim κs a z = claim κs a z.0 (at_exit T κs a z.1)

  -- whatever the arguments are, it allows one answer
  abbrev pub AllowsOneAnswer : Claim → Type 0
  AllowsOneAnswer claim = (κs : Lives) (a : Args T.signature κs) → OneAnswer (Allows claim κs a)

  -- Rattle makes no `Reads` for a function that takes a reference to a struct. There the claim is read off the clause
  -- P: in every world w of the logic it states this and nothing else
  pub record States (P : (w : World) (κs : Lives) → Args T.signature κs → Res T.signature κs → AtExit T κs
      → Pr w) : Type 2 where
    pub claim : Claim
    pub stated : (w : World) (κs : Lives) (a : Args T.signature κs) (r : Res T.signature κs) (e : AtExit T κs)
        → P w κs a r e ≡ fact w.𝓤 (claim κs a r e)
