-- `probe_request::eight` meets its contract. Assumes nothing.
use Rattle.std.specs.Prelude.{◌≡◌, ◌∷◌, ◌+◌, ◌*◌, ◌<◌}
use Rattle.lists.specs.Prelude.{sym, ◌∙◌, List, [], ℕ, arith, length, replicate}
use Rattle.lists.proofs.Tables.{tab_ext, tab_constant}
use Rattle.big_endian.specs.Fields.{field_at}
use Rattle.big_endian.specs.Lists.{strided}
use Rattle.big_endian.proofs.Fields.{lies_out, field_out}
use Rattle.probe_request.specs.Requests.{eight_at}
use Rattle.probe_request.proofs.eight.Goals as goal

-- from behind the arguments on nothing is read
none : (s : List ℕ) (at n : ℕ) → length s < at → strided (λ (p : ℕ). field_at s p 8) 8 at n ≡ replicate n 0
unfolding strided
none s at n h = tab_ext 0 n (λ k. field_at s (at + k * 8) 8) (λ k. 0)
    (λ k l. field_out s (at + k * 8) 8 (lies_out (length s) (at + k * 8) 8 (omega arith) (omega arith)))
    ∙ tab_constant 0 n 0

far : (s : List ℕ) (at : ℕ) → length s < at → ◌≡◌ {A = List ℕ} (replicate 8 0) (eight_at s at)
far s at h = sym (none s at 8 h)

near : (s : List ℕ) (at a b c d e f g h : ℕ) → a ≡ field_at s at 8 → b ≡ field_at s (at + 8) 8 → c
    ≡ field_at s (at + 16) 8
    → d ≡ field_at s (at + 24) 8 → e ≡ field_at s (at + 32) 8 → f ≡ field_at s (at + 40) 8 → g ≡ field_at s (at + 48) 8
    → h ≡ field_at s (at + 56) 8 → ◌≡◌ {A = List ℕ} (a ∷ b ∷ c ∷ d ∷ e ∷ f ∷ g ∷ h ∷ []) (eight_at s at)
unfolding strided
near s at a b c d e f g h p q r t u v w x = let first : at + 0 ≡ at = omega arith in rw (first, p, q, r, t, u, v, w, x)

pub returns-then-args-at : goal.returns-then-args-at
returns-then-args-at c = search far

pub returns : goal.returns
returns c = search near
