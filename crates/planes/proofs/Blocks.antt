-- A block that is refused, and one that is played. Assumes nothing.
use Rattle.std.specs.Prelude.{◌≡◌}
use Rattle.lists.specs.Prelude.{ℕ, zero, suc, sym, ap, ◌∙◌, List, Float}
use Rattle.refusals.proofs.First.{answered_accepted, answered_refused}
use Rattle.planes.specs.Planes.{with_frames}
use Rattle.planes.specs.Blocks.{Block, block_of}

module _ {A : Type 0} (answer : ℕ → ℕ → A) (frames stride : ℕ) (played : List (List Float)) (out : List Float) where
  abbrev refusing : ℕ → Block A
  refusing n = record { answer = answer n 0; out = out }

  abbrev playing : List Float → Block A
  playing after = record { answer = answer 0 frames; out = after }

  pub block_refused : (r : ℕ) → (r ≡ 0 → ⊥) → block_of answer r frames stride played out
      ≡ record { answer = answer r 0; out = out }
  block_refused r = answered_refused (playing (with_frames out stride 0 played)) refusing r

  pub block_accepted : (r : ℕ) → r ≡ 0 → block_of answer r frames stride played out
      ≡ record { answer = answer 0 frames; out = with_frames out stride 0 played }
  block_accepted r = answered_accepted (playing (with_frames out stride 0 played)) refusing r

  -- so a number that is no acceptance is answered as a refusal, and what is put by playing as a block that is accepted
  pub refused_with_lem : (n r : ℕ) → n ≡ r → (n ≡ 0 → ⊥) → record { answer = answer n 0; out = out }
      ≡ block_of answer r frames stride played out
  refused_with_lem n r e h = ap refusing e ∙ sym (block_refused r (λ z. h (e ∙ z)))

  pub played_with : (r : ℕ) (after : List Float) → r ≡ 0 → after ≡ with_frames out stride 0 played
      → record { answer = answer 0 frames; out = after } ≡ block_of answer r frames stride played out
  played_with r after z e = ap playing e ∙ sym (block_accepted r z)

  -- the number given is the refusal
  pub block_refusal : (number_of : A → ℕ) → ((n samples : ℕ) → number_of (answer n samples) ≡ n) → (r : ℕ)
      → number_of (block_of answer r frames stride played out).answer ≡ r
  block_refusal number_of e zero = e 0 frames
  block_refusal number_of e (suc n) = e (suc n) 0
