-- What the promises rule out whatever is played: a sample count of one's own, a desk that stays where one frame is
-- played, a reset that leaves something in a ring or a frame to go, and one that takes nine speakers. Assumes nothing.
use Rattle.std.specs.Prelude.{◌≡◌, ◌+◌, ◌%◌, ◌≤◌, ◌<◌}
use Rattle.lists.specs.Prelude.{sym, ap, ◌∙◌, List, ⊎_elim, ℕ, suc, suc-ne-zero, mod-eq_of_lt, mod_self, arith, length}
use Rattle.lists.specs.Prelude.{get_or, get_or-replicate, Float, nan}
use Rattle.formats.specs.Floats.{zero_float}
use Rattle.lists.proofs.Lists.{less_or_at_most}
use Rattle.lists.proofs.Tables.{length_tab}
use Rattle.planes.specs.Planes.{frame_at}
use Rattle.hrtf_desk.specs.declared.Desk.{Desk}
use Rattle.hrtf_rings.specs.State.{State}
use Rattle.hrtf_checks.specs.Call.{BlockCall, frames_in}
use Rattle.hrtf_checks.specs.Refusals.{refusal_of}
use Rattle.hrtf_checks.proofs.Refusing.{ready}
use Rattle.hrtf.specs.Promise.{BlockOutcome, ProcessPromise}
use Rattle.hrtf.specs.Reset.{reset_refusal, ResetOutcome, ResetPromise}
use Rattle.hrtf.proofs.Meets.{outcome_by_lem, reset_by, reset_number}

-- the stride for the frames
stride_counted : (c : BlockCall) (t : State) (o : BlockOutcome) → ProcessPromise c t o → refusal_of c t ≡ 0
    → (c.frames ≡ c.stride → ⊥) → o.answer.samples ≡ c.stride → ⊥
stride_counted c t o p e other s =
    other (sym (ap (λ (q : BlockOutcome). q.answer.samples) (p.bits ∙ outcome_by_lem c t 0 e)) ∙ s)

-- the desk given in, after one frame round a ring of two cells or more
desk_kept : (c : BlockCall) (t : State) (o : BlockOutcome) → ProcessPromise c t o → refusal_of c t ≡ 0
    → c.frames ≡ 1 → 1 < c.shape.length → o.answer.desk ≡ t.desk → ⊥
desk_kept c t o p e one long same =
    moved t.desk.position c.shape.length long (ready c t e).within
    (ap (λ (n : ℕ). (t.desk.position + n) % c.shape.length) (sym (many ∙ one))
    ∙ sym (ap (λ (q : BlockOutcome). q.answer.desk.position) (p.bits ∙ outcome_by_lem c t 0 e))
    ∙ ap (λ (d : Desk). d.position) same)
  where
    many : length (frames_in c) ≡ c.frames
    many = length_tab 0 c.frames (frame_at c.inputs c.stride c.shape.channels)

    moved : (n m : ℕ) → 1 < m → n < m → (n + 1) % m ≡ n → ⊥
    moved n m long h s =
        ⊎_elim
        (λ (lt : n + 1 < m). omega (arith, sym (mod-eq_of_lt lt) ∙ s))
        (λ (ge : m ≤ n + 1).
        let end : n + 1 ≡ m = omega arith in
        omega (arith, sym (ap (λ (k : ℕ). k % m) end ∙ mod_self m) ∙ s))
        (less_or_at_most (n + 1) m)

module _ (d : Desk) (speakers L : ℕ) (rings : List Float) (o : ResetOutcome)
    (r : ResetPromise d speakers L rings o) where
  -- nine speakers taken
  nine_speakers : speakers ≡ 9 → o.answer.refusal ≡ 0 → ⊥
  unfolding reset_refusal
  nine_speakers e z =
      suc-ne-zero 1 (sym (ap (λ (n : ℕ). reset_refusal n L rings) e) ∙ sym (reset_number d speakers L rings o r) ∙ z)

  module _ (z : reset_refusal speakers L rings ≡ 0) where
    -- a cell that is not 0.0
    sounding_cell : (i : ℕ) → i < length rings → (get_or o.rings i nan ≡ zero_float → ⊥) → ⊥
    sounding_cell i h other = other
        (ap (λ (a : ResetOutcome). get_or a.rings i nan) (r.bits ∙ reset_by d speakers L rings 0 z)
        ∙ get_or-replicate (length rings) i zero_float nan h)

    -- frames to go
    frames_to_go : (n : ℕ) → o.answer.desk.to_go ≡ suc n → ⊥
    frames_to_go n e = suc-ne-zero n
        (sym e ∙ ap (λ (a : ResetOutcome). a.answer.desk.to_go) (r.bits ∙ reset_by d speakers L rings 0 z))
