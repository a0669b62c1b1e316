-- Checks run in byte order: what stands behind the field at fault changes nothing (`byte_order`). Assumes nothing.
use Rattle.std.specs.Prelude.{◌≡◌, ◌+◌, ◌-◌, ◌*◌, ◌≤◌, ◌<◌}
use Rattle.lists.specs.Prelude.{refl, sym, ap, ◌∙◌, Bool, List, ℕ, zero, suc, le_refl, dec_lt, arith, eqb-true}
use Rattle.lists.specs.Prelude.{eqb-false, eqb, length}
use lib.Ieee.Scale.{finite}
use Rattle.lists.proofs.Tests.{test_cases, by_test}
use Rattle.big_endian.specs.Fields.{field_at}
use Rattle.refusals.specs.Ranges.{within}
use Rattle.bank_form.specs.Fault.{Fault}
use Rattle.bank_form.specs.Version.{row_size, taps_at, pair_at}
use Rattle.bank_form.specs.Fault.{version_in, rows_in_of, length_in, pair_in, is_new, elevation_fault, sound, unless}
use Rattle.bank_form.specs.Fault.{or_else, field, taps_fault, row_fault, rows_fault, head_field, head_fault, fault_in}
use Rattle.bank_form.specs.Fault.{fault}
use Rattle.bank_form.specs.FaultLaws.{field_size, ByteOrder}
use Rattle.bank_form.proofs.Walk.{else_on, else_stop, field_short, field_bad, field_good, field_none}
use Rattle.bank_form.proofs.Walk.{no_elevation, elevation_field, elevation_none, head_none, whole}
use Rattle.bank_form.proofs.Walk.{nothing_found}
use Rattle.big_endian.proofs.Starts.{SameStart, start_agrees, agree_less, float_agrees}
use Rattle.bank_form.proofs.Agree.{new_agrees, azimuth_agrees, field_elevation_agrees, elevation_fault_agrees}
use Rattle.bank_form.proofs.Agree.{row_agrees, head_agrees, fault_agrees}
use Rattle.bank_form.proofs.Each.{row_ended}
use Rattle.bank_form.proofs.Places.{bytes_left}

-- the place behind the field that a fault tells
abbrev behind : Fault → ℕ
behind f = f.offset + field_size f.refusal

module _ (size : ℕ) (s t : List ℕ) where
  -- a fault at a field of its own: not of the bytes left behind the last row, where the length field was right
  record Told (f : Fault) : Type 0 where
    bad : f.refusal ≡ 0 → ⊥
    own : f.refusal ≡ 14 → field_at s 1 4 ≡ size - 5 → ⊥

  -- a walk from an offset on finds a in s and b in t: a ends no earlier than there,
  -- and b is the same where the lists agree up to its end
  record Kept (from : ℕ) (a b : Fault) : Type 0 where
    after : Told a → from ≤ behind a
    same : Told a → SameStart (behind a) s t → b ≡ a

  kept_sound : (from : ℕ) (b : Fault) → Kept from sound b
  kept_sound from b = record { after = λ w. absurd (w.bad refl); same = λ w g. absurd (w.bad refl) }

  -- ---- one walk after another

  -- the second begins at `mid`, where the first has read all its fields
  kept_else : (from mid : ℕ) (a a' b b' : Fault) → from ≤ mid → Kept from a a' → (SameStart mid s t → a' ≡ a)
      → (a.refusal ≡ 0 → Kept mid b b') → Kept from (or_else a b) (or_else a' b')
  kept_else from mid a a' b b' h first agrees second = test_cases (eqb a.refusal 0)
      (λ e.
      let none = eqb-true a.refusal 0 e in
      let next = second none in
      rw (else_on a b a refl none) (record {
        after = λ w. omega (arith, next.after w);
        same = λ w g.
            let start = agree_less (behind b) mid s t (next.after w) g in
            else_on a' b' a (sym (agrees start)) none ∙ next.same w g;
      }))
      (λ e.
      let some = eqb-false a.refusal 0 e in
      rw (sym (else_stop a b a refl some)) (record {
        after = first.after;
        same = λ w g. sym (else_stop a' b' a (sym (first.same w g)) some);
      }))

  -- ---- a field

  -- with a number, and as long as that says
  abbrev field_of : ℕ → ℕ → Bool → Fault
  field_of at n good = field size at (field_size n) n good

  module _ (at n : ℕ) (good good' : Bool) (h : at ≤ size)
      (agrees : SameStart (at + field_size n) s t → good' ≡ good) where
    kept_field : Kept at (field_of at n good) (field_of at n good')
    kept_field =
        elim (dec_lt size (at + field_size n)) [
          | yes k ↦ rw (field_short size at (field_size n) n good k, field_short size at (field_size n) n good' k)
              (record { after = λ w. omega arith; same = λ w g. refl })
          | no k ↦ test_cases good (λ e. rw (field_good size at (field_size n) n good (omega arith) e)
              (kept_sound at _))
              (λ e. rw (field_bad size at (field_size n) n good (omega arith) e) (record {
                after = λ w. omega arith;
                same = λ w g. field_bad size at _ n good' (omega arith) (agrees g ∙ e);
              }))
        ]

    -- and a walk that begins behind it
    kept_next : 0 < n → (b b' : Fault) → (at + field_size n ≤ size → Kept (at + field_size n) b b')
        → Kept at (or_else (field_of at n good) b) (or_else (field_of at n good') b')
    kept_next some b b' rest =
        kept_else at (at + field_size n) _ _ b b' (omega arith) kept_field (λ g. ap (field_of at n) (agrees g))
        (λ e. rest (field_none size at (field_size n) n good some e).0)

  -- ---- the walks

  kept_taps : (at n : ℕ) → at ≤ size → Kept at (taps_fault size s at n) (taps_fault size t at n)
  unfolding taps_fault
  kept_taps at zero h = kept_sound at _
  kept_taps at (suc n) h =
      kept_next at 18 _ _ h (λ g. ap finite (float_agrees (at + 4) s t g at (le_refl (at + 4)))) (omega arith) _ _
      (kept_taps (at + 4) n)

  kept_elevation : (v at : ℕ) → at + 2 ≤ size → Kept (at + 2) (elevation_fault size s v at)
      (elevation_fault size t v at)
  kept_elevation v at h =
      test_cases (eqb v 1) (λ e. rw (no_elevation size s v at e) (kept_sound (at + 2) _))
      (λ e. rw (elevation_field size s v at e, elevation_field size t v at e)
      (kept_field (at + 2) 20 _ _ h (λ g. field_elevation_agrees (at + 2 + 2) s t g (at + 2) (le_refl (at + 2 + 2)))))

  -- the pair is compared once it is read: where the taps begin
  kept_new : (v l i at : ℕ) → 9 + i * row_size v l ≤ at
      → Kept (taps_at v at) (unless (is_new s v l (pair_in v s at) 9 i) 17 (pair_at v at))
      (unless (is_new t v l (pair_in v t at) 9 i) 17 (pair_at v at))
  kept_new v l i at before =
      by_test (λ b. Kept (taps_at v at) (unless b 17 (pair_at v at))
      (unless (is_new t v l (pair_in v t at) 9 i) 17 (pair_at v at))) (is_new s v l (pair_in v s at) 9 i)
      (λ e. kept_sound (taps_at v at) _)
      (λ e. record {
        after = λ w. omega arith;
        same = λ w g.
            let start = agree_less _ (taps_at v at) s t (omega arith) g in
            ap (λ (b : Bool). unless b 17 (pair_at v at))
            (new_agrees (taps_at v at) s t start v l at i (le_refl (taps_at v at)) (omega (arith, before)) ∙ e);
      })

  kept_row : (v l i at : ℕ) → at ≤ size → 9 + i * row_size v l ≤ at
      → Kept at (row_fault size s v l i at) (row_fault size t v l i at)
  unfolding row_fault
  kept_row v l i at h before =
      kept_next at 17 _ _ h (λ g. azimuth_agrees (at + 2) s t g at (le_refl (at + 2))) (omega arith) _ _ (λ here.
      kept_else (at + 2) (taps_at v at) _ _ _ _ (omega arith) (kept_elevation v at here)
      (λ g. elevation_fault_agrees (taps_at v at) s t g size v at (le_refl (taps_at v at))) (λ e.
      kept_else (taps_at v at) (taps_at v at) _ _ _ _ (le_refl (taps_at v at)) (kept_new v l i at before)
      (λ g. ap (λ (b : Bool). unless b 17 (pair_at v at))
      (new_agrees (taps_at v at) s t g v l at i (le_refl (taps_at v at)) (omega (arith, before))))
      (λ f. kept_taps (taps_at v at) (2 * l) (elevation_none size s v at here e).0)))

  module _ (rest : field_at s 1 4 ≡ size - 5) (v l : ℕ) where
    kept_rows : (i at n : ℕ) → at ≤ size → 9 + i * row_size v l ≤ at
        → Kept at (rows_fault size s v l i at n) (rows_fault size t v l i at n)
    unfolding rows_fault
    kept_rows i at zero h before =
        by_test (λ b. Kept at (unless b 14 1) (unless b 14 1)) (eqb size at) (λ e. kept_sound at _)
        (λ e. record { after = λ w. absurd (w.own refl rest); same = λ w g. refl })
    kept_rows i at (suc n) h before =
        kept_else at (at + row_size v l) _ _ _ _ (omega arith) (kept_row v l i at h before)
        (λ g. row_agrees (at + row_size v l) s t g size v l i at (omega arith) (omega arith))
        (λ e. kept_rows (i + 1) (at + row_size v l) n (row_ended size s v l i at e) (omega arith))

  -- the rows behind a good head: each list has its own version and counts, and they are the same where the head is
  kept_all : (head_fault size s).refusal ≡ 0
      → Kept 9 (rows_fault size s (version_in s) (length_in s) 0 9 (rows_in_of s))
      (rows_fault size t (version_in t) (length_in t) 0 9 (rows_in_of t))
  kept_all e =
      let k = kept_rows (head_none size s e).rest (version_in s) (length_in s) 0 9 (rows_in_of s)
      (head_none size s e).long
      (omega arith) in
      record {
        after = k.after;
        same = λ w g. let nine = k.after w in rw (g 0 1 (omega arith), g 5 2 (omega arith), g 7 2 (omega arith))
            (k.same w g);
      }

  kept_head : Kept 0 (head_fault size s) (head_fault size t)
  unfolding head_fault head_field
  kept_head =
      kept_next 0 13 _ _ (omega arith) (λ g. ap (within _ _) (g 0 1 (omega arith))) (omega arith) _ _ (λ a.
      kept_next 1 14 _ _ a (λ g. ap (within _ _) (g 1 4 (omega arith))) (omega arith) _ _ (λ b.
      kept_next 5 15 _ _ b (λ g. ap (within _ _) (g 5 2 (omega arith))) (omega arith) _ _ (λ c.
      kept_field 7 16 _ _ c (λ g. ap (within _ _) (g 7 2 (omega arith))))))

  kept_fault : Kept 0 (fault_in size s) (fault_in size t)
  unfolding fault_in
  kept_fault =
      kept_else 0 9 _ _ _ _ (omega arith) kept_head (λ g. head_agrees 9 s t g size (omega arith)) kept_all

-- ---- files of one length

pub byte_order : ByteOrder
byte_order = record {
  field_at_fault = λ s t long bad own e.
      let told : Told (length s) s t (fault s) =
      record { bad = λ z. bad (nothing_found (length s) s (whole (length s) s z)); own = own } in
      ap (λ (n : ℕ). fault_in n t) long ∙ (kept_fault (length s) s t).same told (start_agrees _ s t e);
  bytes_left = bytes_left;
  last_row = λ s t long e.
      ap (λ (n : ℕ). fault_in n t) long ∙ fault_agrees _ s t (start_agrees _ s t e) (length s) (le_refl _);
}
