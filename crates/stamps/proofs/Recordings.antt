-- Recordings: what a frame does, event by event; the counts are those of the events; a recording that is cut anywhere
-- does what the whole does; and what comes out, with what is late, is what was recorded, with the silence. Assumes
-- nothing.
use Rattle.std.specs.Prelude.{◌≡◌, ◌∷◌, ◌++◌, ◌+◌, ◌^◌, ◌<◌}
use Rattle.lists.specs.Prelude.{refl, sym, ap, ◌∙◌, List, [], append_assoc, ℕ, zero, suc, suc-ne-zero, add-one}
use Rattle.lists.specs.Prelude.{arith, length}
use Rattle.lists.proofs.Tests.{by_at_most}
use Rattle.stamps.specs.Arrivals.{Expected}
use Rattle.stamps.specs.declared.Planned.{Planned}
use Rattle.std.specs.Prelude.{Option, None, Some}
use Rattle.stamps.specs.declared.Arrival.{Arrival}
use Rattle.stamps.specs.declared.Arrival.TheVariants.{Next, Ahead, Jump, Late}
use Rattle.stamps.specs.Arrivals.{ahead, following, coming_by, coming_of, stamp_of, then_by, then_of, skipped_of}
use Rattle.stamps.specs.Arrivals.{expected_after}
use Rattle.stamps.specs.Counts.{added_up, out_in, late_in, silent_in, resets_in, planned_of, plan_of, out_one}
use Rattle.stamps.specs.Counts.{reset_one}
use Rattle.stamps.specs.Events.{Recorded, Event, feed, restart, silences, events_by, events_one, events_of}
use Rattle.stamps.specs.Events.{stamps_of, restarts_in, fed}
use Rattle.stamps.specs.Computed.{feeds_in}
use Rattle.stamps.proofs.Wrapped.{ahead_none, ahead_less}
use Rattle.stamps.proofs.Differences.{one_balance, ahead_difference, difference_none, difference_few}

-- ---- samples and late, frames and silent

pub samples_and_late : (x : Expected) (ss : List ℕ) → out_in x ss + late_in x ss ≡ length ss + silent_in x ss
samples_and_late x [] = refl
samples_and_late x (s ∷ ss) = omega (arith, one_balance (coming_of x s), samples_and_late (then_of x s) ss)

-- ---- cut anywhere: the counts, and what is expected

pub expected_cut : (x : Expected) (ss ts : List ℕ) → expected_after x (ss ++ ts)
    ≡ expected_after (expected_after x ss) ts
expected_cut x [] ts = refl
expected_cut x (s ∷ ss) ts = expected_cut (then_of x s) ss ts

-- what is added up, whatever it is that a frame adds
pub added_cut : (one : Arrival → ℕ) (x : Expected) (ss ts : List ℕ)
    → added_up one x (ss ++ ts) ≡ added_up one x ss + added_up one (expected_after x ss) ts
added_cut one x [] ts = omega arith
added_cut one x (s ∷ ss) ts = omega (arith, added_cut one (then_of x s) ss ts)

module _ {F : Type 0} (q : F) where
  -- ---- cut anywhere: the events

  pub events_cut : (x : Expected) (rs vs : List (Recorded F)) → events_of q x (rs ++ vs) ≡ events_of q x rs
      ++ events_of q (expected_after x (stamps_of rs)) vs
  events_cut x [] vs = refl
  events_cut x (r ∷ rs) vs =
      ap (λ (es : List (Event F)). events_one q x r.stamp r.frame ++ es) (events_cut (then_of x r.stamp) rs vs)
      ∙ sym (append_assoc (events_one q x r.stamp r.frame) (events_of q (then_of x r.stamp) rs)
      (events_of q (expected_after x (stamps_of (r ∷ rs))) vs))

  -- ---- the counts are those of the events

  pub feeds_append : (es fs : List (Event F)) → feeds_in (es ++ fs) ≡ feeds_in es + feeds_in fs
  feeds_append [] fs = omega arith
  feeds_append (feed s f ∷ es) fs = omega (arith, feeds_append es fs)
  feeds_append (restart ∷ es) fs = feeds_append es fs

  pub restarts_append : (es fs : List (Event F)) → restarts_in (es ++ fs) ≡ restarts_in es + restarts_in fs
  restarts_append [] fs = omega arith
  restarts_append (feed s f ∷ es) fs = restarts_append es fs
  restarts_append (restart ∷ es) fs = omega (arith, restarts_append es fs)

  pub length_fed : (es : List (Event F)) → length (fed es) ≡ feeds_in es
  length_fed [] = refl
  length_fed (feed s f ∷ es) = ap suc (length_fed es)
  length_fed (restart ∷ es) = length_fed es

  silences_counted : (e n : ℕ) → (feeds_in (silences q e n) ≡ n) × (restarts_in (silences q e n) ≡ 0)
  silences_counted e zero = (refl, refl)
  silences_counted e (suc n) = let r = silences_counted (following e) n in (ap suc r.0, r.1)

  one_counted : (c : Arrival) (e s : ℕ) (f : F)
      → (feeds_in (events_by c q e s f) ≡ out_one c) × (restarts_in (events_by c q e s f) ≡ reset_one c)
  one_counted Next e s f = (refl, refl)
  one_counted (Ahead d) e s f =
      let r = silences_counted e d in (
        omega (arith, feeds_append (silences q e d) (feed s f ∷ []), r.0),
        omega (arith, restarts_append (silences q e d) (feed s f ∷ []), r.1),
      )
  one_counted Jump e s f = (refl, refl)
  one_counted Late e s f = (refl, refl)

  pub feeds_out : (x : Expected) (rs : List (Recorded F)) → feeds_in (events_of q x rs) ≡ out_in x (stamps_of rs)
  feeds_out x [] = refl
  feeds_out x (r ∷ rs) =
      let es = events_one q x r.stamp r.frame in
      let rest = events_of q (then_of x r.stamp) rs in
      let one = one_counted (coming_of x r.stamp) (stamp_of x) r.stamp r.frame in
      omega (arith, feeds_append es rest, one.0, feeds_out (then_of x r.stamp) rs)

  pub restarts_resets : (x : Expected) (rs : List (Recorded F))
      → restarts_in (events_of q x rs) ≡ resets_in x (stamps_of rs)
  restarts_resets x [] = refl
  restarts_resets x (r ∷ rs) =
      let es = events_one q x r.stamp r.frame in
      let rest = events_of q (then_of x r.stamp) rs in
      let one = one_counted (coming_of x r.stamp) (stamp_of x) r.stamp r.frame in
      omega (arith, restarts_append es rest, one.1, restarts_resets (then_of x r.stamp) rs)

  -- ---- event by event: what is left of a recording after its first event

  abbrev events_as : Arrival → Expected → Recorded F → List (Recorded F) → List (Event F)
  events_as c x r rs = events_by c q (stamp_of x) r.stamp r.frame ++ events_of q (then_by c x r.stamp) rs

  module _ (r : Recorded F) (rs : List (Recorded F)) where
    events_are : (x : Expected) (c : Arrival) → coming_of x r.stamp ≡ c → events_of q x (r ∷ rs) ≡ events_as c x r rs
    events_are x c k = ap (λ (b : Arrival). events_as b x r rs) k

    -- late: nothing
    pub events_late : (x : Expected) → coming_of x r.stamp ≡ Late → events_of q x (r ∷ rs) ≡ events_of q x rs
    events_late None k = absurd (suc-ne-zero 0 (cc))
    events_late (Some e) k = events_are (Some e) Late k

    -- next: the frame itself
    pub events_next : (x : Expected) → coming_of x r.stamp ≡ Next → events_of q x (r ∷ rs) ≡ feed r.stamp r.frame
        ∷ events_of q (then_of x r.stamp) rs
    events_next x k = events_are x Next k
        ∙ ap (λ (c : Arrival). feed r.stamp r.frame ∷ events_of q (then_by c x r.stamp) rs) (sym k)

    -- a jump: a restart, and the frame is the one expected
    pub events_jump : (x : Expected) → r.stamp < 2 ^ 32 → coming_of x r.stamp ≡ Jump
        → events_of q x (r ∷ rs) ≡ restart ∷ events_of q (Some r.stamp) (r ∷ rs)
    events_jump None hs k = absurd (suc-ne-zero 0 (cc))
    events_jump (Some e) hs k =
        events_are (Some e) Jump k
        ∙ ap (λ (es : List (Event F)). restart ∷ es)
        (sym (events_are (Some r.stamp) Next (ap coming_by (ahead_none r.stamp hs) ∙ difference_none)))

    -- ahead: one silent frame under the stamp that is expected, and then one less is missing
    pub events_ahead : (e d : ℕ) → e < 2 ^ 32 → r.stamp < 2 ^ 32 → coming_by (ahead e r.stamp) ≡ Ahead d
        → events_of q (Some e) (r ∷ rs) ≡ feed e q ∷ events_of q (Some (following e)) (r ∷ rs)
    events_ahead e zero he hs k = absurd (omega (arith, ahead_difference (ahead e r.stamp) 0 k))
    events_ahead e (suc zero) he hs k =
        let known = ahead_difference (ahead e r.stamp) 1 k in
        events_are (Some e) (Ahead 1) k
        ∙ ap (λ (es : List (Event F)). feed e q ∷ es)
        (sym (events_are (Some (following e)) Next
        (ap coming_by (ahead_less e r.stamp 0 he hs known.0) ∙ difference_none)))
    events_ahead e (suc (suc n)) he hs k =
        let known = ahead_difference (ahead e r.stamp) (suc (suc n)) k in
        events_are (Some e) (Ahead (suc (suc n))) k
        ∙ ap (λ (es : List (Event F)). feed e q ∷ es)
        (sym (events_are (Some (following e)) (Ahead (suc n))
        (ap coming_by (ahead_less e r.stamp (suc n) he hs (known.0 ∙ sym (add-one (suc n))))
        ∙ difference_few (suc n) (omega arith) (omega (arith, known)))))

    -- the same of any that is expected
    pub events_silent : (x : Expected) (d : ℕ) → stamp_of x < 2 ^ 32 → r.stamp < 2 ^ 32
        → coming_of x r.stamp ≡ Ahead d
        → events_of q x (r ∷ rs) ≡ feed (stamp_of x) q ∷ events_of q (skipped_of x) (r ∷ rs)
    events_silent None d hx hs k = absurd (suc-ne-zero 0 (cc))
    events_silent (Some e) d hx hs k = events_ahead e d hx hs k

-- ---- an accepted plan: its counts are the definition's, of the stamps and of the events

pub plan_counts : {F : Type 0} (q : F) (x : Expected) (rs : List (Recorded F)) (room : ℕ) (p : Planned)
    → plan_of x (stamps_of rs) room ≡ Some p
    → (p ≡ planned_of x (stamps_of rs))
    × ((p.out ≡ feeds_in (events_of q x rs)) × (p.resets ≡ restarts_in (events_of q x rs)))
plan_counts q x rs room p =
    by_at_most (λ (y : Option Planned). y ≡ Some p → (p ≡ planned_of x (stamps_of rs))
    × ((p.out ≡ feeds_in (events_of q x rs)) × (p.resets ≡ restarts_in (events_of q x rs))))
    (out_in x (stamps_of rs)) room
    (λ h t. (cc, (cc (feeds_out q x rs), cc (restarts_resets q x rs))))
    (λ h t. absurd (suc-ne-zero 0 (cc)))
