-- From every state the program's steps give document 01's sums (`played_held`), leave rings with the newest L frames
-- (`left_is`) and count the unsettled frames (`counted_is`). Then the same over a past that a state stands for, and
-- over frames that are played in two pieces. Assumes nothing.
use Rattle.std.specs.Prelude.{◌≡◌, ◌∷◌, ◌++◌, ◌+◌, ◌-◌, ◌*◌, ◌%◌, ◌≤◌, ◌<◌}
use Rattle.lists.specs.Prelude.{refl, sym, ap, ◌∙◌, subst, List, [], map, reverse, ℕ, add-zero, mod-add-mod}
use Rattle.lists.specs.Prelude.{mod-eq_of_lt, mul-le-mul_right, suc-mul, arith, length, take, replicate}
use Rattle.lists.specs.Prelude.{length-replicate, Float}
use Rattle.formats.specs.Floats.{zero_float}
use Rattle.lists.specs.Tables.{chunk, count}
use Rattle.lists.proofs.Lists.{reverse_replicate, take_replicate, drop_replicate}
use Rattle.lists.proofs.Tables.{tab_constant}
use Rattle.checks.specs.Finite.{has_nonfinite}
use Rattle.hrtf_desk.specs.declared.Desk.{Desk}
use Rattle.hrtf_desk.specs.Numbers.{zeroed}
use Rattle.hrtf_desk.proofs.DeskInRange.{desk_on, position_below}
use Rattle.hrtf_history.specs.Setup.{Setup}
use Rattle.hrtf_history.specs.Signals.{signals, damaged}
use Rattle.hrtf_history.specs.History.{window, heard, unsettled_each, unsettled_in, after}
use Rattle.hrtf_rings.specs.State.{State}
use Rattle.hrtf_rings.specs.Held.{held_in, rings_of, state_of, to_go_after, after_frames, Represents}
use Rattle.hrtf_rings.specs.Computed.{ears_by_rings, stepped, state_left, played_by_rings, unsettled_by_desk}
use Rattle.hrtf_rings.specs.Computed.{unsettled_count_by_desk}
use Rattle.hrtf_rings.proofs.Held.{Holds, holds_held, holds_put, rings_are}
use Rattle.hrtf_rings.proofs.ToGo.{to_go_below}
use Rattle.hrtf_rings.proofs.RingsHoldHistory.{kept, ears_told, waits_on, late_told}

-- "every ring 0.0, both numbers 0"
abbrev pub fresh : Setup → State
fresh u = record { rings = replicate (u.speakers * u.L) zero_float; desk = zeroed }

module _ (u : Setup) where
  -- ---- over a past that the rings hold

  played_over : (past : List (List Float)) (t : State) (fs : List (List Float)) → Holds u past t
      → played_by_rings u t fs ≡ heard u past fs
  played_over past t [] r = refl
  played_over past t (f ∷ fs) r =
      cc (ears_told u past t f r, played_over (signals u f ∷ past) (stepped u t f) fs (kept u past t f r))

  left_holds : (past : List (List Float)) (t : State) (fs : List (List Float)) → Holds u past t
      → Holds u (after u past fs) (state_left u t fs)
  left_holds past t [] r = r
  left_holds past t (f ∷ fs) r = left_holds (signals u f ∷ past) (stepped u t f) fs (kept u past t f r)

  -- ---- the desk

  position_left : (t : State) (fs : List (List Float)) → t.desk.position < u.L
      → (state_left u t fs).desk.position ≡ (t.desk.position + length fs) % u.L
  position_left t [] h = sym (ap (λ (n : ℕ). n % u.L) (add-zero t.desk.position) ∙ mod-eq_of_lt h)
  position_left t (f ∷ fs) h =
      position_left (stepped u t f) fs (position_below u.L (damaged u f) t.desk h)
      ∙ ap (λ (d : Desk). (d.position + length fs) % u.L) (desk_on u.L (damaged u f) t.desk h)
      ∙ mod-add-mod (t.desk.position + 1) u.L (length fs)
      ∙ ap (λ (n : ℕ). n % u.L) (omega arith)

  module _ (go : ℕ) where
    waits_left : (past : List (List Float)) (t : State) (fs : List (List Float)) → t.desk.position < u.L
        → t.desk.to_go ≡ to_go_after u.L go (map has_nonfinite past)
        → (state_left u t fs).desk.to_go ≡ to_go_after u.L go (map has_nonfinite (after u past fs))
    waits_left past t [] h w = w
    waits_left past t (f ∷ fs) h w = waits_left (signals u f ∷ past) (stepped u t f) fs
        (position_below u.L (damaged u f) t.desk h) (waits_on u go past t f h w)

    late_each : (past : List (List Float)) (t : State) (fs : List (List Float)) → go < u.L → t.desk.position < u.L
        → t.desk.to_go ≡ to_go_after u.L go (map has_nonfinite past)
        → unsettled_by_desk u t fs ≡ unsettled_each u go past fs
    late_each past t [] few h w = refl
    late_each past t (f ∷ fs) few h w =
        cc (
          late_told u go past t f h w few,
          late_each (signals u f ∷ past) (stepped u t f) fs few
              (position_below u.L (damaged u f) t.desk h) (waits_on u go past t f h w),
        )

  -- ---- THE LAW OF EVERY STATE

  module _ (t : State) (fs : List (List Float)) (room : length t.rings ≡ u.speakers * u.L)
      (within : t.desk.position < u.L) where
    pub played_held : played_by_rings u t fs ≡ heard u (held_in u t) fs
    played_held = played_over (held_in u t) t fs (holds_held u t room within)

    pub left_is : state_left u t fs ≡ after_frames u t fs
    left_is =
        let on = position_left t fs within in
        let rings = rings_are u (state_left u t fs) (after u (held_in u t) fs)
        (left_holds (held_in u t) t fs (holds_held u t room within))
        ∙ ap (λ (p : ℕ). rings_of u p (after u (held_in u t) fs)) on in
        let waits = waits_left t.desk.to_go [] t fs within refl in
        λ i. record { rings = rings i; desk = record { position = on i; to_go = waits i } }

    pub counted_is : t.desk.to_go < u.L → unsettled_count_by_desk u t fs ≡ unsettled_in u t.desk.to_go [] fs
    counted_is few = ap count (late_each t.desk.to_go [] t fs few within refl)

  -- ---- a past that rings and desk stand for

  represents : (past : List (List Float)) (t : State) → Holds u past t
      → t.desk.to_go ≡ to_go_after u.L 0 (map has_nonfinite past) → Represents u past t
  represents past t h w = (
    h.within,
    λ i. record {
      rings = rings_are u t past h i;
      desk = record { position = t.desk.position; to_go = w i };
    },
  )

  module _ (past : List (List Float)) (t : State) (r : Represents u past t) where
    pub holds : Holds u past t
    holds = subst (Holds u past) (sym r.1)
        (holds_put u (state_of u t.desk.position (to_go_after u.L 0 (map has_nonfinite past)) past).desk past
        r.0)

    waits : t.desk.to_go ≡ to_go_after u.L 0 (map has_nonfinite past)
    waits = ap (λ (s : State). s.desk.to_go) r.1

    pub rings_room : length t.rings ≡ u.speakers * u.L
    rings_room = holds.room

    pub waits_few : t.desk.to_go < u.L
    waits_few =
        subst (λ (n : ℕ). n < u.L) (sym waits) (to_go_below u.L 0 (map has_nonfinite past) (omega (arith, r.0)))

    pub played_heard : (fs : List (List Float)) → played_by_rings u t fs ≡ heard u past fs
    played_heard fs = played_over past t fs holds

    pub counted_told : (fs : List (List Float)) → unsettled_count_by_desk u t fs ≡ unsettled_in u 0 past fs
    counted_told fs = ap count (late_each 0 past t fs (omega (arith, r.0)) r.0 waits)

    pub left_kept : (fs : List (List Float)) → Represents u (after u past fs) (state_left u t fs)
    left_kept fs =
        represents (after u past fs) (state_left u t fs) (left_holds past t fs holds)
        (waits_left 0 past t fs r.0 waits)

  -- what a reset leaves
  pub fresh_represents : 0 < u.L → Represents u [] (fresh u)
  fresh_represents h =
      represents [] (fresh u)
      (record { room = length-replicate (u.speakers * u.L) zero_float; within = h; told = told }) refl
    where
      fits : (s : ℕ) → s < u.speakers → u.L ≤ u.speakers * u.L - s * u.L
      fits s lt = omega (arith, mul-le-mul_right u.L lt, suc-mul s u.L)

      told : (s : ℕ) → s < u.speakers → reverse (chunk u.L s (fresh u).rings) ≡ window u s []
      told s lt =
          ap {B = List Float} (λ (r : List Float). reverse (take u.L r))
          (drop_replicate (s * u.L) (u.speakers * u.L) zero_float)
          ∙ ap reverse (take_replicate u.L (u.speakers * u.L - s * u.L) zero_float (fits s lt))
          ∙ reverse_replicate u.L zero_float
          ∙ sym (tab_constant 0 u.L zero_float)

  -- ---- frames in two pieces

  pub played_append : (t : State) (fs gs : List (List Float)) → played_by_rings u t (fs ++ gs) ≡ played_by_rings u t fs
      ++ played_by_rings u (state_left u t fs) gs
  played_append t [] gs = refl
  played_append t (f ∷ fs) gs = ap (λ (l : List (List Float)). ears_by_rings u t f ∷ l)
      (played_append (stepped u t f) fs gs)

  pub left_append : (t : State) (fs gs : List (List Float))
      → state_left u t (fs ++ gs) ≡ state_left u (state_left u t fs) gs
  left_append t [] gs = refl
  left_append t (f ∷ fs) gs = left_append (stepped u t f) fs gs

  pub counted_append : (t : State) (fs gs : List (List Float))
      → unsettled_count_by_desk u t (fs ++ gs) ≡ unsettled_count_by_desk u t fs
      + unsettled_count_by_desk u (state_left u t fs) gs
  counted_append t [] gs = omega arith
  counted_append t (f ∷ fs) gs = omega (arith, counted_append (stepped u t f) fs gs)
