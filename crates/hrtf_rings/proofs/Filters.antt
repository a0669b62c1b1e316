-- Set-ups with the same filters do the same with the same rings and desk, frame by frame. Assumes nothing.
use Rattle.std.specs.Prelude.{◌<◌, ◌≡◌, ◌∷◌}
use Rattle.lists.specs.Prelude.{ℕ, suc, arith, refl, ap, ◌∙◌, List, [], Float}
use Rattle.formats.specs.Floats.{zero_float}
use Rattle.lists.specs.Tables.{chunk, count}
use Rattle.planes.specs.Sums.{dot}
use Rattle.hrtf_history.specs.Setup.{Setup, SameFilters}
use Rattle.hrtf_history.proofs.Windows.{ear_of_ext}
use Rattle.hrtf_history.proofs.Filters.{moved, moved_is, moved_filters}
use Rattle.hrtf_rings.specs.Unrolled.{unrolled}
use Rattle.hrtf_rings.specs.State.{State}
use Rattle.hrtf_rings.specs.Computed.{part_of, ring_ear, stored, ears_by_rings, is_unsettled_by_desk, stepped}
use Rattle.hrtf_rings.specs.Computed.{state_left}
use Rattle.hrtf_rings.specs.Computed.{played_by_rings, unsettled_by_desk}
use Rattle.hrtf_rings.specs.Computed.{unsettled_count_by_desk}

module _ (u v : Setup) (a : SameFilters u v) where
  pub stepped_alike : (t : State) (f : List Float) → stepped u t f ≡ stepped v t f
  stepped_alike t f = ap (λ (w : Setup). stepped w t f) (moved_is u v a)

  ring_ear_alike : (ear p : ℕ) (rings : List Float) → ear < 2 → ring_ear u ear p rings ≡ ring_ear v ear p rings
  ring_ear_alike ear p rings e =
      ear_of_ext u.speakers (part_of u ear p rings) (part_of (moved u v a) ear p rings)
      (λ s h. ap (dot zero_float (unrolled p (chunk u.L s rings))) (moved_filters u v a ear s e h))
      ∙ ap (λ (w : Setup). ring_ear w ear p rings) (moved_is u v a)

  ears_alike : (t : State) (f : List Float) → ears_by_rings u t f ≡ ears_by_rings v t f
  ears_alike t f =
      let p = suc t.desk.position in
      cc (ring_ear_alike 0 p (stored u t f) (omega arith), ring_ear_alike 1 p (stored u t f) (omega arith))
      ∙ ap (λ (w : Setup). ring_ear v 0 p (stored w t f) ∷ ring_ear v 1 p (stored w t f) ∷ []) (moved_is u v a)

  pub left_alike : (t : State) (fs : List (List Float)) → state_left u t fs ≡ state_left v t fs
  left_alike t [] = refl
  left_alike t (f ∷ fs) = ap (λ (s : State). state_left u s fs) (stepped_alike t f) ∙ left_alike (stepped v t f) fs

  pub played_alike : (t : State) (fs : List (List Float)) → played_by_rings u t fs ≡ played_by_rings v t fs
  played_alike t [] = refl
  played_alike t (f ∷ fs) =
      cc (
        ears_alike t f,
        ap (λ (s : State). played_by_rings u s fs) (stepped_alike t f)
            ∙ played_alike (stepped v t f) fs,
      )

  late_alike : (t : State) (fs : List (List Float)) → unsettled_by_desk u t fs ≡ unsettled_by_desk v t fs
  late_alike t [] = refl
  late_alike t (f ∷ fs) = cc (
    ap (λ (w : Setup). is_unsettled_by_desk w t f) (moved_is u v a),
    ap (λ (s : State). unsettled_by_desk u s fs) (stepped_alike t f) ∙ late_alike (stepped v t f) fs,
  )

  pub counted_alike : (t : State) (fs : List (List Float)) → unsettled_count_by_desk u t fs
      ≡ unsettled_count_by_desk v t fs
  counted_alike t fs = ap count (late_alike t fs)
