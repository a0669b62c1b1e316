-- The frames as fed, one by one: what is heard at each, its past since the last restart, whether there is damage among
-- the last L; and the parts between restarts. Assumes nothing.
use Rattle.std.specs.Prelude.{◌≡◌, ◌∷◌, ◌++◌, ◌<◌}
use Rattle.lists.specs.Prelude.{refl, sym, ap, ◌∙◌, Bool, false, List, [], map, ℕ, zero, suc, not-suc-le-zero}
use Rattle.lists.specs.Prelude.{le_of_suc-le-suc, arith, length, get_or, take, Float}
use Rattle.lists.specs.Tables.{any}
use Rattle.lists.proofs.Tables.{tab_is}
use Rattle.checks.specs.Finite.{has_nonfinite}
use Rattle.hrtf_history.specs.Setup.{Setup}
use Rattle.hrtf_history.specs.Signals.{signals}
use Rattle.hrtf_history.specs.History.{ear_samples, unsettled, heard}
use Rattle.hrtf_history.proofs.Silence.{ears_agree, damaged_last_lem}
use Rattle.hrtf_history.proofs.Pieces.{unsettled_by_lem, Told}
use Rattle.stamps.specs.Events.{Event, feed, restart}
use Rattle.stamps.specs.Computed.{feeds_in}
use Rattle.replay.specs.Heard.{heard_by, unsettled_each_by, after_by}
use Rattle.replays.specs.Demand.{upto_fed, fed_since, frame_ago, damaged_among, first_part, later_parts, heard_parts}

abbrev Events : Type 0
Events = List (Event (List Float))

module _ (u : Setup) where
  -- the past is the signals of the frames fed since the last restart
  after_since : (past : List (List Float)) (es : Events) → after_by u (map (signals u) past) es ≡ map (signals u)
      (fed_since past es)
  after_since past [] = refl
  after_since past (feed s f ∷ es) = after_since (f ∷ past) es
  after_since past (restart ∷ es) = after_since [] es

  pub heard_by_at : (past : List (List Float)) (es : Events) (n : ℕ) (d : List Float) → n < feeds_in es
      → get_or (heard_by u past es) n d ≡ ear_samples u (after_by u past (upto_fed es n))
  heard_by_at past [] n d h = absurd (not-suc-le-zero h)
  heard_by_at past (feed s f ∷ es) zero d h = refl
  heard_by_at past (feed s f ∷ es) (suc n) d h = heard_by_at (signals u f ∷ past) es n d (le_of_suc-le-suc h)
  heard_by_at past (restart ∷ es) n d h = heard_by_at [] es n d h

  -- ---- which frames are unsettled, nothing being to go

  pub each_by_append : (past : List (List Float)) (es hs : Events)
      → unsettled_each_by u 0 past (es ++ hs) ≡ unsettled_each_by u 0 past es
      ++ unsettled_each_by u 0 (after_by u past es) hs
  each_by_append past [] hs = refl
  each_by_append past (feed s f ∷ es) hs =
      ap (λ (bs : List Bool). unsettled u 0 (signals u f ∷ past) ∷ bs) (each_by_append (signals u f ∷ past) es hs)
  each_by_append past (restart ∷ es) hs = each_by_append [] es hs

  pub length_each_by : (past : List (List Float)) (es : Events) → length (unsettled_each_by u 0 past es) ≡ feeds_in es
  length_each_by past [] = refl
  length_each_by past (feed s f ∷ es) = ap suc (length_each_by (signals u f ∷ past) es)
  length_each_by past (restart ∷ es) = length_each_by [] es

  each_by_at : (past : List (List Float)) (es : Events) (n : ℕ) (d : Bool) → n < feeds_in es
      → get_or (unsettled_each_by u 0 past es) n d
      ≡ any (take u.L (map has_nonfinite (after_by u past (upto_fed es n))))
  each_by_at past [] n d h = absurd (not-suc-le-zero h)
  each_by_at past (feed s f ∷ es) zero d h = unsettled_by_lem u (signals u f) past
  each_by_at past (feed s f ∷ es) (suc n) d h = each_by_at (signals u f ∷ past) es n d (le_of_suc-le-suc h)
  each_by_at past (restart ∷ es) n d h = each_by_at [] es n d h

  -- between restarts
  pub parts_heard : (past : List (List Float)) (es : Events) → heard_by u past es ≡ heard u past (first_part es)
      ++ heard_parts u (later_parts es)
  parts_heard past [] = refl
  parts_heard past (feed s f ∷ es) =
      ap (λ (l : List (List Float)). ear_samples u (signals u f ∷ past) ∷ l) (parts_heard (signals u f ∷ past) es)
  parts_heard past (restart ∷ es) = parts_heard [] es

module _ (u : Setup) (finite : has_nonfinite u.weights ≡ false) where
  -- frames that agree
  pub fed_same : (es hs : Events) (n m : ℕ) → ((k : ℕ) → k < u.L → frame_ago u es n k ≡ frame_ago u hs m k)
      → ear_samples u (after_by u [] (upto_fed es n)) ≡ ear_samples u (after_by u [] (upto_fed hs m))
  fed_same es hs n m e =
      ap (ear_samples u) (after_since u [] (upto_fed es n))
      ∙ ears_agree u finite (fed_since [] (upto_fed es n)) (fed_since [] (upto_fed hs m)) e
      ∙ sym (ap (ear_samples u) (after_since u [] (upto_fed hs m)))

  -- the unsettled frames are those with a damaged frame among the last L
  pub flags_told : (es : Events) → Told (damaged_among u es) 0 (unsettled_each_by u 0 [] es)
  flags_told es =
      sym (tab_is (unsettled_each_by u 0 [] es) false (damaged_among u es)
      (λ n h. sym (each_by_at u [] es n false (omega (arith, h, length_each_by u [] es))
      ∙ ap (λ (past : List (List Float)). any (take u.L (map has_nonfinite past))) (after_since u [] (upto_fed es n))
      ∙ damaged_last_lem u finite (fed_since [] (upto_fed es n)))))
