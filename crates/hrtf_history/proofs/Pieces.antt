-- Frames taken in pieces: what is heard of two pieces is what is heard of the whole, frame by frame, and so is which
-- frames are unsettled. Assumes nothing.
use Rattle.std.specs.Prelude.{◌≡◌, ◌||◌, ◌∷◌, ◌++◌, ◌+◌, ◌*◌, ◌≤◌, ◌<◌}
use Rattle.lists.specs.Prelude.{refl, sym, ap, ◌∙◌, subst, Bool, false, or-false, List, [], map, ℕ, zero, suc}
use Rattle.lists.specs.Prelude.{not-suc-le-zero, le_of_suc-le-suc, add-zero, arith, lt-leb, length, get_or, take, drop}
use Rattle.lists.specs.Prelude.{Float}
use Rattle.lists.specs.Tables.{tab, any, count}
use Rattle.checks.specs.Finite.{has_nonfinite}
use Rattle.planes.specs.Planes.{frames_of, with_frames}
use Rattle.planes.proofs.Planes.{frames_read}
use Rattle.hrtf_history.specs.Setup.{Setup}
use Rattle.hrtf_history.specs.Signals.{signals}
use Rattle.hrtf_history.specs.History.{ear_samples, unsettled, heard, unsettled_each, unsettled_in, after, upto}

pub count_append : (bs cs : List Bool) → count (bs ++ cs) ≡ count bs + count cs
count_append [] cs = omega arith
count_append (b ∷ bs) cs = omega (arith, count_append bs cs)

module _ (u : Setup) where
  pub after_append : (past fs gs : List (List Float)) → after u past (fs ++ gs) ≡ after u (after u past fs) gs
  after_append past [] gs = refl
  after_append past (f ∷ fs) gs = after_append (signals u f ∷ past) fs gs

  pub length_heard : (past fs : List (List Float)) → length (heard u past fs) ≡ length fs
  length_heard past [] = refl
  length_heard past (f ∷ fs) = ap suc (length_heard (signals u f ∷ past) fs)

  pub heard_append : (past fs gs : List (List Float)) → heard u past (fs ++ gs) ≡ heard u past fs
      ++ heard u (after u past fs) gs
  heard_append past [] gs = refl
  heard_append past (f ∷ fs) gs =
      ap (λ (l : List (List Float)). ear_samples u (signals u f ∷ past) ∷ l) (heard_append (signals u f ∷ past) fs gs)

  pub each_append : (go : ℕ) (past fs gs : List (List Float))
      → unsettled_each u go past (fs ++ gs) ≡ unsettled_each u go past fs ++ unsettled_each u go (after u past fs) gs
  each_append go past [] gs = refl
  each_append go past (f ∷ fs) gs =
      ap (λ (bs : List Bool). unsettled u go (signals u f ∷ past) ∷ bs) (each_append go (signals u f ∷ past) fs gs)

  pub unsettled_append : (go : ℕ) (past fs gs : List (List Float))
      → unsettled_in u go past (fs ++ gs) ≡ unsettled_in u go past fs + unsettled_in u go (after u past fs) gs
  unsettled_append go past fs gs = ap count (each_append go past fs gs)
      ∙ count_append (unsettled_each u go past fs) (unsettled_each u go (after u past fs) gs)

  -- frame n is heard over the past up to it
  pub heard_from : (past fs : List (List Float)) (n : ℕ) (d : List Float) → n < length fs
      → get_or (heard u past fs) n d ≡ ear_samples u (after u past (take (suc n) fs))
  heard_from past [] n d h = absurd (not-suc-le-zero h)
  heard_from past (f ∷ fs) zero d h = refl
  heard_from past (f ∷ fs) (suc n) d h = heard_from (signals u f ∷ past) fs n d (le_of_suc-le-suc h)

  -- two ears at each
  pub two_each : (past fs : List (List Float)) (n : ℕ) → n < length (heard u past fs)
      → length (get_or (heard u past fs) n []) ≡ 2
  two_each past fs n h = ap length (heard_from past fs n [] (omega (arith, length_heard past fs)))

  pub heard_at : (fs : List (List Float)) (n : ℕ) (d : List Float) → n < length fs
      → get_or (heard u [] fs) n d ≡ ear_samples u (upto u fs n)
  heard_at fs n d h = heard_from [] fs n d h

  -- what is put into two planes and read again is what is heard
  pub heard_read : (past fs : List (List Float)) (ears : List Float) (stride n : ℕ) → length fs ≡ n → n ≤ stride
      → length ears ≡ 2 * stride
      → frames_of (with_frames ears stride 0 (heard u past fs)) stride 2 n ≡ heard u past fs
  heard_read past fs ears stride n e few room =
      let many : length (heard u past fs) ≡ n = length_heard past fs ∙ e in
      ap (frames_of (with_frames ears stride 0 (heard u past fs)) stride 2) (sym many)
      ∙ frames_read 2 ears stride (heard u past fs) (omega (arith, many)) room (two_each past fs)

  -- ---- the flags

  -- nothing being to go, a frame is unsettled by the damage among the last L alone
  pub unsettled_by_lem : (x : List Float) (past : List (List Float))
      → unsettled u 0 (x ∷ past) ≡ any (take u.L (map has_nonfinite (x ∷ past)))
  unsettled_by_lem x past =
      ap (λ (b : Bool). any (take u.L (map has_nonfinite (x ∷ past))) || b)
      (lt-leb (suc (length past)) 0 (omega arith)) ∙ or-false (any (take u.L (map has_nonfinite (x ∷ past))))

  pub length_each : (go : ℕ) (past fs : List (List Float)) → length (unsettled_each u go past fs) ≡ length fs
  length_each go past [] = refl
  length_each go past (f ∷ fs) = ap suc (length_each go (signals u f ∷ past) fs)

  -- that of frame n
  pub each_at : (past fs : List (List Float)) (n : ℕ) (d : Bool) → n < length fs
      → get_or (unsettled_each u 0 past fs) n d
      ≡ any (take u.L (map has_nonfinite (after u past (take (suc n) fs))))
  each_at past [] n d h = absurd (not-suc-le-zero h)
  each_at past (f ∷ fs) zero d h = unsettled_by_lem (signals u f) past
  each_at past (f ∷ fs) (suc n) d h = each_at (signals u f ∷ past) fs n d (le_of_suc-le-suc h)

-- ---- flags that a rule tells, from its n-th on

abbrev pub Told : (ℕ → Bool) → ℕ → List Bool → Type 0
Told flag n bs = bs ≡ tab n (length bs) flag

pub told_append : (flag : ℕ → Bool) (n m : ℕ) (bs cs : List Bool) → length bs ≡ m → Told flag n (bs ++ cs)
    → (bs ≡ tab n m flag) × Told flag (n + m) cs
told_append flag n m bs cs long e =
    subst (λ (k : ℕ). (bs ≡ tab n k flag) × Told flag (n + k) cs) long (parts n bs e)
  where
    parts : (n : ℕ) (bs : List Bool) → Told flag n (bs ++ cs) → Told flag n bs × Told flag (n + length bs) cs
    parts n [] e = (refl, e ∙ ap (λ (k : ℕ). tab k (length cs) flag) (sym (add-zero n)))
    parts n (b ∷ bs) e =
        let rest = parts (suc n) bs (ap (drop 1) e) in (
          cc (ap (λ (l : List Bool). get_or l 0 false) e, rest.0),
          rest.1 ∙ ap (λ (k : ℕ). tab k (length cs) flag) (omega arith),
        )
