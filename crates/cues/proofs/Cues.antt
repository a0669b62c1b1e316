-- Laws of the definitions of specs/Cues.antt: what stands at a place of the frames, what follows where frames rise, and
-- of the cues of a list none of which is refused. Assumes nothing.
use Rattle.std.specs.Prelude.{◌≡◌, ◌<◌, ◌≤◌, ◌&&◌, ◌∷◌}
use Rattle.lists.specs.Prelude.{refl, ap, ℕ, zero, suc, not-suc-le-zero, le_of_suc-le-suc, arith, Bool, true, false}
use Rattle.lists.specs.Prelude.{cond, List, [], length, get_or, ltb, leb, ltb-true}
use Rattle.lists.specs.Tables.{any}
use Rattle.refusals.proofs.First.{or_off}
use Rattle.harmonics.specs.Promise.{refuses_direction}
use Rattle.cues.specs.declared.Cue.{Cue}
use Rattle.cues.specs.Cues.{Voice, nobody, speaking, or_later, voice_at, numbers_of, refused_each, rises_from, rises}
use Rattle.cues.specs.Cues.{nowhere}

pub frame_is : (cs : List Cue) (i : ℕ) → i < length cs → (get_or cs i nowhere).frame ≡ get_or (numbers_of cs) i 0
frame_is [] i l = absurd (not-suc-le-zero l)
frame_is (c ∷ cs) zero l = refl
frame_is (c ∷ cs) (suc i) l = frame_is cs i (le_of_suc-le-suc l)

pub frames_length : (cs : List Cue) → length (numbers_of cs) ≡ length cs
frames_length [] = refl
frames_length (c ∷ cs) = ap suc (frames_length cs)

-- ---- a list that rises
pub and_left : (a b : Bool) → a && b ≡ true → a ≡ true
and_left true b h = refl
and_left false b h = h

pub and_right : (a b : Bool) → a && b ≡ true → b ≡ true
and_right true b h = h
and_right false true h = refl
and_right false false h = h

pub tail_rises : (x : ℕ) (xs : List ℕ) → rises_from x xs ≡ true → rises xs ≡ true
tail_rises x [] h = refl
tail_rises x (y ∷ ys) h = and_right (ltb x y) (rises_from y ys) h

-- the first is the least
pub least : (x : ℕ) (xs : List ℕ) (i : ℕ) → rises_from x xs ≡ true → i < length (x ∷ xs) → x ≤ get_or (x ∷ xs) i 0
least x xs zero h l = omega arith
least x [] (suc i) h l = absurd (not-suc-le-zero (le_of_suc-le-suc l))
least x (y ∷ ys) (suc i) h l = omega (
  arith,
  ltb-true x y (and_left (ltb x y) (rises_from y ys) h),
  least y ys i (and_right (ltb x y) (rises_from y ys) h) (le_of_suc-le-suc l),
)

-- each is below the next, at any place
pub next_above : (x : ℕ) (xs : List ℕ) (i : ℕ) → rises_from x xs ≡ true → i < length xs
    → get_or (x ∷ xs) i 0 < get_or xs i 0
next_above x [] i h l = absurd (not-suc-le-zero l)
next_above x (y ∷ ys) zero h l = ltb-true x y (and_left (ltb x y) (rises_from y ys) h)
next_above x (y ∷ ys) (suc i) h l = next_above y ys i (and_right (ltb x y) (rises_from y ys) h) (le_of_suc-le-suc l)

-- ---- a list of which no direction is refused
pub each_good : (cs : List Cue) (i : ℕ) → any (refused_each cs) ≡ false → i < length cs
    → refuses_direction (get_or cs i nowhere).direction ≡ false
each_good [] i h l = absurd (not-suc-le-zero l)
each_good (c ∷ cs) zero h l = (or_off (refuses_direction c.direction) (any (refused_each cs)) h).0
each_good (c ∷ cs) (suc i) h l =
    each_good cs i (or_off (refuses_direction c.direction) (any (refused_each cs)) h).1 (le_of_suc-le-suc l)

-- a voice at a direction that is not refused
abbrev pub Good : Voice → Type 0
Good nobody = Unit {0}
Good (speaking d) = refuses_direction d ≡ false

-- is that of every frame, where no direction of the list is refused
pub voice_good : (cs : List Cue) (f : ℕ) → any (refused_each cs) ≡ false → Good (voice_at cs f)
voice_good [] f h = tt
voice_good (c ∷ cs) f h = later (voice_at cs f) (voice_good cs f off.1) (leb c.frame f)
  where
    off : (refuses_direction c.direction ≡ false) × (any (refused_each cs) ≡ false)
    off = or_off (refuses_direction c.direction) (any (refused_each cs)) h

    later : (v : Voice) → Good v → (t : Bool) → Good (or_later (cond t (speaking c.direction) nobody) v)
    later nobody g true = off.0
    later nobody g false = tt
    later (speaking d) g t = g
