-- Document 02, E1: "a lent list of cues, each with a frame number and a direction. The direction at a frame is that of
-- the last cue not after it, found by halving"; "11 a list whose frames don't rise strictly". Nothing here is of
-- halving. Definitions only.
use Rattle.std.specs.Prelude.{◌-◌, ◌^◌, ◌&&◌, ◌∷◌, Option, Some, None}
use Rattle.lists.specs.Prelude.{ℕ, Bool, true, cond, List, [], ltb, leb}
use Rattle.formats.specs.Floats.{zero_float}
use Rattle.harmonics.specs.declared.Direction.{Direction}
use Rattle.harmonics.specs.Promise.{refuses_direction}
use Rattle.cues.specs.declared.Cue.{Cue}

abbrev pub numbers_of : List Cue → List ℕ
numbers_of [] = []
numbers_of (c ∷ cs) = c.frame ∷ numbers_of cs

-- for each cue, whether its direction is refused
abbrev pub refused_each : List Cue → List Bool
refused_each [] = []
refused_each (c ∷ cs) = refuses_direction c.direction ∷ refused_each cs

-- the numbers rise strictly: each is below the next
abbrev pub rises_from : ℕ → List ℕ → Bool
rises_from x [] = true
rises_from x (y ∷ ys) = ltb x y && rises_from y ys

abbrev pub rises : List ℕ → Bool
rises [] = true
rises (x ∷ xs) = rises_from x xs

-- nobody speaks yet, or somebody from a direction
pub data Voice : Type 0 where
  nobody : Voice
  speaking : Direction → Voice

-- of a direction, where there is one
abbrev pub voice_from : Option Direction → Voice
voice_from None = nobody
voice_from (Some d) = speaking d

-- the second, if there is one
abbrev pub or_later : Voice → Voice → Voice
or_later v nobody = v
or_later v (speaking d) = speaking d

-- of the cues that are not after the frame, the last in the list
abbrev pub voice_at : List Cue → ℕ → Voice
voice_at [] f = nobody
voice_at (c ∷ cs) f = or_later (cond (leb c.frame f) (speaking c.direction) nobody) (voice_at cs f)

-- ---- up to the next cue

-- as many frames as there can be
abbrev pub always : ℕ
always = 2 ^ 64 - 1

-- how many frames there are from f on up to the first number after it, always where there is none
abbrev pub until_next : List ℕ → ℕ → ℕ
until_next [] f = always
until_next (x ∷ xs) f = cond (leb x f) (until_next xs f) (x - f)

-- ---- a place of the list

-- what stands past the end
abbrev pub nowhere : Cue
nowhere = record { frame = 0; direction = record { azimuth = zero_float; elevation = zero_float } }
