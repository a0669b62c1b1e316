-- What the steps of the program hand to each other: a list judged cue by cue, and the search by halving. `Promise` ties
-- the search to document 02's words. Definitions only.
use Rattle.std.specs.Prelude.{◌+◌, ◌-◌, ◌/◌, ◌||◌, Option, Some, None}
use Rattle.lists.specs.Prelude.{ℕ, zero, suc, Bool, false, not, cond, List, ltb, leb, eqb, length, get_or}
use Rattle.harmonics.specs.declared.Direction.{Direction}
use Rattle.harmonics.specs.Promise.{refuses_direction}
use Rattle.cues.specs.declared.Cue.{Cue}
use Rattle.cues.specs.declared.Judgement.{Judgement}
use Rattle.cues.specs.declared.Search.{Search}
use Rattle.cues.specs.declared.Held.{Held}
use Rattle.cues.specs.Cues.{nowhere, always}

-- ---- the list is judged, one cue further

abbrev pub rises_on : ℕ → ℕ → Bool → ℕ → Bool
rises_on seen last rising f = cond rising (eqb seen 0 || ltb last f) false

abbrev pub good_on : Bool → Direction → Bool
good_on good d = cond good (not (refuses_direction d)) false

abbrev pub judged_on : Judgement → Cue → Judgement
judged_on s c = record {
  seen = s.seen + 1;
  last = c.frame;
  rising = rises_on s.seen s.last s.rising c.frame;
  good = good_on s.good c.direction;
}

-- ---- the search: a part of the list from lo to before hi, its middle, the direction of the cue before it, where one
-- stands there, and the frame of the cue behind it, or a number that no frame passes

abbrev pub search_of : ℕ → ℕ → Option Direction → ℕ → Search
search_of lo hi d next = record { lo = lo; mid = lo + (hi - lo) / 2; hi = hi; direction = d; next = next }

abbrev pub whole_of : ℕ → Search
whole_of count = record { lo = 0; mid = count / 2; hi = count; direction = None; next = always }

abbrev pub halved_of : Search → Cue → ℕ → Search
halved_of s c f = cond (leb c.frame f) (search_of (s.mid + 1) s.hi (Some c.direction) s.next)
    (search_of s.lo s.mid s.direction c.frame)

-- so many turns of it at most
abbrev pub searched : ℕ → List Cue → ℕ → Search → Search
searched zero cues f s = s
searched (suc n) cues f s = cond (ltb s.lo s.hi) (searched n cues f (halved_of s (get_or cues s.mid nowhere) f)) s

abbrev pub left_of : ℕ → ℕ → ℕ → ℕ → ℕ
left_of lo count next f = cond (leb count lo) always (next - f)

abbrev pub held_of : Search → ℕ → ℕ → Held
held_of s count f = record { direction = s.direction; left = left_of s.lo count s.next f }

-- what halving comes to, in a list that rises and in any other; as many turns as there are cues are enough, since each
-- leaves a shorter part
abbrev pub found_of : List Cue → ℕ → Held
found_of cues f = held_of (searched (length cues) cues f (whole_of (length cues))) (length cues) f
