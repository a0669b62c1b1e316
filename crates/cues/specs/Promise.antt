-- Document 02, E1: "The direction at a frame is that of the last cue not after it, found by halving". What a list is
-- judged to be, and which cue holds at a frame, for how long. Definitions only.
use Rattle.std.specs.Prelude.{◌+◌, ◌<◌, ◌≡◌, ◌∷◌}
use Rattle.lists.specs.Prelude.{ℕ, true, not, List, [], length}
use Rattle.lists.specs.Tables.{any}
use Rattle.cues.specs.declared.Cue.{Cue}
use Rattle.cues.specs.declared.Judgement.{Judgement}
use Rattle.cues.specs.declared.Held.{Held}
use Rattle.cues.specs.Cues.{numbers_of, refused_each, rises, Voice, voice_from, voice_at, until_next}
use Rattle.cues.specs.Computed.{found_of}

-- the last number of a list, or x where it has none
abbrev pub last_or : ℕ → List ℕ → ℕ
last_or x [] = x
last_or x (y ∷ ys) = last_or y ys

-- how many cues there are, the last one's frame (0 of no cues), whether the frames rise strictly, and whether no
-- direction is refused
abbrev pub judgement_of : List Cue → Judgement
judgement_of cues = record {
  seen = length cues;
  last = last_or 0 (numbers_of cues);
  rising = rises (numbers_of cues);
  good = not (any (refused_each cues));
}

abbrev pub voice_of : Held → Voice
voice_of h = voice_from h.direction

-- document 02's voice at a frame, and how many frames there are up to the next cue: this one at least, and for all of
-- them the voice stays
pub record FindWords (cues : List Cue) (f : ℕ) (h : Held) : Type 0 where
  pub voice : voice_of h ≡ voice_at cues f
  pub until : h.left ≡ until_next (numbers_of cues) f
  pub some : 0 < h.left
  pub stays : (k : ℕ) → k < h.left → voice_at cues (f + k) ≡ voice_at cues f

-- of every list what halving comes to; of one that rises, that it is the last cue not after the frame
pub record FindPromise (cues : List Cue) (f : ℕ) (h : Held) : Type 0 where
  pub bits : h ≡ found_of cues f
  pub words : rises (numbers_of cues) ≡ true → FindWords cues f h
