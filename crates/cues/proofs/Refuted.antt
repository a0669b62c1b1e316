-- Wrong ways to judge a list and to find a cue, each held against the promise, whatever the cues. Assumes nothing.
use Rattle.std.specs.Prelude.{◌≡◌, ◌&&◌, ◌∷◌, ◌+◌, ◌-◌, ◌≤◌, ◌<◌, Some, None}
use Rattle.lists.specs.Prelude.{refl, sym, ap, ◌∙◌, Bool, true, false, not, true≢false, cond, List, [], ℕ, arith}
use Rattle.lists.specs.Prelude.{le-leb, lt-leb, lt-ltb, length, get_or}
use Rattle.lists.specs.Tables.{any}
use Rattle.harmonics.specs.declared.Direction.{Direction}
use Rattle.harmonics.specs.Promise.{refuses_direction}
use Rattle.cues.specs.declared.Cue.{Cue}
use Rattle.cues.specs.declared.Judgement.{Judgement}
use Rattle.cues.specs.declared.Held.{Held}
use Rattle.cues.specs.Cues.{Voice, nobody, speaking, numbers_of, refused_each, rises_from, voice_at, nowhere}
use Rattle.cues.specs.Promise.{judgement_of, FindPromise}
use Rattle.cues.proofs.Cues.{next_above, each_good}
use Rattle.cues.proofs.Halving.{holds_between}

-- ---- a list is judged

-- it takes frames for rising ones that are equal somewhere, or fall
level_frames_rise : (c : Cue) (cs : List Cue) (i : ℕ) (j : Judgement) → i < length (numbers_of cs)
    → get_or (numbers_of cs) i 0 ≤ get_or (numbers_of (c ∷ cs)) i 0 → j ≡ judgement_of (c ∷ cs) → j.rising ≡ true → ⊥
level_frames_rise c cs i j l fall is r =
    below (next_above c.frame (numbers_of cs) i (sym (ap (λ (k : Judgement). k.rising) is) ∙ r) l)
  where
    below : get_or (numbers_of (c ∷ cs)) i 0 < get_or (numbers_of cs) i 0 → ⊥
    below m = omega (arith, m, fall)

-- it does not look at every direction: at any place of the list one that is refused is found
bad_direction_missed : (cs : List Cue) (i : ℕ) (j : Judgement) → i < length cs
    → refuses_direction (get_or cs i nowhere).direction ≡ true → j ≡ judgement_of cs → j.good ≡ true → ⊥
bad_direction_missed cs i j l bad is s =
    true≢false (sym bad ∙ each_good cs i (none (any (refused_each cs)) (sym (ap (λ (k : Judgement). k.good) is) ∙ s)) l)
  where
    none : (b : Bool) → not b ≡ true → b ≡ false
    none true h = sym h
    none false h = refl

-- ---- the cue that holds

abbrev speaks : Voice → Bool
speaks nobody = false
speaks (speaking d) = true

-- it lets a cue hold from the frame after its own on
silent_at_its_frame : (c : Cue) (left : ℕ) → FindPromise (c ∷ []) c.frame (record { direction = None; left = left }) → ⊥
silent_at_its_frame c left p =
    true≢false (sym
    (ap speaks ((p.words refl).voice ∙ ap (λ (t : Bool). cond t (speaking c.direction) nobody)
    (le-leb c.frame c.frame (omega arith)))))

-- it lets the first cue hold before its frame
speaks_before_the_first : (c : Cue) (f : ℕ) (d : Direction) (left : ℕ) → f < c.frame
    → FindPromise (c ∷ []) f (record { direction = Some d; left = left }) → ⊥
speaks_before_the_first c f d left l p = true≢false
    (ap speaks ((p.words refl).voice ∙ ap (λ (t : Bool). cond t (speaking c.direction) nobody)
    (lt-leb c.frame f l)))

-- it lets a cue hold past the next one, which points elsewhere
module _ (c d : Cue) (rise : c.frame < d.frame) (h : Held) (p : FindPromise (c ∷ d ∷ []) c.frame h) where
  abbrev both : List Cue
  both = c ∷ d ∷ []

  rises_both : rises_from c.frame (d.frame ∷ []) ≡ true
  rises_both = ap (λ (t : Bool). t && true) (lt-ltb c.frame d.frame rise)

  abbrev direction_of : Voice → Direction
  direction_of nobody = nowhere.direction
  direction_of (speaking e) = e

  held_past_the_next : (c.direction ≡ d.direction → ⊥) → d.frame - c.frame < h.left → ⊥
  held_past_the_next other l = other
      (ap direction_of (sym first ∙ sym ((p.words rises_both).stays (d.frame - c.frame) l) ∙ ap (voice_at both) at
      ∙ second))
    where
      at : c.frame + (d.frame - c.frame) ≡ d.frame
      at = omega (arith, rise)

      first : voice_at both c.frame ≡ speaking c.direction
      first = holds_between both c.frame 0 rises_both (omega arith) (omega arith) (λ m. rise)

      none : 2 < 2 → ⊥
      none m = omega (arith, m)

      second : voice_at both d.frame ≡ speaking d.direction
      second = holds_between both d.frame 1 rises_both (omega arith) (omega arith) (λ m. absurd (none m))
