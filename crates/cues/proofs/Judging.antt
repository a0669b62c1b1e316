-- The list judged cue by cue: what a run of `judged_on` from a state on comes to. Assumes nothing.
use Rattle.std.specs.Prelude.{◌≡◌, ◌+◌, ◌<◌, ◌≤◌, ◌&&◌, ◌||◌, ◌∷◌}
use Rattle.lists.specs.Prelude.{refl, sym, ◌∙◌, ap, ℕ, zero-add, add-one, arith, Bool, true, false, not, cond, List, []}
use Rattle.lists.specs.Prelude.{length, get_or, drop, drop-length, drop-cons, ltb, eqb, ne_eqb}
use Rattle.lists.specs.Tables.{any}
use Rattle.harmonics.specs.Promise.{refuses_direction}
use Rattle.cues.specs.declared.Cue.{Cue}
use Rattle.cues.specs.declared.Judgement.{Judgement}
use Rattle.cues.specs.Cues.{numbers_of, refused_each, rises_from, rises, nowhere}
use Rattle.cues.specs.Computed.{judged_on}
use Rattle.cues.specs.Promise.{last_or, judgement_of}

-- from a state, over the cues that are left
abbrev onward : Judgement → List Cue → Judgement
onward s [] = s
onward s (c ∷ cs) = onward (judged_on s c) cs

abbrev pub start : Judgement
start = record { seen = 0; last = 0; rising = true; good = true }

seen_on : (s : Judgement) (cs : List Cue) → (onward s cs).seen ≡ s.seen + length cs
seen_on s [] = omega arith
seen_on s (c ∷ cs) = let e = seen_on (judged_on s c) cs in omega (arith, e)

seen_all : (cs : List Cue) → (onward start cs).seen ≡ length cs
seen_all cs = seen_on start cs ∙ zero-add (length cs)

good_all : (s : Judgement) (cs : List Cue) → (onward s cs).good ≡ cond s.good (not (any (refused_each cs))) false
good_all s [] = go s.good
  where
    go : (b : Bool) → b ≡ cond b true false
    go true = refl
    go false = refl
good_all s (c ∷ cs) = good_all (judged_on s c) cs ∙ go s.good (refuses_direction c.direction) (any (refused_each cs))
  where
    go : (b r a : Bool) → cond (cond b (not r) false) (not a) false ≡ cond b (not (r || a)) false
    go true true a = refl
    go true false a = refl
    go false r a = refl

rising_later : (s : Judgement) (cs : List Cue) → eqb s.seen 0 ≡ false
    → (onward s cs).rising ≡ cond s.rising (rises_from s.last (numbers_of cs)) false
rising_later s [] h = go s.rising
  where
    go : (b : Bool) → b ≡ cond b true false
    go true = refl
    go false = refl
rising_later s (c ∷ cs) h =
    rising_later (judged_on s c) cs (ne_eqb (s.seen + 1) 0 (λ e. omega (arith, e)))
    ∙ ap (λ (t : Bool). cond (cond s.rising (t || ltb s.last c.frame) false)
    (rises_from c.frame (numbers_of cs)) false) h
    ∙ go s.rising (ltb s.last c.frame) (rises_from c.frame (numbers_of cs))
  where
    go : (b l r : Bool) → cond (cond b l false) r false ≡ cond b (l && r) false
    go true true r = refl
    go true false r = refl
    go false l r = refl

rising_all : (cs : List Cue) → (onward start cs).rising ≡ rises (numbers_of cs)
rising_all [] = refl
rising_all (c ∷ cs) = rising_later (judged_on start c) cs refl

last_all : (s : Judgement) (cs : List Cue) → (onward s cs).last ≡ last_or s.last (numbers_of cs)
last_all s [] = refl
last_all s (c ∷ cs) = last_all (judged_on s c) cs

-- the invariant, where the state is s
pub record Judging (cs : List Cue) (s : Judgement) : Type 0 where
  pub below : s.seen ≤ length cs
  pub left : onward s (drop s.seen cs) ≡ onward start cs

pub judging_none : (cs : List Cue) → Judging cs start
judging_none cs = record { below = omega arith; left = refl }

pub judging_more : (cs : List Cue) (s : Judgement) → s.seen < length cs → Judging cs s
    → Judging cs (judged_on s (get_or cs s.seen nowhere))
judging_more cs s l j = record {
  below = omega (arith, l);
  left =
      ap (λ (k : ℕ). onward (judged_on s (get_or cs s.seen nowhere)) (drop k cs)) (add-one s.seen)
      ∙ sym (ap (onward s) (drop-cons cs s.seen nowhere l)) ∙ j.left;
}

pub judging_all : (cs : List Cue) (s : Judgement) → length cs ≤ s.seen → Judging cs s → s ≡ judgement_of cs
judging_all cs s l j = whole
    ∙ (λ i. record {
      seen = seen_all cs i;
      last = last_all start cs i;
      rising = rising_all cs i;
      good = good_all start cs i;
    })
  where
    all : s.seen ≡ length cs
    all = let b = j.below in omega (arith, l, b)

    whole : s ≡ onward start cs
    whole = sym (ap (onward s) (ap (λ (k : ℕ). drop k cs) all ∙ drop-length cs)) ∙ j.left
