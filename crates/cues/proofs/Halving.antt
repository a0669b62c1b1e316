-- The search by halving: how many frames from the first on are not after f (`up_to`), what a turn keeps, and that what
-- is found at the end is the last cue not after f, by which document 02 says the voice. Assumes nothing.
use Rattle.std.specs.Prelude.{◌≡◌, ◌+◌, ◌-◌, ◌/◌, ◌<◌, ◌≤◌, ◌⊎◌, ◌∷◌, Some}
use Rattle.lists.specs.Prelude.{refl, sym, ◌∙◌, ap, subst, ℕ, zero, suc, not-suc-le-zero, le_of_suc-le-suc, add-one}
use Rattle.lists.specs.Prelude.{arith, Bool, true, false, cond, inl, inr, ⊎_elim, List, [], length, get_or, ltb, leb}
use Rattle.lists.specs.Prelude.{ltb-true, leb-true, leb-false, lt-ltb, le-ltb, lt-leb, le-leb}
use Rattle.lists.proofs.Lists.{less_or_at_most}
use Rattle.cues.specs.declared.Cue.{Cue}
use Rattle.cues.specs.declared.Search.{Search}
use Rattle.cues.specs.Cues.{Voice, nobody, speaking, numbers_of, rises_from, rises, or_later, voice_at, voice_from}
use Rattle.cues.specs.Cues.{until_next, nowhere, always}
use Rattle.cues.specs.Computed.{search_of, whole_of, halved_of, searched, left_of, held_of, found_of}
use Rattle.cues.specs.Promise.{FindWords, FindPromise}
use Rattle.cues.proofs.Cues.{frame_is, frames_length, and_left, and_right, tail_rises, least}

-- ---- how many frames, from the first on, are not after f
abbrev pub up_to : List ℕ → ℕ → ℕ
up_to [] f = 0
up_to (x ∷ xs) f = cond (leb x f) (suc (up_to xs f)) 0

up_to_most : (fs : List ℕ) (f : ℕ) → up_to fs f ≤ length fs
up_to_most [] f = omega arith
up_to_most (x ∷ xs) f = by_test (up_to_most xs f) (leb x f)
  where
    by_test : up_to xs f ≤ length xs → (t : Bool) → cond t (suc (up_to xs f)) 0 ≤ suc (length xs)
    by_test ih true = omega (arith, ih)
    by_test ih false = omega arith

-- what stands at or past it is after f
above : (fs : List ℕ) (f i : ℕ) → rises fs ≡ true → up_to fs f ≤ i → i < length fs → f < get_or fs i 0
above [] f i h u l = absurd (not-suc-le-zero l)
above (x ∷ xs) f i h u l = by_test (λ j v m. above xs f j (tail_rises x xs h) v m) i u l (leb x f) refl
  where
    by_test : ((j : ℕ) → up_to xs f ≤ j → j < length xs → f < get_or xs j 0) → (j : ℕ) → up_to (x ∷ xs) f ≤ j
        → j < length (x ∷ xs) → (t : Bool) → leb x f ≡ t → f < get_or (x ∷ xs) j 0
    by_test ih zero v m true e = absurd (not-suc-le-zero (subst (λ (t : Bool). cond t (suc (up_to xs f)) 0 ≤ zero) e v))
    by_test ih (suc j) v m true e =
        ih j (le_of_suc-le-suc (subst (λ (t : Bool). cond t (suc (up_to xs f)) 0 ≤ suc j) e v)) (le_of_suc-le-suc m)
    by_test ih j v m false e = omega (arith, leb-false x f e, least x xs j h m)

-- what stands before it is not
below : (fs : List ℕ) (f i : ℕ) → i < up_to fs f → get_or fs i 0 ≤ f
below [] f i u = absurd (not-suc-le-zero u)
below (x ∷ xs) f i u = by_test (λ j v. below xs f j v) i u (leb x f) refl
  where
    by_test : ((j : ℕ) → j < up_to xs f → get_or xs j 0 ≤ f) → (j : ℕ) → j < up_to (x ∷ xs) f → (t : Bool) → leb x f ≡ t
        → get_or (x ∷ xs) j 0 ≤ f
    by_test ih zero v true e = leb-true x f e
    by_test ih (suc j) v true e =
        ih j (le_of_suc-le-suc (subst (λ (t : Bool). suc j < cond t (suc (up_to xs f)) 0) e v))
    by_test ih j v false e = absurd (not-suc-le-zero (subst (λ (t : Bool). j < cond t (suc (up_to xs f)) 0) e v))

-- it stays the same up to the next frame, and if there is none for ever
up_to_same : (fs : List ℕ) (f g : ℕ) → f ≤ g → (up_to fs f < length fs → g < get_or fs (up_to fs f) 0)
    → up_to fs g ≡ up_to fs f
up_to_same [] f g l n = refl
up_to_same (x ∷ xs) f g l n = by_test (up_to_same xs f g l) (leb x f) refl
  where
    by_test : ((up_to xs f < length xs → g < get_or xs (up_to xs f) 0) → up_to xs g ≡ up_to xs f) → (t : Bool) → leb x f
        ≡ t
        → cond (leb x g) (suc (up_to xs g)) 0 ≡ cond (leb x f) (suc (up_to xs f)) 0
    by_test ih true e =
        let step : up_to (x ∷ xs) f ≡ suc (up_to xs f) = ap (λ (t : Bool). cond t (suc (up_to xs f)) 0) e in
        let next : up_to xs f < length xs → g < get_or xs (up_to xs f) 0 =
        λ m. subst (λ (k : ℕ). g < get_or (x ∷ xs) k 0) step
        (n (subst (λ (k : ℕ). k < suc (length xs)) (sym step) (omega (arith, m)))) in
        ap (λ (t : Bool). cond t (suc (up_to xs g)) 0) (le-leb x g (omega (arith, l, leb-true x f e)))
        ∙ ap suc (ih next)
        ∙ sym step
    by_test ih false e =
        let step : up_to (x ∷ xs) f ≡ 0 = ap (λ (t : Bool). cond t (suc (up_to xs f)) 0) e in
        let next : g < x = subst (λ (k : ℕ). g < get_or (x ∷ xs) k 0) step
        (n (subst (λ (k : ℕ). k < suc (length xs)) (sym step) (omega arith))) in
        ap (λ (t : Bool). cond t (suc (up_to xs g)) 0) (lt-leb x g next) ∙ sym step

-- the first number after f stands there
until_at : (fs : List ℕ) (f : ℕ) → up_to fs f < length fs → until_next fs f ≡ get_or fs (up_to fs f) 0 - f
until_at [] f l = absurd (not-suc-le-zero l)
until_at (x ∷ xs) f l = by_test (until_at xs f) (leb x f) l
  where
    by_test : (up_to xs f < length xs → until_next xs f ≡ get_or xs (up_to xs f) 0 - f) → (t : Bool)
        → cond t (suc (up_to xs f)) 0 < suc (length xs)
        → cond t (until_next xs f) (x - f) ≡ get_or (x ∷ xs) (cond t (suc (up_to xs f)) 0) 0 - f
    by_test ih true m = ih (le_of_suc-le-suc m)
    by_test ih false m = refl

until_none : (fs : List ℕ) (f : ℕ) → length fs ≤ up_to fs f → until_next fs f ≡ always
until_none [] f l = refl
until_none (x ∷ xs) f l = by_test (until_none xs f) (leb x f) l
  where
    by_test : (length xs ≤ up_to xs f → until_next xs f ≡ always) → (t : Bool)
        → suc (length xs) ≤ cond t (suc (up_to xs f)) 0 → cond t (until_next xs f) (x - f) ≡ always
    by_test ih true m = ih (le_of_suc-le-suc m)
    by_test ih false m = absurd (not-suc-le-zero m)

-- ---- the voice is that of the last of them
abbrev pub last_of : List Cue → ℕ → Voice
last_of cs zero = nobody
last_of cs (suc k) = speaking (get_or cs k nowhere).direction

pub none_left : (x : ℕ) (cs : List Cue) (f : ℕ) → rises_from x (numbers_of cs) ≡ true → f < x → voice_at cs f ≡ nobody
none_left x [] f h l = refl
none_left x (c ∷ cs) f h l =
    let up : x < c.frame = ltb-true x c.frame
    (and_left (ltb x c.frame) (rises_from c.frame (numbers_of cs)) h) in
    ap (λ (t : Bool). or_later (cond t (speaking c.direction) nobody) (voice_at cs f))
    (lt-leb c.frame f (omega (arith, l, up)))
    ∙ ap (or_later nobody)
    (none_left c.frame cs f (and_right (ltb x c.frame) (rises_from c.frame (numbers_of cs)) h)
    (omega (arith, l, up)))

pub voice_last : (cs : List Cue) (f : ℕ) → rises (numbers_of cs) ≡ true
    → voice_at cs f ≡ last_of cs (up_to (numbers_of cs) f)
voice_last [] f h = refl
voice_last (c ∷ cs) f h = by_test (voice_last cs f (tail_rises c.frame (numbers_of cs) h)) (leb c.frame f) refl
  where
    later : (k : ℕ) → or_later (speaking c.direction) (last_of cs k) ≡ last_of (c ∷ cs) (suc k)
    later zero = refl
    later (suc k) = refl

    by_test : voice_at cs f ≡ last_of cs (up_to (numbers_of cs) f) → (t : Bool) → leb c.frame f ≡ t
        → or_later (cond (leb c.frame f) (speaking c.direction) nobody) (voice_at cs f) ≡ last_of (c ∷ cs)
        (cond (leb c.frame f) (suc (up_to (numbers_of cs) f)) 0)
    by_test ih true e = subst (λ (t : Bool). or_later (cond t (speaking c.direction) nobody) (voice_at cs f)
        ≡ last_of (c ∷ cs) (cond t (suc (up_to (numbers_of cs) f)) 0)) (sym e)
        (ap (or_later (speaking c.direction)) ih ∙ later (up_to (numbers_of cs) f))
    by_test ih false e = subst (λ (t : Bool). or_later (cond t (speaking c.direction) nobody) (voice_at cs f)
        ≡ last_of (c ∷ cs) (cond t (suc (up_to (numbers_of cs) f)) 0)) (sym e)
        (ap (or_later nobody) (none_left c.frame cs f h (leb-false c.frame f e)))

-- so between a cue and the next the voice is that cue's
pub holds_between : (cs : List Cue) (f i : ℕ) → rises (numbers_of cs) ≡ true → i < length cs
    → (get_or cs i nowhere).frame ≤ f → (i + 1 < length cs → f < (get_or cs (i + 1) nowhere).frame)
    → voice_at cs f ≡ speaking (get_or cs i nowhere).direction
holds_between cs f i h l a b = voice_last cs f h ∙ ap (last_of cs) count
  where
    long : length (numbers_of cs) ≡ length cs
    long = frames_length cs

    least_so : i < up_to (numbers_of cs) f
    least_so =
        ⊎_elim (λ (p : i < up_to (numbers_of cs) f). p)
        (λ (p : up_to (numbers_of cs) f ≤ i). absurd
        (past (above (numbers_of cs) f i h p (omega (arith, l, long))) (frame_is cs i l)))
        (less_or_at_most i (up_to (numbers_of cs) f))
      where
        past : f < get_or (numbers_of cs) i 0 → (get_or cs i nowhere).frame ≡ get_or (numbers_of cs) i 0 → ⊥
        past p e = omega (arith, p, e, a)

    most_so : up_to (numbers_of cs) f ≤ suc i
    most_so =
        ⊎_elim (λ (p : suc i < up_to (numbers_of cs) f). absurd (past p (below (numbers_of cs) f (suc i) p)))
        (λ (p : up_to (numbers_of cs) f ≤ suc i). p)
        (less_or_at_most (suc i) (up_to (numbers_of cs) f))
      where
        in_list : suc i < up_to (numbers_of cs) f → i + 1 < length cs
        in_list p = let m = up_to_most (numbers_of cs) f in omega (arith, p, m, long)

        past : suc i < up_to (numbers_of cs) f → get_or (numbers_of cs) (suc i) 0 ≤ f → ⊥
        past p q =
            let n = b (in_list p) in
            let e = frame_is cs (i + 1) (in_list p) ∙ ap (λ (k : ℕ). get_or (numbers_of cs) k 0) (add-one i) in
            omega (arith, n, e, q)

    count : up_to (numbers_of cs) f ≡ suc i
    count = omega (arith, least_so, most_so)

-- ---- the frame of the cue behind the part is not before f, in any list
pub next_after : (s : Search) (c : Cue) (f : ℕ) → f ≤ s.next → f ≤ (halved_of s c f).next
next_after s c f h = by_test (leb c.frame f) refl
  where
    by_test : (t : Bool) → leb c.frame f ≡ t → f ≤ (cond t (search_of (s.mid + 1) s.hi (Some c.direction) s.next)
        (search_of s.lo s.mid s.direction c.frame)).next
    by_test true e = h
    by_test false e = omega (arith, leb-false c.frame f e)

-- ---- how many turns of the search are left at most, and that they come to what all turns come to
pub record Coming (cs : List Cue) (f : ℕ) (s : Search) : Type 0 where
  pub turns : ℕ
  pub few : s.hi - s.lo ≤ turns
  pub left : searched turns cs f s ≡ searched (length cs) cs f (whole_of (length cs))

module _ (cs : List Cue) (f : ℕ) (s : Search) where
  abbrev next : Search
  next = halved_of s (get_or cs s.mid nowhere) f

  -- one turn fewer, where the part is shorter after it
  coming_more : s.lo < s.hi → next.hi - next.lo < s.hi - s.lo → (n : ℕ) → s.hi - s.lo ≤ n
      → searched n cs f s ≡ searched (length cs) cs f (whole_of (length cs)) → Coming cs f next
  coming_more l d zero h e = absurd (none l h)
    where
      none : s.lo < s.hi → s.hi - s.lo ≤ 0 → ⊥
      none a b = omega (arith, a, b)
  coming_more l d (suc n) h e = record {
    turns = n;
    few = omega (arith, d, h);
    left = sym (ap (λ (t : Bool). cond t (searched n cs f next) s) (lt-ltb s.lo s.hi l)) ∙ e;
  }

  -- none, where nothing is left of the part
  coming_all : s.hi ≤ s.lo → (n : ℕ) → searched n cs f s ≡ s
  coming_all over zero = refl
  coming_all over (suc n) = ap (λ (t : Bool). cond t (searched n cs f next) s) (le-ltb s.lo s.hi over)

-- ---- the search: where the frames rise the count lies within the part that is searched; and of the cues beside the
-- part the direction and the frame are known
pub record Halving (cs : List Cue) (f : ℕ) (s : Search) : Type 0 where
  pub middle : s.mid ≡ s.lo + (s.hi - s.lo) / 2
  pub coming : Coming cs f s
  pub low : rises (numbers_of cs) ≡ true → s.lo ≤ up_to (numbers_of cs) f
  pub high : up_to (numbers_of cs) f ≤ s.hi
  pub room : s.hi ≤ length cs
  pub before : voice_from s.direction ≡ last_of cs s.lo
  pub behind : s.hi < length cs → s.next ≡ (get_or cs s.hi nowhere).frame

module _ (cs : List Cue) (f : ℕ) where
  abbrev fs : List ℕ
  fs = numbers_of cs

  pub halving_whole : Halving cs f (whole_of (length cs))
  halving_whole = record {
    middle = omega arith;
    coming = record { turns = length cs; few = omega arith; left = refl };
    low = λ h. omega arith;
    high = subst (λ (n : ℕ). up_to fs f ≤ n) (frames_length cs) (up_to_most fs f);
    room = omega arith;
    before = refl;
    behind = λ l. absurd (nothing l);
  }
    where
      nothing : length cs < length cs → ⊥
      nothing l = omega (arith, l)

  module _ (s : Search) (l : s.lo < s.hi) (k : Halving cs f s) where
    pub mid_least : s.lo ≤ s.mid
    mid_least = let m = k.middle in omega (arith, m, l)

    pub mid_below : s.mid < s.hi
    mid_below = let m = k.middle in omega (arith, m, l)

    pub mid_within : s.mid < length cs
    mid_within = let r = k.room in omega (arith, mid_below, r)

    abbrev After : Search → Type 0
    After t = Halving cs f t × (t.hi - t.lo < s.hi - s.lo)

    abbrev mid : Cue
    mid = get_or cs s.mid nowhere

    mid_frame : mid.frame ≡ get_or fs s.mid 0
    mid_frame = frame_is cs s.mid mid_within

    up : rises fs ≡ true → mid.frame ≤ f → s.mid < up_to fs f
    up h g =
        ⊎_elim (λ (a : s.mid < up_to fs f). a)
        (λ (b : up_to fs f ≤ s.mid). absurd
        (past (above fs f s.mid h b (subst (λ (n : ℕ). s.mid < n) (sym (frames_length cs)) mid_within))))
        (less_or_at_most s.mid (up_to fs f))
      where
        past : f < get_or fs s.mid 0 → ⊥
        past q = omega (arith, q, g, mid_frame)

    down : f < mid.frame → up_to fs f ≤ s.mid
    down g =
        ⊎_elim (λ (a : s.mid < up_to fs f). absurd (past (below fs f s.mid a))) (λ (b : up_to fs f ≤ s.mid). b)
        (less_or_at_most s.mid (up_to fs f))
      where
        past : get_or fs s.mid 0 ≤ f → ⊥
        past q = omega (arith, q, g, mid_frame)

    -- a turn keeps it, and the part shrinks
    shorter : (halved_of s mid f).hi - (halved_of s mid f).lo < s.hi - s.lo
    shorter = by_test (leb mid.frame f)
      where
        by_test : (t : Bool) → (cond t (search_of (s.mid + 1) s.hi (Some mid.direction) s.next)
            (search_of s.lo s.mid s.direction mid.frame)).hi - (cond t
            (search_of (s.mid + 1) s.hi (Some mid.direction) s.next)
            (search_of s.lo s.mid s.direction mid.frame)).lo < s.hi - s.lo
        by_test true = omega (arith, mid_least, mid_below)
        by_test false = omega (arith, mid_least, mid_below)

    pub halving_more : After (halved_of s mid f)
    halving_more = (
      by_test (leb mid.frame f) refl
          (coming_more cs f s l shorter k.coming.turns k.coming.few k.coming.left),
      shorter,
    )
      where
        by_test : (t : Bool) → leb mid.frame f ≡ t → Coming cs f (halved_of s mid f) → Halving cs f (halved_of s mid f)
        by_test true e c = subst (Halving cs f) (sym to) (record {
          middle = refl;
          coming = subst (Coming cs f) to c;
          low = λ h. let u = up h (leb-true _ _ e) in omega (arith, u);
          high = k.high;
          room = k.room;
          before = ap (last_of cs) (sym (add-one s.mid));
          behind = k.behind;
        })
          where
            to : halved_of s mid f ≡ search_of (s.mid + 1) s.hi (Some mid.direction) s.next
            to = ap (λ (t : Bool). cond t (search_of (s.mid + 1) s.hi (Some mid.direction) s.next)
                (search_of s.lo s.mid s.direction mid.frame)) e
        by_test false e c = subst (Halving cs f) (sym to) (record {
          middle = refl;
          coming = subst (Coming cs f) to c;
          low = k.low;
          high = down (leb-false _ _ e);
          room = omega (arith, mid_within);
          before = k.before;
          behind = λ q. refl;
        })
          where
            to : halved_of s mid f ≡ search_of s.lo s.mid s.direction mid.frame
            to = ap (λ (t : Bool). cond t (search_of (s.mid + 1) s.hi (Some mid.direction) s.next)
                (search_of s.lo s.mid s.direction mid.frame)) e

  -- at the end the count is known, and so the cue that holds, and the next
  module _ (s : Search) (over : s.hi ≤ s.lo) (h : rises fs ≡ true) (k : Halving cs f s) where
    count : s.lo ≡ up_to fs f
    count = let a = k.low h in let b = k.high in omega (arith, over, a, b)

    ends : s.hi ≡ s.lo
    ends = let a = k.low h in let b = k.high in omega (arith, over, a, b)

    -- the next cue, where there is one
    next_is : s.lo < length cs → s.next ≡ get_or fs (up_to fs f) 0
    next_is l =
        k.behind (subst (λ (m : ℕ). m < length cs) (sym ends) l)
        ∙ ap (λ (m : ℕ). (get_or cs m nowhere).frame) (ends ∙ count)
        ∙ frame_is cs (up_to fs f) (subst (λ (m : ℕ). m < length cs) count l)

    before_next : s.lo < length cs → f < s.next
    before_next l = subst (λ (m : ℕ). f < m) (sym (next_is l))
        (above fs f (up_to fs f) h (omega arith)
        (subst (λ (m : ℕ). up_to fs f < m) (sym (frames_length cs)) (subst (λ (m : ℕ). m < length cs) count l)))

    abbrev left : ℕ
    left = left_of s.lo (length cs) s.next f

    left_always : length cs ≤ s.lo → left ≡ always
    left_always l = ap (λ (t : Bool). cond t always (s.next - f)) (le-leb (length cs) s.lo l)

    left_next : s.lo < length cs → left ≡ s.next - f
    left_next l = ap (λ (t : Bool). cond t always (s.next - f)) (lt-leb (length cs) s.lo l)

    same : (j : ℕ) → j < left → up_to fs (f + j) ≡ up_to fs f
    same j l = up_to_same fs f (f + j) (omega arith) (λ m.
        let n : s.lo < length cs = subst (λ (i : ℕ). i < length cs) (sym count)
        (subst (λ (i : ℕ). up_to fs f < i) (frames_length cs) m) in
        subst (λ (i : ℕ). f + j < i) (next_is n) (near (subst (λ (i : ℕ). j < i) (left_next n) l) (before_next n)))
      where
        near : j < s.next - f → f < s.next → f + j < s.next
        near a b = omega (arith, a, b)

    halving_holds : FindWords cs f (held_of s (length cs) f)
    halving_holds = record {
      voice = k.before ∙ ap (last_of cs) count ∙ sym (voice_last cs f h);
      until = ⊎_elim
          (λ (n : s.lo < length cs). left_next n ∙ ap (λ (m : ℕ). m - f) (next_is n)
          ∙ sym (until_at fs f
          (subst (λ (m : ℕ). up_to fs f < m) (sym (frames_length cs))
          (subst (λ (m : ℕ). m < length cs) count n))))
          (λ (n : length cs ≤ s.lo). left_always n
          ∙ sym (until_none fs f
          (subst (λ (m : ℕ). m ≤ up_to fs f) (sym (frames_length cs))
          (subst (λ (m : ℕ). length cs ≤ m) count n))))
          (less_or_at_most s.lo (length cs));
      some = ⊎_elim (λ (n : s.lo < length cs). subst (λ (m : ℕ). 0 < m) (sym (left_next n)) (positive (before_next n)))
          (λ (n : length cs ≤ s.lo). subst (λ (m : ℕ). 0 < m) (sym (left_always n)) (omega arith))
          (less_or_at_most s.lo (length cs));
      stays = λ j l. voice_last cs (f + j) h ∙ ap (last_of cs) (same j l) ∙ sym (voice_last cs f h);
    }
      where
        positive : f < s.next → 0 < s.next - f
        positive l = omega (arith, l)

  pub halving_all : (s : Search) → s.hi ≤ s.lo → Halving cs f s → FindPromise cs f (held_of s (length cs) f)
  halving_all s over k = record {
    bits = ap (λ (t : Search). held_of t (length cs) f)
        (sym (coming_all cs f s over k.coming.turns) ∙ k.coming.left);
    words = λ h. halving_holds s over h k;
  }

  -- nothing is left of the part
  abbrev Ended : Search → Type 0
  Ended s = Halving cs f s × (s.hi ≤ s.lo)

  -- so many turns keep it and end it, where the part is no longer
  searching : (n : ℕ) (s : Search) → s.hi - s.lo ≤ n → Halving cs f s → Ended (searched n cs f s)
  searching zero s few k = (k, omega (arith, few))
  searching (suc n) s few k = by_test
      (λ l. let turned = halving_more s l k in searching n (next cs f s) (less turned.1) turned.0)
      (less_or_at_most s.lo s.hi)
    where
      less : (next cs f s).hi - (next cs f s).lo < s.hi - s.lo → (next cs f s).hi - (next cs f s).lo ≤ n
      less d = omega (arith, d, few)

      by_test : (s.lo < s.hi → Ended (searched n cs f (next cs f s))) → (s.lo < s.hi) ⊎ (s.hi ≤ s.lo)
          → Ended (searched (suc n) cs f s)
      by_test go (inl l) = subst (λ (t : Bool). Ended (cond t (searched n cs f (next cs f s)) s))
          (sym (lt-ltb s.lo s.hi l)) (go l)
      by_test go (inr l) = subst (λ (t : Bool). Ended (cond t (searched n cs f (next cs f s)) s))
          (sym (le-ltb s.lo s.hi l)) (k, l)

  -- document 02: what halving finds in a list that rises is the last cue not after f
  pub halving_finds : rises fs ≡ true → FindWords cs f (found_of cs f)
  halving_finds h = let all = searching (length cs) (whole_of (length cs)) (omega arith) halving_whole in (halving_all
      (searched (length cs) cs f (whole_of (length cs))) all.1 all.0).words h
