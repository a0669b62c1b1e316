-- Laws of planes: frames that were written are read back, and everything else is as it was. Assumes nothing.
use Rattle.std.specs.Prelude.{◌≡◌, ◌∷◌, ◌++◌, ◌+◌, ◌*◌, ◌/◌, ◌%◌, ◌≤◌, ◌<◌}
use Rattle.lists.specs.Prelude.{refl, sym, ap, ◌∙◌, List, [], ℕ, zero, suc, suc-le-suc, not-suc-le-zero}
use Rattle.lists.specs.Prelude.{le_of_suc-le-suc, add-zero, zero-add, suc-add, add-suc, ℕ_discrete, arith, length}
use Rattle.lists.specs.Prelude.{get_or, set, drop, length-set, get_or-set_same, get_or-set_other, get_or-take}
use Rattle.lists.specs.Prelude.{get_or-drop, ext_get_or, Float, nan}
use lib.Arith.{digits_div, digits_mod}
use Rattle.lists.specs.Tables.{tab, chunk}
use Rattle.planes.specs.Planes.{sample_at, frame_at, frames_of, with_sample, with_frame_from, with_frame, with_frames}
use Rattle.lists.proofs.Tables.{tab_is, length_chunk, inside}

-- ---- places

move : (n k : ℕ) → n + suc k ≡ suc n + k
move n k = omega arith

-- two places are the same only in one plane, and at one frame
same_plane : (stride p q n m : ℕ) → n < stride → m < stride → p * stride + n ≡ q * stride + m → p ≡ q
same_plane stride p q n m hn hm e = sym (digits_div p hn) ∙ ap (λ (i : ℕ). i / stride) e ∙ digits_div q hm

same_frame : (stride p q n m : ℕ) → n < stride → m < stride → p * stride + n ≡ q * stride + m → n ≡ m
same_frame stride p q n m hn hm e = sym (digits_mod p hn) ∙ ap (λ (i : ℕ). i % stride) e ∙ digits_mod q hm

-- ---- a frame

pub length_with_frame : (p : ℕ) (xs : List Float) (stride n : ℕ) (f : List Float)
    → length (with_frame_from p xs stride n f) ≡ length xs
length_with_frame p xs stride n [] = refl
length_with_frame p xs stride n (x ∷ f) =
    length_with_frame (suc p) (with_sample xs stride p n x) stride n f ∙ length-set xs (p * stride + n) x

with_frame_other : (p : ℕ) (xs : List Float) (stride n : ℕ) (f : List Float) (i : ℕ)
    → ((k : ℕ) → k < length f → i ≡ (p + k) * stride + n → ⊥)
    → get_or (with_frame_from p xs stride n f) i nan ≡ get_or xs i nan
with_frame_other p xs stride n [] i h = refl
with_frame_other p xs stride n (x ∷ f) i h =
    with_frame_other (suc p) (with_sample xs stride p n x) stride n f i
    (λ k lt e. h (suc k) (suc-le-suc lt) (e ∙ ap (λ (q : ℕ). q * stride + n) (suc-add p k ∙ sym (add-suc p k))))
    ∙ get_or-set_other xs (p * stride + n) i x nan
    (λ e. h 0 (suc-le-suc (omega arith)) (e ∙ ap (λ (q : ℕ). q * stride + n) (sym (add-zero p))))

with_frame_at : (p : ℕ) (xs : List Float) (stride n : ℕ) (f : List Float) (k : ℕ) → k < length f → n < stride
    → (p + k) * stride + n < length xs
    → get_or (with_frame_from p xs stride n f) ((p + k) * stride + n) nan ≡ get_or f k nan
with_frame_at p xs stride n [] k lt hn room = absurd (not-suc-le-zero lt)
with_frame_at p xs stride n (x ∷ f) zero lt hn room =
    with_frame_other (suc p) (with_sample xs stride p n x) stride n f ((p + 0) * stride + n)
    (λ k h e. (omega (arith, same_plane stride (p + 0) (suc p + k) n n hn hn e)))
    ∙ ap (λ (q : ℕ). get_or (with_sample xs stride p n x) (q * stride + n) nan) (add-zero p)
    ∙ get_or-set_same xs (p * stride + n) x nan (rw add-zero at room)
with_frame_at p xs stride n (x ∷ f) (suc k) lt hn room =
    ap (λ (q : ℕ). get_or (with_frame_from (suc p) (with_sample xs stride p n x) stride n f) (q * stride + n) nan)
    (move p k)
    ∙ with_frame_at (suc p) (with_sample xs stride p n x) stride n f k (le_of_suc-le-suc lt) hn
    (rw (length-set, ← move p k) room)

-- the row of plane p has that sample of the frame at n, and all else as it was
pub row_with_frame : (planes : ℕ) (xs : List Float) (stride n : ℕ) (f : List Float) (p : ℕ) → p < length f → n < stride
    → length xs ≡ planes * stride → length f ≤ planes
    → chunk stride p (with_frame xs stride n f) ≡ set (chunk stride p xs) n (get_or f p nan)
row_with_frame planes xs stride n f p hp hn e few =
    ext_get_or nan (chunk stride p (with_frame xs stride n f)) (set (chunk stride p xs) n (get_or f p nan)) same_length
    (λ i lt. let i<s : i < stride = omega (arith, lt, new_length) in read i i<s ∙ elim (ℕ_discrete i n) [
      | yes q ↦ ap (λ (j : ℕ). get_or (with_frame xs stride n f) (p * stride + j) nan) q
          ∙ ap (λ (r : ℕ). get_or (with_frame xs stride n f) (r * stride + n) nan) (sym (zero-add p))
          ∙ with_frame_at 0 xs stride n f p hp hn (rw zero-add (room n hn))
          ∙ sym (ap (λ (j : ℕ). get_or (set (chunk stride p xs) n (get_or f p nan)) j nan) q
          ∙ get_or-set_same (chunk stride p xs) n (get_or f p nan) nan (rw old_length hn))
      | no q ↦ with_frame_other 0 xs stride n f (p * stride + i) (λ k h z. q (same_frame stride p (0 + k) i n i<s hn z))
          ∙ sym (get_or-set_other (chunk stride p xs) n i (get_or f p nan) nan q
          ∙ get_or-take stride (drop (p * stride) xs) i nan i<s ∙ get_or-drop (p * stride) xs i nan)
    ])
  where
    among : p < planes
    among = omega (arith, hp, few)

    room : (m : ℕ) → m < stride → p * stride + m < length xs
    room m hm = inside planes stride p m (length xs) among hm e

    old_length : length (chunk stride p xs) ≡ stride
    old_length = length_chunk stride p planes xs among e

    new_length : length (chunk stride p (with_frame xs stride n f)) ≡ stride
    new_length = length_chunk stride p planes (with_frame xs stride n f) among (length_with_frame 0 xs stride n f ∙ e)

    same_length : length (chunk stride p (with_frame xs stride n f))
        ≡ length (set (chunk stride p xs) n (get_or f p nan))
    same_length = new_length ∙ sym (length-set (chunk stride p xs) n (get_or f p nan) ∙ old_length)

    read : (i : ℕ) → i < stride → get_or (chunk stride p (with_frame xs stride n f)) i nan
        ≡ get_or (with_frame xs stride n f)
        (p * stride + i) nan
    read i h = get_or-take stride (drop (p * stride) (with_frame xs stride n f)) i nan h
        ∙ get_or-drop (p * stride) (with_frame xs stride n f) i nan

-- ---- frames one after another

pub length_with_frames : (xs : List Float) (stride n : ℕ) (fs : List (List Float))
    → length (with_frames xs stride n fs) ≡ length xs
length_with_frames xs stride n [] = refl
length_with_frames xs stride n (f ∷ fs) =
    length_with_frames (with_frame xs stride n f) stride (suc n) fs ∙ length_with_frame 0 xs stride n f

-- in two parts, one behind the other
pub with_frames_append : (xs : List Float) (stride n : ℕ) (fs gs : List (List Float))
    → with_frames xs stride n (fs ++ gs) ≡ with_frames (with_frames xs stride n fs) stride (n + length fs) gs
with_frames_append xs stride n [] gs = ap (λ (k : ℕ). with_frames xs stride k gs) (sym (add-zero n))
with_frames_append xs stride n (f ∷ fs) gs =
    with_frames_append (with_frame xs stride n f) stride (suc n) fs gs
    ∙ ap (λ (k : ℕ). with_frames (with_frames (with_frame xs stride n f) stride (suc n) fs) stride k gs)
    (sym (move n (length fs)))

-- what is not among the frames written is as it was
pub with_frames_other : (xs : List Float) (stride n : ℕ) (fs : List (List Float)) (p m : ℕ) → m < stride
    → n + length fs ≤ stride → ((k : ℕ) → k < length fs → m ≡ n + k → ⊥)
    → sample_at (with_frames xs stride n fs) stride p m ≡ sample_at xs stride p m
with_frames_other xs stride n [] p m hm room h = refl
with_frames_other xs stride n (f ∷ fs) p m hm room h =
    with_frames_other (with_frame xs stride n f) stride (suc n) fs p m hm (omega arith)
    (λ k lt e. h (suc k) (suc-le-suc lt) (omega arith))
    ∙ with_frame_other 0 xs stride n f (p * stride + m)
    (λ k lt e. h 0 (suc-le-suc (omega arith)) (omega (arith, same_frame stride p (0 + k) m n hm (omega arith) e)))

pub with_frames_at : (planes : ℕ) (xs : List Float) (stride n : ℕ) (fs : List (List Float)) (p k : ℕ) → k < length fs
    → p < planes → n + length fs ≤ stride → length xs ≡ planes * stride
    → ((j : ℕ) → j < length fs → length (get_or fs j []) ≡ planes)
    → sample_at (with_frames xs stride n fs) stride p (n + k) ≡ get_or (get_or fs k []) p nan
with_frames_at planes xs stride n [] p k lt hp room e each = absurd (not-suc-le-zero lt)
with_frames_at planes xs stride n (f ∷ fs) p zero lt hp room e each =
    with_frames_other (with_frame xs stride n f) stride (suc n) fs p (n + 0) (omega arith) (omega arith)
    (λ k h q. omega arith)
    ∙ ap (λ (m : ℕ). get_or (with_frame xs stride n f) (p * stride + m) nan) (add-zero n)
    ∙ ap (λ (q : ℕ). get_or (with_frame xs stride n f) (q * stride + n) nan) (sym (zero-add p))
    ∙ with_frame_at 0 xs stride n f p (rw (each 0 (suc-le-suc (omega arith))) hp) small
    (rw zero-add (inside planes stride p n (length xs) hp small e))
  where
    small : n < stride
    small = omega arith
with_frames_at planes xs stride n (f ∷ fs) p (suc k) lt hp room e each =
    ap (λ (m : ℕ). sample_at (with_frames (with_frame xs stride n f) stride (suc n) fs) stride p m) (move n k)
    ∙ with_frames_at planes (with_frame xs stride n f) stride (suc n) fs p k (le_of_suc-le-suc lt) hp (omega arith)
    (length_with_frame 0 xs stride n f ∙ e) (λ j h. each (suc j) (suc-le-suc h))

-- frames that were put into planes are read back as they were
pub frames_read : (planes : ℕ) (xs : List Float) (stride : ℕ) (fs : List (List Float)) → length fs ≤ stride
    → length xs ≡ planes * stride
    → ((j : ℕ) → j < length fs → length (get_or fs j []) ≡ planes)
    → frames_of (with_frames xs stride 0 fs) stride planes (length fs) ≡ fs
frames_read planes xs stride fs room e each = tab_is fs [] (frame_at (with_frames xs stride 0 fs) stride planes) one
  where
    sample : ℕ → ℕ → Float
    sample k p = sample_at (with_frames xs stride 0 fs) stride p k

    one : (k : ℕ) → k < length fs → frame_at (with_frames xs stride 0 fs) stride planes k ≡ get_or fs k []
    one k h =
        ap (λ (m : ℕ). tab 0 m (sample k)) (sym (each k h))
        ∙ tab_is (get_or fs k []) nan (sample k)
        (λ p lt. ap (λ (i : ℕ). sample i p) (sym (zero-add k))
        ∙ with_frames_at planes xs stride 0 fs p k h (omega (arith, lt, each k h)) (omega (arith, room)) e each)
