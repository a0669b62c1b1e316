-- A loop that puts a list into an answer, over the width and the bits of an element: how it begins, one turn, and what
-- it leaves; bytes that are copied; and one field. Assumes nothing.
use Rattle.std.specs.Prelude.{◌≡◌, ◌+◌, ◌-◌, ◌*◌, ◌≤◌, ◌<◌}
use Rattle.lists.specs.Prelude.{sym, ap, ◌∙◌, Bool, true, false, not, List, ℕ, mul-le-mul_left, arith, append_assoc}
use Rattle.lists.specs.Prelude.{leb-true, leb-false, le-leb, lt-leb, not-true, not-false, leb, length, get_or, take}
use Rattle.lists.specs.Prelude.{take_all}
use borrow.Rule.Slice.PartMut.{put_mid, Post-is}
use Rattle.big_endian.specs.Bytes.{bytes_of}
use Rattle.big_endian.specs.Fields.{with_field}
use Rattle.lists.specs.Placed.{placed}
use Rattle.big_endian.specs.Lists.{field_bytes}
use Rattle.big_endian.proofs.Bytes.{length_bytes}
use Rattle.big_endian.proofs.Fields.{field_put}
use Rattle.big_endian.proofs.Lists.{length_field_bytes, write_none, write_more}
use Rattle.probe_answer.specs.Answers.{draft, nowhere, ◌then◌, then_field}
use Rattle.probe_answer.proofs.Meets.{then_room, then_cut}

-- past the test of the room
pub room_inside : (a b : ℕ) {t : Bool} → t ≡ leb a b → not t ≡ false → a ≤ b
room_inside a b e h = leb-true a b (sym e ∙ not-false _ h)

-- ---- w bytes for each element of a list

module _ {A : Type 0} (w : ℕ) (bits : A → ℕ) (list : List A) (out : List ℕ) (at : ℕ) where
  -- the first i elements are put, up to `place`
  pub record Put (ys : List ℕ) (place i : ℕ) : Type 0 where
    pub inside : at + w * length list ≤ length out
    pub few : i ≤ length list
    pub next : place ≡ at + w * i
    pub so_far : ys ≡ placed out at (field_bytes w bits (take i list))

  pub put_none : {v : ℕ} {t : Bool} → v ≡ w → t ≡ leb (at + v * length list) (length out) → not t ≡ true
      → draft nowhere out ≡ draft at out then field_bytes w bits list
  put_none {v} {t} same e h =
      let test : t ≡ leb (at + w * length list) (length out) = rw same at e in
      let far : length out < at + w * length list = leb-false _ _ (sym test ∙ not-true _ h) in
      sym (then_cut (draft at out) (field_bytes w bits list) (omega (arith, length_field_bytes w bits list)))

  pub put_first : {v : ℕ} {t : Bool} → v ≡ w → t ≡ leb (at + v * length list) (length out) → not t ≡ false
      → Put out at 0
  put_first same e h = record {
    inside = room_inside _ _ (rw same at e) h;
    few = omega arith;
    next = omega arith;
    so_far = write_none w bits out at list;
  }

  pub put_more : {ys last : List ℕ} {place i v : ℕ} {x : A} → v ≡ w → w ≤ 8 → Put ys place i → i < length list
      → x ≡ get_or list i x → last ≡ with_field ys place w (bits x) → Put last (place + v) (i + 1)
  put_more {ys} {last} {place} {i} {v} {x} same small p h is e =
      let next : w * (i + 1) ≤ w * length list = mul-le-mul_left w (omega arith) in
      let inside = p.inside in
      let here = p.next in
      record {
        inside = inside;
        few = omega arith;
        next = omega arith;
        so_far = write_more w bits out at list ys last x i small p.so_far h (omega arith)
            (e ∙ (λ j. with_field ys (here j) w (bits (is j))));
      }

  pub put_all : {ys : List ℕ} {place i : ℕ} → Put ys place i → length list ≤ i
      → draft place ys ≡ draft at out then field_bytes w bits list
  put_all {ys} {place} {i} p h =
      let whole : take i list ≡ list = take_all i list h in
      let few = p.few in
      let done : i ≡ length list = omega arith in
      let end : place ≡ at + length (field_bytes w bits list) =
      p.next ∙ ap (λ (k : ℕ). at + k) (ap (λ (k : ℕ). w * k) done ∙ sym (length_field_bytes w bits list)) in
      let inside = p.inside in
      (λ j. draft (end j) ((p.so_far ∙ ap (λ (l : List A). placed out at (field_bytes w bits l)) whole) j))
      ∙ sym (then_room (draft at out) (field_bytes w bits list) (omega (arith, length_field_bytes w bits list)))

-- ---- bytes that are copied as they are

pub bytes_none : (list out : List ℕ) (at : ℕ) {t : Bool} → t ≡ leb (at + 1 * length list) (length out)
    → not t ≡ true → draft nowhere out ≡ draft at out then list
bytes_none list out at e h =
    let far : length out < at + 1 * length list = leb-false _ _ (sym e ∙ not-true _ h) in
    sym (then_cut (draft at out) list (omega arith))

pub bytes_put : (list out copied : List ℕ) (at : ℕ) {t : Bool} → t ≡ leb (at + 1 * length list) (length out)
    → not t ≡ false → copied ≡ list
    → draft (at + length list) (put_mid at (at + length list - at) out copied) ≡ draft at out then list
unfolding placed
bytes_put list out copied at e h same =
    let inside = room_inside _ _ e h in
    rw (same, Post-is at (at + length list) out (omega arith), ← append_assoc)
    (sym (then_room (draft at out) list (omega arith)))

-- ---- one field

module _ (n count : ℕ) (out : List ℕ) (at : ℕ) where
  pub field_long : 8 < count → draft nowhere out ≡ then_field (draft at out) count n
  field_long h = sym (rw (lt-leb count 8 h))

  pub field_none : count ≤ 8 → {t : Bool} → t ≡ leb (at + 1 * count) (length out) → not t ≡ true
      → draft nowhere out ≡ then_field (draft at out) count n
  field_none h e g =
      let far : length out < at + 1 * count = leb-false _ _ (sym e ∙ not-true _ g) in
      sym (rw (le-leb count 8 h) (then_cut (draft at out) (bytes_of count n) (omega (arith, length_bytes count n))))

  pub field_all : {last : List ℕ} → count ≤ 8 → {t : Bool} → t ≡ leb (at + 1 * count) (length out) → not t ≡ false
      → last ≡ with_field out at count n → draft (at + count) last ≡ then_field (draft at out) count n
  field_all {last} h r g e =
      let inside : at + 1 * count ≤ length out = room_inside _ _ r g in
      let put = field_put out last at count n h (omega arith) e in
      let long = length_bytes count n in
      (λ j. draft (at + sym long j) (put j))
      ∙ sym (rw (le-leb count 8 h) (then_room (draft at out) (bytes_of count n) (omega arith)))
