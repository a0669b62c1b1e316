-- A loop that fills a list with what stands in the arguments, over the reading and the width: how it begins, one turn,
-- and what it leaves. Assumes nothing.
use Rattle.std.specs.Prelude.{◌≡◌, ◌+◌, ◌*◌, ◌≤◌, ◌<◌}
use Rattle.lists.specs.Prelude.{refl, sym, ap, ◌∙◌, Bool, true, false, not, List, ℕ, le_refl, arith, leb-true, le-leb}
use Rattle.lists.specs.Prelude.{not-true, not-false, leb, length, set}
use Rattle.lists.proofs.Filling.{Filling, filling_none, filling_more, filling_whole}
use Rattle.big_endian.specs.Lists.{strided}
use Rattle.probe_request.specs.Requests.{list_at}

module _ {A : Type 0} (read : List ℕ → ℕ → A) (w : ℕ) (args : List ℕ) (at : ℕ) (list : List A) where
  abbrev field : ℕ → A
  field k = read args (at + k * w)

  -- the first i entries are read, and the next one stands at `place`
  pub record Got (ys : List A) (place i : ℕ) : Type 0 where
    pub inside : at + w * length list ≤ length args
    pub next : place ≡ at + i * w
    pub so_far : Filling field (length list) list ys i

  -- after the test of the room
  pub get_first : {v : ℕ} {t : Bool} → v ≡ w → t ≡ leb (at + v * length list) (length args) → not t ≡ false
      → Got list at 0
  get_first same e h = record {
    inside = leb-true _ _ (sym (rw same at e) ∙ not-false _ h);
    next = omega arith;
    so_far = filling_none field (length list) list;
  }

  pub get_more : {ys : List A} {place i v : ℕ} {x : A} → v ≡ w → Got ys place i → i < length list → x ≡ read args place
      → Got (set ys i x) (place + v) (i + 1)
  get_more {ys} {place} {i} {v} {x} same g h e =
      let here = g.next in
      record {
        inside = g.inside;
        next = omega arith;
        so_far = filling_more field (length list) list ys i x g.so_far
            (omega (arith, g.so_far.same)) (le_refl (length list)) (e ∙ ap (read args) here);
      }

  pub get_all : {ys : List A} {place i : ℕ} → Got ys place i → length list ≤ i → ys ≡ list_at read w args at list
  unfolding list_at strided
  get_all {ys} {place} {i} g h =
      filling_whole field (length list) list ys i g.so_far (omega (arith, g.so_far.same)) refl
      ∙ sym (rw (le-leb _ _ g.inside))

  pub get_none : {v : ℕ} {t : Bool} → v ≡ w → t ≡ leb (at + v * length list) (length args) → not t ≡ true
      → list ≡ list_at read w args at list
  unfolding list_at
  get_none {v} {t} same e h =
      let test : t ≡ leb (at + w * length list) (length args) = rw same at e in
      sym (rw (sym test ∙ not-true _ h))
