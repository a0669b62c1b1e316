-- Two lists that begin alike have the same fields there. Assumes nothing.
use Rattle.std.specs.Prelude.{◌≡◌, ◌&&◌, ◌+◌, ◌≤◌}
use Rattle.lists.specs.Prelude.{refl, sym, ap, ◌∙◌, Bool, true, false, List, ℕ, dec_lt, arith, le-leb, lt-leb, leb}
use Rattle.lists.specs.Prelude.{binary32, of_bits, length, take, drop, length-take, length-take-le, take-take, take-add}
use Rattle.lists.specs.Prelude.{drop_at}
use mir.Syntax.{w16}
use mir.Val.{to_z}
use Rattle.big_endian.specs.Bytes.{value_of}
use Rattle.big_endian.specs.Fields.{lies, field_at, signed_at, float_at}
use Rattle.big_endian.proofs.Fields.{lies_true, field_out, field_is}

-- every field that ends within the first k bytes is the same in both
abbrev pub SameStart : ℕ → List ℕ → List ℕ → Type 0
SameStart k s t = (at count : ℕ) → at + count ≤ k → field_at t at count ≡ field_at s at count

-- whether a place is inside the first k bytes is whether it is inside the list
inside_start : (s : List ℕ) (k n : ℕ) → n ≤ k → leb n (length (take k s)) ≡ leb n (length s)
inside_start s k n h =
    elim (dec_lt (length s) n) [
      | yes g ↦ lt-leb n (length (take k s)) (omega (arith, length-take k s)) ∙ sym (lt-leb n (length s) g)
      | no g ↦ le-leb n (length (take k s)) (omega (arith, length-take k s)) ∙ sym (le-leb n (length s) (omega arith))
    ]

part_start : (s : List ℕ) (k at count : ℕ) → at + count ≤ k → at + count ≤ length s
    → take count (drop at (take k s)) ≡ take count (drop at s)
part_start s k at count h g =
    part (take k s) (omega (arith, length-take k s)) ∙ ap (drop at) (take-take (at + count) k s h) ∙ sym (part s g)
  where
    part : (u : List ℕ) → at + count ≤ length u → take count (drop at u) ≡ drop at (take (at + count) u)
    part u e =
        let front = length-take-le at u (omega arith) in
        sym (ap (drop at) (take-add at count u) ∙ drop_at (take at u) (take count (drop at u)) at front)

-- a field that ends within the first k bytes is read from these
field_start : (s : List ℕ) (k at count : ℕ) → at + count ≤ k → field_at (take k s) at count ≡ field_at s at count
field_start s k at count h = go (lies (length s) at count) refl
  where
    inside : lies (length (take k s)) at count ≡ lies (length s) at count
    inside = ap (λ (b : Bool). leb count 8 && b) (inside_start s k (at + count) h)

    go : (b : Bool) → lies (length s) at count ≡ b → field_at (take k s) at count ≡ field_at s at count
    go true e =
        field_is (take k s) at count (inside ∙ e)
        ∙ ap value_of (part_start s k at count h (lies_true (length s) at count e).1)
        ∙ sym (field_is s at count e)
    go false e = field_out (take k s) at count (inside ∙ e) ∙ sym (field_out s at count e)

pub start_agrees : (k : ℕ) (s t : List ℕ) → take k t ≡ take k s → SameStart k s t
start_agrees k s t e at count h =
    sym (field_start t k at count h) ∙ ap (λ (u : List ℕ). field_at u at count) e ∙ field_start s k at count h

pub agree_less : (k m : ℕ) (s t : List ℕ) → m ≤ k → SameStart k s t → SameStart m s t
agree_less k m s t h same at count g = same at count (omega arith)

module _ (k : ℕ) (s t : List ℕ) (same : SameStart k s t) where
  pub signed_agrees : (at : ℕ) → at + 2 ≤ k → signed_at t at ≡ signed_at s at
  unfolding signed_at
  signed_agrees at h = ap (to_z w16) (same at 2 h)

  pub float_agrees : (at : ℕ) → at + 4 ≤ k → float_at t at ≡ float_at s at
  unfolding float_at
  float_agrees at h = ap (of_bits binary32) (same at 4 h)
