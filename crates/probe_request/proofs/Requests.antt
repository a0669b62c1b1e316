-- What a request gives: a list that lies inside the arguments is what stands there, a layout is its byte and its n, a
-- list is lent at the length that is asked for, up to the room, and lists stand one behind the other. Assumes nothing.
use Rattle.std.specs.Prelude.{◌≡◌, ◌+◌, ◌-◌, ◌*◌, ◌^◌, ◌≤◌, ◌<◌}
use Rattle.lists.specs.Prelude.{sym, ap, ◌∙◌, Bool, true, false, not, List, ⊎_elim, ℕ, min, arith, le-leb, lt-leb}
use Rattle.lists.specs.Prelude.{not-true, not-false, leb, length, take, replicate, length-take, length-replicate}
use Rattle.lists.proofs.Lists.{less_or_at_most}
use Rattle.big_endian.specs.Fields.{field_at}
use Rattle.big_endian.specs.Lists.{strided}
use Rattle.big_endian.proofs.Fields.{lies_out, field_out}
use Rattle.channel.specs.declared.Layout.{Layout}
use Rattle.probe_request.specs.Requests.{layout_of, layout_at, place_in, list_at}

-- whatever it held
pub inside : {A : Type 0} (read : List ℕ → ℕ → A) (w : ℕ) (args : List ℕ) (at : ℕ) (list last : List A)
    → last ≡ list_at read w args at list → at + w * length list ≤ length args
    → last ≡ strided (read args) w at (length list)
unfolding list_at
inside read w args at list last e h = e ∙ rw (le-leb _ _ h)

pub layout_read : (args : List ℕ) (at which n : ℕ) (l : Layout) → l ≡ layout_of which n → which ≡ field_at args at 1
    → n ≡ field_at args (at + 1) 8 → l ≡ layout_at args at
layout_read args at which n l e p q = e ∙ (λ i. layout_of (p i) (q i))

-- the part of the room that is lent
module _ {A : Type 0} (room : List A) (asked n : ℕ) (e : n ≡ min asked (length room)) where
  pub lent_places : n ≡ length (take n room)
  lent_places = omega (arith, length-take n room)

  pub lent_length : length (take n room) ≡ min asked (length room)
  lent_length = omega (arith, length-take n room)

-- a part of a new list is no longer than it
pub new_few : {A : Type 0} (x : A) (n most : ℕ) → length (take n (replicate most x)) ≤ most
new_few x n most = simp (length-take, length-replicate) (omega arith)

-- a place is itself, or lies behind the arguments
module _ (size at : ℕ) where
  pub place_there : at ≤ size → place_in size at ≡ at
  place_there h = rw (le-leb at size h)

  pub place_beyond : size < at → place_in size at ≡ 2 ^ 64 - 1
  place_beyond h = rw (lt-leb at size h)

  -- by the test of the room
  pub place_kept : {t : Bool} → t ≡ leb at size → not t ≡ false → at ≡ place_in size at
  place_kept e h = sym (rw (sym e ∙ not-false _ h))

  pub place_cut : {t : Bool} → t ≡ leb at size → not t ≡ true → 2 ^ 64 - 1 ≡ place_in size at
  place_cut e h = sym (rw (sym e ∙ not-true _ h))

module _ (args : List ℕ) (short : length args < 2 ^ 64 - 1) where
  abbrev size : ℕ
  size = length args

  -- what stands behind it
  pub place_behind : (at k : ℕ) {p q : ℕ} → p ≡ place_in size at → q ≡ place_in size (p + k) → q ≡ place_in
      size (at + k)
  place_behind at k e f =
      f
      ∙ ap (λ (n : ℕ). place_in size (n + k)) e
      ∙ ⊎_elim (λ h. rw (place_beyond size at h)
      (place_beyond size (2 ^ 64 - 1 + k) (omega arith) ∙ sym (place_beyond size (at + k) (omega arith))))
      (λ h. rw (place_there size at h))
      (less_or_at_most size at)

  -- the number there
  pub place_number : (at count : ℕ) {p n : ℕ} → count ≤ 8 → 0 < count → p ≡ place_in size at → n ≡ field_at args p count
      → n ≡ field_at args at count
  place_number at count small some e f =
      let none : (k : ℕ) → size < k → field_at args k count ≡ 0 = λ k h. field_out args k count
      (lies_out size k count small (omega arith)) in
      f
      ∙ ap (λ (k : ℕ). field_at args k count) e
      ∙ ⊎_elim (λ h. ap (λ (k : ℕ). field_at args k count) (place_beyond size at h) ∙ none (2 ^ 64 - 1) short
      ∙ sym (none at h)) (λ h. rw (place_there size at h)) (less_or_at_most size at)

  -- the list there
  pub place_list : {A : Type 0} (read : List ℕ → ℕ → A) (w at : ℕ) (list : List A) {p : ℕ} {last : List A}
      → p ≡ place_in size at → last ≡ list_at read w args p list → last ≡ list_at read w args at list
  unfolding list_at
  place_list read w at list e f =
      let none : (k : ℕ) → size < k → leb (k + w * length list) size ≡ false = λ k h. lt-leb (k + w * length list) size
      (omega arith) in
      f
      ∙ ap (λ (k : ℕ). list_at read w args k list) e
      ∙ ⊎_elim (λ h. rw (place_beyond size at h, none (2 ^ 64 - 1) short, none at h)) (λ h. rw (place_there size at h))
      (less_or_at_most size at)

  -- whether the arguments end there
  module _ (at : ℕ) {p : ℕ} (e : p ≡ place_in size at) where
    pub place_end : size ≡ p → size ≡ at
    place_end f = ⊎_elim (λ h. absurd (omega (arith, e, f, place_beyond size at h)))
        (λ h. f ∙ e ∙ place_there size at h) (less_or_at_most size at)

    pub place_no_end : (size ≡ p → ⊥) → size ≡ at → ⊥
    place_no_end other f = other (f ∙ sym (e ∙ place_there size at (omega arith)))
