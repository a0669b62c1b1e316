-- A desk whose position is below L goes on: its position stays below L, and so do its frames to go. Assumes nothing.
use Rattle.std.specs.Prelude.{◌+◌, ◌%◌, ◌<◌, ◌≡◌}
use Rattle.lists.specs.Prelude.{ℕ, sym, ap, subst, Bool, true, false, cond, mod-lt, arith, lt-ltb}
use Rattle.hrtf_desk.specs.declared.Desk.{Desk}
use Rattle.hrtf_desk.specs.Numbers.{to_go_next, stepped_of}

module _ (L : ℕ) (bad : Bool) (d : Desk) (h : d.position < L) where
  abbrev pub advanced : Desk
  advanced = record { position = (d.position + 1) % L; to_go = to_go_next L bad d.to_go }

  pub desk_on : stepped_of L bad d ≡ advanced
  desk_on = ap (λ (b : Bool). cond b advanced d) (lt-ltb d.position L h)

  pub position_below : (stepped_of L bad d).position < L
  position_below =
      subst (λ (e : Desk). e.position < L) (sym desk_on) (mod-lt (d.position + 1) {m = L} (omega (arith, h)))

  pub waits_below : d.to_go < L → (stepped_of L bad d).to_go < L
  waits_below w = subst (λ (e : Desk). e.to_go < L) (sym desk_on) (fewer bad)
    where
      fewer : (b : Bool) → to_go_next L b d.to_go < L
      fewer true = omega (arith, h)
      fewer false = omega (arith, w)
