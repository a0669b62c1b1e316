-- The key orders rows as the words do: the way round is at most 1800, so it never makes up for a tenth of elevation.
-- Assumes nothing.
use Rattle.std.specs.Prelude.{◌≤◌, ◌<◌}
use Rattle.lists.specs.Prelude.{inl, inr, ⊎_elim, List, ℕ, dec_lt, arith, ℤ}
use Rattle.bank_choice.specs.Nearest.{angle_apart, away, elevation_away, Nearer}
use Rattle.bank_choice.specs.Computed.{key}

apart_small : (a b : ℤ) → angle_apart a b ≤ 1800
unfolding angle_apart
apart_small a b = omega arith

module _ (zs es : List ℤ) (p q : ℤ) (a b : ℕ) where
  small : (away zs p a ≤ 1800) × (away zs p b ≤ 1800)
  small = (apart_small _ _, apart_small _ _)

  -- a row with a lesser key is nearer
  pub key_nearer : key zs es p q a < key zs es p q b → Nearer zs es p q a b
  unfolding key
  key_nearer h =
      elim (dec_lt (elevation_away es q a) (elevation_away es q b)) [
        | yes l ↦ inl l
        | no l ↦ inr (omega (arith, small), omega (arith, small))
      ]

  -- and a nearer row has a lesser key
  pub nearer_key : Nearer zs es p q a b → key zs es p q a < key zs es p q b
  unfolding key
  nearer_key = ⊎_elim (λ h. omega (arith, small)) (λ h. omega (arith, small))
