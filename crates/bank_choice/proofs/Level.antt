-- Where the rows stand at one elevation the way round decides, as document 01 has it. Assumes nothing.
use Rattle.std.specs.Prelude.{◌≡◌, ◌<◌}
use Rattle.lists.specs.Prelude.{inr, ⊎_elim, List, ℕ, dec_lt, arith, ℤ}
use Rattle.bank_choice.specs.Nearest.{away, elevation_away, Nearer, Takes, TakesByAzimuth, OneElevation}
use Rattle.bank_choice.specs.Choice.{OneElevationAsBefore}

module _ (zs es : List ℤ) (n : ℕ) (p q : ℤ) (flat : OneElevation es n) where
  as_high : (i j : ℕ) → i < n → j < n → elevation_away es q i ≡ elevation_away es q j
  unfolding elevation_away
  as_high i j h g = rw (flat i j h g)

  by_round : (i j : ℕ) → i < n → j < n → Nearer zs es p q i j → away zs p i < away zs p j
  by_round i j h g = ⊎_elim (λ l. let same = as_high i j h g in absurd (omega arith)) (λ l. l.1)

  before : (r : ℕ) → Takes zs es n p q r → TakesByAzimuth zs n p r
  before r t =
      let inside = t.among in
      record {
        among = inside;
        nearest = λ j h. elim (dec_lt (away zs p j) (away zs p r)) [
          | yes l ↦ absurd (t.nearest j h (inr (as_high j r h inside, l)))
          | no l ↦ omega arith
        ];
        earliest = λ j h. by_round r j inside (omega arith) (t.earliest j h);
      }

  after : (r : ℕ) → TakesByAzimuth zs n p r → Takes zs es n p q r
  after r t =
      let inside = t.among in
      record {
        among = inside;
        nearest = λ j h f. omega (arith, t.nearest j h, by_round j r h inside f);
        earliest = λ j h. inr (as_high r j inside (omega arith), t.earliest j h);
      }

pub one_elevation_as_before : OneElevationAsBefore
one_elevation_as_before zs es n p q flat r = (before zs es n p q flat r, after zs es n p q flat r)
