-- What the program computes, operation by operation, in f64. Nobody has to believe it: specs/Promise.antt ties the
-- sixteen to document 01's formulas. Definitions only.
use Rattle.std.specs.Prelude.{◌∷◌}
use Rattle.lists.specs.Prelude.{ℕ, List, [], pos, Float, binary64, sub, mul}
use Rattle.formats.specs.Floats.{zero_float, one_float, half_float, float, decimal}
use Rattle.series.specs.Sums.{sine, cosine}
use Rattle.angles.specs.Promise.{outcome}
use Rattle.channel.specs.Orders.{by_order}
use Rattle.harmonics.specs.Formulas.{sixteen}
use Rattle.harmonics.specs.declared.Direction.{Direction}
use Rattle.harmonics.specs.declared.Waves.{Waves}

unfoldable pub sin : Float → Float
sin angle = (outcome sine angle).value

unfoldable pub cos : Float → Float
cos angle = (outcome cosine angle).value

infixl 75 ◌·◌
abbrev pub ◌·◌ : Float → Float → Float
x · y = mul binary64 x y

infixl 70 ◌−◌
abbrev pub ◌−◌ : Float → Float → Float
x − y = sub binary64 x y

unfoldable pub waves_of : Direction → Waves
waves_of d = record {
  cos_el = cos d.elevation;
  sin_el = sin d.elevation;
  sin_2el = sin (float (pos 2) · d.elevation);
  cos_az = cos d.azimuth;
  sin_az = sin d.azimuth;
  cos_2az = cos (float (pos 2) · d.azimuth);
  sin_2az = sin (float (pos 2) · d.azimuth);
  cos_3az = cos (float (pos 3) · d.azimuth);
  sin_3az = sin (float (pos 3) · d.azimuth);
}

abbrev pub degree0 : Waves → List Float
degree0 w = one_float ∷ []

abbrev pub degree1 : Waves → List Float
degree1 w = w.cos_el · w.sin_az ∷ w.sin_el ∷ w.cos_el · w.cos_az ∷ []

abbrev pub degree2 : Waves → List Float
degree2 w =
    decimal 8660254037844386 · (w.cos_el · w.cos_el) · w.sin_2az
    ∷ decimal 8660254037844386 · w.sin_2el · w.sin_az
    ∷ half_float · (float (pos 3) · w.sin_el · w.sin_el − one_float)
    ∷ decimal 8660254037844386 · w.sin_2el · w.cos_az
    ∷ decimal 8660254037844386 · (w.cos_el · w.cos_el) · w.cos_2az
    ∷ []

abbrev pub degree3 : Waves → List Float
degree3 w =
    decimal 7905694150420949 · (w.cos_el · w.cos_el · w.cos_el) · w.sin_3az
    ∷ decimal 19364916731037085 · (w.cos_el · w.cos_el) · w.sin_el · w.sin_2az
    ∷ decimal 6123724356957945 · w.cos_el · (float (pos 5) · (w.sin_el · w.sin_el) − one_float) · w.sin_az
    ∷ half_float · w.sin_el · (float (pos 5) · (w.sin_el · w.sin_el) − float (pos 3))
    ∷ decimal 6123724356957945 · w.cos_el · (float (pos 5) · (w.sin_el · w.sin_el) − one_float) · w.cos_az
    ∷ decimal 19364916731037085 · (w.cos_el · w.cos_el) · w.sin_el · w.cos_2az
    ∷ decimal 7905694150420949 · (w.cos_el · w.cos_el · w.cos_el) · w.cos_3az
    ∷ []

-- up to an order; beyond it 0.0
unfoldable pub up_to : ℕ → Waves → List Float
up_to order w = sixteen zero_float order (degree0 w) (degree1 w) (degree2 w) (degree3 w)

-- as the program chooses it
abbrev pub harmonics_computed : ℕ → Waves → List Float
harmonics_computed order w = by_order order (up_to 1 w) (up_to 2 w) (up_to 3 w)
