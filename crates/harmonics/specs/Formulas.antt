-- Document 01, 'Gains': "Harmonics, ACN order, SN3D. With a azimuth, e elevation: 0: 1; 1: cos e sin a; 2: sin e; 3:
-- cos e cos a; 4: h cos²e sin 2a; 5: h sin 2e sin a; 6: (3 sin²e - 1)/2; 7: h sin 2e cos a; 8: h cos²e cos 2a; 9: q
-- cos³e sin 3a; 10: o cos²e sin e sin 2a; 11: m cos e (5 sin²e - 1) sin a; 12: sin e (5 sin²e - 3)/2; 13: as 11 with
-- cos a; 14: as 10 with cos 2a; 15: q cos³e cos 3a. The constants h, q, o, m are 0.8660254037844386,
-- 0.7905694150420949, 1.9364916731037085, 0.6123724356957945." Over the defined sums, angles in degrees. Definitions
-- only.
use Rattle.std.specs.Prelude.{◌^◌, ◌∷◌, ◌++◌}
use Rattle.lists.specs.Prelude.{ℕ, List, [], map, cond, leb}
use Rattle.fractions.specs.Fraction.{Fraction, fraction, whole, square, ◌⊖◌, ◌⊗◌, ◌⊘◌}
use Rattle.series.specs.Angles.{defined_sine, defined_cosine}

abbrev pub cube : Fraction → Fraction
cube x = square x ⊗ x

abbrev pub sn3d_h : Fraction
sn3d_h = fraction 8660254037844386 0 (10 ^ 16)

abbrev pub sn3d_q : Fraction
sn3d_q = fraction 7905694150420949 0 (10 ^ 16)

abbrev pub sn3d_o : Fraction
sn3d_o = fraction 19364916731037085 0 (10 ^ 16)

abbrev pub sn3d_m : Fraction
sn3d_m = fraction 6123724356957945 0 (10 ^ 16)

-- ---- over the sines and cosines: of the elevation, of twice it, of the azimuth, and of twice and three times it
pub record Sines : Type 0 where
  pub cos_e : Fraction
  pub sin_e : Fraction
  pub sin2_e : Fraction
  pub cos_a : Fraction
  pub sin_a : Fraction
  pub cos2_a : Fraction
  pub sin2_a : Fraction
  pub cos3_a : Fraction
  pub sin3_a : Fraction

abbrev pub sines_of : Fraction → Fraction → Sines
sines_of a e = record {
  cos_e = defined_cosine e;
  sin_e = defined_sine e;
  sin2_e = defined_sine (whole 2 ⊗ e);
  cos_a = defined_cosine a;
  sin_a = defined_sine a;
  cos2_a = defined_cosine (whole 2 ⊗ a);
  sin2_a = defined_sine (whole 2 ⊗ a);
  cos3_a = defined_cosine (whole 3 ⊗ a);
  sin3_a = defined_sine (whole 3 ⊗ a);
}

-- ---- by degree: channel 0, channels 1 to 3, 4 to 8, and 9 to 15
abbrev pub degree0 : Sines → List Fraction
degree0 s = whole 1 ∷ []

abbrev pub degree1 : Sines → List Fraction
degree1 s = s.cos_e ⊗ s.sin_a ∷ s.sin_e ∷ s.cos_e ⊗ s.cos_a ∷ []

abbrev pub degree2 : Sines → List Fraction
degree2 s =
    sn3d_h ⊗ square s.cos_e ⊗ s.sin2_a
    ∷ sn3d_h ⊗ s.sin2_e ⊗ s.sin_a
    ∷ (whole 3 ⊗ square s.sin_e ⊖ whole 1) ⊘ whole 2
    ∷ sn3d_h ⊗ s.sin2_e ⊗ s.cos_a
    ∷ sn3d_h ⊗ square s.cos_e ⊗ s.cos2_a
    ∷ []

abbrev pub degree3 : Sines → List Fraction
degree3 s =
    sn3d_q ⊗ cube s.cos_e ⊗ s.sin3_a
    ∷ sn3d_o ⊗ square s.cos_e ⊗ s.sin_e ⊗ s.sin2_a
    ∷ sn3d_m ⊗ s.cos_e ⊗ (whole 5 ⊗ square s.sin_e ⊖ whole 1) ⊗ s.sin_a
    ∷ s.sin_e ⊗ (whole 5 ⊗ square s.sin_e ⊖ whole 3) ⊘ whole 2
    ∷ sn3d_m ⊗ s.cos_e ⊗ (whole 5 ⊗ square s.sin_e ⊖ whole 1) ⊗ s.cos_a
    ∷ sn3d_o ⊗ square s.cos_e ⊗ s.sin_e ⊗ s.cos2_a
    ∷ sn3d_q ⊗ cube s.cos_e ⊗ s.cos3_a
    ∷ []

-- ---- up to an order; beyond it each is 0. Of fractions here, of floats in Computed.antt

-- of degree l
abbrev pub of_degree : {A : Type 0} → A → ℕ → ℕ → List A → List A
of_degree zero order l xs = cond (leb l order) xs (map (λ x. zero) xs)

abbrev pub sixteen : {A : Type 0} → A → ℕ → List A → List A → List A → List A → List A
sixteen zero order d0 d1 d2 d3 =
    of_degree zero order 0 d0 ++ of_degree zero order 1 d1 ++ of_degree zero order 2 d2 ++ of_degree zero order 3 d3

unfoldable pub formulas_over : ℕ → Sines → List Fraction
formulas_over order s = sixteen (whole 0) order (degree0 s) (degree1 s) (degree2 s) (degree3 s)

abbrev pub formulas : ℕ → Fraction → Fraction → List Fraction
formulas order a e = formulas_over order (sines_of a e)
