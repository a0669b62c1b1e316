-- Where the program adds whole numbers to the azimuth of a speaker nothing is rounded: by one computed test over the
-- tables of speakers. Assumes nothing.
use Rattle.std.specs.Prelude.{◌∷◌, ◌+◌, ◌*◌, ◌<◌}
use Rattle.lists.specs.Prelude.{Bool, List, [], ℕ, T, leb, ltb, ltb→lt, leb→le, ℤ, pos, get_or, Float, binary64, add}
use Rattle.lists.specs.Prelude.{sub, round, of_int}
use Rattle.lists.specs.Tables.{every}
use Rattle.lists.proofs.Every.{every_holds}
use Rattle.lists.proofs.Tests.{all, each_holds}
use Rattle.formats.specs.Floats.{float}
use Rattle.fractions.specs.Fraction.{Fraction, whole, magnitude, number, ◌⊕◌, ◌⊖◌, Same, AtMost}
use Rattle.fractions.proofs.Order.{is_same, same_computed}
use Rattle.channel.specs.Layouts.{speakers, azimuth_of}
use Rattle.channel.specs.declared.Layout.{Layout}
use Rattle.channel.specs.declared.Layout.TheVariants.{Mono, Stereo, Surround51, Surround71, Custom}
use Rattle.surround.specs.Formula.{degrees, speaker_at}

-- the float x is the number q
pub record Exactly (x : Float) (q : Fraction) : Type 0 where
  pub first : 0 < (number x).over
  pub second : 0 < q.over
  pub same : Same (number x) q

-- the float t is q, and so are the ends of what is less than 90 degrees away from it
pub record Sides (t : Float) (q : Fraction) : Type 0 where
  pub is : Exactly t q
  pub below : Exactly (sub binary64 t (float (pos 90))) (q ⊖ whole 90)
  pub above : Exactly (add binary64 t (float (pos 90))) (q ⊕ whole 90)

-- the same a turn on and a turn back, and half a turn either way
pub record Stands (s : Float) (q : Fraction) : Type 0 where
  pub below : Exactly (sub binary64 s (float (pos 180))) (q ⊖ whole 180)
  pub above : Exactly (add binary64 s (float (pos 180))) (q ⊕ whole 180)
  pub here : Sides s q
  pub on : Sides (add binary64 s (float (pos 360))) (q ⊕ whole 360)
  pub back : Sides (sub binary64 s (float (pos 360))) (q ⊖ whole 360)
  pub size : AtMost (magnitude q) (whole 180)

-- ---- as tests
abbrev exactly : Float → Fraction → List Bool
exactly x q = ltb 0 (number x).over ∷ ltb 0 q.over ∷ is_same (number x) q ∷ []

abbrev sides : Float → Fraction → List Bool
sides t q = all (exactly t q) ∷ all (exactly (sub binary64 t (float (pos 90))) (q ⊖ whole 90))
    ∷ all (exactly (add binary64 t (float (pos 90))) (q ⊕ whole 90)) ∷ []

abbrev stands : Float → Fraction → List Bool
stands s q =
    all (exactly (sub binary64 s (float (pos 180))) (q ⊖ whole 180))
    ∷ all (exactly (add binary64 s (float (pos 180))) (q ⊕ whole 180))
    ∷ all (sides s q)
    ∷ all (sides (add binary64 s (float (pos 360))) (q ⊕ whole 360))
    ∷ all (sides (sub binary64 s (float (pos 360))) (q ⊖ whole 360))
    ∷ leb ((magnitude q).plus * 1 + 0 * q.over) (180 * q.over + 0 * 1)
    ∷ []

exactly_says : (x : Float) (q : Fraction) → T (all (exactly x q)) → Exactly x q
exactly_says x q t =
    let (first, (second, (same, end))) = each_holds (exactly x q) t in
    record {
      first =
          ltb→lt 0 (number x).over first;
      second = ltb→lt 0 q.over second;
      same = same_computed (number x) q same;
    }

sides_say : (x : Float) (q : Fraction) → T (all (sides x q)) → Sides x q
sides_say x q t = let (is, (below, (above, end))) = each_holds (sides x q) t in
    record { is = exactly_says _ _ is; below = exactly_says _ _ below; above = exactly_says _ _ above }

stands_says : (s : Float) (q : Fraction) → T (all (stands s q)) → Stands s q
stands_says s q t =
    let (below, (above, (here, (on, (back, (size, end)))))) = each_holds (stands s q) t in
    record {
      below = exactly_says _ _ below;
      above = exactly_says _ _ above;
      here = sides_say _ _ here;
      on = sides_say _ _ on;
      back = sides_say _ _ back;
      size = leb→le _ _ size;
    }

-- ---- of every speaker
abbrev stands_at : ℤ → Bool
stands_at z = all (stands (of_int binary64 z) (degrees z))

-- and 0 where the table ends
all_stand : (zs : List ℤ) → T (stands_at (pos 0)) → T (every stands_at zs) → (i : ℕ)
    → Stands (of_int binary64 (get_or zs i (pos 0))) (degrees (get_or zs i (pos 0)))
all_stand zs o t i = stands_says _ _ (every_holds stands_at zs (pos 0) o t i)

pub speaker_stands : (l : Layout) (c : ℕ) → Stands (azimuth_of l c) (speaker_at l c)
unfolding of_int add sub round
speaker_stands Mono c = all_stand (speakers Mono) tt tt c
speaker_stands Stereo c = all_stand (speakers Stereo) tt tt c
speaker_stands Surround51 c = all_stand (speakers Surround51) tt tt c
speaker_stands Surround71 c = all_stand (speakers Surround71) tt tt c
speaker_stands (Custom n) c = all_stand [] tt tt c
