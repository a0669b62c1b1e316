-- The raw gain of a speaker at an azimuth is that of the speaker across at the opposite azimuth, to the bit, at every
-- float (`raw_opposite`, `raw_across`): the tests change places, the way to the speaker has the same size, and the
-- cosine sees no sign of a zero. Assumes nothing.
use Rattle.std.specs.Prelude.{◌≡◌, ◌∷◌, ◌+◌, ◌*◌, ◌≤◌}
use Rattle.lists.specs.Prelude.{refl, sym, ap, ◌∙◌, subst, Bool, true, false, not, cond, true≢false, List, [], ℕ, zero}
use Rattle.lists.specs.Prelude.{suc, zero-lt-suc, mul-pos, le_trans, arith, lt-ltb, le-ltb, dec_lt, ℤ, pos, negsuc}
use Rattle.lists.specs.Prelude.{neg_ℤ, T, eqb, lit≤, lit<, length, get_or-eq_default, Float, nan, inf, fin, binary64}
use Rattle.lists.specs.Prelude.{up, down, neg, add, sub, div, lt, le, eq, fits, of_int, round, size, span, climb, odd}
use lib.Ieee.Scale.{finite}
use lib.Ieee.Fits.{up_pos, down_pos, neg-fits, sub-fits, cond-fits}
use lib.Ieee.Bits.{is_false}
use Rattle.lists.proofs.Tables.{table_at}
use Rattle.lists.proofs.Every.{every_holds}
use Rattle.lists.proofs.Tests.{cond_cases, all, each_holds, cond_true, cond_false}
use Rattle.fractions.specs.Fraction.{number}
use Rattle.fractions.proofs.Order.{at_most_trans, less_at_most}
use Rattle.fractions.proofs.Compare.{less_true, less_false, is_not_less, lt_number}
use Rattle.formats.specs.Floats.{zero_float, one_float, float}
use Rattle.formats.proofs.Signs.{round_negated}
use Rattle.formats.proofs.Grid.{zero_written}
use Rattle.series.specs.Sums.{cosine}
use Rattle.series.specs.Angles.{turned}
use Rattle.angles.specs.Limits.{is_inside, refuses_angle}
use Rattle.angles.specs.Computed.{wave_computed, place, cut_angle, cosine_at, short, radian_units, times, nesting, nest}
use Rattle.angles.specs.Computed.{rounded_units}
use Rattle.angles.specs.Computed as Computed
use Rattle.angles.specs.Promise as Angles
use Rattle.lists.specs.Tables.{tab}
use Rattle.channel.specs.Layouts.{surround, low_frequency, speakers, degrees_of, azimuth_of}
use Rattle.channel.specs.declared.Layout.{Layout}
use Rattle.channel.specs.declared.Layout.TheVariants.{Surround51, Surround71}
use Rattle.channel.proofs.Counts.{by_surround}
use Rattle.surround.specs.Computed.{absolute, not_below, turned_towards, is_near, way_of, raw_of, channel_gain}
use Rattle.formats.specs.Zeros.{unsigned_zero, Opposite}
use Rattle.mirror.specs.Partners.{surround_partners, across_from}
use Rattle.mirror.specs.Surround.{RawGainsExchanged}
use Rattle.formats.proofs.Zeros.{zero_signs}
use Rattle.formats.proofs.Opposite.{neg_opposite, lt_opposite, sub_opposite, on_opposite, back_opposite}

-- ---- the size of a way

-- without any sign
size_of : Float → Float
size_of nan = nan
size_of (inf s) = inf false
size_of (fin s m e) = fin false m e

size_unsigned : (x : Float) → size_of (unsigned_zero x) ≡ size_of x
unfolding size_of
size_unsigned nan = refl
size_unsigned (inf s) = refl
size_unsigned (fin s zero e) = refl
size_unsigned (fin s (suc m) e) = refl

size_negated : (x : Float) → size_of (neg x) ≡ size_of x
unfolding neg size_of
size_negated nan = refl
size_negated (inf s) = refl
size_negated (fin s m e) = refl

absolute_size : (x : Float) → unsigned_zero (absolute x) ≡ size_of x
unfolding absolute lt neg size_of
absolute_size nan = refl
absolute_size (inf true) = refl
absolute_size (inf false) = refl
absolute_size (fin s zero e) = cond_cases (λ y. unsigned_zero y ≡ fin false zero e) (lt (fin s zero e) zero_float) refl
    refl
absolute_size (fin true (suc m) e) =
    ap unsigned_zero (cond_true (fin false (suc m) e) (fin true (suc m) e)
    (lt-ltb 0 (suc m * up e * 1 + 0 * 1 * down e) (omega (arith, mul-pos (zero-lt-suc m) (up_pos e)))))
absolute_size (fin false (suc m) e) = ap unsigned_zero
    (cond_false (fin true (suc m) e) (fin false (suc m) e) (le-ltb (suc m * up e * 1) (0 * 1 * down e) (omega arith)))

absolute_opposite : (x y : Float) → Opposite x y → unsigned_zero (absolute x) ≡ unsigned_zero (absolute y)
absolute_opposite x y h = absolute_size x ∙ sym (size_unsigned x) ∙ ap size_of h ∙ size_unsigned (neg y)
    ∙ size_negated y
    ∙ sym (absolute_size y)

-- ---- its cosine

-- the value that the program gives for a way
abbrev cosine_of : Float → Float
cosine_of x = (Angles.outcome cosine x).value

zero_cosine : (s : Bool) → cosine_of (fin s 0 (pos 0)) ≡ one_float
unfolding refuses_angle is_inside lt le eq neg wave_computed place cut_angle Computed.units turned cosine_at short
    radian_units times
    nesting nest rounded_units div of_int round size span climb odd
zero_cosine true = refl
zero_cosine false = refl

cosine_unsigned : (x : Float) → T (fits binary64 x) → cosine_of x ≡ cosine_of (unsigned_zero x)
cosine_unsigned nan h = refl
cosine_unsigned (inf s) h = refl
cosine_unsigned (fin s zero e) h = ap cosine_of (zero_written binary64 s e h) ∙ zero_cosine s
    ∙ sym (ap cosine_of (zero_written binary64 false e (unfold fits in h)) ∙ zero_cosine false)
cosine_unsigned (fin s (suc m) e) h = refl

way_held : (a t : Float) → T (fits binary64 (way_of a t))
unfolding way_of absolute
way_held a t =
    let x = sub binary64 a t in
    let h = sub-fits binary64 a t in
    cond-fits binary64 (lt x zero_float) (neg x) x (neg-fits binary64 x h) h

way_opposite : (a t t' : Float) → Opposite t' t → unsigned_zero (way_of (neg a) t') ≡ unsigned_zero (way_of a t)
unfolding way_of
way_opposite a t t' h = absolute_opposite (sub binary64 (neg a) t') (sub binary64 a t)
    (sub_opposite binary64 a (neg a) t t' (neg_opposite a) h)

way_cosine : (a t t' : Float) → Opposite t' t → cosine_of (way_of (neg a) t') ≡ cosine_of (way_of a t)
way_cosine a t t' h = cosine_unsigned (way_of (neg a) t') (way_held (neg a) t') ∙ ap cosine_of (way_opposite a t t' h)
    ∙ sym (cosine_unsigned (way_of a t) (way_held a t))

-- ---- the tests

either_way : (p q : Bool) → cond p q false ≡ cond q p false
either_way true true = refl
either_way true false = refl
either_way false true = refl
either_way false false = refl

near_opposite : (a t t' : Float) → Opposite t' t → is_near (neg a) t' ≡ is_near a t
unfolding is_near
near_opposite a t t' h =
    let c = float (pos 90) in
    (λ i. cond (lt_opposite (add binary64 t c) (sub binary64 t' c) a (neg a) (back_opposite binary64 t t' c h)
    (neg_opposite a) i)
    (lt_opposite a (neg a) (sub binary64 t c) (add binary64 t' c) (neg_opposite a) (on_opposite binary64 t t' c h) i)
    false)
    ∙ either_way (lt a (add binary64 t c)) (lt (sub binary64 t c) a)

-- what is above x is not below y, where x is not below y
not_both : (x y a : Float) → T (finite x) → T (finite y) → lt x y ≡ false → lt x a ≡ true → lt a y ≡ false
unfolding lt
not_both nan y a X Y n h = absurd X
not_both (inf s) y a X Y n h = absurd X
not_both (fin s m e) nan a X Y n h = absurd Y
not_both (fin s m e) (inf t) a X Y n h = absurd Y
not_both (fin s m e) (fin t k d) nan X Y n h = refl
not_both (fin s m e) (fin t k d) (inf true) X Y n h = absurd (true≢false (sym h))
not_both (fin s m e) (fin t k d) (inf false) X Y n h = refl
not_both (fin s m e) (fin t k d) (fin r j g) X Y n h =
    let x = fin s m e in
    let y = fin t k d in
    let a = fin r j g in
    lt_number a y (down_pos g) (down_pos d)
    ∙ is_not_less (number a) (number y)
    (at_most_trans (number y) (number x) (number a) (down_pos e)
    (less_false (number x) (number y) (sym (lt_number x y (down_pos e) (down_pos d)) ∙ n))
    (less_at_most (number x) (number a)
    (less_true (number x) (number a) (sym (lt_number x a (down_pos e) (down_pos g)) ∙ h))))

-- ---- a speaker, and its place half a turn on and half a turn back

abbrev on_half : Float → Float
on_half s = add binary64 s (float (pos 180))

abbrev back_half : Float → Float
back_half s = sub binary64 s (float (pos 180))

module _ (s s' : Float) (h : Opposite s' s) (X : T (finite (on_half s))) (Y : T (finite (back_half s)))
    (n : lt (on_half s) (back_half s) ≡ false) where
  place_opposite : (a : Float) → Opposite (turned_towards (neg a) s') (turned_towards a s)
  unfolding turned_towards
  place_opposite a =
      let c = float (pos 180) in
      let on : lt (on_half s') (neg a) ≡ lt a (back_half s) = lt_opposite (back_half s) (on_half s') a (neg a)
      (on_opposite binary64 s s' c h) (neg_opposite a) in
      let back : lt (neg a) (back_half s') ≡ lt (on_half s) a = lt_opposite a (neg a) (on_half s) (back_half s')
      (neg_opposite a) (back_opposite binary64 s s' c h) in
      subst (λ (p : Bool). Opposite (cond p on' (cond (lt (neg a) (back_half s')) back' s')) (turned_towards a s))
      (sym on)
      (subst (λ (p : Bool). Opposite (cond (lt a (back_half s)) on' (cond p back' s')) (turned_towards a s)) (sym back)
      (go (lt (on_half s) a) (lt a (back_half s)) (not_both (on_half s) (back_half s) a X Y n)))
    where
      on' : Float
      on' = add binary64 s' (float (pos 360))

      back' : Float
      back' = sub binary64 s' (float (pos 360))

      go : (p q : Bool) → (p ≡ true → q ≡ false) → Opposite (cond q on' (cond p back' s'))
          (cond p (add binary64 s (float (pos 360))) (cond q (sub binary64 s (float (pos 360))) s))
      go true true k = absurd (true≢false (k refl))
      go true false k = back_opposite binary64 s s' (float (pos 360)) h
      go false true k = on_opposite binary64 s s' (float (pos 360)) h
      go false false k = h

  raw_opposite : (a : Float) → raw_of (neg a) s' ≡ raw_of a s
  unfolding raw_of
  raw_opposite a =
      let t = turned_towards a s in
      let t' = turned_towards (neg a) s' in
      let o = place_opposite a in
      λ i. cond (near_opposite a t t' o i) (not_below (way_cosine a t t' o i)) zero_float

-- ---- the speakers of both layouts

-- what a table shows of each place below n
pub tabled : {A : Type 0} (n : ℕ) (f g : ℕ → A) → tab 0 n f ≡ tab 0 n g → ((c : ℕ) → n ≤ c → f c ≡ g c) → (c : ℕ)
    → f c ≡ g c
tabled n f g e h c = elim (dec_lt c n) [
  | yes l ↦ table_at n f g e c l
  | no l ↦ h c (omega arith)
]

pub across_beyond : (c : ℕ) → 8 ≤ c → across_from c ≡ c
across_beyond c h = get_or-eq_default surround_partners c {n = c} h

low_across : (l : Layout) (c : ℕ) → low_frequency l (across_from c) ≡ low_frequency l c
low_across l c = ap (λ (b : Bool). cond (surround l) b false)
    (tabled 8 (λ c. eqb (across_from c) 3) (λ c. eqb c 3) refl (λ c h. ap (λ (k : ℕ). eqb k 3) (across_beyond c h)) c)

degrees_across : (l : Layout) → surround l ≡ true → (c : ℕ) → degrees_of l (across_from c) ≡ neg_ℤ (degrees_of l c)
degrees_across =
    by_surround (λ (l : Layout). (c : ℕ) → degrees_of l (across_from c) ≡ neg_ℤ (degrees_of l c))
    (tabled 8 _ _ refl (beyond Surround51 (lit≤ tt)))
    (tabled 8 _ _ refl (beyond Surround71 (lit≤ tt)))
  where
    beyond : (l : Layout) → length (speakers l) ≤ 8 → (c : ℕ) → 8 ≤ c
        → degrees_of l (across_from c) ≡ neg_ℤ (degrees_of l c)
    beyond l k c h =
        let z : degrees_of l c ≡ pos 0 = get_or-eq_default (speakers l) (pos 0) {n = c} (le_trans k h) in
        ap (degrees_of l) (across_beyond c h) ∙ z ∙ sym (ap neg_ℤ z)

float_opposite : (z : ℤ) → Opposite (float (neg_ℤ z)) (float z)
unfolding of_int
float_opposite (pos zero) =
    zero_signs binary64 false true 0 1 refl (lit< tt) ∙ ap unsigned_zero (sym (round_negated binary64 false 0 1))
float_opposite (pos (suc n)) = ap unsigned_zero (sym (round_negated binary64 false (suc n) 1))
float_opposite (negsuc n) = ap unsigned_zero (sym (round_negated binary64 true (suc n) 1))

-- the places half a turn on and back are numbers, and the one on is not below the one back
abbrev halves : ℤ → List Bool
halves z = finite (on_half (float z)) ∷ finite (back_half (float z))
    ∷ not (lt (on_half (float z)) (back_half (float z)))
    ∷ []

halves_hold : (l : Layout) → surround l ≡ true → (c : ℕ) → T (all (halves (degrees_of l c)))
unfolding lt add sub neg of_int round
halves_hold =
    by_surround (λ (l : Layout). (c : ℕ) → T (all (halves (degrees_of l c))))
    (every_holds (λ z. all (halves z)) (speakers Surround51) (pos 0) tt tt)
    (every_holds (λ z. all (halves z)) (speakers Surround71) (pos 0) tt tt)

raw_across_at : (l : Layout) → surround l ≡ true → (a : Float) (c : ℕ)
    → channel_gain l (neg a) (across_from c) ≡ channel_gain l a c
unfolding channel_gain
raw_across_at l e a c =
    let z = degrees_of l c in
    let (on, (back, (order, end))) = each_holds (halves z) (halves_hold l e c) in
    let o : Opposite (azimuth_of l (across_from c)) (float z) = ap (λ (y : ℤ). unsigned_zero (float y))
    (degrees_across l e c) ∙ float_opposite z in
    λ i. cond (low_across l c i) zero_float
    (raw_opposite (float z) (azimuth_of l (across_from c)) o on back
    (is_false (lt (on_half (float z)) (back_half (float z))) order) a i)

-- by rewriting, so that another statement is refused at once, and not after minutes of opening both sides
pub raw_across : RawGainsExchanged
raw_across l e a c = rw (raw_across_at l e a c) refl
