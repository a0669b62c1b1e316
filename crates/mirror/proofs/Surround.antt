-- The gains of 5.1 at the opposite azimuth are those of the speakers across, bit for bit, and those of 7.1 as far as
-- the limit (`surround_exchanged`): the raw gains are, and their squares add up to the same, since of each pair one is
-- 0.0, or the sum before it is (`parts_exchanged`). Assumes nothing.
use Rattle.std.specs.Prelude.{◌≡◌, ◌∷◌, ◌<◌}
use Rattle.lists.specs.Prelude.{refl, sym, ap, ◌∙◌, inl, ⊎_map, Bool, true, false, not, cond, true≢false, List, [], ℕ}
use Rattle.lists.specs.Prelude.{suc, dec_lt, arith, lt-ltb, le-ltb, ltb, lit<, pos, get_or, get_or-eq_default, Float}
use Rattle.lists.specs.Prelude.{nan, binary64, neg, add, mul, div, sum, round, size, span, climb, units, odd, of_int}
use lib.Ieee.Fits.{mul-fits}
use Rattle.refusals.specs.Refusals.{first_of, ◌when◌, answered}
use Rattle.lists.specs.Tables.{tab}
use Rattle.lists.proofs.Tables.{length_tab, get_or_table, tab_ext}
use Rattle.lists.proofs.Tests.{by_test, cond_true, cond_false}
use Rattle.lists.proofs.ForAll.{forall_replicate}
use Rattle.formats.specs.Floats.{Held, zero_float, float}
use Rattle.fractions.specs.Fraction.{magnitude, number, whole, AtMost}
use Rattle.numbers.specs.Computed.{root_of}
use Rattle.planes.specs.Sums.{total}
use Rattle.angles.specs.Limits.{refuses_angle}
use Rattle.angles.proofs.Limits.{accepted_number, accepted_size}
use Rattle.channel.specs.Layouts.{channels_of, surround}
use Rattle.channel.specs.declared.Layout.{Layout}
use Rattle.channel.specs.declared.Layout.TheVariants.{Surround51, Surround71}
use Rattle.channel.proofs.Counts.{by_surround}
use Rattle.harmonics.specs.Promise.{refuses_azimuth, silent_gains}
use Rattle.surround.specs.Computed.{channel_gain, raw_gains, square_at, sum_of, divided_by}
use Rattle.surround.specs.Promise.{SurroundGains}
use Rattle.surround.specs.Promise.{surround_gains, outcome}
use Rattle.surround.proofs.Laws.{refusal_is}
use Rattle.mirror.specs.Partners.{across_from}
use Rattle.mirror.specs.Parts.{OneZero}
use Rattle.mirror.specs.Surround.{GainsExchanged, rear_limit, SurroundExchanged}
use Rattle.mirror.proofs.Angles.{refused_negated}
use Rattle.mirror.proofs.Parts.{parts_exchanged}
use Rattle.mirror.proofs.Raw.{tabled, across_beyond, raw_across}
use Rattle.mirror.proofs.Silent.{settled_51, sides_71, rear_71}

-- ---- places of a table, the one across from each

get_or_or : {A : Type 0} (n : ℕ) (f : ℕ → A) (k : ℕ) (d : A) → get_or (tab 0 n f) k d ≡ cond (ltb k n) (f k) d
get_or_or n f k d = elim (dec_lt k n) [
  | yes l ↦ get_or_table n f k d l ∙ sym (cond_true (f k) d (lt-ltb k n l))
  | no l ↦ get_or-eq_default (tab 0 n f) d {n = k} (omega (arith, length_tab 0 n f))
      ∙ sym (cond_false (f k) d (le-ltb k n (omega arith)))
]

across_twice : (c : ℕ) → across_from (across_from c) ≡ c
across_twice = tabled 8 _ _ refl (λ c h. ap across_from (across_beyond c h) ∙ across_beyond c h)

-- below a number of channels, told from a table of the first eight
below : (n : ℕ) → tab 0 8 (λ c. ltb (across_from c) n) ≡ tab 0 8 (λ c. ltb c n) → (c : ℕ)
    → ltb (across_from c) n ≡ ltb c n
below n e = tabled 8 _ _ e (λ c h. ap (λ (k : ℕ). ltb k n) (across_beyond c h))

below_channels : (l : Layout) → surround l ≡ true → (c : ℕ) → ltb (across_from c) (channels_of l)
    ≡ ltb c (channels_of l)
below_channels =
    by_surround (λ (l : Layout). (c : ℕ) → ltb (across_from c) (channels_of l) ≡ ltb c (channels_of l)) (below 6 refl)
    (below 8 refl)

-- a table over the speakers across
table_across : {A : Type 0} (f g : ℕ → A) (d : A) → ((c : ℕ) → f (across_from c) ≡ g c) → (c : ℕ)
    → get_or (tab 0 16 f) (across_from c) d ≡ get_or (tab 0 16 g) c d
table_across f g d h c =
    get_or_or 16 f (across_from c) d ∙ (λ i. cond (below 16 refl c i) (h c i) d) ∙ sym (get_or_or 16 g c d)

limit_number : 0 < (number (float (pos 180))).over
unfolding of_int round
limit_number = lit< tt

-- ---- of one layout
module _ (l : Layout) (e : surround l ≡ true) (a : Float) where
  abbrev raw : Float → List Float
  raw b = raw_gains l b (channels_of l)

  abbrev sum_at : Float → Float
  sum_at b = sum_of (channels_of l) (raw b)

  raw_table : (c : ℕ) → get_or (raw (neg a)) (across_from c) nan ≡ get_or (raw a) c nan
  unfolding raw_gains
  raw_table = table_across (place (neg a)) (place a) nan
      (λ c. λ i. cond (below_channels l e c i) (raw_across l e a c i) zero_float)
    where
      place : Float → ℕ → Float
      place b k = cond (ltb k (channels_of l)) (channel_gain l b k) zero_float

  -- the squares are added in the order of the speakers across
  squares_across : sum_at (neg a) ≡ total zero_float (tab 0 (channels_of l) (λ c. square_at (raw a) (across_from c)))
  unfolding sum_of
  squares_across =
      ap (total zero_float)
      (tab_ext 0 (channels_of l) (square_at (raw (neg a))) (λ c. square_at (raw a) (across_from c))
      (λ c h. ap (λ (g : Float). mul binary64 g g)
      (ap (λ (k : ℕ). get_or (raw (neg a)) k nan) (sym (across_twice c)) ∙ raw_table (across_from c))))

  gains_across : sum_at (neg a) ≡ sum_at a → (c : ℕ) → get_or (surround_gains l (neg a)) (across_from c) zero_float
      ≡ get_or (surround_gains l a) c zero_float
  unfolding surround_gains divided_by
  gains_across h =
      table_across (place (neg a)) (place a) zero_float
      (λ c. λ i. div binary64 (raw_table c i) (root_of binary64 (h i)))
    where
      place : Float → ℕ → Float
      place b k = div binary64 (get_or (raw b) k nan) (root_of binary64 (sum_at b))

  -- ---- refused, or not

  answer_is : (b : Float) → (outcome l b).gains ≡ cond (refuses_azimuth b) silent_gains (surround_gains l b)
  answer_is b = go (surround l) (refuses_azimuth b) e
    where
      go : (s r : Bool) → s ≡ true → (answered {A = SurroundGains} (first_of (2 when not s ∷ 3 when r ∷ []))
          (record { refusal = 0; gains = surround_gains l b })
          (λ n. record { refusal = n; gains = silent_gains })).gains
          ≡ cond r silent_gains (surround_gains l b)
      go true true k = refl
      go true false k = refl
      go false r k = absurd (true≢false (sym k))

  quiet : (c : ℕ) → get_or silent_gains c zero_float ≡ zero_float
  quiet = forall_replicate (λ (x : Float). x ≡ zero_float) zero_float 16 refl

  answer_across : (refuses_azimuth a ≡ false → sum_at (neg a) ≡ sum_at a) → GainsExchanged l a
  answer_across h = record {
    refusal = refusal_is l (neg a) ∙ ap (λ (r : Bool). first_of (2 when not (surround l) ∷ 3 when r ∷ []))
        (refused_negated (float (pos 180)) a) ∙ sym (refusal_is l a);
    gains =
        λ c.
        ap (λ (gains : List Float). get_or gains (across_from c) zero_float)
        (answer_is (neg a) ∙ ap (λ (r : Bool). cond r silent_gains (surround_gains l (neg a)))
        (refused_negated (float (pos 180)) a))
        ∙ by_test (λ (r : Bool). get_or (cond r silent_gains (surround_gains l (neg a))) (across_from c) zero_float
        ≡ get_or (cond r silent_gains (surround_gains l a)) c zero_float) (refuses_azimuth a)
        (λ r. quiet (across_from c) ∙ sym (quiet c)) (λ r. gains_across (h r) c)
        ∙ sym (ap (λ (gains : List Float). get_or gains c zero_float) (answer_is a));
  }

-- ---- the sums of squares
module _ (xs : List Float) where
  square_held : (c : ℕ) → Held (square_at xs c)
  square_held c = mul-fits binary64 (get_or xs c nan) (get_or xs c nan)

  square_silent : (c : ℕ) → get_or xs c nan ≡ zero_float → square_at xs c ≡ zero_float
  unfolding mul round size span climb units odd
  square_silent c z = ap (λ (g : Float). mul binary64 g g) z

  pair_silent : (n : ℕ) → OneZero (get_or xs n nan) (get_or xs (suc n) nan)
      → OneZero (square_at xs n) (square_at xs (suc n))
  pair_silent n = ⊎_map (square_silent n) (square_silent (suc n))

  silent_before : get_or xs 0 nan ≡ zero_float → get_or xs 1 nan ≡ zero_float → get_or xs 2 nan ≡ zero_float
      → get_or xs 3 nan ≡ zero_float
      → total zero_float (tab 0 4 (square_at xs)) ≡ zero_float
  unfolding add sum round size span climb units odd
  silent_before x y z w =
      λ i. total zero_float (square_silent 0 x i ∷ square_silent 1 y i ∷ square_silent 2 z i ∷ square_silent 3 w i ∷ [])

module _ (a : Float) (r : refuses_azimuth a ≡ false) where
  abbrev A : 0 < (number a).over
  A = accepted_number (float (pos 180)) a r

  H : AtMost (magnitude (number a)) (whole 180)
  unfolding of_int round
  H = accepted_size (float (pos 180)) a limit_number r

  sum_51 : sum_of 6 (raw_gains Surround51 (neg a) 6) ≡ sum_of 6 (raw_gains Surround51 a 6)
  unfolding sum_of raw_gains channel_gain
  sum_51 =
      let xs = raw_gains Surround51 a 6 in
      squares_across Surround51 refl a
      ∙ parts_exchanged.six (square_at xs) (square_held xs)
      (⊎_map (pair_silent xs 4) (λ z. silent_before xs z.0 z.1 z.2 refl) (settled_51 a A H))

  sum_71 : refuses_angle rear_limit a ≡ false → sum_of 8 (raw_gains Surround71 (neg a) 8)
      ≡ sum_of 8 (raw_gains Surround71 a 8)
  unfolding sum_of raw_gains channel_gain of_int round
  sum_71 h =
      let xs = raw_gains Surround71 a 8 in
      squares_across Surround71 refl a
      ∙ parts_exchanged.eight (square_at xs) (square_held xs) (inl (pair_silent xs 4 (sides_71 a A H)))
      (inl (pair_silent xs 6 (rear_71 a A (accepted_size rear_limit a (lit< tt) h))))

pub surround_exchanged : SurroundExchanged
surround_exchanged = record {
  five_one = λ a. answer_across Surround51 refl a (sum_51 a);
  seven_one = λ a h. answer_across Surround71 refl a (λ r. sum_71 a r h);
}
