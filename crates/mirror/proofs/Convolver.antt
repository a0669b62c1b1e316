-- The other ear adds the parts of the speakers across, in the order of the speakers (`across_parts`). So it hears what
-- the one heard wherever these parts may be exchanged (`heard_by_other_ear`). Assumes nothing.
use Rattle.std.specs.Prelude.{◌≡◌, ◌∷◌, ◌≤◌, ◌<◌}
use Rattle.lists.specs.Prelude.{refl, sym, ap, ◌∙◌, subst, List, ℕ, zero, suc, arith, Float, binary64, mul}
use Rattle.lists.specs.Tables.{tab}
use Rattle.lists.proofs.Tables.{tab_from, tab_ext}
use Rattle.formats.specs.Floats.{Held, zero_float}
use Rattle.numbers.specs.Computed.{narrowed}
use Rattle.planes.specs.Sums.{total, products, dot}
use Rattle.numbers.specs.Normalization.{inverse_root_of}
use Rattle.hrtf_history.specs.Setup.{Setup, taps_of}
use Rattle.hrtf_history.specs.History.{signal_ago, window, part, ear_of, ear_sample}
use Rattle.hrtf_history.proofs.Windows.{ear_of_ext}
use Rattle.mirror.specs.Partners.{across_from, other_ear}
use Rattle.mirror.specs.Parts.{Settled}
use Rattle.mirror.specs.Convolver.{first_two_of, Across, HeardWhere, Any, HeardByOtherEar}
use Rattle.planes.proofs.Zeros.{zero_held, total_held}
use Rattle.mirror.proofs.Parts.{total_exchanged, parts_exchanged}

-- each part is an f64
parts_held : (u : Setup) (ear : ℕ) (past : List (List Float)) (s : ℕ) → Held (part u ear past s)
parts_held u ear past s = total_held zero_float (products (window u s past) (taps_of u ear s)) zero_held

-- an ear sample is made of the sum alone
ear_of_total : (n : ℕ) (p q : ℕ → Float) → total zero_float (tab 0 n p) ≡ total zero_float (tab 0 n q)
    → ear_of n p ≡ ear_of n q
unfolding ear_of
ear_of_total n p q = ap (λ (a : Float). narrowed (mul binary64 a (inverse_root_of n)))

-- the other ear adds the parts of the speakers across, in the order of the speakers
across_parts : (across : ℕ → ℕ) (u v : Setup) (past exchanged : List (List Float)) → Across across u v past exchanged
    → (ear : ℕ) → ear < 2
    → ear_sample v (other_ear ear) exchanged ≡ ear_of u.speakers (λ s. part u ear past (across s))
across_parts across u v past exchanged h ear e =
    ap (λ (n : ℕ). ear_of n (part v (other_ear ear) exchanged)) h.speakers
    ∙ ear_of_ext u.speakers (part v (other_ear ear) exchanged) (λ s. part u ear past (across s))
    (λ s l.
    ap (λ (n : ℕ). dot zero_float (tab 0 n (signal_ago s exchanged)) (taps_of v (other_ear ear) s)) h.L
    ∙ (λ i. dot zero_float (tab_ext 0 u.L (signal_ago s exchanged) (signal_ago (across s) past)
    (λ k m. h.signals s k l) i) (h.taps ear s e l i)))

-- the first two exchanged, and the others where they are
two_exchanged : (n : ℕ) (p : ℕ → Float) → 2 ≤ n → ((s : ℕ) → Held (p s))
    → total zero_float (tab 0 n (λ s. p (first_two_of s))) ≡ total zero_float (tab 0 n p)
two_exchanged zero p l h = absurd (omega arith)
two_exchanged (suc zero) p l h = absurd (omega arith)
two_exchanged (suc (suc n)) p l h =
    ap (λ (rest : List Float). total zero_float (p 1 ∷ p 0 ∷ rest))
    (tab_from 2 n (λ s. p (first_two_of s)) p (λ s b e. ap p (others s b)))
    ∙ total_exchanged (p 1) (p 0) (tab 2 n p) (h 1) (h 0)
  where
    others : (s : ℕ) → 2 ≤ s → first_two_of s ≡ s
    others zero b = absurd (omega arith)
    others (suc zero) b = absurd (omega arith)
    others (suc (suc s)) b = refl

-- by the sum of so many parts, in the two orders
heard : (across : ℕ → ℕ) (n : ℕ) (P : (ℕ → Float) → Type 0)
    → ((p : ℕ → Float) → ((s : ℕ) → Held (p s)) → P p → total zero_float (tab 0 n (λ s. p (across s)))
    ≡ total zero_float (tab 0 n p)) → HeardWhere P across n
heard across n P h u v past exchanged e a ear k w =
    let p = part u ear past in
    across_parts across u v past exchanged a ear k
    ∙ ear_of_total u.speakers (λ s. p (across s)) p
    (subst (λ (m : ℕ). total zero_float (tab 0 m (λ s. p (across s))) ≡ total zero_float (tab 0 m p)) (sym e)
    (h p (parts_held u ear past) w))

pub heard_by_other_ear : HeardByOtherEar
heard_by_other_ear = record {
  one = heard (λ s. s) 1 Any (λ p h w. refl);
  two = λ n l. heard first_two_of n Any (λ p h w. two_exchanged n p l h);
  five_one = heard across_from 6 (λ parts. Settled parts 4) parts_exchanged.six;
  seven_one = heard across_from 8 (λ parts. Settled parts 4 × Settled parts 6)
      (λ p h w. parts_exchanged.eight p h w.0 w.1);
}
