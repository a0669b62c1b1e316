-- What is read out of rings and put back: every state holds what `held_in` reads out of it, `rings_of` gives the rings
-- again, and what is read out of rings that hold a past is its last L frames. Assumes nothing.
use Rattle.std.specs.Prelude.{◌≡◌, ◌++◌, ◌+◌, ◌*◌, ◌≤◌, ◌<◌}
use Rattle.lists.specs.Prelude.{sym, ap, ◌∙◌, List, [], flatten, ℕ, zero, suc, not-suc-le-zero, le_of_suc-le-suc}
use Rattle.lists.specs.Prelude.{zero-add, add-zero, zero-mul, suc-mul, arith, length, get_or, take, drop, length-append}
use Rattle.lists.specs.Prelude.{take-add, take_all, take_at, drop_at, drop-drop, Float, nan}
use Rattle.formats.specs.Floats.{zero_float}
use Rattle.lists.specs.Tables.{tab, chunk}
use Rattle.lists.proofs.Tables.{length_tab, get_or_tab, tab_ext, tab_is, length_chunk}
use Rattle.hrtf_desk.specs.declared.Desk.{Desk}
use Rattle.hrtf_history.specs.Setup.{Setup}
use Rattle.hrtf_history.specs.History.{signal_ago, window}
use Rattle.hrtf_rings.specs.Unrolled.{unrolled}
use Rattle.hrtf_rings.specs.State.{State}
use Rattle.hrtf_rings.specs.Held.{held_in, rings_of}
use Rattle.hrtf_rings.proofs.Ring.{length_unrolled, unrolled_twice}

-- rows put one behind the other
rows_from : {A : Type 0} (n : ℕ) (xs : List A) (i m : ℕ) → flatten (tab i m (λ k. chunk n k xs))
    ≡ take (m * n) (drop (i * n) xs)
unfolding flatten
rows_from n xs i zero = ap (λ (k : ℕ). take k (drop (i * n) xs)) (sym (zero-mul n))
rows_from n xs i (suc m) =
    let more : suc m * n ≡ n + m * n = omega (arith, suc-mul m n) in
    cc (
      rows_from n xs (suc i) m,
      suc-mul i n,
      drop-drop n (i * n) xs,
      more,
      take-add n (m * n) (drop (i * n) xs),
    )

rows_joined : {A : Type 0} (n m : ℕ) (xs : List A) → length xs ≡ m * n → flatten (tab 0 m (λ k. chunk n k xs)) ≡ xs
rows_joined n m xs e = cc (rows_from n xs 0 m, zero-mul n, take_all (m * n) xs (omega (arith, e)))

-- and taken apart again
module _ {A : Type 0} (n : ℕ) (F : ℕ → List A) (each : (k : ℕ) → length (F k) ≡ n) where
  length_rows : (i m : ℕ) → length (flatten (tab i m F)) ≡ m * n
  unfolding flatten
  length_rows i zero = sym (zero-mul n)
  length_rows i (suc m) =
      length-append (F i) (flatten (tab (suc i) m F)) ∙ omega (arith, each i, length_rows (suc i) m, suc-mul m n)

  row_of_rows : (i m s : ℕ) → s < m → chunk n s (flatten (tab i m F)) ≡ F (i + s)
  unfolding flatten
  row_of_rows i zero s h = absurd (not-suc-le-zero h)
  row_of_rows i (suc m) zero h =
      cc (zero-mul n, take_at (F i) (flatten (tab (suc i) m F)) n (each i), add-zero i)
  row_of_rows i (suc m) (suc s) h =
      let rest = flatten (tab (suc i) m F) in
      let more : suc s * n ≡ n + s * n = omega (arith, suc-mul s n) in
      cc (more, drop-drop (s * n) n (F i ++ rest), drop_at (F i) rest n (each i))
      ∙ row_of_rows (suc i) m s (le_of_suc-le-suc h) ∙ ap F (omega arith)

-- a table of signals, read as a past
ago_table : (n speakers : ℕ) (G : ℕ → ℕ → Float) (k s : ℕ) → k < n → s < speakers
    → signal_ago s (tab 0 n (λ j. tab 0 speakers (λ o. G j o))) k ≡ G k s
ago_table n speakers G k s hk hs =
    ap (λ (l : List Float). get_or l s zero_float) (get_or_tab 0 n (λ j. tab 0 speakers (λ o. G j o)) k [] hk)
    ∙ get_or_tab 0 speakers (λ o. G (0 + k) o) s zero_float hs
    ∙ ap (λ (j : ℕ). G j (0 + s)) (zero-add k) ∙ ap (λ (o : ℕ). G k o) (zero-add s)

-- the last L frames of a past, one signal for each speaker
abbrev pub last_of : Setup → List (List Float) → List (List Float)
last_of u past = tab 0 u.L (λ k. tab 0 u.speakers (λ s. signal_ago s past k))

-- each ring, read from its newest signal, has the last L of a past
pub record Holds (u : Setup) (past : List (List Float)) (t : State) : Type 0 where
  pub room : length t.rings ≡ u.speakers * u.L
  pub within : t.desk.position < u.L
  pub told : (s : ℕ) → s < u.speakers → unrolled t.desk.position (chunk u.L s t.rings) ≡ window u s past

module _ (u : Setup) (t : State) where
  abbrev ring : ℕ → List Float
  ring s = chunk u.L s t.rings

  window_held : length t.rings ≡ u.speakers * u.L → (s : ℕ) → s < u.speakers
      → window u s (held_in u t) ≡ unrolled t.desk.position (ring s)
  window_held room s lt =
      ap (λ (n : ℕ). tab 0 n (signal_ago s (held_in u t))) (sym long)
      ∙ tab_is (unrolled t.desk.position (ring s)) nan (signal_ago s (held_in u t))
      (λ k h. ago_table u.L u.speakers (λ j o. get_or (unrolled t.desk.position (ring o)) j nan) k s
      (omega (arith, h, long)) lt)
    where
      long : length (unrolled t.desk.position (ring s)) ≡ u.L
      long = length_unrolled t.desk.position (ring s) ∙ length_chunk u.L s u.speakers t.rings lt room

  -- every state holds what is read out of it
  pub holds_held : length t.rings ≡ u.speakers * u.L → t.desk.position < u.L → Holds u (held_in u t) t
  holds_held room within = record { room = room; within = within; told = λ s lt. sym (window_held room s lt) }

  module _ (past : List (List Float)) where
    -- what is read out of rings that hold a past is its last L frames
    held_last : Holds u past t → held_in u t ≡ last_of u past
    held_last r =
        tab_ext 0 u.L (λ k. tab 0 u.speakers (λ s. get_or (unrolled t.desk.position (ring s)) k nan))
        (λ k. tab 0 u.speakers (λ s. signal_ago s past k))
        (λ k hk. tab_ext 0 u.speakers (λ s. get_or (unrolled t.desk.position (ring s)) k nan)
        (λ s. signal_ago s past k)
        (λ s hs. ap (λ (w : List Float). get_or w k nan) (r.told s (omega arith))
        ∙ get_or_tab 0 u.L (signal_ago s past) k nan (omega arith) ∙ ap (signal_ago s past) (zero-add k)))

    -- the rings are those that hold it
    pub rings_are : Holds u past t → t.rings ≡ rings_of u t.desk.position past
    rings_are r =
        sym
        (ap flatten (tab_ext 0 u.speakers (λ s. unrolled t.desk.position (window u s past)) ring
        (λ s h. ap (unrolled t.desk.position) (sym (r.told s (omega arith)))
        ∙ unrolled_twice t.desk.position (ring s) (inside s (omega arith))))
        ∙ rows_joined u.L u.speakers t.rings r.room)
      where
        inside : (s : ℕ) → s < u.speakers → t.desk.position ≤ length (ring s)
        inside s lt = omega (arith, r.within, length_chunk u.L s u.speakers t.rings lt r.room)

-- ---- `rings_of` and `held_in` undo each other

pub put_held : (u : Setup) (t : State) → length t.rings ≡ u.speakers * u.L → t.desk.position < u.L
    → rings_of u t.desk.position (held_in u t) ≡ t.rings
put_held u t room within = sym (rings_are u t (held_in u t) (holds_held u t room within))

pub holds_put : (u : Setup) (d : Desk) (past : List (List Float)) → d.position < u.L
    → Holds u past (record { rings = rings_of u d.position past; desk = d })
holds_put u d past h =
    record {
      room = length_rows u.L turned long 0 u.speakers;
      within = h;
      told = λ s lt. ap (unrolled d.position)
          (row_of_rows u.L turned long 0 u.speakers s lt ∙ ap turned (zero-add s))
          ∙ unrolled_twice d.position (window u s past) (inside s);
    }
  where
    turned : ℕ → List Float
    turned s = unrolled d.position (window u s past)

    long : (s : ℕ) → length (turned s) ≡ u.L
    long s = length_unrolled d.position (window u s past) ∙ length_tab 0 u.L (signal_ago s past)

    inside : (s : ℕ) → d.position ≤ length (window u s past)
    inside s = omega (arith, h, length_tab 0 u.L (signal_ago s past))

pub held_put : (u : Setup) (d : Desk) (past : List (List Float)) → d.position < u.L
    → held_in u (record { rings = rings_of u d.position past; desk = d }) ≡ last_of u past
held_put u d past h =
    held_last u (record { rings = rings_of u d.position past; desk = d }) past (holds_put u d past h)
