-- A frame more in a block. Assumes nothing.
use Rattle.std.specs.Prelude.{◌≡◌, ◌∷◌, ◌++◌, ◌+◌, ◌*◌, ◌<◌}
use Rattle.lists.specs.Prelude.{refl, sym, ap, ◌∙◌, List, [], ℕ, zero, suc, zero-add, add-zero, add-one, arith, length}
use Rattle.lists.specs.Prelude.{get_or, Float, nan}
use Rattle.lists.specs.Tables.{tab}
use Rattle.lists.proofs.Tables.{tab_ext, tab_snoc, tab_is}
use Rattle.planes.specs.Planes.{sample_at, frame_at, frames_of, with_frame}
use Rattle.planes.proofs.Planes.{with_frames_other, with_frames_at}
use Rattle.stamps.specs.Events.{Event, feed, restart}
use Rattle.replay.specs.Computed.{frames_fed}

-- the frames before it are as they were, and it comes behind them
pub block_more : (block : List Float) (places channels k : ℕ) (f : List Float) → length f ≡ channels → k < places
    → length block ≡ channels * places
    → frames_of (with_frame block places k f) places channels (k + 1) ≡ frames_of block places channels k ++ (f ∷ [])
block_more block places channels k f ef hk eb =
    ap (λ (n : ℕ). tab 0 n (frame_at more places channels)) (add-one k)
    ∙ tab_snoc 0 k (frame_at more places channels)
    ∙ cc (before, last)
  where
    more : List Float
    more = with_frame block places k f

    other : (n p : ℕ) → n < k → sample_at more places p n ≡ sample_at block places p n
    other n p h = with_frames_other block places k (f ∷ []) p n (omega arith) (omega arith) (λ j lt e. omega arith)

    before : tab 0 k (frame_at more places channels) ≡ tab 0 k (frame_at block places channels)
    before = tab_ext 0 k (frame_at more places channels) (frame_at block places channels)
        (λ n h. tab_ext 0 channels (λ p. sample_at more places p n) (λ p. sample_at block places p n)
        (λ p lt. other n p (omega arith)))

    own : (j : ℕ) → j < 1 → length (get_or (f ∷ []) j []) ≡ channels
    own zero h = ef
    own (suc j) h = absurd (omega (arith, h))

    last : frame_at more places channels (0 + k) ≡ f
    last =
        ap (frame_at more places channels) (zero-add k)
        ∙ ap (λ (n : ℕ). frame_at more places n k) (sym ef)
        ∙ tab_is f nan (λ p. sample_at more places p k)
        (λ p lt. ap (sample_at more places p) (sym (add-zero k))
        ∙ with_frames_at channels block places k (f ∷ []) p 0 (omega arith) (omega (arith, lt, ef))
        (omega (arith, hk)) eb own)

-- and is the last that is fed
pub fed_append : (es hs : List (Event (List Float))) → frames_fed (es ++ hs) ≡ frames_fed es ++ frames_fed hs
fed_append [] hs = refl
fed_append (feed s f ∷ es) hs = ap (λ (l : List (List Float)). f ∷ l) (fed_append es hs)
fed_append (restart ∷ es) hs = fed_append es hs
