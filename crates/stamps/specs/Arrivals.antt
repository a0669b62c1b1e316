-- Document 02, E5: "A frame is next, ahead or late by the wrapped difference from the expected stamp: 0 is next, 1 to
-- 2^31 - 1 is ahead, the rest is late. .. An ahead frame has silence put in for the missing ones, at most 4,096; a
-- larger gap resets the convolver and starts at that stamp. The first frame sets the stamp." Definitions only. A stamp
-- is a number below 2^32.
use Rattle.std.specs.Prelude.{◌+◌, ◌-◌, ◌%◌, ◌^◌, ◌<◌, ◌≡◌, ◌∷◌}
use Rattle.lists.specs.Prelude.{ℕ, cond, List, [], eqb, leb, ltb}
use Rattle.std.specs.Prelude.{Option, None, Some}
use Rattle.stamps.specs.declared.Arrival.{Arrival}
use Rattle.stamps.specs.declared.Arrival.TheVariants.{Next, Ahead, Jump, Late}

-- the stamp that comes next; before the first frame there is none
abbrev pub Expected : Type 0
Expected = Option ℕ

-- how far s is from e, going up and over from 2^32 - 1 to 0
abbrev pub ahead : ℕ → ℕ → ℕ
ahead e s = (s + (2 ^ 32 - e)) % 2 ^ 32

-- the stamp after s
abbrev pub following : ℕ → ℕ
following s = (s + 1) % 2 ^ 32

-- by the difference: 0; 1 to 4,096, which is the number of missing frames; up to 2^31 - 1; the rest
unfoldable pub coming_by : ℕ → Arrival
coming_by d = cond (eqb d 0) Next (cond (leb d 4096) (Ahead d) (cond (ltb d (2 ^ 31)) Jump Late))

-- the first frame is next, whatever its stamp
abbrev pub coming_of : Expected → ℕ → Arrival
coming_of None s = Next
coming_of (Some e) s = coming_by (ahead e s)

-- the stamp that is expected, which is a number below 2^32
abbrev pub stamp_of : Expected → ℕ
stamp_of None = 0
stamp_of (Some e) = e

-- what `coming` promises: which kind it is, and that what is expected is below 2^32, which a caller that passes an enum
-- on cannot see of its number
pub record Comes (x : Expected) (s : ℕ) (r : Arrival) : Type 0 where
  pub bits : r ≡ coming_of x s
  pub below : stamp_of x < 2 ^ 32

-- what is expected after a frame: a late one changes nothing
abbrev pub then_by : Arrival → Expected → ℕ → Expected
then_by Next x s = Some (following s)
then_by (Ahead d) x s = Some (following s)
then_by Jump x s = Some (following s)
then_by Late x s = x

abbrev pub then_of : Expected → ℕ → Expected
then_of x s = then_by (coming_of x s) x s

-- and after a missing frame
abbrev pub skipped_of : Expected → Expected
skipped_of None = None
skipped_of (Some e) = Some (following e)

-- and after frames with these stamps
abbrev pub expected_after : Expected → List ℕ → Expected
expected_after x [] = x
expected_after x (s ∷ ss) = expected_after (then_of x s) ss
