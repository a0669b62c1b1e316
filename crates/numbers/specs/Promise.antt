-- What each public function promises: the answer by an equation, which leaves no second answer, and beside it what
-- document 01 says of it. Definitions only.
use Rattle.std.specs.Prelude.{◌≡◌}
use Rattle.lists.specs.Prelude.{Bool, pos, T, Float, fin, binary32, binary64, fits}
use Rattle.std.specs.Float.Ieee.Positive.{positive}
use Rattle.numbers.specs.Conversions.{Narrows}
use Rattle.numbers.specs.Roots.{rootless, NearestRoot}
use Rattle.formats.specs.Floats.{zero_float}
use Rattle.numbers.specs.Computed.{narrowed, root_of, root_answer}
use Rattle.numbers.specs.Computed.{Rooted}

pub record NarrowPromise (x r : Float) : Type 0 where
  pub bits : r ≡ narrowed x
  pub words : Narrows binary32 x r

pub record RootWords (x : Float) (r : Rooted) : Type 0 where
  pub refused : T (rootless x) → (r.refusal ≡ 10) × (r.value ≡ zero_float)
  pub kept : (s : Bool) → x ≡ fin s 0 (pos 0) → (r.refusal ≡ 0) × (r.value ≡ x)
  pub nearest : T (positive x) → (r.refusal ≡ 0) × NearestRoot binary64 x r.value

pub record RootPromise (x : Float) (r : Rooted) : Type 0 where
  pub bits : r ≡ root_answer x
  pub words : RootWords x r

-- what is computed meets document 01's words, of every number; they leave one answer (`narrows_unique`, `root_only`,
-- `root_words`), so whoever cites `narrowed`, `root_of` or `root_answer` cites them
pub record NumbersMeet : Type 0 where
  pub narrowing : (x : Float) → Narrows binary32 x (narrowed x)
  pub nearest_root : (x : Float) → T (fits binary64 x) → T (positive x) → NearestRoot binary64 x (root_of binary64 x)
  pub rooting : (x : Float) → T (fits binary64 x) → RootPromise x (root_answer x)
