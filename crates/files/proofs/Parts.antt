-- What stands at the start of a list: a count of it that a caller can cut off, and what a read behind it keeps. Assumes
-- nothing.
use Rattle.std.specs.Prelude.{◌≡◌, ◌+◌, ◌≤◌}
use Rattle.lists.specs.Prelude.{sym, ap, ◌∙◌, List, Bool, true, ℕ, min, max, arith, length, take, length-take-le}
use Rattle.lists.proofs.Lists.{take_min}
use Rattle.io.specs.Counts.{IsPrefixLen}
use Rattle.files.specs.Promise.{ReadBehind}

pub counts : (n : ℕ) (xs : List ℕ) → n ≤ length xs → IsPrefixLen n xs
counts n xs h = (h, sym (length-take-le n xs h))

-- behind the held bytes, or behind the last where there are not so many; `got` bytes came, and there was room for no
-- more than `limit`
pub behind : (held limit at got : ℕ) (failed : Bool) (before after : List ℕ) → at ≡ min held (length before)
    → length after ≡ length before → got ≤ max 1 limit → at + got ≤ length after
    → (failed ≡ true → got ≡ 0) → take at after ≡ take at before → ReadBehind held limit before failed (at + got) after
behind held limit at got failed before after e long few room none same =
    record {
      more = omega (arith, e);
      most = omega (arith, e, few);
      room = room;
      none = λ f. omega (arith, e, none f);
      keeps = sym (take_min after held at (e ∙ ap (min held) (sym long))) ∙ same ∙ take_min before held at e;
    }
