-- Document 01, item 10: the printed line, "`frames 3 unsettled 2` and a newline", or "`refused 9` only".
-- Document 02, E2: "The program prints number and place, as `refused 14 at 1`".
-- Definitions only. A line is a list of ASCII codes.
use Rattle.std.specs.Prelude.{◌+◌, ◌/◌, ◌%◌, ◌∷◌, ◌++◌}
use Rattle.lists.specs.Prelude.{ℕ, zero, suc, cond, List, [], ltb}

-- the decimal digits of a number that has at most k of them, with no zero in front
unfoldable pub decimal_by : ℕ → ℕ → List ℕ
decimal_by zero n = []
decimal_by (suc k) n = cond (ltb n 10) ((48 + n) ∷ []) (decimal_by k (n / 10) ++ ((48 + n % 10) ∷ []))

-- a number of 64 bits has at most twenty
unfoldable pub decimal_digits : ℕ → List ℕ
decimal_digits n = decimal_by 20 n

-- `frames `
unfoldable pub frames_word : List ℕ
frames_word = 102 ∷ 114 ∷ 97 ∷ 109 ∷ 101 ∷ 115 ∷ 32 ∷ []

-- ` unsettled `
unfoldable pub unsettled_word : List ℕ
unsettled_word = 32 ∷ 117 ∷ 110 ∷ 115 ∷ 101 ∷ 116 ∷ 116 ∷ 108 ∷ 101 ∷ 100 ∷ 32 ∷ []

-- `refused `
unfoldable pub refused_word : List ℕ
refused_word = 114 ∷ 101 ∷ 102 ∷ 117 ∷ 115 ∷ 101 ∷ 100 ∷ 32 ∷ []

-- ` at `
unfoldable pub at_word : List ℕ
at_word = 32 ∷ 97 ∷ 116 ∷ 32 ∷ []

unfoldable pub newline : List ℕ
newline = 10 ∷ []

unfoldable pub frames_line : ℕ → ℕ → List ℕ
frames_line frames unsettled = frames_word ++ (decimal_digits frames
    ++ (unsettled_word ++ (decimal_digits unsettled ++ newline)))

unfoldable pub refused_line : ℕ → List ℕ
refused_line number = refused_word ++ (decimal_digits number ++ newline)

unfoldable pub refused_at_line : ℕ → ℕ → List ℕ
refused_at_line number place = refused_word ++ (decimal_digits number ++ (at_word ++ (decimal_digits place ++ newline)))
