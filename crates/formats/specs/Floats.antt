-- Numbers as the code writes them. Definitions only. An f32 and the f64 that it widens to are one `Float`.
use Rattle.std.specs.Prelude.{◌^◌}
use Rattle.lists.specs.Prelude.{ℕ, suc, true, false, T, ℤ, pos, negsuc, Float, fin, binary64, round, of_int, fits}

-- x is an f64
abbrev pub Held : Float → Type 0
Held x = T (fits binary64 x)

-- 0.0, 1.0, -1.0 and 0.5
abbrev pub zero_float : Float
zero_float = fin false 0 (pos 0)

abbrev pub one_float : Float
one_float = fin false 1 (pos 0)

abbrev pub minus_one_float : Float
minus_one_float = fin true 1 (pos 0)

abbrev pub half_float : Float
half_float = fin false 1 (negsuc 0)

-- a whole number as an f64
abbrev pub float : ℤ → Float
float z = of_int binary64 z

-- the f64 nearest to z / d, which a decimal literal stands for
abbrev pub literal : ℤ → ℕ → Float
literal (pos n) d = round binary64 false n d
literal (negsuc n) d = round binary64 true (suc n) d

-- n / 10^16, as the code writes its constants
abbrev pub decimal : ℕ → Float
decimal n = literal (pos n) (10 ^ 16)
