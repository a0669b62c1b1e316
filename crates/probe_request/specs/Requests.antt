-- What the fields of a request stand for (docs/PROBE.md, 'Operations'). Definitions only.
use Rattle.std.specs.Prelude.{◌+◌, ◌-◌, ◌*◌, ◌^◌}
use Rattle.lists.specs.Prelude.{ℕ, min, cond, List, eqb, leb, length}
use Rattle.big_endian.specs.Fields.{field_at}
use Rattle.big_endian.specs.Lists.{strided}
use Rattle.channel.specs.declared.Layout.{Layout}
use Rattle.channel.specs.declared.Layout.TheVariants.{Mono, Stereo, Surround51, Surround71, Custom}

-- "A layout is a byte, 0 Mono, 1 Stereo, 2 Surround51, 3 Surround71, any other Custom, and n (8), which only a Custom
-- looks at."
abbrev pub layout_of : ℕ → ℕ → Layout
layout_of which n = cond (eqb which 0) Mono
    (cond (eqb which 1) Stereo (cond (eqb which 2) Surround51 (cond (eqb which 3) Surround71 (Custom n))))

-- "layout (9)": a byte and n (8)
abbrev pub layout_at : List ℕ → ℕ → Layout
layout_at args at = layout_of (field_at args at 1) (field_at args (at + 1) 8)

-- "the bank row of each of eight speakers (8 each)"; a number that does not lie inside the arguments is 0
abbrev pub eight_at : List ℕ → ℕ → List ℕ
eight_at args at = strided (λ (p : ℕ). field_at args p 8) 8 at 8

-- "Lists are lent at the lengths that the request says"; "a length above that counts as that"
abbrev pub lent_by : List ℕ → ℕ → ℕ → ℕ → ℕ
lent_by args at count most = min (field_at args at count) most

-- "azimuths lent (1)", and "weights", "taps", "samples", "stamps" or "ring cells lent (2)": "up to 16 azimuths, 8,200
-- taps, samples or stamps, [..] 300 weights and 4,100 ring cells"
abbrev pub azimuths_lent : List ℕ → ℕ → ℕ
azimuths_lent args at = lent_by args at 1 16

abbrev pub samples_lent : List ℕ → ℕ → ℕ
samples_lent args at = lent_by args at 2 8200

abbrev pub weights_lent : List ℕ → ℕ → ℕ
weights_lent args at = lent_by args at 2 300

abbrev pub cells_lent : List ℕ → ℕ → ℕ
cells_lent args at = lent_by args at 2 4100

-- a place in arguments of so many bytes, or at their end; any other counts as the last of all, from which on nothing is
-- read
abbrev pub place_in : ℕ → ℕ → ℕ
place_in size at = cond (leb at size) at (2 ^ 64 - 1)

-- a stamp: a number in four bytes
abbrev pub word_at : List ℕ → ℕ → ℕ
word_at args at = field_at args at 4

-- "every other list holds what the request gives": as many numbers as it has places, w bytes each, from `at` on. A list
-- that does not lie inside the arguments is left as it was.
unfoldable pub list_at : {A : Type 0} → (List ℕ → ℕ → A) → ℕ → List ℕ → ℕ → List A → List A
list_at read w args at list =
    cond (leb (at + w * length list) (length args)) (strided (read args) w at (length list)) list
