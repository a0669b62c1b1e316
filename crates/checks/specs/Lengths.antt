-- Document 01, 'Refusal numbers' 5: "stride below the frame count, or a length other than planes x stride". Definitions
-- only.
use Rattle.std.specs.Prelude.{◌*◌, ◌||◌}
use Rattle.lists.specs.Prelude.{ℕ, Bool, not, ltb, eqb}

-- stride below the frame count, or a length other than planes x stride
abbrev pub unfit : ℕ → ℕ → ℕ → ℕ → Bool
unfit size planes stride frames = ltb stride frames || not (eqb size (planes * stride))

-- the input planes of a block do not fit, or its output planes: one stride serves both
abbrev pub block_unfit : ℕ → ℕ → ℕ → ℕ → ℕ → ℕ → Bool
block_unfit inputs channels out outputs stride frames =
    unfit inputs channels stride frames || unfit out outputs stride frames
