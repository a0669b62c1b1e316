-- Worked choices: elevation decides before azimuth, and the earlier row on a tie of both; the range of a speaker's
-- elevation; and which number comes first. Assumes nothing.
use Rattle.std.specs.Prelude.{◌≡◌, ◌∷◌, ◌++◌}
use Rattle.lists.specs.Prelude.{refl, List, [], map, ℕ, ℤ, pos, negsuc, take, replicate}
use Rattle.bank_choice.specs.Choice.{Choice}
use Rattle.bank_choice.specs.Choice.{in_tenths, is_elevation, choice_refusal, chose, refused_with, choice_of}
use Rattle.bank_choice.specs.Nearest.{angle_apart, elevation_away}
use Rattle.bank_choice.specs.Computed.{key, nearer, nearest_from}

-- lists of 8 that start with some rows
abbrev eight : List ℤ → List ℤ
eight l = take 8 (l ++ replicate 8 (pos 0))

-- what a speaker takes of rows with these azimuths and elevations
abbrev taken : List ℤ → List ℤ → ℕ → ℤ → ℤ → Choice
taken zs es n p q = choice_of (eight zs) (eight es) n p q

-- each choice comes to what stands beside it
abbrev ComeTo : List (Choice × Choice) → Type 0
ComeTo cs = map (λ c. c.0) cs ≡ map (λ c. c.1) cs

worked : ComeTo (
    -- as near as each other: the earlier
    (taken (pos 0 ∷ pos 450 ∷ []) (pos 0 ∷ pos 0 ∷ []) 2 (pos 225) (pos 0), chose 0)
    -- behind, but level: it wins over the row in front that is 10 tenths up
    ∷ (taken (pos 0 ∷ pos 1800 ∷ []) (pos 10 ∷ pos 0 ∷ []) 2 (pos 0) (pos 0), chose 1)
    -- above and below are as far: the earlier
    ∷ (taken (pos 0 ∷ pos 0 ∷ []) (pos 100 ∷ negsuc 99 ∷ []) 2 (pos 0) (pos 0), chose 0)
    -- as far in elevation: the shorter way round
    ∷ (taken (pos 450 ∷ pos 0 ∷ []) (pos 100 ∷ negsuc 99 ∷ []) 2 (pos 0) (pos 0), chose 1)
    -- as far in elevation and as far round: the earlier
    ∷ (taken (pos 300 ∷ pos 300 ∷ negsuc 299 ∷ []) (pos 0 ∷ pos 450 ∷ pos 450 ∷ []) 3 (pos 0) (pos 300), chose 1)
    -- elevations are -900..900
    ∷ (taken (pos 0 ∷ pos 0 ∷ []) (pos 0 ∷ pos 900 ∷ []) 2 (pos 0) (pos 900), chose 1)
    ∷ (taken (pos 0 ∷ pos 0 ∷ []) (pos 0 ∷ pos 900 ∷ []) 2 (pos 0) (pos 901), refused_with 3)
    ∷ (taken (pos 0 ∷ pos 0 ∷ []) (pos 0 ∷ negsuc 899 ∷ []) 2 (pos 0) (negsuc 899), chose 1)
    ∷ (taken (pos 0 ∷ pos 0 ∷ []) (pos 0 ∷ negsuc 899 ∷ []) 2 (pos 0) (negsuc 900), refused_with 3)
    -- 2 before 3, and 3 before 5
    ∷ (choice_of [] [] 0 (pos 1801) (pos 901), refused_with 2)
    ∷ (choice_of [] [] 1 (pos 0) (pos 901), refused_with 3)
    -- a list of elevations that is not of 8
    ∷ (choice_of (eight []) [] 1 (pos 0) (pos 0), refused_with 5) ∷ []
    )
unfolding choice_of choice_refusal in_tenths is_elevation nearest_from nearer key elevation_away angle_apart
worked = refl
