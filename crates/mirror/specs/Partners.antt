-- Which speaker stands across, left for right. Document 01, 'Gains': "speakers, in channel order. 5.1: 30, -30, 0, LFE,
-- 110, -110. 7.1: 30, -30, 0, LFE, 90, -90, 150, -150. [..] Stereo is 30, -30; Mono 0; Custom speaker i sits at i x
-- (360/n) - 90", and the eight positions of 003: 0, 45, 90, 135, 180, -135, -90, -45. Definitions only. That these
-- stand at opposite azimuths is computed in proofs/Speakers.antt.
use Rattle.std.specs.Prelude.{◌+◌, ◌-◌, ◌/◌, ◌%◌, ◌∷◌}
use Rattle.lists.specs.Prelude.{ℕ, zero, suc, cond, List, [], map, eqb, get_or, take}
use Rattle.lists.specs.Tables.{tab, any}
use Rattle.channel.specs.declared.Layout.{Layout}
use Rattle.channel.specs.declared.Layout.TheVariants.{Mono, Stereo, Surround51, Surround71, Custom}

-- place i of a table; what stands in no table is its own partner
abbrev pub partner_in : List ℕ → ℕ → ℕ
partner_in table i = get_or table i i

-- those of 7.1: the centre and the LFE are their own. 5.1 has the first six, and Stereo the first two
abbrev pub surround_partners : List ℕ
surround_partners = 1 ∷ 0 ∷ 2 ∷ 3 ∷ 5 ∷ 4 ∷ 7 ∷ 6 ∷ []

-- of channel c of either
abbrev pub across_from : ℕ → ℕ
across_from c = partner_in surround_partners c

-- those of a Custom layout of n speakers, at i x (360/n) - 90: where n is odd there are none, and in Custom(14) the
-- rounded azimuths are not quite opposite
abbrev pub symmetric : List ℕ
symmetric = 2 ∷ 4 ∷ 6 ∷ 8 ∷ 10 ∷ 12 ∷ 16 ∷ []

abbrev pub custom_partners : ℕ → List ℕ
custom_partners n = tab 0 n (λ (i : ℕ). (n / 2 + (n - i)) % n)

-- in channel order
abbrev pub partners : Layout → List ℕ
partners Mono = 0 ∷ []
partners Stereo = take 2 surround_partners
partners Surround51 = take 6 surround_partners
partners Surround71 = surround_partners
partners (Custom n) = cond (any (map (eqb n) symmetric)) (custom_partners n) []

abbrev pub position_partners : List ℕ
position_partners = 0 ∷ 7 ∷ 6 ∷ 5 ∷ 4 ∷ 3 ∷ 2 ∷ 1 ∷ []

-- the left ear is 0, the right ear 1
abbrev pub other_ear : ℕ → ℕ
other_ear zero = 1
other_ear (suc ear) = 0
