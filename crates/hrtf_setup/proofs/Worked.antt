-- The promises can be met, and what they say of a small bank: rows at 30 and 0 degrees, 5.1. The LFE, which points
-- nowhere, takes the row for 0 degrees. Where a row stands above the speakers, the level one is taken. Answers that
-- refuse always, that leave the elevations out of account, or that accept seven of them are refuted. Assumes nothing.
use Rattle.std.specs.Prelude.{◌≡◌, ◌∷◌, ◌*◌}
use Rattle.lists.specs.Prelude.{refl, sym, ap, ◌∙◌, true, true≢false, List, [], ℕ, suc, suc-ne-zero, arith, ℤ, pos}
use Rattle.lists.specs.Prelude.{length, get_or, replicate, Float, nan}
use Rattle.refusals.proofs.Chains.{none_holds}
use Rattle.lists.specs.Tables.{tab}
use Rattle.channel.specs.declared.Layout.{Layout}
use Rattle.channel.specs.declared.Layout.TheVariants.{Mono, Stereo, Surround51, Surround71, Custom}
use Rattle.channel.specs.Layouts.{surround}
use Rattle.checks.proofs.Checks.{is_equal}
use Rattle.bank_choice.specs.Nearest.{angle_apart, elevation_away}
use Rattle.bank_choice.specs.Computed.{key, nearer, nearest_from}
use Rattle.bank_choice.specs.Choice.{in_tenths, is_elevation, choice_refusal, choice_of}
use Rattle.hrtf_setup.specs.declared.Speakers.TheVariants.{Of, Virtual}
use Rattle.hrtf_setup.specs.Speakers.{tenths_at, row_at, rows_of}
use Rattle.hrtf_setup.specs.Arrangement.{later_checks, refusal_of, Arrangement, arrangement}
use Rattle.hrtf_setup.specs.Promise.{of_layout, of_order, NewSurroundPromise, NewAmbisonicPromise}
use Rattle.hrtf_setup.proofs.Accepted.{accepted_of}

-- "LFE uses the 0 degree filters"
low_frequency_in_front : (l : Layout) → surround l ≡ true → tenths_at (Of l) 3 ≡ pos 0
low_frequency_in_front Mono e = absurd (true≢false (sym e))
low_frequency_in_front Stereo e = absurd (true≢false (sym e))
low_frequency_in_front Surround51 e = refl
low_frequency_in_front Surround71 e = refl
low_frequency_in_front (Custom n) e = absurd (true≢false (sym e))

-- two rows, at 300 and 0 tenths
bank : List ℤ
bank = pos 300 ∷ pos 0 ∷ replicate 6 (pos 0)

-- both at the elevation of the speakers
flat : List ℤ
flat = replicate 8 (pos 0)

-- the first 100 tenths above them
raised : List ℤ
raised = pos 100 ∷ replicate 7 (pos 0)

-- L and Ls the first; R, C, LFE and Rs the second
rows_of_51 : tab 0 6 (row_at (Of Surround51) bank flat 2) ≡ 0 ∷ 1 ∷ 1 ∷ 1 ∷ 0 ∷ 1 ∷ []
unfolding bank flat choice_of choice_refusal in_tenths is_elevation nearest_from nearer key elevation_away angle_apart
rows_of_51 = refl

-- all the second, which is level
rows_of_51_raised : tab 0 6 (row_at (Of Surround51) bank raised 2) ≡ replicate 6 1
unfolding bank raised choice_of choice_refusal in_tenths is_elevation nearest_from nearer key elevation_away angle_apart
rows_of_51_raised = refl

-- from the front on to the left: 0, 45 and 90 degrees, and so round
rows_of_virtual : tab 0 8 (row_at (Virtual 1) bank flat 2) ≡ 1 ∷ 0 ∷ 0 ∷ 0 ∷ 0 ∷ 1 ∷ 1 ∷ 1 ∷ []
unfolding bank flat choice_of choice_refusal in_tenths is_elevation nearest_from nearer key elevation_away angle_apart
rows_of_virtual = refl

-- ---- refuses always

accepts_51 : refusal_of (of_layout Surround51) bank flat 2 (replicate 36 nan) ≡ 0
unfolding refusal_of bank flat
accepts_51 = refl

accepts_order : refusal_of (of_order 3) bank flat 2 (replicate 128 nan) ≡ 0
unfolding refusal_of bank flat
accepts_order = refl

refuses_51 : (given : List ℕ) (o : Arrangement) → NewSurroundPromise Surround51 bank flat 2 (replicate 36 nan) given o
    → (n : ℕ) → o.answer.refusal ≡ suc n → ⊥
unfolding refusal_of bank flat arrangement
refuses_51 given o p n e = suc-ne-zero n (sym e ∙ ap (λ (q : Arrangement). q.answer.refusal) p.bits)

refuses_order_lem : (given : List ℕ) (o : Arrangement) → NewAmbisonicPromise 3 bank flat 2 (replicate 128 nan) given o
    → (n : ℕ)
    → o.answer.refusal ≡ suc n → ⊥
unfolding refusal_of bank flat arrangement
refuses_order_lem given o p n e = suc-ne-zero n (sym e ∙ ap (λ (q : Arrangement). q.answer.refusal) p.bits)

-- ---- leaves the elevations out of account: the rows put for a bank with a raised row are those of a level one

ignores_elevations : (o : Arrangement) → NewSurroundPromise Surround51 bank raised 2 (replicate 36 nan) (replicate 8 0)
    o
    → o.rows ≡ rows_of (Of Surround51) 6 bank flat 2 (replicate 8 0) → ⊥
unfolding refusal_of bank flat raised arrangement choice_of choice_refusal in_tenths is_elevation nearest_from nearer
    key
    elevation_away angle_apart
ignores_elevations o p e = let z : ◌≡◌ {A = ℕ} 0 1 = ap (λ (l : List ℕ). get_or l 0 0)
    (sym e ∙ ap (λ (q : Arrangement). q.rows) p.bits) in omega arith

-- ---- accepts a list of seven elevations

accepts_seven : (l : Layout) (azimuths elevations : List ℤ) (rows : ℕ) (weights : List Float) (given : List ℕ)
    (o : Arrangement) → NewSurroundPromise l azimuths elevations rows weights given o
    → length elevations ≡ 7 → o.answer.refusal ≡ 0 → ⊥
unfolding refusal_of
accepts_seven l azimuths elevations rows weights given o p seven e =
    let w = of_layout l in
    let off = none_holds (w.check ∷ later_checks (w.speakers * w.channels) azimuths elevations rows weights) tt
    (accepted_of w azimuths elevations rows weights given o p e) in
    let eight = is_equal (length elevations) 8 off.1.1.1.0 in
    omega arith
