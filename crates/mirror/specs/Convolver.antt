-- Document 01, 'Sums': "parts are added from 0.0, speakers rising". A scene is exchanged left for right, and its bank
-- with it: whether the other ear then hears what the one heard, bit for bit. It does where no speakers but the first
-- two are exchanged; in 5.1 and 7.1 it does where of each later pair one part is 0.0, or those before it add up to 0.0,
-- and else it need not. Shown in proofs/Convolver.antt, and refuted in proofs/RefutedOrder.antt. Definitions only.
use Rattle.std.specs.Prelude.{◌≤◌, ◌<◌, ◌≡◌}
use Rattle.lists.specs.Prelude.{ℕ, List, Float}
use Rattle.channel.specs.declared.Layout.TheVariants.{Stereo}
use Rattle.hrtf_history.specs.Setup.{Setup, taps_of}
use Rattle.hrtf_history.specs.History.{signal_ago, part, ear_sample}
use Rattle.mirror.specs.Partners.{partner_in, across_from, partners, other_ear}
use Rattle.mirror.specs.Parts.{Settled}

-- of two speakers each is across from the other
abbrev pub first_two_of : ℕ → ℕ
first_two_of s = partner_in (partners Stereo) s

-- v has the mirrored bank of u, the filters of each ear and speaker being those of the other ear and of the speaker
-- across, and every signal comes from the speaker across. A bank may be its own mirror
pub record Across (across : ℕ → ℕ) (u v : Setup) (past exchanged : List (List Float)) : Type 0 where
  pub speakers : v.speakers ≡ u.speakers
  pub L : v.L ≡ u.L
  pub taps : (ear s : ℕ) → ear < 2 → s < u.speakers → taps_of v (other_ear ear) s ≡ taps_of u ear (across s)
  pub signals : (s k : ℕ) → s < u.speakers → signal_ago s exchanged k ≡ signal_ago (across s) past k

-- then the other ear hears it, where it is so of the parts
abbrev pub HeardWhere : ((ℕ → Float) → Type 0) → (ℕ → ℕ) → ℕ → Type 0
HeardWhere P across speakers =
    (u v : Setup) (past exchanged : List (List Float)) → u.speakers ≡ speakers → Across across u v past exchanged
    → (ear : ℕ) → ear < 2 → P (part u ear past)
    → ear_sample v (other_ear ear) exchanged ≡ ear_sample u ear past

-- whatever they are
abbrev pub Any : (ℕ → Float) → Type 0
Any parts = Unit {0}

abbrev pub Heard : (ℕ → ℕ) → ℕ → Type 0
Heard = HeardWhere Any

pub record HeardByOtherEar : Type 0 where
  -- one speaker, across from itself
  pub one : Heard (λ s. s) 1
  -- two, and others that stand in the middle
  pub two : (speakers : ℕ) → 2 ≤ speakers → Heard first_two_of speakers
  pub five_one : HeardWhere (λ parts. Settled parts 4) across_from 6
  pub seven_one : HeardWhere (λ parts. Settled parts 4 × Settled parts 6) across_from 8
