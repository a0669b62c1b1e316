-- A frame has a signal for each speaker. Assumes nothing.
use Rattle.std.specs.Prelude.{◌≡◌, ◌<◌}
use Rattle.lists.specs.Prelude.{ap, ◌∙◌, List, ℕ, zero-add, length, get_or, Float}
use Rattle.lists.proofs.Tables.{length_tab, get_or_tab}
use Rattle.hrtf_history.specs.Setup.{Setup}
use Rattle.hrtf_history.specs.Signals.{signal, signals}

pub length_signals : (u : Setup) (f : List Float) → length (signals u f) ≡ u.speakers
length_signals u f = length_tab 0 u.speakers (λ s. signal u s f)

pub signal_at : (u : Setup) (f : List Float) (s : ℕ) (d : Float) → s < u.speakers
    → get_or (signals u f) s d ≡ signal u s f
signal_at u f s d h = get_or_tab 0 u.speakers (λ o. signal u o f) s d h ∙ ap (λ (o : ℕ). signal u o f) (zero-add s)
