-- Set-ups with the same filters: whatever looks at counts, L and weights alone is the same of the two. Assumes nothing.
use Rattle.std.specs.Prelude.{◌<◌, ◌≡◌}
use Rattle.lists.specs.Prelude.{ℕ, refl, sym, ap, ◌∙◌}
use Rattle.hrtf_history.specs.Setup.{Setup, SameFilters, taps_of}

pub same_filters : (u : Setup) → SameFilters u u
same_filters u = record { channels = refl; speakers = refl; L = refl; weights = refl; filters = λ ear s e h. refl }

module _ (u v : Setup) (a : SameFilters u v) where
  -- u with the bank of v, which is v
  abbrev pub moved : Setup
  moved = record {
    channels = u.channels;
    speakers = u.speakers;
    L = u.L;
    weights = u.weights;
    taps = v.taps;
    rows = v.rows;
  }

  pub moved_is : moved ≡ v
  moved_is = λ i. record {
    channels = a.channels i;
    speakers = a.speakers i;
    L = a.L i;
    weights = a.weights i;
    taps = v.taps;
    rows = v.rows;
  }

  pub moved_filters : (ear s : ℕ) → ear < 2 → s < u.speakers → taps_of u ear s ≡ taps_of moved ear s
  moved_filters ear s e h = a.filters ear s e h ∙ sym (ap (λ (w : Setup). taps_of w ear s) moved_is)
