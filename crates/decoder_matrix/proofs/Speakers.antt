-- Where a speaker sits: by the table, or, of a Custom layout, as computed. Assumes nothing.
use Rattle.std.specs.Prelude.{◌≡◌}
use Rattle.lists.specs.Prelude.{ℕ, refl, sym, ap, ◌∙◌, Float}
use Rattle.channel.specs.declared.Layout.{Layout}
use Rattle.channel.specs.declared.Layout.TheVariants.{Mono, Stereo, Surround51, Surround71, Custom}
use Rattle.channel.specs.Layouts.{azimuth_of}
use Rattle.decoder_matrix.specs.Speakers.{custom_azimuth, turned_back, azimuth_by}

pub by_table : (l : Layout) (n i : ℕ) → ((m : ℕ) → l ≡ Custom m → ⊥) → azimuth_of l i ≡ azimuth_by l n i
by_table Mono n i h = refl
by_table Stereo n i h = refl
by_table Surround51 n i h = refl
by_table Surround71 n i h = refl
by_table (Custom m) n i h = absurd (h m refl)

pub computed : (l : Layout) (n i m : ℕ) (a r : Float) → l ≡ Custom m → a ≡ custom_azimuth n i → r ≡ turned_back a
    → r ≡ azimuth_by l n i
computed l n i m a r e h t = t ∙ ap turned_back h ∙ sym (ap (λ (k : Layout). azimuth_by k n i) e)
