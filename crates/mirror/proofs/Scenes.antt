-- What is played of a mirrored scene: the voice that the panner puts, through weights whose outputs have partners;
-- blocks through the decoder matrix of a layout; the signals of virtual speakers. Bit for bit, since no sum sees the
-- sign of a zero. Assumes nothing.
use Rattle.std.specs.Prelude.{◌≡◌, ◌<◌}
use Rattle.lists.specs.Prelude.{refl, sym, ap, ◌∙◌, subst, true, false, List, [], ℕ, ltb-true, ltb, length, get_or}
use Rattle.lists.specs.Prelude.{Float, nan, binary32, mul, neg}
use Rattle.lists.specs.Tables.{chunk, every}
use Rattle.lists.proofs.Every.{every_at}
use Rattle.lists.proofs.Tables.{tab_ext}
use Rattle.numbers.specs.Computed.{narrowed}
use Rattle.planes.specs.Sums.{mixed, mixed_all}
use Rattle.channel.specs.declared.Layout.{Layout}
use Rattle.channel.specs.declared.Layout.TheVariants.{Mono, Stereo, Surround51, Surround71, Custom}
use Rattle.channel.specs.Layouts.{channels_of, positions}
use Rattle.channel.specs.Orders.{refuses_order, channels_of_order}
use Rattle.matrix.specs.Mirror.{lateral, mirrored}
use Rattle.harmonics.specs.declared.Direction.{Direction}
use Rattle.decoder_matrix.specs.Matrix.{row_by, matrix_of}
use Rattle.decoder_matrix.proofs.Meets.{row_is}
use Rattle.virtual_speaker.specs.Promise.{outcome, position_of}
use Rattle.panner.specs.declared.Command.TheVariants.{Ambisonic}
use Rattle.panner.specs.Commands.{gains_of_command}
use Rattle.panner.specs.Blocks.{narrowed_all, panned}
use Rattle.mirror.specs.Blocks.{PartnersSwap, exchanged}
use Rattle.mirror.specs.Partners.{partner_in, partners, position_partners}
use Rattle.mirror.specs.Scenes.{Swapped, mirrored_direction, voice, virtual_weights, ScenesMirror}
use Rattle.mirror.proofs.Blocks.{frame_exchanged, blocks_mirror}
use Rattle.mirror.proofs.Swapped.{factor_odd, narrowed_odd, swapped_at, swapped_tab, swapped_by, swapped_take}
use Rattle.mirror.proofs.Swapped.{mixed_weights, mixed_frames}
use Rattle.mirror.proofs.Directions.{direction_mirrors}
use Rattle.mirror.proofs.Speakers.{of_symmetric, speakers_mirror}

-- ---- a voice

narrowed_swapped : (xs ys : List Float) → Swapped xs ys → Swapped (narrowed_all xs) (narrowed_all ys)
narrowed_swapped xs ys h =
    swapped_tab lateral 0 16 (λ (p : ℕ). narrowed (get_or xs p nan)) (λ (p : ℕ). narrowed (get_or ys p nan))
    (λ p. swapped_by lateral narrowed_odd p (get_or xs p nan) (get_or ys p nan) (swapped_at lateral xs ys h p))

panned_swapped : (planes : ℕ) (x : Float) (gs hs : List Float) → Swapped gs hs
    → Swapped (panned planes gs x) (panned planes hs x)
panned_swapped planes x gs hs h =
    swapped_tab lateral 0 planes (λ (p : ℕ). mul binary32 x (get_or gs p nan))
    (λ (p : ℕ). mul binary32 x (get_or hs p nan))
    (λ p. swapped_by lateral (factor_odd binary32 x) p (get_or gs p nan) (get_or hs p nan)
    (swapped_at lateral gs hs h p))

-- ---- partners are speakers of the layout, by computing

-- all of a table are below n
abbrev Below : ℕ → List ℕ → Type 0
Below n table = every (λ (p : ℕ). ltb p n) table ≡ true

partners_below : (l : Layout) → Below (channels_of l) (partners l)
partners_below Mono = refl
partners_below Stereo = refl
partners_below Surround51 = refl
partners_below Surround71 = refl
partners_below (Custom n) = of_symmetric Below (refl, (refl, (refl, (refl, (refl, (refl, (refl, tt))))))) (λ k. refl) n

partner_inside : (l : Layout) → length (partners l) ≡ channels_of l → (i : ℕ) → i < channels_of l
    → partner_in (partners l) i < channels_of l
partner_inside l e i h =
    ltb-true (partner_in (partners l) i) (channels_of l)
    (every_at (λ (p : ℕ). ltb p (channels_of l)) (partners l) i i (partners_below l)
    (subst (λ (m : ℕ). i < m) (sym e) h))

module _ (order : ℕ) where
  voice_swapped : (d : Direction) (x : Float) → Swapped (voice order d x) (voice order (mirrored_direction d) x)
  voice_swapped d x =
      let gains : List Float = gains_of_command (Ambisonic d order) Mono in
      let opposite : List Float = gains_of_command (Ambisonic (mirrored_direction d) order) Mono in
      panned_swapped (channels_of_order order) x (narrowed_all gains) (narrowed_all opposite)
      (narrowed_swapped gains opposite (direction_mirrors order d).gains)

  voice_exchanged : (n : ℕ) (weights : List Float) (partner : ℕ → ℕ)
      → PartnersSwap n (channels_of_order order) weights partner → (d : Direction) (x : Float)
      → mixed_all n (channels_of_order order) weights (voice order (mirrored_direction d) x) ≡ exchanged n partner
      (mixed_all n (channels_of_order order) weights (voice order d x))
  voice_exchanged n weights partner p d x =
      tab_ext 0 n (λ (o : ℕ). mixed (chunk (channels_of_order order) o weights) (voice order (mirrored_direction d) x))
      (λ (o : ℕ). mixed (chunk (channels_of_order order) o weights) (mirrored neg (voice order d x)))
      (λ o l. mixed_frames (chunk (channels_of_order order) o weights) (voice order d x)
      (voice order (mirrored_direction d) x) (voice_swapped d x))
      ∙ frame_exchanged n (channels_of_order order) weights partner p (voice order d x)

  -- ---- the decoder matrix of a layout

  matrix_partners : refuses_order order ≡ false → (l : Layout) → length (partners l) ≡ channels_of l
      → PartnersSwap (channels_of l) (channels_of_order order) (matrix_of order l) (partner_in (partners l))
  matrix_partners ok l all = record {
    inside = partner_inside l all;
    swaps = λ i h frame.
        let n : ℕ = channels_of l in
        let k : ℕ = channels_of_order order in
        let p : ℕ = partner_in (partners l) i in
        ap (λ (w : List Float). mixed w (mirrored neg frame)) (row_is order l [] i ok h)
        ∙ sym (mixed_weights (row_by order l n k i) (row_by order l n k p) frame
        ((speakers_mirror order).rows l k i (subst (λ (m : ℕ). i < m) (sym all) h)))
        ∙ sym (ap (λ (w : List Float). mixed w frame) (row_is order l [] p ok (partner_inside l all i h)));
  }

  -- ---- virtual speakers

  signal_swapped : (i : ℕ) → i < length positions → (frame : List Float)
      → mixed (virtual_weights order (partner_in position_partners i)) frame ≡ mixed (virtual_weights order i)
      (mirrored neg frame)
  signal_swapped i h frame =
      let weights : ℕ → List Float = λ j. (outcome order (position_of j)).weights in
      let p : ℕ = partner_in position_partners i in
      mixed_weights (virtual_weights order i) (virtual_weights order p) frame
      (swapped_take lateral (channels_of_order order) 0 (weights i) (weights p)
      ((speakers_mirror order).weights i h))

  pub scenes_mirror : ScenesMirror order
  scenes_mirror = record {
    voices = voice_swapped;
    outputs = voice_exchanged;
    decoders = λ ok l all. blocks_mirror (channels_of l) (channels_of_order order) (matrix_of order l)
        (partner_in (partners l)) (matrix_partners ok l all);
    signals = signal_swapped;
  }
