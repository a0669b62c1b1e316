-- Wrong answers to a record, each held against the promise. Assumes nothing.
use Rattle.std.specs.Prelude.{◌≡◌, ◌∷◌, ◌++◌}
use Rattle.lists.specs.Prelude.{refl, sym, ap, ◌∙◌, Bool, true, List, [], flat_map, ℕ, arith, pos, Float, mul, round}
use Rattle.lists.specs.Prelude.{of_int, of_bits, to_bits, get_or, replicate}
use Rattle.refusals.specs.Refusals.{first_of, ◌when◌}
use Rattle.formats.specs.Floats.{zero_float, one_float, float}
use Rattle.numbers.specs.Computed.{rounded}
use Rattle.big_endian.specs.Bytes.{value_of, bytes_of}
use Rattle.big_endian.specs.Fields.{field_at, float_at, double_at}
use Rattle.big_endian.specs.Lists.{strided, field_bytes, float_bytes, double_bytes}
use Rattle.channel.specs.declared.Layout.TheVariants.{Surround51}
use Rattle.surround.specs.Promise.{SurroundGains}
use Rattle.surround.specs.Promise.{outcome}
use Rattle.surround.proofs.Laws.{refusal_is}
use Rattle.surround.proofs.Drill.{at_120}
use Rattle.panner.specs.Commands.{angle_refused}
use Rattle.panner.specs.Blocks.{narrowed_all, panned_frames}
use Rattle.demo_line.specs.Records.{Placed}
use Rattle.demo_line.specs.Records.{demo_command_at, demo_voice_at, demo_refusal_at, Places}
use Rattle.demo_line.proofs.Places.{refused_is, played_is}

-- ---- an azimuth that is refused is told as played, whatever the line
refused_and_played : (bytes line : List ℕ) → angle_refused (demo_command_at bytes) ≡ true
    → Places bytes (record { refusal = 0; line = line }) → ⊥
refused_and_played bytes line h p =
    let three : demo_refusal_at bytes ≡ 3 = ap (λ (b : Bool). first_of (3 when b ∷ [])) h in
    let told = ap (λ (r : Placed). r.refusal) (refused_is bytes _ p (λ z. omega (arith, three, z))) in
    omega (arith, three, told)

-- ---- a voice of 1.0 at 120, where only Ls sounds
abbrev voice : List Float
voice = replicate 32 one_float

abbrev bytes120 : List ℕ
bytes120 = double_bytes (float (pos 120) ∷ []) ++ float_bytes voice

azimuth_is : double_at bytes120 0 ≡ float (pos 120)
unfolding field_bytes flat_map bytes_of to_bits double_at field_at value_of of_bits of_int
azimuth_is = refl

voice_is : demo_voice_at bytes120 ≡ voice
unfolding field_bytes flat_map bytes_of to_bits strided float_at field_at value_of of_bits of_int
voice_is = refl

-- the fifth sample of the line is 1.0, whose first byte is 63
abbrev ls_byte : List Float → List Float → ℕ
ls_byte gains xs = get_or (flat_map float_bytes (panned_frames 32 32 6 (narrowed_all gains) xs)) 16 0

ls_first : (line : List ℕ) → Places bytes120 (record { refusal = 0; line = line }) → get_or line 16 0 ≡ 63
unfolding field_bytes flat_map bytes_of to_bits rounded round mul
ls_first line p =
    let accepted : demo_refusal_at bytes120 ≡ 0 =
    sym (refusal_is Surround51 (double_at bytes120 0)) ∙ ap (λ (x : Float). (outcome Surround51 x).refusal) azimuth_is
    ∙ ap (λ (g : SurroundGains). g.refusal) at_120 in
    ap (λ (r : Placed). get_or r.line 16 0) (played_is bytes120 _ p accepted)
    ∙ (λ j. ls_byte (outcome Surround51 (azimuth_is j)).gains (voice_is j))
    ∙ ap (λ (g : SurroundGains). ls_byte g.gains voice) at_120

-- plane after plane stands in the line, and not frame after frame
abbrev planes : List Float
planes = replicate 128 zero_float ++ (voice ++ replicate 32 zero_float)

plane_after_plane : Places bytes120 (record { refusal = 0; line = float_bytes planes }) → ⊥
unfolding field_bytes flat_map bytes_of to_bits
plane_after_plane p =
    let told : ◌≡◌ {A = ℕ} 0 63 = ls_first (float_bytes planes) p in
    omega arith
