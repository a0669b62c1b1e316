-- Wrong ways to answer, each held against the promise. Assumes nothing.
use Rattle.std.specs.Prelude.{◌≡◌, ◌∷◌, ◌-◌, ◌≤◌, ◌<◌}
use Rattle.lists.specs.Prelude.{refl, sym, ap, ◌∙◌, true, false, true≢false, List, [], ℕ, arith, lit<, pos, negsuc}
use Rattle.lists.specs.Prelude.{length, get_or, Float, fin, binary32, mul, round, of_int}
use lib.Ieee.Positive.{positive}
use Rattle.refusals.specs.Refusals.{first_of}
use Rattle.formats.specs.Floats.{zero_float, float}
use Rattle.numbers.specs.Computed.{narrowed, rounded}
use Rattle.lists.proofs.Tables.{length_tab}
use Rattle.planes.specs.Planes.{sample_at, with_frames}
use Rattle.planes.proofs.Planes.{with_frames_other}
use Rattle.channel.specs.declared.Layout.{Layout}
use Rattle.channel.specs.declared.Layout.TheVariants.{Mono, Custom}
use Rattle.stereo.specs.Promise.{StereoAnswer}
use Rattle.stereo.proofs.Drill.{at_minus_100}
use Rattle.harmonics.specs.declared.Direction.{Direction}
use Rattle.panner.specs.declared.Command.{Command}
use Rattle.panner.specs.declared.Command.TheVariants.{Stereo, Ambisonic}
use Rattle.panner.specs.Commands.{command_checks}
use Rattle.panner.specs.Blocks.{PannedShape, most_frames}
use Rattle.panner.specs.Promise.{PannerPromise}
use Rattle.panner.specs.Halves.{GainsAnswer, CommandGainsPromise, panned_part}
use Rattle.panner.proofs.Halves.{gained_number, gained_accepted, gained_refused}
use Rattle.panner.proofs.Played.{refusal_is, all_counted, frames_most, every_frame}

-- ---- it stops at 4,096 frames, and says nothing: a block with more is not accepted, whatever it holds
stops_at_4096 : (s : PannedShape) (input out after : List Float) (n : ℕ) → most_frames < s.frames
    → PannerPromise s input out (record { refusal = 0; samples = n }) after → ⊥
stops_at_4096 s input out after n h p =
    omega (arith, frames_most s input out (record { refusal = 0; samples = n }) after p refl)

-- ---- it plays a wrong order as the first: order 4 is refused by 1
order_4_played : (d : Direction) (l : Layout) (frames stride n : ℕ) (input out after : List Float)
    → PannerPromise (record { command = Ambisonic d 4; layout = l; frames = frames; stride = stride }) input out
    (record { refusal = 0; samples = n }) after → ⊥
order_4_played d l frames stride n input out after p =
    let e : ◌≡◌ {A = ℕ} 0 1 = refusal_is
    (record { command = Ambisonic d 4; layout = l; frames = frames; stride = stride }) input out
    (record { refusal = 0; samples = n }) after p in
    omega arith

-- ---- beside a stereo position too a Custom layout of seventeen channels is refused
custom_17_played : (x : Float) (frames stride n : ℕ) (input out after : List Float)
    → PannerPromise (record { command = Stereo x; layout = Custom 17; frames = frames; stride = stride }) input out
    (record { refusal = 0; samples = n }) after → ⊥
custom_17_played x frames stride n input out after p =
    let e : ◌≡◌ {A = ℕ} 0 2 = refusal_is
    (record { command = Stereo x; layout = Custom 17; frames = frames; stride = stride }) input out
    (record { refusal = 0; samples = n }) after p in
    omega arith

-- ---- it counts the stride for the frames
stride_counted : (s : PannedShape) (input out after : List Float) → (s.frames ≡ s.stride → ⊥)
    → PannerPromise s input out (record { refusal = 0; samples = s.stride }) after → ⊥
stride_counted s input out after other p =
    other (sym (all_counted s input out (record { refusal = 0; samples = s.stride }) after p refl))

-- ---- two frames, 1 and 1, played to the left, over planes that hold 0
abbrev one : Float
one = fin false 1 (pos 0)

abbrev two_frames : PannedShape
two_frames = record { command = Stereo (float (negsuc 99)); layout = Mono; frames = 2; stride = 2 }

abbrev ones : List Float
ones = one ∷ one ∷ []

abbrev zeros : List Float
zeros = zero_float ∷ zero_float ∷ zero_float ∷ zero_float ∷ []

second_left : (after : List Float) → PannerPromise two_frames ones zeros (record { refusal = 0; samples = 2 }) after
    → positive (sample_at after 2 0 1) ≡ true
unfolding rounded round mul of_int
second_left after p =
    ap positive (every_frame two_frames ones zeros (record { refusal = 0; samples = 2 }) after p refl 1 0 (lit< tt)
    (lit< tt) ∙ ap (λ (g : StereoAnswer). mul binary32 one (narrowed g.left)) at_minus_100)

-- it stops early, and keeps the tail that was there
stops_early : PannerPromise two_frames ones zeros (record { refusal = 0; samples = 2 })
    (one ∷ zero_float ∷ zero_float ∷ zero_float ∷ []) → ⊥
stops_early p = true≢false (sym (second_left _ p))

-- it writes nothing
silent : PannerPromise two_frames ones zeros (record { refusal = 0; samples = 2 }) zeros → ⊥
silent p = true≢false (sym (second_left _ p))

-- ---- a command that is refused is given planes
planes_though_refused : (c : Command) (l : Layout) (answer : GainsAnswer) → (first_of (command_checks c l) ≡ 0 → ⊥)
    → CommandGainsPromise c l answer → (answer.planes ≡ 0 → ⊥) → ⊥
planes_though_refused c l answer refused p other =
    other (ap (λ (r : GainsAnswer). r.planes) (gained_refused c l answer p refused))

-- ---- the left gain of a command stands in the second place: at -100 the first plane has it
left_in_the_second_place : (gs : List Float) → CommandGainsPromise (Stereo (float (negsuc 99))) Mono
    (record { refusal = 0; planes = 2; gains = zero_float ∷ gs }) → ⊥
unfolding rounded round of_int
left_in_the_second_place gs p =
    let c = Stereo (float (negsuc 99)) in
    let g : GainsAnswer = record { refusal = 0; planes = 2; gains = zero_float ∷ gs } in
    true≢false
    (sym (ap (λ (r : GainsAnswer). positive (get_or r.gains 0 zero_float))
    (gained_accepted c Mono g p (sym (gained_number c Mono g p)))
    ∙ ap (λ (r : StereoAnswer). positive (narrowed r.left)) at_minus_100))

-- ---- a part plays frames before its first
frame_before_the_part : (out after : List Float) (stride from to planes : ℕ) (gains input : List Float)
    → after ≡ with_frames out stride from (panned_part stride from to planes gains input)
    → from ≤ to → to ≤ stride → (n p : ℕ) → n < from → (sample_at after stride p n ≡ sample_at out stride p n → ⊥) → ⊥
frame_before_the_part out after stride from to planes gains input e a b n p h other =
    other
    (ap (λ (l : List Float). sample_at l stride p n) e
    ∙ with_frames_other out stride from part p n (omega (arith, h, a, b)) (omega (arith, size, a, b))
    (λ k l q. omega (arith, h, q)))
  where
    part : List (List Float)
    part = panned_part stride from to planes gains input

    size : length (panned_part stride from to planes gains input) ≡ to - from
    size = length_tab from (to - from) _
