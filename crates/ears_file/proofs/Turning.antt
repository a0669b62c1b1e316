-- What a turn leaves, from what `ears_wire` and `hrtf` promise: `turn_further`. Where something stands for a line the
-- convolver does not refuse. Assumes nothing.
use Rattle.std.specs.Prelude.{◌≡◌, ◌++◌, ◌+◌, ◌-◌, ◌*◌, ◌≤◌, ◌<◌, Result, IsOk}
use Rattle.lists.specs.Prelude.{sym, ap, ◌∙◌, subst, List, [], ℕ, arith, length, take, drop, length-drop}
use Rattle.lists.specs.Prelude.{take-append-drop, take-take, length-take-le, Float}
use Rattle.lists.specs.Tables.{chunk}
use Rattle.lists.specs.Placed.{placed}
use Rattle.lists.proofs.Placed.{take_placed}
use Rattle.lists.proofs.Tables.{length_tab}
use Rattle.checks.proofs.Checks.{planes_fit}
use Rattle.planes.specs.Planes.{frame_at, frames_of, with_frames}
use Rattle.planes.proofs.Planes.{length_with_frames, frames_read}
use Rattle.hrtf_history.specs.Setup.{Setup}
use Rattle.hrtf_history.specs.History.{heard, unsettled_in, after}
use Rattle.hrtf_history.proofs.Pieces.{length_heard, two_each}
use Rattle.hrtf_rings.specs.State.{State, StateFits}
use Rattle.hrtf_rings.specs.Held.{Represents}
use Rattle.hrtf_rings.proofs.Blocks.{rings_room, waits_few}
use Rattle.hrtf_checks.specs.declared.ConvolverShape.{ConvolverShape}
use Rattle.hrtf_checks.specs.Call.{BlockCall, setup_of}
use Rattle.hrtf_checks.specs.Refusals.{refusal_of}
use Rattle.hrtf.specs.declared.BlockAnswer.{BlockAnswer}
use Rattle.hrtf.specs.Promise.{BlockOutcome, block_told, ProcessPromise, state_after}
use Rattle.hrtf.proofs.Meets.{process_ok, ears_over, unsettled_over}
use Rattle.ears_wire.specs.Records.{whole_in_of, rest_in}
use Rattle.ears_wire.specs.Frames.{frame_of, line_frames}
use Rattle.ears_wire.specs.Ears.{ear_bytes}
use Rattle.refusals.specs.declared.Refusal.{Refusal}
use Rattle.refusals.proofs.Numbers.{accepted_ok}
use Rattle.ears_wire.specs.Promise.{Taken, Given, taken_told, given_told, FramesTaken}
use Rattle.ears_wire.specs.Promise.{frames_taken, EarsGiven, ears_given}
use Rattle.ears_wire.proofs.Meets.{taken_accepted, given_accepted}
use Rattle.ears_wire.proofs.Cut.{cut_rest}
use Rattle.ears_wire.proofs.Ears.{length_ears}
use Rattle.ears_wire.proofs.Lengths.{six_each}
use Rattle.ears_file.specs.declared.turn.Progress.{Progress}
use Rattle.ears_file.specs.declared.turn.Turn.{Turn}
use Rattle.ears_wire.specs.Counting.{counted_on}
use Rattle.ears_file.specs.Promise.{bytes_beyond}
use Rattle.ears_file.specs.Turns.{BlocksAccepted, Stands, Further}
use Rattle.ears_file.proofs.Cuts.{past_more, unsettled_more, whole_more}

-- rings and a desk that stand for a past fit
pub represents_fits : (u : Setup) (past : List (List Float)) (t : State) → Represents u past t
    → StateFits u.speakers u.L t
represents_fits u past t r = record { ringed = rings_room u past t r; within = r.0; waits = waits_few u past t r }

-- a count that is added to is the count of all
counted_on_lem : (count so_far more all now : ℕ) → count ≡ counted_on 0 so_far → now ≡ counted_on count more
    → so_far + more ≡ all → now ≡ counted_on 0 all
counted_on_lem count so_far more all now e f g = omega (arith, e, f, g)

-- a block's call
abbrev block : ConvolverShape → List Float → List ℕ → List Float → ℕ → List Float → List Float → BlockCall
block h weights rows taps n inputs ears =
    record {
      shape =
          h;
      frames = n;
      stride = 1024;
      inputs = inputs;
      weights = weights;
      rows = rows;
      taps = taps;
      ears = ears;
    }

-- the planes have room for every frame of so many bytes, and the list of bytes for its ears
frames_room : (size : ℕ) (bytes : List ℕ) → size ≤ 24576 → size ≤ length bytes
    → whole_in_of 24 (take size bytes) ≤ 1024
frames_room size bytes most long = omega (arith, length-take-le size bytes long)

pub frames_ok : (size : ℕ) (bytes : List ℕ) (inputs inputs₁ : List Float) (r : Result ℕ Refusal) → size ≤ 24576
    → size ≤ length bytes → length inputs ≡ 6144
    → record { answer = taken_told r; inputs = inputs₁ } ≡ frames_taken (take size bytes) 1024 inputs → IsOk r
frames_ok size bytes inputs inputs₁ r most long inputs_long e =
    accepted_ok r (ap (λ (f : FramesTaken). f.answer.refusal)
    (e ∙ taken_accepted (take size bytes) 1024 inputs
    (planes_fit (length inputs) 6 1024 (whole_in_of 24 (take size bytes)) (frames_room size bytes most long)
    inputs_long)))

-- with a set-up that is ready and a state that fits no block is refused
pub block_ok : (h : ConvolverShape) (weights : List Float) (rows : List ℕ) (taps : List Float)
    → BlocksAccepted h weights rows taps → (n : ℕ) (inputs ears : List Float) (t : State) → n ≤ 1024
    → length inputs ≡ 6144 → length ears ≡ 2048 → StateFits h.speakers h.length t
    → (r : Result BlockAnswer Refusal) {rings₁ ears₁ : List Float}
    → ProcessPromise (block h weights rows taps n inputs ears) t
    (record { answer = block_told t.desk r; rings = rings₁; ears = ears₁ }) → IsOk r
block_ok h weights rows taps ready n inputs ears t few inputs_long ears_long fits r p =
    process_ok (block h weights rows taps n inputs ears) t r
    (ready.accepts n inputs ears t few inputs_long ears_long fits) p

pub ears_ok : (ears : List Float) (n : ℕ) (out out₁ : List ℕ) (r : Result ℕ Refusal) → n ≤ 1024
    → length ears ≡ 2048 → length out ≡ 8192
    → record { answer = given_told r; out = out₁ } ≡ ears_given ears 1024 n out → IsOk r
ears_ok ears n out out₁ r few ears_long out_long e =
    accepted_ok r (ap (λ (g : EarsGiven). g.answer.refusal)
    (e ∙ given_accepted ears 1024 n out (planes_fit (length ears) 2 1024 n few ears_long)
    (omega (arith, few, out_long))))

-- the calls of a turn: frames from bytes, a block, bytes from ears
module _ (h : ConvolverShape) (weights : List Float) (rows : List ℕ) (taps : List Float)
    (ready : BlocksAccepted h weights rows taps)
    (p : Progress) (size : ℕ) (bytes : List ℕ) (inputs rings ears : List Float) (out : List ℕ)
    (sized : (p.held < size) × (size ≤ 24576) × (size ≤ length bytes))
    (inputs_long : length inputs ≡ 6144) (ears_long : length ears ≡ 2048) (out_long : length out ≡ 8192)
    (took : Taken) (inputs₁ : List Float)
    (taken_lem : record { answer = took; inputs = inputs₁ } ≡ frames_taken (take size bytes) 1024 inputs)
    (o : BlockOutcome) (processes : ProcessPromise (block h weights rows taps took.frames inputs₁ ears)
    (record { rings = rings; desk = p.desk }) o)
    (ears-kept : length o.ears ≡ length ears) (gave : Given) (out₁ : List ℕ)
    (given_lem : record { answer = gave; out = out₁ } ≡ ears_given o.ears 1024 took.frames out) where
  abbrev u : Setup
  u = setup_of h weights rows taps

  abbrev n : ℕ
  n = took.frames

  abbrev call : BlockCall
  call = block h weights rows taps n inputs₁ ears

  abbrev state : State
  state = record { rings = rings; desk = p.desk }

  abbrev part : List ℕ
  part = drop p.held (take size bytes)

  come_long : length (take size bytes) ≡ size
  come_long = length-take-le size bytes sized.2

  -- the planes have room, and so has the list of bytes
  taken_is : ◌≡◌ {A = FramesTaken} (record { answer = took; inputs = inputs₁ })
      (record {
        answer = record { refusal = 0; frames = whole_in_of 24 (take size bytes) };
        inputs = with_frames inputs 1024 0 (line_frames (take size bytes));
      })
  taken_is =
      let room : whole_in_of 24 (take size bytes) ≤ 1024 = omega (arith, come_long, sized.1) in
      taken_lem ∙ taken_accepted (take size bytes) 1024 inputs
      (planes_fit (length inputs) 6 1024 (whole_in_of 24 (take size bytes)) room inputs_long)

  count : n ≡ whole_in_of 24 (take size bytes)
  count = ap (λ (r : FramesTaken). r.answer.frames) taken_is

  filled : inputs₁ ≡ with_frames inputs 1024 0 (line_frames (take size bytes))
  filled = ap (λ (r : FramesTaken). r.inputs) taken_is

  pub few : n ≤ 1024
  few = omega (arith, count, come_long, sized.1)

  given_is : ◌≡◌ {A = EarsGiven} (record { answer = gave; out = out₁ })
      (record {
        answer = record { refusal = 0; bytes = n * 8 };
        out = placed out 0 (ear_bytes (frames_of o.ears 1024 2 n));
      })
  given_is =
      given_lem ∙ given_accepted o.ears 1024 n out (planes_fit (length o.ears) 2 1024 n few (ears-kept ∙ ears_long))
      (omega (arith, few, out_long))

  pub put_long : gave.bytes ≡ n * 8
  put_long = ap (λ (r : EarsGiven). r.answer.bytes) given_is

  module _ (line : List ℕ) (stood : Stands u line p rings bytes) where
    abbrev past : List (List Float)
    past = after u [] (line_frames line)

    comes : take size bytes ≡ rest_in 24 line ++ part
    comes =
        let low : p.held ≤ size = omega (arith, sized.0) in
        sym (take-append-drop p.held (take size bytes))
        ∙ ap (λ (bs : List ℕ). bs ++ part) (take-take p.held size bytes low ∙ stood.keeps)

    not_refused : refusal_of call state ≡ 0
    not_refused =
        let long : length inputs₁ ≡ 6144 = ap length (filled)
        ∙ length_with_frames inputs 1024 0 (line_frames (take size bytes)) ∙ inputs_long in
        ready.accepts n inputs₁ ears state few long ears_long (represents_fits u past state stood.history)

    -- the frames that stand in the input planes are those that have come
    read : frames_of inputs₁ 1024 h.channels n ≡ line_frames (rest_in 24 line ++ part)
    read =
        let come = take size bytes in
        let many : length (line_frames come) ≡ whole_in_of 24 come = length_tab 0 (whole_in_of 24 come)
        (λ i. frame_of (chunk 24 i come)) in
        ap (λ (xs : List Float). frames_of xs 1024 h.channels n) (filled)
        ∙ ap (λ (k : ℕ). frames_of (with_frames inputs 1024 0 (line_frames come)) 1024 k n) ready.six
        ∙ ap (frames_of (with_frames inputs 1024 0 (line_frames come)) 1024 6) (count ∙ sym many)
        ∙ frames_read 6 inputs 1024 (line_frames come) (omega (arith, many, count, few)) inputs_long (six_each come)
        ∙ ap line_frames comes

    -- and the ears that stand in the ear planes are those that are heard
    sounds : frames_of o.ears 1024 2 n ≡ heard u past (line_frames (rest_in 24 line ++ part))
    sounds =
        let fs = line_frames (rest_in 24 line ++ part) in
        let many : length (heard u past fs) ≡ n = length_heard u past fs ∙ ap length (sym read)
        ∙ length_tab 0 n (frame_at inputs₁ 1024 h.channels) in
        ap (λ (ys : List Float). frames_of ys 1024 2 n)
        (ears_over call state o processes past stood.history not_refused
        ∙ ap (λ (gs : List (List Float)). with_frames ears 1024 0 (heard u past gs)) read)
        ∙ ap (frames_of (with_frames ears 1024 0 (heard u past fs)) 1024 2) (sym many)
        ∙ frames_read 2 ears 1024 (heard u past fs) (omega (arith, many, few)) ears_long (two_each u past fs)

    put_out : take gave.bytes out₁ ≡ bytes_beyond u line part
    put_out =
        ap (take gave.bytes) (ap (λ (r : EarsGiven). r.out) given_is)
        ∙ take_placed out (ear_bytes (frames_of o.ears 1024 2 n)) gave.bytes
        (length_ears o.ears 1024 n ∙ sym put_long)
        ∙ ap ear_bytes sounds

    history : Represents u (after u [] (line_frames (line ++ part))) (state_after o)
    history =
        subst (λ (gs : List (List Float)). Represents u gs (state_after o))
        (ap (after u past) read ∙ past_more u line part)
        (processes.words past stood.history not_refused)

    rest : drop (n * 24) (take size bytes) ≡ rest_in 24 (line ++ part)
    rest = ap (λ (k : ℕ). drop (k * 24) (take size bytes)) (count) ∙ ap (rest_in 24) comes
        ∙ sym (cut_rest 24 (omega arith) line part)

    whole : whole_in_of 24 line + n ≡ whole_in_of 24 (line ++ part)
    whole = ap (λ (k : ℕ). whole_in_of 24 line + k) (count ∙ ap (whole_in_of 24) comes) ∙ whole_more line part

    unsettled : unsettled_in u 0 [] (line_frames line) + o.answer.unsettled ≡ unsettled_in u 0 []
        (line_frames (line ++ part))
    unsettled =
        ap (λ (k : ℕ). unsettled_in u 0 [] (line_frames line) + k)
        (unsettled_over call state o processes past stood.history not_refused ∙ ap (unsettled_in u 0 past) read)
        ∙ unsettled_more u line part

  -- and what is left of the bytes is kept, and all is counted
  module _ (bytes₁ : List ℕ) (kept : bytes₁ ≡ placed bytes 0 (drop (n * 24) (take size bytes))) (frames₁ unsettled₁ : ℕ)
      (frames-on : frames₁ ≡ counted_on p.frames n)
      (unsettled-on : unsettled₁ ≡ counted_on p.unsettled o.answer.unsettled) where
    left_long : length (drop (n * 24) (take size bytes)) ≡ size - n * 24
    left_long = length-drop (n * 24) (take size bytes) ∙ ap (λ (k : ℕ). k - n * 24) come_long

    abbrev turn : Turn
    turn = record {
      progress = record {
        desk = o.answer.desk;
        held = size - n * 24;
        frames = frames₁;
        unsettled = unsettled₁;
      };
      bytes = gave.bytes;
    }

    stands : (line : List ℕ) → Stands u line p rings bytes → Stands u (line ++ part) turn.progress o.rings bytes₁
    stands line stood =
        record {
          history = history line stood;
          keeps = ap (take (size - n * 24)) kept ∙ take_placed bytes (drop (n * 24) (take size bytes))
              (size - n * 24) left_long ∙ rest line stood;
          holds = sym left_long ∙ ap length (rest line stood);
          frames = counted_on_lem _ (whole_in_of 24 line) n _ _ stood.frames frames-on (whole line stood);
          unsettled = counted_on_lem _ (unsettled_in u 0 [] (line_frames line)) o.answer.unsettled _ _ stood.unsettled
              unsettled-on (unsettled line stood);
        }

    pub turn_further : Further u p rings bytes part turn o.rings bytes₁ out₁
    turn_further = record { stands = stands; put = put_out }
