-- A step of the loop: a read keeps what stands for the line, nothing more is a part of no bytes, and silence stands for
-- a line of none. Assumes nothing.
use Rattle.std.specs.Prelude.{◌≡◌, ◌++◌, ◌*◌, ◌≤◌, ◌<◌, Result, Ok, Err, IfErr}
use Rattle.lists.specs.Prelude.{refl, sym, ap, ◌∙◌, subst, Bool, true, false, List, [], flat_map, append-nil, ℕ, arith}
use Rattle.lists.specs.Prelude.{ne_eqb, eqb, length, take, drop, replicate, length-take, length-drop, Float}
use Rattle.std.specs.declared.option.Option.{Option}
use Rattle.std.specs.declared.option.Option.TheVariants.{Some}
use Rattle.formats.specs.Floats.{zero_float}
use Rattle.lists.specs.Tables.{tab, chunk}
use Rattle.hrtf_desk.specs.Numbers.{zeroed}
use Rattle.hrtf_history.specs.Setup.{Setup}
use Rattle.hrtf_history.specs.History.{heard, after}
use Rattle.hrtf_rings.specs.Held.{Represents}
use Rattle.hrtf_rings.proofs.Blocks.{fresh_represents}
use Rattle.ears_wire.specs.Ears.{ear_bytes}
use Rattle.ears_wire.specs.Records.{whole_in_of, rest_in}
use Rattle.ears_wire.specs.Frames.{frame_of, line_frames}
use Rattle.ears_file.specs.declared.turn.Progress.{Progress}
use Rattle.ears_file.specs.declared.turn.Turn.{Turn}
use Rattle.ears_file.specs.Promise.{bytes_beyond}
use Rattle.ears_file.specs.Turns.{at_start, turn_or_none, Stands, Further}

-- fewer bytes are held than a frame has
pub holds_few : (u : Setup) (line : List ℕ) (p : Progress) (rings : List Float) (bytes : List ℕ)
    → Stands u line p rings bytes → p.held < 24
holds_few u line p rings bytes s = omega (arith, s.holds, length-drop (whole_in_of 24 line * 24) line)

-- before the first byte: silence in every ring
pub start_stands : (u : Setup) (p : Progress) (rings : List Float) (bytes : List ℕ) → 0 < u.L → p ≡ at_start
    → rings ≡ replicate (u.speakers * u.L) zero_float → Stands u [] p rings bytes
start_stands u p rings bytes some e silent =
    subst (λ (q : Progress). Stands u [] q rings bytes) (sym e)
    (record {
      history = subst (λ (rs : List Float). Represents u [] (record { rings = rs; desk = zeroed })) (sym silent)
          (fresh_represents u some);
      keeps = refl;
      holds = refl;
      frames = refl;
      unsettled = refl;
    })

-- what a step that leaves a turn goes on to
pub went_on : (u : Setup) (p : Progress) (rings : List Float) (bytes part : List ℕ) (step : Option Turn) (r : Turn)
    {rings₁ : List Float} {bytes₁ out₁ : List ℕ} → step ≡ Some r
    → Further u p rings bytes part (turn_or_none p step) rings₁ bytes₁ out₁ → (line : List ℕ)
    → Stands u line p rings bytes → Stands u (line ++ part) r.progress rings₁ bytes₁
went_on u p rings bytes part step r {rings₁} {bytes₁} {out₁} e f =
    (subst (λ (s : Option Turn). Further u p rings bytes part (turn_or_none p s) rings₁ bytes₁ out₁) e f).stands

-- what a step goes on to, it has gone on to where it then fails
pub failing_further : {A E : Type 0} {u : Setup} {p : Progress} {rings : List Float} {bytes part : List ℕ} {r : Turn}
    {rings₁ : List Float} {bytes₁ out₁ : List ℕ} (x : Result A E)
    → Further u p rings bytes part r rings₁ bytes₁ out₁
    → IfErr x (λ e. (part : List ℕ) × (turn : Turn) × Further u p rings bytes part turn rings₁ bytes₁ out₁)
failing_further (Ok a) f = tt
failing_further {part = part} {r = r} (Err e) f = (part, r, f)

-- ---- a read

module _ (u : Setup) (p : Progress) (rings : List Float) (bytes read : List ℕ)
    (kept : take p.held read ≡ take p.held bytes) where
  -- what a step promises
  abbrev FurtherBy : Bool → Turn → List Float → List ℕ → List ℕ → Type 0
  FurtherBy over r rings₁ bytes₁ out₁ =
      (part : List ℕ) × (over ≡ eqb (length part) 0) × Further u p rings bytes part r rings₁ bytes₁ out₁

  stays : (line : List ℕ) → Stands u line p rings bytes → Stands u line p rings read
  stays line s = record {
    history = s.history;
    keeps = kept ∙ s.keeps;
    holds = s.holds;
    frames = s.frames;
    unsettled = s.unsettled;
  }

  -- what a turn leaves of the bytes after a read, it leaves of those before it; and some bytes are a part that is not
  -- empty
  pub read_further : (size : ℕ) (r : Turn) (rings₁ : List Float) (bytes₁ out₁ : List ℕ) → p.held < size
      → size ≤ length read
      → Further u p rings read (drop p.held (take size read)) r rings₁ bytes₁ out₁
      → FurtherBy false r rings₁ bytes₁ out₁
  read_further size r rings₁ bytes₁ out₁ low high f =
      let part = drop p.held (take size read) in
      let some : length part ≡ 0 → ⊥ = λ e. omega (
        arith,
        e,
        length-drop p.held (take size read),
        length-take size read,
      ) in (
        part,
        sym (ne_eqb _ _ some),
        record { stands = λ line s. f.stands line (stays line s); put = λ line s. f.put line (stays line s) },
      )

  -- nothing makes no frame whole
  none_beyond : (line : List ℕ) → [] ≡ bytes_beyond u line []
  unfolding ear_bytes flat_map
  none_beyond line =
      let few : whole_in_of 24 (rest_in 24 line) ≡ 0 = omega (arith, length-drop (whole_in_of 24 line * 24) line) in
      let none : line_frames (rest_in 24 line ++ []) ≡ [] = ap line_frames (append-nil (rest_in 24 line))
      ∙ ap (λ (m : ℕ). tab 0 m (λ i. frame_of (chunk 24 i (rest_in 24 line)))) few in
      sym (ap (λ (fs : List (List Float)). ear_bytes (heard u (after u [] (line_frames line)) fs)) none)

  -- nothing more came
  pub none_further : (out₁ : List ℕ) → FurtherBy true (record { progress = p; bytes = 0 }) rings read out₁
  none_further out₁ = (
    [],
    refl,
    record {
      stands = λ line s. subst (λ (bs : List ℕ). Stands u bs p rings read) (sym (append-nil line)) (stays line s);
      put = λ line s. none_beyond line;
    },
  )
