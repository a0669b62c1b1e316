-- What the steps of the program hand to each other. Definitions only, and none that the public promise cites.
use Rattle.std.specs.Prelude.{◌-◌, ◌≡◌, Some}
use Rattle.lists.specs.Prelude.{ℕ, false, not, List, Float}
use Rattle.refusals.specs.Refusals.{first_of, answered}
use Rattle.lists.specs.Tables.{tab}
use Rattle.planes.specs.Planes.{sample_at}
use Rattle.channel.specs.Orders.{refuses_order}
use Rattle.harmonics.specs.Promise.{refuses_direction}
use Rattle.cues.specs.declared.Judgement.{Judgement}
use Rattle.harmonics.specs.declared.Direction.{Direction}
use Rattle.cues.specs.declared.Held.{Held}
use Rattle.cues.specs.Promise.{voice_of}
use Rattle.script.specs.Rendering.{Stretch, checks_of, spoken}
use Rattle.script.specs.Promise.{Rendered, answer_of}

-- ---- a segment

pub record Speakable (order : ℕ) (h : Held) : Type 0 where
  pub order_good : refuses_order order ≡ false
  pub direction_good : (d : Direction) → h.direction ≡ Some d → refuses_direction d ≡ false

abbrev pub Spoken : ℕ → Held → ℕ → ℕ → ℕ → List Float → List (List Float)
Spoken order h stride from to input = tab from (to - from) (λ n. spoken order (voice_of h) (sample_at input stride 0 n))

-- ---- the answer

abbrev pub refusal_by : Stretch → Judgement → ℕ → ℕ → ℕ
refusal_by s j input out = first_of (checks_of s (not j.good) j.rising j.seen input out)

abbrev pub answer_by : Stretch → Judgement → ℕ → ℕ → Rendered
answer_by s j input out = answered (refusal_by s j input out) (answer_of 0 s.frames) (λ n. answer_of n 0)
