-- docs/PROBE.md, 'Operations', 1 to 5: the count of the bytes of an answer and what the lent bytes hold with it, in the
-- order of the page. Definitions only.
use Rattle.std.specs.Prelude.{◌∷◌}
use Rattle.lists.specs.Prelude.{ℕ, cond, List, [], eqb}
use Rattle.numbers.specs.Computed as Numbers
use Rattle.series.specs.Sums.{Wave, sine, cosine}
use Rattle.angles.specs.Promise as Angles
use Rattle.big_endian.specs.Fields.{float_at, double_at}
use Rattle.big_endian.specs.Lists.{float_bytes, double_bytes}
use Rattle.probe_answer.specs.Answers.{Draft, none, taking, ◌then◌, refusal_and_doubles}

-- 1 widen: "f32 (4)", "f64 (8)". Widened, a float is the same number.
unfoldable pub widen_answer : List ℕ → List ℕ → Draft
widen_answer args out = taking 4 args out (none out then double_bytes (float_at args 0 ∷ []))

-- 2 narrow: "f64 (8)", "f32 (4)"
unfoldable pub narrow_answer : List ℕ → List ℕ → Draft
narrow_answer args out = taking 8 args out (none out then float_bytes (Numbers.narrowed (double_at args 0) ∷ []))

-- 3 root: "f64 (8)", "refusal (1), f64 (8)"
unfoldable pub root_answer : List ℕ → List ℕ → Draft
root_answer args out = let r = Numbers.root_answer (double_at args 0) in taking 8 args out
    (refusal_and_doubles r.refusal (r.value ∷ []) out)

-- 4 sine and 5 cosine: "f64, degrees (8)", "refusal (1), f64 (8)"
abbrev pub wave_of : ℕ → Wave
wave_of operation = cond (eqb operation 4) sine cosine

unfoldable pub wave_answer : ℕ → List ℕ → List ℕ → Draft
wave_answer operation args out = let r = Angles.outcome (wave_of operation) (double_at args 0) in taking 8 args out
    (refusal_and_doubles r.refusal (r.value ∷ []) out)

-- by the operation, and none to another one
unfoldable pub answer_of : ℕ → List ℕ → List ℕ → Draft
answer_of operation args out =
    cond (eqb operation 1) (widen_answer args out)
    (cond (eqb operation 2) (narrow_answer args out)
    (cond (eqb operation 3) (root_answer args out)
    (cond (eqb operation 4) (wave_answer 4 args out)
    (cond (eqb operation 5) (wave_answer 5 args out)
    (none out)))))
