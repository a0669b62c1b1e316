-- How a run is told. Assumes nothing.
use Rattle.std.specs.Prelude.{◌≡◌, ◌≤◌}
use Rattle.lists.specs.Prelude.{sym, ap, ◌∙◌, subst, true, false, List, [], ℕ, arith, eq-eqb, ne_eqb, length}
use Rattle.lists.proofs.Tests.{cond_true, cond_false}
use Rattle.io.specs.Counts.{IsPrefixLen}
use Rattle.refusals.proofs.First.{answered_accepted, answered_refused}
use Rattle.ears_wire.specs.Line.{frames_line, refused_line, refused_at_line}
use Rattle.ears_wire.specs.Promise.{LineGiven, Lined}
use Rattle.ears_wire.proofs.Meets.{line_ends, line_empty}
use Rattle.ears_file.specs.declared.RunOutcome.{RunOutcome}
use Rattle.ears_file.specs.Lines.{refusal_line, result_line}
use Rattle.files.proofs.Parts.{counts}

-- ---- the line of a run

-- a list that has room for the longest line has room for this one, and a caller can cut it off
pub line_counts : (out line : List ℕ) (size : ℕ) (after : List ℕ) → length line ≤ 59 → Lined out line size after
    → length after ≡ length out → IsPrefixLen size after
line_counts out line size after short put same =
    counts size after (omega (arith, same, ap (λ (g : LineGiven). g.size) put, line_ends out line (omega arith)))

told_by : (r : RunOutcome) (out line : List ℕ) (size : ℕ) (after : List ℕ) → result_line r ≡ line
    → Lined out line size after
    → Lined out (result_line r) size after
told_by r out line size after e put = subst (λ (l : List ℕ). Lined out l size after) (sym e) put

pub told_failed : (r : RunOutcome) (out : List ℕ) → r.failed ≡ true → Lined out (result_line r) 0 out
told_failed r out e = told_by r out [] 0 out (cond_true _ _ e) (sym (line_empty out))

-- a refusal, by whether it is of a part frame
module _ (r : RunOutcome) (out : List ℕ) (size : ℕ) (after : List ℕ) (ran : r.failed ≡ false)
    (some : r.ended.refusal ≡ 0 → ⊥) where
  refusal_line_lem : result_line r ≡ refusal_line r.ended r.ended.refusal
  refusal_line_lem = cond_false _ _ ran ∙ answered_refused _ (refusal_line r.ended) _ some

  pub told_part_frame : r.ended.refusal ≡ 9 → Lined out (refused_line r.ended.refusal) size after
      → Lined out (result_line r) size after
  told_part_frame nine put =
      told_by r out _ size after (refusal_line_lem ∙ cond_true _ _ (eq-eqb r.ended.refusal 9 nine)) put

  pub told_bank : (r.ended.refusal ≡ 9 → ⊥) → Lined out (refused_at_line r.ended.refusal r.ended.place) size
      after → Lined out (result_line r) size after
  told_bank other put =
      told_by r out _ size after (refusal_line_lem ∙ cond_false _ _ (ne_eqb r.ended.refusal 9 other)) put

pub told_played : (r : RunOutcome) (out : List ℕ) (size : ℕ) (after : List ℕ) → r.failed ≡ false
    → r.ended.refusal ≡ 0
    → Lined out (frames_line r.ended.frames r.ended.unsettled) size after → Lined out (result_line r) size after
told_played r out size after e none put =
    told_by r out _ size after (cond_false _ _ e ∙ answered_accepted _ _ _ none) put
