-- `probe::put_answer` meets its contract: by the operation. Assumes nothing.
use Rattle.std.proofs.Common.{◌∙◌, arith, rules}
use Rattle.probe.proofs.Meets.{of_numbers, of_bank, of_gains, of_matrix, of_planes, of_hrtf, of_setup}
use Rattle.probe.proofs.Meets.{of_script, of_replay, of_conversions, of_sum, of_none}
use Rattle.probe.proofs.put_answer.Goals as goal

pub returns-in-14 : goal.returns-in-14
returns-in-14 c = c.answer.ensures ∙ of_planes _ _ _ c.in-14.is

pub returns-in-15 : goal.returns-in-15
returns-in-15 c = c.answer-in-15.ensures ∙ of_matrix _ _ _ c.in-15.is

pub returns-in-21 : goal.returns-in-21
returns-in-21 c = c.answer-in-21.ensures ∙ of_script _ _ _ c.in-21.is

pub returns-in-22 : goal.returns-in-22
returns-in-22 c = c.answer-in-22.ensures ∙ of_replay _ _ _ c.in-22.is

pub returns-in-25 : goal.returns-in-25
returns-in-25 c = c.answer-in-25.ensures ∙ of_sum _ _ _ c.in-25.is

pub returns-in-1-to-5 : goal.returns-in-1-to-5
returns-in-1-to-5 c = c.answer-in-1-to-5.ensures ∙ of_numbers _ _ _ (omega arith) (omega arith)

pub returns-in-6-to-8 : goal.returns-in-6-to-8
returns-in-6-to-8 c = c.answer-in-6-to-8.ensures ∙ of_bank _ _ _ (omega arith) (omega arith)

pub returns-in-9-to-13 : goal.returns-in-9-to-13
returns-in-9-to-13 c = c.answer-in-9-to-13.ensures ∙ of_gains _ _ _ (omega arith) (omega arith)

pub returns-in-17 : goal.returns-in-17
returns-in-17 c =
    c.answer-in-17.ensures
    ∙ of_hrtf _ _ _ (search rules) (λ e. omega arith) (omega arith) (omega arith)

pub returns-in-19 : goal.returns-in-19
returns-in-19 c = c.answer-in-19.ensures ∙ of_setup _ _ _ (omega arith) (omega arith)

pub returns-in-23 : goal.returns-in-23
returns-in-23 c = c.answer-in-23.ensures ∙ of_conversions _ _ _ (omega arith) (omega arith)

pub returns-in_default : goal.returns-in_default
returns-in_default c = of_none _ _ _ (λ h. omega arith)

pub returns-in_default-2 : goal.returns-in_default-2
returns-in_default-2 c = of_none _ _ _ (λ h. omega arith)
