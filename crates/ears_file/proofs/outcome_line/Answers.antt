-- `ears_file::outcome_line` meets its contract. Assumes nothing.
use Rattle.lists.specs.Prelude.{rules}
use Rattle.ears_wire.proofs.Lengths.{frames_short, refused_short, refused_at_short}
use Rattle.ears_file.proofs.Ending.{line_counts, told_failed, told_played, told_part_frame, told_bank}
use Rattle.ears_file.proofs.outcome_line.Goals as goal

pub returns-then-run-clause-lined : goal.returns-then-run-clause-lined
returns-then-run-clause-lined c = search (told_failed, rules)

pub returns-then-ended-eq0 : goal.returns-then-ended-eq0
returns-then-ended-eq0 c = record {
  lined = told_played _ _ _ _ c.if-run.false c.if-ended-eq0.true c.frames_line.ensures;
  room = line_counts _ _ _ _ (frames_short _ _) c.frames_line.ensures (search rules);
}

pub returns-then-ended-eq-PART_FRAME : goal.returns-then-ended-eq-PART_FRAME
returns-then-ended-eq-PART_FRAME c = record {
  lined = told_part_frame _ _ _ _ c.if-run.false c.if-ended-eq0.false c.if-ended-eq-PART_FRAME.true
      c.refused_line.ensures;
  room = line_counts _ _ _ _ (refused_short _) c.refused_line.ensures (search rules);
}

pub returns : goal.returns
returns c = record {
  lined = told_bank _ _ _ _ c.if-run.false c.if-ended-eq0.false c.if-ended-eq-PART_FRAME.false
      c.refused_at_line.ensures;
  room = line_counts _ _ _ _ (refused_at_short _ _) c.refused_at_line.ensures (search rules);
}
