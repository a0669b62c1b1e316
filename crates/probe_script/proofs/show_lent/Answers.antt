-- `probe_script::show_lent` meets its contract. Assumes nothing.
use Rattle.std.specs.Prelude.{◌+◌, ◌-◌}
use Rattle.lists.specs.Prelude.{◌∙◌, take, drop}
use Rattle.planes.specs.Blocks.{played}
use Rattle.probe_answer.specs.Answers as Answers
use Rattle.probe_script.proofs.Shown.{shows}
use Rattle.probe_script.proofs.show_lent.Goals as goal

pub returns : goal.returns
returns c =
    let a = c.args in
    shows a.args.now a.count _ a.planes.now _ a.at a.n a.out.now (played c.render_lent-answer.result) _
    c.render_lent-answer.ensures
    (c.put_played.ensures
    ∙ (λ i. Answers.played (c.number_in.ensures i) (c.unwrap_or.ensures i)
    (take (a.at + a.n - a.at) (drop a.at c.render_lent-answer.new.planes)) a.out.now))
