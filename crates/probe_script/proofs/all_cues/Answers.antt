-- `probe_script::all_cues` meets its contract. Assumes nothing.
use Rattle.lists.specs.Prelude.{rules}
use Rattle.std.specs.Prelude.{◌+◌, ◌*◌}
use Rattle.lists.proofs.Made.{made_table}
use Rattle.big_endian.specs.Lists.{strided}
use Rattle.probe_script.specs.Answers.{cue_at}
use Rattle.probe_script.proofs.all_cues.Goals as goal

pub returns : goal.returns
unfolding strided
returns c =
    made_table _ (λ k. cue_at c.args.args.now (46 + k * 24)) _ (λ i y q called. search rules) c.from_fn.ensures.items
