-- `demo_line::voice_of` meets its contract. Assumes nothing.
use Rattle.lists.specs.Prelude.{rules}
use Rattle.std.specs.Prelude.{◌+◌, ◌*◌}
use Rattle.lists.proofs.Made.{made_table}
use Rattle.big_endian.specs.Fields.{float_at}
use Rattle.big_endian.specs.Lists.{strided}
use Rattle.demo_line.proofs.voice_of.Goals as goal

pub returns : goal.returns
unfolding strided
returns c =
    made_table _ (λ n. float_at c.args.bytes.now (8 + n * 4)) _ (λ i y q called. search rules) c.from_fn.ensures.items
