-- `ears_wire::line::put_part` meets its contract: the part is copied into the list. Assumes nothing.
use Rattle.lists.specs.Prelude.{refl, arith}
use Rattle.ears_wire.proofs.Parts.{put_copied}
use Rattle.ears_wire.proofs.line.put_part.Goals as goal

pub returns : goal.returns
returns c =
    record {
      ends = refl;
      filled =
          put_copied c.args.out.now c.args.part.now c.copy_from_slice.new.self c.args.at _ (omega arith)
          c.copy_from_slice.ensures.after;
    }
