-- `hrtf::frames::scale` meets its contract: 1 to 8 speakers have an inverse root. Assumes nothing.
use Rattle.lists.specs.Prelude.{ap, Float}
use Rattle.numbers.proofs.Normalization.{inverse_ok, inverse_known}
use Rattle.hrtf.proofs.frames.scale.Goals as goal

pub unwrap-inverse_root-requires : goal.unwrap-inverse_root-requires
unwrap-inverse_root-requires c = inverse_ok _ _ c.requires.0 c.inverse_root.ensures

pub returns : goal.returns
returns c =
    ap (λ (v : Float). record { shape = c.args.shape; inverse_root = v })
    (inverse_known _ _ _ c.requires.0 c.inverse_root.ensures c.unwrap-inverse_root.ensures)
