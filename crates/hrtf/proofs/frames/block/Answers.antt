-- `hrtf::frames::block` meets its contract. A turn lends the rings and the ears to `one_frame`, and then the desk's
-- record, where it stands, to `step`; what the two leave is one frame further. All that the proof knows of them is that
-- each meets its contract. Assumes nothing.
use Rattle.std.specs.Prelude.{◌≡◌}
use mir.Val.{bool_byte}
use Rattle.lists.specs.Prelude.{refl, ◌∙◌, Bool, true, false, cond, arith}
use Rattle.hrtf.proofs.Playing.{playing_more}
use Rattle.hrtf.proofs.frames.block.Goals as goal

-- a `bool` as a count
one_if : (b : Bool) → bool_byte b ≡ cond b 1 0
one_if false = refl
one_if true = refl

pub loop-n-preserved : goal.loop-n-preserved
loop-n-preserved c =
    playing_more _ _ _ _ _ _ _ c.loop-n.invariant _ _ _ _ _ _ (omega arith) c.one_frame-played.ensures
    (c.from-unsettled.ensures ∙ one_if _) c.step.ensures
