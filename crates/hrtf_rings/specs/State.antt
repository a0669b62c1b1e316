-- What a convolver keeps from frame to frame: the rings, speaker by speaker, and the desk's record. Definitions only.
use Rattle.std.specs.Prelude.{◌*◌, ◌<◌, ◌≡◌}
use Rattle.lists.specs.Prelude.{ℕ, List, length, Float}
use Rattle.hrtf_desk.specs.declared.Desk.{Desk}

pub record State : Type 0 where
  pub rings : List Float
  pub desk : Desk

-- rings of the cells that so many speakers need, and a desk whose numbers are below L: as a reset leaves them, and
-- every block
pub record StateFits (speakers L : ℕ) (t : State) : Type 0 where
  pub ringed : length t.rings ≡ speakers * L
  pub within : t.desk.position < L
  pub waits : t.desk.to_go < L
