use Rattle.surround.specs.Computed.{channel_gain}
use Rattle.lists.proofs.Filling.{Filling}
use Rattle.surround.proofs.raw_gains.Given as goal

abbrev pub invariant-loop-c : goal.invariant-loop-c
invariant-loop-c l = Filling (channel_gain l.layout l.azimuth) l.channels l.initial.gain-items l.gain-items l.c
