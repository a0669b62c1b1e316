-- `probe_hrtf::desk` meets its contract: each number is the one read. Assumes nothing.
use Rattle.std.specs.Prelude.{◌+◌}
use Rattle.lists.specs.Prelude.{arith}
use Rattle.probe_request.proofs.Requests.{place_number}
use Rattle.probe_hrtf.proofs.desk.Goals as goal

pub returns : goal.returns
returns c =
    let a = c.args in
    let long = c.well_formed.0.1 in
    let second = place_number a.args.now (omega arith) (a.at + 8) 8 (omega arith) (omega arith)
    c.behind.ensures c.number-2.ensures in
    λ i. record { position = c.number.ensures i; to_go = second i }
