-- `probe_planes::decode` meets its contract. Assumes nothing.
use Rattle.probe_request.proofs.Requests.{lent_places, lent_length}
use Rattle.probe_planes.proofs.Decoded.{decode_none, decode_some, decode_fits}
use Rattle.probe_planes.proofs.decode.Goals as goal

pub decode_lent-requires : goal.decode_lent-requires
decode_lent-requires c =
    decode_fits _ _ _ _ _ _ _ (lent_places _ _ _ c.lent-w.ensures) (lent_places _ _ _ c.lent-i.ensures)
    (lent_places _ _ _ c.lent-o.ensures) c.if-args-w.false

pub returns-then-args-w : goal.returns-then-args-w
returns-then-args-w c = search decode_none

pub returns : goal.returns
returns c =
    decode_some c.args.args.now c.args.out.now _ _ _ _ (lent_length _ _ _ c.lent-w.ensures)
    (lent_length _ _ _ c.lent-i.ensures) (lent_length _ _ _ c.lent-o.ensures)
    (decode_fits _ _ _ _ _ _ _ (lent_places _ _ _ c.lent-w.ensures) (lent_places _ _ _ c.lent-i.ensures)
    (lent_places _ _ _ c.lent-o.ensures) c.if-args-w.false)
    c.decode_lent.ensures
