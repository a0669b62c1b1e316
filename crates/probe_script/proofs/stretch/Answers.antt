-- `probe_script::stretch` meets its contract. Assumes nothing.
use Rattle.lists.specs.Prelude.{ap, not}
use Rattle.probe_request.proofs.Requests.{lent_places, lent_length}
use Rattle.probe_script.proofs.Shown.{fitting, lent_first, lends, no_room, no_length, shown_lent}
use Rattle.probe_script.proofs.stretch.Goals as goal

pub returns-then-not-fits_room : goal.returns-then-not-fits_room
returns-then-not-fits_room c =
    no_room c.args.args.now c.args.out.now _ _ _ _ _ c.number-count.ensures c.lent-i.ensures c.number-o.ensures
    c.number-at.ensures c.lent-n.ensures _ c.fits_room.ensures (ap not c.if-not-fits_room.true)

pub returns-then-args-count : goal.returns-then-args-count
returns-then-args-count c =
    no_length c.args.args.now c.args.out.now _ _ _ _ _ c.number-count.ensures c.lent-i.ensures c.number-o.ensures
    c.number-at.ensures c.lent-n.ensures _ c.fits_room.ensures (ap not c.if-not-fits_room.false) c.if-args-count.true

pub slice_bounds-show_lent-end : goal.slice_bounds-show_lent-end
slice_bounds-show_lent-end c = lent_places _ _ _ c.lent-i.ensures

-- what is asked for fits
pub slice_bounds-planes-end : goal.slice_bounds-planes-end
slice_bounds-planes-end c = (fitting _ _ _ _ _ c.fits_room.ensures (ap not c.if-not-fits_room.false)).room

pub slice_bounds-show_lent-end-2 : goal.slice_bounds-show_lent-end-2
slice_bounds-show_lent-end-2 c =
    lent_first _ _ 16400 (fitting _ _ _ _ _ c.fits_room.ensures (ap not c.if-not-fits_room.false)).room

pub show_lent-requires : goal.show_lent-requires
show_lent-requires c =
    let fit = fitting _ _ _ _ _ c.fits_room.ensures (ap not c.if-not-fits_room.false) in
    lends _ _ _ _ _ _ _ _ (lent_places _ _ _ c.lent-i.ensures) (lent_first _ _ 16400 fit.room) fit
    c.if-args-count.false

pub returns : goal.returns
returns c =
    let fit = fitting _ c.number-o.result c.number-at.result c.lent-n.result _ c.fits_room.ensures
    (ap not c.if-not-fits_room.false) in
    let fits = lends _ _ _ _ _ _ _ _ (lent_places _ _ _ c.lent-i.ensures)
    (lent_first c.get_f32-held.result _ 16400 fit.room) fit c.if-args-count.false in
    shown_lent c.args.args.now c.args.out.now _ _ _ _ _ c.number-count.ensures (lent_length _ _ _ c.lent-i.ensures)
    c.number-o.ensures c.number-at.ensures c.lent-n.ensures _ c.fits_room.ensures (ap not c.if-not-fits_room.false)
    c.get_f32-held.result _ c.get_f32-held.ensures fits.1 c.show_lent.ensures
