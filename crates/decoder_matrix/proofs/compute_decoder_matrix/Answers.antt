-- `decoder_matrix::compute_decoder_matrix` meets its contract. Assumes nothing.
use Rattle.std.specs.Prelude.{◌≡◌, ◌*◌, ◌≤◌, Err}
use Rattle.lists.specs.Prelude.{refl, subst, not, arith, sym, ap, ◌∙◌, false, ℕ, not-true, not-false, eqb, length}
use Rattle.rows.specs.Computed.{put_rows}
use Rattle.channel.specs.declared.Layout.{Layout}
use Rattle.channel.specs.Layouts.{channels_of, refuses_channels, count_told}
use Rattle.refusals.proofs.Counts.{not_outside}
use Rattle.refusals.specs.Numbers.{number_in}
use Rattle.refusals.proofs.Numbers.{handed_on}
use Rattle.channel.proofs.Counts.{channels_accepted, layout_refused}
use Rattle.channel.proofs.Orders.{few_channels, order_well, order_refused}
use Rattle.decoder_matrix.specs.Matrix.{rows_by}
use Rattle.decoder_matrix.specs.Promise.{DecoderMatrixPromise}
use Rattle.decoder_matrix.proofs.Meets.{order_refused_lem, layout_refused_lem, length_refused, matrix_put}
use Rattle.decoder_matrix.proofs.compute_decoder_matrix.Goals as goal

-- an accepted layout has sixteen speakers at most
few_speakers : (layout : Layout) (n : ℕ) → refuses_channels (channels_of layout) ≡ false → n ≡ channels_of layout
    → n ≤ 16
few_speakers layout n f e = omega (arith, e, (not_outside (channels_of layout) 16 f).1)

pub returns-in_err-channels : goal.returns-in_err-channels
returns-in_err-channels c =
    let why = order_refused c.args.order _ c.in_err-channels.ensures in
    subst (λ r. DecoderMatrixPromise c.args.order c.args.layout c.args.weights.now
    (record { refusal = number_in r; weights = c.args.weights.now }))
    (ap Err (sym why.1) ∙ sym (handed_on _ _ c.from_residual.ensures.1)) (order_refused_lem _ _ _ why.0)

pub returns-in_err-speakers : goal.returns-in_err-speakers
returns-in_err-speakers c =
    let o = order_well c.args.order _ c.in_ok-channels.ensures refl in
    let why = layout_refused c.args.layout _ c.in_err-speakers.ensures in
    subst (λ r. DecoderMatrixPromise c.args.order c.args.layout c.args.weights.now
    (record { refusal = number_in r; weights = c.args.weights.now }))
    (ap Err (sym why.1) ∙ sym (handed_on _ _ c.from_residual-in_err-speakers.ensures.1))
    (layout_refused_lem _ _ _ o.0 why.0)

pub returns-then-not-is_product : goal.returns-then-not-is_product
returns-then-not-is_product c =
    let o = order_well c.args.order _ c.in_ok-channels.ensures refl in
    let l = channels_accepted c.args.layout _ c.in_ok-speakers.ensures refl in
    length_refused _ _ _ o.0 l.0
    (ap (eqb (length c.args.weights.now)) (sym (λ i. l.1 i * o.1 i)) ∙ sym c.is_product.ensures
    ∙ not-true c.is_product.result (ap not c.if-not-is_product.true))

pub overflow_cast-speakers : goal.overflow_cast-speakers
overflow_cast-speakers c =
    let l = channels_accepted c.args.layout _ c.in_ok-speakers.ensures refl in
    let few = few_speakers c.args.layout _ l.0 l.1 in omega (arith, few)

pub put_speakers-requires : goal.put_speakers-requires
put_speakers-requires c =
    let o = order_well c.args.order _ c.in_ok-channels.ensures refl in
    let l = channels_accepted c.args.layout _ c.in_ok-speakers.ensures refl in
    let some = (not_outside (channels_of c.args.layout) 16 l.0).0 in (
      omega (arith, some, l.1),
      few_speakers c.args.layout _ l.0 l.1,
      omega (arith, o.1, (few_channels c.args.order o.0).1),
    )

pub returns : goal.returns
returns c =
    let o = order_well c.args.order _ c.in_ok-channels.ensures refl in
    let l = channels_accepted c.args.layout _ c.in_ok-speakers.ensures refl in
    matrix_put _ _ _ _ o.0 l.0
    (ap (eqb (length c.args.weights.now)) (sym (λ i. l.1 i * o.1 i)) ∙ sym c.is_product.ensures
    ∙ not-false c.is_product.result (ap not c.if-not-is_product.false))
    (c.put_speakers.ensures
    ∙ (λ i. put_rows (o.1 i) c.args.weights.now 0 (rows_by c.args.order c.args.layout (l.1 i) (o.1 i))))
