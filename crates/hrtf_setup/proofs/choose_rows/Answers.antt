-- `hrtf_setup::choose_rows` meets its contract: `Filling`, over the part of the list that is the speakers'. Assumes
-- nothing.
use Rattle.std.specs.Prelude.{◌≡◌, ◌++◌, ◌≤◌}
use Rattle.lists.specs.Prelude.{refl, sym, ap, ◌∙◌, List, ℕ, arith, ℤ, length, drop, sets, length-take-le}
use lib.Seq.{sets-eq}
use Rattle.lists.specs.Tables.{tab}
use Rattle.lists.proofs.Tables.{length_tab}
use Rattle.lists.proofs.Filling.{filling_none, filling_more, filling_whole}
use Rattle.bank_choice.specs.Choice.{Choice}
use Rattle.bank_choice.specs.Choice.{choice_of}
use Rattle.hrtf_setup.specs.Speakers.{speaker_elevation, row_at}
use Rattle.hrtf_setup.proofs.Standing.{held_16}
use Rattle.hrtf_setup.proofs.choose_rows.Goals as goal

-- a list that begins with n others is the list in which these are put one after another
put_first : (l xs : List ℕ) (n : ℕ) → length xs ≡ n → n ≤ length l → xs ++ drop n l ≡ sets l 0 xs
put_first l xs n e h = sym (sets-eq xs l 0 (omega arith) ∙ ap (λ (k : ℕ). xs ++ drop k l) (omega arith))

pub loop-s-init : goal.loop-s-init
loop-s-init c = filling_none _ _ _

pub loop-s-preserved : goal.loop-s-preserved
loop-s-preserved c =
    let a = c.args in
    let l = c.loop-s in
    let t = c.tenths.result in
    filling_more _ _ _ l.row-items l.s _ l.invariant c.loop-s-test.true (omega arith)
    (c.unwrap_or.ensures ∙ ap (λ (r : Choice). r.row)
    (c.nearest_row.ensures.bits ∙ ap (λ (p : ℤ). choice_of a.azimuths.now a.elevations.now a.rows p speaker_elevation)
    (held_16 a.whose l.s t c.tenths.ensures)))

pub returns : goal.returns
returns c =
    let a = c.args in
    let f = row_at a.whose a.azimuths.now a.elevations.now a.rows in
    let few : a.speakers ≤ length a.row_of.now = omega (arith, c.told-row_of, c.requires) in
    let long = length-take-le a.speakers a.row_of.now few in
    let filled = filling_whole f _ _ c.loop-s.row-items c.loop-s.s c.loop-s.invariant c.loop-s-test.false refl in
    ap (λ (xs : List ℕ). xs ++ drop a.speakers a.row_of.now)
    (filled ∙ ap (λ (n : ℕ). tab 0 n f) long)
    ∙ put_first a.row_of.now (tab 0 a.speakers f) a.speakers (length_tab 0 a.speakers f) few
