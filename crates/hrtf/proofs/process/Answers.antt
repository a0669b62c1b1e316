-- `hrtf::process` meets its contract: `Meets`, from the refusal and from what the block leaves. Assumes nothing.
use Rattle.std.specs.Prelude.{◌≡◌}
use Rattle.lists.specs.Prelude.{refl, sym, ap, ◌∙◌, subst, List, ℕ, Float}
use Rattle.hrtf_desk.specs.declared.Desk.{Desk}
use Rattle.hrtf_rings.specs.State.{State}
use Rattle.hrtf_checks.specs.Call.{BlockCall}
use Rattle.hrtf_checks.specs.Refusals.{refusal_of}
use Rattle.hrtf_checks.proofs.Refusing.{some_speakers, taps_finite, ready}
use Rattle.hrtf.specs.declared.frames.Scaled.{Scaled}
use Rattle.hrtf.specs.Computed.{scaled_of, ScaledReady, block_computed, BlockPlayed}
use Rattle.hrtf.proofs.Meets.{has_number, promised_refused, promised_accepted}
use Rattle.hrtf.proofs.process.Goals as goal

pub returns-in-Some : goal.returns-in-Some
returns-in-Some c = promised_refused _ _ _ c.in-Some.ensures (has_number _)

pub scale-requires : goal.scale-requires
scale-requires c =
    let accepted = sym c.in_default.ensures in
    (some_speakers _ _ accepted, (ready _ _ accepted).few)

-- a call that is accepted is ready at the shape that was scaled
scaled_ready : (c : BlockCall) (t : State) (k : Scaled) → refusal_of c t ≡ 0 → k ≡ scaled_of c.shape
    → ScaledReady k t.desk.position c.rows c.taps t.rings
scaled_ready c t k accepted e =
    subst (λ (k : Scaled). ScaledReady k t.desk.position c.rows c.taps t.rings) (sym e)
    (record { factor = refl; ready = ready c t accepted; finite = taps_finite c t accepted })

pub block-turn-requires : goal.block-turn-requires
block-turn-requires c = scaled_ready _ _ _ (sym c.in_default.ensures) c.scale.ensures

-- the shape that was scaled is the call's own
own_shape : (c : BlockCall) (t : State) (k : Scaled) (rings₁ ears₁ : List Float) (d : Desk) (more : ℕ)
    → k ≡ scaled_of c.shape
    → BlockPlayed (record c { shape = k.shape }) t rings₁ ears₁ d more
    → BlockPlayed c t rings₁ ears₁ d more
own_shape c t k rings₁ ears₁ d more e b =
    b ∙ ap (λ (v : Scaled). block_computed (record c { shape = v.shape }) t) e

pub returns : goal.returns
returns c =
    promised_accepted _ _ _ _ _ _ c.in_default.ensures
    (own_shape _ _ c.scale.result _ _ _ _ c.scale.ensures c.block-turn.ensures)
