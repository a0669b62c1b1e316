-- No two answers meet the promise. Assumes nothing.
use Rattle.std.specs.Prelude.{◌≡◌, Result}
use Rattle.lists.specs.OneAnswer.{AllowsOneAnswer}
use Rattle.lists.specs.Prelude.{sym, ap, ◌∙◌}
use Rattle.refusals.specs.declared.Refusal.{Refusal}
use Rattle.refusals.proofs.Numbers.{told_apart}
use Rattle.hrtf_desk.specs.declared.Desk.{Desk}
use Rattle.stamps.specs.Arrivals.{Expected}
use Rattle.replay.specs.declared.Replayed.{Replayed}
use Rattle.replay.specs.Promise.{ReplayTold, ReplayOutcome, unreplayed, replay_told}
use Rattle.replay.specs.contracts.replay as replay
use Rattle.replay.proofs.replay.Reads as replay_reads

-- an answer is known by its number and what is beside it
replay_apart : (d : Desk) (x : Expected) (a b : Result Replayed Refusal) → replay_told d x a ≡ replay_told d x b → a ≡ b
replay_apart d x a b e =
    told_apart (unreplayed d x) a b (ap (λ (r : ReplayTold). r.refusal) e)
    (λ i. record {
      samples = (e i).samples;
      unsettled = (e i).unsettled;
      late = (e i).late;
      silent = (e i).silent;
      resets = (e i).resets;
      desk = (e i).desk;
      expected = (e i).expected;
    })

replay_unique : AllowsOneAnswer replay.ended replay_reads.Learnt
replay_unique κs a x y p q =
    let same = p.bits ∙ sym q.bits in λ i. (
      replay_apart a.0 a.1.0 x.0 y.0 (ap (λ (o : ReplayOutcome). o.answer) same) i,
      (_, (_, (_, (_, (_, (_, (_, (_, (_, (_, ((same i).rings, (_, ((same i).ears, _))))))))))))),
    )
