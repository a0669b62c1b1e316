-- A block: what is read is played, and its outcome is put, each from the one before. Assumes nothing.
use Rattle.std.specs.Prelude.{◌≡◌, ◌-◌, ◌^◌, ◌<◌}
use Rattle.lists.specs.Prelude.{ap, ◌∙◌, List, ℕ, arith, length, Float}
use Rattle.big_endian.specs.Fields.{field_at}
use Rattle.big_endian.specs.Lists.{float_bytes}
use Rattle.hrtf_desk.specs.declared.Desk.{Desk}
use Rattle.hrtf_checks.specs.declared.ConvolverShape.{ConvolverShape}
use Rattle.hrtf.specs.Promise.{BlockTold, outcome}
use Rattle.probe_request.specs.Requests.{eight_at}
use Rattle.probe_request.proofs.Requests.{place_end}
use Rattle.probe_answer.specs.Answers.{Draft, none, ◌then◌}
use Rattle.probe_answer.proofs.Meets.{taken}
use Rattle.probe_hrtf.specs.Requests.{desk_at, shape_at, Lists, listed, lengths, block_end, read_from, call_of}
use Rattle.probe_hrtf.specs.Requests.{state_of, call_at, state_at}
use Rattle.probe_hrtf.specs.Answers.{then_counts, block_shown, block_by}
use Rattle.probe_hrtf.proofs.Lists.{read_end, lists_standing}

module _ (args out : List ℕ) (inputs weights taps rings ears : List Float) where
  abbrev l : Lists
  l = listed inputs weights taps rings ears

  -- the numbers that are read are those of the request, and what is made of them is put
  pub played : {a b c : Draft} {p : BlockTold} {rings₁ ears₁ : List Float} {h : ConvolverShape} {d : Desk}
      {frames stride : ℕ} {rows : List ℕ}
      → c ≡ b then float_bytes ears₁ → b ≡ a then float_bytes rings₁ → a ≡ then_counts (none out) p
      → record { answer = p; rings = rings₁; ears = ears₁ }
      ≡ outcome (record {
        shape = h;
        frames = frames;
        stride = stride;
        inputs = inputs;
        weights = weights;
        rows = rows;
        taps = taps;
        ears = ears;
      }) (record { rings = rings; desk = d })
      → h ≡ shape_at args → d ≡ desk_at args 10 → frames ≡ field_at args 58 8 → stride ≡ field_at args 66 8
      → rows ≡ eight_at args 74 → c ≡ block_shown (outcome (call_of args l) (state_of args l)) out
  unfolding block_shown
  played samples cells counts is eh ed ef es er = cc

  -- the lists that are lent
  pub lists_played : {x : Lists} {end : ℕ} {d : Draft} → record { lists = x; end = end } ≡ read_from args 138 l
      → length args ≡ end → d ≡ block_shown (outcome (call_of args x) (state_of args x)) out
      → length args < 2 ^ 64 - 1 → d ≡ block_by (lengths l) args out
  unfolding block_by call_at state_at
  lists_played read h p short =
      let full : length args ≡ block_end (lengths l) = place_end args short _ (read_end args 138 l read) h in
      p ∙ ap (λ (y : Lists). block_shown (outcome (call_of args y) (state_of args y)) out)
      (lists_standing args 138 l read (omega arith)) ∙ taken (block_end (lengths l)) args out _ full
