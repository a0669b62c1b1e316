-- A recorded line: what is read is replayed, and its outcome is put, each from the one before. Assumes nothing.
use Rattle.std.specs.Prelude.{◌≡◌, ◌+◌, ◌-◌, ◌*◌, ◌^◌, ◌<◌}
use Rattle.lists.specs.Prelude.{◌∙◌, List, ℕ, arith, length, Float}
use Rattle.big_endian.specs.Fields.{field_at}
use Rattle.big_endian.specs.Lists.{float_bytes}
use Rattle.hrtf_desk.specs.declared.Desk.{Desk}
use Rattle.hrtf_checks.specs.declared.ConvolverShape.{ConvolverShape}
use Rattle.stamps.specs.Arrivals.{Expected}
use Rattle.replay.specs.Promise.{ReplayTold, outcome}
use Rattle.probe_request.specs.Requests.{eight_at, samples_lent, word_at, place_in, list_at}
use Rattle.probe_request.proofs.Requests.{inside, place_behind, place_list, place_end, place_no_end}
use Rattle.probe_answer.specs.Answers.{Draft, none, ◌then◌}
use Rattle.probe_answer.proofs.Meets.{taken, untaken}
use Rattle.probe_hrtf.specs.Requests.{desk_at, shape_at, Lengths, lent_of, Lists, listed, lengths, read_from}
use Rattle.probe_hrtf.proofs.Lists.{read_end, lists_standing}
use Rattle.probe_replay.specs.Requests.{expected_at, stamps_from, line_end, outcome_of, outcome_at}
use Rattle.probe_replay.specs.Answers.{then_counts, line_shown, line_by, line_answer}

module _ (args out : List ℕ) (inputs weights taps rings ears : List Float) (stamps : List ℕ) where
  abbrev l : Lists
  l = listed inputs weights taps rings ears

  -- the numbers that are read are those of the request, and what is made of them is put
  pub played : {a b c : Draft} {p : ReplayTold} {rings₁ ears₁ : List Float} {h : ConvolverShape} {d : Desk}
      {x : Expected}
      {frames stride ear_stride : ℕ} {rows : List ℕ}
      → c ≡ b then float_bytes ears₁ → b ≡ a then float_bytes rings₁ → a ≡ then_counts (none out) p
      → record { answer = p; rings = rings₁; ears = ears₁ }
      ≡ outcome (record {
        shape = h;
        frames = frames;
        stride = stride;
        stamps = stamps;
        inputs = inputs;
        weights = weights;
        rows = rows;
        taps = taps;
        ear_stride = ear_stride;
      }) x (record { rings = rings; desk = d }) ears
      → h ≡ shape_at args → d ≡ desk_at args 10 → x ≡ expected_at args → frames ≡ field_at args 58 8
      → stride ≡ field_at args 66 8 → ear_stride ≡ field_at args 140 8 → rows ≡ eight_at args 74
      → c ≡ line_shown (outcome_of args l stamps) out
  unfolding line_shown
  played samples cells counts is eh ed ex ef es ee er = cc

  -- the lists that are lent
  module _ (short : length args < 2 ^ 64 - 1) {x : Lists} {p end : ℕ}
      (read : record { lists = x; end = p } ≡ read_from args 153 l)
      (e : end ≡ place_in (length args) (p + 4 * length stamps)) where
    abbrev behind_all : ℕ
    behind_all = line_end (lengths l) (length stamps)

    ends : end ≡ place_in (length args) behind_all
    ends = place_behind args short (stamps_from (lengths l)) (4 * length stamps) (read_end args 153 l read) e

    pub left : (length args ≡ end → ⊥) → none out ≡ line_by (lengths l) (length stamps) args out
    unfolding line_by
    left h = untaken behind_all args out _ (place_no_end args short behind_all ends h)

    pub lists_played : length args ≡ end → {stamps₁ : List ℕ} → stamps₁ ≡ list_at word_at 4 args p stamps
        → {d : Draft} → d ≡ line_shown (outcome_of args x stamps₁) out
        → d ≡ line_by (lengths l) (length stamps) args out
    unfolding line_by outcome_at
    lists_played h {stamps₁} es shown =
        let full : length args ≡ behind_all = place_end args short behind_all ends h in
        let lists = lists_standing args 153 l read (omega arith) in
        let stamped = inside word_at 4 args (stamps_from (lengths l)) stamps stamps₁
        (place_list args short word_at 4 (stamps_from (lengths l)) stamps (read_end args 153 l read) es) (omega arith)
        in
        shown ∙ (λ k. line_shown (outcome_of args (lists k) (stamped k)) out) ∙ taken behind_all args out _ full

pub lists_lent : (args out : List ℕ) {d : Draft} {n : Lengths} {s : ℕ} → d ≡ line_by n s args out → n ≡ lent_of args
    → s ≡ samples_lent args 138 → d ≡ line_answer args out
lists_lent args out p e s = p ∙ (λ k. line_by (e k) (s k) args out)
