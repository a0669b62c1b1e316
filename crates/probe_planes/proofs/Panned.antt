-- The answer to a panner block: of the block that `panner` promises for what the request gives, or none. Assumes
-- nothing.
use Rattle.std.specs.Prelude.{◌≡◌, ◌+◌, ◌*◌}
use Rattle.lists.specs.Prelude.{sym, ap, ◌∙◌, List, ℕ, arith, ne_eqb, Float, length}
use Rattle.big_endian.specs.Fields.{field_at, float_at, double_at}
use Rattle.channel.specs.declared.Layout.{Layout}
use Rattle.panner.specs.declared.Command.{Command}
use Rattle.panner.specs.declared.Command.TheVariants.{Stereo, Surround, Ambisonic}
use Rattle.panner.specs.Promise.{Panned}
use Rattle.panner.specs.Promise.{PannedBlock, panned_block}
use Rattle.probe_request.specs.Requests.{layout_of, samples_lent, list_at}
use Rattle.probe_answer.specs.Answers.{Draft, none, played}
use Rattle.probe_answer.proofs.Meets.{taken, untaken}
use Rattle.probe_request.proofs.Requests.{inside, layout_read}
use Rattle.probe_planes.specs.Answers.{command_at, panned_answer, pan_lent, pan_answer}

-- ---- the command

module _ (args : List ℕ) {angle : Float} {which : ℕ} (w : which ≡ field_at args 4 1) (a : angle ≡ double_at args 5)
  where
    pub stereo : which ≡ 0 → Stereo angle ≡ command_at args
    stereo h = ap Stereo a ∙ sym (rw (sym w ∙ h))

    pub surround : which ≡ 1 → Surround angle ≡ command_at args
    surround h = ap Surround a ∙ sym (rw (sym w ∙ h))

    pub direction : {elevation : Float} {order : ℕ} → elevation ≡ double_at args 13 → order ≡ field_at args 21 8
        → (which ≡ 0 → ⊥) → (which ≡ 1 → ⊥)
        → Ambisonic (record { azimuth = angle; elevation = elevation }) order ≡ command_at args
    direction e n g h =
        (λ i. Ambisonic (record { azimuth = a i; elevation = e i }) (n i))
        ∙ sym (rw (ne_eqb (field_at args 4 1) 0 (λ z. g (w ∙ z)), ne_eqb (field_at args 4 1) 1 (λ z. h (w ∙ z))))

-- ---- the block

module _ (args out : List ℕ) where
  pub pan_plays : (input planes before after last : List Float) (command : Command) (layout : Layout)
      (which n frames stride : ℕ) (r : Panned) (d : Draft)
      → length args ≡ 54 + 4 * length input + 4 * length planes
      → before ≡ list_at float_at 4 args 54 input → after ≡ list_at float_at 4 args (54 + 4 * length input) planes
      → command ≡ command_at args → layout ≡ layout_of which n → which ≡ field_at args 29 1 → n ≡ field_at args 30 8
      → frames ≡ field_at args 38 8 → stride ≡ field_at args 46 8
      → record { answer = r; out = last } ≡ panned_block
      (record { command = command; layout = layout; frames = frames; stride = stride }) before after
      → d ≡ played r.refusal r.samples last out → d ≡ panned_answer args (length input) (length planes) out
  unfolding panned_answer
  pan_plays input planes before after last command layout which n frames stride r d long e g ec el ew en ef es p q =
      let i = inside float_at 4 args 54 input before e (omega arith) in
      let o = inside float_at 4 args (54 + 4 * length input) planes after g (omega arith) in
      let l = layout_read args 29 which n layout el ew en in
      q ∙ ap (λ (b : PannedBlock). played b.answer.refusal b.answer.samples b.out out)
      (p ∙ (λ j. panned_block (record { command = ec j; layout = l j; frames = ef j; stride = es j }) (i j) (o j)))

  pub pan_none : (i o : ℕ) → i ≡ samples_lent args 0 → o ≡ samples_lent args 2 → (length args ≡ 54 + 4 * i + 4 * o → ⊥)
      → none out ≡ pan_answer args out
  unfolding pan_answer
  pan_none i o first second h =
      untaken _ args out (panned_answer args i o out) h ∙ (λ j. pan_lent args (first j) (second j) out)

  pub pan_some : (d : Draft) (i o : ℕ) → i ≡ samples_lent args 0 → o ≡ samples_lent args 2
      → length args ≡ 54 + 4 * i + 4 * o → d ≡ panned_answer args i o out → d ≡ pan_answer args out
  unfolding pan_answer
  pan_some d i o first second h e =
      e ∙ taken _ args out (panned_answer args i o out) h ∙ (λ j. pan_lent args (first j) (second j) out)

-- the lists lent are as long as they are to be
pub pan_fits : (n i o k l : ℕ) → i ≡ k → o ≡ l → n ≡ 54 + 4 * i + 4 * o → n ≡ 54 + 4 * k + 4 * l
pan_fits n i o k l p q h = omega arith
