-- No two answers of `result_line` meet its promise. Two of `run` do only with another bank, another line or another
-- failure; how the reader is left no contract says (docs/UNFIXED.md). Whatever system the files are of: R, whose files
-- are
-- of the type F and whose folders of the type D; and whatever reader the line comes from: L. Assumes nothing.
use Rattle.std.specs.Prelude.{◌≡◌, Result, Ok, Err}
use Rattle.lists.specs.Prelude.{refl, sym, ap, ◌∙◌, false≢true}
use denote.Triple.Entry.{Args}
use denote.Triple.Clauses.{Ended}
use denote.RattleType.{RattleType}
use denote.Param.Laws.{IsCopy, Laws}
use mir.Syntax.{Dict}
use Rattle.std.specs.declared.clone.Clone as Clone
use Rattle.std.specs.declared.fd.AsRawFd as AsRawFd
use Rattle.std.specs.declared.fs.files.Files as Files
use Rattle.std.specs.declared.fs.files.OpenFile as OpenFile
use Rattle.std.specs.declared.io.traits.Read as Read
use Rattle.std.specs.declared.io.traits.Seek as Seek
use Rattle.std.specs.declared.io.traits.Write as Write
use Rattle.std.specs.declared.io.Eprint as Eprint
use Rattle.lists.specs.OneAnswer.{Lives, HandedBack, Allows, Claim, AllowsOneAnswer}
use Rattle.lists.proofs.Determined.{determined_by}
use Rattle.refusals.proofs.Numbers.{number_apart}
use Rattle.hrtf.proofs.Meets.{has_number}
use Rattle.ears_file.specs.declared.RunCounts.{RunCounts}
use Rattle.ears_file.specs.declared.RunError.{RunError}
use Rattle.ears_file.specs.declared.RunError.TheVariants.{Failed, Refused}
use Rattle.ears_file.specs.declared.ToOutcome as ToOutcome
use Rattle.ears_file.specs.declared.Ended.{Ended as RunEnd}
use Rattle.ears_file.specs.Lines.{outcome_of}
use Rattle.ears_file.specs.contracts.result_line as result_line
use Rattle.ears_file.proofs.result_line.Reads as result_line_reads
use Rattle.ears_file.specs.contracts.run as run
use Rattle.ears_file.proofs.run.Reads as run_reads

-- of what `run` answers, and of its numbers
module _ (T : RattleType) (laws : Laws T) (copy : IsCopy T) (outcome : ToOutcome.Ghosts T.Denot) (dict : Dict)
    (cloned : Clone.Ghosts T.Denot) (clone : Dict) where
  result_line_unique : AllowsOneAnswer (result_line.ended T outcome dict cloned clone)
      (result_line_reads.Learnt T laws copy outcome dict cloned clone)
  result_line_unique κs a = determined_by (λ z h i. ((h.0 i).size, (_, ((h.0 i).out, _))))

-- what is told of a run is known by whether it failed and how it ended
outcome_apart : (x y : Result RunCounts RunError) → (outcome_of x).failed ≡ (outcome_of y).failed
    → (outcome_of x).ended ≡ (outcome_of y).ended → x ≡ y
outcome_apart (Ok c) (Ok d) f e = λ i. Ok (record { frames = (e i).frames; unsettled = (e i).unsettled })
outcome_apart (Ok c) (Err Failed) f e = absurd (false≢true f)
outcome_apart (Ok c) (Err (Refused g)) f e = absurd (has_number g.refusal (sym (ap (λ (x : RunEnd). x.refusal) e)))
outcome_apart (Err Failed) (Ok d) f e = absurd (false≢true (sym f))
outcome_apart (Err Failed) (Err Failed) f e = refl
outcome_apart (Err Failed) (Err (Refused g)) f e = absurd (false≢true (sym f))
outcome_apart (Err (Refused g)) (Ok d) f e = absurd (has_number g.refusal (ap (λ (x : RunEnd). x.refusal) e))
outcome_apart (Err (Refused g)) (Err Failed) f e = absurd (false≢true f)
outcome_apart (Err (Refused g)) (Err (Refused h)) f e =
    let same = number_apart g.refusal h.refusal (ap (λ (x : RunEnd). x.refusal) e) in
    λ i. Err (Refused (record { refusal = same i; offset = (e i).place }))

module _ (R L F D : RattleType) (R-laws : Laws R) (L-laws : Laws L) (F-laws : Laws F) (D-laws : Laws D)
    (files : Files.Ghosts R.Denot F.Denot D.Denot) (files-dict : Dict) (read : Read.Ghosts F.Denot) (read-dict : Dict)
    (write : Write.Ghosts F.Denot) (write-dict : Dict) (seek : Seek.Ghosts F.Denot) (seek-dict : Dict)
    (opened : OpenFile.Ghosts F.Denot) (opened-dict : Dict) (folder : Read.Ghosts D.Denot) (folder-dict : Dict)
    (told : Eprint.Ghosts R.Denot) (told-dict : Dict) (reader : Read.Ghosts L.Denot) (reader-dict : Dict)
    (numbered : AsRawFd.Ghosts F.Denot) (numbered-dict : Dict) (drop-file drop-folder : Dict) where
  abbrev ended : Ended
  ended = run.ended R L F D files files-dict read read-dict write write-dict seek seek-dict opened opened-dict folder
      folder-dict told told-dict reader reader-dict numbered numbered-dict drop-file drop-folder

  abbrev Learnt : Claim ended
  Learnt = run_reads.Learnt R L F D R-laws L-laws F-laws D-laws files files-dict read read-dict write write-dict seek
      seek-dict opened opened-dict folder folder-dict told told-dict reader reader-dict numbered numbered-dict
      drop-file drop-folder

  run_unique : (κs : Lives ended) (a : Args (run.signature R L F D) κs) (y z : HandedBack ended κs a)
      (p : Allows ended Learnt κs a y) (q : Allows ended Learnt κs a z)
      → p.bank ≡ q.bank → p.ends.line ≡ q.ends.line → (outcome_of y.0).failed ≡ (outcome_of z.0).failed → y.0 ≡ z.0
  run_unique κs a y z p q bank line failed =
      let same : (outcome_of y.0).ended ≡ (outcome_of z.0).ended = p.ends.bits ∙ cc (bank, line, failed)
      ∙ sym q.ends.bits in
      outcome_apart y.0 z.0 failed same
