-- Of one file no two answers meet the promise of `read_bank`; which file it is no contract can name. Whatever system
-- the file is of: R, whose files are of the type F and whose folders of the type D. Assumes nothing.
use Rattle.std.specs.Prelude.{◌≡◌}
use Rattle.lists.specs.Prelude.{ap, sym, ◌∙◌}
use denote.Triple.Entry.{Args}
use denote.RattleType.{RattleType}
use denote.Param.Laws.{Laws}
use mir.Syntax.{Dict}
use Rattle.std.specs.declared.fs.files.Files as Files
use Rattle.std.specs.declared.fs.files.OpenFile as OpenFile
use Rattle.std.specs.declared.io.traits.Read as Read
use Rattle.std.specs.declared.io.traits.Seek as Seek
use Rattle.std.specs.declared.io.traits.Write as Write
use Rattle.lists.specs.OneAnswer.{Lives, HandedBack, Allows, Claim}
use denote.Triple.Clauses.{Ended}
use Rattle.bank.specs.Reading.{ReadOutcome}
use Rattle.bank.proofs.Unique.{read_apart}
use Rattle.files.specs.contracts.read_bank as read_bank
use Rattle.files.proofs.read_bank.Reads as read_bank_reads

module _ (R F D : RattleType) (R-laws : Laws R) (F-laws : Laws F) (D-laws : Laws D)
    (files : Files.Ghosts R.Denot F.Denot D.Denot) (files-dict : Dict) (read : Read.Ghosts F.Denot) (read-dict : Dict)
    (write : Write.Ghosts F.Denot) (write-dict : Dict) (seek : Seek.Ghosts F.Denot) (seek-dict : Dict)
    (opened : OpenFile.Ghosts F.Denot) (opened-dict : Dict) (folder : Read.Ghosts D.Denot) (folder-dict : Dict)
    (drop-file drop-folder : Dict) where
  abbrev ended : Ended
  ended = read_bank.ended R F D files files-dict read read-dict write write-dict seek seek-dict opened
      opened-dict folder folder-dict drop-file drop-folder

  abbrev Learnt : Claim ended
  Learnt = read_bank_reads.Learnt R F D R-laws F-laws D-laws files files-dict read read-dict write write-dict
      seek seek-dict opened opened-dict folder folder-dict drop-file drop-folder

  read_bank_unique : (κs : Lives ended) (a : Args (read_bank.signature R F D) κs) (y z : HandedBack ended κs a)
      (p : Allows ended Learnt κs a y) (q : Allows ended Learnt κs a z) → p.file ≡ q.file → y ≡ z
  read_bank_unique κs a y z p q same =
      let e = p.reads.bits ∙ cc same ∙ sym q.reads.bits in
      λ i. (
        read_apart y.0 z.0 (ap (λ (o : ReadOutcome). o.answer) e) i,
        (_, (_, ((e i).azimuths, ((e i).elevations, ((e i).taps, _))))),
      )
