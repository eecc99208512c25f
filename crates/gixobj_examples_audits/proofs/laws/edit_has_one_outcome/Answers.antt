use Rattle.gix_object.specs.Edits.{removed_dirs, upserted_dirs}
use Rattle.gixobj_examples_audits.proofs.OneOpening.{edited_bases_same, removed_dirs_same, upserted_dirs_same}
use Rattle.gixobj_examples_audits.proofs.laws.edit_has_one_outcome.Goals as goal

pub returns-clause-upsert : goal.returns-clause-upsert
returns-clause-upsert c = λ path mode id null dirs others bases its same_dirs same_bases.
    let new = upserted_dirs_same path mode id null dirs others same_dirs in (
      new,
      edited_bases_same dirs others (upserted_dirs path mode id null dirs) (upserted_dirs path mode id null others) bases its same_dirs new same_bases,
    )

pub returns-clause-removal : goal.returns-clause-removal
returns-clause-removal c = λ path dirs others bases its same_dirs same_bases.
    let new = removed_dirs_same path dirs others same_dirs in (
      new,
      edited_bases_same dirs others (removed_dirs path dirs) (removed_dirs path others) bases its same_dirs new same_bases,
    )
