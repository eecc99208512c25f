-- The result of the write that an upload makes.
use Rattle.gixobj_examples_edits.proofs.Uploaded.{is_divided_of_walk}
use Rattle.gixobj_examples_edits.proofs.upload.upload_of.Goals as goal
use Rattle.gix_object.specs.State.{open_bases, open_dirs}

pub returns-clause-divided : goal.returns-clause-divided
returns-clause-divided g c =
    let wrote = (c.in_ok-written.ensures {u = tt}).written in
    is_divided_of_walk (open_dirs c.args.editor.now) (open_bases c.args.editor.now) c.in_ok-written.written.trees.items wrote.below
    c.in_ok-written.written.saved
    c.in_ok-written.written.id wrote.written_tree wrote.emitted wrote.last

pub returns-clause-files : goal.returns-clause-files
returns-clause-files g c = λ T n has. let wrote = (c.in_ok-written.ensures {u = tt}).written in wrote.files T n has.pairs has.bases

pub returns-clause-complete : goal.returns-clause-complete
returns-clause-complete g c = λ T n has lacks path mode id there.
    let wrote = (c.in_ok-written.ensures {u = tt}).written in
    lacks path mode id ((wrote.files T n has.pairs has.bases path mode id).0 there)
