-- Git accepts each blob.
use Rattle.std.proofs.Common.{true, refl}
use Rattle.gixobj_c_fsck.proofs.Verdicts.{report_of_messages}
use Rattle.gixobj_c_fsck.proofs.reports.report_object.Goals as goal
use Rattle.gixobj_hash.specs.declared.kind.Kind.TheVariants as kind

pub returns-in-Blob-clause-found : goal.returns-in-Blob-clause-found
returns-in-Blob-clause-found c =
    rw c.in-Blob.is (report_of_messages c.args.strict c.args.hash kind.Blob c.args.bytes.now c.new.result true c.report_messages.result
    c.new.ensures (λ _. tt, λ _. refl) c.report_messages.ensures)
