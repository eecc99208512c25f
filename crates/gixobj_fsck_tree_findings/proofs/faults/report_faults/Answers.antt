use Rattle.std.proofs.Common.{◌<◌, Bool, get_or, inr, length, rules, subst}
use Rattle.gixobj_fsck_messages.specs.Options.{is_strict_by}
use Rattle.gixobj_fsck_messages.specs.declared.message.Message.{Message}
use Rattle.gixobj_fsck_messages.specs.declared.message.Message.TheVariants as message
use Rattle.gixobj_fsck_trees.proofs.TreeReads.{on_err}
use Rattle.gixobj_fsck_trees.specs.FirstOffsets.{FindsOffset}
use Rattle.gixobj_fsck_trees.specs.RawEntries.{ending_of}
use Rattle.gixobj_fsck_trees.specs.RawViews.{raw_entry_views}
use Rattle.gixobj_fsck_tree_findings.specs.TreeFindings.{IsFaultOffset}
use Rattle.gixobj_fsck_tree_findings.proofs.Appends.{appends_message}
use Rattle.gixobj_fsck_tree_findings.proofs.FaultOffsets.{reported_fault}
use Rattle.gixobj_fsck_tree_findings.proofs.faults.report_faults.Goals as goal

pub loop-message-preserved : goal.loop-message-preserved
loop-message-preserved c =
    let entries = raw_entry_views c.args.tree.now.entries.items in
    let ending = ending_of c.args.tree.now.is_broken in
    let it : Message = get_or c.args.order.now c.loop-message.message-index message.GitmodulesSymlink in
    let within : c.loop-message.message-index < length c.args.order.now = search rules in
    let finds : FindsOffset (IsFaultOffset (is_strict_by c.args.options.now) entries ending it) c.in_ok-found.found =
    subst (λ (strict : Bool). FindsOffset (IsFaultOffset strict entries ending it) c.in_ok-found.found) c.is_strict.ensures
    c.in_ok-found.ensures.found in
    appends_message c.args.options.now (IsFaultOffset (is_strict_by c.args.options.now) entries ending) c.args.order.now
    c.loop-message.message-index message.GitmodulesSymlink c.in_ok-found.found c.args.findings.now.items c.loop-message.findings.items
    c.report_found.new.findings.items within c.loop-message.invariant finds c.in_ok-report_found.ensures.found

pub returns-in_err-report_found-clause-error : goal.returns-in_err-report_found-clause-error
returns-in_err-report_found-clause-error c =
    let entries = raw_entry_views c.args.tree.now.entries.items in
    let ending = ending_of c.args.tree.now.is_broken in
    let it : Message = get_or c.args.order.now c.loop-message.message-index message.GitmodulesSymlink in
    let finds : FindsOffset (IsFaultOffset (is_strict_by c.args.options.now) entries ending it) c.in_ok-found.found =
    subst (λ (strict : Bool). FindsOffset (IsFaultOffset strict entries ending it) c.in_ok-found.found) c.is_strict.ensures
    c.in_ok-found.ensures.found in
    on_err c.from_residual-in_err-report_found.result _
    (inr (reported_fault c.args.options.now entries ending it c.in_ok-found.found finds c.in_err-report_found.ensures.offset
    c.in_err-report_found.ensures.error))
