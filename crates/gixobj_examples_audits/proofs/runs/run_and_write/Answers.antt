-- The last of the replies is that to the write. They are the clauses of `run_and_write`.
use Rattle.std.proofs.Common.{◌∙◌, ◌∷◌, ◌++◌, ◌≡◌, [], List, Result, Some, ap, refl, subst}
use Rattle.std.specs.Fn.{FnReturnsAt}
use Rattle.std.specs.Option.{option_to_list}
use Rattle.std.specs.Prelude.{Option}
use Rattle.gix_object.specs.Entries.{EntryView}
use Rattle.gix_object.specs.Replies.{IsRun}
use Rattle.gix_object.specs.Stores.{StoreModel}
use Rattle.gix_object.specs.commands.command.Command.{Command}
use Rattle.gix_object.specs.editor.reply.EditReply.{EditReply}
use Rattle.gix_object.specs.editor.reply.EditReply.TheVariants as edit_reply
use Rattle.gix_object.specs.editor.reply.Reply.{Reply}
use Rattle.gix_object.specs.editor.reply.Reply.TheVariants as reply
use Rattle.gix_object.specs.hash.hash.object_id.ObjectId.{ObjectId}
use Rattle.gixobj_examples_audits.proofs.LastReplies.{last_exists, last_is_edit, write_not_done, write_not_rejected}
use Rattle.gixobj_examples_audits.proofs.RunChanged.{WritesAgree, files_of_popped, files_of_write, filled_of_write, run_of_popped}
use Rattle.gixobj_examples_audits.specs.Runs.{and_reply}
use Rattle.gixobj_examples_audits.proofs.runs.run_and_write.Goals as goal

-- the replies, of which the last was removed
all_of_popped : {E : Type 0} (all rest : List (Reply E)) (popped : Option (Reply E)) (last : Reply E) → all ≡ rest ++ option_to_list popped
    → popped ≡ Some last → all ≡ rest ++ last ∷ []
all_of_popped {E} all rest popped last is some = is ∙ ap (λ (o : Option (Reply E)). rest ++ option_to_list o) some

replies_of_popped : {E : Type 0} (all rest : List (Reply E)) (popped : Option (Reply E)) (last : Reply E) (its_reply known : EditReply E)
    → all ≡ rest ++ option_to_list popped → popped ≡ Some last → last ≡ reply.Edit its_reply → its_reply ≡ known → all ≡ and_reply rest known
replies_of_popped {E} all rest popped last its_reply known is some edit same =
    all_of_popped all rest popped last is some ∙ ap (λ (r : Reply E). rest ++ r ∷ []) (edit ∙ ap (λ (x : EditReply E). reply.Edit x) same)

pub unreachable-requires : goal.unreachable-requires
unreachable-requires g c =
    let model : StoreModel g.row.S.Denot = record { objects = g.S.Store.objects; may_fail = g.S.Store.may_fail } in
    let answers = λ (tree : List EntryView) (answer : Result ObjectId g.row.E.Denot). FnReturnsAt g.F.Fn c.args.out tree answer in
    last_exists model answers c.args.editor.now c.run.new.editor c.args.commands.items c.in_ok-replies.replies.items c.pop.new.self.items c.pop.result _
    c.in_ok-replies.replies.ok.0 c.pop.ensures.variant
    (subst (λ (cs : List Command). IsRun model answers c.args.editor.now cs c.in_ok-replies.replies.items c.run.new.editor) (c.in_ok-commands.ensures {u = tt})
    (c.in_ok-replies.ensures {u = tt}).replies) c.in_default.not-Some

pub unreachable-requires-in_default-last : goal.unreachable-requires-in_default-last
unreachable-requires-in_default-last g c =
    let model : StoreModel g.row.S.Denot = record { objects = g.S.Store.objects; may_fail = g.S.Store.may_fail } in
    let answers = λ (tree : List EntryView) (answer : Result ObjectId g.row.E.Denot). FnReturnsAt g.F.Fn c.args.out tree answer in
    let is = all_of_popped c.in_ok-replies.replies.items c.pop.new.self.items c.pop.result c.in-Some.last c.pop.ensures.items c.in-Some.is in
    last_is_edit model answers c.args.editor.now c.run.new.editor c.args.commands.items c.pop.new.self.items c.in-Some.last
    (subst (λ (cs : List Command). IsRun model answers c.args.editor.now cs (c.pop.new.self.items ++ c.in-Some.last ∷ []) c.run.new.editor)
    (c.in_ok-commands.ensures {u = tt})
    (subst (λ (rs : List (Reply g.row.E.Denot)). IsRun model answers c.args.editor.now c.in_ok-commands.commands.items rs c.run.new.editor) is
    (c.in_ok-replies.ensures {u = tt}).replies)) c.in_default-last.not-Edit

pub unreachable-requires-in-Done : goal.unreachable-requires-in-Done
unreachable-requires-in-Done g c =
    let model : StoreModel g.row.S.Denot = record { objects = g.S.Store.objects; may_fail = g.S.Store.may_fail } in
    let answers = λ (tree : List EntryView) (answer : Result ObjectId g.row.E.Denot). FnReturnsAt g.F.Fn c.args.out tree answer in
    let is = replies_of_popped c.in_ok-replies.replies.items c.pop.new.self.items c.pop.result c.in-Some.last c.in-Edit.reply c.in-Edit.reply
    c.pop.ensures.items c.in-Some.is c.in-Edit.is refl in
    write_not_done model answers c.args.editor.now c.run.new.editor c.args.commands.items c.pop.new.self.items c.in-Edit.reply
    (run_of_popped model answers c.args.editor.now c.run.new.editor c.args.commands.items c.in_ok-commands.commands.items c.pop.new.self.items
    c.in_ok-replies.replies.items c.in-Edit.reply (c.in_ok-commands.ensures {u = tt}) (c.in_ok-replies.ensures {u = tt}).replies is) c.in-Done.is

pub unreachable-requires-in-Refused : goal.unreachable-requires-in-Refused
unreachable-requires-in-Refused g c =
    let model : StoreModel g.row.S.Denot = record { objects = g.S.Store.objects; may_fail = g.S.Store.may_fail } in
    let answers = λ (tree : List EntryView) (answer : Result ObjectId g.row.E.Denot). FnReturnsAt g.F.Fn c.args.out tree answer in
    let is = replies_of_popped c.in_ok-replies.replies.items c.pop.new.self.items c.pop.result c.in-Some.last c.in-Edit.reply c.in-Edit.reply
    c.pop.ensures.items c.in-Some.is c.in-Edit.is refl in
    write_not_rejected model answers c.args.editor.now c.run.new.editor c.args.commands.items c.pop.new.self.items c.in-Edit.reply c.in-Refused.field-0
    (run_of_popped model answers c.args.editor.now c.run.new.editor c.args.commands.items c.in_ok-commands.commands.items c.pop.new.self.items
    c.in_ok-replies.replies.items c.in-Edit.reply (c.in_ok-commands.ensures {u = tt}) (c.in_ok-replies.ensures {u = tt}).replies is) c.in-Refused.is

pub returns-in-Written-clause-files : goal.returns-in-Written-clause-files
returns-in-Written-clause-files g c =
    let model : StoreModel g.row.S.Denot = record { objects = g.S.Store.objects; may_fail = g.S.Store.may_fail } in
    let answers = λ (tree : List EntryView) (answer : Result ObjectId g.row.E.Denot). FnReturnsAt g.F.Fn c.args.out tree answer in
    let written = c.in-Written.written in
    let is = replies_of_popped c.in_ok-replies.replies.items c.pop.new.self.items c.pop.result c.in-Some.last c.in-Edit.reply (edit_reply.Written written)
    c.pop.ensures.items c.in-Some.is c.in-Edit.is c.in-Written.is in
    let ran = c.in_ok-replies.ensures {u = tt} in
    let run = run_of_popped model answers c.args.editor.now c.run.new.editor c.args.commands.items c.in_ok-commands.commands.items c.pop.new.self.items
    c.in_ok-replies.replies.items (edit_reply.Written written) (c.in_ok-commands.ensures {u = tt}) ran.replies is in
    files_of_write model answers c.args.editor.now c.run.new.editor c.args.commands.items c.pop.new.self.items written run
    (files_of_popped model answers c.args.editor.now c.run.new.editor c.args.commands.items c.in_ok-commands.commands.items c.pop.new.self.items
    c.in_ok-replies.replies.items (edit_reply.Written written) (c.in_ok-commands.ensures {u = tt}) ran.replies is ran.files_of_root)
    (subst (λ (rs : List (Reply g.row.E.Denot)). WritesAgree rs) (c.deref.ensures.value ∙ is) c.run_table_agrees_with_writes.ensures)

pub returns-in-Written-clause-filled : goal.returns-in-Written-clause-filled
returns-in-Written-clause-filled g c =
    let model : StoreModel g.row.S.Denot = record { objects = g.S.Store.objects; may_fail = g.S.Store.may_fail } in
    let answers = λ (tree : List EntryView) (answer : Result ObjectId g.row.E.Denot). FnReturnsAt g.F.Fn c.args.out tree answer in
    let written = c.in-Written.written in
    let is = replies_of_popped c.in_ok-replies.replies.items c.pop.new.self.items c.pop.result c.in-Some.last c.in-Edit.reply (edit_reply.Written written)
    c.pop.ensures.items c.in-Some.is c.in-Edit.is c.in-Written.is in
    let ran = c.in_ok-replies.ensures {u = tt} in
    let run = run_of_popped model answers c.args.editor.now c.run.new.editor c.args.commands.items c.in_ok-commands.commands.items c.pop.new.self.items
    c.in_ok-replies.replies.items (edit_reply.Written written) (c.in_ok-commands.ensures {u = tt}) ran.replies is in
    filled_of_write model answers c.args.editor.now c.run.new.editor c.args.commands.items c.pop.new.self.items written run
    (subst (λ (rs : List (Reply g.row.E.Denot)). WritesAgree rs) (c.deref.ensures.value ∙ is) c.run_table_agrees_with_writes.ensures)
