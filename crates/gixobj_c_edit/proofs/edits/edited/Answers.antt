-- The parts of the call make its result.
use Rattle.std.proofs.Common.{List, subst, sym}
use Rattle.std.proofs.lemmas.Result.{IfErr-weaker, IfOk-weaker}
use Rattle.gixobj_c_edit.proofs.EditFiles.{all_encodable, all_ends_in_write, is_edited}
use Rattle.gixobj_c_edit.proofs.Emitted.{edit_error_of_memory, edit_error_of_replies, edit_error_of_script}
use Rattle.gixobj_c_edit.proofs.edits.edited.Goals as goal
use Rattle.gixobj_c_edit.specs.Edits.{AreEncodableIfDone, IsEmitted, IsRepliesError}
use Rattle.gixobj_c_edit.specs.Replies.{EndsInWrite}
use Rattle.gixobj_editor.specs.declared.reply.Reply.{Reply}
use Rattle.gixobj_streams.specs.declared.encode.Error.{Error}
use Rattle.gixobj_hash.specs.Hash.{id_bytes}
use Rattle.gixobj_store_keep.specs.Memory.{memory_objects}

pub new_trees-requires-clause-write : goal.new_trees-requires-clause-write
new_trees-requires-clause-write c = subst EndsInWrite (sym c.deref.ensures.value) (all_ends_in_write c.args.hash c.args.script.now c.in-Ok.start.editor
    c.in-Ok-commands_of.commands.items c.in-Ok-replies_of.replies.items c.in-Ok-commands_of.ensures.found c.in-Ok-replies_of.ensures.ran)

pub new_trees-requires-clause-encodable : goal.new_trees-requires-clause-encodable
new_trees-requires-clause-encodable c = subst AreEncodableIfDone (sym c.deref.ensures.value) (all_encodable c.args.hash c.in-Ok.start.editor
    c.in-Ok-commands_of.commands.items c.in-Ok-replies_of.replies.items c.in-Ok-replies_of.ensures.ran)

pub returns-clause-found : goal.returns-clause-found
returns-clause-found c = IfOk-weaker c.new_trees.result _ _ (λ new emitted. is_edited c.args.hash c.args.trees.now c.args.root.now c.args.script.now
    (memory_objects c.in-Ok.start.lossy) c.in-Ok.start.editor c.in-Ok-commands_of.commands.items c.in-Ok-replies_of.replies.items _ _
    c.in-Ok-commands_of.ensures.found c.in-Ok.ensures.found c.in-Ok-replies_of.ensures.ran c.in-Ok-replies_of.ensures.files
    (subst (λ (all : List (Reply Error)). IsEmitted c.args.hash all new.frames.items (id_bytes new.id)) c.deref.ensures.value emitted))
    c.new_trees.ensures.found

pub returns-clause-error : goal.returns-clause-error
returns-clause-error c = IfErr-weaker c.new_trees.result _ _ (λ failed error. edit_error_of_replies c.args.hash c.args.trees.now c.args.root.now
    c.args.script.now (memory_objects c.in-Ok.start.lossy) c.in-Ok.start.editor c.in-Ok-commands_of.commands.items
    c.in-Ok-replies_of.replies.items _ _ _ c.in-Ok-commands_of.ensures.found c.in-Ok.ensures.found c.in-Ok-replies_of.ensures.ran
    (subst (λ (all : List (Reply Error)). IsRepliesError c.args.hash (memory_objects c.in-Ok.start.lossy) all failed.failure failed.number failed.ids.items)
    c.deref.ensures.value error))
    c.new_trees.ensures.error

pub returns-in-Err-commands_of-clause-error : goal.returns-in-Err-commands_of-clause-error
returns-in-Err-commands_of-clause-error c = edit_error_of_script c.args.hash c.args.trees.now c.args.root.now c.args.script.now
    (memory_objects c.in-Ok.start.lossy) c.in-Ok.start.editor _ _ _ c.in-Ok.ensures.found c.in-Err-commands_of.ensures.error

pub returns-in-Err-replies_of-clause-error : goal.returns-in-Err-replies_of-clause-error
returns-in-Err-replies_of-clause-error c = edit_error_of_memory c.args.hash c.args.trees.now c.args.root.now c.args.script.now
    (memory_objects c.in-Ok.start.lossy) c.in-Ok.start.editor c.in-Ok-commands_of.commands.items _ _ _ c.in-Ok-commands_of.ensures.found
    c.in-Ok.ensures.found c.in-Err-replies_of.ensures.error
