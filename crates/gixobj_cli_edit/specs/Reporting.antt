-- Lines that report the replies to a run.
use Rattle.std.specs.Prelude.{◌≡◌, ℕ, List, None, Option, Some, ◌++◌, codes, decimal, length, ⊤}
use Rattle.std.specs.List.{flat_map}
use Rattle.std.specs.declared.alloc.Global.{Global}
use Rattle.std.specs.declared.vec.Vec.{Vec}
use Rattle.bstr.specs.Owned.{bstring_bytes}
use Rattle.gixobj_editor_write.specs.declared.write.WriteError.TheVariants as write
use Rattle.gixobj_editor_lookups.specs.declared.error.Error.{Error}
use Rattle.gixobj_editor_lookups.specs.declared.error.Error.TheVariants as editing
use Rattle.gixobj_editor.specs.declared.reply.EditReply.{EditReply}
use Rattle.gixobj_editor.specs.declared.reply.EditReply.TheVariants as edit_reply
use Rattle.gixobj_editor.specs.declared.reply.Reply.{Reply}
use Rattle.gixobj_editor.specs.declared.reply.Reply.TheVariants as reply
use Rattle.gixobj_hash.specs.Hash.{encode_id_hex}
use Rattle.gixobj_editor_commands.specs.Lines.{keyword_and}
use Rattle.gixobj_hash.specs.FieldFormat.{encode_line}

-- the report of an edit that failed: the number of the error, and the path of a directory that was to be removed as a
-- leaf
abbrev pub edit_error_line : Error → List ℕ
edit_error_line editing.EmptyPathComponent = codes "refused 1"
edit_error_line editing.SlashInPathComponent = codes "refused 2"
edit_error_line (editing.FindExistingObject cause) = codes "refused 3"
edit_error_line (editing.CannotRemoveNonLeaf path) = keyword_and (codes "refused 4") (bstring_bytes path)
edit_error_line editing.MalformedTree = codes "refused 5"
edit_error_line editing.OutOfMemory = codes "refused 6"

-- the report of the reply to an edit or a write
abbrev pub edit_reply_bytes : {E : Type 0} → EditReply E → List ℕ
edit_reply_bytes edit_reply.Done = codes "ok"
edit_reply_bytes (edit_reply.Refused error) = edit_error_line error
edit_reply_bytes (edit_reply.Written written) =
    keyword_and (codes "wrote") (keyword_and (encode_id_hex written.id) (decimal (length written.trees.items)))
edit_reply_bytes (edit_reply.WriteRefused (write.Out cause)) = codes "refused out"
edit_reply_bytes (edit_reply.WriteRefused write.OutOfMemory) = codes "refused memory"
edit_reply_bytes (edit_reply.NotKept written count error) = keyword_and (codes "unkept") (encode_id_hex written.id)

-- the line that reports the reply to an edit or a write
abbrev pub edit_reply_line : {E : Type 0} → EditReply E → List ℕ
edit_reply_line its_reply = encode_line (edit_reply_bytes its_reply)

-- the lines that report a reply: one for each edit in a directory; a root that is not well-formed is reported as a
-- malformed tree
abbrev pub reply_lines : {E : Type 0} → Reply E → List ℕ
reply_lines (reply.Edit its_reply) = edit_reply_line its_reply
reply_lines (reply.At replies) = flat_map edit_reply_line replies.items
reply_lines (reply.AtRefused error) = encode_line (edit_error_line error)
reply_lines reply.RootSet = encode_line (codes "ok")
reply_lines reply.RootRefused = encode_line (edit_error_line editing.MalformedTree)

-- the line with the number of lookups
abbrev pub lookups_line : ℕ → List ℕ
lookups_line lookups = encode_line (keyword_and (codes "lookups") (decimal lookups))

-- the lines that report the replies, in order, and then the lookups
abbrev pub report_lines_of : {E : Type 0} → List (Reply E) → ℕ → List ℕ
report_lines_of replies lookups = flat_map reply_lines replies ++ lookups_line lookups

-- the lines report the replies, in order; or they are lost
abbrev pub AreLinesOf : {E : Type 0} → Option (Vec ℕ Global) → List (Reply E) → Type 0
AreLinesOf (Some lines) replies = lines.items ≡ flat_map reply_lines replies
AreLinesOf None replies = ⊤
