-- The store of a cursor's editor.
use Rattle.gixobj_editor_files.specs.State.{with_store}
use Rattle.gixobj_editor.specs.declared.editor.cursor.Cursor.{Cursor}
use denote.Ref.{at_last}

-- the cursor, with another store in its editor
abbrev pub with_cursor_store : {S : Type 0} → Cursor S → S → Cursor S
with_cursor_store cursor store = record cursor { editor = at_last cursor.editor (with_store cursor.editor.now store) }
