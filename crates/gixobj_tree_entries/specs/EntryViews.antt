-- The view of a borrowed entry.
use Rattle.bstr.specs.BStr.{bstr_bytes}
use Rattle.gixobj_hash.specs.Hash.Borrowed.{borrowed_id}
use Rattle.gixobj_tree_entries.specs.Entries.{EntryView, entry_of}
use Rattle.gixobj_tree_entries.specs.Mode.{mode_bits}
use Rattle.gixobj_tree_entries.specs.declared.entry_ref.EntryRef.{EntryRef}

-- the view of a borrowed entry: its mode, name and id
abbrev pub entry_view : EntryRef → EntryView
entry_view entry = entry_of (mode_bits entry.mode) (bstr_bytes entry.filename) (borrowed_id entry.oid)
