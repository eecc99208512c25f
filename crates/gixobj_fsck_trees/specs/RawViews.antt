-- The views of entries.
use Rattle.std.specs.Prelude.{List, map}
use Rattle.gixobj_fsck_trees.specs.RawEntries.{RawEntryView}
use Rattle.gixobj_fsck_trees.specs.declared.raw_entry.RawEntry.{RawEntry}

-- the view of a borrowed entry
abbrev pub raw_entry_view : RawEntry → RawEntryView
raw_entry_view entry =
    record {
      mode = entry.mode;
      first_digit = entry.first_digit;
      name = entry.name.now;
      id = entry.id.now;
      offset = entry.offset;
      end = entry.end;
    }

-- the views of borrowed entries
abbrev pub raw_entry_views : List RawEntry → List RawEntryView
raw_entry_views entries = map raw_entry_view entries
