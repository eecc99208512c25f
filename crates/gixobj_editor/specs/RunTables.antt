-- Tables that agree with a store, and with a run.
use Rattle.std.specs.Prelude.{◌≡◌, ℕ, List, Some, take}
use Rattle.gixobj_store.specs.Stores.{Objects}
use Rattle.gixobj_editor_lookups.specs.Openings.{NamesTree}
use Rattle.gixobj_editor_files.specs.Files.{Table}
use Rattle.gixobj_editor_files.specs.Tables.{AgreesWithPairs, IsNeverLookedUp}
use Rattle.gixobj_hash.specs.Hash.{id_kind}
use Rattle.gixobj_hash.specs.declared.hash.object_id.ObjectId.{ObjectId}
use Rattle.gixobj_store_keep.specs.Keeping.{with_trees}
use Rattle.gixobj_tree_entries.specs.TreeDecoding.{DecodesToTree}
use Rattle.gixobj_tree_entries.specs.Entries.{EntryView, Pair}
use Rattle.gixobj_tree.specs.WellFormed.{IsWellFormed}
use Rattle.gixobj_tree.specs.TreeEncoding.{encode_tree}
use Rattle.gixobj_editor.specs.Commands.{emitted_pairs, kept_pairs}
use Rattle.gixobj_editor.specs.declared.reply.Reply.{Reply}

-- the table has the well-formed trees that ids name as objects, but for the ids that are never looked up
abbrev pub AgreesWithObjects : Table → Objects → Type 0
AgreesWithObjects T objects = (id : ObjectId) (entries : List EntryView) → (¬ IsNeverLookedUp id)
    → NamesTree objects id entries → T.tree_at id ≡ Some entries

-- the table has the emitted trees of a run, and agrees with the store before the run and after each tree that was kept
pub record AgreesWithRun {E : Type 0} (T : Table) (objects : Objects) (replies : List (Reply E)) : Type 0 where
  pub writes : AgreesWithPairs T (emitted_pairs replies)
  pub stores : (count : ℕ) → AgreesWithObjects T (with_trees (take count (kept_pairs replies)) objects)

-- the encoding of the tree decodes to no other well-formed tree
abbrev pub DecodesToItself : Pair → Type 0
DecodesToItself pair = (entries : List EntryView) → DecodesToTree (id_kind pair.0) (encode_tree pair.1) entries
    → IsWellFormed entries → entries ≡ pair.1
