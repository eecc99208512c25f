-- Every store has the trees that it names.
use Rattle.std.proofs.Common.{◌≡◌, ◌≢◌, ⊎_elim, List, Option, Some, None, ap, refl, sym, subst, ◌∙◌}
use Rattle.gixobj_store.specs.Stores.{Objects, StoredObject, named}
use Rattle.gixobj_editor_files.specs.Files.{Trees}
use Rattle.gixobj_hash.specs.declared.hash.object_id.ObjectId.{ObjectId}
use Rattle.gixobj_hash.specs.declared.kind.Kind.{Kind}
use Rattle.gixobj_hash.specs.declared.kind.Kind.TheVariants.{Blob, Commit, Tag, Tree}
use Rattle.gixobj_tree.proofs.DecidableTrees.{decodes_to_tree_or_malformed}
use Rattle.gixobj_tree_entries.proofs.EntryRuns.{tree_unique}
use Rattle.gixobj_tree_entries.specs.TreeDecoding.{DecodesToTree}
use Rattle.gixobj_tree_entries.specs.Entries.{EntryView}
use Rattle.gixobj_tree.specs.WellFormed.{IsWellFormed}
use Rattle.gixobj_editor_lookups.proofs.DecidableWellFormed.{is_well_formed_or_not}
use Rattle.gixobj_editor_lookups.specs.Openings.{AreTreesOf, NamesTree}

-- the well-formed tree that the id names, or none
abbrev IsTreeAt : Objects → ObjectId → Option (List EntryView) → Type 0
IsTreeAt objects id found = (entries : List EntryView) → (found ≡ Some entries → NamesTree objects id entries)
    × (NamesTree objects id entries → found ≡ Some entries)

abbrev TreeAt : Objects → ObjectId → Type 0
TreeAt objects id = (found : Option (List EntryView)) × IsTreeAt objects id found

tree_at_of_unnamed : (objects : Objects) (id : ObjectId) → ((entries : List EntryView) → NamesTree objects id entries → ⊥) → TreeAt objects id
tree_at_of_unnamed objects id none = (None, λ entries. (λ is. cc is, λ names. absurd (none entries names)))

-- the tree of an object that the id names
module _ (objects : Objects) (id : ObjectId) (kept : StoredObject) (named_so : named objects id ≡ Some kept) where
  same_object : (other : StoredObject) → named objects id ≡ Some other → other ≡ kept
  same_object other is = cc (is, named_so)

  no_other_kind : (kind : Kind) → kept.kind ≡ kind → kind ≢ Tree → (entries : List EntryView) → NamesTree objects id entries → ⊥
  no_other_kind kind is differs entries names =
      differs (sym is ∙ sym (ap (λ (it : StoredObject). it.kind) (same_object names.0.0 names.0.1)) ∙ names.0.2)

  bytes_there : (entries : List EntryView) → NamesTree objects id entries → DecodesToTree kept.object_hash kept.bytes entries
  bytes_there entries names =
      let P : StoredObject → Type 0 = λ it. DecodesToTree it.object_hash it.bytes entries in
      subst P (same_object names.0.0 names.0.1) names.0.3

  formed_at : kept.kind ≡ Tree → (entries : List EntryView) → DecodesToTree kept.object_hash kept.bytes entries → IsWellFormed entries → TreeAt objects id
  formed_at kind entries content formed = (
    Some entries,
    λ others. (
      λ is. (let same : entries ≡ others = cc is in subst (NamesTree objects id) same ((kept, named_so, kind, content), formed)),
      λ names. ap Some (tree_unique kept.object_hash kept.bytes entries others content (bytes_there others names)),
    ),
  )

  malformed_at : (entries : List EntryView) → DecodesToTree kept.object_hash kept.bytes entries → (IsWellFormed entries → ⊥) → TreeAt objects id
  malformed_at entries content malformed =
      tree_at_of_unnamed objects id (λ others names. malformed
      (subst IsWellFormed (tree_unique kept.object_hash kept.bytes others entries (bytes_there others names) content) names.1))

  bytes_at : kept.kind ≡ Tree → TreeAt objects id
  bytes_at kind =
      ⊎_elim (λ is. ⊎_elim (formed_at kind is.0 is.1) (malformed_at is.0 is.1) (is_well_formed_or_not is.0))
      (λ none. tree_at_of_unnamed objects id (λ entries names. none entries (bytes_there entries names)))
      (decodes_to_tree_or_malformed kept.object_hash kept.bytes)

  kind_at : (kind : Kind) → kept.kind ≡ kind → TreeAt objects id
  kind_at Tree is = bytes_at is
  kind_at Blob is = tree_at_of_unnamed objects id (no_other_kind Blob is (λ same. cc same))
  kind_at Commit is = tree_at_of_unnamed objects id (no_other_kind Commit is (λ same. cc same))
  kind_at Tag is = tree_at_of_unnamed objects id (no_other_kind Tag is (λ same. cc same))

tree_at_of_named : (objects : Objects) (id : ObjectId) (found : Option StoredObject) → named objects id ≡ found → TreeAt objects id
tree_at_of_named objects id None none = tree_at_of_unnamed objects id (λ entries names. cc (none, names.0.1))
tree_at_of_named objects id (Some kept) some = kind_at objects id kept some kept.kind refl

tree_at_exists : (objects : Objects) (id : ObjectId) → TreeAt objects id
tree_at_exists objects id = tree_at_of_named objects id (named objects id) refl

pub trees_of_objects_exist : (objects : Objects) → (trees : Trees) × AreTreesOf objects trees
trees_of_objects_exist objects = (λ id. (tree_at_exists objects id).0, λ id. (tree_at_exists objects id).1)
