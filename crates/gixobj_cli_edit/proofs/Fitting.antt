-- The trees that a run with digests emits are consistent with a store that is empty at first: for
-- `digest_run_has_table`.
use Rattle.std.proofs.Common.{◌≡◌, ◌∙◌, All, ℕ, List, [], ◌∷◌, None, Some, ap, refl, subst, sym}
use Rattle.std.proofs.lemmas.List.Elements.{All-head, All-tail, All-weaker}
use Rattle.std.specs.FinMap as finite
use Rattle.gixobj_editor_commands.specs.declared.command.Command.{Command}
use Rattle.gixobj_store.specs.Stores.{Objects, StoredObject, named}
use Rattle.gixobj_editor_lookups.specs.Openings.{AreTreesOf}
use Rattle.gixobj_streams.specs.declared.encode.Error.{Error}
use Rattle.gixobj_editor_files.specs.Files.{Trees}
use Rattle.gixobj_editor_files.specs.State.{State}
use Rattle.gixobj_editor_files.specs.Tables.{IsConsistentWith}
use Rattle.gixobj_hash.specs.Hash.{id_kind, id_of}
use Rattle.gixobj_hash.specs.Hash.Order.{id_cmp}
use Rattle.gixobj_hash.specs.declared.hash.kind.Kind.{Kind}
use Rattle.gixobj_hash.specs.declared.hash.kind.Kind.TheVariants as hash
use Rattle.gixobj_hash.specs.declared.hash.object_id.ObjectId.{ObjectId}
use Rattle.gixobj_hash.specs.declared.kind.Kind.TheVariants.{Tree}
use Rattle.gixobj_editor.proofs.Answered.{IsAnswered, run_answered}
use Rattle.gixobj_editor.proofs.KeptPairs.{kept_have}
use Rattle.gixobj_editor.specs.Commands.{emitted_pairs, kept_pairs}
use Rattle.gixobj_editor.specs.Replies.{IsRun}
use Rattle.gixobj_editor.specs.RunTables.{DecodesToItself}
use Rattle.gixobj_editor.specs.declared.reply.Reply.{Reply}
use Rattle.gixobj_store_keep.specs.declared.memory.Memory.{Memory}
use Rattle.gixobj_tree.specs.Rewriting.{RoundTrips}
use Rattle.gixobj_tree_entries.specs.Entries.{EntryView, Pair}
use Rattle.gixobj_tree.specs.TreeEncoding.{encode_tree, IsDigestResult}
use Rattle.gixobj_cli_edit.specs.Digests.{HaveDistinctIds}
use Rattle.gixobj_cli_edit.specs.Edits.{memory_model}

all_of_both : (P Q R : Pair → Type 0) → ((pair : Pair) → P pair → Q pair → R pair) → (pairs : List Pair) → All P pairs → All Q pairs → All R pairs
all_of_both P Q R so pairs ps qs = λ k d below. so _ (ps k d below) (qs k d below)

tree_id_kind : (hash : Kind) (bytes : List ℕ) → id_kind (id_of hash Tree bytes) ≡ hash
tree_id_kind hash.Sha1 bytes = refl
tree_id_kind hash.Sha256 bytes = refl

module _ (hash : Kind) where
  abbrev IsOfKind : Pair → Type 0
  IsOfKind pair = id_kind pair.0 ≡ hash

  of_kind : (pair : Pair) → IsAnswered memory_model (IsDigestResult hash) pair → IsOfKind pair
  of_kind pair answered = ap id_kind answered.1 ∙ tree_id_kind hash (encode_tree pair.1)

  -- emitted trees have ids of the hash kind
  pub emitted_kinds : (old new : State Memory) (commands : List Command) (replies : List (Reply Error))
      → IsRun memory_model (IsDigestResult hash) old commands replies new
      → All (λ pair. id_kind pair.0 ≡ hash) (emitted_pairs replies)
  emitted_kinds old new commands replies run =
      All-weaker (IsAnswered memory_model (IsDigestResult hash)) IsOfKind of_kind (emitted_pairs replies)
      (run_answered memory_model (IsDigestResult hash) old new commands replies run)

  -- kept trees decode to themselves if their entries round-trip
  pub kept_as_themselves : ((pair : Pair) → All (RoundTrips (id_kind pair.0)) pair.1 → DecodesToItself pair) → (replies : List (Reply Error))
      → All (λ pair. id_kind pair.0 ≡ hash) (emitted_pairs replies)
      → All (λ pair. All (RoundTrips hash) pair.1) (kept_pairs replies) → All DecodesToItself (kept_pairs replies)
  kept_as_themselves reads replies kinds back =
      all_of_both IsOfKind (λ pair. All (RoundTrips hash) pair.1) DecodesToItself
      (λ pair kind all. reads pair (subst (λ (it : Kind). All (RoundTrips it) pair.1) (sym kind) all)) (kept_pairs replies)
      (kept_have IsOfKind replies kinds) back

  module _ (pairs : List Pair) where
    abbrev HasOneTree : Pair → Type 0
    HasOneTree pair = All (λ other. other.0 ≡ pair.0 → other.1 ≡ pair.1) ((id_of hash Tree [], []) ∷ pairs)

    empty_tree : (pair : Pair) → IsOfKind pair → HasOneTree pair → (it : Kind) → pair.0 ≡ id_of it Tree [] → pair.1 ≡ []
    empty_tree pair kind one it is =
        let same : it ≡ hash = sym (tree_id_kind it []) ∙ ap id_kind (sym is) ∙ kind in
        sym (All-head (λ (other : Pair). other.0 ≡ pair.0 → other.1 ≡ pair.1) (id_of hash Tree [], []) pairs one
        (sym (is ∙ ap (λ (it : Kind). id_of it Tree []) same)))

    none_there : (objects : Objects) (trees : Trees) → objects ≡ finite.empty → AreTreesOf objects trees → (id : ObjectId) (entries : List EntryView)
        → trees id ≡ Some entries → ⊥
    none_there objects trees nothing are id entries is =
        let names = (are id entries).0 is in
        let none : named objects id ≡ None = ap (λ (it : Objects). named it id) nothing ∙ finite.get-empty {X = StoredObject} id_cmp id in
        cc (names.0.1, none)

    -- emitted trees with distinct ids are consistent with an empty store
    pub fits : (objects : Objects) (trees : Trees) → objects ≡ finite.empty → AreTreesOf objects trees → All (λ pair. id_kind pair.0 ≡ hash) pairs
        → HaveDistinctIds hash pairs → IsConsistentWith pairs trees
    fits objects trees nothing are kinds own = record {
      filled = own.filled;
      empty = all_of_both IsOfKind HasOneTree (λ pair. (it : Kind) → pair.0 ≡ id_of it Tree [] → pair.1 ≡ []) empty_tree pairs kinds own.one_tree;
      one_tree = All-weaker HasOneTree (λ pair. All (λ other. other.0 ≡ pair.0 → other.1 ≡ pair.1) pairs)
          (λ pair one. All-tail (λ (other : Pair). other.0 ≡ pair.0 → other.1 ≡ pair.1) (id_of hash Tree [], []) pairs one) pairs own.one_tree;
      of_the_store = λ k d below entries is. absurd (none_there objects trees nothing are _ entries is);
    }
