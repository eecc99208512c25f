-- Objects that are inserted into a store under their digests: for the write of a step, its commit, and what both add to
-- the store.
use Rattle.std.proofs.Common.{◌≡◌, ◌∙◌, ◌*◌, inl, inr, ⊎_elim, ℕ, All, List, [], ◌∷◌, ◌++◌, ap, refl, subst, sym}
use Rattle.std.proofs.lemmas.List.Elements.{All-cons, All-head, All-nil, All-tail}
use Rattle.std.specs.FinMap as finite
use Rattle.std.specs.List.{FoldsTo}
use Rattle.gixobj_store.specs.Stores.{Objects, StoredObject, named}
use Rattle.gixobj_editor_write.specs.declared.write.Written.{Written}
use Rattle.gixobj_editor.specs.Writes.{IsWrittenEditor}
use Rattle.gixobj_editor_files.specs.State.{State}
use Rattle.gixobj_tree_entries.specs.Entries.{Pair}
use Rattle.gixobj_hash.specs.Hash.{IsIdHex, IsId, DecodesToId, hash_len, encode_id_hex, id_from, id_kind, id_of}
use Rattle.gixobj_hash.specs.Hash.Hex.{IsIdHexOfKind}
use Rattle.gixobj_hash.specs.declared.hash.kind.Kind as hash
use Rattle.gixobj_hash.specs.declared.hash.kind.Kind.TheVariants as hash_kind
use Rattle.gixobj_hash.specs.declared.hash.object_id.ObjectId.{ObjectId}
use Rattle.gixobj_hash.specs.declared.kind.Kind as kind
use Rattle.gixobj_hash.specs.declared.kind.Kind.TheVariants.{Commit, Tree}
use Rattle.gixobj_store_keep.specs.Keeping.{commit_object, tree_object, with_commit, with_tree, with_trees}
use Rattle.gixobj_tree.specs.TreeEncoding.{IsDigestResult, encode_tree}
use Rattle.gixobj_editor.specs.Replies.{ReturnsTreeId}
use Rattle.gixobj_editor_import.specs.ByDigest.{AddsByDigest, NamesByDigest, digest_id}
use Rattle.gixobj_editor_import.specs.Steps.{HaveHex}
use Rattle.gixobj_editor_import.proofs.StoreFacts.{Inserted}

id_from_kind : (k : hash.Kind) (bytes : List ℕ) → id_kind (id_from k bytes) ≡ k
id_from_kind hash_kind.Sha1 bytes = refl
id_from_kind hash_kind.Sha256 bytes = refl

-- an id that is a digest has the kind of the digest
pub digest_id_kind : (k : hash.Kind) (o : kind.Kind) (bytes : List ℕ) (it : ObjectId) → it ≡ id_of k o bytes → id_kind it ≡ k
digest_id_kind k o bytes it is = ap id_kind is ∙ id_from_kind k _

-- the hex digits of an id of this kind are those of its kind
pub have_hex_of_id : (k : hash.Kind) (id : ObjectId) → ((it : ObjectId) → IsId it → IsIdHex (encode_id_hex it))
    → ((it : ObjectId) → IsId it → DecodesToId (encode_id_hex it) it) → IsId id → id_kind id ≡ k → HaveHex k (id ∷ [])
have_hex_of_id k id reads spells is same =
    let P : ObjectId → Type 0 = λ it. IsIdHexOfKind k (encode_id_hex it) in
    All-cons P id [] ((spells id is).len ∙ ap (λ (h : hash.Kind). 2 * hash_len h) same, (reads id is).1) (All-nil P)

digest_id_of_object_bytes : (k : hash.Kind) (o : kind.Kind) (bytes : List ℕ) (it : ObjectId) → it ≡ id_of k o bytes
    → digest_id (record { kind = o; object_hash = id_kind it; bytes = bytes }) ≡ it
digest_id_of_object_bytes k o bytes it is = ap (λ (h : hash.Kind). id_of h o bytes) (digest_id_kind k o bytes it is) ∙ sym is

pub adds_by_digest_nil : (before after : Objects) → after ≡ before → AddsByDigest before after
adds_by_digest_nil before after same id = inl (ap (λ (objects : Objects). named objects id) same)

pub adds_by_digest_append : (before between after : Objects) → AddsByDigest before between → AddsByDigest between after → AddsByDigest before after
adds_by_digest_append before between after first then id =
    ⊎_elim
    (λ same. ⊎_elim (λ as_before. inl (same ∙ as_before))
    (λ named_so. inr (record { it = named_so.it; named_so = same ∙ named_so.named_so; digest = named_so.digest })) (first id))
    inr
    (then id)

pub names_by_digest_of_adds : (before after : Objects) (id : ObjectId) → AddsByDigest before after → NamesByDigest before id → NamesByDigest after id
names_by_digest_of_adds before after id adds names = ⊎_elim (λ same. record { it = names.it; named_so = same ∙ names.named_so; digest = names.digest })
    (λ it. it) (adds id)

abbrev pub IsDigest : hash.Kind → Pair → Type 0
IsDigest hash pair = pair.0 ≡ id_of hash Tree (encode_tree pair.1)

module _ (laws : Inserted) where
  adds_one : (objects : Objects) (id : ObjectId) (it : StoredObject) → digest_id it ≡ id → AddsByDigest objects (finite.insert objects id it)
  adds_one objects id it digest other =
      ⊎_elim (λ same. inr (record { it = it; named_so = ap (named (finite.insert objects id it)) same ∙ laws.there objects id it; digest = digest ∙ sym same }))
      (λ differ. inl (laws.elsewhere objects id other it differ))
      (laws.same_or_not other id)

  pub adds_trees : (hash : hash.Kind) (pairs : List Pair) (objects : Objects) → All (IsDigest hash) pairs → AddsByDigest objects (with_trees pairs objects)
  adds_trees hash [] objects all = adds_by_digest_nil objects objects refl
  adds_trees hash (pair ∷ pairs) objects all =
      adds_by_digest_append objects (with_tree pair objects) (with_trees pairs (with_tree pair objects))
      (adds_one objects pair.0 (tree_object pair.0 pair.1) (digest_id_of_object_bytes hash Tree (encode_tree pair.1) pair.0
      (All-head (IsDigest hash) pair pairs all)))
      (adds_trees hash pairs (with_tree pair objects) (All-tail (IsDigest hash) pair pairs all))

  pub adds_commit : (hash : hash.Kind) (commit : ObjectId) (content : List ℕ) (objects : Objects) → commit ≡ id_of hash Commit content
      → AddsByDigest objects (with_commit commit content objects)
  adds_commit hash commit content objects is = adds_one objects commit (commit_object commit content) (digest_id_of_object_bytes hash Commit content commit is)

  pub names_commit : (hash : hash.Kind) (commit : ObjectId) (content : List ℕ) (objects : Objects) → commit ≡ id_of hash Commit content
      → NamesByDigest (with_commit commit content objects) commit
  names_commit hash commit content objects is =
      record {
        it = commit_object commit content;
        named_so = laws.there objects commit (commit_object commit content);
        digest = digest_id_of_object_bytes hash Commit content commit is;
      }

-- the emitted trees have their digests as ids
pub written_pairs_are_digests : (hash : hash.Kind) (pairs : List Pair) → FoldsTo (ReturnsTreeId (IsDigestResult hash)) tt pairs tt → All (IsDigest hash) pairs
written_pairs_are_digests hash [] folded = All-nil (IsDigest hash)
written_pairs_are_digests hash (pair ∷ pairs) (next, one, rest) = All-cons (IsDigest hash) pair pairs one.1 (written_pairs_are_digests hash pairs rest)

last_holds_of_all_snoc : (P : Pair → Type 0) (xs : List Pair) (x : Pair) → All P (xs ++ x ∷ []) → P x
last_holds_of_all_snoc P [] x all = All-head P x [] all
last_holds_of_all_snoc P (y ∷ xs) x all = last_holds_of_all_snoc P xs x (All-tail P y (xs ++ x ∷ []) all)

-- the id of the root is a digest of this kind
pub written_root_id_kind : {S : Type 0} (k : hash.Kind) (old new : State S) (it : Written)
    → IsWrittenEditor (ReturnsTreeId (IsDigestResult k)) tt old it new tt
    → id_kind it.id ≡ k
written_root_id_kind k old new it wrote =
    let all = subst (All (IsDigest k)) wrote.last (written_pairs_are_digests k it.trees.items wrote.called) in
    digest_id_kind k Tree (encode_tree wrote.written_tree) it.id (last_holds_of_all_snoc (IsDigest k) wrote.below (it.id, wrote.written_tree) all)
