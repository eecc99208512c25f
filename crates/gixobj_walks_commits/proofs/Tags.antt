-- An id leads through tags to one commit at most.
use Rattle.std.proofs.Common.{◌≡◌, ◌∙◌, ℕ, zero, suc, List, Some, ap, subst, sym}
use Rattle.std.specs.Prelude.{codes}
use Rattle.gixobj_hash.proofs.HexIds.{decoded_id_unique}
use Rattle.gixobj_hash.specs.Hash.Hex.{decoded_id}
use Rattle.gixobj_hash.specs.declared.hash.kind.Kind as hash
use Rattle.gixobj_hash.specs.declared.hash.object_id.ObjectId.{ObjectId}
use Rattle.gixobj_hash.specs.declared.kind.Kind.TheVariants as object
use Rattle.gixobj_parse.proofs.HeaderFields.{field_unique}
use Rattle.gixobj_store.specs.Stores.{Names, Objects, StoredObject}
use Rattle.gixobj_walks_commits.proofs.Lookups.{target_comes_first}
use Rattle.gixobj_walks_commits.specs.Nodes.{NamesKind}
use Rattle.gixobj_walks_commits.specs.Tags.{IsTagOf, NamesTagOf, PeelsToCommit, TagsLeadTo}

-- an id names one object
names_unique : (objects : Objects) (id : ObjectId) (a b : StoredObject) → Names objects id a → Names objects id b → a ≡ b
names_unique objects id a b first second = let found : Some a ≡ Some b = sym first ∙ second in cc found

tag_target_unique : (kind : hash.Kind) (bytes : List ℕ) (a b : ObjectId) → IsTagOf kind bytes a → IsTagOf kind bytes b → a ≡ b
tag_target_unique kind bytes a b first second =
    let same = field_unique (codes "object") bytes first.tag.target _ second.tag.target _ (target_comes_first kind bytes first.body first.tag)
    (target_comes_first kind bytes second.body second.tag) in
    decoded_id_unique first.tag.target a first.tagged ∙ ap decoded_id same.0 ∙ sym (decoded_id_unique second.tag.target b second.tagged)

-- an id names a tag of one object
pub tagged_object_is_unique : (objects : Objects) (id a b : ObjectId) → NamesTagOf objects id a → NamesTagOf objects id b → a ≡ b
tagged_object_is_unique objects id a b first second =
    let same = names_unique objects id first.object second.object first.named second.named in
    tag_target_unique second.object.object_hash second.object.bytes a b
    (subst (λ (it : StoredObject). IsTagOf it.object_hash it.bytes a) same first.tag) second.tag

-- a commit is no tag
no_tag_of_commit : (objects : Objects) (id target : ObjectId) → NamesKind objects id object.Commit → NamesTagOf objects id target → ⊥
no_tag_of_commit objects id target (it, named, is) tag =
    let same = names_unique objects id it tag.object named tag.named in
    let kinds : object.Commit ≡ object.Tag = sym is ∙ ap (λ (it : StoredObject). it.kind) same ∙ tag.kind in cc kinds

peels_uniquely : (objects : Objects) (m n : ℕ) (id a b : ObjectId) → TagsLeadTo objects m id a → TagsLeadTo objects n id b
    → NamesKind objects a object.Commit → NamesKind objects b object.Commit → a ≡ b
peels_uniquely objects zero zero id a b at_a at_b commit_a commit_b = sym at_a ∙ at_b
peels_uniquely objects zero (suc n) id a b at_a (next, tag, more) commit_a commit_b =
    absurd (no_tag_of_commit objects id next (subst (λ (it : ObjectId). NamesKind objects it object.Commit) (sym at_a) commit_a) tag)
peels_uniquely objects (suc m) zero id a b (next, tag, more) at_b commit_a commit_b =
    absurd (no_tag_of_commit objects id next (subst (λ (it : ObjectId). NamesKind objects it object.Commit) (sym at_b) commit_b) tag)
peels_uniquely objects (suc m) (suc n) id a b (next, tag, more) (next', tag', more') commit_a commit_b =
    let same = tagged_object_is_unique objects id next' next tag' tag in
    peels_uniquely objects m n next a b more (subst (λ (it : ObjectId). TagsLeadTo objects n it b) same more') commit_a commit_b

-- an id names one commit, itself or through tags
pub peeled_commit_is_unique : (objects : Objects) (id a b : ObjectId) → PeelsToCommit objects id a → PeelsToCommit objects id b → a ≡ b
peeled_commit_is_unique objects id a b (m, at_a, commit_a) (n, at_b, commit_b) = peels_uniquely objects m n id a b at_a at_b commit_a commit_b
