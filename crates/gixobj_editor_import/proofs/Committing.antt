-- The commits of steps that are imported one after the other.
use Rattle.std.proofs.Common.{◌≡◌, inr, List, [], ◌∷◌, Option, None, Some, ap, subst, sym}
use Rattle.std.proofs.lemmas.List.Elements.{All-cons, All-head, All-nil}
use Rattle.gixobj_store.specs.Stores.{StoreModel, Objects}
use Rattle.gixobj_hash.specs.Hash.{encode_id_hex}
use Rattle.gixobj_hash.specs.Hash.Hex.{IsIdHexOfKind}
use Rattle.gixobj_hash.specs.declared.hash.kind.Kind as hash
use Rattle.gixobj_hash.specs.declared.hash.object_id.ObjectId.{ObjectId}
use Rattle.gixobj_editor_import.specs.ByDigest.{AddsByDigest, NamesByDigest}
use Rattle.gixobj_editor_import.specs.Commits.{only_parent, encode_step}
use Rattle.gixobj_editor_import.specs.Imports.{AreCommitsOf, IsNewImporter}
use Rattle.gixobj_editor_import.specs.Steps.{AreImported, HaveHex, IsImported}
use Rattle.gixobj_editor_import.specs.declared.import.Imported.{Imported}
use Rattle.gixobj_editor_import.specs.declared.import.Importer.{Importer}
use Rattle.gixobj_editor_import.specs.declared.import.Step.{Step}
use Rattle.gixobj_editor_import.proofs.Adding.{objects_of, steps_add}
use Rattle.gixobj_editor_import.proofs.Digests.{adds_by_digest_append, names_commit, names_by_digest_of_adds}
use Rattle.gixobj_editor_import.proofs.StoreFacts.{OfStores}

module _ {S : Type 0} (model : StoreModel S) (laws : OfStores) where
  last_is : (old : Importer S) (step : Step) (it : Imported) (new : Importer S) → IsImported model old step it new → new.last ≡ Some it.commit
  last_is old step it new one = ap (λ (i : Importer S). i.last) one.rest

  hash_is : (old : Importer S) (step : Step) (it : Imported) (new : Importer S) → IsImported model old step it new → new.hash ≡ old.hash
  hash_is old step it new one = ap (λ (i : Importer S). i.hash) one.rest

  commits : (old new : Importer S) (steps : List Step) (imported : List Imported) → AreImported model old steps imported new
      → HaveHex old.hash (only_parent old.last)
      → (final : Objects) → AddsByDigest (objects_of model laws new) final → AreCommitsOf old.hash old.last steps imported final
  commits old new [] [] done hex final adds = tt
  commits old new (step ∷ steps) (it ∷ imported) (between, one, done) hex final adds =
      let P : ObjectId → Type 0 = λ id. IsIdHexOfKind old.hash (encode_id_hex id) in
      let later = commits between new steps imported done
      (subst (λ (h : hash.Kind). HaveHex h (only_parent between.last)) (sym (hash_is old step it between one))
      (subst (λ (parent : Option ObjectId). HaveHex old.hash (only_parent parent)) (sym (last_is old step it between one)) one.commit.hex)) final adds in
      let bytes = encode_step step it.written.id old.last in
      let from_here = adds_by_digest_append (objects_of model laws between) (objects_of model laws new) final
      (steps_add model laws between new steps imported done) adds in
      let names = names_by_digest_of_adds (objects_of model laws between) final it.commit from_here
      (subst (λ (objects : Objects). NamesByDigest objects it.commit) (sym one.commit.stored)
      (names_commit laws.inserted old.hash it.commit bytes (model.objects one.between.store) one.commit.id)) in (
        record {
          id = one.commit.id;
          decodes = one.commit.decodes (All-cons P it.written.id (only_parent old.last) (All-head P it.written.id [] one.root) hex);
          author = one.commit.author;
          committer = one.commit.committer;
          stored = record { it = names.it; named_so = names.named_so; which = inr names.digest };
        },
        subst (λ (h : hash.Kind). AreCommitsOf h (Some it.commit) steps imported final) (hash_is old step it between one)
            (subst (λ (parent : Option ObjectId). AreCommitsOf between.hash parent steps imported final) (last_is old step it between one) later),
      )
  commits old new [] (it ∷ imported) done hex final adds = absurd done
  commits old new (step ∷ steps) [] done hex final adds = absurd done

  -- the commits of a new importer
  pub commits_of_new : (old new : Importer S) (steps : List Step) (imported : List Imported) → AreImported model old steps imported new → IsNewImporter old
      → (final : Objects) → AddsByDigest (objects_of model laws new) final
      → AreCommitsOf old.hash None steps imported final
  commits_of_new old new steps imported done is final adds =
      let P : ObjectId → Type 0 = λ id. IsIdHexOfKind old.hash (encode_id_hex id) in
      subst (λ (parent : Option ObjectId). AreCommitsOf old.hash parent steps imported final) is.last
      (commits old new steps imported done (subst (λ (parent : Option ObjectId). HaveHex old.hash (only_parent parent)) (sym is.last) (All-nil P)) final adds)
