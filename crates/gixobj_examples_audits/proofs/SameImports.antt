-- Editors with the same open directories over stores of the same objects are alike after the same edits and writes; the proof of `import_twice` uses it.
use Rattle.std.proofs.Common.{◌≡◌, ◌∙◌, ◌++◌, ◌∷◌, ℕ, [], List, None, Option, Some, ap, refl, subst, sym}
use Rattle.std.specs.FinMap as map
use Rattle.std.specs.List.{FoldsTo}
use Rattle.gix_object.specs.Bases.{opened_bases}
use Rattle.gix_object.specs.Calls.{names_of}
use Rattle.gix_object.specs.Commits.{encode_step}
use Rattle.gix_object.specs.Edited.{AreDone, IsReplied, IsWriteAfter}
use Rattle.gix_object.specs.Edits.{IsNoTree, IsNotLookedUp, upserted_dirs}
use Rattle.gix_object.specs.Entries.{EntryView, Pair}
use Rattle.gix_object.specs.Files.{Path, Trees}
use Rattle.gix_object.specs.Hash.{id_of, null_id}
use Rattle.gix_object.specs.Keeping.{with_commit, with_trees}
use Rattle.gix_object.specs.Mode.{mode_of_kind}
use Rattle.gix_object.specs.Openings.{AreTreesOf}
use Rattle.gix_object.specs.Replies.{ReturnsTreeId}
use Rattle.gix_object.specs.State.{DirMap, State, open_bases, open_dirs, root_alone}
use Rattle.gix_object.specs.Steps.{AreImported, IsImported}
use Rattle.gix_object.specs.Stores.{Objects, StoreModel}
use Rattle.gix_object.specs.TreeEncoding.{IsDigestResult, encode_tree}
use Rattle.gix_object.specs.Upserts.{directory_of}
use Rattle.gix_object.specs.Removals.{IsRemovedUpTo}
use Rattle.gix_object.specs.write.write.Written.{Written}
use Rattle.gix_object.specs.commands.command.Edit.{Edit}
use Rattle.gix_object.specs.commands.command.Edit.TheVariants as edit
use Rattle.gix_object.specs.editor.reply.EditReply.TheVariants as reply
use Rattle.gix_object.specs.hash.hash.kind.Kind as hash
use Rattle.gix_object.specs.hash.hash.object_id.ObjectId.{ObjectId}
use Rattle.gix_object.specs.hash.kind.Kind.TheVariants.{Commit, Tree}
use Rattle.gix_object.specs.import.import.Imported.{Imported}
use Rattle.gix_object.specs.import.import.Importer.{Importer}
use Rattle.gix_object.specs.import.import.Step.{Step}
use Rattle.gixobj_examples_audits.proofs.OneOpening.{edited_bases_same, opened_bases_same, opens_unique, removed_dirs_same, upserted_dirs_same}
use Rattle.gixobj_examples_audits.proofs.OneWrite.{emits_unique}
use Rattle.gixobj_examples_audits.specs.Imports.{AreSameImports, IsImportOf, IsSameImport}
use Rattle.gixobj_examples_audits.specs.Outcomes.{AreSameDirs, HaveIdsBy}

-- ---- the last pair

abbrev last_of : List Pair → Option Pair
last_of [] = None
last_of (p ∷ []) = Some p
last_of (p ∷ q ∷ ps) = last_of (q ∷ ps)

last_of_snoc : (ps : List Pair) (p : Pair) → last_of (ps ++ p ∷ []) ≡ Some p
last_of_snoc [] p = refl
last_of_snoc (x ∷ []) p = refl
last_of_snoc (x ∷ y ∷ ps) p = last_of_snoc (y ∷ ps) p

some_pair_injective : (p q : Pair) → Some p ≡ Some q → p ≡ q
some_pair_injective p q is = cc is

snoc_injective : (xs ys : List Pair) (p q : Pair) → xs ++ p ∷ [] ≡ ys ++ q ∷ [] → p ≡ q
snoc_injective xs ys p q is = some_pair_injective p q (sym (last_of_snoc xs p) ∙ (ap last_of is ∙ last_of_snoc ys q))

-- ---- ids by digests

abbrev tree_digest : hash.Kind → List EntryView → ObjectId
tree_digest hash tree = id_of hash Tree (encode_tree tree)

ids_by_digest : (hash : hash.Kind) (ps : List Pair) (before after : Unit {0}) → FoldsTo (ReturnsTreeId (IsDigestResult hash)) before ps after
    → HaveIdsBy (tree_digest hash) ps
ids_by_digest hash [] before after folds = tt
ids_by_digest hash (p ∷ ps) before after (next, returns, rest) = (returns.1, ids_by_digest hash ps next after rest)

module _ {S R : Type 0} (model : StoreModel S) (other_model : StoreModel R) (trees_of : (objects : Objects) → (trees : Trees) × AreTreesOf objects trees) where
  -- the same directories are open, with the same bases, and the stores have the same objects
  record AreAlike (s : State S) (t : State R) : Type 0 where
    dirs : AreSameDirs (open_dirs s) (open_dirs t)
    bases : AreSameDirs (open_bases s) (open_bases t)
    hash : s.object_hash ≡ t.object_hash
    objects : model.objects s.store ≡ other_model.objects t.store

  -- ---- edits

  removed_alike : (StopsBefore : EntryView → Type 0) (trees : Trees) (old new : State S) (old' new' : State R) (path : Path) → AreAlike old old'
      → IsRemovedUpTo StopsBefore trees old path new → IsRemovedUpTo StopsBefore trees old' path new' → AreAlike new new'
  removed_alike StopsBefore trees old new old' new' path alike a b =
      let one = opens_unique StopsBefore trees (directory_of path) (open_dirs old) (open_dirs old') a.opened b.opened a.looked_up b.looked_up alike.dirs
      a.opens b.opens in
      let dirs : AreSameDirs (open_dirs new) (open_dirs new') = λ at. a.dirs at ∙ (removed_dirs_same path a.opened b.opened one.dirs at ∙ sym (b.dirs at)) in
      let opened = opened_bases_same (open_dirs old) (open_dirs old') a.opened b.opened (open_bases old) (open_bases old') alike.dirs one.dirs alike.bases in
      record {
        dirs = dirs;
        bases = λ at. a.bases at ∙ (edited_bases_same a.opened b.opened (open_dirs new) (open_dirs new')
            (opened_bases (open_dirs old) a.opened (open_bases old)) (opened_bases (open_dirs old') b.opened (open_bases old'))
            one.dirs dirs opened at ∙ sym (b.bases at));
        hash = ap (λ (s : State S). s.object_hash) a.rest ∙ (alike.hash ∙ sym (ap (λ (s : State R). s.object_hash) b.rest));
        objects = ap (λ (s : State S). model.objects s.store) a.rest ∙ (alike.objects ∙ sym (ap (λ (s : State R). other_model.objects s.store) b.rest));
      }

  edit_alike : (old new : State S) (old' new' : State R) (it : Edit) → AreAlike old old' → IsReplied model old it reply.Done new
      → IsReplied other_model old' it reply.Done new' → AreAlike new new'
  edit_alike old new old' new' (edit.Upsert path kind id) alike h k =
      let t = trees_of (model.objects old.store) in
      let a = h t.0 t.1 in
      let b = k t.0 (subst (λ (o : Objects). AreTreesOf o t.0) alike.objects t.1) in
      let names = names_of path.items in
      let one = opens_unique IsNoTree t.0 (directory_of names) (open_dirs old) (open_dirs old') a.opened b.opened a.looked_up b.looked_up alike.dirs
      a.opens b.opens in
      let dirs : AreSameDirs (open_dirs new) (open_dirs new') = λ at. a.dirs at
      ∙ (upserted_dirs_same names (mode_of_kind kind) id (null_id old.object_hash) a.opened b.opened one.dirs at
      ∙ (ap (λ (k : hash.Kind). upserted_dirs names (mode_of_kind kind) id (null_id k) b.opened at) alike.hash ∙ sym (b.dirs at))) in
      let opened = opened_bases_same (open_dirs old) (open_dirs old') a.opened b.opened (open_bases old) (open_bases old') alike.dirs one.dirs alike.bases in
      record {
        dirs = dirs;
        bases = λ at. a.bases at ∙ (edited_bases_same a.opened b.opened (open_dirs new) (open_dirs new')
            (opened_bases (open_dirs old) a.opened (open_bases old)) (opened_bases (open_dirs old') b.opened (open_bases old'))
            one.dirs dirs opened at ∙ sym (b.bases at));
        hash = ap (λ (s : State S). s.object_hash) a.rest ∙ (alike.hash ∙ sym (ap (λ (s : State R). s.object_hash) b.rest));
        objects = ap (λ (s : State S). model.objects s.store) a.rest ∙ (alike.objects ∙ sym (ap (λ (s : State R). other_model.objects s.store) b.rest));
      }
  edit_alike old new old' new' (edit.Remove path) alike h k =
      let t = trees_of (model.objects old.store) in
      removed_alike IsNoTree t.0 old new old' new' (names_of path.items) alike (h t.0 t.1)
      (k t.0 (subst (λ (o : Objects). AreTreesOf o t.0) alike.objects t.1))
  edit_alike old new old' new' (edit.RemoveLeaf path) alike h k =
      let t = trees_of (model.objects old.store) in
      removed_alike IsNotLookedUp t.0 old new old' new' (names_of path.items) alike (h t.0 t.1).removed
      (k t.0 (subst (λ (o : Objects). AreTreesOf o t.0) alike.objects t.1)).removed
  edit_alike old new old' new' edit.Write alike h k = absurd h

  edits_alike : (old new : State S) (old' new' : State R) (edits : List Edit) → AreAlike old old' → AreDone model old edits new
      → AreDone other_model old' edits new' → AreAlike new new'
  edits_alike old new old' new' [] alike h k =
      subst (λ (s : State S). AreAlike s new') (sym h) (subst (λ (s : State R). AreAlike old s) (sym k) alike)
  edits_alike old new old' new' (it ∷ edits) alike (between, first, rest) (between', first', rest') =
      edits_alike between new between' new' edits (edit_alike old between old' between' it alike first first') rest rest'

  -- ---- writes

  record AreWrittenAlike (it its : Written) (new : State S) (new' : State R) : Type 0 where
    root : it.id ≡ its.id
    trees : it.trees.items ≡ its.trees.items
    saved : it.saved ≡ its.saved
    alike : AreAlike new new'

  write_alike : (hash : hash.Kind) (old new : State S) (old' new' : State R) (edits : List Edit) (it its : Written) → AreAlike old old'
      → IsWriteAfter model hash old edits (reply.Written it) new → IsWriteAfter other_model hash old' edits (reply.Written its) new'
      → AreWrittenAlike it its new new'
  write_alike hash old new old' new' edits it its alike h k =
      let mid = edits_alike old h.edited old' k.edited edits alike h.done k.done in
      let a = h.write.written in
      let b = k.write.written in
      let one = emits_unique (tree_digest hash) (open_dirs h.edited) (open_dirs k.edited) (open_bases h.edited) (open_bases k.edited)
      it.saved its.saved it.trees.items its.trees.items mid.dirs mid.bases
      (ids_by_digest hash it.trees.items tt tt a.called) (ids_by_digest hash its.trees.items tt tt b.called) a.emitted b.emitted in
      let pair : (it.id, a.written_tree) ≡ (its.id, b.written_tree) = snoc_injective a.below b.below (it.id, a.written_tree) (its.id, b.written_tree)
      (sym a.last ∙ (one.0 ∙ b.last)) in
      let dirs : AreSameDirs (open_dirs h.write.between) (open_dirs k.write.between) = λ at. ap (λ (m : DirMap). map.get m at) a.dirs
      ∙ (ap (λ (p : Pair). map.get (root_alone p.1) at) pair ∙ sym (ap (λ (m : DirMap). map.get m at) b.dirs)) in
      record {
        root = ap (λ (p : Pair). p.0) pair;
        trees = one.0;
        saved = one.1;
        alike = record {
          dirs = λ at. ap (λ (s : State S). open_dirs s at) h.write.rest ∙ (dirs at ∙ sym (ap (λ (s : State R). open_dirs s at) k.write.rest));
          bases = λ at. ap (λ (s : State S). open_bases s at) h.write.rest ∙ (a.bases at
              ∙ (edited_bases_same (open_dirs h.edited) (open_dirs k.edited) (open_dirs h.write.between) (open_dirs k.write.between)
              (open_bases h.edited) (open_bases k.edited) mid.dirs dirs mid.bases at
              ∙ (sym (b.bases at) ∙ sym (ap (λ (s : State R). open_bases s at) k.write.rest))));
          hash = ap (λ (s : State S). s.object_hash) h.write.rest ∙ (ap (λ (s : State S). s.object_hash) a.rest
              ∙ (mid.hash ∙ (sym (ap (λ (s : State R). s.object_hash) b.rest) ∙ sym (ap (λ (s : State R). s.object_hash) k.write.rest))));
          objects = h.write.stored.0 ∙ (ap (λ (o : Objects). with_trees it.trees.items o) mid.objects
              ∙ (ap (λ (ps : List Pair). with_trees ps (other_model.objects k.edited.store)) one.0 ∙ sym k.write.stored.0));
        };
      }

  -- ---- steps

  record AreImportersAlike (s : Importer S) (t : Importer R) : Type 0 where
    editors : AreAlike s.editor t.editor
    hash : s.hash ≡ t.hash
    last : s.last ≡ t.last

  record AreStepsAlike (it its : Imported) (new : Importer S) (new' : Importer R) : Type 0 where
    same : IsSameImport it its
    importers : AreImportersAlike new new'

  step_alike : (old new : Importer S) (old' new' : Importer R) (step : Step) (it its : Imported) → AreImportersAlike old old'
      → IsImported model old step it new → IsImported other_model old' step its new' → AreStepsAlike it its new new'
  step_alike old new old' new' step it its alike h k =
      let w = write_alike old.hash old.editor h.between old'.editor k.between step.edits.items it.written its.written alike.editors h.trees
      (subst (λ (hash : hash.Kind). IsWriteAfter other_model hash old'.editor step.edits.items (reply.Written its.written) k.between) (sym alike.hash)
      k.trees) in
      let bytes : encode_step step it.written.id old.last ≡ encode_step step its.written.id old'.last =
      ap (λ (i : ObjectId). encode_step step i old.last) w.root ∙ ap (λ (l : Option ObjectId). encode_step step its.written.id l) alike.last in
      let commit : it.commit ≡ its.commit = h.commit.id ∙ (ap (λ (content : List ℕ). id_of old.hash Commit content) bytes
      ∙ (ap (λ (hash : hash.Kind). id_of hash Commit (encode_step step its.written.id old'.last)) alike.hash ∙ sym k.commit.id)) in
      record {
        same = record { commit = commit; root = w.root; trees = w.trees; saved = w.saved };
        importers = record {
          editors = record {
            dirs = λ at. ap (λ (s : State S). open_dirs s at) h.commit.rest
                ∙ (w.alike.dirs at ∙ sym (ap (λ (s : State R). open_dirs s at) k.commit.rest));
            bases = λ at. ap (λ (s : State S). open_bases s at) h.commit.rest
                ∙ (w.alike.bases at ∙ sym (ap (λ (s : State R). open_bases s at) k.commit.rest));
            hash = ap (λ (s : State S). s.object_hash) h.commit.rest
                ∙ (w.alike.hash ∙ sym (ap (λ (s : State R). s.object_hash) k.commit.rest));
            objects = h.commit.stored
                ∙ (ap (λ (i : ObjectId). with_commit i (encode_step step it.written.id old.last) (model.objects h.between.store)) commit
                ∙ (ap (λ (content : List ℕ). with_commit its.commit content (model.objects h.between.store)) bytes
                ∙ (ap (λ (o : Objects). with_commit its.commit (encode_step step its.written.id old'.last) o) w.alike.objects ∙ sym k.commit.stored)));
          };
          hash = ap (λ (s : Importer S). s.hash) h.rest ∙ (alike.hash ∙ sym (ap (λ (s : Importer R). s.hash) k.rest));
          last = ap (λ (s : Importer S). s.last) h.rest
              ∙ (ap (λ (i : ObjectId). Some i) commit ∙ sym (ap (λ (s : Importer R). s.last) k.rest));
        };
      }

  imports_alike : (old new : Importer S) (old' new' : Importer R) (steps : List Step) (all its : List Imported) → AreImportersAlike old old'
      → AreImported model old steps all new → AreImported other_model old' steps its new' → AreSameImports all its
  imports_alike old new old' new' [] [] [] alike h k = tt
  imports_alike old new old' new' [] (it ∷ all) its alike h k = absurd h
  imports_alike old new old' new' [] [] (it ∷ its) alike h k = absurd k
  imports_alike old new old' new' (step ∷ steps) [] its alike h k = absurd h
  imports_alike old new old' new' (step ∷ steps) (it ∷ all) [] alike h k = absurd k
  imports_alike old new old' new' (step ∷ steps) (it ∷ all) (that ∷ its) alike (between, first, rest) (between', first', rest') =
      let r = step_alike old between old' between' step it that alike first first' in
      (r.same, imports_alike between new between' new' steps all its r.importers rest rest')

  pub same_imports : (store : S) (other : R) (hash : hash.Kind) (steps : List Step) (all its : List Imported) → model.objects store ≡ other_model.objects other
      → IsImportOf model store hash steps all → IsImportOf other_model other hash steps its → AreSameImports all its
  same_imports store other hash steps all its objects h k =
      let kind : h.start.hash ≡ k.start.hash = h.ids ∙ sym k.ids in
      imports_alike h.start h.after k.start k.after steps all its (record {
        editors = record {
          dirs = λ at. ap (λ (s : State S). open_dirs s at) h.is_new.editor ∙ sym (ap (λ (s : State R). open_dirs s at) k.is_new.editor);
          bases = λ at. ap (λ (s : State S). open_bases s at) h.is_new.editor ∙ sym (ap (λ (s : State R). open_bases s at) k.is_new.editor);
          hash = ap (λ (s : State S). s.object_hash) h.is_new.editor
              ∙ (kind ∙ sym (ap (λ (s : State R). s.object_hash) k.is_new.editor));
          objects = ap (λ (s : S). model.objects s) h.over ∙ (objects ∙ sym (ap (λ (s : R). other_model.objects s) k.over));
        };
        hash = kind;
        last = h.is_new.last ∙ sym k.is_new.last;
      }) h.imported_steps k.imported_steps
