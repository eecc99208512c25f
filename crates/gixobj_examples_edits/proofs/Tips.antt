-- The last of a list of imports is the tip; the proofs of `tip_of` and `Archived` use it.
use Rattle.std.proofs.Common.{◌≡◌, ◌∙◌, ℕ, suc, List, [], ◌∷◌, ◌++◌, None, Option, Some, ap, arith, length, refl, subst}
use Rattle.std.proofs.lemmas.Bool.{false≢true, true≢false}
use Rattle.std.proofs.lemmas.List.{length-append, take_all}
use Rattle.std.specs.Option.{option_to_list}
use Rattle.std.specs.Prelude.{◌<◌, ◌↔◌, IfSome, IsNone, IsSome, slice_get}
use Rattle.gix_object.specs.Files.{NamedFiles, SameFiles}
use Rattle.gix_object.specs.History.{FilesAfter}
use Rattle.gix_object.specs.Imports.{AreCommitsOf, HaveFilesOfNothing, edits_of}
use Rattle.gix_object.specs.PlainHistory.{NoFiles}
use Rattle.gix_object.specs.Stores.{Objects}
use Rattle.gix_object.specs.hash.hash.kind.Kind as hash
use Rattle.gix_object.specs.hash.hash.object_id.ObjectId.{ObjectId}
use Rattle.gix_object.specs.import.import.Imported.{Imported}
use Rattle.gix_object.specs.import.import.Step.{Step}
use Rattle.gixobj_examples_edits.specs.Archives.{IsOfStep, IsTip}

pub imported_len_eq_steps_len : (hash : hash.Kind) (parent : Option ObjectId) (steps : List Step) (imported : List Imported) (final : Objects)
    → AreCommitsOf hash parent steps imported final → length imported ≡ length steps
imported_len_eq_steps_len hash parent [] [] final are = refl
imported_len_eq_steps_len hash parent (step ∷ steps) (it ∷ imported) final are =
    ap suc (imported_len_eq_steps_len hash (Some it.commit) steps imported final are.1)
imported_len_eq_steps_len hash parent [] (it ∷ imported) final are = absurd are
imported_len_eq_steps_len hash parent (step ∷ steps) [] final are = absurd are

-- the last step, the steps before it, and that the last import is of the last step
record LastStep (hash : hash.Kind) (steps : List Step) (earlier : List Imported) (tip : Imported) : Type 0 where
  before : List Step
  last : Step
  all : steps ≡ before ++ last ∷ []
  one_each : length earlier ≡ length before
  commit : IsOfStep hash last tip

last_step_of_commits : (hash : hash.Kind) (parent : Option ObjectId) (steps : List Step) (earlier : List Imported) (tip : Imported) (final : Objects)
    → AreCommitsOf hash parent steps (earlier ++ tip ∷ []) final → LastStep hash steps earlier tip
last_step_of_commits hash parent [] [] tip final are = absurd are
last_step_of_commits hash parent [] (it ∷ earlier) tip final are = absurd are
last_step_of_commits hash parent (step ∷ []) [] tip final are =
    record { before = []; last = step; all = refl; one_each = refl; commit = record { parent = parent; id = are.0.id; decodes = are.0.decodes } }
last_step_of_commits hash parent (step ∷ next ∷ steps) [] tip final are = absurd are.1
last_step_of_commits hash parent (step ∷ steps) (it ∷ earlier) tip final are =
    let later = last_step_of_commits hash (Some it.commit) steps earlier tip final are.1 in
    record {
      before = step ∷ later.before;
      last = later.last;
      all = ap (λ (ss : List Step). step ∷ ss) later.all;
      one_each = ap suc later.one_each;
      commit = later.commit;
    }

slice_get_snoc_last : (earlier : List Imported) (tip : Imported) → slice_get (earlier ++ tip ∷ []) (length earlier) ≡ Some tip
slice_get_snoc_last [] tip = refl
slice_get_snoc_last (it ∷ earlier) tip = slice_get_snoc_last earlier tip

pub is_tip_of_last_import : (objects final : Objects) (hash : hash.Kind) (steps : List Step) (imported earlier : List Imported) (tip : Imported)
    → imported ≡ earlier ++ tip ∷ [] → AreCommitsOf hash None steps imported final
    → HaveFilesOfNothing objects steps imported → IsTip objects hash steps tip
is_tip_of_last_import objects final hash steps imported earlier tip is commits files =
    let last = last_step_of_commits hash None steps earlier tip final (subst (λ (all : List Imported). AreCommitsOf hash None steps all final) is commits) in
    let count : length steps ≡ suc (length earlier) = ap length last.all ∙ length-append last.before (last.last ∷ []) ∙ omega (arith, last.one_each) in
    record {
      before = last.before;
      last = last.last;
      all = last.all;
      earlier = earlier;
      one_each = last.one_each;
      commit = last.commit;
      files = λ T n agrees.
          subst (λ (ss : List Step). SameFiles (NamedFiles T n tip.written.id) (FilesAfter T n (edits_of ss) NoFiles))
          (take_all (suc (length earlier)) steps (omega (arith, count)))
          (subst (λ (all : List Imported). HaveFilesOfNothing objects steps all) is files T n agrees (length earlier) tip (slice_get_snoc_last earlier tip));
    }

-- the item that was removed from the end of the list, if there was one
pub is_tip_of_option : (objects final : Objects) (hash : hash.Kind) (steps : List Step) (imported remaining : List Imported) (tip : Option Imported)
    → imported ≡ remaining ++ option_to_list tip → AreCommitsOf hash None steps imported final
    → HaveFilesOfNothing objects steps imported → IfSome tip (IsTip objects hash steps)
is_tip_of_option objects final hash steps imported remaining None is commits files = tt
is_tip_of_option objects final hash steps imported remaining (Some tip) is commits files =
    is_tip_of_last_import objects final hash steps imported remaining tip is commits files

-- there is no last import if and only if there are no steps
pub tip_none_iff_no_steps : (final : Objects) (hash : hash.Kind) (steps : List Step) (imported remaining : List Imported) (tip : Option Imported) (count : ℕ)
    → imported ≡ remaining ++ option_to_list tip → count ≡ length imported
    → IsSome tip ↔ (0 < count) → AreCommitsOf hash None steps imported final → IsNone tip ↔ (steps ≡ [])
tip_none_iff_no_steps final hash [] [] remaining None count is counted some commits = ((λ none. refl), λ nothing. refl)
tip_none_iff_no_steps final hash (step ∷ steps) [] remaining None count is counted some commits = absurd commits
tip_none_iff_no_steps final hash steps (it ∷ imported) remaining None count is counted some commits = absurd (false≢true (some.1 (omega (arith, counted))))
tip_none_iff_no_steps final hash steps imported remaining (Some tip) count is counted some commits = (
  (λ none. absurd (true≢false none)),
  λ nothing. absurd (omega (
    arith,
    ap length is,
    length-append remaining
        (tip ∷ []),
    imported_len_eq_steps_len hash None steps imported final commits,
    ap length nothing,
  )),
)
