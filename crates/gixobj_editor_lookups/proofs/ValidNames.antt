-- The names of a path up to an index, all valid, for the loops over names; and what the error for an invalid name isn't,
-- for `Removing` and the editor.
use Rattle.std.proofs.Common.{◌≡◌, ◌<◌, ◌+◌, inl, inr, ℕ, List, [], ◌∷◌, ◌++◌, get_or, length, drop, take, sym, subst}
use Rattle.std.proofs.lemmas.List.Elements.{All-append, All-cons, All-nil, recursion_from_All}
use Rattle.std.specs.List.{AllByRecursion}
use Rattle.bstr.specs.Owned.{bstring_bytes}
use Rattle.bstr.specs.declared.bstring.BString.{BString}
use Rattle.gixobj_tree.specs.WellFormed.{IsEntryName}
use Rattle.gixobj_editor_files.specs.Files.{Path}
use Rattle.gixobj_editor_open.specs.Paths.{AreNames, names_of}
use Rattle.gixobj_editor_open.proofs.Descents.{names_of_take_more}
use Rattle.gixobj_editor_lookups.proofs.OpeningDescents.{names_of_middle}
use Rattle.gixobj_editor_lookups.specs.EditNames.{IsEntryNameError, IsFirstNameError}
use Rattle.gixobj_editor_lookups.specs.FailedOpenings.{IsLookupError}
use Rattle.gixobj_editor_lookups.specs.declared.error.Error.{Error}
use Rattle.gixobj_editor_lookups.specs.declared.error.Error.TheVariants as error

-- with the next name, if it is valid
pub are_names_take_more : (path : List BString) (k : ℕ) (name : BString) → k < length path → name ≡ get_or path k name
    → AreNames (names_of (take k path)) → IsEntryName (bstring_bytes name) → AreNames (names_of (take (k + 1) path))
are_names_take_more path k name low is before valid =
    subst AreNames (sym (names_of_take_more path k name low is))
    (All-append IsEntryName (names_of (take k path)) (bstring_bytes name ∷ []) before
    (All-cons IsEntryName (bstring_bytes name) [] valid (All-nil IsEntryName)))

-- the first invalid name is the one after valid names
first_name_error_append : (names rest : Path) (name : List ℕ) (error : Error) → AllByRecursion IsEntryName names → IsEntryNameError name error
    → IsFirstNameError (names ++ name ∷ rest) error
first_name_error_append [] rest name error valid is = inl is
first_name_error_append (first ∷ names) rest name error valid is = inr (valid.0, first_name_error_append names rest name error valid.1 is)

pub first_name_error_at : (path : List BString) (k : ℕ) (name : BString) (error : Error) → k < length path → name ≡ get_or path k name
    → AreNames (names_of (take k path)) → IsEntryNameError (bstring_bytes name) error → IsFirstNameError (names_of path) error
first_name_error_at path k name error low is before invalid =
    subst (λ (p : Path). IsFirstNameError p error) (sym (names_of_middle path k name low is))
    (first_name_error_append (names_of (take k path)) (names_of (drop (k + 1) path)) (bstring_bytes name) error
    (recursion_from_All IsEntryName (names_of (take k path)) before) invalid)

-- an invalid name has no other error
pub no_other_error : (path : Path) (failure : Error) → ((name : List ℕ) → IsEntryNameError name failure → ⊥) → IsFirstNameError path failure → ⊥
no_other_error [] failure never h = h
no_other_error (name ∷ path) failure never (inl h) = never name h
no_other_error (name ∷ path) failure never (inr h) = no_other_error path failure never h.1

-- the error of an invalid name isn't one of a lookup
pub no_lookup_of_name : (path : Path) (failure : Error) → IsFirstNameError path failure → ¬ IsLookupError failure
no_lookup_of_name path error.EmptyPathComponent h = λ it. it
no_lookup_of_name path error.SlashInPathComponent h = λ it. it
no_lookup_of_name path (error.FindExistingObject cause) h = absurd (no_other_error path (error.FindExistingObject cause) (λ name k. k) h)
no_lookup_of_name path (error.CannotRemoveNonLeaf at) h = λ it. it
no_lookup_of_name path error.MalformedTree h = absurd (no_other_error path error.MalformedTree (λ name k. k) h)
no_lookup_of_name path error.OutOfMemory h = λ it. it

-- nor is it out of memory
pub no_memory_of_name : (path : Path) (failure : Error) → IsFirstNameError path failure → failure ≡ error.OutOfMemory → ⊥
no_memory_of_name path failure h is = no_other_error path error.OutOfMemory (λ name k. k) (subst (IsFirstNameError path) is h)
