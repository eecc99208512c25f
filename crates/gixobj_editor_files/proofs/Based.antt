-- The base of each open directory is what its entry's id names, in every table that has agreed with the store. The base
-- of a null id is empty.
use Rattle.std.proofs.Common.{◌≡◌, inl, inr, true, false, List, [], refl, sym, subst, ◌∙◌, Some}
use Rattle.gixobj_tree_entries.specs.Entries.{EntryView}
use Rattle.gixobj_hash.specs.declared.hash.object_id.ObjectId.{ObjectId}
use Rattle.gixobj_editor_files.specs.Edits.{Finds}
use Rattle.gixobj_editor_files.specs.Files.{Table, Trees, is_null}
use Rattle.gixobj_editor_files.specs.Opening.{Dirs}
use Rattle.gixobj_editor_files.specs.Tables.{AgreesWithStore}
use Rattle.gixobj_editor_files.proofs.OpenedFiles.{IsAt}
use Rattle.gixobj_editor_files.proofs.Everywhere.{Everywhere, Lasts, OfEntry}
use Rattle.gixobj_editor_files.specs.Bases.{AreNullBased, HasBases}
use Rattle.gixobj_editor_files.proofs.OpeningFiles.{is_at_of_agreement}

-- the base, if there is one, is what the id of the entry names
abbrev pub Based : Table → OfEntry
Based T e here base = (list : List EntryView) → base ≡ Some list → IsAt T e.id list

pub some_list_unique : (x y : List EntryView) → Some x ≡ Some y → x ≡ y
some_list_unique x y e = cc e

pub based_is_lasting : (T : Table) (trees : Trees) (null : ObjectId) → AgreesWithStore T trees → is_null null ≡ true → Lasts (Based T) trees null
based_is_lasting T trees null agrees nothing = record {
  not_open = λ e base p list is. absurd (cc is);
  still = λ e was now base p. p;
  made = λ name now list is. inl (nothing, sym (some_list_unique [] list is));
  opened = λ e base entries looked_up p tree finds. (
    (λ list is. subst (IsAt T e.id) (some_list_unique entries list is) (is_at_of_agreement T trees agrees e.id entries looked_up finds)),
    λ x h list is. absurd (cc is),
  );
}

-- the base of a directory with the null id is empty
abbrev pub NullBased : OfEntry
NullBased e here base = (list : List EntryView) → base ≡ Some list → is_null e.id ≡ true → list ≡ []

entries_nil_of_null_id : (trees : Trees) (id : ObjectId) (entries : List EntryView) (looked_up : List ObjectId) → Finds trees id entries looked_up
    → is_null id ≡ true → entries ≡ []
entries_nil_of_null_id trees id entries looked_up (formed, inl (is, empty, none)) null = empty
entries_nil_of_null_id trees id entries looked_up (formed, inr (filled, is, requests)) null = absurd (filled (inl null))

pub null_based_is_lasting : (trees : Trees) (null : ObjectId) → Lasts NullBased trees null
null_based_is_lasting trees null = record {
  not_open = λ e base p list is. absurd (cc is);
  still = λ e was now base p. p;
  made = λ name now list is nothing. sym (some_list_unique [] list is);
  opened = λ e base entries looked_up p tree finds. (
    (λ list is nothing. sym (some_list_unique entries list is) ∙ entries_nil_of_null_id trees e.id entries looked_up finds nothing),
    λ x h list is. absurd (cc is),
  );
}

pub everywhere_null_based : (dirs bases : Dirs) → AreNullBased dirs bases → Everywhere NullBased dirs bases
everywhere_null_based dirs bases nulls path e h list is null = nulls path e list h is null

pub are_null_based_of_everywhere : (dirs bases : Dirs) → Everywhere NullBased dirs bases → AreNullBased dirs bases
are_null_based_of_everywhere dirs bases all path e list h is null = all path e h list is null

-- the premise of a write holds at every entry, if the base of each null id is empty
pub everywhere_based : (T : Table) (dirs bases : Dirs) → AreNullBased dirs bases → HasBases T dirs bases → Everywhere (Based T) dirs bases
everywhere_based T dirs bases nulls has path e h list is =
    elim (is_null e.id) as (λ b. is_null e.id ≡ b → IsAt T e.id list) [
      | true ↦ λ null. inl (null, nulls path e list h is null)
      | false ↦ λ filled. inr (has path e list h is filled)
    ] refl

pub has_bases_of_everywhere : (T : Table) (dirs bases : Dirs) → Everywhere (Based T) dirs bases → HasBases T dirs bases
has_bases_of_everywhere T dirs bases all path e list h is filled = known (all path e h list is)
  where
    known : IsAt T e.id list → T.tree_at e.id ≡ Some list
    known (inl none) = absurd (let bad : true ≡ false = sym none.0 ∙ filled in cc bad)
    known (inr is_there) = is_there
