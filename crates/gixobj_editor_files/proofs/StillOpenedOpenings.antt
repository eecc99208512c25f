-- An opening of the directories on a path keeps what is open, and the invariant of open directories: for the editor and
-- `Lasting`.
use Rattle.std.proofs.Common.{◌≡◌, true, false, cond, List, [], ◌∷◌, ◌++◌, ℕ, refl, sym, ap, subst, ◌∙◌, Some, None}
use Rattle.std.specs.Prelude.{IsTrue}
use Rattle.std.specs.Cmp.Lexicographic.{bytes_decides}
use Rattle.gixobj_tree_entries.specs.Entries.{EntryView}
use Rattle.gixobj_tree.specs.WellFormed.{IsWellFormed}
use Rattle.gixobj_tree_entries.specs.Mode.{is_tree_mode}
use Rattle.gixobj_hash.specs.declared.hash.object_id.ObjectId.{ObjectId}
use Rattle.gixobj_editor_files.specs.Editing.{same_name}
use Rattle.gixobj_editor_files.specs.Edits.{Opens, arrived, down, found, only_open, stops, with_dir}
use Rattle.gixobj_editor_files.specs.Files.{Path, Trees}
use Rattle.gixobj_editor_files.specs.Opening.{Dirs, HasAt, IsOpened, in_dir}
use Rattle.gixobj_editor_files.proofs.OpeningFiles.{opens_keeps_root}
use Rattle.gixobj_editor_files.proofs.StillOpened.{AreAbove, AreFormed}

are_formed_with_dir : (name : List ℕ) (inner dirs : Dirs) → AreFormed inner → AreFormed dirs → AreFormed (with_dir name inner dirs)
are_formed_with_dir name inner dirs inside next_to [] es is = next_to [] es is
are_formed_with_dir name inner dirs inside next_to (first ∷ at) es is =
    elim (same_name name first) as (λ b. cond b (inner at) (dirs (first ∷ at)) ≡ Some es → IsWellFormed es)
    [ true ↦ λ k. inside at es k | false ↦ λ k. next_to (first ∷ at) es k ] is

are_above_with_dir : (name : List ℕ) (inner dirs : Dirs) → AreAbove inner → AreAbove dirs
    → ((e : EntryView) × HasAt (dirs []) e × (e.name ≡ name) × IsTrue (is_tree_mode e.mode)) → AreAbove (with_dir name inner dirs)
are_above_with_dir name inner dirs inside next_to entry [] other es is =
    elim (same_name name other) as (λ b. same_name name other ≡ b → cond b (inner []) (dirs (other ∷ [])) ≡ Some es → (e : EntryView) × HasAt (dirs []) e
    × (e.name ≡ other) × IsTrue (is_tree_mode e.mode)) [
      | true ↦ λ called k. (entry.0, entry.1, entry.2 ∙ (bytes_decides name other).0 called, entry.3)
      | false ↦ λ called k. next_to [] other es k
    ] refl is
are_above_with_dir name inner dirs inside next_to entry (first ∷ at) other es is =
    elim (same_name name first) as (λ b. cond b (inner (at ++ other ∷ [])) (dirs (first ∷ (at ++ other ∷ []))) ≡ Some es → (e : EntryView)
    × HasAt (cond b (inner at) (dirs (first ∷ at))) e × (e.name ≡ other) × IsTrue (is_tree_mode e.mode)) [
      | true ↦ λ k. inside at other es k
      | false ↦ λ k. next_to (first ∷ at) other es k
    ] is

are_formed_only_open : (entries : List EntryView) → IsWellFormed entries → AreFormed (only_open entries)
are_formed_only_open entries formed [] es is = subst IsWellFormed (some_is is) formed
  where
    some_is : Some entries ≡ Some es → entries ≡ es
    some_is e = cc e
are_formed_only_open entries formed (name ∷ path) es is = absurd (cc is)

are_above_only_open : (entries : List EntryView) → AreAbove (only_open entries)
are_above_only_open entries [] name es is = absurd (cc is)
are_above_only_open entries (first ∷ path) name es is = absurd (cc is)

are_formed_of_opens : {StopsBefore : EntryView → Type 0} (trees : Trees) (path : Path) (dirs new : Dirs) (looked_up : List ObjectId)
    → Opens StopsBefore trees path dirs new looked_up → AreFormed dirs → AreFormed new
are_formed_of_opens trees path dirs new looked_up (arrived d) formed = formed
are_formed_of_opens trees path dirs new looked_up (stops name rest d other none) formed = formed
are_formed_of_opens trees path dirs new looked_up (down name rest d inner e entries more has named is opens) formed =
    are_formed_with_dir name inner d (are_formed_of_opens trees rest (in_dir name d) inner more opens (λ q. formed (name ∷ q))) formed
are_formed_of_opens trees path dirs new looked_up (found name rest d inner e entries first more entry tree free none finds opens) formed =
    are_formed_with_dir name inner d (are_formed_of_opens trees rest (only_open entries) inner more opens (are_formed_only_open entries finds.0)) formed

are_above_of_opens : {StopsBefore : EntryView → Type 0} (trees : Trees) (path : Path) (dirs new : Dirs) (looked_up : List ObjectId)
    → Opens StopsBefore trees path dirs new looked_up → AreAbove dirs → AreAbove new
are_above_of_opens trees path dirs new looked_up (arrived d) above = above
are_above_of_opens trees path dirs new looked_up (stops name rest d other none) above = above
are_above_of_opens trees path dirs new looked_up (down name rest d inner e entries more has named is opens) above =
    are_above_with_dir name inner d (are_above_of_opens trees rest (in_dir name d) inner more opens (λ q. above (name ∷ q))) above (above [] name entries is)
are_above_of_opens trees path dirs new looked_up (found name rest d inner e entries first more entry tree free none finds opens) above =
    are_above_with_dir name inner d (are_above_of_opens trees rest (only_open entries) inner more opens (are_above_only_open entries)) above
    (e, entry.0, entry.1, tree)

pub is_opened_of_opens : {StopsBefore : EntryView → Type 0} (trees : Trees) (path : Path) (dirs new : Dirs) (looked_up : List ObjectId)
    → Opens StopsBefore trees path dirs new looked_up → IsOpened dirs → IsOpened new
is_opened_of_opens trees path dirs new looked_up opens opened = record {
  root = λ none. opened.root (sym (opens_keeps_root trees path dirs new looked_up opens) ∙ none);
  well_formed = are_formed_of_opens trees path dirs new looked_up opens opened.well_formed;
  above = are_above_of_opens trees path dirs new looked_up opens opened.above;
}

-- the open directories in an open directory satisfy the invariant
pub is_opened_in_dir : (name : List ℕ) (dirs : Dirs) (entries : List EntryView) → dirs (name ∷ []) ≡ Some entries → IsOpened dirs → IsOpened (in_dir name dirs)
is_opened_in_dir name dirs entries is all = record {
  root = λ none. cc (sym is ∙ none);
  well_formed = λ path. all.well_formed (name ∷ path);
  above = λ path. all.above (name ∷ path);
}

pub is_opened_of_only : (entries : List EntryView) → IsWellFormed entries → IsOpened (only_open entries)
is_opened_of_only entries formed = record { root = λ none. cc none; well_formed = are_formed_only_open entries formed; above = are_above_only_open entries }

pub is_opened_with_dir : (name : List ℕ) (inner dirs : Dirs) → IsOpened inner → IsOpened dirs
    → ((e : EntryView) × HasAt (dirs []) e × (e.name ≡ name) × IsTrue (is_tree_mode e.mode)) → IsOpened (with_dir name inner dirs)
is_opened_with_dir name inner dirs inside next_to entry = record {
  root = next_to.root;
  well_formed = are_formed_with_dir name inner dirs inside.well_formed next_to.well_formed;
  above = are_above_with_dir name inner dirs inside.above next_to.above entry;
}

-- an opening leaves each open directory unchanged
pub opens_keeps_open_lists : {StopsBefore : EntryView → Type 0} (trees : Trees) (path : Path) (dirs new : Dirs) (looked_up : List ObjectId)
    → Opens StopsBefore trees path dirs new looked_up → (at : Path) (es : List EntryView) → dirs at ≡ Some es → new at ≡ Some es
opens_keeps_open_lists trees path dirs new looked_up (arrived d) at es is = is
opens_keeps_open_lists trees path dirs new looked_up (stops name rest d other none) at es is = is
opens_keeps_open_lists trees path dirs new looked_up (down name rest d inner e entries more has named there opens) [] es is = is
opens_keeps_open_lists trees path dirs new looked_up (down name rest d inner e entries more has named there opens) (first ∷ at) es is =
    elim (same_name name first) as (λ b. same_name name first ≡ b → cond b (inner at) (d (first ∷ at)) ≡ Some es) [
      | true ↦ λ called. opens_keeps_open_lists trees rest (in_dir name d) inner more opens at es (ap (λ n. d (n ∷ at)) ((bytes_decides name first).0 called)
          ∙ is)
      | false ↦ λ called. is
    ] refl
opens_keeps_open_lists trees path dirs new looked_up (found name rest d inner e entries first more entry tree free none finds opens) [] es is = is
opens_keeps_open_lists trees path dirs new looked_up (found name rest d inner e entries first more entry tree free none finds opens) (other ∷ at) es is =
    elim (same_name name other) as (λ b. same_name name other ≡ b → cond b (inner at) (d (other ∷ at)) ≡ Some es) [
      | true ↦ λ called. absurd (let bad : None ≡ Some es = sym (none at) ∙ ap (λ n. d (n ∷ at)) ((bytes_decides name other).0 called) ∙ is in cc bad)
      | false ↦ λ called. is
    ] refl
