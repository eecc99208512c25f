-- The files of a root that is open alone.
use Rattle.std.proofs.Common.{◌≡◌, ◌∙◌, ℕ, zero, suc, List, [], ◌∷◌, None, Some, subst, sym}
use Rattle.std.specs.Cmp.Lexicographic.{lists_total, nat_list_cmp_total, slice_cmp}
use Rattle.std.specs.FinMap as map
use Rattle.std.specs.Ordering.{nat_cmp}
use Rattle.std.specs.Prelude.{MatchOption, Option}
use Rattle.gix_object.specs.Entries.{EntryView}
use Rattle.gix_object.specs.Files.{Below, Files, Path, SameFiles, Table}
use Rattle.gix_object.specs.Opening.{Dirs, HasAt, OpenFiles, in_dir}
use Rattle.gix_object.specs.State.{root_alone}

root_alone_at_root : (entries : List EntryView) → map.get (root_alone entries) [] ≡ Some entries
root_alone_at_root entries = map.get-insert (lists_total nat_list_cmp_total) map.empty [] entries []

root_alone_below_root : (entries : List EntryView) (name : List ℕ) (path : Path) → map.get (root_alone entries) (name ∷ path) ≡ None
root_alone_below_root entries name path = map.get-insert (lists_total nat_list_cmp_total) map.empty [] entries (name ∷ path)
    ∙ map.get-empty (slice_cmp (slice_cmp nat_cmp)) (name ∷ path)

open_files_of_only_root_open : (T : Table) (n : ℕ) (dirs : Dirs) (entries : List EntryView) → dirs [] ≡ Some entries
    → ((name : List ℕ) → dirs (name ∷ []) ≡ None)
    → SameFiles (OpenFiles T n dirs) (Files T n entries)
open_files_of_only_root_open T zero dirs entries root unopened path mode id = ((λ h. absurd h), λ h. absurd h)
open_files_of_only_root_open T (suc n) dirs entries root unopened [] mode id = ((λ h. absurd h), λ h. absurd h)
open_files_of_only_root_open T (suc n) dirs entries root unopened (name ∷ path) mode id =
    let At : EntryView → Option (List EntryView) → Type 0 = λ e o. MatchOption o (Below T (Files T n) e.mode e.id path mode id)
    (λ _. OpenFiles T n (in_dir name dirs) path mode id) in (
      (λ h. (h.0, subst (λ o. HasAt o h.0) root h.1, h.2, subst (At h.0) (unopened name) h.3)),
      λ h. (h.0, subst (λ o. HasAt o h.0) (sym root) h.1, h.2, subst (At h.0) (sym (unopened name)) h.3),
    )

-- the files of a root that is open alone are those of its tree
pub root_alone_files : (T : Table) (n : ℕ) (entries : List EntryView) → SameFiles (OpenFiles T n (λ path. map.get (root_alone entries) path))
    (Files T n entries)
root_alone_files T n entries = open_files_of_only_root_open T n (λ path. map.get (root_alone entries) path) entries (root_alone_at_root entries)
    (λ name. root_alone_below_root entries name [])
