-- The binary search finds an entry of the tree.
use Rattle.std.proofs.Common.{◌≡◌, ◌<◌, ℕ, List, Equal, length, subst}
use Rattle.std.specs.List.{HoldsAt}
use Rattle.std.specs.List.Sorted.{IsBinarySearchResult, IsSearchInRange}
use Rattle.bstr.specs.BStr.{bstr_bytes}
use Rattle.gixobj_tree.proofs.BinarySearch.{compared, found_equal, found_in, found_key, none_of_key}
use Rattle.gixobj_tree.proofs.tree.borrowed.TreeRef.bisect_entry.Goals as goal
use Rattle.gixobj_tree_entries.specs.EntryViews.{entry_view}
use Rattle.gixobj_tree_entries.specs.declared.entry_ref.EntryRef.{EntryRef}

pub returns-in-Ok-clause-found : goal.returns-in-Ok-clause-found
returns-in-Ok-clause-found c =
    let held = subst (λ (name : List ℕ). HoldsAt (λ y. compared entry_view name c.args.is_dir y ≡ Equal) c.deref.result.now c.in-Ok.at) c.as_bytes.ensures
    c.in-Ok.ensures.position in
    let items = c.args.self.now.entries.items in
    let within = subst (λ (xs : List EntryRef). c.in-Ok.at < length xs) c.deref.ensures.value c.in-Ok.ensures.bound in
    let equal = subst (λ (xs : List EntryRef). HoldsAt (λ y. compared entry_view (bstr_bytes c.args.name) c.args.is_dir y ≡ Equal) xs c.in-Ok.at)
    c.deref.ensures.value held in (
      found_in entry_view (bstr_bytes c.args.name) c.args.is_dir items c.in-Ok.at c.index.result.now within c.index.ensures,
      found_equal entry_view (bstr_bytes c.args.name) c.args.is_dir items c.in-Ok.at c.index.result.now c.index.ensures equal,
    )

pub returns-in-Ok-clause-by_key : goal.returns-in-Ok-clause-by_key
returns-in-Ok-clause-by_key c =
    let held = subst (λ (name : List ℕ). HoldsAt (λ y. compared entry_view name c.args.is_dir y ≡ Equal) c.deref.result.now c.in-Ok.at) c.as_bytes.ensures
    c.in-Ok.ensures.position in
    let items = c.args.self.now.entries.items in
    let within = subst (λ (xs : List EntryRef). c.in-Ok.at < length xs) c.deref.ensures.value c.in-Ok.ensures.bound in
    let equal = subst (λ (xs : List EntryRef). HoldsAt (λ y. compared entry_view (bstr_bytes c.args.name) c.args.is_dir y ≡ Equal) xs c.in-Ok.at)
    c.deref.ensures.value held in
    found_key entry_view (bstr_bytes c.args.name) c.args.is_dir items c.in-Ok.at c.index.result.now within c.index.ensures equal

pub returns-in-Err-clause-by_key : goal.returns-in-Err-clause-by_key
returns-in-Err-clause-by_key c =
    let searched = c.position_of in
    let held = subst (λ (name : List ℕ). IsBinarySearchResult (compared entry_view name c.args.is_dir) c.deref.result.now searched.result) c.as_bytes.ensures
    searched.ensures.position in
    let within = subst (λ (xs : List EntryRef). IsSearchInRange searched.result (length xs)) c.deref.ensures.value searched.ensures.bound in
    let is = subst (λ (xs : List EntryRef). IsBinarySearchResult (compared entry_view (bstr_bytes c.args.name) c.args.is_dir) xs searched.result)
    c.deref.ensures.value held in
    none_of_key entry_view (bstr_bytes c.args.name) c.args.is_dir c.args.self.now.entries.items searched.result c.in-Err.field-0 c.in-Err.is within is
