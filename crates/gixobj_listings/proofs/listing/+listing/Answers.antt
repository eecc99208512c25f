-- The files of one entry and of all entries of a directory: the goals of `files_at` and `files_of`, which call each
-- other.
use Rattle.std.proofs.Common.{◌≡◌, ◌∙◌, ◌++◌, ◌+◌, ℕ, List, ap, map, subst, sym, take, true, false}
use Rattle.std.proofs.lemmas.List.{take_all}
use Rattle.bstr.specs.Owned.{bstring_bytes}
use Rattle.gix_object.specs.Entries.{EntryView}
use Rattle.gix_object.specs.Files.{ContainsEntry, is_null}
use Rattle.gix_object.specs.Mode.{is_tree_mode}
use Rattle.gixobj_listings.proofs.EntryTests.{entry_is_null_of_test, is_tree_mode_of_test}
use Rattle.gixobj_listings.proofs.FileListings.{contains_entry_at, in_order_snoc, starts_snoc}
use Rattle.gixobj_listings.proofs.Rooted.{if_err_weaken}
use Rattle.gixobj_listings.proofs.StoreListings.{at_directory_of_bounded, has_files_at_null, has_files_before_next, has_files_inside_directory}
use Rattle.gixobj_listings.proofs.StoreListings.{has_files_of_entries, has_files_of_root}
use Rattle.gixobj_listings.proofs.Unread.{are_all_read_of_entries, is_root_unique, list_error_inside_directory, list_error_of_entry, list_error_of_root}
use Rattle.gixobj_listings.proofs.Unread.{read_take_snoc}
use Rattle.gixobj_listings.specs.FileLists.{AreInOrder, with_first_name}
use Rattle.gixobj_listings.specs.Listings.{IsListError}
use Rattle.gixobj_listings.specs.Roots.{IsRoot}
use Rattle.gixobj_listings.specs.declared.listing.UnreadError.TheVariants as unread
use Rattle.gixobj_listings.proofs.FileListings.{StartsIn}
use Rattle.std.specs.List.{AllByRecursion}
use Rattle.gixobj_listings.proofs.listing.+listing.Goals as goal

pub files_at-returns-then-is_null-clause-files : goal.files_at-returns-then-is_null-clause-files
files_at-returns-then-is_null-clause-files g t c =
    let null : is_null c.args.entry.now.id ≡ true = entry_is_null_of_test _ _ _ _ c.entry.view_is c.is_null.ensures c.if-is_null.true in
    has_files_at_null (g.S.Store.objects c.args.store.now) c.args.depth c.args.entry.now _ c.new.ensures.items null

pub files_at-returns-then-is_null-clause-opened : goal.files_at-returns-then-is_null-clause-opened
files_at-returns-then-is_null-clause-opened g t c =
    let null : is_null c.args.entry.now.id ≡ true = entry_is_null_of_test _ _ _ _ c.entry.view_is c.is_null.ensures c.if-is_null.true in
    λ directory. absurd (cc (null, directory.1))

pub files_at-returns-in-Ok-clause-files : goal.files_at-returns-in-Ok-clause-files
files_at-returns-in-Ok-clause-files g t c =
    let some : is_null c.args.entry.now.id ≡ false = entry_is_null_of_test _ _ _ _ c.entry.view_is c.is_null.ensures c.if-is_null.false in
    let is : is_tree_mode c.args.entry.now.mode ≡ true = is_tree_mode_of_test _ _ _ _ c.entry.view_is c.is_tree.ensures c.if-not-is_tree.false in
    has_files_inside_directory c.id_equality_is_decidable.ensures (g.S.Store.objects c.args.store.now) c.args.depth _ c.args.entry.now c.entry.view_is
    c.in-Ok.files.items some is (c.in-Ok.ensures {u = tt}).opened (c.in-Ok.ensures {u = tt}).files

pub files_at-returns-in-Ok-clause-paths : goal.files_at-returns-in-Ok-clause-paths
files_at-returns-in-Ok-clause-paths g t c =
    let is : is_tree_mode c.args.entry.now.mode ≡ true = is_tree_mode_of_test _ _ _ _ c.entry.view_is c.is_tree.ensures c.if-not-is_tree.false in
    at_directory_of_bounded c.args.depth c.args.entry.now is c.in-Ok.files.items (c.in-Ok.ensures {u = tt}).bounded

pub files_at-returns-in-Err-clause-error : goal.files_at-returns-in-Err-clause-error
files_at-returns-in-Err-clause-error g t c =
    let some : is_null c.args.entry.now.id ≡ false = entry_is_null_of_test _ _ _ _ c.entry.view_is c.is_null.ensures c.if-is_null.false in
    let is : is_tree_mode c.args.entry.now.mode ≡ true = is_tree_mode_of_test _ _ _ _ c.entry.view_is c.is_tree.ensures c.if-not-is_tree.false in
    list_error_inside_directory (g.S.Store.objects c.args.store.now) (g.S.Store.may_fail c.args.store.now) c.args.depth _ c.args.entry.now c.entry.view_is
    some is
    c.in-Err.error c.within.result (c.in-Err.ensures {u = tt}).error c.within.ensures

pub files_of-returns-then-depth-eq0-clause-error : goal.files_of-returns-then-depth-eq0-clause-error
files_of-returns-then-depth-eq0-clause-error g t c =
    list_error_of_root (g.S.Store.objects c.args.store.now) (g.S.Store.may_fail c.args.store.now) c.args.depth c.args.root unread.TooDeep c.unread.result
    c.unread.ensures (sym c.if-depth-eq0.true)

pub files_of-returns-in-Err-clause-error : goal.files_of-returns-in-Err-clause-error
files_of-returns-in-Err-clause-error g t c =
    list_error_of_root (g.S.Store.objects c.args.store.now) (g.S.Store.may_fail c.args.store.now) c.args.depth c.args.root (unread.Tree c.in-Err.cause)
    c.unread-in-Err.result c.unread-in-Err.ensures (c.in-Err.ensures {u = tt}).error

pub files_of-returns-in_err-below-clause-error : goal.files_of-returns-in_err-below-clause-error
files_of-returns-in_err-below-clause-error g t c =
    let objects = g.S.Store.objects c.args.store.now in
    let may_fail = g.S.Store.may_fail c.args.store.now in
    let items = c.deref-entry-items.result.now in
    let same : items ≡ c.in-Ok.tree = c.deref-entry-items.ensures.value ∙ c.tree.view_is in
    let root : IsRoot objects c.args.root items = subst (IsRoot objects c.args.root) (sym same) (c.in-Ok.ensures {u = tt}).found in
    let e = c.entry-item.result in
    if_err_weaken c.from_residual.result _ _ c.from_residual.ensures.1
    (λ error is. subst (IsListError objects may_fail c.args.depth c.args.root) (sym is)
    (list_error_of_entry objects c.id_equality_is_decidable.ensures c.tree_decodes_uniquely.ensures.one_tree c.args.root items root c.loop-entry.entry-index e
    c.loop-entry-test.true c.entry-item.is (contains_entry_at items c.loop-entry.entry-index e c.loop-entry-test.true c.entry-item.is)
    c.loop-entry.invariant.read
    may_fail c.args.depth c.if-depth-eq0.false c.in_err-below.field-0.0 c.in_err-below.ensures.error))

pub files_of-loop-entry-preserved : goal.files_of-loop-entry-preserved
files_of-loop-entry-preserved g t c =
    let objects = g.S.Store.objects c.args.store.now in
    let items = c.deref-entry-items.result.now in
    let same : items ≡ c.in-Ok.tree = c.deref-entry-items.ensures.value ∙ c.tree.view_is in
    let root : IsRoot objects c.args.root items = subst (IsRoot objects c.args.root) (sym same) (c.in-Ok.ensures {u = tt}).found in
    let e = c.entry-item.result in
    let i = c.loop-entry.entry-index in
    let files = c.loop-entry.files.items in
    let below = c.in_ok-below.below.items in
    let some = c.if-depth-eq0.false in
    let named : bstring_bytes c.entry.inside.filename ≡ e.name = ap (λ (y : EntryView). y.name) c.entry.view_is in
    let added : c.add_before.new.files.items ≡ files ++ map (with_first_name (bstring_bytes c.entry.inside.filename)) below = c.in_ok-add_before.ensures in
    let joined : c.add_before.new.files.items ≡ files ++ map (with_first_name e.name) below =
    added ∙ ap (λ (name : List ℕ). files ++ map (with_first_name name) below) named in
    record {
      files = has_files_before_next objects c.args.depth some items i e (bstring_bytes c.entry.inside.filename) files below c.add_before.new.files.items
          c.loop-entry-test.true c.entry-item.is named added c.loop-entry.invariant.files c.in_ok-below.ensures.files;
      ordered = subst AreInOrder (sym joined)
          (in_order_snoc c.args.depth some items root.well_formed.ascending i e c.loop-entry-test.true c.entry-item.is files below
          c.loop-entry.invariant.ordered
          c.in_ok-below.ensures.ordered c.loop-entry.invariant.starts c.in_ok-below.ensures.paths);
      starts = subst (AllByRecursion (StartsIn c.args.depth (take (i + 1) items))) (sym joined)
          (starts_snoc c.args.depth some items root.well_formed.ascending i e c.loop-entry-test.true c.entry-item.is files below c.loop-entry.invariant.starts
          c.in_ok-below.ensures.paths);
      read = read_take_snoc objects items i e c.loop-entry-test.true c.entry-item.is c.loop-entry.invariant.read c.in_ok-below.ensures.opened;
    }

pub files_of-returns-clause-files : goal.files_of-returns-clause-files
files_of-returns-clause-files g t c =
    let objects = g.S.Store.objects c.args.store.now in
    let items = c.deref-entry-items.result.now in
    let same : items ≡ c.in-Ok.tree = c.deref-entry-items.ensures.value ∙ c.tree.view_is in
    let root : IsRoot objects c.args.root items = subst (IsRoot objects c.args.root) (sym same) (c.in-Ok.ensures {u = tt}).found in
    has_files_of_root c.id_equality_is_decidable.ensures objects c.args.depth c.args.root items c.loop-entry.entry-index c.loop-entry.files.items root
    c.loop-entry-test.false c.loop-entry.invariant.files

pub files_of-returns-clause-entries : goal.files_of-returns-clause-entries
files_of-returns-clause-entries g t c =
    let objects = g.S.Store.objects c.args.store.now in
    let items = c.deref-entry-items.result.now in
    let same : items ≡ c.in-Ok.tree = c.deref-entry-items.ensures.value ∙ c.tree.view_is in
    let root : IsRoot objects c.args.root items = subst (IsRoot objects c.args.root) (sym same) (c.in-Ok.ensures {u = tt}).found in
    λ entries is. has_files_of_entries objects c.args.depth items entries c.loop-entry.entry-index c.loop-entry.files.items
    (is_root_unique objects c.id_equality_is_decidable.ensures c.tree_decodes_uniquely.ensures.one_tree c.args.root entries items is root)
    c.loop-entry-test.false c.loop-entry.invariant.files

pub files_of-returns-clause-opened : goal.files_of-returns-clause-opened
files_of-returns-clause-opened g t c =
    let objects = g.S.Store.objects c.args.store.now in
    let items = c.deref-entry-items.result.now in
    let same : items ≡ c.in-Ok.tree = c.deref-entry-items.ensures.value ∙ c.tree.view_is in
    let root : IsRoot objects c.args.root items = subst (IsRoot objects c.args.root) (sym same) (c.in-Ok.ensures {u = tt}).found in
    let all : take c.loop-entry.entry-index items ≡ items = take_all c.loop-entry.entry-index items c.loop-entry-test.false in
    are_all_read_of_entries objects c.id_equality_is_decidable.ensures c.tree_decodes_uniquely.ensures.one_tree c.args.root items root
    (λ e has. c.loop-entry.invariant.read e (subst (λ (es : List EntryView). ContainsEntry es e) (sym all) has))
