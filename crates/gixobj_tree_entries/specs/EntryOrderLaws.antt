-- The orders of entries and of trees are total and agree with `==` and with the hash, as the traits require.
use Rattle.std.specs.Prelude.{◌≡◌, ◌==◌, ◌&&◌, Bool, true, false, List, nat_eq, refl}
use Rattle.std.proofs.Common.{ap, rules, sym, ◌∙◌}
use mathlib.Core.Bool.{true≢false}
use Rattle.std.specs.Hash.{items_Alike}
use Rattle.std.specs.Cmp.{unsigned_ties, IsEquivalence, first_so, second_so, IsTotalOrder, and_equiv, eq_by_cmp_equiv}
use Rattle.std.specs.Cmp.{nat_cmp_total, nat_eq_equiv, on_equiv, on_total, then_total, tied_then}
use Rattle.std.specs.Cmp.Lexicographic.{lists_equiv, lists_ties, lists_total, bytes_decides, nat_list_eq_equiv}
use Rattle.std.specs.Cmp.Lexicographic.{on_texts, pointwise, slice_cmp, texts_ties}
use Rattle.std.specs.Ordering.{is_eq, nat_cmp, ordering_then}
use Rattle.gixobj_hash.specs.Hash.{id_bytes}
use Rattle.gixobj_hash.specs.Hash.Order.{id_cmp}
use Rattle.gixobj_hash.specs.Hash.OrderLaws.{id_cmp_total}
use Rattle.gixobj_hash.specs.declared.hash.object_id.ObjectId.{ObjectId}
use Rattle.gixobj_tree_entries.specs.Entries.{EntryView}
use Rattle.gixobj_tree_entries.specs.KeyOrder.{entry_key}
use Rattle.gixobj_tree_entries.specs.EntryOrder.{entry_cmp, entry_feed, same_entry, same_tree, tree_cmp, tree_feed}

-- the order of entries is total
pub entry_cmp_total : IsTotalOrder entry_cmp
entry_cmp_total = then_total (on_texts entry_key)
    (then_total (on_total (λ e. e.mode) nat_cmp_total)
    (then_total (on_texts (λ e. e.name)) (on_total (λ e. e.id) id_cmp_total)))

-- the equality of entries is an equivalence
pub entry_equiv : IsEquivalence same_entry
entry_equiv = and_equiv (on_equiv (λ e. e.mode) nat_eq_equiv)
    (and_equiv (on_equiv (λ e. e.name) nat_list_eq_equiv) (on_equiv (λ e. e.id) (eq_by_cmp_equiv id_cmp_total)))

-- entries of equal modes and names have equal keys
same_parts : (x y : EntryView) → (x.mode == y.mode) ≡ true → pointwise nat_eq x.name y.name ≡ true
    → is_eq (slice_cmp nat_cmp (entry_key x) (entry_key y)) ≡ true
same_parts x y modes names =
    let mode : x.mode ≡ y.mode = search rules in
    let name : x.name ≡ y.name = (bytes_decides x.name y.name).0 names in
    sym (texts_ties (entry_key x) (entry_key y)) ∙ (bytes_decides (entry_key x) (entry_key y)).1 (rw (mode, name) refl)

drop_first : (k m n i : Bool) → (m ≡ true → n ≡ true → k ≡ true) → (m && (n && i)) ≡ (k && (m && (n && i)))
drop_first true m n i h = refl
drop_first false false n i h = refl
drop_first false true false i h = refl
drop_first false true true i h = absurd (true≢false (sym (h refl refl)))

-- entries are equal if and only if they tie
pub entry_ties : (x y : EntryView) → same_entry x y ≡ is_eq (entry_cmp x y)
entry_ties x y =
    let keys = slice_cmp nat_cmp (entry_key x) (entry_key y) in
    let modes = nat_cmp x.mode y.mode in
    let names = slice_cmp nat_cmp x.name y.name in
    let ids = id_cmp x.id y.id in
    drop_first (is_eq keys) (x.mode == y.mode) (pointwise nat_eq x.name y.name) (is_eq ids) (same_parts x y)
    ∙ ap (λ b. is_eq keys && b)
    (ap (λ b. b && (pointwise nat_eq x.name y.name && is_eq ids)) (unsigned_ties x.mode y.mode)
    ∙ ap (λ b. is_eq modes && b) (ap (λ b. b && is_eq ids) (texts_ties x.name y.name) ∙ tied_then names ids)
    ∙ tied_then modes (ordering_then names ids))
    ∙ tied_then keys (ordering_then modes (ordering_then names ids))

same_id_bytes : (x y : ObjectId) → is_eq (id_cmp x y) ≡ true → id_bytes x ≡ id_bytes y
same_id_bytes x y ties = (bytes_decides (id_bytes x) (id_bytes y)).0
    (texts_ties (id_bytes x) (id_bytes y)
    ∙ first_so _ _ (tied_then (slice_cmp nat_cmp (id_bytes x) (id_bytes y)) _ ∙ ties))

-- equal entries have equal hash inputs
pub entries_alike : (x y : EntryView) → same_entry x y ≡ true → entry_feed x ≡ entry_feed y
entries_alike x y same =
    let mode : x.mode ≡ y.mode = search rules in
    let name : x.name ≡ y.name = (bytes_decides x.name y.name).0 (first_so _ _ (second_so _ _ same)) in
    let id : id_bytes x.id ≡ id_bytes y.id = same_id_bytes x.id y.id (second_so _ _ (second_so _ _ same)) in
    rw (mode, name, id) refl

-- the order of trees is total
pub tree_cmp_total : IsTotalOrder tree_cmp
tree_cmp_total = lists_total entry_cmp_total

-- the equality of trees is an equivalence
pub tree_equiv : IsEquivalence same_tree
tree_equiv = lists_equiv entry_equiv

-- trees are equal if and only if they tie
pub tree_ties : (xs ys : List EntryView) → same_tree xs ys ≡ is_eq (tree_cmp xs ys)
tree_ties xs ys = lists_ties entry_cmp entry_ties xs ys

-- equal trees have equal hash inputs
pub trees_alike : (xs ys : List EntryView) → same_tree xs ys ≡ true → tree_feed xs ≡ tree_feed ys
trees_alike = (items_Alike (record { fed = entries_alike })).fed
