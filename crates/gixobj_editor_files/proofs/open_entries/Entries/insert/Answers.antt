use Rattle.std.proofs.Common.{◌≡◌, ◌∙◌, List, ℕ, cond, ap, length, sym, rules, arith}
use Rattle.bstr.specs.Owned.{bstring_bytes}
use Rattle.gixobj_tree_entries.specs.Mode.{is_tree_mode, mode_bits}
use Rattle.gixobj_tree_entries.specs.Entries.{EntryView}
use Rattle.gixobj_editor_files.proofs.WithEntry.{no_other_of_alone, with_entry_of_edits}
use Rattle.gixobj_editor_files.proofs.WellFormedEdits.{is_well_formed_with_entry}
use Rattle.gixobj_editor_files.proofs.Stored.{is_stored_of_edit, len_of_edits}
use Rattle.gixobj_editor_files.proofs.open_entries.Entries.insert.Goals as goal

pub reserve_entry-requires-clause-pieced : goal.reserve_entry-requires-clause-pieced
reserve_entry-requires-clause-pieced c =
    let stored = rw (← c.self-inside.view_is) at c.self.invariant in
    record { ascending = stored.formed.ascending; non_empty = stored.non_empty }

pub remove_unless-removed-requires-clause-absent : goal.remove_unless-removed-requires-clause-absent
remove_unless-removed-requires-clause-absent c = λ yes.
    let x : EntryView = record { mode = mode_bits c.args.mode; name = bstring_bytes c.args.name.now; id = c.args.id } in
    let filename : bstring_bytes c.in_ok-filename.filename ≡ bstring_bytes c.args.name.now = search rules in
    let named : c.as_bytes-bytes.result.now ≡ bstring_bytes c.args.name.now = search rules in
    let kind : c.is_tree-is_tree.result ≡ is_tree_mode (mode_bits c.args.mode) = search rules in
    let same : ◌≡◌ {A = EntryView} (record { mode = mode_bits c.args.mode; name = bstring_bytes c.in_ok-filename.filename; id = c.args.id }) x =
    ap (λ (n : List ℕ). record { mode = mode_bits c.args.mode; name = n; id = c.args.id }) filename in
    no_other_of_alone x _ _ _ _ _ _ c.requires.one_name c.reserve_entry.ensures.unchanged same c.insert_at-inserted.ensures.inserted named kind
    (c.insert_at-inserted.ensures.alone yes)

pub returns-clause-inserted : goal.returns-clause-inserted
returns-clause-inserted c =
    let stored = rw (← c.self-inside.view_is) at c.self.invariant in
    let x : EntryView = record { mode = mode_bits c.args.mode; name = bstring_bytes c.args.name.now; id = c.args.id } in
    let filename : bstring_bytes c.in_ok-filename.filename ≡ bstring_bytes c.args.name.now = search rules in
    let named : c.as_bytes-bytes.result.now ≡ bstring_bytes c.args.name.now = search rules in
    let kind : c.is_tree-is_tree.result ≡ is_tree_mode (mode_bits c.args.mode) = search rules in
    let same : ◌≡◌ {A = EntryView} (record { mode = mode_bits c.args.mode; name = bstring_bytes c.in_ok-filename.filename; id = c.args.id }) x =
    ap (λ (n : List ℕ). record { mode = mode_bits c.args.mode; name = n; id = c.args.id }) filename in
    rw (← c.self.view_is, ← c.self-inside.view_is) (with_entry_of_edits x _ _ _ _ _ _ _ c.requires.one_name stored.formed c.reserve_entry.ensures.unchanged
    same c.insert_at-inserted.ensures.inserted named kind c.remove_unless-removed.ensures.removed)

pub invariant_of-self-2 : goal.invariant_of-self-2
invariant_of-self-2 c =
    let stored = rw (← c.self-inside.view_is) at c.self.invariant in
    let x : EntryView = record { mode = mode_bits c.args.mode; name = bstring_bytes c.args.name.now; id = c.args.id } in
    let filename : bstring_bytes c.in_ok-filename.filename ≡ bstring_bytes c.args.name.now = search rules in
    let named : c.as_bytes-bytes.result.now ≡ bstring_bytes c.args.name.now = search rules in
    let kind : c.is_tree-is_tree.result ≡ is_tree_mode (mode_bits c.args.mode) = search rules in
    let same : ◌≡◌ {A = EntryView} (record { mode = mode_bits c.args.mode; name = bstring_bytes c.in_ok-filename.filename; id = c.args.id }) x =
    ap (λ (n : List ℕ). record { mode = mode_bits c.args.mode; name = n; id = c.args.id }) filename in
    let is = with_entry_of_edits x _ _ _ _ _ _ _ c.requires.one_name stored.formed c.reserve_entry.ensures.unchanged
    same c.insert_at-inserted.ensures.inserted named kind c.remove_unless-removed.ensures.removed in
    let plus : c.from.result ≡ cond c.insert_at-inserted.result.is_new 1 0 = search rules in
    let minus : c.from-2.result ≡ cond c.remove_unless-removed.result 1 0 = search rules in
    let len = len_of_edits c.insert_at-inserted.result.is_new c.remove_unless-removed.result _ _ _ c.from.result c.from-2.result plus minus
    c.insert_at-inserted.ensures.len c.remove_unless-removed.ensures.len in
    let was = stored.counted ∙ sym (ap length c.reserve_entry.ensures.unchanged) in
    is_stored_of_edit (λ p. p.items) c.reserve_entry.new.more.items _ _ _ _ _ _ (rw is (is_well_formed_with_entry x _ stored.formed c.requires))
    c.remove_unless-removed.ensures.pieced.non_empty c.reserve_entry.ensures.spare
    (omega (arith, c.insert_at-inserted.ensures.pieces, c.remove_unless-removed.ensures.pieces)) c.in_ok-at.ensures.has_room_for_one
    (omega (arith, len.0, was)) (omega (arith, len.1, was))
