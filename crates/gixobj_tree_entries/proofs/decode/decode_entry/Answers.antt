use Rattle.std.proofs.Common.{List, ℕ, subst, sym}
use Rattle.gixobj_hash.specs.Hash.Borrowed.{borrowed_id}
use Rattle.gixobj_tree_entries.specs.Entries.{entry_of}
use Rattle.gixobj_tree_entries.specs.Mode.{mode_bits}
use Rattle.gixobj_tree_entries.proofs.OneEntry.{entry_of_parts, no_entry_without_id, no_entry_without_mode, no_entry_without_name, no_entry_without_space}
use Rattle.gixobj_tree_entries.proofs.decode.decode_entry.Goals as goal
use Rattle.gixobj_tree_entries.specs.TreeDecoding.{BeginsWithEntry}

pub returns-in_default-clause-none : goal.returns-in_default-clause-none
returns-in_default-clause-none c = no_entry_without_mode c.args.hash_kind c.args.input.now c.in_default.ensures.none

pub returns-in_default-after_space-clause-none : goal.returns-in_default-after_space-clause-none
returns-in_default-after_space-clause-none c =
    no_entry_without_space c.args.hash_kind c.args.input.now c.in-Some.after_mode.now
    (mode_bits c.in-Some.mode) c.in-Some.ensures.found c.in_default-after_space.ensures

pub returns-in_default-split_at_zero-clause-none : goal.returns-in_default-split_at_zero-clause-none
returns-in_default-split_at_zero-clause-none c =
    no_entry_without_name c.args.hash_kind c.args.input.now c.in-Some.after_mode.now c.in-Some-after_space.from_name.now
    (mode_bits c.in-Some.mode) c.in-Some.ensures.found
    c.in-Some-after_space.ensures
    c.in_default-split_at_zero.ensures.none

pub returns-in_default-decode_id-clause-none : goal.returns-in_default-decode_id-clause-none
returns-in_default-decode_id-clause-none c =
    no_entry_without_id c.args.hash_kind c.args.input.now c.in-Some.after_mode.now c.in-Some-after_space.from_name.now c.in-Some-split_at_zero.name.now
    c.in-Some-split_at_zero.from_id.now (mode_bits c.in-Some.mode)
    c.in-Some.ensures.found c.in-Some-after_space.ensures c.in-Some-split_at_zero.ensures.found c.in_default-decode_id.ensures.none

pub returns-clause-found : goal.returns-clause-found
returns-clause-found c =
    let here = entry_of_parts c.args.hash_kind c.args.input.now c.in-Some.after_mode.now c.in-Some-after_space.from_name.now c.in-Some-split_at_zero.name.now
    c.in-Some-split_at_zero.from_id.now c.in-Some-decode_id.rest.now
    (mode_bits c.in-Some.mode) (borrowed_id c.in-Some-decode_id.oid) c.in-Some.ensures.found c.in-Some-after_space.ensures c.in-Some-split_at_zero.ensures.found
    c.in-Some-decode_id.ensures.found in
    subst (λ (name : List ℕ). BeginsWithEntry c.args.hash_kind c.args.input.now (entry_of (mode_bits c.in-Some.mode) name (borrowed_id c.in-Some-decode_id.oid))
    c.in-Some-decode_id.rest.now) (sym c.new-filename.ensures) here
