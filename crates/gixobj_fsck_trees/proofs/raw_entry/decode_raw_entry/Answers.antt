use Rattle.std.proofs.Common.{◌≡◌, inl, inr, rules, length}
use Rattle.std.specs.Str.Parse.{IsNumeral}
use Rattle.gixobj_fsck_trees.proofs.RawEntryParts.{nil_of_len, no_entry_of_digits, no_entry_of_name, no_entry_of_space_free, no_entry_of_zero_free}
use Rattle.gixobj_fsck_trees.proofs.raw_entry.decode_raw_entry.Goals as goal

pub returns-in_default-clause-none : goal.returns-in_default-clause-none
returns-in_default-clause-none c = no_entry_of_space_free c.args.hash_kind c.args.input.now c.in_default.ensures.none

pub returns-then-not-is_octal_numeral-clause-none : goal.returns-then-not-is_octal_numeral-clause-none
returns-then-not-is_octal_numeral-clause-none c =
    let other : ¬ IsNumeral 8 c.in-Some.digits.now = search rules in
    no_entry_of_digits c.args.hash_kind c.args.input.now c.in-Some.digits.now c.in-Some.from_name.now c.in-Some.ensures.found other

pub returns-in_default-split_near-clause-none : goal.returns-in_default-split_near-clause-none
returns-in_default-split_near-clause-none c =
    no_entry_of_zero_free c.args.hash_kind c.args.input.now c.in-Some.digits.now c.in-Some.from_name.now c.in-Some.ensures.found
    c.in_default-split_near.ensures.none

pub returns-then-is_empty-clause-none : goal.returns-then-is_empty-clause-none
returns-then-is_empty-clause-none c =
    let len : length c.in-Some-split_near.name.now ≡ 0 = search rules in
    let empty = nil_of_len c.in-Some-split_near.name.now len in
    no_entry_of_name c.args.hash_kind c.args.input.now c.in-Some.digits.now c.in-Some.from_name.now c.in-Some-split_near.name.now
    c.in-Some-split_near.from_id.now c.in-Some.ensures.found c.in-Some-split_near.ensures.found (inl empty)

pub returns-then-from_id-id_len-clause-none : goal.returns-then-from_id-id_len-clause-none
returns-then-from_id-id_len-clause-none c =
    no_entry_of_name c.args.hash_kind c.args.input.now c.in-Some.digits.now c.in-Some.from_name.now c.in-Some-split_near.name.now
    c.in-Some-split_near.from_id.now c.in-Some.ensures.found c.in-Some-split_near.ensures.found (inr (search rules))
