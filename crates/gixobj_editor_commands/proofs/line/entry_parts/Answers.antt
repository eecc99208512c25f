-- Bytes that do not split into a kind, an id and a path are no entry.
use Rattle.gixobj_editor_commands.proofs.EncodedLines.{no_id_of_token, no_kind_of_token, no_second_space_in_entry, no_space_in_token}
use Rattle.gixobj_editor_commands.proofs.line.entry_parts.Goals as goal

pub returns-in_default-clause-none : goal.returns-in_default-clause-none
returns-in_default-clause-none c = no_space_in_token c.args.hash c.args.entry.now c.in_default.ensures.none

pub returns-in_default-kind_of_name-clause-none : goal.returns-in_default-kind_of_name-clause-none
returns-in_default-kind_of_name-clause-none c = no_kind_of_token c.args.hash c.args.entry.now c.in-Some.token.now c.in-Some.after.now c.in-Some.ensures.found
    c.in_default-kind_of_name.ensures

pub returns-in_default-split_at_byte-clause-none : goal.returns-in_default-split_at_byte-clause-none
returns-in_default-split_at_byte-clause-none c =
    no_second_space_in_entry c.args.hash c.args.entry.now c.in-Some.token.now c.in-Some.after.now c.in-Some.ensures.found
    c.in_default-split_at_byte.ensures.none

pub returns-in_default-id_of_kind-clause-none : goal.returns-in_default-id_of_kind-clause-none
returns-in_default-id_of_kind-clause-none c =
    no_id_of_token c.args.hash c.args.entry.now c.in-Some.token.now c.in-Some.after.now c.in-Some-split_at_byte.hex.now c.in-Some-split_at_byte.path.now
    c.in-Some.ensures.found c.in-Some-split_at_byte.ensures.found c.in_default-id_of_kind.ensures
