use Rattle.std.proofs.Common.{sym}
use Rattle.std.proofs.lemmas.Bool.{true≢false}
use Rattle.gixobj_parse.proofs.HeaderFields.{no_id_of_other_hex, no_id_without_newline}
use Rattle.gixobj_parse.proofs.parse.header_id.Goals as goal

pub returns-in_default-split_at_newline-clause-none :
    goal.returns-in_default-split_at_newline-clause-none
returns-in_default-split_at_newline-clause-none c =
    no_id_without_newline c.args.name.now c.args.kind c.args.input.now c.in-Some.line.now _ c.in-Some.ensures.found c.len_in_hex.ensures
    c.in_default-split_at_newline.ensures.none

pub returns-in_default-hex_hash-clause-none : goal.returns-in_default-hex_hash-clause-none
returns-in_default-hex_hash-clause-none c =
    no_id_of_other_hex c.args.name.now c.args.kind c.args.input.now c.in-Some.line.now c.in-Some-split_at_newline.value.now
    c.in-Some-split_at_newline.rest.now _
    c.in-Some.ensures.found c.len_in_hex.ensures c.in-Some-split_at_newline.ensures.split c.in-Some-split_at_newline.ensures.position
    (λ hex. true≢false (sym (c.in_default-hex_hash.ensures.accepts.1 hex)))
