use Rattle.gixobj_grammar.proofs.TagPrefixes.{by_body, no_kind, no_name, no_tagger, no_target}
use Rattle.gixobj_grammar.proofs.tags.is_tag.Goals as goal

pub returns-in_default : goal.returns-in_default
returns-in_default c = no_target c.args.hash_kind c.args.bytes.now c.in_default.ensures.none

pub returns-in_default-header_kind : goal.returns-in_default-header_kind
returns-in_default-header_kind c = no_kind c.args.hash_kind c.args.bytes.now _ c.in-Some.after_target.now c.in-Some.ensures.found
    c.in_default-header_kind.ensures.none

pub returns-in_default-name : goal.returns-in_default-name
returns-in_default-name c = no_name c.args.hash_kind c.args.bytes.now _ c.in-Some.after_target.now _ c.in-Some-header_kind.after_kind.now
    c.in-Some.ensures.found c.in-Some-header_kind.ensures.found c.in_default-name.ensures.none

pub returns-in_default-tagger : goal.returns-in_default-tagger
returns-in_default-tagger c =
    no_tagger c.args.hash_kind c.args.bytes.now _ c.in-Some.after_target.now _ c.in-Some-header_kind.after_kind.now _ c.in-Some-name.after_name.now
    c.in-Some.ensures.found c.in-Some-header_kind.ensures.found c.in-Some-name.ensures.found
    c.in_default-tagger.ensures.none

pub returns : goal.returns
returns c =
    by_body c.args.hash_kind c.args.bytes.now _ c.in-Some.after_target.now c.in-Some-header_kind.field-0-0 c.in-Some-header_kind.after_kind.now _
    c.in-Some-name.after_name.now _ c.in-Some-tagger.body.now c.is_body.result c.in-Some.ensures.found
    c.in-Some-header_kind.ensures.found c.in-Some-name.ensures.found c.in-Some-tagger.ensures.found c.is_body.ensures
