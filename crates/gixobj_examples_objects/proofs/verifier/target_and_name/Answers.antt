use Rattle.std.proofs.Common.{subst, sym}
use Rattle.gix_object.specs.Hash.{DecodesToId}
use Rattle.gix_object.specs.TagTokens.{tag_token_view}
use Rattle.gixobj_examples_objects.proofs.Yielded.{target_token_has_id, target_unique, name_unique, starts_of_decoded_tag}
use Rattle.gixobj_examples_objects.proofs.verifier.target_and_name.Goals as goal

pub returns-in_err-first-clause-none : goal.returns-in_err-first-clause-none
returns-in_err-first-clause-none c = rw c.from_residual.ensures (λ tag is.
    let start = starts_of_decoded_tag c.tag_readers_agree.ensures.yields c.args.kind c.args.content.now tag c.from_bytes-reader.result is
    c.from_bytes-reader.ensures in
    c.in_err-first.ensures.none _ _ start.to_yield)

pub returns-in_err-target-clause-none : goal.returns-in_err-target-clause-none
returns-in_err-target-clause-none c = rw c.from_residual-in_err-target.ensures (λ tag is.
    let start = starts_of_decoded_tag c.tag_readers_agree.ensures.yields c.args.kind c.args.content.now tag c.from_bytes-reader.result is
    c.from_bytes-reader.ensures in
    let first = c.in_ok-first.ensures.found _ _ start.to_yield in
    target_token_has_id (tag_token_view c.in_ok-first.first) start.id first.0 c.in_err-target.ensures)

pub returns-in_err-_kind-clause-none : goal.returns-in_err-_kind-clause-none
returns-in_err-_kind-clause-none c = rw c.from_residual-in_err-_kind.ensures (λ tag is.
    let start = starts_of_decoded_tag c.tag_readers_agree.ensures.yields c.args.kind c.args.content.now tag c.from_bytes-reader.result is
    c.from_bytes-reader.ensures in
    let first = c.in_ok-first.ensures.found _ _ start.to_yield in
    c.in_err-_kind.ensures.none _ _ first.1)

pub returns-in_err-third-clause-none : goal.returns-in_err-third-clause-none
returns-in_err-third-clause-none c = rw c.from_residual-in_err-third.ensures (λ tag is.
    let start = starts_of_decoded_tag c.tag_readers_agree.ensures.yields c.args.kind c.args.content.now tag c.from_bytes-reader.result is
    c.from_bytes-reader.ensures in
    let first = c.in_ok-first.ensures.found _ _ start.to_yield in
    let second = c.in_ok-_kind.ensures.found _ _ first.1 in
    c.in_err-third.ensures.none _ _ second.1)

pub returns-in_err-name-clause-none : goal.returns-in_err-name-clause-none
returns-in_err-name-clause-none c = rw c.from_residual-in_err-name.ensures (λ tag is.
    let start = starts_of_decoded_tag c.tag_readers_agree.ensures.yields c.args.kind c.args.content.now tag c.from_bytes-reader.result is
    c.from_bytes-reader.ensures in
    let first = c.in_ok-first.ensures.found _ _ start.to_yield in
    let second = c.in_ok-_kind.ensures.found _ _ first.1 in
    let third = c.in_ok-third.ensures.found _ _ second.1 in
    c.in_err-name.ensures.none tag.name third.0)

pub returns-clause-found : goal.returns-clause-found
returns-clause-found c = λ tag is.
    let start = starts_of_decoded_tag c.tag_readers_agree.ensures.yields c.args.kind c.args.content.now tag c.from_bytes-reader.result is
    c.from_bytes-reader.ensures in
    let first = c.in_ok-first.ensures.found _ _ start.to_yield in
    let second = c.in_ok-_kind.ensures.found _ _ first.1 in
    let third = c.in_ok-third.ensures.found _ _ second.1 in
    let same = target_unique (tag_token_view c.in_ok-first.first) c.in_ok-target.target start.id first.0 c.in_ok-target.ensures in
    (subst (DecodesToId tag.target) (sym same) start.hex_of_id, name_unique (tag_token_view c.in_ok-third.third) _ tag.name c.in_ok-name.ensures.found third.0)
