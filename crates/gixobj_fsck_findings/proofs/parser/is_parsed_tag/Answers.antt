use Rattle.std.proofs.Common.{arith}
use Rattle.std.proofs.lemmas.Bool.{false≢true}
use Rattle.gixobj_fsck_findings.proofs.Parsed.{tag_name, tag_type}
use Rattle.gixobj_fsck_findings.proofs.parser.is_parsed_tag.Goals as goal

pub returns-in_default-header_field : goal.returns-in_default-header_field
returns-in_default-header_field c = (
  λ holds. absurd (false≢true holds),
  λ parsed.
      let t = tag_type c.args.kind c.args.tag.now _ c.in-Some.start.now parsed c.in-Some.ensures.found in
      absurd (c.in_default-header_field.ensures.none t.0 t.1 t.4),
)

pub returns-then-value-ge20 : goal.returns-then-value-ge20
returns-then-value-ge20 c = (
  λ holds. absurd (false≢true holds),
  λ parsed.
      let t = tag_name c.args.kind c.args.tag.now _ c.in-Some.start.now _ c.in-Some-header_field.end.now parsed c.in-Some.ensures.found
      c.in-Some-header_field.ensures.found
      in
      absurd (omega (arith, t.0, c.if-value-ge20.true)),
)

pub returns-in-None : goal.returns-in-None
returns-in-None c = (
  λ holds. absurd (false≢true holds),
  λ parsed.
      let t = tag_name c.args.kind c.args.tag.now _ c.in-Some.start.now _ c.in-Some-header_field.end.now parsed c.in-Some.ensures.found
      c.in-Some-header_field.ensures.found
      in
      absurd (c.in-None.ensures.none t.2.0 t.2.1 t.2.2),
)

pub returns-then-not-names_kind : goal.returns-then-not-names_kind
returns-then-not-names_kind c = (
  λ holds. absurd (false≢true holds),
  λ parsed.
      let t = tag_name c.args.kind c.args.tag.now _ c.in-Some.start.now _ c.in-Some-header_field.end.now parsed c.in-Some.ensures.found
      c.in-Some-header_field.ensures.found
      in
      absurd (false≢true (c.if-not-names_kind.ensures.1 t.1)),
)
