-- The title comes first, and the body last.
use Rattle.std.proofs.Common.{refl}
use Rattle.gixobj_c.proofs.Titles.{body_before_end, message_with_body, message_without_body, title_is_prefix}
use Rattle.gixobj_c.proofs.messages.message_of.Goals as goal

pub prefix_span-title-requires : goal.prefix_span-title-requires
prefix_span-title-requires c = title_is_prefix _ c.from_bytes-parts.result c.from_bytes-parts.ensures

pub span_of-body-requires : goal.span_of-body-requires
span_of-body-requires c = body_before_end _ c.from_bytes-parts.result _ c.from_bytes-parts.ensures c.in-Some.is

pub returns : goal.returns
returns c = message_with_body _ c.from_bytes-parts.result _ _ c.from_bytes-parts.ensures c.in-Some.is refl c.prefix_span-title.ensures c.span_of-body.ensures

pub returns-in_default : goal.returns-in_default
returns-in_default c = message_without_body _ c.from_bytes-parts.result _ c.from_bytes-parts.ensures c.in_default.is refl c.empty_span.ensures
    c.prefix_span-title.ensures
