-- The positions follow from the first `<` and from the rest.
use Rattle.std.proofs.Common.{ap, arith, length}
use Rattle.gixobj_actor.specs.Actor.{actor_view}
use Rattle.gixobj_c.proofs.ActorParts.{email_before, email_fits, name_is_prefix, time_before}
use Rattle.gixobj_c.proofs.actors.parts_of.Goals as goal

pub prefix_span-name-requires : goal.prefix_span-name-requires
prefix_span-name-requires c = name_is_prefix _ (actor_view c.args.actor) _ c.requires.actor

pub overflow_sub-after : goal.overflow_sub-after
overflow_sub-after c =
    let fits = email_fits _ _ _ (actor_view c.args.actor) _ c.requires.actor c.requires.split.1 in
    let bytes = ap length c.as_bytes-email_len.ensures in
    omega (arith, fits, bytes)

pub span_of-email-requires : goal.span_of-email-requires
span_of-email-requires c = email_before _ _ _ (actor_view c.args.actor) _ _ c.requires.actor c.requires.split.1 (ap length c.as_bytes-email_len.ensures)

pub span_of-span-requires : goal.span_of-span-requires
span_of-span-requires c = time_before _ (actor_view c.args.actor) _ c.requires.actor
