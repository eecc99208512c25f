-- The value is between the name with its space and the newline before the rest.
use Rattle.std.proofs.Common.{arith, refl}
use Rattle.gixobj_c.proofs.TagParts.{field_fits, is_field_span}
use Rattle.gixobj_c.proofs.tags.field_span.Goals as goal

pub overflow_sub-end : goal.overflow_sub-end
overflow_sub-end c = omega (arith, (field_fits c.args.name.now c.args.tag.now c.args.offset c.args.rest.now c.requires).1)

pub overflow_sub-end-2 : goal.overflow_sub-end-2
overflow_sub-end-2 c = omega (arith, (field_fits c.args.name.now c.args.tag.now c.args.offset c.args.rest.now c.requires).1)

pub overflow_sub-result : goal.overflow_sub-result
overflow_sub-result c = omega (arith, (field_fits c.args.name.now c.args.tag.now c.args.offset c.args.rest.now c.requires).0)

pub returns : goal.returns
returns c = is_field_span c.args.name.now c.args.tag.now c.args.offset c.args.rest.now _ c.requires refl refl
