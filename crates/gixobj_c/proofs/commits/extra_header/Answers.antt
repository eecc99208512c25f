-- The name and the lines of the header have the positions that their lengths say.
use Rattle.std.proofs.Common.{ap, arith, length, refl}
use Rattle.gixobj_c.proofs.Lines.{header_fits, is_token_of_header}
use Rattle.gixobj_c.proofs.commits.extra_header.Goals as goal
use Rattle.gixobj_parse.specs.HeaderReading.{header_of}

pub overflow_sub-end : goal.overflow_sub-end
overflow_sub-end c = let fits = header_fits c.args.commit.now c.args.offset (header_of c.args.field) c.args.rest.now c.requires in omega (arith, fits.1)

pub overflow_sub-result : goal.overflow_sub-result
overflow_sub-result c =
    let fits = header_fits c.args.commit.now c.args.offset (header_of c.args.field) c.args.rest.now c.requires in
    let bytes = ap length c.as_bytes-bytes.ensures in
    omega (arith, fits.2, bytes)

pub returns : goal.returns
returns c =
    let bytes = ap length c.as_bytes-bytes.ensures in
    is_token_of_header c.args.commit.now c.args.offset (header_of c.args.field) c.args.rest.now _ c.requires refl refl bytes (omega (arith, bytes)) refl
