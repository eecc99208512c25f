use Rattle.std.proofs.Common.{arith, sym}
use Rattle.gixobj_grammar.proofs.OneLine.{line_len_lt}
use Rattle.gixobj_grammar.specs.Lines.{line_view}
use Rattle.gixobj_grammar.proofs.Searching.{ended, token_bytes_are_prefix, nil_of_test, begins_with_more_pieces, offset_advances, rejected, not_nil_of_test}
use Rattle.gixobj_grammar.proofs.headers.find_header.Goals as goal

pub overflow_sub-position : goal.overflow_sub-position
overflow_sub-position c =
    let less = line_len_lt c.args.hash_kind c.lines.state c.lines.rest.now (line_view c.in-Ok.read.0) c.in-Ok.read.1 c.in-Ok.read.2.now
    c.in-Ok.ensures.found in
    omega (arith, less)

pub lines-smaller : goal.lines-smaller
lines-smaller c = line_len_lt c.args.hash_kind c.lines.state c.lines.rest.now (line_view c.in-Ok.read.0) c.in-Ok.read.1 c.in-Ok.read.2.now
    c.in-Ok.ensures.found

pub lines-preserved : goal.lines-preserved
lines-preserved c =
    let has = c.in-Ok.ensures.found in
    let less = line_len_lt c.args.hash_kind c.lines.state c.lines.rest.now (line_view c.in-Ok.read.0) c.in-Ok.read.1 c.in-Ok.read.2.now has in
    let one = token_bytes_are_prefix c.args.hash_kind c.lines.state c.lines.rest.now (line_view c.in-Ok.read.0) c.in-Ok.read.1 c.in-Ok.read.2.now has in
    let inv = c.lines.invariant in
    record {
      begins_with = begins_with_more_pieces c.args.hash_kind c.args.name.now c.args.bytes.now c.lines.state c.lines.rest.now inv.begins_with
          (line_view c.in-Ok.read.0) c.in-Ok.read.1 c.in-Ok.read.2.now has
          (c.in_default.ensures {u = tt}).found;
      position_is = omega (arith, less, inv.position_is);
      joined = offset_advances c.args.bytes.now c.lines.rest.now one.0 c.in-Ok.read.2.now c.lines.position inv.position_is inv.joined one.1;
    }

pub returns-in-Err-clause-error : goal.returns-in-Err-clause-error
returns-in-Err-clause-error c = rejected c.args.hash_kind c.args.name.now c.args.bytes.now c.lines.state c.lines.rest.now c.lines.invariant.begins_with
    c.in-Err.error (not_nil_of_test c.lines.rest.now (sym (c.lines-test.ensures {u = tt}))) c.in-Err.ensures.error

pub returns-clause-found : goal.returns-clause-found
returns-clause-found c = ended c.args.hash_kind c.args.name.now c.args.bytes.now c.lines.state c.lines.rest.now c.lines.invariant.begins_with
    (nil_of_test c.lines.rest.now (sym (c.lines-test.ensures {u = tt})))
