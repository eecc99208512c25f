use Rattle.std.proofs.Common.{◌≡◌, ◌++◌, rules}
use Rattle.gixobj_examples_objects.proofs.Assembling.{all_of_take, all_snoc, first_other, lines_of_all, lines_take}
use Rattle.gixobj_examples_objects.specs.Assembled.{IsLineTrailer, trailer_line}
use Rattle.gixobj_examples_objects.proofs.assembler.push_trailers.Goals as goal

pub returns-then-not-branch-clause-error : goal.returns-then-not-branch-clause-error
returns-then-not-branch-clause-error c =
    let other : ¬ IsLineTrailer c.index-trailers-index.result = search rules in
    first_other c.args.trailers.now c.loop-index.index c.index-trailers-index.result c.loop-index-test.true c.index-trailers-index.is
    c.loop-index.invariant.lines other

pub loop-index-preserved : goal.loop-index-preserved
loop-index-preserved c =
    let its : IsLineTrailer c.index-trailers-index.result = search rules in
    let added : c.push_line.new.message.items ≡ c.loop-index.message.items ++ trailer_line c.index-trailers-index-in-loop-index.result = search rules in
    record {
      appended = lines_take c.args.message.now.items c.loop-index.message.items c.push_line.new.message.items c.args.trailers.now c.loop-index.index
          c.index-trailers-index-in-loop-index.result c.loop-index-test.true c.index-trailers-index-in-loop-index.is c.loop-index.invariant.appended added;
      lines = all_snoc c.args.trailers.now c.loop-index.index c.index-trailers-index.result c.loop-index-test.true c.index-trailers-index.is
          c.loop-index.invariant.lines its;
    }

pub returns-clause-appended : goal.returns-clause-appended
returns-clause-appended c =
    lines_of_all c.args.message.now.items c.loop-index.message.items c.args.trailers.now c.loop-index.index c.loop-index-test.false
    c.loop-index.invariant.appended

pub returns-clause-lines : goal.returns-clause-lines
returns-clause-lines c = all_of_take c.args.trailers.now c.loop-index.index c.loop-index-test.false c.loop-index.invariant.lines
