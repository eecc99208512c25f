-- Each id of the list has its number, and those before keep theirs.
use Rattle.std.proofs.Common.{◌+◌, arith, subst, sym, take}
use Rattle.std.proofs.lemmas.List.{take_all}
use Rattle.std.specs.List.{AllZip}
use Rattle.gixobj_walks.specs.Named.{AreOfEither, Names}
use Rattle.gixobj_walks.proofs.NamedLists.{extends_further, names_extend, zip_take_more}
use Rattle.gixobj_walks.proofs.KnownIds.{known_one_more}
use Rattle.gixobj_walks.proofs.names.numbers_in.Goals as goal

pub loop-id-preserved : goal.loop-id-preserved
loop-id-preserved c = record {
  named = subst (λ it. AllZip (Names c.number_in.new.names) it (take (c.loop-id.id-index + 1) c.args.ids.now)) (sym c.in_ok-push.ensures.items)
      (zip_take_more (Names c.number_in.new.names) c.loop-id.numbers.items c.args.ids.now c.loop-id.id-index c.in_ok-number.number _ c.loop-id-test.true
      (names_extend c.loop-id.names c.number_in.new.names c.in_ok-number.ensures.extended _ _ c.loop-id.invariant.named) c.in_ok-number.ensures.named);
  extended = extends_further _ _ _ c.loop-id.invariant.extended c.in_ok-number.ensures.extended;
  known = known_one_more _ c.loop-id.names c.number_in.new.names c.args.ids.now c.loop-id.id-index _ c.loop-id-test.true
      c.loop-id.invariant.known c.in_ok-number.ensures.known;
}

-- all ids are taken
pub returns-clause-known : goal.returns-clause-known
returns-clause-known c = subst (λ ids. AreOfEither c.loop-id.names c.args.names.now ids)
    (take_all c.loop-id.id-index c.args.ids.now (omega (arith, c.loop-id-test.false))) c.loop-id.invariant.known
