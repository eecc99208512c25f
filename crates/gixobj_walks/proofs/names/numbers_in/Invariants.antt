use Rattle.std.proofs.Common.{take}
use Rattle.std.specs.List.{AllZip}
use Rattle.gixobj_walks.specs.Named.{AreOfEither, Extends, Names}
use Rattle.gixobj_walks.proofs.names.numbers_in.Given as goal

abbrev pub invariant-loop-id : goal.invariant-loop-id
invariant-loop-id l = record {
  named : AllZip (Names l.names) l.numbers.items (take l.id-index l.ids);
  extended : Extends l.initial.names l.names;
  known : AreOfEither l.names l.initial.names (take l.id-index l.ids);
}
