use Rattle.std.proofs.lemmas.Option.{IfSome_then}
use Rattle.bstr.specs.Owned.{bstring_bytes}
use Rattle.gixobj_editor_entries.proofs.FlatIndices.{if_none_weaker}
use Rattle.gixobj_editor_open.proofs.Pieces.{found_of_key, is_pieced_of_ordered, none_of_key}
use Rattle.gixobj_editor_open.proofs.open.Children.position.Goals as goal

pub position_of-requires : goal.position_of-requires
position_of-requires c = rw (c.deref-first.ensures.value, c.deref-more.ensures.value)
    (is_pieced_of_ordered c.args.self.now c.requires.ordered c.requires.filled)

pub returns-clause-found : goal.returns-clause-found
returns-clause-found c = IfSome_then c.position_of.result c.position_of.ensures.found (λ at found.
    found_of_key c.args.self.now (bstring_bytes c.args.name.now) c.as_bytes.result.now c.deref-first.result.now c.deref-more.result.now
    c.deref-first.ensures.value c.deref-more.ensures.value c.as_bytes.ensures at.piece at.index found)

pub returns-clause-none : goal.returns-clause-none
returns-clause-none c = if_none_weaker c.position_of.result c.position_of.ensures.none
    (none_of_key c.args.self.now (bstring_bytes c.args.name.now) c.as_bytes.result.now c.deref-first.result.now c.deref-more.result.now
    c.deref-first.ensures.value c.deref-more.ensures.value c.as_bytes.ensures)
