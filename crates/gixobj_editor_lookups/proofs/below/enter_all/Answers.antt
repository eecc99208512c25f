-- Each directory of the path is open, so it is entered.
use Rattle.std.proofs.Common.{◌≡◌, ◌≢◌, ◌∙◌, ◌+◌, ◌∷◌, None, ap, drop, subst, sym, take, length, arith}
use Rattle.std.proofs.lemmas.List.{take_all}
use Rattle.bstr.specs.Owned.{bstring_bytes}
use Rattle.bstr.specs.declared.bstring.BString.{BString}
use Rattle.std.specs.Prelude.{List}
use Rattle.gixobj_editor_files.specs.Files.{Path}
use Rattle.gixobj_editor_files.specs.Opening.{Dirs}
use Rattle.gixobj_editor_open.specs.Descents.{IsDescended}
use Rattle.gixobj_editor_open.specs.Nested.{dirs_of, entries_side}
use Rattle.gixobj_editor_open.specs.Paths.{names_of}
use Rattle.gixobj_editor_open.proofs.Descents.{at_descent, is_descended_nil, is_descended_snoc, names_of_take_more}
use Rattle.gixobj_editor_lookups.proofs.OpeningDescents.{names_of_middle}
use Rattle.gixobj_editor_lookups.proofs.OpeningsBelow.{has_inner_of_open}
use Rattle.gixobj_editor_lookups.proofs.below.enter_all.Goals as goal

pub loop-name-init : goal.loop-name-init
loop-name-init c = is_descended_nil c.args.node.now c.args.above.now

pub loop-name-preserved : goal.loop-name-preserved
loop-name-preserved c =
    let inv = c.loop-name.invariant in
    let path = c.args.path.now in
    let k = c.loop-name.name-index in
    let name = bstring_bytes c.name-item.result in
    let rest = names_of (drop (k + 1) path) in
    let there : dirs_of c.loop-name.node (name ∷ rest) ≢ None = λ none. c.requires
    (ap (dirs_of c.args.node.now) (names_of_middle path k c.name-item.result c.loop-name-test.true c.name-item.is)
    ∙ ap (λ (d : Dirs). d (name ∷ rest)) (at_descent inv entries_side) ∙ none) in
    let entered = c.exchange.ensures.open ∙ has_inner_of_open name rest c.loop-name.node there in
    rw (c.swap.ensures.x_after, c.swap.ensures.y_after)
    (subst (λ (p : Path). IsDescended p c.args.node.now c.exchange.new.other c.exchange.new.self)
    (sym (names_of_take_more path k c.name-item.result c.loop-name-test.true c.name-item.is))
    (is_descended_snoc inv name c.exchange.new.self c.exchange.new.other (c.exchange.ensures.exchanged entered)))
