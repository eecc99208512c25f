-- The entire input was read, and its error is the error of the list.
use Rattle.std.proofs.lemmas.Result.{err_from_is_err_and}
use Rattle.gixobj_cli_tree.proofs.TreeErrors.{list_error_of_answer}
use Rattle.gixobj_cli_tree.specs.Listing.{IsListingError}
use Rattle.gixobj_cli_show.specs.Engine.{ReadsAll}
use Rattle.gixobj_cli_tree.proofs.tree.listed.Goals as goal

pub returns-in_err-listed_lines-clause-error : goal.returns-in_err-listed_lines-clause-error
returns-in_err-listed_lines-clause-error g c =
    let made = err_from_is_err_and c.from_residual-in_err-listed_lines.result c.from_residual-in_err-listed_lines.ensures.1 in
    let input = c.in_ok-bytes.bytes.items in
    let read : ReadsAll (g.S.Source.rest c.args.input.now) (g.S.Source.rest c.read_all.new.source) input =
    (c.in_ok-bytes.ensures.all, c.in_ok-bytes.ensures.end) in
    let rejected : IsListingError c.args.hash input c.in_err-listed_lines.field-0.0 = rw (← c.as_slice.ensures.value) c.in_err-listed_lines.ensures.error in
    rw (made.1, made.2) (list_error_of_answer _ _ _ _ _ _ c.in_err-listed_lines.field-0.0 c.args.hash input c.requires.command read rejected)
