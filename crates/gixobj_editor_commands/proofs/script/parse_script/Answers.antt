-- Each line is parsed, and an error of the current line is an error of the script.
use Rattle.std.proofs.Common.{map}
use Rattle.std.proofs.lemmas.Result.{err_from_is_err_and}
use Rattle.gixobj_editor_commands.specs.Views.{command_view}
use Rattle.gixobj_editor_commands.proofs.ScriptDecoding.{is_script_at_end, is_reached_at_last_line, script_error_of_line, is_read_to_snoc, is_reached_at_line}
use Rattle.gixobj_editor_commands.proofs.script.parse_script.Goals as goal

pub returns-in_err-write_line-clause-error : goal.returns-in_err-write_line-clause-error
returns-in_err-write_line-clause-error c =
    let made = err_from_is_err_and c.from_residual.result c.from_residual.ensures.1 in
    let is = is_reached_at_line c.args.hash c.args.bytes.now c.loop-line.rest.now c.in-Some.line.now c.in-Some.after.now
    (map command_view c.loop-line.commands.items)
    c.loop-line.number c.loop-line.invariant c.in-Some.ensures.found in
    rw (made.1, made.2) (script_error_of_line c.args.hash c.args.bytes.now c.in-Some.line.now c.loop-line.number c.in_err-write_line.field-0.0 is
    c.in_err-write_line.ensures.error)

pub loop-line-preserved : goal.loop-line-preserved
loop-line-preserved c =
    is_read_to_snoc c.args.hash c.args.bytes.now c.loop-line.rest.now c.in-Some.line.now c.in-Some.after.now (map command_view c.loop-line.commands.items)
    (map command_view c.write_line.new.commands.items) c.loop-line.number c.loop-line.invariant
    c.in-Some.ensures.found c.in_ok-write_line.ensures.appended

pub returns-in_err-write_line-2-clause-error : goal.returns-in_err-write_line-2-clause-error
returns-in_err-write_line-2-clause-error c =
    let made = err_from_is_err_and c.from_residual-in_err-write_line-2.result c.from_residual-in_err-write_line-2.ensures.1 in
    let is = is_reached_at_last_line c.args.hash c.args.bytes.now c.loop-line.rest.now (map command_view c.loop-line.commands.items) c.loop-line.number
    c.loop-line.invariant c.in_default.ensures.none in
    rw (made.1, made.2) (script_error_of_line c.args.hash c.args.bytes.now c.loop-line.rest.now c.loop-line.number c.in_err-write_line-2.field-0.0 is
    c.in_err-write_line-2.ensures.error)

pub returns-clause-found : goal.returns-clause-found
returns-clause-found c =
    is_script_at_end c.args.hash c.args.bytes.now c.loop-line.rest.now (map command_view c.loop-line.commands.items)
    (map command_view c.write_line-2.new.commands.items) c.loop-line.number c.loop-line.invariant c.in_default.ensures.none
    c.in_ok-write_line-2.ensures.appended
