use Rattle.std.proofs.Common.{rules, ◌≡◌, ◌≢◌}
use Rattle.std.proofs.lemmas.Result.{err_from_is_err_and}
use Rattle.gixobj_commit.specs.CommitViews.{commit_lines}
use Rattle.gixobj_grammar.proofs.OneLine.{line_len_lt}
use Rattle.gixobj_parse.proofs.HeaderFields.{is_id_hex_of_decoded}
use Rattle.gixobj_grammar.proofs.EntireCommits.{parents_are_id_hex, gathers_snoc, reaches_second_parent_or_header, decode_error_of_line_error}
use Rattle.gixobj_grammar.proofs.EntireCommits.{decodes_commit_of_gathered}
use Rattle.gixobj_grammar.specs.Lines.{line_view}
use Rattle.gixobj_grammar.specs.declared.lines.State.TheVariants as state
use Rattle.gixobj_commit.proofs.commit.CommitRef.from_bytes.Goals as goal

pub returns-in_err-line-clause-error : goal.returns-in_err-line-clause-error
returns-in_err-line-clause-error c =
    let from = err_from_is_err_and c.from_residual.result c.from_residual.ensures.1 in
    let going : c.loop-state.state ≢ state.End = search rules in
    rw from.1 (decode_error_of_line_error c.args.hash_kind c.args.bytes.now c.loop-state.state c.loop-state.rest.now
    (commit_lines c.loop-state.commit) from.0 c.in_err-line.field-0.0 from.2 c.loop-state.invariant.0 going c.in_err-line.ensures.error)

pub returns-in_err-add_line-clause-error : goal.returns-in_err-add_line-clause-error
returns-in_err-add_line-clause-error c =
    let from = err_from_is_err_and c.from_residual-in_err-add_line.result c.from_residual-in_err-add_line.ensures.1 in
    rw (from.1, from.2, c.in_err-add_line.ensures.error.0)
    (reaches_second_parent_or_header c.args.hash_kind c.args.bytes.now (commit_lines c.loop-state.commit) c.loop-state.state c.in_ok-line.following
    c.loop-state.rest.now
    c.in_ok-line.after.now (line_view c.in_ok-line.line)
    c.loop-state.invariant.0 c.in_ok-line.ensures.found c.in_err-add_line.ensures.error.1)

pub loop-state-smaller : goal.loop-state-smaller
loop-state-smaller c = line_len_lt c.args.hash_kind c.loop-state.state c.loop-state.rest.now (line_view c.in_ok-line.line) c.in_ok-line.following
    c.in_ok-line.after.now c.in_ok-line.ensures.found

pub loop-state-preserved : goal.loop-state-preserved
loop-state-preserved c = (
  gathers_snoc c.args.hash_kind c.args.bytes.now (commit_lines c.loop-state.commit) (commit_lines c.add_line.new.self) c.loop-state.state c.in_ok-line.following
      c.loop-state.rest.now c.in_ok-line.after.now (line_view c.in_ok-line.line)
      c.loop-state.invariant.0 c.in_ok-line.ensures.found c.in_ok-add_line.ensures.appended,
  c.in_ok-add_line.ensures.has_capacity,
  c.in_ok-add_line.ensures.borrowed c.loop-state.invariant.2 c.in_ok-line.ensures.parts,
)

pub returns-clause-found : goal.returns-clause-found
returns-clause-found c =
    let at_end : c.loop-state.state ≡ state.End = search rules in
    decodes_commit_of_gathered c.args.hash_kind c.args.bytes.now c.loop-state.state c.loop-state.rest.now
    (commit_lines c.loop-state.commit) c.loop-state.invariant.0 at_end

pub returns-clause-has_ids : goal.returns-clause-has_ids
returns-clause-has_ids c =
    let at_end : c.loop-state.state ≡ state.End = search rules in
    let is = decodes_commit_of_gathered c.args.hash_kind c.args.bytes.now c.loop-state.state c.loop-state.rest.now
    (commit_lines c.loop-state.commit) c.loop-state.invariant.0 at_end in
    record { tree = is_id_hex_of_decoded c.args.hash_kind _ is.tree; parents = parents_are_id_hex c.args.hash_kind _ is.parents }
