use Rattle.std.proofs.Common.{◌≡◌, Ok, ap, ◌∙◌}
use Rattle.std.proofs.lemmas.Iterator.Consumers.{map_from_collect}
use Rattle.std.specs.declared.alloc.AllocError.{AllocError}
use Rattle.gix_object.specs.CommitViews.{commit_lines}
use Rattle.gix_object.specs.ExtraHeaders.{searched, searched_name, values_named}
use Rattle.gix_object.specs.RemainingHeaders.{remaining_headers}
use Rattle.gixobj_examples_objects.proofs.auditor.values_of.Goals as goal

pub returns : goal.returns
returns c =
    let found = c.find_all.result in
    let same : values_named (searched_name found) (remaining_headers (searched found)) ≡ values_named c.args.name.now
    (commit_lines c.args.commit.now).extra_headers =
    ap (λ name. values_named name (remaining_headers (searched found))) c.find_all.ensures.name ∙ ap (values_named c.args.name.now)
    (ap remaining_headers c.find_all.ensures.headers ∙ c.extra_headers.ensures.headers) in
    map_from_collect {E = AllocError} (Ok c.in_ok-values.values) c.in_ok-values.ensures.ran (c.borrowed_header_search_complete.ensures.values found) ∙ same
