-- A proper prefix of one part, after the parts before it, is a proper prefix of all parts.
use Rattle.std.proofs.Common.{rules}
use Rattle.std.proofs.lemmas.List.{get_or_default}
use Rattle.std.proofs.lemmas.Result.{MatchResult-from_err}
use Rattle.gixobj_streams.proofs.Concatenations.{appends_prefix_of_item}
use Rattle.gixobj_streams.proofs.streams.write_parts.Goals as goal

pub returns-in_err-write_bytes-clause-appended : goal.returns-in_err-write_bytes-clause-appended
returns-in_err-write_bytes-clause-appended g c = search (rules, MatchResult-from_err, appends_prefix_of_item, get_or_default)
