use Rattle.std.proofs.Common.{rules}
use Rattle.gixobj_streams.proofs.Appends.{appends_all_or_fails}
use Rattle.gixobj_cli_show.proofs.engine.report_to.Goals as goal

pub returns-clause-reported : goal.returns-clause-reported
returns-clause-reported g c = search (rules, appends_all_or_fails)
