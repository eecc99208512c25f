use Rattle.gixobj_codec.proofs.ReceivedCommits.{signature_found, signs_commit}
use Rattle.gixobj_codec.proofs.received.received_commits_are_signed.Goals as goal

pub returns-clause-found : goal.returns-clause-found
returns-clause-found c kind content commit signature is first = signature_found kind content commit is signature first

pub returns-clause-signed : goal.returns-clause-signed
returns-clause-signed c kind content commit signature signed is has = signs_commit kind content commit is signature signed has
