use Rattle.gixobj_codec.proofs.ReaderRuns.{are_blocks_from_run, remaining_filtered_of_run, remaining_trailers_of_run}
use Rattle.gixobj_codec.proofs.messages.readers_yield_all.Goals as goal

pub returns-clause-blocks : goal.returns-clause-blocks
returns-clause-blocks c = are_blocks_from_run

pub returns-clause-trailers : goal.returns-clause-trailers
returns-clause-trailers c = remaining_trailers_of_run

pub returns-clause-filtered : goal.returns-clause-filtered
returns-clause-filtered c = remaining_filtered_of_run
