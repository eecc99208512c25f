use Rattle.gixobj_codec.proofs.HeadersFound.{all_values, first_position, first_value}
use Rattle.gixobj_grammar.specs.RemainingHeaders.{remaining_headers}
use Rattle.gixobj_codec.proofs.laws.headers.borrowed_header_search_complete.Goals as goal

pub returns-clause-value : goal.returns-clause-value
returns-clause-value c = first_value remaining_headers

pub returns-clause-position : goal.returns-clause-position
returns-clause-position c = first_position remaining_headers

pub returns-clause-values : goal.returns-clause-values
returns-clause-values c = all_values remaining_headers
