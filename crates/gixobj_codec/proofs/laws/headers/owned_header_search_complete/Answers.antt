use Rattle.gixobj_codec.proofs.HeadersFound.{all_values, first_position, first_value}
use Rattle.gixobj_grammar.specs.RemainingHeaders.{remaining_owned_headers}
use Rattle.gixobj_codec.proofs.laws.headers.owned_header_search_complete.Goals as goal

pub returns-clause-value : goal.returns-clause-value
returns-clause-value c = first_value remaining_owned_headers

pub returns-clause-position : goal.returns-clause-position
returns-clause-position c = first_position remaining_owned_headers

pub returns-clause-values : goal.returns-clause-values
returns-clause-values c = all_values remaining_owned_headers
