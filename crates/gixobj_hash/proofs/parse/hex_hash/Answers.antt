use Rattle.std.proofs.Common.{rules}
use Rattle.gixobj_hash.proofs.HexTests.{all_pass_of_list_all, list_all_of_all_pass}
use Rattle.gixobj_hash.proofs.parse.hex_hash.Goals as goal

pub returns-then-are_hex-clause-accepts : goal.returns-then-are_hex-clause-accepts
returns-then-are_hex-clause-accepts c = search (all_pass_of_list_all, list_all_of_all_pass, rules)
