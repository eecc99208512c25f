-- The tokens are those that the calls up to the cursor found, and fewer bytes follow after each.
use Rattle.std.proofs.Common.{◌-◌, length}
use Rattle.gixobj_c.proofs.CursorRuns.{HasTokens}
use Rattle.gixobj_c_codes.specs.Codes.{hash_of_code as hash_of}
use Rattle.gixobj_c.proofs.laws.commit_tokens.Given as goal

abbrev pub invariant-calls : goal.invariant-calls
invariant-calls l = HasTokens (hash_of l.fn.hash) l.fn.commit l.cursor l.tokens.items

abbrev pub decreases-calls : goal.decreases-calls
decreases-calls l = length l.fn.commit - l.cursor.offset
