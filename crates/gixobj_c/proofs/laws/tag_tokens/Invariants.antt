-- The tokens are those that the calls up to the cursor found. After each fewer bytes follow, or no tagger may come.
use Rattle.std.proofs.Common.{◌+◌, ◌-◌, length}
use Rattle.gixobj_c.proofs.CursorRuns.{HasTagTokens, tagger_weight}
use Rattle.gixobj_c.specs.Tags.{tag_state_of_code}
use Rattle.gixobj_c_codes.specs.Codes.{hash_of_code as hash_of}
use Rattle.gixobj_c.proofs.laws.tag_tokens.Given as goal

abbrev pub invariant-calls : goal.invariant-calls
invariant-calls l = HasTagTokens (hash_of l.fn.hash) l.fn.tag l.cursor l.tokens.items

abbrev pub decreases-calls : goal.decreases-calls
decreases-calls l = (length l.fn.tag - l.cursor.offset) + (length l.fn.tag - l.cursor.offset) + tagger_weight (tag_state_of_code l.cursor.state)
