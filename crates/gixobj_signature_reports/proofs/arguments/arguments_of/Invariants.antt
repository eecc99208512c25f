use Rattle.std.proofs.Common.{◌≡◌, map, take}
use Rattle.bstr.specs.Owned.{bstring_bytes}
use Rattle.gixobj_signature_reports.specs.Calls.{plain, word_view}
use Rattle.gixobj_signature_reports.proofs.arguments.arguments_of.Given as goal

-- each string that was consumed has its argument
abbrev pub invariant-loop-one : goal.invariant-loop-one
invariant-loop-one l = map word_view l.words.items ≡ map plain (map bstring_bytes (take l.one-index l.encodings))
