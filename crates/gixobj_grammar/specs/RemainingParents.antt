-- The parents that an iterator has yet to yield.
use Rattle.std.specs.Prelude.{List, map}
use Rattle.bstr.specs.BStr.{bstr_bytes}
use Rattle.gixobj_hash.specs.declared.hash.object_id.ObjectId.{ObjectId}
use Rattle.gixobj_hash.specs.Hash.Hex.{decoded_id}
use Rattle.gixobj_grammar.specs.declared.parents.Parents.{Parents}

-- the ids of the remaining parents
abbrev pub remaining_parents : Parents → List ObjectId
remaining_parents parents = map decoded_id (map bstr_bytes parents.rest.now)
