-- The numbers of hash functions and of kinds of objects (gitformat-pack, "Object types"), and the statuses of calls.
use Rattle.std.specs.Prelude.{◌==◌, ℕ, Option, Some, None, if◌then◌else◌}
use Rattle.gixobj_hash.specs.declared.hash.kind.Kind as hash
use Rattle.gixobj_hash.specs.declared.hash.kind.Kind.TheVariants.{Sha1, Sha256}
use Rattle.gixobj_hash.specs.declared.kind.Kind.{Kind}
use Rattle.gixobj_hash.specs.declared.kind.Kind.TheVariants as kind

-- the hash function of this number
abbrev pub hash_of_code : ℕ → Option hash.Kind
hash_of_code code = if code == 1 then Some Sha1 else if code == 2 then Some Sha256 else None

-- the kind of objects of this number
abbrev pub kind_of_code : ℕ → Option Kind
kind_of_code code = if code == 1 then Some kind.Commit else if code == 2 then Some kind.Tree else if code == 3 then Some
    kind.Blob else if code == 4 then Some kind.Tag else None

-- the number of a kind
abbrev pub kind_code : Kind → ℕ
kind_code kind.Commit = 1
kind_code kind.Tree = 2
kind_code kind.Blob = 3
kind_code kind.Tag = 4

-- ---- statuses

-- the call succeeded
abbrev pub done : ℕ
done = 0

-- no byte follows the offset
abbrev pub at_end : ℕ
at_end = 1

-- the bytes do not decode
abbrev pub malformed : ℕ
malformed = 2

-- an allocation failed
abbrev pub out_of_memory : ℕ
out_of_memory = 3

-- a number is unknown
abbrev pub unknown_code : ℕ
unknown_code = 4

-- a buffer is too short
abbrev pub buffer_too_short : ℕ
buffer_too_short = 5

-- the offset is after the end
abbrev pub bad_offset : ℕ
bad_offset = 6

-- a loose header has an unknown kind
abbrev pub unknown_kind : ℕ
unknown_kind = 7

-- a loose header has an invalid size
abbrev pub invalid_size : ℕ
invalid_size = 8

-- there is none
abbrev pub not_found : ℕ
not_found = 9

-- a value of the decoded object can't be encoded
abbrev pub not_encodable : ℕ
not_encodable = 10

-- the id is another one
abbrev pub mismatch : ℕ
mismatch = 11

-- a line of a script is neither empty nor a command
abbrev pub bad_line : ℕ
bad_line = 12

-- a name of a path is invalid
abbrev pub invalid_name : ℕ
invalid_name = 14

-- the path of a leaf is that of a directory
abbrev pub is_directory : ℕ
is_directory = 15

-- a tree does not decode, or is not well-formed
abbrev pub malformed_tree : ℕ
malformed_tree = 16
