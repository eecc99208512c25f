-- The modes of tree entries: their encoding, type bits and kinds (git-fast-import, "filemodify"; gitdatamodel,
-- "trees").
use Rattle.std.specs.Prelude.{◌≡◌, ◌≢◌, ◌≤◌, ◌⊎◌, ◌/◌, ◌%◌, ◌==◌, ◌&&◌, ℕ, Bool, List, [], ◌∷◌, ◌++◌, codes, bit_and}
use Rattle.std.specs.Prelude.{if◌then◌else◌, length, slice_index, ◌<◌, ◌^◌}
use Rattle.std.specs.Str.Parse.{AllDigits, digits_value}
use Rattle.gixobj_tree_entries.specs.declared.entry_mode.EntryMode.{EntryMode}
use Rattle.gixobj_tree_entries.specs.declared.entry_kind.EntryKind.{EntryKind}
use Rattle.gixobj_tree_entries.specs.declared.entry_kind.EntryKind.TheVariants.{Tree, Blob, BlobExecutable, Link}
use Rattle.gixobj_tree_entries.specs.declared.entry_kind.EntryKind.TheVariants.{Commit}
use Rattle.gixobj_hash.specs.Bytes.{digit, space}

-- the internal number of a mode
abbrev pub mode_bits : EntryMode → ℕ
mode_bits mode = mode.internal

-- the type bits of a mode
abbrev pub type_bits : ℕ → ℕ
type_bits mode = bit_and mode 0o170000

-- the type bits of a tree
abbrev pub tree_type : ℕ
tree_type = 0o040000

-- the type bits of a file
abbrev pub blob_type : ℕ
blob_type = 0o100000

-- the type bits of a symbolic link
abbrev pub link_type : ℕ
link_type = 0o120000

-- the type bits of a submodule's commit
abbrev pub commit_type : ℕ
commit_type = 0o160000

-- the internal type bits of a tree whose mode has a first 0, as in `040000`
abbrev pub old_tree_type : ℕ
old_tree_type = 0o140000

-- the value of a mode: 0o040000 for the internal type bits of a tree with a first 0, and else the mode
abbrev pub mode_value : ℕ → ℕ
mode_value mode = if type_bits mode == old_tree_type then tree_type else mode

-- the type bits of a mode's value
abbrev pub mode_type : ℕ → ℕ
mode_type mode = type_bits (mode_value mode)

-- the mode is that of a tree
abbrev pub is_tree_mode : ℕ → Bool
is_tree_mode mode = mode_type mode == tree_type

-- the mode is that of a file
abbrev pub is_blob_mode : ℕ → Bool
is_blob_mode mode = mode_type mode == blob_type

-- the mode is that of a symbolic link
abbrev pub is_link_mode : ℕ → Bool
is_link_mode mode = mode_type mode == link_type

-- the mode is that of a submodule's commit
abbrev pub is_commit_mode : ℕ → Bool
is_commit_mode mode = mode_type mode == commit_type

-- the owner may execute the file
abbrev pub is_owner_executable : ℕ → Bool
is_owner_executable mode = bit_and (mode_value mode) 0o100 == 0o100

-- the kind of a mode, by its type bits; unknown type bits are of the kind of commits
abbrev pub kind_of_mode : ℕ → EntryKind
kind_of_mode mode =
    if is_blob_mode mode then (if is_owner_executable mode then BlobExecutable else Blob)
    else if is_link_mode mode then Link
    else if is_tree_mode mode then Tree
    else Commit

-- the mode of a kind
abbrev pub mode_of_kind : EntryKind → ℕ
mode_of_kind Tree = 0o040000
mode_of_kind Blob = 0o100644
mode_of_kind BlobExecutable = 0o100755
mode_of_kind Link = 0o120000
mode_of_kind Commit = 0o160000

-- the name of a kind
abbrev pub entry_kind_name : EntryKind → List ℕ
entry_kind_name Tree = codes "tree"
entry_kind_name Blob = codes "blob"
entry_kind_name BlobExecutable = codes "exe"
entry_kind_name Link = codes "link"
entry_kind_name Commit = codes "commit"

-- a number that `try_from` accepts: at most 16 bits, and either 0o040000 or with the bit 0o100000
abbrev pub IsModeNumber : ℕ → Type 0
IsModeNumber number = (number < 2 ^ 16) × ((number ≡ tree_type) ⊎ (bit_and number 0o100000 ≡ 0o100000))

-- the first of six octal digits
abbrev pub first_digit : ℕ → ℕ
first_digit mode = mode / 0o100000 % 8

-- the second of six octal digits
abbrev pub second_digit : ℕ → ℕ
second_digit mode = mode / 0o10000 % 8

-- the octal digits after the first, in ASCII
abbrev pub last_digits : ℕ → List ℕ
last_digits mode = digit (second_digit mode) ∷ digit (mode / 0o1000 % 8) ∷ digit (mode / 0o100 % 8) ∷ digit
    (mode / 0o10 % 8) ∷ digit (mode % 8) ∷ []

-- the six octal digits of a number of 16 bits, in ASCII
abbrev pub octal_digits : ℕ → List ℕ
octal_digits mode = digit (first_digit mode) ∷ last_digits mode

-- the encoding of a mode: `0` for 0, and else six octal digits. If the second digit is 4, a first 1 is encoded as 0,
-- and a first 0 is left out
abbrev pub encode_mode : ℕ → List ℕ
encode_mode mode =
    if mode == 0 then codes "0"
    else if (second_digit mode == 4) && (first_digit mode == 1) then codes "0" ++ last_digits mode
    else if second_digit mode == 4 then last_digits mode
    else octal_digits mode

-- the mode of these digits: their octal number modulo 65536. For 0o040000 with a first 0 it is the internal mode
-- 0o140000
abbrev pub mode_of_digits : List ℕ → ℕ
mode_of_digits digits =
    let number = digits_value 8 digits % 2 ^ 16 in
    if (number == tree_type) && (slice_index digits 0 == digit 0) then old_tree_type else number

-- the digits decode to this mode: they are at most seven octal digits
pub record DecodesToMode (digits : List ℕ) (mode : ℕ) : Type 0 where
  pub octal : AllDigits 8 digits
  pub short : length digits ≤ 7
  pub value : mode ≡ mode_of_digits digits

-- if byte 6 of the bytes is a space and byte 5 is not, there are six digits
abbrev pub ObeysByteSix : List ℕ → List ℕ → Type 0
ObeysByteSix bytes digits = slice_index bytes 6 ≡ space → slice_index bytes 5 ≢ space → length digits ≡ 6

-- a mode ends here: at a space, or at the end of the bytes
abbrev pub EndsMode : List ℕ → Type 0
EndsMode [] = Unit {0}
EndsMode (byte ∷ rest) = byte ≡ space

-- the bytes begin with the digits of this mode, and the rest follows; no bytes have no mode
pub record BeginsWithMode (bytes : List ℕ) (mode : ℕ) (rest : List ℕ) : Type 0 where
  pub digits : List ℕ
  pub some : bytes ≢ []
  pub joined : bytes ≡ digits ++ rest
  pub ends : EndsMode rest
  pub decodes : DecodesToMode digits mode
  pub byte_six : ObeysByteSix bytes digits

-- the bytes begin with the mode of this kind and a space, and the rest follows from the space on
pub record BeginsWithKind (bytes : List ℕ) (kind : EntryKind) (rest : List ℕ) : Type 0 where
  pub name : List ℕ
  pub spaced : rest ≡ space ∷ name
  pub joined : bytes ≡ encode_mode (mode_of_kind kind) ++ rest
