-- The lines that the program prints.
use Rattle.std.specs.Prelude.{ℕ, List, [], ◌∷◌, ◌++◌, Option, Some, None, codes}
use Rattle.gix_object.specs.Bytes.{greater_than, newline, slash, space, tab}
use Rattle.gix_object.specs.Files.{Path}
use Rattle.gix_object.specs.Hash.{encode_id_hex, id_kind, null_id}
use Rattle.gix_object.specs.Mode.{encode_mode, kind_of_mode, mode_bits, mode_of_kind}
use Rattle.gix_object.specs.entries.entry_kind.EntryKind.{EntryKind}
use Rattle.gix_object.specs.entries.entry_kind.EntryKind.TheVariants as entry
use Rattle.gix_object.specs.hash.hash.object_id.ObjectId.{ObjectId}
use Rattle.gixobj_listings.specs.Changes.{ChangeView, VersionView}
use Rattle.gixobj_listings.specs.FileLists.{FileView}
use Rattle.gixobj_listings.specs.Histories.{LoggedView}
use Rattle.gixobj_listings.specs.declared.differences.Version.{Version}

-- a name, and an email in angle brackets
abbrev pub author_bytes : List ℕ → List ℕ → List ℕ
author_bytes name email = name ++ codes " <" ++ email ++ greater_than ∷ []

-- a colon
abbrev pub colon : ℕ
colon = 58

-- the line of a commit: id, author and title
abbrev pub log_line : LoggedView → List ℕ
log_line commit = encode_id_hex commit.id ++ space ∷ author_bytes commit.author commit.email ++ space ∷ commit.title
    ++ newline ∷ []

-- the line of a commit of a walk: its id
abbrev pub commit_line : ObjectId → List ℕ
commit_line id = encode_id_hex id ++ newline ∷ []

-- ---- files

-- the mode of the kind of a mode, in octal
abbrev pub printed_mode : ℕ → List ℕ
printed_mode mode = encode_mode (mode_of_kind (kind_of_mode mode))

-- the kind of the object that an entry of this kind names
abbrev pub printed_kind : EntryKind → List ℕ
printed_kind entry.Tree = codes "tree"
printed_kind entry.Commit = codes "commit"
printed_kind other = codes "blob"

-- the names after the first, with a slash before each
abbrev pub more_path_bytes : Path → List ℕ
more_path_bytes [] = []
more_path_bytes (name ∷ path) = slash ∷ name ++ more_path_bytes path

-- the names with slashes between them
abbrev pub path_bytes : Path → List ℕ
path_bytes [] = []
path_bytes (name ∷ path) = name ++ more_path_bytes path

-- the line of a file: mode, kind, id and path
abbrev pub file_line : FileView → List ℕ
file_line file = printed_mode file.mode ++ space ∷ printed_kind (kind_of_mode file.mode) ++ space
    ∷ encode_id_hex file.id ++ tab ∷ path_bytes file.path ++ newline ∷ []

-- ---- changes

-- the bits of the mode of a file, and its id
abbrev pub version_view : Version → VersionView
version_view version = (mode_bits version.mode, version.id)

-- the mode of a file, or zeros for none
abbrev pub mode_field : Option VersionView → List ℕ
mode_field None = codes "000000"
mode_field (Some version) = printed_mode version.0

-- the id of a file, or the null id for none, of the hash function of the other file
abbrev pub id_field_next_to : Option VersionView → Option VersionView → List ℕ
id_field_next_to (Some version) other = encode_id_hex version.1
id_field_next_to None (Some other) = encode_id_hex (null_id (id_kind other.1))
id_field_next_to None None = []

-- the kind of a file, without its permissions
abbrev pub type_of_kind : EntryKind → EntryKind
type_of_kind entry.BlobExecutable = entry.Blob
type_of_kind kind = kind

-- the type of a file of this mode
abbrev pub type_of_mode : ℕ → EntryKind
type_of_mode mode = type_of_kind (kind_of_mode mode)

-- the letter of a change between files of these types
abbrev pub letter_of_types : EntryKind → EntryKind → List ℕ
letter_of_types entry.Blob entry.Blob = codes "M"
letter_of_types entry.Link entry.Link = codes "M"
letter_of_types entry.Commit entry.Commit = codes "M"
letter_of_types entry.Tree entry.Tree = codes "M"
letter_of_types old new = codes "T"

-- the letter of a change: added, deleted, of another type, or modified
abbrev pub change_letter : Option VersionView → Option VersionView → List ℕ
change_letter None after = codes "A"
change_letter (Some old) None = codes "D"
change_letter (Some old) (Some new) = letter_of_types (type_of_mode old.0) (type_of_mode new.0)

-- a colon and both modes, with a space after each
abbrev pub mode_fields : Option VersionView → Option VersionView → List ℕ
mode_fields before after = colon ∷ mode_field before ++ space ∷ mode_field after ++ space ∷ []

-- both ids, with a space after each
abbrev pub id_fields : Option VersionView → Option VersionView → List ℕ
id_fields before after = id_field_next_to before after ++ space ∷ id_field_next_to after before ++ space ∷ []

-- the line of a change: the modes and the ids before and after, the letter and the path
abbrev pub change_line : ChangeView → List ℕ
change_line change = mode_fields change.before change.after ++ id_fields change.before change.after
    ++ change_letter change.before change.after ++ tab ∷ path_bytes change.path ++ newline ∷ []
