-- Lines of a script, and the commands to which they decode.
use Rattle.std.specs.Prelude.{◌≡◌, ◌++◌, ◌∷◌, ℕ, List, [], codes}
use Rattle.gixobj_editor_commands.specs.Views.{CommandView, EditView, edits_at, one_edit, remove, remove_leaf, set_root}
use Rattle.gixobj_editor_commands.specs.Views.{upsert, write}
use Rattle.gixobj_hash.specs.Hash.Hex.{IsIdHexOfKind, decoded_id}
use Rattle.gixobj_hash.specs.declared.hash.kind.Kind as hash
use Rattle.gixobj_hash.specs.declared.hash.object_id.ObjectId.{ObjectId}
use Rattle.gixobj_editor_commands.specs.ScriptPaths.{ArePathNames}
use Rattle.gixobj_hash.specs.Bytes.{space}
use Rattle.gixobj_hash.specs.ByteStrings.{IsByteFree}
use Rattle.gixobj_tree_entries.specs.Mode.{entry_kind_name}
use Rattle.gixobj_tree_entries.specs.declared.entry_kind.EntryKind.{EntryKind}

-- a keyword, a space, and the rest
abbrev pub keyword_and : List ℕ → List ℕ → List ℕ
keyword_and token rest = token ++ space ∷ rest

-- the hex digits of the id, in either case, as many as an id of this hash kind has
abbrev pub IsHexOfId : hash.Kind → List ℕ → ObjectId → Type 0
IsHexOfId hash hex id = IsIdHexOfKind hash hex × (id ≡ decoded_id hex)

-- `KIND HEX PATH`: the name of an entry kind, the hex digits of an id, and a path, which may hold spaces
pub record IsEntryAt (hash : hash.Kind) (bytes : List ℕ) (kind : EntryKind) (id : ObjectId)
    (path : List ℕ) : Type 0 where
  pub hex : List ℕ
  pub joined : bytes ≡ keyword_and (entry_kind_name kind) (keyword_and hex path)
  pub is_hex_of_id : IsHexOfId hash hex id

-- the bytes decode to an edit: `upsert KIND HEX PATH`, `remove PATH`, `leaf PATH` or `write`
abbrev pub DecodesToEdit : hash.Kind → List ℕ → EditView → Type 0
DecodesToEdit hash bytes (upsert names kind id) =
    (entry path : List ℕ) × (bytes ≡ keyword_and (codes "upsert") entry) × IsEntryAt hash entry kind id path
    × ArePathNames path names
DecodesToEdit hash bytes (remove names) = (path : List ℕ) × (bytes ≡ keyword_and (codes "remove") path)
    × ArePathNames path names
DecodesToEdit hash bytes (remove_leaf names) = (path : List ℕ) × (bytes ≡ keyword_and (codes "leaf") path)
    × ArePathNames path names
DecodesToEdit hash bytes write = bytes ≡ codes "write"

-- `PREFIX EDIT`: a path that holds no space, and one edit from there
pub record IsEditAt (hash : hash.Kind) (bytes : List ℕ) (names : List (List ℕ)) (edits : List EditView) : Type 0 where
  pub prefix : List ℕ
  pub rest : List ℕ
  pub edit : EditView
  pub joined : bytes ≡ keyword_and prefix rest
  pub no_space : IsByteFree space prefix
  pub names_of_prefix : ArePathNames prefix names
  pub one : edits ≡ edit ∷ []
  pub is : DecodesToEdit hash rest edit

-- the bytes decode to a command: an edit, `at PREFIX EDIT`, or `root`
abbrev pub DecodesToCommand : hash.Kind → List ℕ → CommandView → Type 0
DecodesToCommand hash bytes (one_edit edit) = DecodesToEdit hash bytes edit
DecodesToCommand hash bytes (edits_at names edits) = (rest : List ℕ) × (bytes ≡ keyword_and (codes "at") rest)
    × IsEditAt hash rest names edits
DecodesToCommand hash bytes (set_root entries) = (bytes ≡ codes "root") × (entries ≡ [])

-- the bytes decode to some edit
abbrev pub HasEdit : hash.Kind → List ℕ → Type 0
HasEdit hash bytes = (edit : EditView) × DecodesToEdit hash bytes edit

-- the bytes decode to no edit
abbrev pub HasNoEdit : hash.Kind → List ℕ → Type 0
HasNoEdit hash bytes = (edit : EditView) → ¬ DecodesToEdit hash bytes edit

-- the bytes decode to some command
abbrev pub HasCommand : hash.Kind → List ℕ → Type 0
HasCommand hash bytes = (command : CommandView) × DecodesToCommand hash bytes command

-- the bytes decode to no command
abbrev pub HasNoCommand : hash.Kind → List ℕ → Type 0
HasNoCommand hash bytes = (command : CommandView) → ¬ DecodesToCommand hash bytes command
