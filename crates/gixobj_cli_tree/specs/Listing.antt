-- Lists of the entries of a loose tree (git-ls-tree lists the same entries), and runs of `tree`: its input, its output
-- and its errors.
use Rattle.std.specs.Prelude.{◌≡◌, ◌≢◌, ◌⊎◌, ℕ, List, [], ◌∷◌, ◌++◌, Option, codes}
use Rattle.std.specs.List.{flat_map}
use Rattle.gixobj_hash.specs.Bytes.{newline, space}
use Rattle.gixobj_hash.specs.Decode.{HasContent, IsShort}
use Rattle.gixobj_tree_entries.specs.Entries.{EntryView}
use Rattle.gixobj_hash.specs.Hash.{encode_id_hex}
use Rattle.gixobj_tree_entries.specs.Mode.{entry_kind_name, kind_of_mode, encode_mode}
use Rattle.gixobj_hash.specs.declared.hash.kind.Kind as hash
use Rattle.gixobj_hash.specs.declared.kind.Kind.{Kind}
use Rattle.gixobj_hash.specs.declared.kind.Kind.TheVariants.{Tree}
use Rattle.gixobj_tree_entries.specs.TreeDecoding.{BeginsWithEntry, IsMalformedTree, DecodesToTree}
use Rattle.gixobj_streams.specs.Streams.{AppendsAll, FailsToAppend, SinkView}
use Rattle.gixobj_cli_show.specs.Engine.{ReadsAll, IsPrinted, HasWrittenNothing}
use Rattle.gixobj_cli_show.specs.Failure.{BeginsWithNoLooseHeader, exit_status_of, line_of}
use Rattle.gixobj_cli_show.specs.Arguments.{IsCommand, IsCommandOfHash}
use Rattle.gixobj_cli_show.specs.declared.failure.Failure.{Failure}
use Rattle.gixobj_cli_show.specs.declared.failure.Failure.TheVariants.{BadHeader, BadTree, InputFailed, NotATree}
use Rattle.gixobj_cli_show.specs.declared.failure.Failure.TheVariants.{OutOfMemory, OutputFailed, ShortData}

-- the arguments request the list of a tree
abbrev pub IsListCommand : List (List ℕ) → Type 0
IsListCommand arguments = IsCommand arguments (codes "tree")

-- the line of an entry: its mode, the name of its kind, its id in hex and its unchanged name, separated by spaces
abbrev pub entry_line : EntryView → List ℕ
entry_line e =
    encode_mode e.mode ++ space ∷ entry_kind_name (kind_of_mode e.mode) ++ space ∷ encode_id_hex e.id ++ space ∷ e.name
    ++ newline ∷ []

-- the lines of the entries, in order
abbrev pub listing_of : List EntryView → List ℕ
listing_of entries = flat_map entry_line entries

-- the input begins with a loose tree whose ids have this hash kind, and the bytes list its entries
abbrev pub IsListed : hash.Kind → List ℕ → List ℕ → Type 0
IsListed hash input bytes =
    (content : List ℕ) × (entries : List EntryView)
    × HasContent input Tree content × DecodesToTree hash content entries × (bytes ≡ listing_of entries)

-- the input begins with a loose object of another kind than a tree
pub record IsOfAnotherKind (input : List ℕ) : Type 0 where
  pub kind : Kind
  pub content : List ℕ
  pub object : HasContent input kind content
  pub other : kind ≢ Tree

-- the input begins with a loose tree whose content is not the encoding of a tree with ids of this hash kind
abbrev pub IsBadTree : hash.Kind → List ℕ → Type 0
IsBadTree hash input = (content : List ℕ) × HasContent input Tree content × IsMalformedTree hash content

-- the input begins with a loose tree whose content begins with an entry
abbrev pub HasFirstEntry : hash.Kind → List ℕ → Type 0
HasFirstEntry hash input =
    (content : List ℕ) × (e : EntryView) × (rest : List ℕ) × HasContent input Tree content
    × BeginsWithEntry hash content e rest

-- the error of a loose tree before its content decodes. Out of memory occurs only for the copy in the error of a header
abbrev pub IsListedTreeError : List ℕ → Failure → Type 0
IsListedTreeError input BadHeader = BeginsWithNoLooseHeader input
IsListedTreeError input OutOfMemory = BeginsWithNoLooseHeader input
IsListedTreeError input ShortData = IsShort input
IsListedTreeError input NotATree = IsOfAnotherKind input
IsListedTreeError input _ = ⊥

-- the error of a list. Out of memory occurs only for the copy in the error of a header, or for content that begins with
-- an entry
abbrev pub IsListingError : hash.Kind → List ℕ → Failure → Type 0
IsListingError hash input BadHeader = BeginsWithNoLooseHeader input
IsListingError hash input ShortData = IsShort input
IsListingError hash input NotATree = IsOfAnotherKind input
IsListingError hash input BadTree = IsBadTree hash input
IsListingError hash input OutOfMemory = BeginsWithNoLooseHeader input ⊎ HasFirstEntry hash input
IsListingError hash input _ = ⊥

-- the arguments request a list, the entire input was read, and the bytes list the tree at its start
abbrev pub IsListOfInput : List (List ℕ) → Option (List ℕ) → Option (List ℕ) → List ℕ → Type 0
IsListOfInput arguments rest rest' bytes =
    (hash : hash.Kind) × (input : List ℕ) × IsCommandOfHash arguments (codes "tree") hash × ReadsAll rest rest' input
    × IsListed hash input bytes

-- the list was written
abbrev pub Listed : List (List ℕ) → Option (List ℕ) → Option (List ℕ) → SinkView → SinkView → Type 0
Listed arguments rest rest' out out' = (bytes : List ℕ) × IsListOfInput arguments rest rest' bytes
    × AppendsAll out out' bytes

-- the error of a run; at a failed output a proper prefix of the list was written; out of memory is that of any run
abbrev pub IsListError : List (List ℕ) → Option (List ℕ) → Option (List ℕ) → Type 0 → SinkView → SinkView → Failure
    → Type 0
IsListError arguments rest rest' may_fail out out' InputFailed = IsListCommand arguments × may_fail
IsListError arguments rest rest' may_fail out out' OutputFailed =
    (bytes : List ℕ) × IsListOfInput arguments rest rest' bytes
    × FailsToAppend out out' bytes
IsListError arguments rest rest' may_fail out out' OutOfMemory = IsListCommand arguments
IsListError arguments rest rest' may_fail out out' BadHeader = IsListCommand arguments × (input : List ℕ)
    × ReadsAll rest rest' input × BeginsWithNoLooseHeader input
IsListError arguments rest rest' may_fail out out' ShortData = IsListCommand arguments × (input : List ℕ)
    × ReadsAll rest rest' input × IsShort input
IsListError arguments rest rest' may_fail out out' NotATree = IsListCommand arguments × (input : List ℕ)
    × ReadsAll rest rest' input × IsOfAnotherKind input
IsListError arguments rest rest' may_fail out out' BadTree =
    (hash : hash.Kind) × (input : List ℕ) × IsCommandOfHash arguments (codes "tree") hash × ReadsAll rest rest' input
    × IsBadTree hash input
IsListError arguments rest rest' may_fail out out' _ = ⊥

-- the run failed: the status and the line on standard error report the error, and nothing was written to standard
-- output, unless it failed
abbrev pub IsUnlisted : List (List ℕ) → Option (List ℕ) → Option (List ℕ) → Type 0 → SinkView → SinkView → SinkView
    → SinkView → Type 0 → ℕ → Type 0
IsUnlisted arguments rest rest' may_fail out out' errors errors' same_output status =
    (cause : Failure) × (status ≡ exit_status_of cause) × IsListError arguments rest rest' may_fail out out' cause
    × IsPrinted errors errors' (line_of cause) × HasWrittenNothing same_output cause
