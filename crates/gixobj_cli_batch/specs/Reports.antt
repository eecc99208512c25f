-- What the commands print, and the error after the lines.
use Rattle.std.specs.Prelude.{◌≡◌, ◌⊎◌, ◌-◌, ◌^◌, ℕ, IsFalse, List, [], Option, None, Some, ⊤}
use Rattle.std.specs.List.{flat_map}
use Rattle.gix_object.specs.Existing.{IsFindObjectError}
use Rattle.gix_object.specs.Files.{is_null}
use Rattle.gix_object.specs.Stores.{Objects}
use Rattle.gix_object.specs.hash.hash.object_id.ObjectId.{ObjectId}
use Rattle.gix_object.specs.hash.kind.Kind.TheVariants.{Commit}
use Rattle.gixobj_cli_batch.specs.CheckLines.{PrintsCheck}
use Rattle.gixobj_cli_batch.specs.Lines.{change_line, file_line, log_line}
use Rattle.gixobj_cli_batch.specs.Objects.{never_fails, objects_of}
use Rattle.gixobj_cli_batch.specs.Trees.{IsTreeOf, NamesCommitObject}
use Rattle.gixobj_cli_batch.specs.Walks.{IsMergeBaseError, IsRevListError, PrintsMergeBases, PrintsRevList}
use Rattle.gixobj_cli_batch.specs.declared.arguments.Command.{Command}
use Rattle.gixobj_cli_batch.specs.declared.arguments.Command.TheVariants as command
use Rattle.gixobj_cli_batch.specs.declared.fault.Fault.{Fault}
use Rattle.gixobj_cli_batch.specs.declared.fault.Fault.TheVariants as program
use Rattle.gixobj_listings.specs.Changes.{AreChangesInOrder, ChangeView}
use Rattle.gixobj_listings.specs.Differences.{HasChanges, IsChangesError}
use Rattle.gixobj_listings.specs.FileLists.{AreInOrder, FileView}
use Rattle.gixobj_listings.specs.Histories.{IsLog, LoggedView}
use Rattle.gixobj_listings.specs.Listings.{AreAllRead, HasFilesOf, IsListError}
use Rattle.gixobj_listings.specs.declared.history.LogEnd.{LogEnd}
use Rattle.gixobj_listings.specs.declared.history.LogEnd.TheVariants as end
use Rattle.gixobj_records.specs.Records.{DecodesToRecords, IsBatchError, RecordView}
use Rattle.gixobj_records.specs.declared.records.BatchError.{BatchError}

-- the error after a log that ends so; none at a root commit
abbrev pub IsFaultOfEnd : LogEnd → Option Fault → Type 0
IsFaultOfEnd end.Root fault = fault ≡ None
IsFaultOfEnd (end.Unread id cause) fault = fault ≡ Some (program.Commit id cause)
IsFaultOfEnd (end.TooLong id) fault = fault ≡ Some (program.TooLong id)

-- the lines of a log: one for each commit; and the error after them
pub record PrintsLog (objects : Objects) (tip : ObjectId) (lines : List ℕ) (fault : Option Fault) : Type 0 where
  pub commits : List LoggedView
  pub last : LogEnd
  pub log : IsLog objects never_fails (2 ^ 32 - 1) tip commits last
  pub printed : lines ≡ flat_map log_line commits
  pub ended : IsFaultOfEnd last fault

-- the lines of the files of a commit or a tree: one for each
pub record PrintsFiles (objects : Objects) (id : ObjectId) (lines : List ℕ) (fault : Option Fault) : Type 0 where
  pub root : ObjectId
  pub files : List FileView
  pub tree : IsTreeOf objects id root
  pub listed : IsFalse (is_null root) → HasFilesOf objects 1024 root files
  pub ordered : AreInOrder files
  pub read : AreAllRead objects root
  pub printed : lines ≡ flat_map file_line files
  pub no_fault : fault ≡ None

-- the lines of the changes from a commit or a tree to another: one for each
pub record PrintsChanges (objects : Objects) (from to : ObjectId) (lines : List ℕ) (fault : Option Fault) : Type 0 where
  pub before : ObjectId
  pub after : ObjectId
  pub changes : List ChangeView
  pub tree_before : IsTreeOf objects from before
  pub tree_after : IsTreeOf objects to after
  pub same : before ≡ after → changes ≡ []
  pub listed : IsFalse (is_null before) → IsFalse (is_null after) → HasChanges objects 1024 before after changes
  pub ordered : AreChangesInOrder changes
  pub printed : lines ≡ flat_map change_line changes
  pub no_fault : fault ≡ None

-- the lines of a command on these records, and the error after them
abbrev pub Prints : Command → List RecordView → List ℕ → Option Fault → Type 0
Prints (command.Log id) records lines fault = PrintsLog (objects_of records) id lines fault
Prints (command.List id) records lines fault = PrintsFiles (objects_of records) id lines fault
Prints (command.Diff from to) records lines fault = PrintsChanges (objects_of records) from to lines fault
Prints (command.MergeBase one other) records lines fault = PrintsMergeBases (objects_of records) one other lines fault
Prints (command.RevList order tip hidden) records lines fault =
    PrintsRevList (objects_of records) order tip hidden lines fault
Prints (command.Check strict) records lines fault = PrintsCheck strict records lines fault

-- the input is the concatenation of records, and these are the lines of a command on them, and the error after them
pub record Reports (named : Command) (input lines : List ℕ) (fault : Option Fault) : Type 0 where
  pub records : List RecordView
  pub decoded : DecodesToRecords input records
  pub printed : Prints named records lines fault

-- ---- errors without lines

-- the id names a commit that isn't read, for the cause of the error
abbrev pub IsUnreadCommit : Objects → ObjectId → Fault → Type 0
IsUnreadCommit objects id (program.Commit at cause) = (at ≡ id) × NamesCommitObject objects id
    × IsFindObjectError objects never_fails Commit id cause
IsUnreadCommit objects id other = ⊥

-- the files of a commit or a tree aren't listed: its commit isn't read, or a directory; or out of memory
abbrev pub IsFilesError : Objects → ObjectId → Fault → Type 0
IsFilesError objects id (program.Commit at cause) = IsUnreadCommit objects id (program.Commit at cause)
IsFilesError objects id (program.Tree cause) = (root : ObjectId) × IsTreeOf objects id root
    × IsListError objects never_fails 1024 root cause
IsFilesError objects id program.OutOfMemory = ⊤
IsFilesError objects id other = ⊥

-- the changes aren't listed: one of the commits isn't read, or a directory of their trees; or out of memory
abbrev pub IsDiffError : Objects → ObjectId → ObjectId → Fault → Type 0
IsDiffError objects from to (program.Commit at cause) = IsUnreadCommit objects from (program.Commit at cause)
    ⊎ (((before : ObjectId) × IsTreeOf objects from before) × IsUnreadCommit objects to (program.Commit at cause))
IsDiffError objects from to (program.Tree cause) = (before after : ObjectId) × IsTreeOf objects from before
    × IsTreeOf objects to after × IsChangesError objects never_fails 1024 before after cause
IsDiffError objects from to program.OutOfMemory = ⊤
IsDiffError objects from to other = ⊥

-- the error of a command on these records, without lines
abbrev pub IsCommandError : Command → List RecordView → Fault → Type 0
IsCommandError (command.Log id) records fault = fault ≡ program.OutOfMemory
IsCommandError (command.List id) records fault = IsFilesError (objects_of records) id fault
IsCommandError (command.Diff from to) records fault = IsDiffError (objects_of records) from to fault
IsCommandError (command.MergeBase one other) records fault = IsMergeBaseError (objects_of records) one other fault
IsCommandError (command.RevList order tip hidden) records fault = IsRevListError (objects_of records) tip hidden fault
IsCommandError (command.Check strict) records fault = fault ≡ program.OutOfMemory

-- the error of a command on this input, without lines: the input isn't a sequence of records; or that on its records
abbrev pub IsReportError : Command → List ℕ → Fault → Type 0
IsReportError named input fault = ((cause : BatchError) × (fault ≡ program.Batch cause) × IsBatchError input cause)
    ⊎ ((records : List RecordView) × DecodesToRecords input records × IsCommandError named records fault)
