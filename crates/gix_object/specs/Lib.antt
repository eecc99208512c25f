pub use Rattle.gixobj_actor.specs.Actor
pub use Rattle.gixobj_actor.specs.ActorWriting
pub use Rattle.gixobj_actor.specs.Date
pub use Rattle.gixobj_actor.specs.declared as actor
pub use Rattle.gixobj_codec.specs.LineFields
pub use Rattle.gixobj_codec.specs.OneMarker
pub use Rattle.gixobj_codec.specs.ReceivedSignatures
pub use Rattle.gixobj_codec.specs.SameSignatures
pub use Rattle.gixobj_codec.specs.SignedEncodings
pub use Rattle.gixobj_commit.specs.CommitOwned
pub use Rattle.gixobj_commit.specs.CommitSigning
pub use Rattle.gixobj_commit.specs.CommitViews
pub use Rattle.gixobj_commit.specs.CommitWriting
pub use Rattle.gixobj_commit.specs.ExtraHeaders
pub use Rattle.gixobj_commit.specs.Mergetags
pub use Rattle.gixobj_commit.specs.Rewriting
pub use Rattle.gixobj_commit.specs.declared as commit
pub use Rattle.gixobj_editor.specs.Causes
pub use Rattle.gixobj_editor.specs.Commands
pub use Rattle.gixobj_editor.specs.Cursors
pub use Rattle.gixobj_editor.specs.FailedEdits
pub use Rattle.gixobj_editor.specs.PlainRuns
pub use Rattle.gixobj_editor.specs.Removals
pub use Rattle.gixobj_editor.specs.Replies
pub use Rattle.gixobj_editor.specs.RunTables
pub use Rattle.gixobj_editor.specs.Upserts
pub use Rattle.gixobj_editor.specs.Writes
pub use Rattle.gixobj_editor.specs.declared as editor
pub use Rattle.gixobj_editor_commands.specs.declared as commands
pub use Rattle.gixobj_editor_files.specs.Bases
pub use Rattle.gixobj_editor_files.specs.BuiltTrees
pub use Rattle.gixobj_editor_files.specs.Editing
pub use Rattle.gixobj_editor_files.specs.Edits
pub use Rattle.gixobj_editor_files.specs.Emission
pub use Rattle.gixobj_editor_files.specs.Files
pub use Rattle.gixobj_editor_files.specs.History
pub use Rattle.gixobj_editor_files.specs.Opening
pub use Rattle.gixobj_editor_files.specs.OpeningStops
pub use Rattle.gixobj_editor_files.specs.PlainHistory
pub use Rattle.gixobj_editor_files.specs.State
pub use Rattle.gixobj_editor_files.specs.Tables
pub use Rattle.gixobj_editor_files.specs.Unopened
pub use Rattle.gixobj_editor_import.specs.ByDigest
pub use Rattle.gixobj_editor_import.specs.Commits
pub use Rattle.gixobj_editor_import.specs.Edited
pub use Rattle.gixobj_editor_import.specs.Imports
pub use Rattle.gixobj_editor_import.specs.StepCauses
pub use Rattle.gixobj_editor_import.specs.Steps
pub use Rattle.gixobj_editor_import.specs.declared as import
pub use Rattle.gixobj_editor_lookups.specs.LookedUp
pub use Rattle.gixobj_editor_lookups.specs.Openings
pub use Rattle.gixobj_editor_lookups.specs.declared as directories
pub use Rattle.gixobj_editor_write.specs.Calls
pub use Rattle.gixobj_editor_write.specs.WriteErrors
pub use Rattle.gixobj_editor_write.specs.declared as write
pub use Rattle.gixobj_encode.specs.FieldWriting
pub use Rattle.gixobj_encode.specs.StreamHash
pub use Rattle.gixobj_encode.specs.declared as fields
pub use Rattle.gixobj_grammar.specs.RemainingHeaders
pub use Rattle.gixobj_grammar.specs.RemainingParents
pub use Rattle.gixobj_grammar.specs.Commit
pub use Rattle.gixobj_grammar.specs.CommitHeaders
pub use Rattle.gixobj_grammar.specs.CommitSignatures
pub use Rattle.gixobj_grammar.specs.Lines
pub use Rattle.gixobj_grammar.specs.TagBodies
pub use Rattle.gixobj_grammar.specs.TagLines
pub use Rattle.gixobj_grammar.specs.TagPrefix
pub use Rattle.gixobj_grammar.specs.TagSignatures
pub use Rattle.gixobj_grammar.specs.TagTokens
pub use Rattle.gixobj_grammar.specs.declared as line
pub use Rattle.gixobj_hash.specs.ByteStrings
pub use Rattle.gixobj_hash.specs.Bytes
pub use Rattle.gixobj_hash.specs.Decode
pub use Rattle.gixobj_hash.specs.Encode
pub use Rattle.gixobj_hash.specs.FieldFormat
pub use Rattle.gixobj_hash.specs.Hash
pub use Rattle.gixobj_hash.specs.HeaderFormat
pub use Rattle.gixobj_hash.specs.Kind
pub use Rattle.gixobj_hash.specs.Optional
pub use Rattle.gixobj_hash.specs.Runs
pub use Rattle.gixobj_hash.specs.declared as hash
pub use Rattle.gixobj_object.specs.BorrowedObjects
pub use Rattle.gixobj_object.specs.LooseObjects
pub use Rattle.gixobj_object.specs.ObjectReading
pub use Rattle.gixobj_object.specs.Objects
pub use Rattle.gixobj_object.specs.Parts
pub use Rattle.gixobj_object.specs.declared as object
pub use Rattle.gixobj_parse.specs.HeaderReading
pub use Rattle.gixobj_parse.specs.Iterators as FieldReaders
pub use Rattle.gixobj_parse.specs.Markers
pub use Rattle.gixobj_parse.specs.declared as formats
pub use Rattle.gixobj_signature.specs.Plans
pub use Rattle.gixobj_signature.specs.SignedBytes
pub use Rattle.gixobj_signature.specs.Signing
pub use Rattle.gixobj_signature.specs.Verifiers
pub use Rattle.gixobj_signature.specs.Verifying
pub use Rattle.gixobj_signature.specs.VerifyingCalls
pub use Rattle.gixobj_signature.specs.declared as signature
pub use Rattle.gixobj_signature_reports.specs.Fields
pub use Rattle.gixobj_signature_reports.specs.GpgReports
pub use Rattle.gixobj_signature_reports.specs.Outcomes
pub use Rattle.gixobj_signature_reports.specs.SshReports
pub use Rattle.gixobj_signature_reports.specs.Trust
pub use Rattle.gixobj_signature_reports.specs.declared as report
pub use Rattle.gixobj_signature_reports.specs.Calls as ProgramCalls
pub use Rattle.gixobj_store.specs.Checksums
pub use Rattle.gixobj_store.specs.EntrySteps
pub use Rattle.gixobj_store.specs.Lookups
pub use Rattle.gixobj_store.specs.Stores
pub use Rattle.gixobj_store.specs.TreeReaders
pub use Rattle.gixobj_store.specs.declared as store
pub use Rattle.gixobj_store_find.specs.Existing
pub use Rattle.gixobj_store_find.specs.InMemory as MemoryCells
pub use Rattle.gixobj_store_find.specs.NeverWrites
pub use Rattle.gixobj_store_find.specs.Writers
pub use Rattle.gixobj_store_find.specs.declared as find
pub use Rattle.gixobj_store_keep.specs.ExistingTrees
pub use Rattle.gixobj_store_keep.specs.Keeping
pub use Rattle.gixobj_store_keep.specs.Memory
pub use Rattle.gixobj_store_keep.specs.declared as keep
pub use Rattle.gixobj_streams.specs.Streams
pub use Rattle.gixobj_streams.specs.Writing
pub use Rattle.gixobj_tag.specs.NameRule
pub use Rattle.gixobj_tag.specs.Rewriting as TagRewriting
pub use Rattle.gixobj_tag.specs.Signed
pub use Rattle.gixobj_tag.specs.TagFormat
pub use Rattle.gixobj_tag.specs.TagOwned
pub use Rattle.gixobj_tag.specs.TagSigning
pub use Rattle.gixobj_tag.specs.TagViews
pub use Rattle.gixobj_tag.specs.TagWriting
pub use Rattle.gixobj_tag.specs.declared as tag
pub use Rattle.gixobj_text.specs.BlockSteps
pub use Rattle.gixobj_text.specs.Bodies
pub use Rattle.gixobj_text.specs.BodyLines
pub use Rattle.gixobj_text.specs.Filters
pub use Rattle.gixobj_text.specs.FirstLines
pub use Rattle.gixobj_text.specs.MessageBlocks
pub use Rattle.gixobj_text.specs.MessageTrailers
pub use Rattle.gixobj_text.specs.SummaryPieces
pub use Rattle.gixobj_text.specs.Titles
pub use Rattle.gixobj_text.specs.TrailerBlocks
pub use Rattle.gixobj_text.specs.TrailerNames
pub use Rattle.gixobj_text.specs.TrailerSteps
pub use Rattle.gixobj_text.specs.Trailers
pub use Rattle.gixobj_text.specs.Unfolding
pub use Rattle.gixobj_text.specs.declared as message
pub use Rattle.gixobj_tokens.specs.CommitExtracting
pub use Rattle.gixobj_tokens.specs.CommitRuns
pub use Rattle.gixobj_tokens.specs.CommitTokenSteps
pub use Rattle.gixobj_tokens.specs.CommitTokens
pub use Rattle.gixobj_tokens.specs.Readers
pub use Rattle.gixobj_tokens.specs.TagExtracting
pub use Rattle.gixobj_tokens.specs.TagReaders
pub use Rattle.gixobj_tokens.specs.TagTokenSteps
pub use Rattle.gixobj_tokens.specs.TokenFilters
pub use Rattle.gixobj_tokens.specs.TokenSearch
pub use Rattle.gixobj_tokens.specs.declared as ref_iter
pub use Rattle.gixobj_tree.specs.Rewriting as TreeRewriting
pub use Rattle.gixobj_tree.specs.TreeEncoding
pub use Rattle.gixobj_tree.specs.TreeSizes
pub use Rattle.gixobj_tree.specs.TreeViews
pub use Rattle.gixobj_tree.specs.WellFormed
pub use Rattle.gixobj_tree.specs.declared as tree
pub use Rattle.gixobj_tree_entries.specs.Entries
pub use Rattle.gixobj_tree_entries.specs.EntryOrder
pub use Rattle.gixobj_tree_entries.specs.EntryViews
pub use Rattle.gixobj_tree_entries.specs.KeyOrder
pub use Rattle.gixobj_tree_entries.specs.Mode
pub use Rattle.gixobj_tree_entries.specs.ModeNumber
pub use Rattle.gixobj_tree_entries.specs.TreeDecoding
pub use Rattle.gixobj_tree_entries.specs.declared as entries
pub mod ToolErrors
pub use Rattle.gix_object.specs.declared as error
