pub mod LineFields
pub mod OneMarker
pub mod ReceivedSignatures
pub mod SameSignatures
pub mod SignedEncodings
pub use Rattle.gixobj_actor.specs.Actor
pub use Rattle.gixobj_actor.specs.ActorWriting
pub use Rattle.gixobj_actor.specs.Date
pub use Rattle.gixobj_actor.specs.declared as actor
pub use Rattle.gixobj_commit.specs.CommitOwned
pub use Rattle.gixobj_commit.specs.CommitSigning
pub use Rattle.gixobj_commit.specs.CommitViews
pub use Rattle.gixobj_commit.specs.CommitWriting
pub use Rattle.gixobj_commit.specs.ExtraHeaders
pub use Rattle.gixobj_commit.specs.Mergetags
pub use Rattle.gixobj_grammar.specs.RemainingHeaders
pub use Rattle.gixobj_grammar.specs.RemainingParents
pub use Rattle.gixobj_commit.specs.Rewriting
pub use Rattle.gixobj_commit.specs.declared as commit
pub use Rattle.gixobj_encode.specs.FieldWriting
pub use Rattle.gixobj_encode.specs.declared as fields
pub use Rattle.gixobj_tree_entries.specs.EntryViews
pub use Rattle.gixobj_tree_entries.specs.TreeDecoding
pub use Rattle.gixobj_tree_entries.specs.declared as entries
pub use Rattle.gixobj_parse.specs.HeaderReading
pub use Rattle.gixobj_parse.specs.Markers
pub use Rattle.gixobj_parse.specs.declared as formats
pub use Rattle.gixobj_hash.specs.ByteStrings
pub use Rattle.gixobj_hash.specs.Bytes
pub use Rattle.gixobj_hash.specs.Decode
pub use Rattle.gixobj_hash.specs.Encode
pub use Rattle.gixobj_hash.specs.FieldFormat
pub use Rattle.gixobj_hash.specs.Hash
pub use Rattle.gixobj_hash.specs.HeaderFormat
pub use Rattle.gixobj_hash.specs.Kind
pub use Rattle.gixobj_hash.specs.Optional
pub use Rattle.gixobj_hash.specs.Runs
pub use Rattle.gixobj_hash.specs.declared as hash
pub use Rattle.gixobj_grammar.specs.Commit
pub use Rattle.gixobj_grammar.specs.CommitHeaders
pub use Rattle.gixobj_grammar.specs.CommitSignatures
pub use Rattle.gixobj_grammar.specs.Lines
pub use Rattle.gixobj_grammar.specs.TagBodies
pub use Rattle.gixobj_grammar.specs.TagLines
pub use Rattle.gixobj_grammar.specs.TagPrefix
pub use Rattle.gixobj_grammar.specs.TagSignatures
pub use Rattle.gixobj_grammar.specs.TagTokens
pub use Rattle.gixobj_grammar.specs.declared as line
pub use Rattle.gixobj_object.specs.BorrowedObjects
pub use Rattle.gixobj_object.specs.LooseObjects
pub use Rattle.gixobj_object.specs.ObjectReading
pub use Rattle.gixobj_object.specs.Objects
pub use Rattle.gixobj_object.specs.Parts
pub use Rattle.gixobj_object.specs.declared as object
pub use Rattle.gixobj_tokens.specs.CommitExtracting
pub use Rattle.gixobj_tokens.specs.CommitRuns
pub use Rattle.gixobj_tokens.specs.CommitTokenSteps
pub use Rattle.gixobj_tokens.specs.CommitTokens
pub use Rattle.gixobj_tokens.specs.Readers
pub use Rattle.gixobj_tokens.specs.TagExtracting
pub use Rattle.gixobj_tokens.specs.TagReaders
pub use Rattle.gixobj_tokens.specs.TagTokenSteps
pub use Rattle.gixobj_tokens.specs.TokenFilters
pub use Rattle.gixobj_tokens.specs.TokenSearch
pub use Rattle.gixobj_tokens.specs.declared as ref_iter
pub use Rattle.gixobj_store.specs.Checksums
pub use Rattle.gixobj_store.specs.EntrySteps
pub use Rattle.gixobj_store.specs.Lookups
pub use Rattle.gixobj_store.specs.Stores
pub use Rattle.gixobj_store.specs.TreeReaders
pub use Rattle.gixobj_store.specs.declared as store
pub use Rattle.gixobj_streams.specs.Streams
pub use Rattle.gixobj_streams.specs.Writing
pub use Rattle.gixobj_tag.specs.NameRule
pub use Rattle.gixobj_tag.specs.Rewriting as TagRewriting
pub use Rattle.gixobj_tag.specs.Signed
pub use Rattle.gixobj_tag.specs.TagFormat
pub use Rattle.gixobj_tag.specs.TagOwned
pub use Rattle.gixobj_tag.specs.TagSigning
pub use Rattle.gixobj_tag.specs.TagViews
pub use Rattle.gixobj_tag.specs.TagWriting
pub use Rattle.gixobj_tag.specs.declared as tag
pub use Rattle.gixobj_text.specs.BlockSteps
pub use Rattle.gixobj_text.specs.Bodies
pub use Rattle.gixobj_text.specs.BodyLines
pub use Rattle.gixobj_text.specs.Filters
pub use Rattle.gixobj_text.specs.FirstLines
pub use Rattle.gixobj_text.specs.MessageBlocks
pub use Rattle.gixobj_text.specs.MessageTrailers
pub use Rattle.gixobj_text.specs.SummaryPieces
pub use Rattle.gixobj_text.specs.Titles
pub use Rattle.gixobj_text.specs.TrailerBlocks
pub use Rattle.gixobj_text.specs.TrailerNames
pub use Rattle.gixobj_text.specs.TrailerSteps
pub use Rattle.gixobj_text.specs.Trailers
pub use Rattle.gixobj_text.specs.Unfolding
pub use Rattle.gixobj_text.specs.declared as message
pub use Rattle.gixobj_tree.specs.Rewriting as TreeRewriting
pub use Rattle.gixobj_tree.specs.TreeViews
pub use Rattle.gixobj_tree.specs.declared as tree
