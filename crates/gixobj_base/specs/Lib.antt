pub use Rattle.gixobj_actor.specs.Actor
pub use Rattle.gixobj_actor.specs.ActorWriting
pub use Rattle.gixobj_actor.specs.Date
pub use Rattle.gixobj_actor.specs.declared as actor
pub use Rattle.gixobj_encode.specs.FieldWriting
pub use Rattle.gixobj_encode.specs.StreamHash
pub use Rattle.gixobj_encode.specs.declared as fields
pub use Rattle.gixobj_tree_entries.specs.Entries
pub use Rattle.gixobj_tree_entries.specs.EntryOrder
pub use Rattle.gixobj_tree_entries.specs.KeyOrder
pub use Rattle.gixobj_tree_entries.specs.Mode
pub use Rattle.gixobj_tree_entries.specs.ModeNumber
pub use Rattle.gixobj_tree_entries.specs.declared as entries
pub use Rattle.gixobj_parse.specs.HeaderReading
pub use Rattle.gixobj_hash.specs.ByteStrings
pub use Rattle.gixobj_hash.specs.Bytes
pub use Rattle.gixobj_hash.specs.Decode
pub use Rattle.gixobj_hash.specs.Encode
pub use Rattle.gixobj_hash.specs.FieldFormat
pub use Rattle.gixobj_hash.specs.Hash
pub use Rattle.gixobj_hash.specs.HeaderFormat
pub use Rattle.gixobj_hash.specs.Kind
pub use Rattle.gixobj_hash.specs.Runs
pub use Rattle.gixobj_hash.specs.declared as hash
pub use Rattle.gixobj_streams.specs.Streams
pub use Rattle.gixobj_streams.specs.Writing
pub use Rattle.gixobj_tree.specs.TreeEncoding
pub use Rattle.gixobj_tree.specs.TreeSizes
pub use Rattle.gixobj_tree.specs.WellFormed
pub use Rattle.gixobj_tree.specs.declared as tree
