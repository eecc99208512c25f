-- The message that an incremental digest holds.
use Rattle.std.specs.Prelude.{ℕ, List}
use Rattle.sha1.specs.Sha1 as sha1
use Rattle.sha2.specs.Hashers.{Holds256}
use Rattle.gixobj_hash.specs.declared.hash.kind.Kind.{Kind}
use Rattle.gixobj_hash.specs.declared.hash.kind.Kind.TheVariants as hash
use Rattle.gixobj_hash.specs.declared.hash.hasher.Hasher.{Hasher}
use Rattle.gixobj_hash.specs.declared.hash.hasher.Hasher.TheVariants as hasher

-- the hasher is of this hash function, and has consumed this message
abbrev pub HoldsMessage : Kind → Hasher → List ℕ → Type 0
HoldsMessage hash.Sha1 (hasher.Sha1 state) message = sha1.Holds state message
HoldsMessage hash.Sha256 (hasher.Sha256 state) message = Holds256 state message
HoldsMessage _ _ message = ⊥
