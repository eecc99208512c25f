-- The message of a commit.
use Rattle.std.proofs.Common.{◌≡◌, ℕ, Bool, true, false, not, List, Ok, Err, inl, inr, refl}
use Rattle.std.specs.Prelude.{Contains, MatchBool}
use Rattle.gixobj_hash.specs.ByteStrings.{IsByteFree}
use Rattle.gixobj_hash.specs.declared.hash.kind.Kind.{Kind}
use Rattle.gixobj_fsck.specs.Commits.{CommitPart, HasCommitMessage, IsCleanCommit, IsCommitMessage}
use Rattle.gixobj_fsck_messages.specs.declared.message.Message.{Message}
use Rattle.gixobj_fsck_messages.specs.declared.message.Message.TheVariants as message
use Rattle.gixobj_fsck.proofs.CommitOutcomes.{commit_deterministic}

-- the first fault is the only message
pub only_fault : (kind : Kind) (input : List ℕ) (fault : Message) → CommitPart kind input (Err fault) → (it : Message) → IsCommitMessage kind input it
    → it ≡ fault
only_fault kind input fault here it (inl other) = let e = commit_deterministic kind input (Err it) (Err fault) other here in cc e
only_fault kind input fault here it (inr other) = let e = commit_deterministic kind input (Ok other.0) (Err fault) other.1 here in cc e

-- without a fault the only message is that of a zero byte
pub only_zero : (kind : Kind) (input rest : List ℕ) → CommitPart kind input (Ok rest) → (it : Message) → IsCommitMessage kind input it
    → Contains input 0 × (it ≡ message.NulInCommit)
only_zero kind input rest sound it (inl other) = let e = commit_deterministic kind input (Err it) (Ok rest) other sound in cc e
only_zero kind input rest sound it (inr other) = (other.2, other.3)

-- without a fault a commit is clean unless it has a zero byte
pub clean_if_no_zero : (kind : Kind) (input rest : List ℕ) (zero : Bool) → CommitPart kind input (Ok rest)
    → MatchBool zero (Contains input 0) (IsByteFree 0 input) → MatchBool (not zero) (IsCleanCommit kind input) (HasCommitMessage kind input)
clean_if_no_zero kind input rest true sound has = (message.NulInCommit, inr (rest, sound, has, refl))
clean_if_no_zero kind input rest false sound free = ((rest, sound), free)
