-- The lines of commits and tags that begin with a name and a space.
use Rattle.std.specs.Prelude.{◌≡◌, ◌⊎◌, ◌∷◌, ◌++◌, ℕ, List, Result, Ok, Err}
use Rattle.gixobj_hash.specs.Bytes.{space}
use Rattle.gixobj_hash.specs.HeaderFormat.{BeginsWithOtherName}
use Rattle.gixobj_hash.specs.declared.hash.kind.Kind.{Kind}
use Rattle.gixobj_parse.specs.HeaderReading.{BeginsWithIdField, BeginsWithNoIdField}
use Rattle.gixobj_fsck.specs.Actors.{ActorPart, IsAfterLine}
use Rattle.gixobj_fsck_messages.specs.declared.message.Message.{Message}

-- the input begins with this name and a space
abbrev pub BeginsWithName : List ℕ → List ℕ → Type 0
BeginsWithName name input = (rest : List ℕ) × (input ≡ name ++ space ∷ rest)

-- the line of this name with an id in hex comes, or there is a fault: another line, or no id
abbrev pub IdLine : List ℕ → Kind → Message → Message → List ℕ → Result (List ℕ) Message → Type 0
IdLine name kind missing bad input (Ok rest) = (hex : List ℕ) × BeginsWithIdField name kind input hex rest
IdLine name kind missing bad input (Err fault) = (BeginsWithOtherName name input × (fault ≡ missing))
    ⊎ (BeginsWithName name input × BeginsWithNoIdField name kind input × (fault ≡ bad))

-- the line of this name with an actor comes, or there is a fault: another line, or one of the actor
abbrev pub ActorLine : List ℕ → Message → List ℕ → Result (List ℕ) Message → Type 0
ActorLine name missing input (Ok rest) = (actor after : List ℕ) × (input ≡ name ++ space ∷ actor)
    × ActorPart actor (Ok after) × IsAfterLine actor rest
ActorLine name missing input (Err fault) = (BeginsWithOtherName name input × (fault ≡ missing))
    ⊎ ((actor : List ℕ) × (input ≡ name ++ space ∷ actor) × ActorPart actor (Err fault))
