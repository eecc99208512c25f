-- The commit of a step (gitdatamodel, "commits"; git-commit-tree).
use Rattle.std.specs.Prelude.{◌≡◌, ℕ, List, [], ◌∷◌, Option, Some, None, map}
use Rattle.bstr.specs.Owned.{bstring_bytes}
use Rattle.gixobj_actor.specs.Actor.{IsActor}
use Rattle.gixobj_actor.specs.ActorWriting.{encode_owned_actor}
use Rattle.gixobj_actor.specs.Date.{encode_time}
use Rattle.gixobj_actor.specs.declared.actor.Signature.{Signature}
use Rattle.gixobj_commit.specs.CommitWriting.{encode_commit}
use Rattle.gixobj_hash.specs.Hash.{encode_id_hex}
use Rattle.gixobj_hash.specs.declared.hash.object_id.ObjectId.{ObjectId}
use Rattle.gixobj_grammar.specs.Commit.{CommitLines}
use Rattle.gixobj_editor_import.specs.declared.import.Step.{Step}

-- the commit before it as the only parent, or no parent
abbrev pub only_parent : Option ObjectId → List ObjectId
only_parent None = []
only_parent (Some id) = id ∷ []

-- the commit of a step: this tree, the commit before it as only parent, and the step's author, committer and message
abbrev pub step_commit : Step → ObjectId → Option ObjectId → CommitLines
step_commit step tree parent = record {
  tree = encode_id_hex tree;
  parents = map encode_id_hex (only_parent parent);
  author = encode_owned_actor step.author;
  committer = encode_owned_actor step.committer;
  encoding = None;
  extra_headers = [];
  message = bstring_bytes step.message;
}

-- the encoding of the step's commit
abbrev pub encode_step : Step → ObjectId → Option ObjectId → List ℕ
encode_step step tree parent = encode_commit (step_commit step tree parent)

-- the copy has the name, the email and the time of the actor
pub record SameActor (actor copy : Signature) : Type 0 where
  pub name : bstring_bytes copy.name ≡ bstring_bytes actor.name
  pub email : bstring_bytes copy.email ≡ bstring_bytes actor.email
  pub time : copy.time ≡ actor.time

-- the line names the actor, with its time
abbrev pub NamesSignature : List ℕ → Signature → Type 0
NamesSignature line actor =
    IsActor line (bstring_bytes actor.name) (bstring_bytes actor.email)
    (encode_time actor.time.seconds actor.time.offset)
