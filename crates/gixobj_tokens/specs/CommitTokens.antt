-- The tokens of a commit (gitdatamodel, "commits").
use Rattle.std.specs.Prelude.{ℕ, List, []}
use Rattle.bstr.specs.BStr.{bstr_bytes}
use Rattle.gixobj_actor.specs.Actor.{ActorView, IsActorOf, actor_view}
use Rattle.gixobj_parse.specs.HeaderReading.{header_of}
use Rattle.gixobj_hash.specs.HeaderFormat.{Header}
use Rattle.gixobj_hash.specs.Hash.{DecodesToId}
use Rattle.gixobj_hash.specs.declared.hash.kind.Kind.{Kind}
use Rattle.gixobj_hash.specs.declared.hash.object_id.ObjectId.{ObjectId}
use Rattle.gixobj_grammar.specs.Lines.{BeginsWithLine, LineView, author_line, committer_line, encoding_line}
use Rattle.gixobj_grammar.specs.Lines.{header_line, message_line, parent_line, tree_line}
use Rattle.gixobj_grammar.specs.declared.lines.State.{State}
use Rattle.gixobj_tokens.specs.declared.commit.Token.{Token}
use Rattle.gixobj_tokens.specs.declared.commit.Token.TheVariants as token

-- a token: ids, the parts of actors, a message encoding, an extra header, a message
pub data CommitTokenView : Type 0 where
  tree_token : ObjectId → CommitTokenView
  parent_token : ObjectId → CommitTokenView
  author_token : ActorView → CommitTokenView
  committer_token : ActorView → CommitTokenView
  encoding_token : List ℕ → CommitTokenView
  header_token : Header → CommitTokenView
  message_token : List ℕ → CommitTokenView

-- a token as contracts see it: its id, the parts of its actor, or the bytes of its value
abbrev pub commit_token_view : Token → CommitTokenView
commit_token_view (token.Tree id) = tree_token id
commit_token_view (token.Parent id) = parent_token id
commit_token_view (token.Author actor) = author_token (actor_view actor)
commit_token_view (token.Committer actor) = committer_token (actor_view actor)
commit_token_view (token.Encoding encoding) = encoding_token (bstr_bytes encoding)
commit_token_view (token.ExtraHeader header) = header_token (header_of header)
commit_token_view (token.Message message) = message_token (bstr_bytes message)

-- the token of a line: the id that its hex encodes, the parts of its actor, or its unchanged value
pub data IsTokenOfLine : LineView → CommitTokenView → Type 0 where
  yields_tree : (hex : List ℕ) (id : ObjectId) → DecodesToId hex id → IsTokenOfLine (tree_line hex) (tree_token id)
  yields_parent : (hex : List ℕ) (id : ObjectId) → DecodesToId hex id
      → IsTokenOfLine (parent_line hex) (parent_token id)
  yields_author : (line : List ℕ) (actor : ActorView) → IsActorOf line actor
      → IsTokenOfLine (author_line line) (author_token actor)
  yields_committer : (line : List ℕ) (actor : ActorView) → IsActorOf line actor
      → IsTokenOfLine (committer_line line) (committer_token actor)
  yields_encoding : (encoding : List ℕ) → IsTokenOfLine (encoding_line encoding) (encoding_token encoding)
  yields_header : (header : Header) → IsTokenOfLine (header_line header) (header_token header)
  yields_message : (message : List ℕ) → IsTokenOfLine (message_line message) (message_token message)

-- the input begins with the line of this token, and the rest follows in the state after it
abbrev pub BeginsWithCommitToken : Kind → State → List ℕ → CommitTokenView → State → List ℕ → Type 0
BeginsWithCommitToken kind before input token after rest =
    (line : LineView) × BeginsWithLine kind before input line after rest
    × IsTokenOfLine line token

-- the bytes are the encoding of this token alone
abbrev pub DecodesToCommitToken : Kind → CommitTokenView → List ℕ → Type 0
DecodesToCommitToken kind token bytes = (before : State) × (after : State)
    × BeginsWithCommitToken kind before bytes token after []
