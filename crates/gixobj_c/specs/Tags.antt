-- Results of the call about the tokens of tags.
use Rattle.std.specs.Prelude.{◌≡◌, ◌<◌, ◌≤◌, ◌+◌, ◌==◌, ◌⊎◌, ℕ, List, Option, Some, None, codes, drop, if◌then◌else◌}
use Rattle.std.specs.Prelude.{length}
use Rattle.gixobj_c_codes.specs.Codes.{at_end, bad_offset, done, malformed, unknown_code}
use Rattle.gixobj_c.specs.Spans.{HasPieceBefore, IsEmptyAt, IsSpanBefore}
use Rattle.gixobj_c.specs.declared.commits.Cursor.{Cursor}
use Rattle.gixobj_c.specs.declared.spans.Span.{Span}
use Rattle.gixobj_c.specs.declared.tags.TagToken.{TagToken}
use Rattle.gixobj_hash.specs.HeaderFormat.{BeginsWithField}
use Rattle.gixobj_hash.specs.Runs.{HasNoPiece}
use Rattle.gixobj_hash.specs.declared.hash.kind.Kind.{Kind}
use Rattle.gixobj_grammar.specs.TagTokens.{BeginsWithTagToken, TagTokenView, body_token, kind_token, name_token}
use Rattle.gixobj_grammar.specs.TagTokens.{no_tagger_token, tagger_token, target_token}
use Rattle.gixobj_grammar.specs.declared.tokens.State.{State}
use Rattle.gixobj_grammar.specs.declared.tokens.State.TheVariants as state

-- the state of this number
abbrev pub tag_state_of_code : ℕ → Option State
tag_state_of_code code = if code == 0 then Some state.Target else if code == 1 then Some state.TargetKind else
    if code == 2 then Some state.Name else if code == 3 then Some state.Tagger else if code == 4 then Some state.Body
    else if code == 5 then Some state.End else None

-- the field of this name is between the offset and the rest, and this is the position of its value
pub record IsFieldSpan (name tag : List ℕ) (offset : ℕ) (rest : List ℕ) (span : Span) : Type 0 where
  pub value : List ℕ
  pub begins : BeginsWithField name (drop offset tag) value rest
  pub bytes : IsSpanBefore tag value (length rest + 1) span

-- the message and the signature of a body are at the end of the tag; one byte separates them
abbrev pub HasBodyParts : List ℕ → List ℕ → Option (List ℕ) → Type 0
HasBodyParts tag message (Some signature) =
    HasPieceBefore tag message (length signature + 1) × HasPieceBefore tag signature 0
HasBodyParts tag message None = HasPieceBefore tag message 0

-- the token at the offset has this kind and no signature
pub record IsUnsigned (offset number : ℕ) (token : TagToken) : Type 0 where
  pub kind : token.kind ≡ number
  pub unsigned : token.has_signature ≡ 0
  pub signature : IsEmptyAt offset token.signature

-- the positions of the message and of the signature, if there is one: at the end of the tag, with one byte between them
abbrev pub IsTokenOfBody : List ℕ → ℕ → List ℕ → Option (List ℕ) → TagToken → Type 0
IsTokenOfBody tag offset message (Some signature) token = (token.kind ≡ 6) × (token.has_signature ≡ 1)
    × IsSpanBefore tag message (length signature + 1) token.value × IsSpanBefore tag signature 0 token.signature
IsTokenOfBody tag offset message None token = IsUnsigned offset 6 token × IsSpanBefore tag message 0 token.value

-- the token has this kind and the position of the value of the field between the offset and the rest
abbrev pub IsTokenOfField : List ℕ → ℕ → List ℕ → ℕ → List ℕ → TagToken → Type 0
IsTokenOfField name kind tag offset rest token = IsUnsigned offset kind token
    × IsFieldSpan name tag offset rest token.value

-- the token between the offset and the rest has the kind of this one, and the position of its value
abbrev pub IsTokenOfTag : List ℕ → ℕ → TagTokenView → List ℕ → TagToken → Type 0
IsTokenOfTag tag offset (target_token id) rest token = IsTokenOfField (codes "object") 1 tag offset rest token
IsTokenOfTag tag offset (kind_token kind) rest token = IsTokenOfField (codes "type") 2 tag offset rest token
IsTokenOfTag tag offset (name_token name) rest token = IsTokenOfField (codes "tag") 3 tag offset rest token
IsTokenOfTag tag offset (tagger_token actor) rest token = IsTokenOfField (codes "tagger") 4 tag offset rest token
IsTokenOfTag tag offset no_tagger_token rest token = IsUnsigned offset 5 token × IsEmptyAt offset token.value
IsTokenOfTag tag offset (body_token message signature) rest token = IsTokenOfBody tag offset message signature token

-- a token begins at this offset of the tag, and this rest follows it
abbrev pub BeginsWithTokenAt : List ℕ → ℕ → TagTokenView → List ℕ → Type 0
BeginsWithTokenAt tag offset token rest =
    (kind : Kind) × (before after : State) × BeginsWithTagToken kind before (drop offset tag) token after rest

-- a token begins at the offset in the state `before`; the positions are those of its parts, and the cursor is after it
pub record IsTagTokenAt (kind : Kind) (tag : List ℕ) (before : State) (offset : ℕ) (cursor : Cursor)
    (token : TagToken) : Type 0 where
  pub found : TagTokenView
  pub after : State
  pub state : tag_state_of_code cursor.state ≡ Some after
  pub begins : BeginsWithTagToken kind before (drop offset tag) found after (drop cursor.offset tag)
  pub within : cursor.offset ≤ length tag
  pub token_of_tag : IsTokenOfTag tag offset found (drop cursor.offset tag) token

-- why no token is decoded at the offset in the state `before`
abbrev pub IsTagTokenStatus : Kind → List ℕ → State → ℕ → ℕ → Type 0
IsTagTokenStatus kind tag before offset status = ((status ≡ at_end) × (offset ≡ length tag))
    ⊎ (((status ≡ malformed) × (offset < length tag)
    × HasNoPiece (BeginsWithTagToken kind) before (drop offset tag))
    ⊎ ((status ≡ bad_offset) × (length tag < offset)))

-- the token at a cursor with this state and this offset, or why there is none
abbrev pub IsTagTokenCall : Option Kind → List ℕ → Option State → ℕ → Cursor → Cursor → TagToken → TagToken → ℕ → Type 0
IsTagTokenCall (Some kind) tag (Some before) offset old new token_old token_new status =
    ((status ≡ done) × IsTagTokenAt kind tag before offset new token_new)
    ⊎ (IsTagTokenStatus kind tag before offset status × (new ≡ old) × (token_new ≡ token_old))
IsTagTokenCall _ tag _ offset old new token_old token_new status =
    (status ≡ unknown_code) × (new ≡ old) × (token_new ≡ token_old)
