-- Inputs that begin with no line in a state, and the errors for them.
use Rattle.std.proofs.Common.{◌≡◌, ◌≢◌, ℕ, List, ◌∷◌, ◌++◌, arith, sym, ap, subst, ◌∙◌}
use Rattle.std.specs.Prelude.{codes}
use Rattle.gixobj_actor.specs.Actor.{IsActor, IsNoActor}
use Rattle.gixobj_parse.proofs.HeaderFields.{first_bytes_eq, field_unique}
use Rattle.gixobj_parse.specs.HeaderReading.{IsHeaderFieldError}
use Rattle.gixobj_hash.specs.HeaderFormat.{BeginsWithField, BeginsWithNoField, BeginsWithNoHeader}
use Rattle.gixobj_hash.specs.Runs.{HasNoPiece}
use Rattle.gixobj_hash.specs.declared.decode.Error.{Error}
use Rattle.gixobj_hash.specs.declared.decode.Error.TheVariants.{Malformed, OutOfMemory}
use Rattle.gixobj_hash.specs.declared.hash.kind.Kind.{Kind}
use Rattle.gixobj_grammar.proofs.OneLine.{input_of_flat_field, header_name_prefix, encoding_name_space_free, header_name_eq}
use Rattle.gixobj_grammar.specs.Lines.{BeginsWithLine, BeginsWithNoActorField, LineView, IsLineError, encoding_comes, first_header_comes, first_message_comes}
use Rattle.gixobj_grammar.specs.Lines.{header_comes, message_comes}
use Rattle.gixobj_grammar.specs.declared.lines.State.{State}
use Rattle.gixobj_grammar.specs.declared.lines.State.TheVariants as state

-- ---- parts

pub no_actor_of_malformed_value : (name input bytes rest : List ℕ) → BeginsWithField name input bytes rest → IsNoActor bytes → BeginsWithNoActorField name input
no_actor_of_malformed_value name input bytes rest field bad other following (second, (actor, email, time, is)) =
    let A : List ℕ → Type 0 = λ it. IsActor it actor email time in
    bad actor email time (subst A (sym (field_unique name input bytes rest other following field second).0) is)

-- ---- states

pub no_line_at_headers : (kind : Kind) (input : List ℕ) → ((rest : List ℕ) → input ≢ 10 ∷ rest) → BeginsWithNoHeader input
    → HasNoPiece (BeginsWithLine kind) state.ExtraHeaders input
no_line_at_headers kind input no_newline bad piece following rest (header_comes _ header _ has) = bad header rest has
no_line_at_headers kind input no_newline bad piece following rest (message_comes _ message is) = no_newline message is

pub no_line_at_encoding : (kind : Kind) (input after : List ℕ) → input ≡ codes "encoding" ++ 32 ∷ after → BeginsWithNoField (codes "encoding") input
    → HasNoPiece (BeginsWithLine kind) state.Encoding input
no_line_at_encoding kind input after prefix bad piece following rest (encoding_comes _ encoding _ has) = bad encoding rest has
no_line_at_encoding kind input after prefix bad piece following rest (first_header_comes _ header _ has other) =
    other (header_name_eq input (codes "encoding") after header rest encoding_name_space_free prefix has)
no_line_at_encoding kind input after prefix bad piece following rest (first_message_comes _ message is) =
    let same : 101 ≡ 10 = first_bytes_eq 101 10 _ _ (sym prefix ∙ is) in absurd (omega (arith, same))

-- ---- after the committer without an encoding: the lines that come after an encoding

pub has_line_at_encoding : (kind : Kind) (input : List ℕ) (piece : LineView) (following : State) (rest : List ℕ)
    → ((after : List ℕ) → input ≢ codes "encoding" ++ 32 ∷ after)
    → BeginsWithLine kind state.ExtraHeaders input piece following rest → BeginsWithLine kind state.Encoding input piece following rest
has_line_at_encoding kind input piece following rest lacks (header_comes _ header _ has) =
    first_header_comes input header rest has
    (λ same. let tail = header_name_prefix input header rest has in lacks tail.0 (tail.1 ∙ ap (λ (name : List ℕ). name ++ 32 ∷ tail.0) same))
has_line_at_encoding kind input piece following rest lacks (message_comes _ message is) = first_message_comes input message is

pub no_first : (kind : Kind) (input : List ℕ) → ((after : List ℕ) → input ≢ codes "encoding" ++ 32 ∷ after)
    → HasNoPiece (BeginsWithLine kind) state.ExtraHeaders input
    → HasNoPiece (BeginsWithLine kind) state.Encoding input
no_first kind input lacks none piece following rest (encoding_comes _ encoding _ has) = lacks _ (input_of_flat_field (codes "encoding") input encoding rest has)
no_first kind input lacks none piece following rest (first_header_comes _ header _ has other) = none _ _ _ (header_comes input header rest has)
no_first kind input lacks none piece following rest (first_message_comes _ message is) = none _ _ _ (message_comes input message is)

pub line_error_at_encoding : (kind : Kind) (input : List ℕ) (error : Error) → ((after : List ℕ) → input ≢ codes "encoding" ++ 32 ∷ after)
    → IsLineError kind state.ExtraHeaders input error → IsLineError kind state.Encoding input error
line_error_at_encoding kind input Malformed lacks rejected = no_first kind input lacks rejected
line_error_at_encoding kind input OutOfMemory lacks (may, several) = (lacks, several)

pub line_error_at_headers : (kind : Kind) (input : List ℕ) (f e : Error) → f ≡ e → ((rest : List ℕ) → input ≢ 10 ∷ rest) → IsHeaderFieldError input e
    → IsLineError kind state.ExtraHeaders input f
line_error_at_headers kind input f Malformed same no_newline bad = rw same (no_line_at_headers kind input no_newline bad)
line_error_at_headers kind input f OutOfMemory same no_newline several = rw same (tt, several)
