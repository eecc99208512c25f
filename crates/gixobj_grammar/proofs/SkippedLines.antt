-- A field at the beginning of an input is a line, and without a field of its state an input begins with no line;
-- `after_line` and its parts use it.
use Rattle.std.proofs.Common.{◌≡◌, ◌≢◌, ℕ, List, [], ◌∷◌, ◌++◌, append_assoc, refl, subst, sym, ◌∙◌}
use Rattle.std.specs.List.{flat_map}
use Rattle.std.specs.Prelude.{IfNone, None, Option, Some, codes}
use Rattle.gixobj_parse.proofs.HeaderFields.{Unfolding, has_header_of_lines, has_header_of_one_line, no_lines_of_split, is_unfolded_at_end, unfolding_append}
use Rattle.gixobj_parse.proofs.HeaderFields.{unfolding_first}
use Rattle.gixobj_parse.specs.HeaderReading.{BeginsWithIdField, BeginsWithContinuations, BeginsWithNoIdField, BeginsWithNoContinuations}
use Rattle.gixobj_hash.specs.HeaderFormat.{EndsHeader, BeginsWithField, BeginsWithHeader, Header, encode_continuation}
use Rattle.gixobj_hash.specs.FieldFormat.{encode_line}
use Rattle.gixobj_hash.specs.Runs.{HasNoPiece}
use Rattle.gixobj_hash.specs.ByteStrings.{IsByteFree, SplitsAt}
use Rattle.gixobj_hash.specs.declared.hash.kind.Kind.{Kind}
use Rattle.gixobj_grammar.proofs.LineErrors.{has_line_at_encoding, no_first}
use Rattle.gixobj_grammar.specs.Lines.{BeginsWithActorField, BeginsWithLine, BeginsWithNoActorField, LineView, BeginsWithSomeLine, author_comes, author_line}
use Rattle.gixobj_grammar.specs.Lines.{committer_comes, committer_line, encoding_comes, encoding_line, header_comes, header_line, message_comes, message_line}
use Rattle.gixobj_grammar.specs.Lines.{parent_comes, parent_line, tree_comes, tree_line}
use Rattle.gixobj_grammar.specs.declared.lines.State.{State}
use Rattle.gixobj_grammar.specs.declared.lines.State.TheVariants as state

-- ---- a line

pub tree_is_line : (kind : Kind) (input hex rest : List ℕ) → BeginsWithIdField (codes "tree") kind input hex rest
    → BeginsWithSomeLine kind state.Tree input state.Parents rest
tree_is_line kind input hex rest has = (tree_line hex, tree_comes input hex rest has)

pub parent_is_line : (kind : Kind) (input hex rest : List ℕ) → BeginsWithIdField (codes "parent") kind input hex rest
    → BeginsWithSomeLine kind state.Parents input state.Parents rest
parent_is_line kind input hex rest has = (parent_line hex, parent_comes input hex rest has)

pub author_is_line : (kind : Kind) (input bytes rest : List ℕ) → BeginsWithActorField (codes "author") input bytes rest
    → BeginsWithSomeLine kind state.Parents input state.Committer rest
author_is_line kind input bytes rest has = (author_line bytes, author_comes input bytes rest has)

pub committer_is_line : (kind : Kind) (input bytes rest : List ℕ) → BeginsWithActorField (codes "committer") input bytes rest
    → BeginsWithSomeLine kind state.Committer input state.Encoding rest
committer_is_line kind input bytes rest has = (committer_line bytes, committer_comes input bytes rest has)

pub encoding_is_line : (kind : Kind) (input encoding rest : List ℕ) → BeginsWithField (codes "encoding") input encoding rest
    → BeginsWithSomeLine kind state.Encoding input state.ExtraHeaders rest
encoding_is_line kind input encoding rest has = (encoding_line encoding, encoding_comes input encoding rest has)

pub header_is_line : (kind : Kind) (input : List ℕ) (header : Header) (rest : List ℕ) → BeginsWithHeader input header rest
    → BeginsWithSomeLine kind state.ExtraHeaders input state.ExtraHeaders rest
header_is_line kind input header rest has = (header_line header, header_comes input header rest has)

pub message_is_line : (kind : Kind) (input message : List ℕ) → input ≡ 10 ∷ message → BeginsWithSomeLine kind state.ExtraHeaders input state.End []
message_is_line kind input message is = (message_line message, message_comes input message is)

-- ---- no line

pub no_tree : (kind : Kind) (input : List ℕ) → BeginsWithNoIdField (codes "tree") kind input → HasNoPiece (BeginsWithLine kind) state.Tree input
no_tree kind input none piece following rest (tree_comes _ hex _ has) = none hex rest has

pub no_parent_or_author : (kind : Kind) (input : List ℕ) → BeginsWithNoIdField (codes "parent") kind input → BeginsWithNoActorField (codes "author") input
    → HasNoPiece (BeginsWithLine kind) state.Parents input
no_parent_or_author kind input no_parent no_author piece following rest (parent_comes _ hex _ has) = no_parent hex rest has
no_parent_or_author kind input no_parent no_author piece following rest (author_comes _ bytes _ has) = no_author bytes rest has

pub no_committer : (kind : Kind) (input : List ℕ) → BeginsWithNoActorField (codes "committer") input → HasNoPiece (BeginsWithLine kind) state.Committer input
no_committer kind input none piece following rest (committer_comes _ bytes _ has) = none bytes rest has

-- ---- a header

-- the continuation lines that were consumed unfold to some value
abbrev pub HasConsumedLines : List ℕ → List ℕ → Type 0
HasConsumedLines input rest = (value : List ℕ) × Unfolding [] input value rest

pub consumed_start : (input : List ℕ) → HasConsumedLines input input
consumed_start input = (_, unfolding_first [] input)

pub consumed_more : (input rest following line after : List ℕ) → HasConsumedLines input rest → rest ≡ 32 ∷ following → SplitsAt 10 following line after
    → HasConsumedLines input after
consumed_more input rest following line after (value, so_far) space split = (_, unfolding_append [] input value rest following line after so_far space split)

pub consumed_end : (input rest : List ℕ) → HasConsumedLines input rest → EndsHeader rest → (more : List (List ℕ)) × BeginsWithContinuations input more rest
consumed_end input rest (value, so_far) ends = let it = is_unfolded_at_end [] input value rest so_far ends in (it.0, it.1)

pub consumed_unended : (input rest following : List ℕ) → HasConsumedLines input rest → rest ≡ 32 ∷ following → IsByteFree 10 following
    → BeginsWithNoContinuations input
consumed_unended input rest following (value, so_far) space free = no_lines_of_split [] input value rest following so_far space free

continuations_cons_append : (line rest : List ℕ) (more : List (List ℕ))
    → flat_map encode_continuation (line ∷ more) ++ rest ≡ 32 ∷ (line ++ 10 ∷ (flat_map encode_continuation more ++ rest))
continuations_cons_append line rest more = simp append_assoc

no_header_end_of_continuation : (after line rest : List ℕ) (more : List (List ℕ)) → after ≡ flat_map encode_continuation (line ∷ more) ++ rest
    → EndsHeader after → ⊥
no_header_end_of_continuation after line rest more joined ends = (let k : EndsHeader (32 ∷ (line ++ 10 ∷ (flat_map encode_continuation more ++ rest))) = subst
    EndsHeader (joined ∙ continuations_cons_append line rest more) ends in k refl)

pub header_of_parts : (input name following first after : List ℕ) (more : List (List ℕ)) (rest : List ℕ) → SplitsAt 32 input name following
    → (name ≢ []) × IsByteFree 10 name → SplitsAt 10 following first after → BeginsWithContinuations after more rest
    → (header : Header) × BeginsWithHeader input header rest
header_of_parts input name following first after [] rest split named line lines = (
  _,
  subst (λ (it : List ℕ). BeginsWithHeader input (record { name = name; value = first }) it) lines.joined
      (has_header_of_one_line input name following first after split named line (subst EndsHeader (sym lines.joined) lines.ends)),
)
header_of_parts input name following first after (second ∷ more) rest split named line lines = (
  _,
  has_header_of_lines input name following first after (flat_map encode_line (first ∷ second ∷ more)) rest split named line
      (no_header_end_of_continuation after second rest more lines.joined) (second ∷ more, lines, refl),
)

-- ---- after the committer without an encoding: the lines that come after an encoding

pub some_line_as_first : (kind : Kind) (input : List ℕ) (following : State) (rest : List ℕ) → ((after : List ℕ) → input ≢ codes "encoding" ++ 32 ∷ after)
    → BeginsWithSomeLine kind state.ExtraHeaders input following rest → BeginsWithSomeLine kind state.Encoding input following rest
some_line_as_first kind input following rest lacks (line, has) = (line, has_line_at_encoding kind input line following rest lacks has)

pub no_line_as_first : {X : Type 0} (kind : Kind) (input : List ℕ) (result : Option X) → ((after : List ℕ) → input ≢ codes "encoding" ++ 32 ∷ after)
    → IfNone result (HasNoPiece (BeginsWithLine kind) state.ExtraHeaders input)
    → IfNone result (HasNoPiece (BeginsWithLine kind) state.Encoding input)
no_line_as_first kind input None lacks none = no_first kind input lacks none
no_line_as_first kind input (Some it) lacks none = tt
