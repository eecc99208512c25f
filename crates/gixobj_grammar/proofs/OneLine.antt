-- In each state an input begins with at most one line, and a line has at least one byte. The proofs of commits,
-- commit tokens and signatures use it.
use Rattle.std.proofs.Common.{◌≡◌, ◌≢◌, ◌<◌, ℕ, List, [], ◌∷◌, ◌++◌, length, arith, refl, sym, ap, ◌∙◌, append_assoc, length-append}
use Rattle.std.proofs.lemmas.List.Elements.{All-head}
use Rattle.std.specs.List.{flat_map}
use Rattle.std.specs.Prelude.{codes}
use Rattle.gixobj_hash.proofs.Splits.{byte_free_of_all_pass, split_parts_unique}
use Rattle.gixobj_hash.specs.ByteStrings.{IsByteFree}
use Rattle.gixobj_parse.proofs.HeaderFields.{first_bytes_eq, field_unique, header_unique}
use Rattle.gixobj_hash.specs.HeaderFormat.{BeginsWithField, BeginsWithHeader, Header, IsHeaderName, encode_continuation}
use Rattle.gixobj_hash.specs.FieldFormat.{encode_field}
use Rattle.gixobj_hash.specs.declared.hash.kind.Kind.{Kind}
use Rattle.gixobj_grammar.specs.Lines.{BeginsWithLine, LineView, author_comes, committer_comes, encoding_comes, first_header_comes, first_message_comes}
use Rattle.gixobj_grammar.specs.Lines.{header_comes, header_line, message_comes, parent_comes, parent_line, tree_comes, tree_line, author_line, committer_line}
use Rattle.gixobj_grammar.specs.Lines.{encoding_line, message_line}
use Rattle.gixobj_grammar.specs.declared.lines.State.{State}

pub input_of_flat_field : (name input value rest : List ℕ) → BeginsWithField name input value rest → input ≡ name ++ 32 ∷ (value ++ 10 ∷ rest)
input_of_flat_field name input value rest has = let flat : encode_field name value ++ rest ≡ name ++ 32 ∷ (value ++ 10 ∷ rest) = simp append_assoc in has.joined
    ∙ flat

pub header_name_prefix : (input : List ℕ) (header : Header) (rest : List ℕ) → BeginsWithHeader input header rest → (tail : List ℕ)
    × (input ≡ header.name ++ 32 ∷ tail)
header_name_prefix input header rest it =
    let is = it.written in
    let flat : (header.name ++ 32 ∷ (is.first ++ 10 ∷ []) ++ flat_map encode_continuation is.more) ++ rest ≡ header.name ++ 32
    ∷ (is.first ++ 10 ∷ (flat_map encode_continuation is.more ++ rest)) = simp append_assoc in
    (_, it.joined ∙ ap (λ (content : List ℕ). content ++ rest) is.joined ∙ flat)

-- a header that begins with this name and a space has this name
pub header_name_eq : (input name after : List ℕ) (header : Header) (following : List ℕ) → IsByteFree 32 name → input ≡ name ++ 32 ∷ after
    → BeginsWithHeader input header following → header.name ≡ name
header_name_eq input name after header following free prefix it =
    let tail = header_name_prefix input header following it in
    (split_parts_unique 32 header.name tail.0 name after it.written.named.no_space free (sym tail.1 ∙ prefix)).0

header_name_of_field : (input name value rest : List ℕ) (header : Header) (following : List ℕ) → IsByteFree 32 name → BeginsWithField name input value rest
    → BeginsWithHeader input header following → header.name ≡ name
header_name_of_field input name value rest header following free has it = header_name_eq input name (value ++ 10 ∷ rest) header following free
    (input_of_flat_field name input value rest has) it

pub encoding_name_space_free : IsByteFree 32 (codes "encoding")
encoding_name_space_free = byte_free_of_all_pass 32 (codes "encoding") refl

header_name_is_no_newline : (name following message : List ℕ) → IsHeaderName name → name ++ 32 ∷ following ≡ 10 ∷ message → ⊥
header_name_is_no_newline [] following message is same = is.not_empty refl
header_name_is_no_newline (first ∷ name) following message is same = let e : first ≡ 10 = cc same in All-head (λ it. it ≢ 10) first name is.no_newline e

pub no_header_of_newline : (input : List ℕ) (header : Header) (rest message : List ℕ) → BeginsWithHeader input header rest → input ≡ 10 ∷ message → ⊥
no_header_of_newline input header rest message it is = let tail = header_name_prefix input header rest it in
    header_name_is_no_newline header.name tail.0 message it.written.named
    (sym tail.1 ∙ is)

pub line_unique : (kind : Kind) (before : State) (input : List ℕ) (a b : LineView) (s t : State) (x y : List ℕ) → BeginsWithLine kind before input a s x
    → BeginsWithLine kind before input b t y → (a ≡ b) × (s ≡ t) × (x ≡ y)
line_unique kind before input a b s t x y (tree_comes _ hex _ has) (tree_comes _ hex' _ has') =
    let same = field_unique (codes "tree") input hex x hex' y has.0 has'.0 in (ap tree_line same.0, refl, same.1)
line_unique kind before input a b s t x y (parent_comes _ hex _ has) (parent_comes _ hex' _ has') =
    let same = field_unique (codes "parent") input hex x hex' y has.0 has'.0 in (ap parent_line same.0, refl, same.1)
line_unique kind before input a b s t x y (parent_comes _ hex _ has) (author_comes _ content _ has') =
    let same : 112 ≡ 97 = first_bytes_eq 112 97 _ _
    (sym (input_of_flat_field (codes "parent") input hex x has.0) ∙ input_of_flat_field (codes "author") input content y has'.0) in absurd
    (omega (arith, same))
line_unique kind before input a b s t x y (author_comes _ content _ has) (parent_comes _ hex _ has') =
    let same : 97 ≡ 112 = first_bytes_eq 97 112 _ _
    (sym (input_of_flat_field (codes "author") input content x has.0) ∙ input_of_flat_field (codes "parent") input hex y has'.0) in absurd
    (omega (arith, same))
line_unique kind before input a b s t x y (author_comes _ content _ has) (author_comes _ bytes' _ has') =
    let same = field_unique (codes "author") input content x bytes' y has.0 has'.0 in (ap author_line same.0, refl, same.1)
line_unique kind before input a b s t x y (committer_comes _ content _ has) (committer_comes _ bytes' _ has') =
    let same = field_unique (codes "committer") input content x bytes' y has.0 has'.0 in (ap committer_line same.0, refl, same.1)
line_unique kind before input a b s t x y (encoding_comes _ encoding _ has) (encoding_comes _ encoding' _ has') =
    let same = field_unique (codes "encoding") input encoding x encoding' y has has' in (ap encoding_line same.0, refl, same.1)
line_unique kind before input a b s t x y (encoding_comes _ encoding _ has) (first_header_comes _ header _ has' other) =
    absurd (other (header_name_of_field input (codes "encoding") encoding x header y encoding_name_space_free has has'))
line_unique kind before input a b s t x y (encoding_comes _ encoding _ has) (first_message_comes _ message is) =
    let same : 101 ≡ 10 = first_bytes_eq 101 10 _ _ (sym (input_of_flat_field (codes "encoding") input encoding x has) ∙ is) in absurd (omega (arith, same))
line_unique kind before input a b s t x y (first_header_comes _ header _ has other) (encoding_comes _ encoding _ has') =
    absurd (other (header_name_of_field input (codes "encoding") encoding y header x encoding_name_space_free has' has))
line_unique kind before input a b s t x y (first_header_comes _ header _ has other) (first_header_comes _ header' _ has' other') =
    let same = header_unique input header header' x y has has' in (ap header_line same.0, refl, same.1)
line_unique kind before input a b s t x y (first_header_comes _ header _ has other) (first_message_comes _ message is) =
    absurd (no_header_of_newline input header x message has is)
line_unique kind before input a b s t x y (first_message_comes _ message is) (encoding_comes _ encoding _ has) =
    let same : 10 ≡ 101 = first_bytes_eq 10 101 _ _ (sym is ∙ input_of_flat_field (codes "encoding") input encoding y has) in absurd (omega (arith, same))
line_unique kind before input a b s t x y (first_message_comes _ message is) (first_header_comes _ header _ has other) =
    absurd (no_header_of_newline input header y message has is)
line_unique kind before input a b s t x y (first_message_comes _ message is) (first_message_comes _ message' is') = let same : message ≡ message' =
    cc (sym is ∙ is') in (ap message_line same, refl, refl)
line_unique kind before input a b s t x y (header_comes _ header _ has) (header_comes _ header' _ has') =
    let same = header_unique input header header' x y has has' in (ap header_line same.0, refl, same.1)
line_unique kind before input a b s t x y (header_comes _ header _ has) (message_comes _ message is) =
    absurd (no_header_of_newline input header x message has is)
line_unique kind before input a b s t x y (message_comes _ message is) (header_comes _ header _ has) =
    absurd (no_header_of_newline input header y message has is)
line_unique kind before input a b s t x y (message_comes _ message is) (message_comes _ message' is') = let same : message ≡ message' =
    cc (sym is ∙ is') in (ap message_line same, refl, refl)

pub header_len_lt : (input : List ℕ) (header : Header) (rest : List ℕ) → BeginsWithHeader input header rest → length rest < length input
header_len_lt input header rest it =
    let is = it.written in
    omega (
      arith,
      ap length it.joined,
      ap length is.joined,
      length-append it.encoded rest,
      length-append (header.name ++ 32 ∷ (is.first ++ 10 ∷ [])) (flat_map encode_continuation is.more),
      length-append header.name (32 ∷ (is.first ++ 10 ∷ [])),
      length-append is.first (10 ∷ []),
    )

-- ---- the rest after a line is shorter

field_rest_len_lt : (name input value rest : List ℕ) → BeginsWithField name input value rest → length rest < length input
field_rest_len_lt name input value rest has =
    omega (arith, ap length (input_of_flat_field name input value rest has), length-append name (32 ∷ (value ++ 10 ∷ rest)), length-append value (10 ∷ rest))

pub line_len_lt : (kind : Kind) (before : State) (input : List ℕ) (line : LineView) (following : State) (rest : List ℕ)
    → BeginsWithLine kind before input line following rest → length rest < length input
line_len_lt kind before input line following rest (tree_comes _ hex _ has) = field_rest_len_lt _ input hex rest has.0
line_len_lt kind before input line following rest (parent_comes _ hex _ has) = field_rest_len_lt _ input hex rest has.0
line_len_lt kind before input line following rest (author_comes _ content _ has) = field_rest_len_lt _ input content rest has.0
line_len_lt kind before input line following rest (committer_comes _ content _ has) = field_rest_len_lt _ input content rest has.0
line_len_lt kind before input line following rest (encoding_comes _ encoding _ has) = field_rest_len_lt _ input encoding rest has
line_len_lt kind before input line following rest (first_header_comes _ header _ has other) = header_len_lt input header rest has
line_len_lt kind before input line following rest (header_comes _ header _ has) = header_len_lt input header rest has
line_len_lt kind before input line following rest (first_message_comes _ message is) = omega (arith, ap length is)
line_len_lt kind before input line following rest (message_comes _ message is) = omega (arith, ap length is)

pub no_line_of_nil : (kind : Kind) (before : State) (input : List ℕ) (line : LineView) (following : State) (rest : List ℕ) → input ≡ []
    → BeginsWithLine kind before input line following rest → ⊥
no_line_of_nil kind before input line following rest none has =
    absurd (omega (arith, line_len_lt kind before input line following rest has, ap length none))
