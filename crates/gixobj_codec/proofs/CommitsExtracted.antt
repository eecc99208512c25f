-- States that the payload that is found in a signed commit is the one that was signed, for the laws on signed commits.
-- Every line before the message is a header: those of the tree, the parents, the actors and the encoding too. Bytes
-- therefore split uniquely into headers, with the first signature header among them, and a rest.
use Rattle.std.proofs.Common.{◌≡◌, ◌≢◌, ◌⊎◌, inl, inr, arith, ℕ, List, [], ◌∷◌, ◌++◌, ◌==◌, ◌∙◌, Bool, true, false, All, Option, Some, None, codes, refl, sym}
use Rattle.std.proofs.Common.{ap, subst, append_assoc, append-nil}
use Rattle.std.specs.Prelude.{if◌then◌else◌, cond, nat_eq, not}
use Rattle.std.specs.List.{filter, flat_map}
use Rattle.std.proofs.lemmas.Bool.{eqb-false}
use Rattle.std.proofs.lemmas.List.{append_cancel_right}
use Rattle.gixobj_hash.proofs.Splits.{byte_free_of_all_pass}
use Rattle.std.specs.Cmp.Lexicographic.{bytes_decides, pointwise}
use Rattle.std.proofs.lemmas.Grind.{flat_map-append}
use Rattle.std.proofs.lemmas.List.Elements.{All-append, All-cons, All-head, All-nil, All-tail}
use Rattle.gixobj_commit.specs.CommitWriting.{encode_commit}
use Rattle.gixobj_grammar.specs.CommitSignatures.{signature_field, HasCommitSignature}
use Rattle.gixobj_parse.proofs.HeaderFields.{header_unique}
use Rattle.gixobj_encode.proofs.HeadersRoundTrip.{header_round_trips}
use Rattle.gixobj_encode.specs.FieldWriting.{encode_header, value_lines}
use Rattle.gixobj_hash.specs.HeaderFormat.{EndsHeader, BeginsWithField, BeginsWithHeader, Header, IsHeaderName, DecodesToHeader, encode_continuation}
use Rattle.gixobj_hash.specs.HeaderFormat.{value_of_lines}
use Rattle.gixobj_hash.specs.FieldFormat.{encode_field, encode_line}
use Rattle.gixobj_hash.specs.Runs.{BeginsWithPieces}
use Rattle.gixobj_hash.specs.declared.hash.kind.Kind.{Kind}
use Rattle.gixobj_hash.specs.declared.hash.kind.Kind.TheVariants as hash
use Rattle.gixobj_grammar.specs.Commit.{DecodesToHeaders, CommitLines, before_encoding, encode_encoding, encode_ids, encode_parent}
use Rattle.gixobj_grammar.specs.Lines.{BeginsWithLine, LineView, author_comes, committer_comes, encoding_comes, first_header_comes, first_message_comes}
use Rattle.gixobj_grammar.specs.Lines.{header_comes, header_line, message_comes, parent_comes, tree_comes}
use Rattle.gixobj_grammar.specs.declared.lines.State.{State}
use Rattle.gixobj_grammar.specs.declared.lines.State.TheVariants as state
use Rattle.gixobj_hash.specs.Bytes.{newline, space}
use Rattle.gixobj_hash.specs.ByteStrings.{IsByteFree}
use Rattle.gixobj_grammar.specs.CommitHeaders.{IsNamedLine}
use Rattle.gixobj_commit.specs.CommitSigning.{is_header_named, with_signature, without_headers}
use Rattle.gixobj_codec.specs.LineFields.{HasHeaderNames, HasLineFields, IsOneLine}

-- ---- headers, one after the other

ends_header_of_name : (name first more rest : List ℕ) → IsHeaderName name → EndsHeader (((name ++ first) ++ more) ++ rest)
ends_header_of_name [] first more rest named = absurd (named.not_empty refl)
ends_header_of_name (byte ∷ name) first more rest named = All-head (λ it. it ≢ 32) byte name named.no_space

pub ends_header_append : (one rest : List ℕ) (header : Header) → DecodesToHeader one header → EndsHeader (one ++ rest)
ends_header_append one rest header is =
    subst (λ (it : List ℕ). EndsHeader (it ++ rest)) (sym is.joined)
    (ends_header_of_name header.name (32 ∷ encode_line is.first) (flat_map encode_continuation is.more) rest is.named)

ends_header_before_header : (leading one rest : List ℕ) (headers : List Header) (header : Header) → DecodesToHeaders leading headers
    → DecodesToHeader one header
    → EndsHeader (leading ++ (one ++ rest))
ends_header_before_header leading one rest [] header none is = subst (λ (it : List ℕ). EndsHeader (it ++ (one ++ rest))) (sym none)
    (ends_header_append one rest header is)
ends_header_before_header leading one rest (h ∷ hs) header (first, more, joined, written, others) is =
    subst (λ (it : List ℕ). EndsHeader (it ++ (one ++ rest))) (sym joined)
    (subst EndsHeader (sym (append_assoc first more (one ++ rest))) (ends_header_append first (more ++ (one ++ rest)) h written))

pub has_header_last : (leading one rest : List ℕ) (header : Header) → leading ≡ [] → DecodesToHeader one header → EndsHeader rest
    → BeginsWithHeader (leading ++ (one ++ rest)) header rest
has_header_last leading one rest header none is ends =
    record { encoded = one; joined = ap (λ (it : List ℕ). it ++ (one ++ rest)) none; written = is; ends = ends }

pub has_header_before_last : (leading first more one rest : List ℕ) (h header : Header) (hs : List Header) → leading ≡ first ++ more → DecodesToHeader first h
    → DecodesToHeaders more hs → DecodesToHeader one header
    → BeginsWithHeader (leading ++ (one ++ rest)) h (more ++ (one ++ rest))
has_header_before_last leading first more one rest h header hs joined written others is = record {
  encoded = first;
  joined = ap (λ (it : List ℕ). it ++ (one ++ rest)) joined ∙ append_assoc first more (one ++ rest);
  written = written;
  ends = ends_header_before_header more one rest hs header others is;
}

-- bytes have at most one first header of a name, so all splits into headers have the same one, and leave the same bytes
-- without it
pub signature_split_unique : (name : List ℕ) (ps qs : List Header) (p q : Header) (fp op rp fq oq rq : List ℕ)
    → DecodesToHeaders fp ps → All (λ h. h.name ≢ name) ps → DecodesToHeader op p → p.name ≡ name → EndsHeader rp
    → DecodesToHeaders fq qs → All (λ h. h.name ≢ name) qs → DecodesToHeader oq q → q.name ≡ name → EndsHeader rq
    → fp ++ (op ++ rp) ≡ fq ++ (oq ++ rq) → (fp ++ rp ≡ fq ++ rq) × (p ≡ q) × (rp ≡ rq)
signature_split_unique name [] [] p q fp op rp fq oq rq np ap_ wp namep ep nq aq wq nameq eq same =
    let e = header_unique (fp ++ (op ++ rp)) p q rp rq (has_header_last fp op rp p np wp ep)
    (subst (λ (it : List ℕ). BeginsWithHeader it q rq) (sym same) (has_header_last fq oq rq q nq wq eq)) in
    (ap (λ (it : List ℕ). it ++ rp) np ∙ e.1 ∙ sym (ap (λ (it : List ℕ). it ++ rq) nq), e.0, e.1)
signature_split_unique name [] (k ∷ ks) p q fp op rp fq oq rq np ap_ wp namep ep (first, more, joined, written, others) aq wq nameq eq same =
    let e = header_unique (fp ++ (op ++ rp)) p k rp (more ++ (oq ++ rq)) (has_header_last fp op rp p np wp ep)
    (subst (λ (it : List ℕ). BeginsWithHeader it k (more ++ (oq ++ rq))) (sym same)
    (has_header_before_last fq first more oq rq k q ks joined written others wq)) in
    absurd (All-head (λ (h : Header). h.name ≢ name) k ks aq (sym (ap (λ (h : Header). h.name) e.0) ∙ namep))
signature_split_unique name (k ∷ ks) [] p q fp op rp fq oq rq (first, more, joined, written, others) ap_ wp namep ep nq aq wq nameq eq same =
    let e = header_unique (fp ++ (op ++ rp)) k q (more ++ (op ++ rp)) rq (has_header_before_last fp first more op rp k p ks joined written others wp)
    (subst (λ (it : List ℕ). BeginsWithHeader it q rq) (sym same) (has_header_last fq oq rq q nq wq eq)) in
    absurd (All-head (λ (h : Header). h.name ≢ name) k ks ap_ (ap (λ (h : Header). h.name) e.0 ∙ nameq))
signature_split_unique name (k ∷ ks) (j ∷ js) p q fp op rp fq oq rq (first, more, joined, written, others) ap_ wp namep ep
    (first', more', joined', written', others') aq wq
    nameq eq same =
    let e = header_unique (fp ++ (op ++ rp)) k j (more ++ (op ++ rp)) (more' ++ (oq ++ rq))
    (has_header_before_last fp first more op rp k p ks joined written others wp)
    (subst (λ (it : List ℕ). BeginsWithHeader it j (more' ++ (oq ++ rq))) (sym same)
    (has_header_before_last fq first' more' oq rq j q js joined' written' others' wq)) in
    let firsts : first ≡ first' = sym (header_round_trips first k written) ∙ ap encode_header e.0 ∙ header_round_trips first' j written' in
    let rests : (more ++ rp ≡ more' ++ rq) × (p ≡ q) × (rp ≡ rq) = signature_split_unique name ks js p q more op rp more' oq rq others
    (All-tail (λ (h : Header). h.name ≢ name) k ks ap_)
    wp namep
    ep others' (All-tail (λ (h : Header). h.name ≢ name) j js aq) wq nameq eq e.1 in (
      ap (λ (it : List ℕ). it ++ rp) joined ∙ append_assoc first more rp
          ∙ ap (λ (it : List ℕ). it ++ (more ++ rp)) firsts ∙ ap (λ (it : List ℕ). first' ++ it) rests.0
          ∙ sym (append_assoc first' more' rq) ∙ sym (ap (λ (it : List ℕ). it ++ rq) joined'),
      rests.1,
      rests.2,
    )

-- the bytes are headers, none of this name
pub record Blocks (name content : List ℕ) : Type 0 where
  pub headers : List Header
  pub are : DecodesToHeaders content headers
  pub others : All (λ h. h.name ≢ name) headers

pub encodings_join : (a b : List ℕ) (hs ks : List Header) → DecodesToHeaders a hs → DecodesToHeaders b ks → DecodesToHeaders (a ++ b) (hs ++ ks)
encodings_join a b [] ks none are = subst (λ (it : List ℕ). DecodesToHeaders (it ++ b) ks) (sym none) are
encodings_join a b (h ∷ hs) ks (first, more, joined, written, others) are =
    (first, more ++ b, ap (λ (it : List ℕ). it ++ b) joined ∙ append_assoc first more b, written, encodings_join more b hs ks others are)

pub blocks_append : (name a b : List ℕ) → Blocks name a → Blocks name b → Blocks name (a ++ b)
blocks_append name a b x y = record {
  headers = x.headers ++ y.headers;
  are = encodings_join a b x.headers y.headers x.are y.are;
  others = All-append
      (λ (h : Header). h.name ≢ name) x.headers y.headers x.others y.others;
}

pub blocks_nil : (name : List ℕ) → Blocks name []
blocks_nil name = record { headers = []; are = refl; others = All-nil (λ (h : Header). h.name ≢ name) }

blocks_of_header : (name one : List ℕ) (header : Header) → DecodesToHeader one header → header.name ≢ name → Blocks name one
blocks_of_header name one header is other = record {
  headers = header ∷ [];
  are = (one, [], sym (append-nil one), is, refl);
  others = All-cons (λ (h : Header). h.name ≢ name) header [] other (All-nil (λ (h : Header). h.name ≢ name));
}

-- ---- a field is a header of one line, and no signature

encode_field_decodes_to_header : (name value : List ℕ) → IsHeaderName name → IsByteFree newline value
    → DecodesToHeader (encode_field name value) (record { name = name; value = value })
encode_field_decodes_to_header name value named free = record {
  first = value;
  more = [];
  joined = sym (append-nil (encode_field name value));
  named = named;
  one_line = free;
  each_one_line = All-nil (λ (line : List ℕ). IsByteFree newline line);
  value = refl;
}

tree_is_header_name : IsHeaderName (codes "tree")
tree_is_header_name = record {
  not_empty = λ none. cc none;
  no_space = byte_free_of_all_pass space (codes "tree") refl;
  no_newline = byte_free_of_all_pass newline
      (codes "tree") refl;
}

parent_is_header_name : IsHeaderName (codes "parent")
parent_is_header_name = record {
  not_empty = λ none. cc none;
  no_space = byte_free_of_all_pass space (codes "parent") refl;
  no_newline = byte_free_of_all_pass newline
      (codes "parent") refl;
}

author_is_header_name : IsHeaderName (codes "author")
author_is_header_name = record {
  not_empty = λ none. cc none;
  no_space = byte_free_of_all_pass space (codes "author") refl;
  no_newline = byte_free_of_all_pass newline
      (codes "author") refl;
}

committer_is_header_name : IsHeaderName (codes "committer")
committer_is_header_name = record {
  not_empty = λ none. cc none;
  no_space = byte_free_of_all_pass space (codes "committer") refl;
  no_newline = byte_free_of_all_pass newline
      (codes "committer") refl;
}

encoding_is_header_name : IsHeaderName (codes "encoding")
encoding_is_header_name = record {
  not_empty = λ none. cc none;
  no_space = byte_free_of_all_pass space (codes "encoding") refl;
  no_newline = byte_free_of_all_pass newline
      (codes "encoding") refl;
}

pub signature_field_is_header_name : (kind : Kind) → IsHeaderName (signature_field kind)
signature_field_is_header_name hash.Sha1 =
    record {
      not_empty = λ none. cc none;
      no_space = byte_free_of_all_pass space (codes "gpgsig") refl;
      no_newline = byte_free_of_all_pass newline
          (codes "gpgsig") refl;
    }
signature_field_is_header_name hash.Sha256 = record {
  not_empty = λ none. cc none;
  no_space = byte_free_of_all_pass space (codes "gpgsig-sha256") refl;
  no_newline = byte_free_of_all_pass newline
      (codes "gpgsig-sha256") refl;
}

name_ne_signature_field : (kind : Kind) (byte : ℕ) (name : List ℕ) → byte ≢ 103 → byte ∷ name ≢ signature_field kind
name_ne_signature_field hash.Sha1 byte name other same = other (cc same)
name_ne_signature_field hash.Sha256 byte name other same = other (cc same)

tree_ne_signature_field : (kind : Kind) → codes "tree" ≢ signature_field kind
tree_ne_signature_field kind = name_ne_signature_field kind 116 _ (λ same. grind (arith, same))

parent_ne_signature_field : (kind : Kind) → codes "parent" ≢ signature_field kind
parent_ne_signature_field kind = name_ne_signature_field kind 112 _ (λ same. grind (arith, same))

author_ne_signature_field : (kind : Kind) → codes "author" ≢ signature_field kind
author_ne_signature_field kind = name_ne_signature_field kind 97 _ (λ same. grind (arith, same))

committer_ne_signature_field : (kind : Kind) → codes "committer" ≢ signature_field kind
committer_ne_signature_field kind = name_ne_signature_field kind 99 _ (λ same. grind (arith, same))

encoding_ne_signature_field : (kind : Kind) → codes "encoding" ≢ signature_field kind
encoding_ne_signature_field kind = name_ne_signature_field kind 101 _ (λ same. grind (arith, same))

blocks_of_encode_field : (kind : Kind) (name value : List ℕ) → IsHeaderName name → name ≢ signature_field kind → IsByteFree newline value
    → Blocks (signature_field kind) (encode_field name value)
blocks_of_encode_field kind name value named other free = blocks_of_header (signature_field kind) (encode_field name value)
    (record { name = name; value = value })
    (encode_field_decodes_to_header name value named free) other

-- ---- consumed lines are such headers

-- a line is the message, after which nothing is decoded, or headers of other names
abbrev pub IsBlockLine : Kind → List ℕ → State → List ℕ → Type 0
IsBlockLine kind content next after = ((next ≡ state.End) × ((message : List ℕ) × (content ≡ 10 ∷ message)))
    ⊎ ((one : List ℕ) × (content ≡ one ++ after) × Blocks (signature_field kind) one)

is_block_line_of_field : (kind : Kind) (name content value : List ℕ) (next : State) (after : List ℕ) → IsHeaderName name → name ≢ signature_field kind
    → BeginsWithField name content value after → IsBlockLine kind content next after
is_block_line_of_field kind name content value next after named other has =
    inr (encode_field name value, has.joined, blocks_of_encode_field kind name value named other has.one_line)

pub block_line_of_header : (kind : Kind) (here : State) (content : List ℕ) (line : LineView) (next : State) (after : List ℕ)
    → BeginsWithLine kind here content line next after
    → ¬ IsNamedLine (signature_field kind) line → IsBlockLine kind content next after
block_line_of_header kind here content line next after (tree_comes _ hex _ has) other =
    is_block_line_of_field kind (codes "tree") content hex state.Parents after tree_is_header_name
    (tree_ne_signature_field kind) has.0
block_line_of_header kind here content line next after (parent_comes _ hex _ has) other =
    is_block_line_of_field kind (codes "parent") content hex state.Parents after parent_is_header_name
    (parent_ne_signature_field kind) has.0
block_line_of_header kind here content line next after (author_comes _ actor _ has) other =
    is_block_line_of_field kind (codes "author") content actor state.Committer after author_is_header_name (author_ne_signature_field kind) has.0
block_line_of_header kind here content line next after (committer_comes _ actor _ has) other =
    is_block_line_of_field kind (codes "committer") content actor state.Encoding after committer_is_header_name (committer_ne_signature_field kind) has.0
block_line_of_header kind here content line next after (encoding_comes _ encoding _ has) other =
    is_block_line_of_field kind (codes "encoding") content encoding state.ExtraHeaders after encoding_is_header_name (encoding_ne_signature_field kind) has
block_line_of_header kind here content line next after (first_header_comes _ header _ has unlike) other =
    inr (has.encoded, has.joined, blocks_of_header (signature_field kind) has.encoded header has.written other)
block_line_of_header kind here content line next after (header_comes _ header _ has) other =
    inr (has.encoded, has.joined, blocks_of_header (signature_field kind) has.encoded header has.written other)
block_line_of_header kind here content line next after (first_message_comes _ message is) other = inl (refl, (message, is))
block_line_of_header kind here content line next after (message_comes _ message is) other = inl (refl, (message, is))

no_line_at_end : (kind : Kind) (here : State) (content : List ℕ) (line : LineView) (next : State) (after : List ℕ) → here ≡ state.End
    → BeginsWithLine kind here content line next after → ⊥
no_line_at_end kind here content line next after is (tree_comes _ hex _ has) = cc is
no_line_at_end kind here content line next after is (parent_comes _ hex _ has) = cc is
no_line_at_end kind here content line next after is (author_comes _ actor _ has) = cc is
no_line_at_end kind here content line next after is (committer_comes _ actor _ has) = cc is
no_line_at_end kind here content line next after is (encoding_comes _ encoding _ has) = cc is
no_line_at_end kind here content line next after is (first_header_comes _ header _ has unlike) = cc is
no_line_at_end kind here content line next after is (header_comes _ header _ has) = cc is
no_line_at_end kind here content line next after is (first_message_comes _ message same) = cc is
no_line_at_end kind here content line next after is (message_comes _ message same) = cc is

no_line_after_end : (kind : Kind) (lines : List LineView) (next : State) (after : List ℕ) (before : State) (input : List ℕ) (line : LineView)
    (next_state : State) (rest : List ℕ)
    → next ≡ state.End → BeginsWithPieces (BeginsWithLine kind) next after lines before input → BeginsWithLine kind before input line next_state rest → ⊥
no_line_after_end kind [] next after before input line next_state rest is begins_with comes = no_line_at_end kind before input line next_state rest
    (sym begins_with.0 ∙ is) comes
no_line_after_end kind (first ∷ lines) next after before input line next_state rest is (n, a, has, more) comes =
    no_line_at_end kind next after first n a is has

-- the bytes before the signature header are headers of other names
BlocksBefore : Kind → List ℕ → List ℕ → Type 0
BlocksBefore kind content input = (leading : List ℕ) × (content ≡ leading ++ input) × Blocks (signature_field kind) leading

blocks_before_snoc : (kind : Kind) (lines : List LineView) (content : List ℕ) (next : State) (after : List ℕ) (before : State) (input : List ℕ)
    (line : LineView)
    (next_state : State) (rest : List ℕ)
    → IsBlockLine kind content next after → BeginsWithPieces (BeginsWithLine kind) next after lines before input
    → BeginsWithLine kind before input line next_state rest
    → BlocksBefore kind after input → BlocksBefore kind content input
unfolding BlocksBefore
blocks_before_snoc kind lines content next after before input line next_state rest (inl (is, (message, same))) begins_with comes blocks =
    absurd (no_line_after_end kind lines next after before input line next_state rest is begins_with comes)
blocks_before_snoc kind lines content next after before input line next_state rest (inr (one, joined, block)) begins_with comes (leading, is, blocks) = (
  one ++ leading,
  joined ∙ ap (λ (it : List ℕ). one ++ it) is ∙ sym (append_assoc one leading input),
  blocks_append
      (signature_field kind) one leading block blocks,
)

blocks_before_of_begins_with : (kind : Kind) (lines : List LineView) (here : State) (content : List ℕ) (before : State) (input : List ℕ) (line : LineView)
    (next_state : State)
    (rest : List ℕ)
    → BeginsWithPieces (BeginsWithLine kind) here content lines before input → All (λ it. ¬ IsNamedLine (signature_field kind) it) lines
    → BeginsWithLine kind before input line next_state rest → BlocksBefore kind content input
unfolding BlocksBefore
blocks_before_of_begins_with kind [] here content before input line next_state rest begins_with others comes =
    ([], begins_with.1, blocks_nil (signature_field kind))
blocks_before_of_begins_with kind (first ∷ lines) here content before input line next_state rest (next, after, has, more) others comes =
    blocks_before_snoc kind lines content next after before input line next_state rest
    (block_line_of_header kind here content first next after has (All-head (λ (it : LineView). ¬ IsNamedLine (signature_field kind) it) first lines others))
    more comes
    (blocks_before_of_begins_with kind lines next after before input line next_state rest more
    (All-tail (λ (it : LineView). ¬ IsNamedLine (signature_field kind) it) first lines others) comes)

-- the bytes before a signature header, which are headers of other names
pub before_header : (kind : Kind) (lines : List LineView) (here : State) (content : List ℕ) (before : State) (input : List ℕ) (line : LineView)
    (next_state : State)
    (rest : List ℕ)
    → BeginsWithPieces (BeginsWithLine kind) here content lines before input → All (λ it. ¬ IsNamedLine (signature_field kind) it) lines
    → BeginsWithLine kind before input line next_state rest → (leading : List ℕ) × (content ≡ leading ++ input) × Blocks (signature_field kind) leading
unfolding BlocksBefore
before_header kind lines here content before input line next_state rest begins_with others comes =
    blocks_before_of_begins_with kind lines here content before input line next_state rest begins_with others comes

pub header_here : (kind : Kind) (before : State) (input : List ℕ) (header : Header) (next_state : State) (rest : List ℕ)
    → BeginsWithLine kind before input (header_line header) next_state rest → BeginsWithHeader input header rest
header_here kind before input header next_state rest (first_header_comes _ _ _ has unlike) = has
header_here kind before input header next_state rest (header_comes _ _ _ has) = has

-- ---- what is written before the signature is such headers

abbrev AreLines : List ℕ × List (List ℕ) → Type 0
AreLines lines = IsByteFree newline lines.0 × All (λ line. IsByteFree newline line) lines.1

abbrev no_lines : List (List ℕ)
no_lines = []

are_lines_of_one_byte : (t : Bool) (byte : ℕ) → (byte == 10) ≡ t → AreLines (if t then ([], no_lines) else (byte ∷ [], no_lines))
are_lines_of_one_byte true byte is = (All-nil (λ (it : ℕ). it ≢ newline), All-nil (λ (line : List ℕ). IsByteFree newline line))
are_lines_of_one_byte false byte is = (
  All-cons (λ (it : ℕ). it ≢ newline) byte [] (eqb-false byte 10 is) (All-nil (λ (it : ℕ). it ≢ newline)),
  All-nil
      (λ (line : List ℕ). IsByteFree newline line),
)

are_lines_cons : (t : Bool) (byte : ℕ) (first : List ℕ) (more : List (List ℕ)) → (byte == 10) ≡ t → IsByteFree newline first
    → All (λ line. IsByteFree newline line) more
    → AreLines (if t then ([], first ∷ more) else (byte ∷ first, more))
are_lines_cons true byte first more is free each =
    (All-nil (λ (it : ℕ). it ≢ newline), All-cons (λ (line : List ℕ). IsByteFree newline line) first more free each)
are_lines_cons false byte first more is free each = (All-cons (λ (it : ℕ). it ≢ newline) byte first (eqb-false byte 10 is) free, each)

are_lines_of_value_lines : (value : List ℕ) → AreLines (value_lines value)
are_lines_of_value_lines [] = (All-nil (λ (it : ℕ). it ≢ newline), All-nil (λ (line : List ℕ). IsByteFree newline line))
are_lines_of_value_lines (byte ∷ []) = are_lines_of_one_byte (byte == 10) byte refl
are_lines_of_value_lines (byte ∷ next ∷ rest) =
    let next_state : AreLines (value_lines (next ∷ rest)) = are_lines_of_value_lines (next ∷ rest) in
    are_lines_cons (byte == 10) byte (value_lines (next ∷ rest)).0 (value_lines (next ∷ rest)).1 refl next_state.0 next_state.1

-- the header that the encoding of a header decodes to, which has its name
abbrev pub read_again : Header → Header
read_again header = record { name = header.name; value = value_of_lines (value_lines header.value).0 (value_lines header.value).1 }

pub encode_header_decodes : (header : Header) → IsHeaderName header.name → DecodesToHeader (encode_header header) (read_again header)
encode_header_decodes header named =
    let free : AreLines (value_lines header.value) = are_lines_of_value_lines header.value in
    record {
      first = (value_lines header.value).0;
      more = (value_lines header.value).1;
      joined = sym (append_assoc header.name (32 ∷ encode_line (value_lines header.value).0)
          (flat_map encode_continuation (value_lines header.value).1));
      named = named;
      one_line = free.0;
      each_one_line = free.1;
      value = refl;
    }

pub unlike_name : (name : List ℕ) (header : Header) → is_header_named name header ≡ false → header.name ≢ name
unlike_name name header other same =
    let e : pointwise nat_eq header.name name ≡ true = (bytes_decides header.name name).1 same in
    let f : true ≡ false = sym e ∙ other in
    cc f

blocks_of_cond_header : (name : List ℕ) (header : Header) (headers : List Header) (t : Bool) → is_header_named name header ≡ t → IsHeaderName header.name
    → Blocks name (flat_map encode_header headers)
    → Blocks name (flat_map encode_header (cond (not t) (header ∷ headers) headers))
blocks_of_cond_header name header headers true is named blocks = blocks
blocks_of_cond_header name header headers false is named blocks =
    blocks_append name (encode_header header) (flat_map encode_header headers)
    (blocks_of_header name (encode_header header) (read_again header) (encode_header_decodes header named)
    (unlike_name name header is)) blocks

blocks_of_other_headers : (name : List ℕ) (headers : List Header) → All (λ header. IsHeaderName header.name) headers
    → Blocks name (flat_map encode_header (filter (λ header. not (is_header_named name header)) headers))
blocks_of_other_headers name [] named = blocks_nil name
blocks_of_other_headers name (header ∷ headers) named =
    blocks_of_cond_header name header (filter (λ header. not (is_header_named name header)) headers) (is_header_named name header) refl
    (All-head (λ (h : Header). IsHeaderName h.name) header headers named)
    (blocks_of_other_headers name headers (All-tail (λ (h : Header). IsHeaderName h.name) header headers named))

blocks_of_parents : (kind : Kind) (parents : List (List ℕ)) → All (λ hex. IsByteFree newline hex) parents
    → Blocks (signature_field kind) (flat_map encode_parent parents)
blocks_of_parents kind [] free = blocks_nil (signature_field kind)
blocks_of_parents kind (hex ∷ parents) free =
    blocks_append (signature_field kind) (encode_parent hex) (flat_map encode_parent parents)
    (blocks_of_encode_field kind (codes "parent") hex parent_is_header_name (parent_ne_signature_field kind)
    (All-head (λ (it : List ℕ). IsByteFree newline it) hex parents free))
    (blocks_of_parents kind parents (All-tail (λ (it : List ℕ). IsByteFree newline it) hex parents free))

pub encoding_blocks : (kind : Kind) (encoding : Option (List ℕ)) → IsOneLine encoding → Blocks (signature_field kind) (encode_encoding encoding)
encoding_blocks kind None free = blocks_nil (signature_field kind)
encoding_blocks kind (Some encoding) free = blocks_of_encode_field kind (codes "encoding") encoding encoding_is_header_name
    (encoding_ne_signature_field kind) free

-- the fields of one line
pub prefix_blocks : (kind : Kind) (commit : CommitLines) → HasLineFields commit → Blocks (signature_field kind) (before_encoding commit)
prefix_blocks kind commit fields =
    blocks_append (signature_field kind) (encode_ids commit ++ encode_field (codes "author") commit.author) (encode_field (codes "committer") commit.committer)
    (blocks_append (signature_field kind) (encode_ids commit) (encode_field (codes "author") commit.author)
    (blocks_append (signature_field kind) (encode_field (codes "tree") commit.tree) (flat_map encode_parent commit.parents)
    (blocks_of_encode_field kind (codes "tree") commit.tree tree_is_header_name (tree_ne_signature_field kind) fields.tree)
    (blocks_of_parents kind commit.parents fields.parents))
    (blocks_of_encode_field kind (codes "author") commit.author author_is_header_name (author_ne_signature_field kind) fields.author))
    (blocks_of_encode_field kind (codes "committer") commit.committer committer_is_header_name (committer_ne_signature_field kind) fields.committer)

signed_commit_append_assoc : (leading headers one message : List ℕ) → (leading ++ (headers ++ (one ++ []))) ++ message
    ≡ (leading ++ headers) ++ (one ++ message)
signed_commit_append_assoc leading headers one message = simp (append_assoc, append-nil)

-- ---- the encoding of a signed commit

module _ (kind : Kind) (commit : CommitLines) (bytes : List ℕ) (named : HasHeaderNames commit) (fields : HasLineFields commit) where
  abbrev pub the_header : Header
  the_header = record { name = signature_field kind; value = bytes }

  abbrev pub kept_headers : List Header
  kept_headers = filter (λ header. not (is_header_named (signature_field kind) header)) commit.extra_headers

  abbrev pub unsigned_prefix : List ℕ
  unsigned_prefix = (before_encoding commit ++ encode_encoding commit.encoding) ++ flat_map encode_header kept_headers

  pub written_blocks : Blocks (signature_field kind) unsigned_prefix
  written_blocks =
      blocks_append (signature_field kind) (before_encoding commit ++ encode_encoding commit.encoding) (flat_map encode_header kept_headers)
      (blocks_append (signature_field kind) (before_encoding commit) (encode_encoding commit.encoding) (prefix_blocks kind commit fields)
      (encoding_blocks kind commit.encoding fields.encoding))
      (blocks_of_other_headers (signature_field kind) commit.extra_headers named)

  pub signed_payload : encode_commit (with_signature kind bytes commit) ≡ unsigned_prefix ++ (encode_header the_header ++ 10 ∷ commit.message)
  signed_payload =
      ap (λ (it : List ℕ). ((before_encoding commit ++ encode_encoding commit.encoding) ++ it) ++ 10 ∷ commit.message)
      (flat_map-append encode_header kept_headers (the_header ∷ []))
      ∙ signed_commit_append_assoc (before_encoding commit ++ encode_encoding commit.encoding) (flat_map encode_header kept_headers) (encode_header the_header)
      (10 ∷ commit.message)

  -- the payload that is found is the one that was signed, the signature is that of the header, and the message follows
  signature_extracted : (value signed : List ℕ) → (has : HasCommitSignature kind (encode_commit (with_signature kind bytes commit)) value signed)
      → (signed ≡ encode_commit (without_headers (signature_field kind) commit)) × (value ≡ (read_again the_header).value)
      × (has.rest ≡ 10 ∷ commit.message)
  signature_extracted value signed has =
      let read = before_header kind has.begins_with.0 state.Tree (encode_commit (with_signature kind bytes commit)) has.before has.input
      (header_line has.header) has.following has.rest has.begins_with.1 has.begins_with.2 has.comes in
      let comes : BeginsWithHeader has.input has.header has.rest = header_here kind has.before has.input has.header has.following has.rest has.comes in
      let prefixes : has.prefix ≡ read.0 = append_cancel_right has.prefix read.0 has.input (sym has.joined ∙ read.1) in
      let once : (read.0 ++ has.rest ≡ unsigned_prefix ++ 10 ∷ commit.message) × (has.header ≡ read_again the_header) × (has.rest ≡ 10 ∷ commit.message) =
      signature_split_unique (signature_field kind) read.2.headers written_blocks.headers has.header (read_again the_header) read.0 comes.encoded has.rest
      unsigned_prefix
      (encode_header the_header) (10 ∷ commit.message)
      read.2.are read.2.others comes.written has.named comes.ends
      written_blocks.are written_blocks.others (encode_header_decodes the_header (signature_field_is_header_name kind)) refl (λ same. grind (arith, same))
      (ap (λ (it : List ℕ). read.0 ++ it) (sym comes.joined) ∙ sym read.1 ∙ signed_payload) in (
        has.remaining ∙ ap (λ (it : List ℕ). it ++ has.rest) prefixes ∙ once.0,
        has.received ∙ ap (λ (it : Header). it.value) once.1,
        once.2,
      )

  pub payload_extracted : (value signed : List ℕ) → HasCommitSignature kind (encode_commit (with_signature kind bytes commit)) value signed
      → signed ≡ encode_commit (without_headers (signature_field kind) commit)
  payload_extracted value signed has = (signature_extracted value signed has).0

  -- the value that is found consists of the lines of the signature
  pub value_extracted : (value signed : List ℕ) → HasCommitSignature kind (encode_commit (with_signature kind bytes commit)) value signed
      → value ≡ value_of_lines (value_lines bytes).0 (value_lines bytes).1
  value_extracted value signed has = (signature_extracted value signed has).1

  -- the message follows the signature that is found
  pub message_follows : (value signed : List ℕ) → (has : HasCommitSignature kind (encode_commit (with_signature kind bytes commit)) value signed)
      → has.rest ≡ 10 ∷ commit.message
  message_follows value signed has = (signature_extracted value signed has).2
