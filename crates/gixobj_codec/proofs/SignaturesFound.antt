-- States that a search in a signed commit finds a signature, and that in a commit it meets no malformed line, for their
-- laws.
use Rattle.std.proofs.Common.{◌≡◌, ◌≢◌, inl, inr, ◌<◌, arith, length, ℕ, List, [], ◌∷◌, ◌++◌, ◌∙◌, All, refl, sym, ap, subst, append_assoc}
use Rattle.std.proofs.lemmas.List.Elements.{All-head, All-tail}
use Rattle.gixobj_commit.specs.CommitWriting.{encode_commit}
use Rattle.gixobj_grammar.specs.CommitSignatures.{signature_field, HasNoSignature, IsCommitSignatureError}
use Rattle.gixobj_parse.proofs.HeaderFields.{header_unique}
use Rattle.gixobj_encode.specs.FieldWriting.{encode_header}
use Rattle.gixobj_hash.specs.HeaderFormat.{EndsHeader, BeginsWithHeader, BeginsWithNoHeader, Header, DecodesToHeader}
use Rattle.gixobj_hash.specs.Runs.{Yields, broken, complete, yields_end, yields_error, yields_piece}
use Rattle.gixobj_hash.specs.declared.decode.Error.TheVariants.{Malformed}
use Rattle.gixobj_hash.specs.declared.hash.kind.Kind.{Kind}
use Rattle.gixobj_grammar.proofs.LinesYielded.{yields_lines_of_commit}
use Rattle.gixobj_grammar.proofs.OneLine.{header_len_lt, no_header_of_newline, no_line_of_nil, line_unique}
use Rattle.gixobj_grammar.specs.Commit.{DecodesToHeaders, CommitLines, DecodesToCommit, lines_of_commit}
use Rattle.gixobj_grammar.specs.Lines.{BeginsWithLine, LineView}
use Rattle.gixobj_grammar.specs.declared.lines.State.{State}
use Rattle.gixobj_grammar.specs.declared.lines.State.TheVariants as state
use Rattle.gixobj_codec.proofs.CommitsExtracted.{Blocks, IsBlockLine, block_line_of_header, has_header_last, has_header_before_last, ends_header_append}
use Rattle.gixobj_codec.proofs.CommitsExtracted.{blocks_append, blocks_nil, read_again, signature_field_is_header_name, signed_payload, the_header}
use Rattle.gixobj_codec.proofs.CommitsExtracted.{unsigned_prefix, written_blocks, encode_header_decodes}
use Rattle.gixobj_grammar.specs.CommitHeaders.{IsNamedLine}
use Rattle.gixobj_commit.specs.CommitSigning.{with_signature}
use Rattle.gixobj_codec.specs.LineFields.{HasHeaderNames, HasLineFields}

pub ends_before_tail : (leading tail : List ℕ) (headers : List Header) → DecodesToHeaders leading headers → EndsHeader tail → EndsHeader (leading ++ tail)
ends_before_tail leading tail [] none ends = subst (λ (it : List ℕ). EndsHeader (it ++ tail)) (sym none) ends
ends_before_tail leading tail (h ∷ hs) (first, more, joined, written, others) ends =
    subst (λ (it : List ℕ). EndsHeader (it ++ tail)) (sym joined)
    (subst EndsHeader (sym (append_assoc first more tail)) (ends_header_append first (more ++ tail) h written))

pub comes_here : (leading first more tail : List ℕ) (h : Header) (hs : List Header) → leading ≡ first ++ more → DecodesToHeader first h
    → DecodesToHeaders more hs
    → EndsHeader tail → BeginsWithHeader (leading ++ tail) h (more ++ tail)
comes_here leading first more tail h hs joined written others ends = record {
  encoded = first;
  joined = ap (λ (it : List ℕ). it ++ tail) joined ∙ append_assoc first more tail;
  written = written;
  ends = ends_before_tail more tail hs others ends;
}

-- after headers of other names and then no header, no split into headers has one of the name
pub none_there : (name : List ℕ) (ps qs : List Header) (q : Header) (fp tail fq oq rq : List ℕ)
    → DecodesToHeaders fp ps → All (λ h. h.name ≢ name) ps → EndsHeader tail → BeginsWithNoHeader tail
    → DecodesToHeaders fq qs → DecodesToHeader oq q → q.name ≡ name → EndsHeader rq
    → fp ++ tail ≡ fq ++ (oq ++ rq) → ⊥
none_there name [] [] q fp tail fq oq rq np others ends lacks nq wq named eq same =
    lacks q rq (subst (λ (it : List ℕ). BeginsWithHeader it q rq) (sym same ∙ ap (λ (it : List ℕ). it ++ tail) np) (has_header_last fq oq rq q nq wq eq))
none_there name [] (k ∷ ks) q fp tail fq oq rq np others ends lacks (first, more, joined, written, rest) wq named eq same =
    lacks k (more ++ (oq ++ rq)) (subst (λ (it : List ℕ). BeginsWithHeader it k (more ++ (oq ++ rq))) (sym same ∙ ap (λ (it : List ℕ). it ++ tail) np)
    (has_header_before_last fq first more oq rq k q ks joined written rest wq))
none_there name (k ∷ ks) [] q fp tail fq oq rq (first, more, joined, written, rest) others ends lacks nq wq named eq same =
    let e = header_unique (fp ++ tail) k q (more ++ tail) rq (comes_here fp first more tail k ks joined written rest ends)
    (subst (λ (it : List ℕ). BeginsWithHeader it q rq) (sym same) (has_header_last fq oq rq q nq wq eq)) in
    All-head (λ (h : Header). h.name ≢ name) k ks others (ap (λ (h : Header). h.name) e.0 ∙ named)
none_there name (k ∷ ks) (j ∷ js) q fp tail fq oq rq (first, more, joined, written, rest) others ends lacks
    (first', more', joined', written', rest') wq named
    eq same =
    let e = header_unique (fp ++ tail) k j (more ++ tail) (more' ++ (oq ++ rq)) (comes_here fp first more tail k ks joined written rest ends)
    (subst (λ (it : List ℕ). BeginsWithHeader it j (more' ++ (oq ++ rq))) (sym same)
    (has_header_before_last fq first' more' oq rq j q js joined' written' rest' wq))
    in
    none_there name ks js q more tail more' oq rq rest (All-tail (λ (h : Header). h.name ≢ name) k ks others) ends lacks rest' wq named eq e.1

-- bytes that decode to their end without a header of the name: headers, and then nothing or the message
record InBlocks (kind : Kind) (content : List ℕ) : Type 0 where
  prefix : List ℕ
  tail : List ℕ
  joined : content ≡ prefix ++ tail
  blocks : Blocks (signature_field kind) prefix
  ends : EndsHeader tail
  lacks : BeginsWithNoHeader tail

not_lt_zero : (n : ℕ) → n < 0 → ⊥
not_lt_zero n less = absurd (omega arith)

begins_with_no_header_of_nil : BeginsWithNoHeader []
begins_with_no_header_of_nil header rest has = not_lt_zero (length rest) (header_len_lt [] header rest has)

in_blocks_of_line : (kind : Kind) (content : List ℕ) (next : State) (after : List ℕ) → IsBlockLine kind content next after → InBlocks kind after
    → InBlocks kind content
in_blocks_of_line kind content next after (inl (is, (message, same))) rest = record {
  prefix = [];
  tail = content;
  joined = refl;
  blocks = blocks_nil (signature_field kind);
  ends = subst EndsHeader (sym same) (λ other. grind (arith, other));
  lacks = λ header following has. no_header_of_newline content header following message has same;
}
in_blocks_of_line kind content next after (inr (one, joined, block)) rest = record {
  prefix = one ++ rest.prefix;
  tail = rest.tail;
  joined = joined ∙ ap (λ (it : List ℕ). one ++ it) rest.joined ∙ sym (append_assoc one rest.prefix rest.tail);
  blocks = blocks_append (signature_field kind) one rest.prefix block rest.blocks;
  ends = rest.ends;
  lacks = rest.lacks;
}

in_blocks_of_yields : (kind : Kind) (here : State) (content : List ℕ) (pieces : List LineView) → Yields (BeginsWithLine kind) here content pieces complete
    → All (λ it. ¬ IsNamedLine (signature_field kind) it) pieces → InBlocks kind content
in_blocks_of_yields kind here content pieces (yields_end _) others =
    record { prefix = []; tail = []; joined = refl; blocks = blocks_nil (signature_field kind); ends = tt; lacks = begins_with_no_header_of_nil }
in_blocks_of_yields kind here content pieces (yields_piece _ next _ after piece more _ has seen) others =
    in_blocks_of_line kind content next after
    (block_line_of_header kind here content piece next after has (All-head (λ (it : LineView). ¬ IsNamedLine (signature_field kind) it) piece more others))
    (in_blocks_of_yields kind next after more seen (All-tail (λ (it : LineView). ¬ IsNamedLine (signature_field kind) it) piece more others))

-- bytes that decode to their end have no malformed line
yields_ending_unique : (kind : Kind) (here : State) (content : List ℕ) (ps qs : List LineView) → Yields (BeginsWithLine kind) here content ps complete
    → Yields (BeginsWithLine kind) here content qs broken → ⊥
yields_ending_unique kind here content ps qs (yields_end _) (yields_error _ _ some lacks) = some refl
yields_ending_unique kind here content ps qs (yields_end _) (yields_piece _ next _ after piece more _ has seen) =
    no_line_of_nil kind here [] piece next after refl has
yields_ending_unique kind here content ps qs (yields_piece _ next _ after piece more _ has seen) (yields_error _ _ some lacks) = lacks piece next after has
yields_ending_unique kind here content ps qs (yields_piece _ next _ after piece more _ has seen) (yields_piece _ next' _ after' piece' more' _ has' seen') =
    let e = line_unique kind here content piece piece' next next' after after' has has' in
    yields_ending_unique kind next after more more' seen
    (subst (λ (s : State). Yields (BeginsWithLine kind) s after more' broken) (sym e.1)
    (subst (λ (it : List ℕ). Yields (BeginsWithLine kind) next' it more' broken) (sym e.2) seen'))

module _ (kind : Kind) (commit : CommitLines) (bytes : List ℕ) (named : HasHeaderNames commit) (fields : HasLineFields commit) where
  pub signature_is_there : HasNoSignature kind (encode_commit (with_signature kind bytes commit)) → ⊥
  signature_is_there (pieces, seen, others) =
      let read : InBlocks kind (encode_commit (with_signature kind bytes commit)) =
      in_blocks_of_yields kind state.Tree (encode_commit (with_signature kind bytes commit)) pieces seen others in
      let written = written_blocks kind commit bytes named fields in
      none_there (signature_field kind) read.blocks.headers written.headers (read_again (the_header kind commit bytes named fields)) read.prefix
      read.tail
      (unsigned_prefix kind commit bytes named fields) (encode_header (the_header kind commit bytes named fields)) (10 ∷ commit.message)
      read.blocks.are read.blocks.others read.ends read.lacks
      written.are (encode_header_decodes (the_header kind commit bytes named fields) (signature_field_is_header_name kind)) refl (λ same. grind (arith, same))
      (sym read.joined ∙ signed_payload kind commit bytes named fields)

pub no_signature_error_of_decoded : (kind : Kind) (content : List ℕ) (read : CommitLines) → DecodesToCommit kind content read
    → IsCommitSignatureError kind content Malformed → ⊥
no_signature_error_of_decoded kind content read is (pieces, seen, others) = yields_ending_unique kind state.Tree content (lines_of_commit read) pieces
    (yields_lines_of_commit kind content read is) seen
