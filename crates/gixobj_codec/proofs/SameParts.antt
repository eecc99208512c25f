-- States that commits whose encodings begin with the same lines have the same parts, for `ReceivedCommits`.
use Rattle.std.proofs.Common.{◌≡◌, ℕ, List, [], ◌∷◌, ◌++◌, ◌∙◌, All, Option, Some, None, append_assoc, ap, arith, codes, refl, subst, sym}
use Rattle.std.proofs.lemmas.List.Elements.{All-cons, All-head, All-nil, All-tail}
use Rattle.std.specs.List.{flat_map}
use Rattle.std.specs.Prelude.{map}
use Rattle.gixobj_actor.specs.Actor.{NamesActor}
use Rattle.gixobj_grammar.specs.CommitSignatures.{signature_field}
use Rattle.gixobj_parse.proofs.HeaderFields.{header_unique, hex_digits_newline_free}
use Rattle.gixobj_hash.proofs.Runs.{yields_after_pieces}
use Rattle.gixobj_hash.specs.HeaderFormat.{BeginsWithHeader, Header}
use Rattle.gixobj_hash.specs.FieldFormat.{encode_field}
use Rattle.gixobj_hash.specs.Runs.{BeginsWithPieces, complete}
use Rattle.gixobj_hash.specs.ByteStrings.{IsByteFree}
use Rattle.gixobj_hash.specs.Bytes.{newline}
use Rattle.gixobj_hash.specs.Hash.Hex.{IsIdHexOfKind}
use Rattle.gixobj_hash.specs.declared.hash.kind.Kind.{Kind}
use Rattle.gixobj_grammar.proofs.LinesYielded.{has_field_of_encode_field, yields_lines_of_commit}
use Rattle.gixobj_grammar.proofs.OneLine.{line_unique, no_header_of_newline, no_line_of_nil}
use Rattle.gixobj_grammar.specs.Commit.{CommitLines, DecodesToCommit, DecodesToHeaders, IsEncoding, before_encoding, encode_encoding, encode_parent}
use Rattle.gixobj_grammar.specs.Commit.{encoding_lines, lines_of_commit}
use Rattle.gixobj_grammar.specs.Lines.{BeginsWithLine, LineView, author_comes, author_line, committer_comes, committer_line, header_line, message_line}
use Rattle.gixobj_grammar.specs.Lines.{parent_comes, parent_line, tree_comes, tree_line}
use Rattle.gixobj_grammar.specs.declared.lines.State.{State}
use Rattle.gixobj_grammar.specs.declared.lines.State.TheVariants as state
use Rattle.gixobj_codec.proofs.CommitsExtracted.{Blocks, blocks_append, encoding_blocks, encodings_join, prefix_blocks}
use Rattle.gixobj_codec.proofs.SignaturesFound.{comes_here}
use Rattle.gixobj_codec.specs.LineFields.{HasLineFields, IsOneLine}
use Rattle.gixobj_codec.specs.ReceivedSignatures.{HasSameParts}

-- ---- lines before the message encoding

abbrev lines_before_encoding : CommitLines → List LineView
lines_before_encoding commit = tree_line commit.tree
    ∷ (map parent_line commit.parents ++ (author_line commit.author ∷ committer_line commit.committer ∷ []))

actor_line_newline_free : (line : List ℕ) → NamesActor line → IsByteFree newline line
actor_line_newline_free line (name, email, time, is) = is.one_line

begins_with_parent_lines : (kind : Kind) (hexes : List (List ℕ)) (rest : List ℕ) (lines : List LineView) (following : State) (end : List ℕ)
    → All (IsIdHexOfKind kind) hexes → BeginsWithPieces (BeginsWithLine kind) state.Parents rest lines following end
    → BeginsWithPieces (BeginsWithLine kind) state.Parents (flat_map encode_parent hexes ++ rest) (map parent_line hexes ++ lines) following end
begins_with_parent_lines kind [] rest lines following end are begins_with = begins_with
begins_with_parent_lines kind (hex ∷ hexes) rest lines following end are begins_with =
    let P : List ℕ → Type 0 = IsIdHexOfKind kind in
    let one : IsIdHexOfKind kind hex = All-head P hex hexes are in
    let more = flat_map encode_parent hexes ++ rest in
    let parts : BeginsWithPieces (BeginsWithLine kind) state.Parents (encode_parent hex ++ more)
    (parent_line hex ∷ (map parent_line hexes ++ lines)) following end = (
      state.Parents,
      more,
      parent_comes _ hex _ (has_field_of_encode_field (codes "parent") hex more (hex_digits_newline_free hex one.1), one),
      begins_with_parent_lines kind hexes rest lines following end (All-tail P hex hexes are) begins_with,
    ) in
    subst (λ (it : List ℕ). BeginsWithPieces (BeginsWithLine kind) state.Parents it (parent_line hex ∷ (map parent_line hexes ++ lines)) following end)
    (sym (append_assoc (encode_parent hex) (flat_map encode_parent hexes) rest)) parts

module _ (kind : Kind) (content : List ℕ) (commit : CommitLines) (is : DecodesToCommit kind content commit) where
  -- bytes that begin with these lines of a decoded commit yield them
  pub begins_with_lines_before_encoding : (rest : List ℕ) → BeginsWithPieces (BeginsWithLine kind) state.Tree (before_encoding commit ++ rest)
      (lines_before_encoding commit)
      state.Encoding rest
  begins_with_lines_before_encoding rest =
      let committer_rest = encode_field (codes "committer") commit.committer ++ rest in
      let author_rest = encode_field (codes "author") commit.author ++ committer_rest in
      let parents_rest = flat_map encode_parent commit.parents ++ author_rest in
      let flat : (((encode_field (codes "tree") commit.tree ++ flat_map encode_parent commit.parents) ++ encode_field (codes "author") commit.author)
      ++ encode_field (codes "committer") commit.committer) ++ rest ≡ encode_field (codes "tree") commit.tree
      ++ (flat_map encode_parent commit.parents ++ (encode_field (codes "author") commit.author
      ++ (encode_field (codes "committer") commit.committer ++ rest))) = simp append_assoc in
      let committed : BeginsWithPieces (BeginsWithLine kind) state.Committer committer_rest (committer_line commit.committer ∷ []) state.Encoding rest = (
        state.Encoding,
        rest,
        committer_comes _ commit.committer _ (
          has_field_of_encode_field (codes "committer") commit.committer rest (actor_line_newline_free commit.committer is.committer),
          is.committer,
        ),
        (refl, refl),
      ) in
      let authored : BeginsWithPieces (BeginsWithLine kind) state.Parents author_rest (author_line commit.author ∷ committer_line commit.committer ∷ [])
      state.Encoding rest = (
        state.Committer,
        committer_rest,
        author_comes _ commit.author _ (
          has_field_of_encode_field (codes "author") commit.author committer_rest (actor_line_newline_free commit.author is.author),
          is.author,
        ),
        committed,
      ) in
      let parented = begins_with_parent_lines kind commit.parents author_rest (author_line commit.author ∷ committer_line commit.committer ∷ [])
      state.Encoding rest is.parents authored in
      let entire : BeginsWithPieces (BeginsWithLine kind) state.Tree (encode_field (codes "tree") commit.tree ++ parents_rest) (lines_before_encoding commit)
      state.Encoding rest = (
        state.Parents,
        parents_rest,
        tree_comes _ commit.tree _ (
          has_field_of_encode_field (codes "tree") commit.tree parents_rest (hex_digits_newline_free commit.tree is.tree.1),
          is.tree,
        ),
        parented,
      ) in
      subst (λ (it : List ℕ). BeginsWithPieces (BeginsWithLine kind) state.Tree it (lines_before_encoding commit) state.Encoding rest) (sym flat) entire

-- ---- the same lines have the same parts

parent_lines_injective : (ps qs : List (List ℕ)) (a b c d : List ℕ) (more others : List LineView)
    → map parent_line ps ++ (author_line a ∷ committer_line b ∷ more) ≡ (map parent_line qs ++ (author_line c ∷ committer_line d ∷ [])) ++ others
    → (ps ≡ qs) × (a ≡ c) × (b ≡ d)
parent_lines_injective [] [] a b c d more others same = (refl, cc same, cc same)
parent_lines_injective [] (q ∷ qs) a b c d more others same = cc same
parent_lines_injective (p ∷ ps) [] a b c d more others same = cc same
parent_lines_injective (p ∷ ps) (q ∷ qs) a b c d more others same =
    let first : p ≡ q = cc same in
    let tail : map parent_line ps ++ (author_line a ∷ committer_line b ∷ more) ≡ (map parent_line qs ++ (author_line c ∷ committer_line d ∷ [])) ++ others =
    cc same in
    let rest = parent_lines_injective ps qs a b c d more others tail in
    (cc (first, rest.0), rest.1, rest.2)

-- the lines of the read commit begin with these lines
lines_of_commit_injective : (commit read : CommitLines) (others : List LineView) → lines_of_commit read ≡ lines_before_encoding commit ++ others
    → (read.tree ≡ commit.tree) × (read.parents ≡ commit.parents) × (read.author ≡ commit.author) × (read.committer ≡ commit.committer)
lines_of_commit_injective commit read others same =
    let tree : read.tree ≡ commit.tree = cc same in
    let more = encoding_lines read.encoding ++ (map header_line read.extra_headers ++ message_line read.message ∷ []) in
    let tail : map parent_line read.parents ++ (author_line read.author ∷ committer_line read.committer ∷ more)
    ≡ (map parent_line commit.parents ++ (author_line commit.author ∷ committer_line commit.committer ∷ [])) ++ others = cc same in
    let rest = parent_lines_injective read.parents commit.parents read.author read.committer commit.author commit.committer more others tail in
    (tree, rest.0, rest.1, rest.2)

-- ---- headers, and then a message

-- bytes have one message after headers
message_unique : (ps qs : List Header) (fp fq m n : List ℕ) → DecodesToHeaders fp ps → DecodesToHeaders fq qs → fp ++ 10 ∷ m ≡ fq ++ 10 ∷ n → m ≡ n
message_unique [] [] fp fq m n np nq same =
    let e : 10 ∷ m ≡ 10 ∷ n = ap (λ (it : List ℕ). it ++ 10 ∷ m) (sym np) ∙ same ∙ ap (λ (it : List ℕ). it ++ 10 ∷ n) nq in
    cc e
message_unique [] (k ∷ ks) fp fq m n np (first, more, joined, is, rest) same =
    absurd (no_header_of_newline (fq ++ 10 ∷ n) k (more ++ 10 ∷ n) m
    (comes_here fq first more (10 ∷ n) k ks joined is rest (λ no. grind (arith, no)))
    (sym same ∙ ap (λ (it : List ℕ). it ++ 10 ∷ m) np))
message_unique (k ∷ ks) [] fp fq m n (first, more, joined, is, rest) nq same =
    absurd (no_header_of_newline (fp ++ 10 ∷ m) k (more ++ 10 ∷ m) n
    (comes_here fp first more (10 ∷ m) k ks joined is rest (λ no. grind (arith, no)))
    (same ∙ ap (λ (it : List ℕ). it ++ 10 ∷ n) nq))
message_unique (k ∷ ks) (j ∷ js) fp fq m n (first, more, joined, is, rest) (first', more', joined', is', rest') same =
    let e = header_unique (fp ++ 10 ∷ m) k j (more ++ 10 ∷ m) (more' ++ 10 ∷ n)
    (comes_here fp first more (10 ∷ m) k ks joined is rest (λ no. grind (arith, no)))
    (subst (λ (it : List ℕ). BeginsWithHeader it j (more' ++ 10 ∷ n)) (sym same)
    (comes_here fq first' more' (10 ∷ n) j js joined' is' rest' (λ no. grind (arith, no)))) in
    message_unique ks js more more' m n rest rest' e.1

-- ---- a decoded commit is headers, and then its message

hexes_newline_free : (kind : Kind) (hexes : List (List ℕ)) → All (IsIdHexOfKind kind) hexes → All (λ hex. IsByteFree newline hex) hexes
hexes_newline_free kind [] are = All-nil (λ (hex : List ℕ). IsByteFree newline hex)
hexes_newline_free kind (hex ∷ hexes) are =
    let P : List ℕ → Type 0 = IsIdHexOfKind kind in
    let one : IsIdHexOfKind kind hex = All-head P hex hexes are in
    All-cons (λ (it : List ℕ). IsByteFree newline it) hex hexes (hex_digits_newline_free hex one.1)
    (hexes_newline_free kind hexes (All-tail P hex hexes are))

encoding_is_one_line : (encoding : Option (List ℕ)) (headers : List Header) → IsEncoding encoding headers → IsOneLine encoding
encoding_is_one_line None headers is = tt
encoding_is_one_line (Some encoding) headers is = is

pub line_fields_of_decoded : (kind : Kind) (content : List ℕ) (commit : CommitLines) → DecodesToCommit kind content commit → HasLineFields commit
line_fields_of_decoded kind content commit is = record {
  tree = hex_digits_newline_free commit.tree is.tree.1;
  parents = hexes_newline_free kind commit.parents is.parents;
  author = actor_line_newline_free commit.author is.author;
  committer = actor_line_newline_free commit.committer is.committer;
  encoding = encoding_is_one_line commit.encoding commit.extra_headers is.encoding;
}

-- the lines before the extra headers
abbrev pub leading : CommitLines → List ℕ
leading commit = before_encoding commit ++ encode_encoding commit.encoding

pub leading_blocks : (kind : Kind) (commit : CommitLines) → HasLineFields commit → Blocks (signature_field kind) (leading commit)
leading_blocks kind commit fields =
    blocks_append (signature_field kind) (before_encoding commit) (encode_encoding commit.encoding) (prefix_blocks kind commit fields)
    (encoding_blocks kind commit.encoding fields.encoding)

append_assoc_of_four : (a b c d : List ℕ) → ((a ++ b) ++ c) ++ d ≡ a ++ ((b ++ c) ++ d)
append_assoc_of_four a b c d = simp append_assoc

-- two commits whose encodings begin with the same lines, and are headers and a message
module _ (kind : Kind) (content signed : List ℕ) (commit read : CommitLines) (is : DecodesToCommit kind content commit)
    (again : DecodesToCommit kind signed read) (headers : List Header) (encoded : List ℕ) (are : DecodesToHeaders encoded headers)
    (joined : signed ≡ (leading commit ++ encoded) ++ 10 ∷ commit.message) where
  same_message : read.message ≡ commit.message
  same_message =
      let blocks = leading_blocks kind commit (line_fields_of_decoded kind content commit is) in
      let others = leading_blocks kind read (line_fields_of_decoded kind signed read again) in
      message_unique (others.headers ++ read.extra_headers) (blocks.headers ++ headers) (leading read ++ again.headers_encoding)
      (leading commit ++ encoded) read.message commit.message
      (encodings_join (leading read) again.headers_encoding others.headers read.extra_headers others.are again.extra_headers)
      (encodings_join (leading commit) encoded blocks.headers headers blocks.are are) (sym again.joined ∙ joined)

  pub has_same_parts : HasSameParts commit read
  has_same_parts =
      let rest = (encode_encoding commit.encoding ++ encoded) ++ 10 ∷ commit.message in
      let flat : (leading commit ++ encoded) ++ 10 ∷ commit.message ≡ before_encoding commit ++ rest =
      append_assoc_of_four (before_encoding commit) (encode_encoding commit.encoding) encoded (10 ∷ commit.message) in
      let begins_with : BeginsWithPieces (BeginsWithLine kind) state.Tree signed (lines_before_encoding commit) state.Encoding rest =
      subst (λ (it : List ℕ). BeginsWithPieces (BeginsWithLine kind) state.Tree it (lines_before_encoding commit) state.Encoding rest) (sym (joined ∙ flat))
      (begins_with_lines_before_encoding kind content commit is rest) in
      let at = yields_after_pieces (BeginsWithLine kind) (line_unique kind) (no_line_of_nil kind) state.Tree state.Encoding signed rest
      (lines_before_encoding commit) (lines_of_commit read) complete begins_with (yields_lines_of_commit kind signed read again) in
      let same = lines_of_commit_injective commit read at.others at.joined in
      record { tree = same.0; parents = same.1; author = same.2; committer = same.3; message = same_message }
