-- States what a signature that is found in the encoding of a commit signs, and that one is found if the commit has one,
-- for the laws on received and on signed commits.
use Rattle.std.proofs.Common.{◌≡◌, ◌≢◌, ◌⊎◌, inl, inr, ℕ, List, [], ◌∷◌, ◌++◌, ◌∙◌, Bool, true, false, All, Option, Some, None, append_assoc, ap, arith, refl}
use Rattle.std.proofs.Common.{subst, sym}
use Rattle.std.proofs.lemmas.List.{append_cancel_right}
use Rattle.std.proofs.lemmas.List.Elements.{All-append, All-cons, All-head, All-nil, All-tail}
use Rattle.std.specs.Cmp.Lexicographic.{bytes_decides}
use Rattle.std.specs.List.{flat_map}
use Rattle.std.specs.Prelude.{if◌then◌else◌, map}
use Rattle.gixobj_commit.specs.CommitSigning.{is_header_named, payload_of_commit, with_signature}
use Rattle.gixobj_commit.specs.CommitWriting.{encode_commit}
use Rattle.gixobj_grammar.specs.CommitSignatures.{signature_field, HasCommitSignature, HasNoSignature}
use Rattle.gixobj_encode.proofs.HeadersRoundTrip.{header_round_trips}
use Rattle.gixobj_hash.proofs.Runs.{begins_with_pieces_snoc}
use Rattle.gixobj_encode.specs.FieldWriting.{encode_header, value_lines}
use Rattle.gixobj_hash.specs.HeaderFormat.{BeginsWithHeader, Header, DecodesToHeader, value_of_lines}
use Rattle.gixobj_hash.specs.Runs.{BeginsWithPieces, Yields, complete, yields_end, yields_piece}
use Rattle.gixobj_hash.specs.declared.hash.kind.Kind.{Kind}
use Rattle.gixobj_grammar.proofs.EntireCommits.{reaches_end, reaches_more}
use Rattle.gixobj_grammar.proofs.LinesYielded.{yields_lines_of_commit}
use Rattle.gixobj_grammar.proofs.OneLine.{no_header_of_newline}
use Rattle.gixobj_grammar.specs.Commit.{CommitLines, DecodesToCommit, DecodesToHeaders, IsCommit, encoding_lines, lines_of_commit}
use Rattle.gixobj_grammar.specs.Lines.{BeginsWithLine, LineView, author_line, committer_line, encoding_line, first_header_comes, header_comes, header_line}
use Rattle.gixobj_grammar.specs.Lines.{message_comes, message_line, parent_line, tree_line}
use Rattle.gixobj_grammar.specs.declared.lines.State.{State}
use Rattle.gixobj_grammar.specs.declared.lines.State.TheVariants as state
use Rattle.gixobj_grammar.specs.CommitHeaders.{IsNamedLine}
use Rattle.gixobj_codec.proofs.CommitsExtracted.{Blocks, before_header, blocks_append, encodings_join, header_here, message_follows, payload_extracted}
use Rattle.gixobj_codec.proofs.CommitsExtracted.{signature_split_unique, unlike_name, value_extracted}
use Rattle.gixobj_codec.proofs.SameParts.{has_same_parts, leading, leading_blocks, line_fields_of_decoded}
use Rattle.gixobj_codec.proofs.SignaturesFound.{ends_before_tail, none_there, signature_is_there}
use Rattle.gixobj_codec.specs.LineFields.{HasHeaderNames, HasLineFields}
use Rattle.gixobj_codec.specs.ReceivedSignatures.{HasFirstValue, SignsCommit, without_first, without_first_header}

-- ---- the first header of a name

encode_decoded_headers : (bytes : List ℕ) (headers : List Header) → DecodesToHeaders bytes headers → flat_map encode_header headers ≡ bytes
encode_decoded_headers bytes [] none = sym none
encode_decoded_headers bytes (header ∷ headers) (first, rest, joined, one, more) =
    ap (λ (it : List ℕ). it ++ flat_map encode_header headers) (header_round_trips first header one)
    ∙ ap (λ (it : List ℕ). first ++ it) (encode_decoded_headers rest headers more)
    ∙ sym joined

-- the headers are a first one of this name, and others before and after it
record Splits (name bytes : List ℕ) (headers : List Header) : Type 0 where
  before : List Header
  header : Header
  after : List Header
  prefix : List ℕ
  one : List ℕ
  rest : List ℕ
  joined : bytes ≡ prefix ++ (one ++ rest)
  before_are : DecodesToHeaders prefix before
  others : All (λ h. h.name ≢ name) before
  written : DecodesToHeader one header
  named : header.name ≡ name
  after_are : DecodesToHeaders rest after
  parts : headers ≡ before ++ header ∷ after
  without : without_first name headers ≡ before ++ after

abbrev SplitsOrNot : List ℕ → List ℕ → List Header → Type 0
SplitsOrNot name bytes headers = Splits name bytes headers ⊎ All (λ h. h.name ≢ name) headers

splits_or_not_cons : (name bytes : List ℕ) (header : Header) (headers : List Header) (first rest : List ℕ) (test : Bool)
    → is_header_named name header ≡ test → bytes ≡ first ++ rest → DecodesToHeader first header → DecodesToHeaders rest headers
    → SplitsOrNot name rest headers → SplitsOrNot name bytes (header ∷ headers)
splits_or_not_cons name bytes header headers first rest true is joined written are more =
    inl (record {
      before = [];
      header = header;
      after = headers;
      prefix = [];
      one = first;
      rest = rest;
      joined = joined;
      before_are = refl;
      others = All-nil (λ (h : Header). h.name ≢ name);
      written = written;
      named = (bytes_decides header.name name).0 is;
      after_are = are;
      parts = refl;
      without = ap (λ (test : Bool). if test then headers else (header ∷ without_first name headers)) is;
    })
splits_or_not_cons name bytes header headers first rest false is joined written are (inl split) =
    inl (record {
      before = header ∷ split.before;
      header = split.header;
      after = split.after;
      prefix = first ++ split.prefix;
      one = split.one;
      rest = split.rest;
      joined = joined ∙ ap (λ (it : List ℕ). first ++ it) split.joined ∙ sym (append_assoc first split.prefix (split.one ++ split.rest));
      before_are = (first, split.prefix, refl, written, split.before_are);
      others = All-cons (λ (h : Header). h.name ≢ name) header split.before (unlike_name name header is) split.others;
      written = split.written;
      named = split.named;
      after_are = split.after_are;
      parts = ap (λ (it : List Header). header ∷ it) split.parts;
      without = ap (λ (test : Bool). if test then headers else (header ∷ without_first name headers)) is
          ∙ ap (λ (it : List Header). header ∷ it) split.without;
    })
splits_or_not_cons name bytes header headers first rest false is joined written are (inr none) =
    inr (All-cons (λ (h : Header). h.name ≢ name) header headers (unlike_name name header is) none)

splits_or_not : (name bytes : List ℕ) (headers : List Header) → DecodesToHeaders bytes headers → SplitsOrNot name bytes headers
splits_or_not name bytes [] none = inr (All-nil (λ (h : Header). h.name ≢ name))
splits_or_not name bytes (header ∷ headers) (first, rest, joined, written, are) =
    splits_or_not_cons name bytes header headers first rest (is_header_named name header) refl joined written are (splits_or_not name rest headers are)

-- ---- lines that are no signature

module _ (name : List ℕ) where
  parents_unnamed : (hexes : List (List ℕ)) → All (λ it. ¬ IsNamedLine name it) (map parent_line hexes)
  parents_unnamed [] = All-nil (λ (it : LineView). ¬ IsNamedLine name it)
  parents_unnamed (hex ∷ hexes) = All-cons (λ (it : LineView). ¬ IsNamedLine name it) (parent_line hex) (map parent_line hexes) (λ no. no)
      (parents_unnamed hexes)

  encoding_unnamed : (encoding : Option (List ℕ)) → All (λ it. ¬ IsNamedLine name it) (encoding_lines encoding)
  encoding_unnamed None = All-nil (λ (it : LineView). ¬ IsNamedLine name it)
  encoding_unnamed (Some encoding) = All-cons (λ (it : LineView). ¬ IsNamedLine name it) (encoding_line encoding) [] (λ no. no)
      (All-nil (λ (it : LineView). ¬ IsNamedLine name it))

  headers_unnamed : (headers : List Header) → All (λ h. h.name ≢ name) headers → All (λ it. ¬ IsNamedLine name it) (map header_line headers)
  headers_unnamed [] others = All-nil (λ (it : LineView). ¬ IsNamedLine name it)
  headers_unnamed (header ∷ headers) others =
      All-cons (λ (it : LineView). ¬ IsNamedLine name it) (header_line header) (map header_line headers)
      (All-head (λ (h : Header). h.name ≢ name) header headers others)
      (headers_unnamed headers (All-tail (λ (h : Header). h.name ≢ name) header headers others))

-- the lines before a header
abbrev lines_before : CommitLines → List Header → List LineView
lines_before commit before = tree_line commit.tree
    ∷ (map parent_line commit.parents ++ (author_line commit.author ∷ committer_line commit.committer
    ∷ (encoding_lines commit.encoding ++ map header_line before)))

lines_before_are_unnamed : (name : List ℕ) (commit : CommitLines) (before : List Header) → All (λ h. h.name ≢ name) before
    → All (λ it. ¬ IsNamedLine name it) (lines_before commit before)
lines_before_are_unnamed name commit before others =
    let Other : LineView → Type 0 = λ it. ¬ IsNamedLine name it in
    let last = encoding_lines commit.encoding ++ map header_line before in
    let actors = author_line commit.author ∷ committer_line commit.committer ∷ last in
    All-cons Other (tree_line commit.tree) (map parent_line commit.parents ++ actors) (λ no. no)
    (All-append Other (map parent_line commit.parents) actors (parents_unnamed name commit.parents)
    (All-cons Other (author_line commit.author) (committer_line commit.committer ∷ last) (λ no. no)
    (All-cons Other (committer_line commit.committer) last (λ no. no)
    (All-append Other (encoding_lines commit.encoding) (map header_line before) (encoding_unnamed name commit.encoding)
    (headers_unnamed name before others)))))

map_header_line_append : (before after : List Header) (header : Header) (more : List LineView)
    → map header_line (before ++ header ∷ after) ++ more ≡ map header_line before ++ (header_line header ∷ (map header_line after ++ more))
map_header_line_append [] after header more = refl
map_header_line_append (first ∷ before) after header more = ap (λ (it : List LineView). header_line first ∷ it)
    (map_header_line_append before after header more)

commit_lines_append_assoc : (parents encoding before rest : List LineView) (tree author committer : LineView)
    → tree ∷ (parents ++ (author ∷ committer ∷ (encoding ++ (before ++ rest))))
    ≡ (tree ∷ (parents ++ (author ∷ committer ∷ (encoding ++ before)))) ++ rest
commit_lines_append_assoc parents encoding before rest tree author committer = sym (simp append_assoc)

lines_of_commit_at_header : (commit : CommitLines) (before after : List Header) (header : Header) → commit.extra_headers ≡ before ++ header ∷ after
    → lines_of_commit commit ≡ lines_before commit before ++ header_line header ∷ (map header_line after ++ message_line commit.message ∷ [])
lines_of_commit_at_header commit before after header parts =
    let more = message_line commit.message ∷ [] in
    ap (λ (it : List LineView). tree_line commit.tree
    ∷ (map parent_line commit.parents ++ (author_line commit.author ∷ committer_line commit.committer ∷ (encoding_lines commit.encoding ++ it))))
    (ap (λ (it : List Header). map header_line it ++ more) parts ∙ map_header_line_append before after header more)
    ∙ commit_lines_append_assoc (map parent_line commit.parents) (encoding_lines commit.encoding) (map header_line before)
    (header_line header ∷ (map header_line after ++ more)) (tree_line commit.tree) (author_line commit.author) (committer_line commit.committer)

-- a run that yields a line comes to it after the lines before it
record Comes (kind : Kind) (here : State) (content : List ℕ) (lines : List LineView) (line : LineView) : Type 0 where
  before : State
  input : List ℕ
  following : State
  rest : List ℕ
  begins_with : BeginsWithPieces (BeginsWithLine kind) here content lines before input
  comes : BeginsWithLine kind before input line following rest

comes_of_yields : (kind : Kind) (here : State) (content : List ℕ) (all lines : List LineView) (line : LineView) (more : List LineView)
    → all ≡ lines ++ line ∷ more → Yields (BeginsWithLine kind) here content all complete → Comes kind here content lines line
comes_of_yields kind here content all [] line more same (yields_end _) = cc same
comes_of_yields kind here content all (first ∷ lines) line more same (yields_end _) = cc same
comes_of_yields kind here content all [] line more same (yields_piece _ next _ after piece others _ has seen) =
    let e : piece ≡ line = cc same in
    record {
      before = here;
      input = content;
      following = next;
      rest = after;
      begins_with = (refl, refl);
      comes = subst (λ (it : LineView). BeginsWithLine kind here content it next after) e has;
    }
comes_of_yields kind here content all (first ∷ lines) line more same (yields_piece _ next _ after piece others _ has seen) =
    let e : piece ≡ first = cc same in
    let tail : others ≡ lines ++ line ∷ more = cc same in
    let later = comes_of_yields kind next after others lines line more tail seen in
    record {
      before = later.before;
      input = later.input;
      following = later.following;
      rest = later.rest;
      begins_with = (next, after, subst (λ (it : LineView). BeginsWithLine kind here content it next after) e has, later.begins_with);
      comes = later.comes;
    }

-- ---- what is signed

signed_headers_append_assoc : (leading prefix one rest message : List ℕ)
    → (leading ++ (prefix ++ (one ++ rest))) ++ message ≡ (leading ++ prefix) ++ (one ++ (rest ++ message))
signed_headers_append_assoc leading prefix one rest message = simp append_assoc

unsigned_headers_append_assoc : (leading prefix rest message : List ℕ) → (leading ++ prefix) ++ (rest ++ message) ≡ (leading ++ (prefix ++ rest)) ++ message
unsigned_headers_append_assoc leading prefix rest message = simp append_assoc

header_eq_of_fields : (header : Header) (name value : List ℕ) → header.name ≡ name → value ≡ header.value
    → header ≡ record { name = name; value = value }
header_eq_of_fields header name value named received =
    ap (λ (it : List ℕ). record { name = it; value = header.value }) named ∙ ap (λ (it : List ℕ). record { name = name; value = it }) (sym received)

module _ (kind : Kind) (content : List ℕ) (commit : CommitLines) (is : DecodesToCommit kind content commit) where
  abbrev name : List ℕ
  name = signature_field kind

  content_blocks : Blocks name (leading commit)
  content_blocks = leading_blocks kind commit (line_fields_of_decoded kind content commit is)

  -- a signature that is found is the first of the headers
  record Signs (value signed : List ℕ) : Type 0 where
    split : Splits name is.headers_encoding commit.extra_headers
    same : signed ≡ (leading commit ++ (split.prefix ++ split.rest)) ++ 10 ∷ commit.message
    first : HasFirstValue name commit value

  signs_by_split : (value signed : List ℕ) → HasCommitSignature kind content value signed → SplitsOrNot name is.headers_encoding commit.extra_headers
      → Signs value signed
  signs_by_split value signed has (inl split) =
      let read = before_header kind has.begins_with.0 state.Tree content has.before has.input (header_line has.header) has.following has.rest has.begins_with.1
      has.begins_with.2 has.comes in
      let comes : BeginsWithHeader has.input has.header has.rest = header_here kind has.before has.input has.header has.following has.rest has.comes in
      let prefixes : has.prefix ≡ read.0 = append_cancel_right has.prefix read.0 has.input (sym has.joined ∙ read.1) in
      let others : Blocks name split.prefix = record { headers = split.before; are = split.before_are; others = split.others } in
      let blocks = blocks_append name (leading commit) split.prefix content_blocks others in
      let joined : content ≡ (leading commit ++ split.prefix) ++ (split.one ++ (split.rest ++ 10 ∷ commit.message)) =
      is.joined ∙ ap (λ (it : List ℕ). (leading commit ++ it) ++ 10 ∷ commit.message) split.joined
      ∙ signed_headers_append_assoc (leading commit) split.prefix split.one split.rest (10 ∷ commit.message) in
      let once = signature_split_unique name read.2.headers blocks.headers has.header split.header read.0 comes.encoded has.rest
      (leading commit ++ split.prefix) split.one (split.rest ++ 10 ∷ commit.message) read.2.are read.2.others comes.written has.named comes.ends
      blocks.are blocks.others split.written split.named
      (ends_before_tail split.rest (10 ∷ commit.message) split.after split.after_are (λ no. grind (arith, no)))
      (ap (λ (it : List ℕ). read.0 ++ it) (sym comes.joined) ∙ sym read.1 ∙ joined) in
      let is_header : split.header ≡ record { name = name; value = value } =
      header_eq_of_fields split.header name value split.named (has.received ∙ ap (λ (it : Header). it.value) once.1) in
      record {
        split = split;
        same = has.remaining ∙ ap (λ (it : List ℕ). it ++ has.rest) prefixes ∙ once.0
            ∙ unsigned_headers_append_assoc (leading commit) split.prefix split.rest (10 ∷ commit.message);
        first = (
          split.before,
          split.after,
          split.others,
          split.parts ∙ ap (λ (it : Header). split.before ++ it ∷ split.after) is_header,
        );
      }
  signs_by_split value signed has (inr none) =
      let read = before_header kind has.begins_with.0 state.Tree content has.before has.input (header_line has.header) has.following has.rest has.begins_with.1
      has.begins_with.2 has.comes in
      let comes : BeginsWithHeader has.input has.header has.rest = header_here kind has.before has.input has.header has.following has.rest has.comes in
      let others : Blocks name is.headers_encoding = record { headers = commit.extra_headers; are = is.extra_headers; others = none } in
      let blocks = blocks_append name (leading commit) is.headers_encoding content_blocks others in
      absurd (none_there name blocks.headers read.2.headers has.header (leading commit ++ is.headers_encoding) (10 ∷ commit.message) read.0 comes.encoded
      has.rest blocks.are blocks.others (λ no. grind (arith, no))
      (λ header following it. no_header_of_newline (10 ∷ commit.message) header following commit.message it refl) read.2.are comes.written has.named
      comes.ends (sym is.joined ∙ read.1 ∙ ap (λ (it : List ℕ). read.0 ++ it) comes.joined))

  signs : (value signed : List ℕ) → HasCommitSignature kind content value signed → Signs value signed
  signs value signed has = signs_by_split value signed has (splits_or_not name is.headers_encoding commit.extra_headers is.extra_headers)

  -- the signed bytes are the encoding without the header, and decode to the commit without it
  signs_commit_of : (value signed : List ℕ) → Signs value signed → SignsCommit kind commit value signed
  signs_commit_of value signed it =
      let bytes = it.split.prefix ++ it.split.rest in
      let are : DecodesToHeaders bytes (it.split.before ++ it.split.after) =
      encodings_join it.split.prefix it.split.rest it.split.before it.split.after it.split.before_are it.split.after_are in
      let without : DecodesToHeaders bytes (without_first name commit.extra_headers) =
      subst (λ (headers : List Header). DecodesToHeaders bytes headers) (sym it.split.without) are in
      record {
        value = it.first;
        encoded = it.same ∙ ap (λ (headers : List ℕ). (leading commit ++ headers) ++ 10 ∷ commit.message)
            (sym (encode_decoded_headers bytes (without_first name commit.extra_headers) without));
        decoded = λ encoding. record {
          headers_encoding = bytes;
          joined = it.same;
          tree = is.tree;
          parents = is.parents;
          author = is.author;
          committer = is.committer;
          encoding = encoding;
          extra_headers = without;
        };
        parts = λ read again. has_same_parts kind content signed commit read is again (without_first name commit.extra_headers) bytes without it.same;
      }

  pub signs_commit : (value signed : List ℕ) → HasCommitSignature kind content value signed → SignsCommit kind commit value signed
  signs_commit value signed has = signs_commit_of value signed (signs value signed has)

  -- ---- a signature is found if the commit has one

  signature_comes : (value : List ℕ) → HasFirstValue name commit value → (signed : List ℕ) × HasCommitSignature kind content value signed
  signature_comes value (before, after, others, parts) =
      let header : Header = record { name = name; value = value } in
      let lines = lines_before commit before in
      let at = comes_of_yields kind state.Tree content (lines_of_commit commit) lines (header_line header)
      (map header_line after ++ message_line commit.message ∷ []) (lines_of_commit_at_header commit before after header parts)
      (yields_lines_of_commit kind content commit is) in
      let none = lines_before_are_unnamed name commit before others in
      let read = before_header kind lines state.Tree content at.before at.input (header_line header) at.following at.rest at.begins_with none at.comes in (
        read.0 ++ at.rest,
        record {
          before = at.before;
          following = at.following;
          input = at.input;
          rest = at.rest;
          header = header;
          prefix = read.0;
          begins_with = (lines, at.begins_with, none);
          comes = at.comes;
          named = refl;
          received = refl;
          joined = read.1;
          remaining = refl;
        },
      )

  pub signature_found : (value : List ℕ) → HasFirstValue name commit value
      → HasCommitSignature kind content value (encode_commit (without_first_header name commit))
  signature_found value first =
      let found = signature_comes value first in
      subst (λ (signed : List ℕ). HasCommitSignature kind content value signed) (signs_commit value found.0 found.1).encoded found.1

  -- a decoded commit has a signature, or none is found
  pub signature_or_none : ((value : List ℕ) × (signed : List ℕ) × HasCommitSignature kind content value signed) ⊎ HasNoSignature kind content
  signature_or_none = by_split (splits_or_not name is.headers_encoding commit.extra_headers is.extra_headers)
    where
      all_unnamed : All (λ h. h.name ≢ name) commit.extra_headers → All (λ it. ¬ IsNamedLine name it) (lines_of_commit commit)
      all_unnamed others =
          let Other : LineView → Type 0 = λ it. ¬ IsNamedLine name it in
          let more = message_line commit.message ∷ [] in
          subst (All Other)
          (sym (commit_lines_append_assoc (map parent_line commit.parents) (encoding_lines commit.encoding) (map header_line commit.extra_headers) more
          (tree_line commit.tree) (author_line commit.author) (committer_line commit.committer)))
          (All-append Other (lines_before commit commit.extra_headers) more (lines_before_are_unnamed name commit commit.extra_headers others)
          (All-cons Other (message_line commit.message) [] (λ no. no) (All-nil Other)))

      by_split : SplitsOrNot name is.headers_encoding commit.extra_headers
          → ((value : List ℕ) × (signed : List ℕ) × HasCommitSignature kind content value signed) ⊎ HasNoSignature kind content
      by_split (inl split) =
          let is_header = header_eq_of_fields split.header name split.header.value split.named refl in
          let found = signature_comes split.header.value (
            split.before,
            split.after,
            split.others,
            split.parts ∙ ap (λ (it : Header). split.before ++ it ∷ split.after) is_header,
          ) in
          inl (split.header.value, found.0, found.1)
      by_split (inr none) = inr (lines_of_commit commit, yields_lines_of_commit kind content commit is, all_unnamed none)

-- ---- signed commits

state_after_header : (kind : Kind) (before : State) (input : List ℕ) (header : Header) (following : State) (rest : List ℕ)
    → BeginsWithLine kind before input (header_line header) following rest → following ≡ state.ExtraHeaders
state_after_header kind before input header following rest (first_header_comes _ _ _ has unlike) = refl
state_after_header kind before input header following rest (header_comes _ _ _ has) = refl

module _ (kind : Kind) (commit : CommitLines) (bytes : List ℕ) (named : HasHeaderNames commit) (fields : HasLineFields commit) where
  -- in the encoding of a signed commit, if it decodes, the signature is found
  pub signature_of_decoded : IsCommit kind (encode_commit (with_signature kind bytes commit))
      → HasCommitSignature kind (encode_commit (with_signature kind bytes commit))
      (value_of_lines (value_lines bytes).0 (value_lines bytes).1) (payload_of_commit kind commit)
  signature_of_decoded (read, is) = found (signature_or_none kind (encode_commit (with_signature kind bytes commit)) read is)
    where
      found : ((value : List ℕ) × (signed : List ℕ)
          × HasCommitSignature kind (encode_commit (with_signature kind bytes commit)) value signed)
          ⊎ HasNoSignature kind (encode_commit (with_signature kind bytes commit))
          → HasCommitSignature kind (encode_commit (with_signature kind bytes commit))
          (value_of_lines (value_lines bytes).0 (value_lines bytes).1) (payload_of_commit kind commit)
      found (inl (value, signed, has)) =
          subst (λ (it : List ℕ). HasCommitSignature kind (encode_commit (with_signature kind bytes commit)) it (payload_of_commit kind commit))
          (value_extracted kind commit bytes named fields value signed has)
          (subst (λ (it : List ℕ). HasCommitSignature kind (encode_commit (with_signature kind bytes commit)) value it)
          (payload_extracted kind commit bytes named fields value signed has) has)
      found (inr none) = absurd (signature_is_there kind commit bytes named fields none)

  -- the encoding of a signed commit decodes if its signature is found
  pub decodes_if_found : (value signed : List ℕ) → HasCommitSignature kind (encode_commit (with_signature kind bytes commit)) value signed
      → IsCommit kind (encode_commit (with_signature kind bytes commit))
  decodes_if_found value signed has =
      let content = encode_commit (with_signature kind bytes commit) in
      let rest : has.rest ≡ 10 ∷ commit.message = message_follows kind commit bytes named fields value signed has in
      let after : has.following ≡ state.ExtraHeaders = state_after_header kind has.before has.input has.header has.following has.rest has.comes in
      let begins_with : BeginsWithPieces (BeginsWithLine kind) state.Tree content (has.begins_with.0 ++ header_line has.header ∷ []) has.following has.rest =
      begins_with_pieces_snoc (BeginsWithLine kind) state.Tree has.before has.following content has.input has.rest has.begins_with.0
      (header_line has.header) has.begins_with.1 has.comes in
      let ends : BeginsWithLine kind has.following has.rest (message_line commit.message) state.End [] =
      subst (λ (it : State). BeginsWithLine kind it has.rest (message_line commit.message) state.End []) (sym after)
      (message_comes has.rest commit.message rest) in
      reaches_end kind content state.End [] (reaches_more kind content has.following state.End has.rest []
      (has.begins_with.0 ++ header_line has.header ∷ [], begins_with) (message_line commit.message, ends)) refl
