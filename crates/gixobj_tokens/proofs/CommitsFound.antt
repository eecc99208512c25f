-- States what searches of a token iterator find in the encoding of a commit; the laws on searches and `ParentsFound`
-- use it.
use Rattle.std.proofs.Common.{◌≡◌, ℕ, List, [], ◌∷◌, ◌++◌, All, Option, Some, None, Result, Ok, Err, inl, inr, refl, sym, ap, subst, ◌∙◌, append_assoc}
use Rattle.std.proofs.lemmas.List.Elements.{All-append, All-cons, All-head, All-nil, All-tail}
use Rattle.std.specs.List.{AllZip}
use Rattle.std.specs.Prelude.{map, ⊤}
use Rattle.gixobj_actor.specs.Actor.{ActorView, IsActorOf}
use Rattle.gixobj_hash.proofs.Runs.{after_first, yields_after_pieces, one_here}
use Rattle.gixobj_parse.specs.Iterators.{ReaderState}
use Rattle.gixobj_hash.specs.Runs.{Ending, HasNone, broken, complete, yields_end, yields_piece}
use Rattle.gixobj_hash.specs.Hash.{DecodesToId}
use Rattle.gixobj_hash.specs.declared.decode.Error.{Error}
use Rattle.gixobj_hash.specs.declared.decode.Error.TheVariants.{Malformed, OutOfMemory}
use Rattle.gixobj_hash.specs.declared.hash.kind.Kind.{Kind}
use Rattle.gixobj_hash.specs.declared.hash.object_id.ObjectId.{ObjectId}
use Rattle.gixobj_grammar.proofs.EntireCommits.{lines_end_with_message}
use Rattle.gixobj_grammar.specs.Commit.{CommitLines, DecodesToCommit, encoding_lines, lines_of_commit}
use Rattle.gixobj_grammar.specs.Lines.{LineView, MayFold, author_line, committer_line, encoding_line, header_line, message_line, parent_line, tree_line}
use Rattle.gixobj_grammar.specs.declared.lines.State.{State}
use Rattle.gixobj_grammar.specs.declared.lines.State.TheVariants as state
use Rattle.gixobj_tokens.proofs.CommitLanguage as language
use Rattle.gixobj_tokens.proofs.CommitRuns.{token_run_unique}
use Rattle.gixobj_tokens.proofs.CommitTokens.{no_commit_token_of_nil, commit_token_unique}
use Rattle.gixobj_tokens.specs.CommitRuns.{YieldsCommitTokens}
use Rattle.gixobj_tokens.specs.CommitTokens.{CommitTokenView, BeginsWithCommitToken, IsTokenOfLine, author_token, commit_token_view, committer_token}
use Rattle.gixobj_tokens.specs.CommitTokens.{message_token, yields_author, yields_committer, yields_message, yields_tree, tree_token}
use Rattle.gixobj_tokens.specs.Readers.{AreTokensOfCommit, EndsInMessage}
use Rattle.gixobj_tokens.specs.CommitTokenSteps.{NextCommitToken, NextIdOfCommit, IsAtStartOfCommit, answered_commit_id, commit_id_or_malformed}
use Rattle.gixobj_tokens.specs.CommitTokenSteps.{commit_token_id, commit_reader_state}
use Rattle.gixobj_tokens.specs.TokenSearch.{EndsSearch, FindsAuthor, FindsCommitter, FindsMessage, IsAuthorToken, IsCommitterToken, IsMessageToken, first_token}
use Rattle.gixobj_tokens.specs.TokenSearch.{no_token, optional_error, required_error}
use Rattle.gixobj_tokens.specs.declared.commit.CommitRefIter.{CommitRefIter}
use Rattle.gixobj_tokens.specs.declared.commit.Token.{Token}

-- ---- the lines of a commit

-- a line that a commit has once is its part of that name
abbrev IsLineOf : CommitLines → LineView → Type 0
IsLineOf commit (tree_line hex) = hex ≡ commit.tree
IsLineOf commit (author_line line) = line ≡ commit.author
IsLineOf commit (committer_line line) = line ≡ commit.committer
IsLineOf commit (message_line message) = message ≡ commit.message
IsLineOf commit _ = ⊤

all_map : {X : Type 0} (P : LineView → Type 0) (line : X → LineView) → ((x : X) → P (line x)) → (xs : List X) → All P (map line xs)
all_map P line each [] = All-nil P
all_map P line each (x ∷ xs) = All-cons P (line x) (map line xs) (each x) (all_map P line each xs)

all_encoding_lines : (P : LineView → Type 0) → ((encoding : List ℕ) → P (encoding_line encoding)) → (encoding : Option (List ℕ))
    → All P (encoding_lines encoding)
all_encoding_lines P each None = All-nil P
all_encoding_lines P each (Some encoding) = All-cons P (encoding_line encoding) [] (each encoding) (All-nil P)

all_lines_of_commit : (commit : CommitLines) → All (IsLineOf commit) (lines_of_commit commit)
all_lines_of_commit commit =
    let P : LineView → Type 0 = IsLineOf commit in
    let message = All-cons P (message_line commit.message) [] refl (All-nil P) in
    let headers = All-append P (map header_line commit.extra_headers) (message_line commit.message ∷ [])
    (all_map P header_line (λ header. tt) commit.extra_headers) message in
    let encoding = All-append P (encoding_lines commit.encoding) _ (all_encoding_lines P (λ encoding. tt) commit.encoding) headers in
    let others = encoding_lines commit.encoding ++ (map header_line commit.extra_headers ++ message_line commit.message ∷ []) in
    let actors = All-cons P (author_line commit.author) (committer_line commit.committer ∷ others) refl
    (All-cons P (committer_line commit.committer) others refl encoding) in
    All-cons P (tree_line commit.tree) _ refl
    (All-append P (map parent_line commit.parents) _ (all_map P parent_line (λ hex. tt) commit.parents) actors)

-- ---- a line and its token

-- the line of this token
line_of_token_exists : (P : LineView → Type 0) (lines : List LineView) (leading : List CommitTokenView) (token : CommitTokenView) (more : List CommitTokenView)
    → All P lines → AllZip IsTokenOfLine lines (leading ++ token ∷ more)
    → (line : LineView) × P line × IsTokenOfLine line token
line_of_token_exists P [] [] token more all zips = absurd zips
line_of_token_exists P [] (first ∷ leading) token more all zips = absurd zips
line_of_token_exists P (line ∷ lines) [] token more all (determines, others) = (line, All-head P line lines all, determines)
line_of_token_exists P (line ∷ lines) (first ∷ leading) token more all (determines, others) =
    line_of_token_exists P lines leading token more (All-tail P line lines all) others

-- the token of this line
record TokenHere (line : LineView) (tokens : List CommitTokenView) : Type 0 where
  prefix : List CommitTokenView
  token : CommitTokenView
  more : List CommitTokenView
  joined : tokens ≡ prefix ++ token ∷ more
  yields : IsTokenOfLine line token

token_of_line_exists : (leading : List LineView) (line : LineView) (more : List LineView) (tokens : List CommitTokenView)
    → AllZip IsTokenOfLine (leading ++ line ∷ more) tokens → TokenHere line tokens
token_of_line_exists [] line more [] zips = absurd zips
token_of_line_exists (first ∷ leading) line more [] zips = absurd zips
token_of_line_exists [] line more (token ∷ tokens) (determines, others) =
    record { prefix = []; token = token; more = tokens; joined = refl; yields = determines }
token_of_line_exists (first ∷ leading) line more (token ∷ tokens) (determines, others) =
    let it = token_of_line_exists leading line more tokens others in
    record {
      prefix = token ∷ it.prefix;
      token = it.token;
      more = it.more;
      joined = ap (λ (others : List CommitTokenView). token ∷ others) it.joined;
      yields = it.yields;
    }

is_actor_of_author_token : (commit : CommitLines) (line : LineView) (actor : ActorView) → IsLineOf commit line → IsTokenOfLine line (author_token actor)
    → IsActorOf commit.author actor
is_actor_of_author_token commit line actor is (yields_author content _ named) = subst (λ (it : List ℕ). IsActorOf it actor) is named

is_actor_of_committer_token : (commit : CommitLines) (line : LineView) (actor : ActorView) → IsLineOf commit line → IsTokenOfLine line (committer_token actor)
    → IsActorOf commit.committer actor
is_actor_of_committer_token commit line actor is (yields_committer content _ named) = subst (λ (it : List ℕ). IsActorOf it actor) is named

message_eq_of_message_token : (commit : CommitLines) (line : LineView) (message : List ℕ) → IsLineOf commit line → IsTokenOfLine line (message_token message)
    → message ≡ commit.message
message_eq_of_message_token commit line message is (yields_message _) = is

first_token_is_tree : (commit : CommitLines) (lines : List LineView) (token : CommitTokenView) (more : List CommitTokenView)
    → AllZip IsTokenOfLine (tree_line commit.tree ∷ lines) (token ∷ more) → (id : ObjectId) × (token ≡ tree_token id) × DecodesToId commit.tree id
first_token_is_tree commit lines token more (yields_tree _ id spells, others) = (id, refl, spells)

author_line_token_is_author : (line : List ℕ) (token : CommitTokenView) → IsTokenOfLine (author_line line) token → IsAuthorToken token
author_line_token_is_author line token (yields_author _ actor is) = tt

committer_line_token_is_committer : (line : List ℕ) (token : CommitTokenView) → IsTokenOfLine (committer_line line) token → IsCommitterToken token
committer_line_token_is_committer line token (yields_committer _ actor is) = tt

message_line_token_is_message : (message : List ℕ) (token : CommitTokenView) → IsTokenOfLine (message_line message) token → IsMessageToken token
message_line_token_is_message message token (yields_message _) = tt

-- ---- the run of an iterator at the start of a commit's encoding

pub yields_tokens_from_start : (kind : Kind) (content : List ℕ) (reader : CommitRefIter) (tokens : List CommitTokenView) → IsAtStartOfCommit kind content reader
    → YieldsCommitTokens kind state.Tree content tokens complete
    → YieldsCommitTokens (commit_reader_state reader).kind (commit_reader_state reader).state (commit_reader_state reader).bytes tokens complete
yields_tokens_from_start kind content reader tokens start yields_decoded =
    subst (λ (it : ReaderState Kind State). YieldsCommitTokens it.kind it.state it.bytes tokens complete) (sym start) yields_decoded

token_exists_of_first_line : (kind : Kind) (before : State) (input : List ℕ) (line : LineView) (lines : List LineView) (tokens : List CommitTokenView)
    → YieldsCommitTokens kind before input tokens complete → AllZip IsTokenOfLine (line ∷ lines) tokens
    → (token : CommitTokenView) × (following : State) × (rest : List ℕ) × BeginsWithCommitToken kind before input token following rest
token_exists_of_first_line kind before input line lines tokens (yields_end _) zips = absurd zips
token_exists_of_first_line kind before input line lines tokens (yields_piece _ following _ rest token _ _ has yields_decoded) zips =
    (token, following, rest, has)

module _ (kind : Kind) (content : List ℕ) (commit : CommitLines) (reader : CommitRefIter) (is : DecodesToCommit kind content commit)
    (start : IsAtStartOfCommit kind content reader) where
  run : (tokens : List CommitTokenView) × YieldsCommitTokens kind state.Tree content tokens complete × AreTokensOfCommit commit tokens
      × EndsInMessage tokens
  run = language.yields_tokens_of_commit kind content commit is

  yields_decoded : YieldsCommitTokens (commit_reader_state reader).kind (commit_reader_state reader).state
      (commit_reader_state reader).bytes run.0 complete
  yields_decoded = yields_tokens_from_start kind content reader run.0 start run.1

  line_found : (Is : CommitTokenView → Type 0) (token : CommitTokenView) → EndsSearch Is reader (first_token token) → (line : LineView) × IsLineOf commit line
      × IsTokenOfLine line token
  line_found Is token (before, following, here, rest, (consumed, begins_with, none), has) =
      let has_token = BeginsWithCommitToken (commit_reader_state reader).kind in
      let one = commit_token_unique (commit_reader_state reader).kind in
      let some = no_commit_token_of_nil (commit_reader_state reader).kind in
      let at = yields_after_pieces has_token one some (commit_reader_state reader).state before (commit_reader_state reader).bytes here consumed run.0 complete
      begins_with
      yields_decoded in
      let first = after_first has_token one some before following here rest token at.others complete has at.yielded in
      let joined = at.joined ∙ ap (λ (it : List CommitTokenView). consumed ++ it) first.joined in
      line_of_token_exists (IsLineOf commit) (lines_of_commit commit) consumed token first.others (all_lines_of_commit commit)
      (subst (λ (it : List CommitTokenView). AllZip IsTokenOfLine (lines_of_commit commit) it) joined run.2)

  lacks_none : (Is : CommitTokenView → Type 0) (ending : Ending) (leading : List LineView) (line : LineView) (more : List LineView)
      → lines_of_commit commit ≡ leading ++ line ∷ more → ((token : CommitTokenView) → IsTokenOfLine line token → Is token)
      → EndsSearch Is reader (no_token ending) → ⊥
  lacks_none Is ending leading line more joined is_such (tokens, lacks, none) =
      let same = (token_run_unique (commit_reader_state reader).kind (commit_reader_state reader).state (commit_reader_state reader).bytes tokens run.0 ending
      complete
      lacks yields_decoded).0 in
      let here = token_of_line_exists leading line more run.0 (subst (λ (it : List LineView). AllZip IsTokenOfLine it run.0) joined run.2) in
      one_here Is here.prefix here.token here.more (is_such here.token here.yields) (subst (HasNone Is) (same ∙ here.joined) none)

  -- ---- actors and message

  pub its_author : (actor : ActorView) → FindsAuthor reader actor → IsActorOf commit.author actor
  its_author actor finds = let it = line_found IsAuthorToken (author_token actor) finds in is_actor_of_author_token commit it.0 actor it.1 it.2

  pub has_author : ¬ EndsSearch IsAuthorToken reader (required_error Malformed)
  has_author = λ (ending, lacks). lacks_none IsAuthorToken ending (tree_line commit.tree ∷ map parent_line commit.parents)
      (author_line commit.author) _ refl
      (author_line_token_is_author commit.author) lacks

  pub its_committer : (actor : ActorView) → FindsCommitter reader actor → IsActorOf commit.committer actor
  its_committer actor finds = let it = line_found IsCommitterToken (committer_token actor) finds in is_actor_of_committer_token commit it.0 actor it.1 it.2

  pub has_committer : ¬ EndsSearch IsCommitterToken reader (required_error Malformed)
  has_committer = λ (ending, lacks).
      let others = encoding_lines commit.encoding ++ (map header_line commit.extra_headers ++ message_line commit.message ∷ []) in
      let joined : lines_of_commit commit ≡ (tree_line commit.tree ∷ (map parent_line commit.parents ++ author_line commit.author ∷ []))
      ++ committer_line commit.committer ∷ others = sym (simp append_assoc) in
      lacks_none IsCommitterToken ending (tree_line commit.tree ∷ (map parent_line commit.parents ++ author_line commit.author ∷ []))
      (committer_line commit.committer) others joined (committer_line_token_is_committer commit.committer) lacks

  pub its_message : (message : List ℕ) → FindsMessage reader message → message ≡ commit.message
  its_message message (inl finds) = let it = line_found IsMessageToken (message_token message) finds in
      message_eq_of_message_token commit it.0 message it.1 it.2
  its_message message (inr (lacks, empty)) =
      absurd (lacks_none IsMessageToken complete (lines_end_with_message commit).0 (message_line commit.message) [] (lines_end_with_message commit).1
      (message_line_token_is_message commit.message) lacks)

  pub has_message : ¬ EndsSearch IsMessageToken reader (optional_error Malformed)
  has_message = λ lacks. lacks_none IsMessageToken broken (lines_end_with_message commit).0 (message_line commit.message) [] (lines_end_with_message commit).1
      (message_line_token_is_message commit.message) lacks

  -- ---- the tree

  tree_begins : (token : CommitTokenView) × (following : State) × (rest : List ℕ) × BeginsWithCommitToken (commit_reader_state reader).kind
      (commit_reader_state reader).state (commit_reader_state reader).bytes token following rest
  tree_begins = token_exists_of_first_line (commit_reader_state reader).kind (commit_reader_state reader).state (commit_reader_state reader).bytes
      (tree_line commit.tree) _ run.0 yields_decoded run.2

  its_answer : (answer : Option (Result Token Error)) (after : CommitRefIter) → NextCommitToken reader answer after → (id : ObjectId)
      × (answered_commit_id answer ≡ Ok id) × DecodesToId commit.tree id
  its_answer (Some (Ok token)) after gives =
      let kind' = (commit_reader_state reader).kind in
      let first = after_first (BeginsWithCommitToken kind') (commit_token_unique kind') (no_commit_token_of_nil kind') (commit_reader_state reader).state
      (commit_reader_state after).state (commit_reader_state reader).bytes (commit_reader_state after).bytes
      (commit_token_view token) run.0 complete gives.0 yields_decoded in
      let tree = first_token_is_tree commit _ (commit_token_view token) first.others
      (subst (λ (it : List CommitTokenView). AllZip IsTokenOfLine (lines_of_commit commit) it) first.joined run.2) in
      (tree.0, ap (λ (it : CommitTokenView). commit_id_or_malformed (commit_token_id it)) tree.1, tree.2)
  its_answer (Some (Err Malformed)) after gives = absurd (gives.1 _ _ _ tree_begins.3)
  its_answer (Some (Err OutOfMemory)) after gives = absurd (subst (λ (it : ReaderState Kind State). MayFold it.state it.bytes) start gives.1.0)
  its_answer None after gives =
      absurd (no_commit_token_of_nil (commit_reader_state reader).kind (commit_reader_state reader).state
      (commit_reader_state reader).bytes tree_begins.0 _ _
      gives.0 tree_begins.3)

  pub its_tree : (after : CommitRefIter) (result : Result ObjectId Error) → NextIdOfCommit reader result after → (id : ObjectId) × (result ≡ Ok id)
      × DecodesToId commit.tree id
  its_tree after result (answer, gives, is_answer) = let it = its_answer answer after gives in (it.0, is_answer ∙ it.1, it.2)
