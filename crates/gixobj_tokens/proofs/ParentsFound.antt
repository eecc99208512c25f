-- States which parents a token iterator finds in the encoding of a commit; the law `id_search_complete` uses it.
use Rattle.std.proofs.Common.{◌≡◌, ℕ, List, [], ◌∷◌, ◌++◌, Option, Some, None, refl, sym, ap, subst, ◌∙◌}
use Rattle.std.proofs.lemmas.Iterator.{YieldsList}
use Rattle.std.proofs.lemmas.List.Elements.{All-cons, All-head, All-nil, All-tail}
use Rattle.std.proofs.lemmas.List.Concat.{flat_map-append}
use Rattle.std.specs.Iterator.{AlwaysYields}
use Rattle.std.specs.List.{AllZip, flat_map}
use Rattle.std.specs.Prelude.{map, ⊤}
use Rattle.gixobj_hash.specs.Hash.{DecodesToId}
use Rattle.gixobj_hash.specs.declared.decode.Error.TheVariants.{Malformed, OutOfMemory}
use Rattle.gixobj_hash.specs.declared.hash.kind.Kind.{Kind}
use Rattle.gixobj_hash.specs.declared.hash.object_id.ObjectId.{ObjectId}
use Rattle.gixobj_hash.proofs.Runs.{after_first, yields_after_pieces}
use Rattle.gixobj_hash.specs.HeaderFormat.{Header}
use Rattle.gixobj_hash.specs.Runs.{Ending, HasNone, complete, yields_end, yields_error, yields_piece}
use Rattle.gixobj_grammar.specs.Commit.{CommitLines, DecodesToCommit, encoding_lines, lines_of_commit}
use Rattle.gixobj_grammar.specs.Lines.{BeginsWithLine, LineView, MayFold, author_comes, committer_comes, encoding_comes, first_header_comes}
use Rattle.gixobj_grammar.specs.Lines.{first_message_comes, header_comes, header_line, message_comes, message_line, parent_comes, parent_line, tree_comes}
use Rattle.gixobj_grammar.specs.declared.lines.State.{State}
use Rattle.gixobj_grammar.specs.declared.lines.State.TheVariants as state
use Rattle.gixobj_tokens.proofs.CommitsFound.{yields_tokens_from_start}
use Rattle.gixobj_tokens.proofs.CommitLanguage as language
use Rattle.gixobj_tokens.proofs.CommitRuns.{token_run_unique}
use Rattle.gixobj_tokens.proofs.CommitTokens.{no_commit_token_of_nil, commit_token_unique}
use Rattle.gixobj_tokens.specs.CommitRuns.{YieldsCommitTokens}
use Rattle.gixobj_tokens.specs.CommitTokens.{BeginsWithCommitToken, IsTokenOfLine, CommitTokenView, author_token, committer_token, encoding_token, header_token}
use Rattle.gixobj_tokens.specs.CommitTokens.{message_token, parent_token, yields_author, yields_committer, yields_encoding, yields_header, yields_message}
use Rattle.gixobj_tokens.specs.CommitTokens.{yields_parent, yields_tree, tree_token}
use Rattle.gixobj_tokens.specs.Readers.{AreTokensOfCommit}
use Rattle.gixobj_tokens.specs.TokenFilters.{NextParent, parents_reader}
use Rattle.gixobj_tokens.specs.CommitTokenSteps.{IsAtStartOfCommit, commit_reader_state}
use Rattle.gixobj_tokens.specs.TokenSearch.{IsParentToken}
use Rattle.gixobj_tokens.specs.declared.commit.filters.ParentIds.{ParentIds}

-- ---- the parents among tokens

abbrev parent_id : CommitTokenView → List ObjectId
parent_id (parent_token id) = id ∷ []
parent_id _ = []

abbrev parents_of : List CommitTokenView → List ObjectId
parents_of tokens = flat_map parent_id tokens

parent_id_nil_of_other : (token : CommitTokenView) → ¬ IsParentToken token → parent_id token ≡ []
parent_id_nil_of_other (parent_token id) other = absurd (other tt)
parent_id_nil_of_other (tree_token id) other = refl
parent_id_nil_of_other (author_token actor) other = refl
parent_id_nil_of_other (committer_token actor) other = refl
parent_id_nil_of_other (encoding_token encoding) other = refl
parent_id_nil_of_other (header_token header) other = refl
parent_id_nil_of_other (message_token message) other = refl

parents_of_others_nil : (tokens : List CommitTokenView) → HasNone IsParentToken tokens → parents_of tokens ≡ []
parents_of_others_nil [] none = refl
parents_of_others_nil (token ∷ tokens) none =
    rw (parent_id_nil_of_other token (All-head (λ it. ¬ IsParentToken it) token tokens none))
    (parents_of_others_nil tokens (All-tail (λ it. ¬ IsParentToken it) token tokens none))

-- after tokens without a parent, the parents are those of the rest
parents_of_others_append : (others tokens : List CommitTokenView) → HasNone IsParentToken others → parents_of (others ++ tokens) ≡ parents_of tokens
parents_of_others_append others tokens none = flat_map-append parent_id others tokens ∙ ap (λ (it : List ObjectId). it ++ parents_of tokens)
    (parents_of_others_nil others none)

-- ---- no parent follows the committer

abbrev IsAfterActors : State → Type 0
IsAfterActors state.Encoding = ⊤
IsAfterActors state.ExtraHeaders = ⊤
IsAfterActors state.End = ⊤
IsAfterActors _ = ⊥

is_after_actors_of_may_fold : (before : State) (input : List ℕ) → MayFold before input → IsAfterActors before
is_after_actors_of_may_fold state.Tree input may = absurd may
is_after_actors_of_may_fold state.Parents input may = absurd may
is_after_actors_of_may_fold state.Committer input may = absurd may
is_after_actors_of_may_fold state.Encoding input may = tt
is_after_actors_of_may_fold state.ExtraHeaders input may = tt
is_after_actors_of_may_fold state.End input may = absurd may

no_parent_token_after_actors : (kind : Kind) (before : State) (input : List ℕ) (line : LineView) (token : CommitTokenView) (after : State) (rest : List ℕ)
    → BeginsWithLine kind before input line after rest → IsTokenOfLine line token → IsAfterActors before
    → (¬ IsParentToken token) × IsAfterActors after
no_parent_token_after_actors kind before input line token after rest (tree_comes _ hex _ has) yields may = absurd may
no_parent_token_after_actors kind before input line token after rest (parent_comes _ hex _ has) yields may = absurd may
no_parent_token_after_actors kind before input line token after rest (author_comes _ actor _ has) yields may = absurd may
no_parent_token_after_actors kind before input line token after rest (committer_comes _ actor _ has) yields may = absurd may
no_parent_token_after_actors kind before input line token after rest (encoding_comes _ encoding _ has) (yields_encoding _) may = (λ is. is, tt)
no_parent_token_after_actors kind before input line token after rest (first_header_comes _ header _ has other) (yields_header _) may = (λ is. is, tt)
no_parent_token_after_actors kind before input line token after rest (header_comes _ header _ has) (yields_header _) may = (λ is. is, tt)
no_parent_token_after_actors kind before input line token after rest (first_message_comes _ message is) (yields_message _) may = (λ is. is, tt)
no_parent_token_after_actors kind before input line token after rest (message_comes _ message is) (yields_message _) may = (λ is. is, tt)

no_parent_tokens_after_actors : (kind : Kind) (before : State) (input : List ℕ) (tokens : List CommitTokenView) (ending : Ending) → IsAfterActors before
    → YieldsCommitTokens kind before input tokens ending → HasNone IsParentToken tokens
no_parent_tokens_after_actors kind before input tokens ending may (yields_end _) = All-nil (λ it. ¬ IsParentToken it)
no_parent_tokens_after_actors kind before input tokens ending may (yields_error _ _ some none) = All-nil (λ it. ¬ IsParentToken it)
no_parent_tokens_after_actors kind before input tokens ending may (yields_piece _ following _ rest token others _ (line, has, yields) seen) =
    let it = no_parent_token_after_actors kind before input line token following rest has yields may in
    All-cons (λ it. ¬ IsParentToken it) token others it.0 (no_parent_tokens_after_actors kind following rest others ending it.1 seen)

-- ---- the iterator

-- the complete run after the yielded parent
record Given (id : ObjectId) (tokens : List CommitTokenView) (after : ParentIds) : Type 0 where
  others : List CommitTokenView
  yielded : YieldsCommitTokens (commit_reader_state (parents_reader after)).kind (commit_reader_state (parents_reader after)).state
      (commit_reader_state (parents_reader after)).bytes others complete
  first : parents_of tokens ≡ id ∷ parents_of others

module _ (it : ParentIds) (tokens : List CommitTokenView)
    (seen : YieldsCommitTokens (commit_reader_state (parents_reader it)).kind (commit_reader_state (parents_reader it)).state
    (commit_reader_state (parents_reader it)).bytes tokens complete) where
  some_consumed : (id : ObjectId) (after : ParentIds) → NextParent it (Some id) after → Given id tokens after
  some_consumed id after (before, input, token, (consumed, begins_with, none), has, is, same_kind) =
      let kind = (commit_reader_state (parents_reader it)).kind in
      let at = yields_after_pieces (BeginsWithCommitToken kind) (commit_token_unique kind) (no_commit_token_of_nil kind)
      (commit_reader_state (parents_reader it)).state before
      (commit_reader_state (parents_reader it)).bytes input consumed tokens complete begins_with seen in
      let one = after_first (BeginsWithCommitToken kind) (commit_token_unique kind) (no_commit_token_of_nil kind) before _ input _ token at.others complete has
      at.yielded in
      record {
        others = one.others;
        yielded = subst (λ (kind : Kind). YieldsCommitTokens kind (commit_reader_state (parents_reader after)).state
            (commit_reader_state (parents_reader after)).bytes one.others complete) (sym same_kind) one.yielded;
        first = ap parents_of at.joined ∙ parents_of_others_append consumed at.others none ∙ ap parents_of one.joined
            ∙ ap (λ (first : CommitTokenView). parent_id first ++ parents_of one.others) is;
      }

  none_consumed : (after : ParentIds) → NextParent it None after → parents_of tokens ≡ []
  none_consumed after (Malformed, (ending, (others, run, none)), ended, same_kind) =
      let same = (token_run_unique _ _ _ others tokens ending complete run seen).0 in
      parents_of_others_nil tokens (subst (HasNone IsParentToken) same none)
  none_consumed after (OutOfMemory, (before, input, (consumed, begins_with, none), rejected), ended, same_kind) =
      let kind = (commit_reader_state (parents_reader it)).kind in
      let at = yields_after_pieces (BeginsWithCommitToken kind) (commit_token_unique kind) (no_commit_token_of_nil kind)
      (commit_reader_state (parents_reader it)).state before
      (commit_reader_state (parents_reader it)).bytes input consumed tokens complete begins_with seen in
      ap parents_of at.joined ∙ parents_of_others_append consumed at.others none ∙ parents_of_others_nil at.others
      (no_parent_tokens_after_actors _ before input at.others complete (is_after_actors_of_may_fold before input rejected.0) at.yielded)

always_yields_parents : (ids : List ObjectId) (it : ParentIds) (tokens : List CommitTokenView)
    → YieldsCommitTokens (commit_reader_state (parents_reader it)).kind
    (commit_reader_state (parents_reader it)).state (commit_reader_state (parents_reader it)).bytes tokens complete
    → parents_of tokens ≡ ids → AlwaysYields NextParent (λ id. id) it ids
always_yields_parents [] it tokens seen none = λ id after gives. let received = some_consumed it tokens seen id after gives in cc (none, received.first)
always_yields_parents (id ∷ ids) it tokens seen some = (
  λ after gives. let none = none_consumed it tokens seen after gives in cc (none, some),
  λ received after gives.
      let next = some_consumed it tokens seen received after gives in
      let same : received ∷ parents_of next.others ≡ id ∷ ids = sym next.first ∙ some in
      let first : received ≡ id = cc same in
      let more : parents_of next.others ≡ ids = cc same in
      (first, always_yields_parents ids after next.others next.yielded more),
)

-- ---- the parents of a commit

abbrev hex_of : LineView → List (List ℕ)
hex_of (parent_line hex) = hex ∷ []
hex_of _ = []

line_hexes_decode_to_parents : (lines : List LineView) (tokens : List CommitTokenView) → AllZip IsTokenOfLine lines tokens
    → AllZip DecodesToId (flat_map hex_of lines) (parents_of tokens)
line_hexes_decode_to_parents [] [] zips = tt
line_hexes_decode_to_parents [] (token ∷ tokens) zips = absurd zips
line_hexes_decode_to_parents (line ∷ lines) [] zips = absurd zips
line_hexes_decode_to_parents (_ ∷ lines) (_ ∷ tokens) (yields_tree hex id spells, others) = line_hexes_decode_to_parents lines tokens others
line_hexes_decode_to_parents (_ ∷ lines) (_ ∷ tokens) (yields_parent hex id spells, others) = (spells, line_hexes_decode_to_parents lines tokens others)
line_hexes_decode_to_parents (_ ∷ lines) (_ ∷ tokens) (yields_author content actor is, others) = line_hexes_decode_to_parents lines tokens others
line_hexes_decode_to_parents (_ ∷ lines) (_ ∷ tokens) (yields_committer content actor is, others) = line_hexes_decode_to_parents lines tokens others
line_hexes_decode_to_parents (_ ∷ lines) (_ ∷ tokens) (yields_encoding encoding, others) = line_hexes_decode_to_parents lines tokens others
line_hexes_decode_to_parents (_ ∷ lines) (_ ∷ tokens) (yields_header header, others) = line_hexes_decode_to_parents lines tokens others
line_hexes_decode_to_parents (_ ∷ lines) (_ ∷ tokens) (yields_message message, others) = line_hexes_decode_to_parents lines tokens others

hexes_of_parent_lines_append : (hexes : List (List ℕ)) (lines : List LineView) → flat_map hex_of lines ≡ []
    → flat_map hex_of (map parent_line hexes ++ lines) ≡ hexes
hexes_of_parent_lines_append [] lines none = none
hexes_of_parent_lines_append (hex ∷ hexes) lines none = ap (λ (it : List (List ℕ)). hex ∷ it) (hexes_of_parent_lines_append hexes lines none)

hexes_of_headers_nil : (headers : List Header) (message : List ℕ) → flat_map hex_of (map header_line headers ++ message_line message ∷ []) ≡ []
hexes_of_headers_nil [] message = refl
hexes_of_headers_nil (header ∷ headers) message = hexes_of_headers_nil headers message

hexes_of_encoding_nil : (encoding : Option (List ℕ)) (headers : List Header) (message : List ℕ)
    → flat_map hex_of (encoding_lines encoding ++ (map header_line headers ++ message_line message ∷ [])) ≡ []
hexes_of_encoding_nil None headers message = hexes_of_headers_nil headers message
hexes_of_encoding_nil (Some encoding) headers message = hexes_of_headers_nil headers message

commit_parents_decode : (commit : CommitLines) (tokens : List CommitTokenView) → AreTokensOfCommit commit tokens
    → AllZip DecodesToId commit.parents (parents_of tokens)
commit_parents_decode commit tokens are =
    subst (λ (hexes : List (List ℕ)). AllZip DecodesToId hexes (parents_of tokens))
    (hexes_of_parent_lines_append commit.parents _ (hexes_of_encoding_nil commit.encoding commit.extra_headers commit.message))
    (line_hexes_decode_to_parents (lines_of_commit commit) tokens are)

pub yields_parents_of_commit : (kind : Kind) (content : List ℕ) (commit : CommitLines) (it : ParentIds) → DecodesToCommit kind content commit
    → IsAtStartOfCommit kind content (parents_reader it)
    → (ids : List ObjectId) × AllZip DecodesToId commit.parents ids × YieldsList NextParent (λ id. id) it ids
yields_parents_of_commit kind content commit it is start =
    let run = language.yields_tokens_of_commit kind content commit is in
    let seen = yields_tokens_from_start kind content (parents_reader it) run.0 start run.1 in
    (parents_of run.0, commit_parents_decode commit run.0 run.2, record { runs = always_yields_parents (parents_of run.0) it run.0 seen refl })
