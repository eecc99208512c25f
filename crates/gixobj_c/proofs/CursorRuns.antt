-- Calls over cursors, one after another: what they find are the pieces that a reader yields.
use Rattle.std.proofs.Common.{◌≡◌, ◌<◌, ◌≤◌, ◌-◌, ◌+◌, ℕ, List, [], ◌∷◌, ◌++◌, ap, append_assoc, arith, drop, inl, inr, length, length-append, refl, subst, sym}
use Rattle.std.proofs.Common.{◌∙◌}
use Rattle.std.proofs.lemmas.List.{length-drop}
use Rattle.std.specs.Prelude.{Option, Some, None}
use Rattle.gixobj_c.specs.Commits.{IsCommitTokenCall, IsTokenAt, state_of_code}
use Rattle.gixobj_c.specs.Runs.{AreCommitTokensOf, AreOf, AreTagTokensOf, IsCommitRunStatus, IsTagRunStatus, IsTagTokenIn, IsTokenIn}
use Rattle.gixobj_c.specs.Tags.{IsTagTokenAt, IsTagTokenCall, tag_state_of_code}
use Rattle.gixobj_c.specs.declared.commits.CommitToken.{CommitToken}
use Rattle.gixobj_c.specs.declared.commits.Cursor.{Cursor}
use Rattle.gixobj_c.specs.declared.tags.TagToken.{TagToken}
use Rattle.gixobj_grammar.proofs.OneLine.{line_len_lt}
use Rattle.gixobj_grammar.specs.Lines.{BeginsWithLine, BeginsWithSomeLine, LineView, MayFold, NeedsAllocation}
use Rattle.gixobj_grammar.specs.declared.lines.State.{State}
use Rattle.gixobj_grammar.specs.declared.lines.State.TheVariants as line_state
use Rattle.gixobj_grammar.specs.TagTokens.{BeginsWithTagToken, TagTokenView, body_comes, kind_comes, name_comes, no_tagger_comes, tagger_comes, target_comes}
use Rattle.gixobj_grammar.specs.declared.tokens.State.{State as TagState}
use Rattle.gixobj_grammar.specs.declared.tokens.State.TheVariants as tag_state
use Rattle.gixobj_hash.specs.FieldFormat.{encode_field}
use Rattle.gixobj_hash.specs.HeaderFormat.{BeginsWithField}
use Rattle.gixobj_hash.specs.Runs.{BeginsWithPieces, HasNoPiece, Yields, broken, complete, yields_end, yields_error, yields_piece}
use Rattle.gixobj_hash.specs.declared.hash.kind.Kind.{Kind}

-- ---- any pieces

begins_snoc : {S P : Type 0} (Has : S → List ℕ → P → S → List ℕ → Type 0) (before mid following : S) (input here rest : List ℕ) (pieces : List P) (piece : P)
    → BeginsWithPieces Has before input pieces mid here → Has mid here piece following rest
    → BeginsWithPieces Has before input (pieces ++ piece ∷ []) following rest
begins_snoc Has before mid following input here rest [] piece (state, same) has =
    (following, rest, subst (λ it. Has it input piece following rest) (sym state) (subst (λ it. Has mid it piece following rest) (sym same) has), (refl, refl))
begins_snoc Has before mid following input here rest (first ∷ pieces) piece (next, after, is, more) has =
    (next, after, is, begins_snoc Has next mid following after here rest pieces piece more has)

yields_of_begins : {S P : Type 0} (Has : S → List ℕ → P → S → List ℕ → Type 0) (before following : S) (input rest : List ℕ) (pieces : List P)
    → BeginsWithPieces Has before input pieces following rest → rest ≡ [] → Yields Has before input pieces complete
yields_of_begins Has before following input rest [] (state, same) none =
    subst (λ it. Yields Has before it [] complete) (sym (same ∙ none)) (yields_end before)
yields_of_begins Has before following input rest (first ∷ pieces) (next, after, is, more) none =
    yields_piece before next input after first pieces complete is (yields_of_begins Has next following after rest pieces more none)

yields_broken_of_begins : {S P : Type 0} (Has : S → List ℕ → P → S → List ℕ → Type 0) (before following : S) (input rest : List ℕ) (pieces : List P)
    → BeginsWithPieces Has before input pieces following rest → 0 < length rest → HasNoPiece Has following rest → Yields Has before input pieces broken
yields_broken_of_begins Has before following input rest [] (state, same) some none =
    subst (λ it. Yields Has it input [] broken) (sym state) (subst (λ it. Yields Has following it [] broken) (sym same)
    (yields_error following rest (λ no. absurd (omega (arith, some, ap length no))) none))
yields_broken_of_begins Has before following input rest (first ∷ pieces) (next, after, is, more) some none =
    yields_piece before next input after first pieces broken is (yields_broken_of_begins Has next following after rest pieces more some none)

pub are_of_snoc : {P T : Type 0} (Is : P → T → Type 0) (pieces : List P) (items : List T) (piece : P) (item : T) → AreOf Is pieces items → Is piece item
    → AreOf Is (pieces ++ piece ∷ []) (items ++ item ∷ [])
are_of_snoc Is [] [] piece item are is = (is, tt)
are_of_snoc Is [] (first ∷ items) piece item are is = absurd are
are_of_snoc Is (first ∷ pieces) [] piece item are is = absurd are
are_of_snoc Is (first ∷ pieces) (one ∷ items) piece item are is = (are.0, are_of_snoc Is pieces items piece item are.1 is)

nil_of_len : (it : List ℕ) → length it ≡ 0 → it ≡ []
nil_of_len [] len = refl
nil_of_len (first ∷ more) len = cc len

drop_all : (input : List ℕ) (offset : ℕ) → offset ≡ length input → drop offset input ≡ []
drop_all input offset same = nil_of_len (drop offset input) (omega (arith, length-drop offset input, same))

-- ---- commits

-- the calls up to this cursor found these tokens
abbrev pub HasTokens : Option Kind → List ℕ → Cursor → List CommitToken → Type 0
HasTokens (Some kind) commit cursor tokens = (lines : List LineView) × (state : State) × (state_of_code cursor.state ≡ Some state)
    × (cursor.offset ≤ length commit)
    × BeginsWithPieces (BeginsWithLine kind) line_state.Tree commit lines state (drop cursor.offset commit)
    × AreOf (IsTokenIn commit) lines tokens
HasTokens None commit cursor tokens = Unit {0}

pub has_tokens_none : (kind : Option Kind) (commit : List ℕ) (tokens : List CommitToken) → tokens ≡ []
    → HasTokens kind commit (record { offset = 0; state = 0 }) tokens
has_tokens_none None commit tokens none = tt
has_tokens_none (Some kind) commit tokens none = ([], line_state.Tree, refl, omega arith, (refl, refl), subst (AreOf (IsTokenIn commit) []) (sym none) tt)

next_token : (kind : Kind) (commit : List ℕ) (state : State) (old new : Cursor) (tokens : List CommitToken) (token_old token : CommitToken)
    (lines : List LineView)
    → BeginsWithPieces (BeginsWithLine kind) line_state.Tree commit lines state (drop old.offset commit) → AreOf (IsTokenIn commit) lines tokens
    → IsTokenAt kind commit state old.offset new token → HasTokens (Some kind) commit new (tokens ++ token ∷ [])
next_token kind commit state old new tokens token_old token lines begins are is = (
  lines ++ is.line ∷ [],
  is.after,
  is.state,
  is.within,
  begins_snoc (BeginsWithLine kind) line_state.Tree state is.after commit (drop old.offset commit) (drop new.offset commit) lines is.line begins is.begins,
  are_of_snoc (IsTokenIn commit) lines tokens is.line token are (old.offset, drop new.offset commit, is.token_of_line),
)

token_of_done : (kind : Kind) (commit : List ℕ) (before : Option State) (state : State) (offset : ℕ) (old new : Cursor) (token_old token : CommitToken)
    (status : ℕ)
    → before ≡ Some state → status ≡ 0 → IsCommitTokenCall (Some kind) commit before offset old new token_old token status
    → IsTokenAt kind commit state offset new token
token_of_done kind commit None state offset old new token_old token status known zero call = absurd (cc known)
token_of_done kind commit (Some before) state offset old new token_old token status known zero (inl (same, is)) =
    subst (λ it. IsTokenAt kind commit it offset new token) (cc known) is
token_of_done kind commit (Some before) state offset old new token_old token status known zero (inr (inl (one, _), _, _)) = absurd (cc (zero, one))
token_of_done kind commit (Some before) state offset old new token_old token status known zero (inr (inr (inl (two, _, _)), _, _)) = absurd (cc (zero, two))
token_of_done kind commit (Some before) state offset old new token_old token status known zero (inr (inr (inr (inl (three, _, _))), _, _)) =
    absurd (cc (zero, three))
token_of_done kind commit (Some before) state offset old new token_old token status known zero (inr (inr (inr (inr (six, _))), _, _)) = absurd (cc (zero, six))

pub has_tokens_next : (kind : Option Kind) (commit : List ℕ) (old new : Cursor) (tokens more : List CommitToken) (token_old token : CommitToken) (status : ℕ)
    → HasTokens kind commit old tokens → IsCommitTokenCall kind commit (state_of_code old.state) old.offset old new token_old token status → status ≡ 0
    → more ≡ tokens ++ token ∷ [] → HasTokens kind commit new more
has_tokens_next None commit old new tokens more token_old token status has call zero same = tt
has_tokens_next (Some kind) commit old new tokens more token_old token status (lines, state, known, within, begins, are) call zero same =
    subst (λ it. HasTokens (Some kind) commit new it) (sym same)
    (next_token kind commit state old new tokens token_old token lines begins are
    (token_of_done kind commit (state_of_code old.state) state old.offset old new token_old token status known zero call))

at_end_of_status : (kind : Kind) (commit : List ℕ) (before : Option State) (state : State) (offset : ℕ) (old new : Cursor) (token_old token : CommitToken)
    (status : ℕ)
    → before ≡ Some state → status ≡ 1 → IsCommitTokenCall (Some kind) commit before offset old new token_old token status
    → offset ≡ length commit
at_end_of_status kind commit None state offset old new token_old token status known one call = absurd (cc known)
at_end_of_status kind commit (Some before) state offset old new token_old token status known one (inl (zero, _)) = absurd (cc (zero, one))
at_end_of_status kind commit (Some before) state offset old new token_old token status known one (inr (inl (_, end), _, _)) = end
at_end_of_status kind commit (Some before) state offset old new token_old token status known one (inr (inr (inl (two, _, _)), _, _)) = absurd (cc (one, two))
at_end_of_status kind commit (Some before) state offset old new token_old token status known one (inr (inr (inr (inl (three, _, _))), _, _)) =
    absurd (cc (one, three))
at_end_of_status kind commit (Some before) state offset old new token_old token status known one (inr (inr (inr (inr (six, _))), _, _)) = absurd (cc (one, six))

pub all_tokens : (kind : Option Kind) (commit : List ℕ) (old new : Cursor) (tokens : List CommitToken) (token_old token : CommitToken) (status : ℕ)
    → HasTokens kind commit old tokens → IsCommitTokenCall kind commit (state_of_code old.state) old.offset old new token_old token status → status ≡ 1
    → AreCommitTokensOf kind commit tokens
all_tokens None commit old new tokens token_old token status has (four, _, _) one = absurd (cc (one, four))
all_tokens (Some kind) commit old new tokens token_old token status (lines, state, known, within, begins, are) call one =
    record {
      lines = lines;
      yields = yields_of_begins (BeginsWithLine kind) line_state.Tree state commit (drop old.offset commit) lines begins
          (drop_all commit old.offset (at_end_of_status kind commit (state_of_code old.state) state old.offset old new token_old token status known one call));
      each = are;
    }

rest_is_some : (input : List ℕ) (offset : ℕ) → offset < length input → 0 < length (drop offset input)
rest_is_some input offset less = omega (arith, less, length-drop offset input)

-- there is a first line: one that the calls found, or one that needs an allocation, which the first line doesn't
first_line : (kind : Kind) (commit here : List ℕ) (state : State) (lines : List LineView)
    → BeginsWithPieces (BeginsWithLine kind) line_state.Tree commit lines state here
    → NeedsAllocation state here → (after : State) × (rest : List ℕ) × BeginsWithSomeLine kind line_state.Tree commit after rest
first_line kind commit here line_state.Tree [] begins needs = absurd needs.0
first_line kind commit here state [] begins needs = absurd (subst (λ it. MayFold it here) (sym begins.0) needs.0)
first_line kind commit here state (line ∷ lines) (next, after, is, more) needs = (next, after, (line, is))

run_status_of : (kind : Kind) (commit : List ℕ) (before : Option State) (state : State) (old new : Cursor) (lines : List LineView) (a b : CommitToken)
    (status : ℕ)
    → before ≡ Some state → old.offset ≤ length commit → BeginsWithPieces (BeginsWithLine kind) line_state.Tree commit lines state (drop old.offset commit)
    → IsCommitTokenCall (Some kind) commit before old.offset old new a b status → (status ≡ 1 → ⊥) → (status ≡ 0 → ⊥)
    → IsCommitRunStatus (Some kind) commit status
run_status_of kind commit None state old new lines a b status known within begins call some bad = absurd (cc known)
run_status_of kind commit (Some before) state old new lines a b status known within begins (inl (zero, _)) some bad = absurd (bad zero)
run_status_of kind commit (Some before) state old new lines a b status known within begins (inr (inl (one, _), _, _)) some bad = absurd (some one)
run_status_of kind commit (Some before) state old new lines a b status known within begins (inr (inr (inl (two, less, none)), _, _)) some bad =
    let yields = yields_broken_of_begins (BeginsWithLine kind) line_state.Tree state commit (drop old.offset commit) lines begins
    (rest_is_some commit old.offset less) (subst (λ it. HasNoPiece (BeginsWithLine kind) it (drop old.offset commit)) (cc known) none) in
    inl (two, (lines, yields))
run_status_of kind commit (Some before) state old new lines a b status known within begins (inr (inr (inr (inl (three, less, needs))), _, _)) some bad =
    inr (
      three,
      first_line kind commit (drop old.offset commit) state lines begins
          (subst (λ it. NeedsAllocation it (drop old.offset commit)) (cc known) needs),
    )
run_status_of kind commit (Some before) state old new lines a b status known within begins (inr (inr (inr (inr (six, far))), _, _)) some bad =
    absurd (omega (arith, within, far))

pub status_of_run : (kind : Option Kind) (commit : List ℕ) (old new : Cursor) (tokens : List CommitToken) (token_old token : CommitToken) (status : ℕ)
    → HasTokens kind commit old tokens → IsCommitTokenCall kind commit (state_of_code old.state) old.offset old new token_old token status
    → (status ≡ 1 → ⊥) → (status ≡ 0 → ⊥) → IsCommitRunStatus kind commit status
status_of_run None commit old new tokens token_old token status has call some fails = call.0
status_of_run (Some kind) commit old new tokens token_old token status (lines, state, known, within, begins, are) call some fails =
    run_status_of kind commit (state_of_code old.state) state old new lines token_old token status known within begins call some fails

-- without memory for a found token: its line, or one before it, is the first
pub no_memory_for_token : (kind : Option Kind) (commit : List ℕ) (old new : Cursor) (tokens : List CommitToken) (token_old token : CommitToken) (status : ℕ)
    → HasTokens kind commit old tokens → IsCommitTokenCall kind commit (state_of_code old.state) old.offset old new token_old token status → status ≡ 0
    → IsCommitRunStatus kind commit 3
no_memory_for_token None commit old new tokens token_old token status has (four, _, _) zero = absurd (cc (zero, four))
no_memory_for_token (Some kind) commit old new tokens token_old token status ([], state, known, within, begins, are) call zero =
    let is = token_of_done kind commit (state_of_code old.state) state old.offset old new token_old token status known zero call in
    let begins_with : BeginsWithLine kind line_state.Tree commit is.line is.after (drop new.offset commit) =
    subst (λ it. BeginsWithLine kind it commit is.line is.after (drop new.offset commit)) (sym begins.0)
    (subst (λ it. BeginsWithLine kind state it is.line is.after (drop new.offset commit)) (sym begins.1) is.begins) in
    inr (refl, (is.after, drop new.offset commit, (is.line, begins_with)))
no_memory_for_token (Some kind) commit old new tokens token_old token status (line ∷ lines, state, known, within, (next, after, is, more), are) call zero =
    inr (refl, (next, after, (line, is)))

pub calls_advance : (kind : Option Kind) (commit : List ℕ) (old new : Cursor) (tokens : List CommitToken) (token_old token : CommitToken) (status : ℕ)
    → HasTokens kind commit old tokens → IsCommitTokenCall kind commit (state_of_code old.state) old.offset old new token_old token status → status ≡ 0
    → length commit - new.offset < length commit - old.offset
calls_advance None commit old new tokens token_old token status has (four, _, _) zero = absurd (cc (zero, four))
calls_advance (Some kind) commit old new tokens token_old token status (lines, state, known, within, begins, are) call zero =
    let is = token_of_done kind commit (state_of_code old.state) state old.offset old new token_old token status known zero call in
    let less = line_len_lt kind state (drop old.offset commit) is.line is.after (drop new.offset commit) is.begins in
    omega (arith, less, length-drop old.offset commit, length-drop new.offset commit)

-- ---- tags

-- the calls up to this cursor found these tokens
abbrev pub HasTagTokens : Option Kind → List ℕ → Cursor → List TagToken → Type 0
HasTagTokens (Some kind) tag cursor tokens = (found : List TagTokenView) × (state : TagState) × (tag_state_of_code cursor.state ≡ Some state)
    × (cursor.offset ≤ length tag)
    × BeginsWithPieces (BeginsWithTagToken kind) tag_state.Target tag found state (drop cursor.offset tag)
    × AreOf (IsTagTokenIn tag) found tokens
HasTagTokens None tag cursor tokens = Unit {0}

pub has_tag_tokens_none : (kind : Option Kind) (tag : List ℕ) (tokens : List TagToken) → tokens ≡ []
    → HasTagTokens kind tag (record { offset = 0; state = 0 }) tokens
has_tag_tokens_none None tag tokens none = tt
has_tag_tokens_none (Some kind) tag tokens none = ([], tag_state.Target, refl, omega arith, (refl, refl), subst (AreOf (IsTagTokenIn tag) []) (sym none) tt)

next_tag_token : (kind : Kind) (tag : List ℕ) (state : TagState) (old new : Cursor) (tokens : List TagToken) (token : TagToken) (found : List TagTokenView)
    → BeginsWithPieces (BeginsWithTagToken kind) tag_state.Target tag found state (drop old.offset tag) → AreOf (IsTagTokenIn tag) found tokens
    → IsTagTokenAt kind tag state old.offset new token → HasTagTokens (Some kind) tag new (tokens ++ token ∷ [])
next_tag_token kind tag state old new tokens token found begins are is = (
  found ++ is.found ∷ [],
  is.after,
  is.state,
  is.within,
  begins_snoc (BeginsWithTagToken kind) tag_state.Target state is.after tag (drop old.offset tag) (drop new.offset tag) found is.found begins is.begins,
  are_of_snoc (IsTagTokenIn tag) found tokens is.found token are (old.offset, drop new.offset tag, is.token_of_tag),
)

tag_token_of_done : (kind : Kind) (tag : List ℕ) (before : Option TagState) (state : TagState) (offset : ℕ) (old new : Cursor) (token_old token : TagToken)
    (status : ℕ)
    → before ≡ Some state → status ≡ 0 → IsTagTokenCall (Some kind) tag before offset old new token_old token status
    → IsTagTokenAt kind tag state offset new token
tag_token_of_done kind tag None state offset old new token_old token status known zero call = absurd (cc known)
tag_token_of_done kind tag (Some before) state offset old new token_old token status known zero (inl (same, is)) =
    subst (λ it. IsTagTokenAt kind tag it offset new token) (cc known) is
tag_token_of_done kind tag (Some before) state offset old new token_old token status known zero (inr (inl (one, _), _, _)) = absurd (cc (zero, one))
tag_token_of_done kind tag (Some before) state offset old new token_old token status known zero (inr (inr (inl (two, _, _)), _, _)) = absurd (cc (zero, two))
tag_token_of_done kind tag (Some before) state offset old new token_old token status known zero (inr (inr (inr (six, _)), _, _)) = absurd (cc (zero, six))

pub has_tag_tokens_next : (kind : Option Kind) (tag : List ℕ) (old new : Cursor) (tokens more : List TagToken) (token_old token : TagToken) (status : ℕ)
    → HasTagTokens kind tag old tokens → IsTagTokenCall kind tag (tag_state_of_code old.state) old.offset old new token_old token status → status ≡ 0
    → more ≡ tokens ++ token ∷ [] → HasTagTokens kind tag new more
has_tag_tokens_next None tag old new tokens more token_old token status has call zero same = tt
has_tag_tokens_next (Some kind) tag old new tokens more token_old token status (found, state, known, within, begins, are) call zero same =
    subst (λ it. HasTagTokens (Some kind) tag new it) (sym same)
    (next_tag_token kind tag state old new tokens token found begins are
    (tag_token_of_done kind tag (tag_state_of_code old.state) state old.offset old new token_old token status known zero call))

at_end_of_tag : (kind : Kind) (tag : List ℕ) (before : Option TagState) (state : TagState) (offset : ℕ) (old new : Cursor) (token_old token : TagToken)
    (status : ℕ)
    → before ≡ Some state → status ≡ 1 → IsTagTokenCall (Some kind) tag before offset old new token_old token status → offset ≡ length tag
at_end_of_tag kind tag None state offset old new token_old token status known one call = absurd (cc known)
at_end_of_tag kind tag (Some before) state offset old new token_old token status known one (inl (zero, _)) = absurd (cc (zero, one))
at_end_of_tag kind tag (Some before) state offset old new token_old token status known one (inr (inl (_, end), _, _)) = end
at_end_of_tag kind tag (Some before) state offset old new token_old token status known one (inr (inr (inl (two, _, _)), _, _)) = absurd (cc (one, two))
at_end_of_tag kind tag (Some before) state offset old new token_old token status known one (inr (inr (inr (six, _)), _, _)) = absurd (cc (one, six))

pub all_tag_tokens : (kind : Option Kind) (tag : List ℕ) (old new : Cursor) (tokens : List TagToken) (token_old token : TagToken) (status : ℕ)
    → HasTagTokens kind tag old tokens → IsTagTokenCall kind tag (tag_state_of_code old.state) old.offset old new token_old token status → status ≡ 1
    → AreTagTokensOf kind tag tokens
all_tag_tokens None tag old new tokens token_old token status has (four, _, _) one = absurd (cc (one, four))
all_tag_tokens (Some kind) tag old new tokens token_old token status (found, state, known, within, begins, are) call one =
    record {
      found = found;
      yields = yields_of_begins (BeginsWithTagToken kind) tag_state.Target state tag (drop old.offset tag) found begins
          (drop_all tag old.offset (at_end_of_tag kind tag (tag_state_of_code old.state) state old.offset old new token_old token status known one call));
      each = are;
    }

tag_run_status_of : (kind : Kind) (tag : List ℕ) (before : Option TagState) (state : TagState) (old new : Cursor) (found : List TagTokenView)
    (a b : TagToken) (status : ℕ)
    → before ≡ Some state → old.offset ≤ length tag → BeginsWithPieces (BeginsWithTagToken kind) tag_state.Target tag found state (drop old.offset tag)
    → IsTagTokenCall (Some kind) tag before old.offset old new a b status → (status ≡ 1 → ⊥) → (status ≡ 0 → ⊥)
    → IsTagRunStatus (Some kind) tag status
tag_run_status_of kind tag None state old new found a b status known within begins call some bad = absurd (cc known)
tag_run_status_of kind tag (Some before) state old new found a b status known within begins (inl (zero, _)) some bad = absurd (bad zero)
tag_run_status_of kind tag (Some before) state old new found a b status known within begins (inr (inl (one, _), _, _)) some bad = absurd (some one)
tag_run_status_of kind tag (Some before) state old new found a b status known within begins (inr (inr (inl (two, less, none)), _, _)) some bad =
    let yields = yields_broken_of_begins (BeginsWithTagToken kind) tag_state.Target state tag (drop old.offset tag) found begins
    (rest_is_some tag old.offset less) (subst (λ it. HasNoPiece (BeginsWithTagToken kind) it (drop old.offset tag)) (cc known) none) in
    inl (two, (found, yields))
tag_run_status_of kind tag (Some before) state old new found a b status known within begins (inr (inr (inr (six, far)), _, _)) some bad =
    absurd (omega (arith, within, far))

pub status_of_tag_run : (kind : Option Kind) (tag : List ℕ) (old new : Cursor) (tokens : List TagToken) (token_old token : TagToken) (status : ℕ)
    → HasTagTokens kind tag old tokens → IsTagTokenCall kind tag (tag_state_of_code old.state) old.offset old new token_old token status
    → (status ≡ 1 → ⊥) → (status ≡ 0 → ⊥) → IsTagRunStatus kind tag status
status_of_tag_run None tag old new tokens token_old token status has call some fails = call.0
status_of_tag_run (Some kind) tag old new tokens token_old token status (found, state, known, within, begins, are) call some fails =
    tag_run_status_of kind tag (tag_state_of_code old.state) state old new found token_old token status known within begins call some fails

pub no_memory_for_tag_token : (kind : Option Kind) (tag : List ℕ) (old new : Cursor) (tokens : List TagToken) (token_old token : TagToken) (status : ℕ)
    → HasTagTokens kind tag old tokens → IsTagTokenCall kind tag (tag_state_of_code old.state) old.offset old new token_old token status → status ≡ 0
    → IsTagRunStatus kind tag 3
no_memory_for_tag_token None tag old new tokens token_old token status has (four, _, _) zero = absurd (cc (zero, four))
no_memory_for_tag_token (Some kind) tag old new tokens token_old token status ([], state, known, within, begins, are) call zero =
    let is = tag_token_of_done kind tag (tag_state_of_code old.state) state old.offset old new token_old token status known zero call in
    let begins_with : BeginsWithTagToken kind tag_state.Target tag is.found is.after (drop new.offset tag) =
    subst (λ it. BeginsWithTagToken kind it tag is.found is.after (drop new.offset tag)) (sym begins.0)
    (subst (λ it. BeginsWithTagToken kind state it is.found is.after (drop new.offset tag)) (sym begins.1) is.begins) in
    inr (refl, (is.found, is.after, drop new.offset tag, begins_with))
no_memory_for_tag_token (Some kind) tag old new tokens token_old token status (first ∷ found, state, known, within, (next, after, is, more), are) call zero =
    inr (refl, (first, next, after, is))

-- 1 in the state in which a token may have no bytes
abbrev pub tagger_weight : Option TagState → ℕ
tagger_weight (Some tag_state.Tagger) = 1
tagger_weight _ = 0

field_rest_lt : (name input value rest : List ℕ) → BeginsWithField name input value rest → length rest < length input
field_rest_lt name input value rest has =
    let flat : encode_field name value ++ rest ≡ name ++ (32 ∷ (value ++ (10 ∷ rest))) = simp append_assoc in
    let all = ap length (has.joined ∙ flat) in
    omega (arith, all, length-append name (32 ∷ (value ++ (10 ∷ rest))), length-append value (10 ∷ rest))

some_of_not_nil : (input : List ℕ) → (input ≡ [] → ⊥) → 0 < length input
some_of_not_nil [] some = absurd (some refl)
some_of_not_nil (first ∷ more) some = omega arith

tag_token_shortens : (kind : Kind) (before : TagState) (input : List ℕ) (found : TagTokenView) (after : TagState) (rest : List ℕ)
    → BeginsWithTagToken kind before input found after rest
    → length rest + length rest + tagger_weight (Some after) < length input + length input + tagger_weight (Some before)
tag_token_shortens kind before input found after rest (target_comes _ hex _ id has is) = let less = field_rest_lt _ input hex rest has.0 in omega (arith, less)
tag_token_shortens kind before input found after rest (kind_comes _ _ of has) = let less = field_rest_lt _ input _ rest has in omega (arith, less)
tag_token_shortens kind before input found after rest (name_comes _ name _ has) = let less = field_rest_lt _ input name rest has.0 in omega (arith, less)
tag_token_shortens kind before input found after rest (tagger_comes _ line _ actor following has is) =
    let less = field_rest_lt _ input line rest has in omega (arith, less)
tag_token_shortens kind before input found after rest (no_tagger_comes _ some other) = omega arith
tag_token_shortens kind before input found after rest (body_comes _ message signature some is) = let less = some_of_not_nil input some in omega (arith, less)

pub tag_calls_advance : (kind : Option Kind) (tag : List ℕ) (old new : Cursor) (tokens : List TagToken) (token_old token : TagToken) (status : ℕ)
    → HasTagTokens kind tag old tokens → IsTagTokenCall kind tag (tag_state_of_code old.state) old.offset old new token_old token status → status ≡ 0
    → (length tag - new.offset) + (length tag - new.offset) + tagger_weight (tag_state_of_code new.state)
    < (length tag - old.offset) + (length tag - old.offset) + tagger_weight (tag_state_of_code old.state)
tag_calls_advance None tag old new tokens token_old token status has (four, _, _) zero = absurd (cc (zero, four))
tag_calls_advance (Some kind) tag old new tokens token_old token status (found, state, known, within, begins, are) call zero =
    let is = tag_token_of_done kind tag (tag_state_of_code old.state) state old.offset old new token_old token status known zero call in
    let less = tag_token_shortens kind state (drop old.offset tag) is.found is.after (drop new.offset tag) is.begins in
    let before : tagger_weight (tag_state_of_code old.state) ≡ tagger_weight (Some state) = ap tagger_weight known in
    let after : tagger_weight (tag_state_of_code new.state) ≡ tagger_weight (Some is.after) = ap tagger_weight is.state in
    omega (arith, less, before, after, length-drop old.offset tag, length-drop new.offset tag)
