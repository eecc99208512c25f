-- The run over a tree's entries is unique, and a complete one is a tree; used by the decoder of trees, its law and lookups.
use Rattle.std.proofs.Common.{◌≡◌, ◌≢◌, ℕ, List, [], ◌∷◌, ◌++◌, ap, arith, length, map, refl}
use Rattle.std.proofs.lemmas.List.{map-append}
use Rattle.std.specs.List.{AllZip, concat}
use Rattle.std.specs.Prelude.{⊤}
use Rattle.gixobj_hash.proofs.Runs as runs
use Rattle.gixobj_hash.proofs.Runs.{begins_with_pieces_snoc, yields_of_begins_with_pieces}
use Rattle.gixobj_hash.specs.Runs.{Ending, HasNoPiece, BeginsWithPieces, broken, complete, yields_end, yields_error, yields_piece}
use Rattle.gixobj_hash.specs.declared.hash.kind.Kind.{Kind}
use Rattle.gixobj_tree_entries.specs.Entries.{EntryView}
use Rattle.gixobj_tree_entries.proofs.OneEntry.{entry_unique, entry_rest_len_lt}
use Rattle.gixobj_tree_entries.specs.TreeDecoding.{BeginsWithEntry, BeginsWithNoEntry, EntryStep, DecodesToEntry, IsMalformedTree, DecodesToTree, YieldsEntries}

entry_step_unique : (kind : Kind) (before : ⊤) (input : List ℕ) (a b : EntryView) (s t : ⊤) (x y : List ℕ) → EntryStep kind before input a s x
    → EntryStep kind before input b t y → (a ≡ b) × (s ≡ t) × (x ≡ y)
entry_step_unique kind before input a b s t x y first second = (let same = entry_unique kind input a b x y first second in (same.0, refl, same.1))

pub no_entry_of_nil : (kind : Kind) (before : ⊤) (input : List ℕ) (e : EntryView) (following : ⊤) (rest : List ℕ) → input ≡ []
    → EntryStep kind before input e following rest → ⊥
no_entry_of_nil kind before input e following rest bare has = (let less = entry_rest_len_lt kind input e rest has in omega (arith, less, ap length bare))

pub entry_run_unique : (kind : Kind) (input : List ℕ) (a b : List EntryView) (e f : Ending) → YieldsEntries kind input a e → YieldsEntries kind input b f
    → (a ≡ b)
    × (e ≡ f)
entry_run_unique kind input = runs.one_run (EntryStep kind) (entry_step_unique kind) (no_entry_of_nil kind) tt input

entry_step_bytes_exist : (kind : Kind) (before : ⊤) (input : List ℕ) (e : EntryView) (following : ⊤) (rest : List ℕ)
    → EntryStep kind before input e following rest
    → (bytes : List ℕ) × (input ≡ bytes ++ rest) × DecodesToEntry kind e bytes
entry_step_bytes_exist kind before input e following rest has = has

-- the input of a complete run is a tree
pub decodes_to_tree_of_run : (kind : Kind) (bytes : List ℕ) (entries : List EntryView) → YieldsEntries kind bytes entries complete
    → DecodesToTree kind bytes entries
decodes_to_tree_of_run kind bytes entries test_iff = runs.run_encodings (EntryStep kind) (DecodesToEntry kind)
    (entry_step_bytes_exist kind) tt bytes entries test_iff

yields_entries_of_concat : (kind : Kind) (bytes : List ℕ) (entries : List EntryView) (encodings : List (List ℕ)) → bytes ≡ concat encodings
    → AllZip (DecodesToEntry kind) entries encodings → YieldsEntries kind bytes entries complete
yields_entries_of_concat kind bytes [] [] joined are = rw joined (yields_end tt)
yields_entries_of_concat kind bytes [] (first ∷ encodings) joined are = absurd are
yields_entries_of_concat kind bytes (e ∷ entries) [] joined are = absurd are
yields_entries_of_concat kind bytes (e ∷ entries) (first ∷ encodings) joined are =
    yields_piece tt tt bytes (concat encodings) e entries complete (first, joined, are.0)
    (yields_entries_of_concat kind (concat encodings) entries encodings refl are.1)

-- the run over a tree is complete
pub yields_entries_iff : (kind : Kind) (bytes : List ℕ) (entries : List EntryView) → DecodesToTree kind bytes entries
    → YieldsEntries kind bytes entries complete
yields_entries_iff kind bytes entries (encodings, joined, are) = yields_entries_of_concat kind bytes entries encodings joined are

pub tree_unique : (kind : Kind) (bytes : List ℕ) (a b : List EntryView) → DecodesToTree kind bytes a → DecodesToTree kind bytes b → a ≡ b
tree_unique kind bytes a b first second = (entry_run_unique kind bytes a b complete complete (yields_entries_iff kind bytes a first)
    (yields_entries_iff kind bytes b second)).0

-- ---- entries that were decoded in order

-- the input begins with the encodings of these entries, and the rest follows
abbrev pub BeginsWithEntries : Kind → List ℕ → List EntryView → List ℕ → Type 0
BeginsWithEntries kind input entries rest = BeginsWithPieces (EntryStep kind) tt input entries tt rest

pub begins_with_entries_nil : (kind : Kind) (input : List ℕ) → BeginsWithEntries kind input [] input
begins_with_entries_nil kind input = (refl, refl)

pub begins_with_entries_snoc : (kind : Kind) (input after rest : List ℕ) (entries : List EntryView) (e : EntryView) → BeginsWithEntries kind input entries after
    → BeginsWithEntry kind after e rest → BeginsWithEntries kind input (entries ++ e ∷ []) rest
begins_with_entries_snoc kind input after rest entries e consumed has = begins_with_pieces_snoc
    (EntryStep kind) tt tt tt input after rest entries e consumed has

pub begins_with_entries_of_views : {X : Type 0} (view : X → EntryView) (kind : Kind) (input after rest : List ℕ) (xs new : List X) (x : X)
    → BeginsWithEntries kind input (map view xs) after → BeginsWithEntry kind after (view x) rest → new ≡ xs ++ x ∷ []
    → BeginsWithEntries kind input (map view new) rest
begins_with_entries_of_views view kind input after rest xs new x consumed has same =
    rw (same, map-append view xs (x ∷ [])) (begins_with_entries_snoc kind input after rest (map view xs) (view x) consumed has)

-- entries without a rest are a tree
pub decodes_to_tree_at_end : (kind : Kind) (input rest : List ℕ) (entries : List EntryView) → rest ≡ [] → BeginsWithEntries kind input entries rest
    → DecodesToTree kind input entries
decodes_to_tree_at_end kind input rest entries bare consumed =
    let ends : YieldsEntries kind rest [] complete = rw bare (yields_end tt) in
    decodes_to_tree_of_run kind input entries (yields_of_begins_with_pieces (EntryStep kind) tt tt input rest entries complete consumed ends)

no_piece_of_no_entry : (kind : Kind) (input : List ℕ) → BeginsWithNoEntry kind input → HasNoPiece (EntryStep kind) tt input
no_piece_of_no_entry kind input none = λ e following rest has. none e rest has

-- bytes are malformed if their rest begins with no entry
pub malformed_tree_of_no_entry : (kind : Kind) (input rest : List ℕ) (entries : List EntryView) → rest ≢ [] → BeginsWithNoEntry kind rest
    → BeginsWithEntries kind input entries rest
    → IsMalformedTree kind input
malformed_tree_of_no_entry kind input rest entries some none consumed = λ others is.
    let stops : YieldsEntries kind rest [] broken = yields_error tt rest some (no_piece_of_no_entry kind rest none) in
    let run = yields_of_begins_with_pieces (EntryStep kind) tt tt input rest entries broken consumed stops in
    let same = entry_run_unique kind input entries others broken complete run (yields_entries_iff kind input others is) in
    cc same.1

-- the input begins with an entry if one was decoded
pub first_entry_exists : (kind : Kind) (input after rest : List ℕ) (entries : List EntryView) (e : EntryView) → BeginsWithEntries kind input entries after
    → BeginsWithEntry kind after e rest → (first : EntryView) × (following : List ℕ) × BeginsWithEntry kind input first following
first_entry_exists kind input after rest [] e (state, same) has = (e, rest, rw same has)
first_entry_exists kind input after rest (first ∷ entries) e (next, following, it, more) has = (first, following, it)
