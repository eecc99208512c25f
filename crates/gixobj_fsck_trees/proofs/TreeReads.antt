-- The entries that are read of a tree, one after another.
use Rattle.std.proofs.Common.{Result, Ok, Err, OnErr, ◌<◌, ◌+◌, arith, length, ◌≡◌, ◌≢◌, ◌↔◌, IsTrue, not, ℕ, Bool, true, false, List, [], ◌∷◌, ◌++◌, inl, inr}
use Rattle.std.proofs.Common.{refl}
use Rattle.std.proofs.lemmas.List.{map-append}
use Rattle.gixobj_hash.proofs.Runs.{begins_with_pieces_snoc, yields_of_begins_with_pieces}
use Rattle.gixobj_hash.specs.Runs.{BeginsWithPieces, Ending, HasNoPiece, Yields, broken, complete, yields_end, yields_error, yields_piece}
use Rattle.gixobj_hash.specs.declared.hash.kind.Kind.{Kind}
use Rattle.gixobj_fsck_trees.specs.RawEntries.{BeginsWithNoRawEntry, BeginsWithRawEntry, BeginsWithSomeRawEntry, EndsWithId, RawEntryStep, RawEntryView}
use Rattle.gixobj_fsck_trees.specs.RawEntries.{ReadsTree, YieldsRawEntries, end_after, end_of, ending_of}
use Rattle.gixobj_fsck_trees.specs.RawViews.{raw_entry_view, raw_entry_views}
use Rattle.gixobj_fsck_trees.specs.declared.raw_entry.RawEntry.{RawEntry}

-- the input begins with these entries, up to this offset, and the rest follows
pub record BeginsWithRawEntries (kind : Kind) (input : List ℕ) (entries : List RawEntryView) (rest : List ℕ) : Type 0 where
  pub end : ℕ
  pub sum : end + length rest ≡ length input
  pub pieces : BeginsWithPieces (RawEntryStep kind) 0 input entries end rest

-- no entry was read yet
pub begins_with_none : (kind : Kind) (input : List ℕ) → BeginsWithRawEntries kind input [] input
begins_with_none kind input = record { end = 0; sum = omega arith; pieces = (refl, refl) }

pub begins_with_one_more : (kind : Kind) (input after rest : List ℕ) (entries more : List RawEntry) (entry : RawEntry)
    → BeginsWithRawEntries kind input (raw_entry_views entries) after → BeginsWithRawEntry kind after (raw_entry_view entry) rest
    → entry.offset + length after ≡ length input → entry.end + length rest ≡ length input
    → more ≡ entries ++ entry ∷ [] → BeginsWithRawEntries kind input (raw_entry_views more) rest
begins_with_one_more kind input after rest entries more entry begins has offset end same =
    let here : entry.offset ≡ begins.end = omega (arith, begins.sum) in
    let step : RawEntryStep kind begins.end after (raw_entry_view entry) entry.end rest = (has, here, refl, omega (arith, begins.sum)) in
    record {
      end = entry.end;
      sum = end;
      pieces = rw (same, map-append raw_entry_view entries (entry ∷ []))
          (begins_with_pieces_snoc (RawEntryStep kind) 0 begins.end entry.end input after rest (raw_entry_views entries) (raw_entry_view entry)
          begins.pieces step);
    }

end_of_pieces : (kind : Kind) (start end : ℕ) (input rest : List ℕ) (entries : List RawEntryView)
    → BeginsWithPieces (RawEntryStep kind) start input entries end rest → end_after start entries ≡ end
end_of_pieces kind start end input rest [] pieces = pieces.0
end_of_pieces kind start end input rest (e ∷ entries) (next, after, step, more) =
    rw (step.2) (end_of_pieces kind next end after rest entries more)

-- reading ended after the entries
pub end_of_begins : (kind : Kind) (input rest : List ℕ) (entries : List RawEntryView) → BeginsWithRawEntries kind input entries rest
    → end_of entries + length rest ≡ length input
end_of_begins kind input rest entries begins =
    omega (arith, begins.sum, end_of_pieces kind 0 begins.end input rest entries begins.pieces)

-- entries without a rest are those of the tree
pub reads_tree_at_end : (kind : Kind) (input rest : List ℕ) (entries : List RawEntryView) → EndsWithId kind input → rest ≡ []
    → BeginsWithRawEntries kind input entries rest → ReadsTree kind input entries complete
reads_tree_at_end kind input rest entries ends bare begins =
    let end : Yields (RawEntryStep kind) begins.end rest [] complete = rw bare (yields_end begins.end) in
    inl (ends, yields_of_begins_with_pieces (RawEntryStep kind) 0 begins.end input rest entries complete begins.pieces end)

-- entries before a rest that begins with no entry are those of the tree
pub reads_tree_at_break : (kind : Kind) (input rest : List ℕ) (entries : List RawEntryView) → EndsWithId kind input → rest ≢ []
    → BeginsWithNoRawEntry kind rest → BeginsWithRawEntries kind input entries rest → ReadsTree kind input entries broken
reads_tree_at_break kind input rest entries ends some none begins =
    let no_piece : HasNoPiece (RawEntryStep kind) begins.end rest = λ e following after has. none e after has.0 in
    let end : Yields (RawEntryStep kind) begins.end rest [] broken = yields_error begins.end rest some no_piece in
    inl (ends, yields_of_begins_with_pieces (RawEntryStep kind) 0 begins.end input rest entries broken begins.pieces end)

-- no entry is read of bytes that do not end with an id
pub reads_tree_unread : (kind : Kind) (input : List ℕ) → (¬ EndsWithId kind input) → (is_empty : Bool) → (IsTrue is_empty ↔ (input ≡ []))
    → ReadsTree kind input [] (ending_of (not is_empty))
reads_tree_unread kind [] unread true empty = inr (unread, refl, refl)
reads_tree_unread kind [] unread false empty = absurd (let it : false ≡ true = empty.1 refl in cc)
reads_tree_unread kind (byte ∷ input) unread true empty = absurd (let it : byte ∷ input ≡ [] = empty.0 refl in cc)
reads_tree_unread kind (byte ∷ input) unread false empty = inr (unread, refl, refl)

begins_with_some_piece : (kind : Kind) (input after rest : List ℕ) (entries : List RawEntryView) (e : RawEntryView) (start end : ℕ)
    → BeginsWithPieces (RawEntryStep kind) start input entries end after → BeginsWithRawEntry kind after e rest → BeginsWithSomeRawEntry kind input
begins_with_some_piece kind input after rest [] e start end (state, same) has = (e, rest, rw same has)
begins_with_some_piece kind input after rest (first ∷ entries) e start end (next, following, step, more) has = (first, following, step.0)

-- the input begins with an entry if one was read
pub begins_with_some : (kind : Kind) (input after rest : List ℕ) (entries : List RawEntryView) (e : RawEntryView)
    → BeginsWithRawEntries kind input entries after → BeginsWithRawEntry kind after e rest → BeginsWithSomeRawEntry kind input
begins_with_some kind input after rest entries e begins has =
    begins_with_some_piece kind input after rest entries e 0 begins.end begins.pieces has

first_of_run : (kind : Kind) (input : List ℕ) (entries : List RawEntry) (ending : Ending) → YieldsRawEntries kind input (raw_entry_views entries) ending
    → 0 < length entries → BeginsWithSomeRawEntry kind input
first_of_run kind input [] ending yields some = absurd (omega (arith, some))
first_of_run kind input (entry ∷ entries) ending (yields_piece _ _ _ rest e others _ step yields) some = (e, rest, step.0)

-- a tree with an entry begins with one
pub begins_of_reads : (kind : Kind) (input : List ℕ) (entries : List RawEntry) (ending : Ending) → ReadsTree kind input (raw_entry_views entries) ending
    → 0 < length entries → BeginsWithSomeRawEntry kind input
begins_of_reads kind input entries ending (inl reads) some = first_of_run kind input entries ending reads.1 some
begins_of_reads kind input [] ending (inr unread) some = absurd (omega (arith, some))
begins_of_reads kind input (entry ∷ entries) ending (inr unread) some = let bare : raw_entry_view entry ∷ raw_entry_views entries ≡ [] = unread.1 in cc

pub on_err : {T E : Type 0} (result : Result T E) (P : Type 0) → P → OnErr result P
on_err (Ok it) P holds = tt
on_err (Err it) P holds = holds
