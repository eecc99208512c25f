-- Borrowed trees encoded, and trees that re-encode identically and round-trip: for `TreeRef::size` and the
-- laws of trees.
use Rattle.std.proofs.Common.{◌≡◌, ◌<◌, ◌+◌, ◌++◌, ◌∷◌, ℕ, List, [], All, ap, append_assoc, arith, get_or, length, length-append, map, refl, subst, sym, take}
use Rattle.std.proofs.Common.{◌∙◌}
use Rattle.std.proofs.lemmas.List.Elements.{All-cons, All-head, All-nil, All-tail}
use Rattle.std.specs.List.{AllZip, concat}
use Rattle.gixobj_streams.specs.Writing.{RejectsNothing}
use Rattle.gixobj_hash.specs.Hash.{id_bytes}
use Rattle.gixobj_hash.specs.declared.hash.kind.Kind.{Kind}
use Rattle.gixobj_hash.specs.ByteStrings.{IsByteFree}
use Rattle.gixobj_tree_entries.proofs.ByteSix.{encode_mode_has_six_digits}
use Rattle.gixobj_tree_entries.proofs.ModesRoundTrip.{mode_round_trips}
use Rattle.gixobj_tree.proofs.TreeWrites.{AreFree, no_error_of_written_tree, encode_tree_take_succ}
use Rattle.gixobj_tree_entries.specs.Entries.{EntryView}
use Rattle.gixobj_tree_entries.specs.Mode.{ObeysByteSix, encode_mode}
use Rattle.gixobj_tree.specs.TreeEncoding.{IsTreeEncodeError, encode_entry, encode_tree}
use Rattle.gixobj_tree.proofs.Viewed.{map_view_at, map_view_index_lt}
use Rattle.gixobj_tree.specs.Rewriting.{HasCanonicalModes, DecodesToCanonicalEntry, RoundTrips}
use Rattle.gixobj_tree_entries.specs.TreeDecoding.{DecodesToEntry, DecodesToTree}

-- the size with the next entry is that of one more entry
pub encode_tree_len_take_succ : {X : Type 0} (view : X → EntryView) (xs : List X) (i : ℕ) (x : X) (n m : ℕ) → i < length xs → x ≡ get_or xs i x
    → n ≡ length (encode_tree (take i (map view xs))) → m ≡ n + length (encode_entry (view x))
    → m ≡ length (encode_tree (take (i + 1) (map view xs)))
encode_tree_len_take_succ view xs i x n m low is so_far more =
    let bytes = encode_tree_take_succ (map view xs) i (view x) (map_view_index_lt view xs i low) (map_view_at view xs i x low is) in
    omega (arith, so_far, more, ap length bytes, length-append (encode_tree (take i (map view xs))) (encode_entry (view x)))

-- ---- decoded and re-encoded

append_space_name_assoc : (digits name id : List ℕ) → (digits ++ 32 ∷ []) ++ name ++ 0 ∷ id ≡ digits ++ 32 ∷ (name ++ 0 ∷ id)
append_space_name_assoc digits name id = append_assoc (digits ++ 32 ∷ []) name (0 ∷ id) ∙ append_assoc digits (32 ∷ []) (name ++ 0 ∷ id)

encode_entry_of_canonical : (kind : Kind) (e : EntryView) (bytes : List ℕ) → DecodesToCanonicalEntry kind e bytes → encode_entry e ≡ bytes
encode_entry_of_canonical kind e bytes it = rw (← it.own) (append_space_name_assoc it.is.digits e.name (id_bytes e.id)) ∙ sym it.is.joined

encode_tree_of_canonical : (kind : Kind) (entries : List EntryView) (encodings : List (List ℕ)) → AllZip (DecodesToCanonicalEntry kind) entries encodings
    → encode_tree entries ≡ concat encodings
encode_tree_of_canonical kind [] [] are = refl
encode_tree_of_canonical kind [] (bytes ∷ encodings) are = absurd are
encode_tree_of_canonical kind (e ∷ entries) [] are = absurd are
encode_tree_of_canonical kind (e ∷ entries) (bytes ∷ encodings) are = ap (λ (it : List ℕ). it ++ encode_tree entries)
    (encode_entry_of_canonical kind e bytes are.0)
    ∙ ap (λ (it : List ℕ). bytes ++ it) (encode_tree_of_canonical kind entries encodings are.1)

all_decode_of_canonical : (kind : Kind) (entries : List EntryView) (encodings : List (List ℕ)) → AllZip (DecodesToCanonicalEntry kind) entries encodings
    → AllZip (DecodesToEntry kind) entries encodings
all_decode_of_canonical kind [] [] are = tt
all_decode_of_canonical kind [] (bytes ∷ encodings) are = absurd are
all_decode_of_canonical kind (e ∷ entries) [] are = absurd are
all_decode_of_canonical kind (e ∷ entries) (bytes ∷ encodings) are = (are.0.is, all_decode_of_canonical kind entries encodings are.1)

pub tree_round_trips_of_written : (kind : Kind) (bytes : List ℕ) (entries : List EntryView) → HasCanonicalModes kind bytes entries
    → DecodesToTree kind bytes entries
    × (encode_tree entries ≡ bytes)
tree_round_trips_of_written kind bytes entries (encodings, joined, are) =
    ((encodings, joined, all_decode_of_canonical kind entries encodings are), encode_tree_of_canonical kind entries encodings are ∙ sym joined)

are_free_of_decoded : (kind : Kind) (entries : List EntryView) (encodings : List (List ℕ)) → AllZip (DecodesToEntry kind) entries encodings → AreFree entries
are_free_of_decoded kind [] [] are = All-nil (λ (e : EntryView). IsByteFree 0 e.name)
are_free_of_decoded kind [] (bytes ∷ encodings) are = absurd are
are_free_of_decoded kind (e ∷ entries) [] are = absurd are
are_free_of_decoded kind (e ∷ entries) (bytes ∷ encodings) are = All-cons (λ (it : EntryView). IsByteFree 0 it.name) e entries are.0.name
    (are_free_of_decoded kind entries encodings are.1)

-- no name of a decoded tree is rejected
pub tree_rejects_nothing : (kind : Kind) (bytes : List ℕ) (entries : List EntryView) → DecodesToTree kind bytes entries
    → RejectsNothing (IsTreeEncodeError entries)
tree_rejects_nothing kind bytes entries (encodings, joined, are) = λ value parts rejected. no_error_of_written_tree entries value parts
    (are_free_of_decoded kind entries encodings are) rejected

-- ---- encoded and decoded

encode_entry_decodes : (kind : Kind) (e : EntryView) → RoundTrips kind e → DecodesToEntry kind e (encode_entry e)
encode_entry_decodes kind e it =
    let joined = append_space_name_assoc (encode_mode e.mode) e.name (id_bytes e.id) in
    let six = encode_mode_has_six_digits e.mode (e.name ++ 0 ∷ id_bytes e.id) it.some in
    let P : List ℕ → Type 0 = λ bytes. ObeysByteSix bytes (encode_mode e.mode) in
    record {
      digits = encode_mode e.mode;
      joined = joined;
      mode = mode_round_trips e.mode it.bits it.is_distinguished;
      byte_six = subst P (sym joined) six;
      name = it.name;
      id = it.id;
    }

pub encode_tree_decodes : (kind : Kind) (entries : List EntryView) → All (RoundTrips kind) entries → DecodesToTree kind (encode_tree entries) entries
encode_tree_decodes kind [] all = ([], refl, tt)
encode_tree_decodes kind (e ∷ entries) all =
    let (encodings, joined, are) = encode_tree_decodes kind entries (All-tail (RoundTrips kind) e entries all) in (
      encode_entry e ∷ encodings,
      ap (λ (it : List ℕ). encode_entry e ++ it) joined,
      (encode_entry_decodes kind e (All-head (RoundTrips kind) e entries all), are),
    )
