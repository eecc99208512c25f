-- The hex of the parents' ids.
use Rattle.std.proofs.Common.{ℕ, zero, suc, get_or, ◌-◌, ◌<◌, ◌≤◌, All, List, [], ◌∷◌, map, take, drop, length, subst, sym, arith}
use Rattle.std.proofs.lemmas.List.Elements.{All-head, All-tail, All-weaker}
use Rattle.std.proofs.lemmas.List.{take_all}
use Rattle.bstr.specs.BStr.{bstr_bytes}
use Rattle.bstr.specs.declared.bstr.BStr.{BStr}
use Rattle.gixobj_hash.proofs.HexIds.{is_id_hex_of_kind, is_id_hex_of_its_kind}
use Rattle.gixobj_hash.specs.Hash.{IsIdHex}
use Rattle.gixobj_hash.specs.Hash.Hex.{IsIdHexOfItsKind}

pub parents_are_hex_of_their_kind : (encodings : List (List ℕ)) → All IsIdHex encodings → All IsIdHexOfItsKind encodings
parents_are_hex_of_their_kind encodings all = All-weaker IsIdHex IsIdHexOfItsKind is_id_hex_of_its_kind encodings all

pub first_parent_is_id_hex : (bytes : List ℕ) (encodings : List (List ℕ)) → All IsIdHexOfItsKind (bytes ∷ encodings) → IsIdHex bytes
first_parent_is_id_hex bytes encodings all = is_id_hex_of_kind bytes (All-head IsIdHexOfItsKind bytes encodings all)

pub other_parents_are_hex_of_their_kind : (encodings : List BStr) → 1 ≤ length encodings → All IsIdHexOfItsKind (map bstr_bytes encodings)
    → All IsIdHexOfItsKind (map bstr_bytes (take (length encodings - 1) (drop 1 encodings)))
other_parents_are_hex_of_their_kind [] minimum all = absurd (omega arith)
other_parents_are_hex_of_their_kind (first ∷ encodings) minimum all =
    subst (λ it. All IsIdHexOfItsKind (map bstr_bytes it)) (sym (take_all (length {A = BStr} (first ∷ encodings) - 1) encodings (omega arith)))
    (All-tail IsIdHexOfItsKind (bstr_bytes first) (map bstr_bytes encodings) all)

pub parent_at_is_id_hex : (encodings : List BStr) (i : ℕ) (d : BStr) → i < length encodings → All IsIdHex (map bstr_bytes encodings)
    → IsIdHex (bstr_bytes (get_or encodings i d))
parent_at_is_id_hex [] i d low all = absurd (omega arith)
parent_at_is_id_hex (first ∷ encodings) zero d low all = All-head IsIdHex (bstr_bytes first) (map bstr_bytes encodings) all
parent_at_is_id_hex (first ∷ encodings) (suc i) d low all = parent_at_is_id_hex encodings i d (omega arith)
    (All-tail IsIdHex (bstr_bytes first) (map bstr_bytes encodings) all)
