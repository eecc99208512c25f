-- A decoded header re-encodes identically.
use Rattle.std.proofs.Common.{◌≡◌, ◌<◌, ℕ, List, [], ◌∷◌, ◌++◌, All, false, arith, length, ap, sym, ◌∙◌, append_assoc, length-append}
use Rattle.std.specs.Prelude.{◌==◌}
use Rattle.std.specs.List.{flat_map}
use Rattle.std.proofs.lemmas.Bool.Decides.{nat_tests}
use Rattle.std.proofs.lemmas.List.{append-nil}
use Rattle.std.proofs.lemmas.List.Elements.{All-head, All-tail}
use Rattle.gixobj_hash.specs.ByteStrings.{IsByteFree}
use Rattle.gixobj_encode.specs.FieldWriting.{folded, encode_header}
use Rattle.gixobj_hash.specs.HeaderFormat.{Header, DecodesToHeader, encode_continuation, value_of_lines}
use Rattle.gixobj_hash.specs.FieldFormat.{encode_line}
use Rattle.gixobj_encode.proofs.FieldWrites.{folded_of_one_line, folded_of_newline_free, folded_cons_line}

encode_line_append_not_empty : (line rest : List ℕ) → (length (encode_line line ++ rest) == 0) ≡ false
encode_line_append_not_empty line rest =
    let some : 0 < length (encode_line line ++ rest) = omega (arith, length-append (encode_line line) rest, length-append line (10 ∷ [])) in
    grind (arith, nat_tests, some)

folded_of_encode_lines : (first : List ℕ) (more : List (List ℕ)) → IsByteFree 10 first → All (λ line. IsByteFree 10 line) more
    → folded (flat_map encode_line (first ∷ more)) ≡ encode_line first ++ flat_map encode_continuation more
folded_of_encode_lines first [] free each = ap folded (append-nil (encode_line first)) ∙ folded_of_one_line first free ∙ sym (append-nil (encode_line first))
folded_of_encode_lines first (second ∷ more) free each =
    let P : List ℕ → Type 0 = λ line. IsByteFree 10 line in
    let after = flat_map encode_line (second ∷ more) in
    let rest = folded_of_encode_lines second more (All-head P second more each) (All-tail P second more each) in
    ap folded (append_assoc first (10 ∷ []) after)
    ∙ folded_cons_line first after free (encode_line_append_not_empty second (flat_map encode_line more))
    ∙ ap (λ (it : List ℕ). first ++ 10 ∷ 32 ∷ it) rest
    ∙ sym (append_assoc first (10 ∷ []) (flat_map encode_continuation (second ∷ more)))

folded_of_value_of_lines : (first : List ℕ) (more : List (List ℕ)) → IsByteFree 10 first → All (λ line. IsByteFree 10 line) more
    → folded (value_of_lines first more) ≡ encode_line first ++ flat_map encode_continuation more
folded_of_value_of_lines first [] free each = folded_of_newline_free first free ∙ sym (append-nil (encode_line first))
folded_of_value_of_lines first (second ∷ more) free each = folded_of_encode_lines first (second ∷ more) free each

-- a decoded header re-encodes identically
pub header_round_trips : (bytes : List ℕ) (header : Header) → DecodesToHeader bytes header → encode_header header ≡ bytes
header_round_trips bytes header it =
    ap (λ (value : List ℕ). header.name ++ 32 ∷ folded value) it.value
    ∙ ap (λ (value : List ℕ). header.name ++ 32 ∷ value) (folded_of_value_of_lines it.first it.more it.one_line it.each_one_line)
    ∙ sym (append_assoc header.name (32 ∷ encode_line it.first) (flat_map encode_continuation it.more))
    ∙ sym it.joined
