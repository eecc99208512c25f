-- The encoding of a header's value is its lines, folded; used by the proofs of `encode` and of commits.
use Rattle.std.proofs.Common.{◌≡◌, ◌≢◌, ◌+◌, ◌-◌, ◌<◌, ◌*◌, ℕ, Some, get_or, suc, List, [], ◌∷◌, ◌++◌, true, false, length, arith, refl, sym, ap, ◌∙◌, inl, inr}
use Rattle.std.proofs.Common.{append_assoc, length-append}
use Rattle.std.specs.Prelude.{Contains, ◌==◌}
use Rattle.std.specs.List.{flat_map, slice_get}
use Rattle.std.proofs.lemmas.Bool.{eqb-true, true≢false}
use Rattle.std.proofs.lemmas.List.{append-nil}
use Rattle.std.proofs.lemmas.Option.{get_or_from_slice_get, slice_get_within}
use Rattle.std.proofs.lemmas.List.Elements.{All-contains, All-get_or, All-head, All-tail}
use Rattle.std.proofs.Math.Seq.{get_or-append_seam}
use Rattle.hex.proofs.HexLemmas.{length-encode_with}
use Rattle.hex.specs.Hex.{lower_digits}
use Rattle.gixobj_hash.specs.Hash.{encode_id_hex, id_bytes}
use Rattle.gixobj_hash.specs.declared.hash.object_id.ObjectId.{ObjectId}
use Rattle.gixobj_hash.specs.HeaderFormat.{encode_continuation}
use Rattle.gixobj_hash.specs.FieldFormat.{encode_field, encode_line}
use Rattle.gixobj_hash.specs.ByteStrings.{IsByteFree, SplitsAt}
use Rattle.gixobj_streams.specs.Streams.{AppendsAll, AppendsPrefix, SinkView}
use Rattle.std.specs.declared.io.Error as io
use Rattle.gixobj_streams.specs.Writing.{RejectsNothing}
use Rattle.gixobj_streams.proofs.Appends.{appends_prefix_middle}
use Rattle.gixobj_encode.specs.FieldWriting.{IsLastLine, IsFieldError, folded, value_lines}

-- bytes without a byte do not contain it
pub no_byte_of_byte_free : (byte : ℕ) (bytes : List ℕ) → IsByteFree byte bytes → Contains bytes byte → ⊥
no_byte_of_byte_free byte bytes free has = All-contains (λ (it : ℕ). it ≡ byte → ⊥) bytes byte free has refl

-- a value that is neither empty nor has a newline is accepted
pub field_rejects_nothing : (value : List ℕ) → (length value == 0) ≡ false → IsByteFree 10 value → RejectsNothing (IsFieldError value)
field_rejects_nothing value some free rejected parts (inl (none, is), nothing) = absurd (grind (arith, some, none))
field_rejects_nothing value some free rejected parts (inr (has, is), nothing) = no_byte_of_byte_free 10 value free has

-- ---- lines of a value

other-head : (byte : ℕ) (bytes : List ℕ) → IsByteFree 10 (byte ∷ bytes) → (byte == 10) ≡ false
other-head byte bytes free = (let other = All-head (λ it. it ≢ 10) byte bytes free in grind (arith, other))

free-tail : (byte : ℕ) (bytes : List ℕ) → IsByteFree 10 (byte ∷ bytes) → IsByteFree 10 bytes
free-tail byte bytes free = All-tail (λ it. it ≢ 10) byte bytes free

-- the encoding of a value follows from its lines
folded_of_value_lines : (value first : List ℕ) (more : List (List ℕ)) → value_lines value ≡ (first, more)
    → folded value ≡ encode_line first ++ flat_map encode_continuation more
folded_of_value_lines value first more split = ap (λ (lines : List ℕ × List (List ℕ)). encode_line lines.0 ++ flat_map encode_continuation lines.1) split

value_lines_of_newline_free : (value : List ℕ) → IsByteFree 10 value → value_lines value ≡ (value, [])
value_lines_of_newline_free [] free = refl
value_lines_of_newline_free (byte ∷ []) free = rw (other-head byte [] free) refl
value_lines_of_newline_free (byte ∷ next ∷ rest) free =
    rw (other-head byte (next ∷ rest) free)
    (ap (λ (lines : List ℕ × List (List ℕ)). (byte ∷ lines.0, lines.1)) (value_lines_of_newline_free (next ∷ rest) (free-tail byte (next ∷ rest) free)))

value_lines_of_ended_line : (line : List ℕ) → IsByteFree 10 line → value_lines (line ++ 10 ∷ []) ≡ (line, [])
value_lines_of_ended_line [] free = refl
value_lines_of_ended_line (byte ∷ []) free = rw (other-head byte [] free) refl
value_lines_of_ended_line (byte ∷ next ∷ rest) free =
    rw (other-head byte (next ∷ rest) free)
    (ap (λ (lines : List ℕ × List (List ℕ)). (byte ∷ lines.0, lines.1)) (value_lines_of_ended_line (next ∷ rest) (free-tail byte (next ∷ rest) free)))

value_lines_append : (line : List ℕ) (byte : ℕ) (after : List ℕ) → IsByteFree 10 line
    → value_lines (line ++ 10 ∷ byte ∷ after) ≡ (line, (value_lines (byte ∷ after)).0 ∷ (value_lines (byte ∷ after)).1)
value_lines_append [] byte after free = refl
value_lines_append (first ∷ []) byte after free = rw (other-head first [] free) refl
value_lines_append (first ∷ next ∷ rest) byte after free =
    rw (other-head first (next ∷ rest) free)
    (ap (λ (lines : List ℕ × List (List ℕ)). (first ∷ lines.0, lines.1))
    (value_lines_append (next ∷ rest) byte after (free-tail first (next ∷ rest) free)))

pub folded_of_newline_free : (value : List ℕ) → IsByteFree 10 value → folded value ≡ value ++ 10 ∷ []
folded_of_newline_free value free = folded_of_value_lines value value [] (value_lines_of_newline_free value free) ∙ append-nil (encode_line value)

pub folded_of_one_line : (line : List ℕ) → IsByteFree 10 line → folded (line ++ 10 ∷ []) ≡ line ++ 10 ∷ []
folded_of_one_line line free = folded_of_value_lines (line ++ 10 ∷ []) line [] (value_lines_of_ended_line line free) ∙ append-nil (encode_line line)

-- a last line is its own encoding if its last byte is a newline
pub folded_of_last_line : (value : List ℕ) → IsLastLine value → slice_get value (length value - 1) ≡ Some 10 → folded value ≡ value
folded_of_last_line value (inl free) ends =
    let index = length value - 1 in
    absurd (All-get_or (λ (it : ℕ). it ≢ 10) value index 0 (slice_get_within value index 10 ends) free (get_or_from_slice_get value index 10 0 ends))
folded_of_last_line value (inr (line, is, free)) ends = rw is (folded_of_one_line line free)

pub folded_of_open_line : (value : List ℕ) → IsLastLine value → (last : ℕ) → slice_get value (length value - 1) ≡ Some last → last ≢ 10
    → folded value ≡ value ++ 10 ∷ []
folded_of_open_line value (inl free) last ends other = folded_of_newline_free value free
folded_of_open_line value (inr (line, is, free)) last ends other =
    let len : length value ≡ length line + 1 = ap length is ∙ length-append line (10 ∷ []) in
    let index : length value - 1 ≡ length line = omega arith in
    let found : get_or value (length line) 0 ≡ last = ap (λ (it : ℕ). get_or value it 0) (sym index) ∙ get_or_from_slice_get value
    (length value - 1) last 0 ends in
    let is_at : get_or value (length line) 0 ≡ 10 = ap (λ (it : List ℕ). get_or it (length line) 0) is ∙ get_or-append_seam line 10 [] 0 in
    absurd (other (sym found ∙ is_at))

folded_append : (line : List ℕ) (byte : ℕ) (after : List ℕ) → IsByteFree 10 line → folded (line ++ 10 ∷ byte ∷ after) ≡ line ++ 10 ∷ 32 ∷ folded
    (byte ∷ after)
folded_append line byte after free =
    let rest = value_lines (byte ∷ after) in
    let flat : encode_line line ++ flat_map encode_continuation (rest.0 ∷ rest.1) ≡ line ++ 10 ∷ 32
    ∷ (encode_line rest.0 ++ flat_map encode_continuation rest.1) = simp append_assoc in
    folded_of_value_lines (line ++ 10 ∷ byte ∷ after) line (rest.0 ∷ rest.1) (value_lines_append line byte after free) ∙ flat

pub folded_cons_line : (line after : List ℕ) → IsByteFree 10 line → (length after == 0) ≡ false
    → folded (line ++ 10 ∷ after) ≡ line ++ 10 ∷ 32 ∷ folded after
folded_cons_line line [] free some = absurd (true≢false some)
folded_cons_line line (byte ∷ after) free some = folded_append line byte after free

pub folded_split_at_newline : (value line after : List ℕ) → SplitsAt 10 value line after → (length after == 0) ≡ false
    → folded value ≡ line ++ 10 ∷ 32 ∷ folded after
folded_split_at_newline value line after split some = ap folded split.joined ∙ folded_cons_line line after split.first some

pub rest_after_newline_len_lt : (value line after : List ℕ) → SplitsAt 10 value line after → length after < length value
rest_after_newline_len_lt value line after split = omega (arith, ap length split.joined, length-append line (10 ∷ after))

nil_of_zero_length : (after : List ℕ) → (length after == 0) ≡ true → after ≡ []
nil_of_zero_length [] none = refl
nil_of_zero_length (byte ∷ after) none = absurd (let none' : suc (length after) ≡ 0 = eqb-true (suc (length after)) 0 none in omega (arith, none'))

pub is_last_line_of_split : (value line after : List ℕ) → SplitsAt 10 value line after → (length after == 0) ≡ true → IsLastLine value
is_last_line_of_split value line after split none = inr (
  line,
  split.joined
      ∙ ap (λ (it : List ℕ). line ++ 10 ∷ it) (nil_of_zero_length after none),
  split.first,
)

pub folded_prefix_append : (value prefix rest line after : List ℕ) → folded value ≡ prefix ++ folded rest → folded rest ≡ line ++ 10 ∷ 32 ∷ folded after
    → folded value ≡ (prefix ++ (line ++ 10 ∷ 32 ∷ [])) ++ folded after
folded_prefix_append value prefix rest line after so_far one =
    so_far ∙ ap (λ (it : List ℕ). prefix ++ it) (one ∙ sym (append_assoc line (10 ∷ 32 ∷ []) (folded after)))
    ∙ sym (append_assoc prefix (line ++ 10 ∷ 32 ∷ []) (folded after))

-- a proper prefix of the next line, after the written lines, is a proper prefix of the value's encoding
pub appends_prefix_of_folded : {cause : io.Error} (a b c : SinkView) (value prefix rest line after : List ℕ) → AppendsAll a b prefix
    → folded value ≡ prefix ++ folded rest → folded rest ≡ line ++ 10 ∷ 32 ∷ folded after
    → AppendsPrefix b c (line ++ 10 ∷ 32 ∷ []) cause → AppendsPrefix a c (folded value) cause
appends_prefix_of_folded a b c value prefix rest line after write_bytes so_far one part =
    rw (folded_prefix_append value prefix rest line after so_far one, append_assoc prefix (line ++ 10 ∷ 32 ∷ []) (folded after))
    (appends_prefix_middle a b c prefix (line ++ 10 ∷ 32 ∷ []) (folded after) write_bytes part)

-- ---- sizes

pub encode_id_field_len : (name : List ℕ) (id : ObjectId) → length (encode_field name (encode_id_hex id)) ≡ length name + 2 + 2 * length (id_bytes id)
encode_id_field_len name id =
    omega (
      arith,
      length-append name (32 ∷ encode_line (encode_id_hex id)),
      length-append (encode_id_hex id) (10 ∷ []),
      length-encode_with lower_digits
          (id_bytes id),
    )
