-- Header fields are made of their parts and decode uniquely; used by the proofs of `parse` and of commits and tags.
use Rattle.std.proofs.Common.{◌≡◌, ◌≢◌, ◌+◌, ◌*◌, ◌<◌, ℕ, List, [], ◌∷◌, ◌++◌, All, drop-cons, get_or, suc, length, arith, inl, inr, refl, sym, ap, subst, ◌∙◌}
use Rattle.std.proofs.Common.{append_assoc, length-append, Contains, lit<}
use Rattle.std.proofs.Math.Seq.{get_or-append_seam, take-append_seam}
use Rattle.std.proofs.lemmas.List.{append_cancel_left, append-nil, take-append-drop}
use Rattle.std.proofs.lemmas.List.Concat.{flat_map-append}
use Rattle.std.proofs.lemmas.List.Elements.{All-cons, All-head, All-nil, All-push, All-tail, Contains-append_left, Contains-append_right}
use Rattle.std.proofs.lemmas.Bool.{true≢false}
use Rattle.std.proofs.lemmas.Bool.Decides.{Decides-eqb}
use Rattle.std.proofs.lemmas.Slice.Eq.{strip_prefix_is}
use Rattle.std.specs.Borrow.{Bor}
use Rattle.std.specs.Cmp.Lexicographic.{pointwise}
use Rattle.std.specs.List.{AllPass, flat_map}
use Rattle.std.specs.Prelude.{true, false, MatchOption, Option, nat_eq, take, drop}
use Rattle.hex.specs.Hex.{is_hex_digit}
use Rattle.gixobj_hash.proofs.Splits.{no_split_of_byte_free, split_parts_unique}
use Rattle.gixobj_hash.specs.HeaderFormat.{BeginsWithSeveralLines, EndsHeader, BeginsWithField, BeginsWithHeader, BeginsWithNoField, BeginsWithNoHeader, Header}
use Rattle.gixobj_hash.specs.HeaderFormat.{IsHeaderName, encode_continuation, value_of_lines}
use Rattle.gixobj_hash.specs.FieldFormat.{encode_field, encode_line}
use Rattle.gixobj_parse.specs.HeaderReading.{BeginsWithNoIdField, BeginsWithNoKindField, BeginsWithNoContinuations, IsUnfolded, IsHeaderFieldError}
use Rattle.gixobj_hash.specs.ByteStrings.{IsByteFree, SplitsAt}
use Rattle.gixobj_hash.specs.Hash.{IsIdHex, hash_len}
use Rattle.gixobj_hash.specs.Hash.Hex.{IsIdHexOfKind}
use Rattle.gixobj_hash.specs.Kind.{IsUnknownKindName, kind_name}
use Rattle.gixobj_hash.specs.declared.decode.Error.{Error}
use Rattle.gixobj_hash.specs.declared.decode.Error.TheVariants.{Malformed, OutOfMemory}
use Rattle.gixobj_hash.specs.declared.hash.kind.Kind.{Kind}
use Rattle.gixobj_hash.specs.declared.hash.kind.Kind.TheVariants as hash

-- ---- prefixes

pub strip_prefix_match : (input prefix : List ℕ) → (result : Option (Bor (List ℕ)))
    → MatchOption result (pointwise nat_eq (take (length prefix) input) prefix ≡ false)
    (λ x. (pointwise nat_eq (take (length prefix) input) prefix ≡ true)
    × (x.now ≡ drop (length prefix) input) × (length x.now + length prefix ≡ length input))
    → MatchOption result ((rest : List ℕ) → input ≢ prefix ++ rest) (λ x. input ≡ prefix ++ x.now)
strip_prefix_match input prefix result is = strip_prefix_is Decides-eqb input prefix result is

-- ---- a field of one line

encode_field_append : (name value rest : List ℕ) → encode_field name value ++ rest ≡ name ++ 32 ∷ (value ++ 10 ∷ rest)
encode_field_append name value rest = simp append_assoc

-- a name that no space follows is not the name of a field
pub not_name_and_space : (input name following : List ℕ) → input ≡ name ++ following → EndsHeader following → (rest : List ℕ) → input ≢ name ++ 32 ∷ rest
not_name_and_space input name following joined ends rest same =
    let e : following ≡ 32 ∷ rest = append_cancel_left name following (32 ∷ rest) (sym joined ∙ same) in
    let k : EndsHeader (32 ∷ rest) = subst EndsHeader e ends in k refl

pub has_field_of_parts : (name input line value rest : List ℕ) → input ≡ name ++ 32 ∷ line → SplitsAt 10 line value rest → BeginsWithField name input value rest
has_field_of_parts name input line value rest joined split =
    record { joined = joined ∙ ap (λ (it : List ℕ). name ++ 32 ∷ it) split.joined ∙ sym (encode_field_append name value rest); one_line = split.first }

pub no_field_without_name : (name input : List ℕ) → ((rest : List ℕ) → input ≢ name ++ 32 ∷ rest) → BeginsWithNoField name input
no_field_without_name name input without value rest field = without (value ++ 10 ∷ rest) (field.joined ∙ encode_field_append name value rest)

-- the bytes after the name of a field are its value, a newline and the rest
field_line_is_value_and_rest : (name input line value rest : List ℕ) → input ≡ name ++ 32 ∷ line → BeginsWithField name input value rest
    → line ≡ value ++ 10 ∷ rest
field_line_is_value_and_rest name input line value rest joined field =
    let e : 32 ∷ line ≡ 32 ∷ (value ++ 10 ∷ rest) = append_cancel_left name (32 ∷ line) (32 ∷ (value ++ 10 ∷ rest))
    (sym joined ∙ field.joined ∙ encode_field_append name value rest) in cc

pub no_field_without_newline : (name input line : List ℕ) → input ≡ name ++ 32 ∷ line → IsByteFree 10 line → BeginsWithNoField name input
no_field_without_newline name input line joined free value rest field =
    no_split_of_byte_free 10 value rest (subst (IsByteFree 10) (field_line_is_value_and_rest name input line value rest joined field) free)

pub field_unique : (name input a x b y : List ℕ) → BeginsWithField name input a x → BeginsWithField name input b y → (a ≡ b) × (x ≡ y)
field_unique name input a x b y first second =
    split_parts_unique 10 a x b y first.one_line second.one_line (field_line_is_value_and_rest name input (a ++ 10 ∷ x) b y (first.joined
    ∙ encode_field_append name a x) second)

-- a field at the beginning of an input is a field by itself
pub has_field_of_encoded : (name input value rest : List ℕ) → BeginsWithField name input value rest → BeginsWithField name (encode_field name value) value []
has_field_of_encoded name input value rest has = record { joined = sym (append-nil (encode_field name value)); one_line = has.one_line }

pub first_bytes_eq : (a b : ℕ) (x y : List ℕ) → a ∷ x ≡ b ∷ y → a ≡ b
first_bytes_eq a b x y same = cc same

-- the hex of an id of some kind is the hex of an id
pub is_id_hex_of_decoded : (kind : Kind) (hex : List ℕ) → IsIdHexOfKind kind hex → IsIdHex hex
is_id_hex_of_decoded hash.Sha1 hex (is, digits) = (inl is, digits)
is_id_hex_of_decoded hash.Sha256 hex (is, digits) = (inr is, digits)

hex_digit_ne_newline : (byte : ℕ) → is_hex_digit byte ≡ true → byte ≢ 10
hex_digit_ne_newline byte digit same = true≢false (sym digit ∙ ap is_hex_digit same)

pub hex_digits_newline_free : (bytes : List ℕ) → AllPass is_hex_digit bytes → IsByteFree 10 bytes
hex_digits_newline_free [] digits = All-nil (λ it. it ≢ 10)
hex_digits_newline_free (byte ∷ bytes) digits =
    let P : ℕ → Type 0 = λ it. is_hex_digit it ≡ true in
    All-cons (λ it. it ≢ 10) byte bytes (hex_digit_ne_newline byte (All-head P byte bytes digits))
    (hex_digits_newline_free bytes (All-tail P byte bytes digits))

pub no_kind_of_unknown_name : (name input value rest : List ℕ) → BeginsWithField name input value rest → IsUnknownKindName value
    → BeginsWithNoKindField name input
no_kind_of_unknown_name name input value rest field bad kind following second =
    bad kind (field_unique name input value rest (kind_name kind) following field second).0

-- ---- the hex of an id, whose length is the position of the newline

pub no_id_without_newline : (name : List ℕ) (kind : Kind) (input line : List ℕ) (len : ℕ) → input ≡ name ++ 32 ∷ line → len ≡ 2 * hash_len kind
    → get_or line len 0 ≢ 10 → BeginsWithNoIdField name kind input
no_id_without_newline name kind input line len joined long other hex rest has =
    let splits : line ≡ hex ++ 10 ∷ rest = field_line_is_value_and_rest name input line hex rest joined has.0 in
    let len_eq : len ≡ length hex = long ∙ sym has.1.0 in
    other (ap (λ (it : List ℕ). get_or it len 0) splits ∙ ap (λ (it : ℕ). get_or (hex ++ 10 ∷ rest) it 0) len_eq ∙ get_or-append_seam hex 10 rest 0)

prefix_unique_of_length : (a x b y : List ℕ) → a ++ x ≡ b ++ y → length a ≡ length b → a ≡ b
prefix_unique_of_length a x b y same long =
    sym (take-append_seam a x) ∙ ap (take (length a)) same ∙ ap (λ (it : ℕ). take it (b ++ y)) long ∙ take-append_seam b y

pub no_id_of_other_hex : (name : List ℕ) (kind : Kind) (input line value rest : List ℕ) (len : ℕ) → input ≡ name ++ 32 ∷ line
    → len ≡ 2 * hash_len kind
    → line ≡ value ++ 10 ∷ rest → length value ≡ len
    → (IsIdHexOfKind kind value → ⊥) → BeginsWithNoIdField name kind input
no_id_of_other_hex name kind input line value rest len joined long splits len_eq bad hex following has =
    let same : hex ≡ value = prefix_unique_of_length hex (10 ∷ following) value (10 ∷ rest)
    (sym (field_line_is_value_and_rest name input line hex following joined has.0) ∙ splits)
    (has.1.0 ∙ sym (len_eq ∙ long)) in
    bad (subst (IsIdHexOfKind kind) same has.1)

-- a list splits before and after the byte at a position
pub take_cons_drop : (bytes : List ℕ) (index byte : ℕ) → index < length bytes → byte ≡ get_or bytes index 0
    → bytes ≡ take index bytes ++ byte ∷ drop (index + 1) bytes
take_cons_drop bytes index byte within is =
    let next : suc index ≡ index + 1 = omega arith in
    let following : drop index bytes ≡ byte ∷ drop (index + 1) bytes = drop-cons bytes index 0 within
    ∙ ap (λ (it : ℕ). get_or bytes index 0 ∷ drop it bytes) next ∙ ap (λ (it : ℕ). it ∷ drop (index + 1) bytes) (sym is) in
    sym (take-append-drop index bytes) ∙ ap (λ (it : List ℕ). take index bytes ++ it) following

-- ---- continuation lines

continuations_cons_append : (line rest : List ℕ) (more : List (List ℕ))
    → flat_map encode_continuation (line ∷ more) ++ rest ≡ 32 ∷ (line ++ 10 ∷ (flat_map encode_continuation more ++ rest))
continuations_cons_append line rest more = simp append_assoc

ends_header_has_no_space : (rest following : List ℕ) → EndsHeader rest → rest ≡ 32 ∷ following → ⊥
ends_header_has_no_space rest following ends same = (let k : EndsHeader (32 ∷ following) = subst EndsHeader same ends in k refl)

-- continuation lines decode uniquely
pub run_unique : (a b : List (List ℕ)) (x y : List ℕ) → All (λ line. IsByteFree 10 line) a → All (λ line. IsByteFree 10 line) b → EndsHeader x
    → EndsHeader y
    → flat_map encode_continuation a ++ x ≡ flat_map encode_continuation b ++ y → (a ≡ b) × (x ≡ y)
run_unique [] [] x y free_a free_b ends_x ends_y same = (refl, same)
run_unique [] (line ∷ b) x y free_a free_b ends_x ends_y same =
    absurd (ends_header_has_no_space x (line ++ 10 ∷ (flat_map encode_continuation b ++ y)) ends_x (same ∙ continuations_cons_append line y b))
run_unique (line ∷ a) [] x y free_a free_b ends_x ends_y same =
    absurd (ends_header_has_no_space y (line ++ 10 ∷ (flat_map encode_continuation a ++ x)) ends_y (sym same ∙ continuations_cons_append line x a))
run_unique (line ∷ a) (other ∷ b) x y free_a free_b ends_x ends_y same =
    let P : List ℕ → Type 0 = IsByteFree 10 in
    let entire : 32 ∷ (line ++ 10 ∷ (flat_map encode_continuation a ++ x)) ≡ 32 ∷ (other ++ 10 ∷ (flat_map encode_continuation b ++ y)) =
    sym (continuations_cons_append line x a) ∙ same ∙ continuations_cons_append other y b in
    let tails : line ++ 10 ∷ (flat_map encode_continuation a ++ x) ≡ other ++ 10 ∷ (flat_map encode_continuation b ++ y) = cc in
    let splits = split_parts_unique 10 line (flat_map encode_continuation a ++ x) other (flat_map encode_continuation b ++ y) (All-head P line a free_a)
    (All-head P other b free_b) tails in
    let rest = run_unique a b x y (All-tail P line a free_a) (All-tail P other b free_b) ends_x ends_y splits.1 in
    (cc (splits.0, rest.0), rest.1)

-- an incomplete continuation line makes the continuation lines invalid
pub no_run_of_unindented : (a b : List (List ℕ)) (following y : List ℕ) → All (λ line. IsByteFree 10 line) a → All (λ line. IsByteFree 10 line) b
    → IsByteFree 10 following
    → EndsHeader y
    → flat_map encode_continuation a ++ 32 ∷ following ≡ flat_map encode_continuation b ++ y → ⊥
no_run_of_unindented [] [] following y free_a free_b free ends same = ends_header_has_no_space y following ends (sym same)
no_run_of_unindented [] (line ∷ b) following y free_a free_b free ends same =
    let entire : 32 ∷ following ≡ 32 ∷ (line ++ 10 ∷ (flat_map encode_continuation b ++ y)) = same ∙ continuations_cons_append line y b in
    let tails : following ≡ line ++ 10 ∷ (flat_map encode_continuation b ++ y) = cc in
    no_split_of_byte_free 10 line (flat_map encode_continuation b ++ y) (subst (IsByteFree 10) tails free)
no_run_of_unindented (line ∷ a) [] following y free_a free_b free ends same =
    ends_header_has_no_space y (line ++ 10 ∷ (flat_map encode_continuation a ++ 32 ∷ following)) ends
    (sym same ∙ continuations_cons_append line (32 ∷ following) a)
no_run_of_unindented (line ∷ a) (other ∷ b) following y free_a free_b free ends same =
    let P : List ℕ → Type 0 = IsByteFree 10 in
    let entire : 32 ∷ (line ++ 10 ∷ (flat_map encode_continuation a ++ 32 ∷ following)) ≡ 32 ∷ (other ++ 10 ∷ (flat_map encode_continuation b ++ y)) =
    sym (continuations_cons_append line (32 ∷ following) a) ∙ same ∙ continuations_cons_append other y b in
    let tails : line ++ 10 ∷ (flat_map encode_continuation a ++ 32 ∷ following) ≡ other ++ 10 ∷ (flat_map encode_continuation b ++ y) = cc in
    let splits = split_parts_unique 10 line (flat_map encode_continuation a ++ 32 ∷ following) other (flat_map encode_continuation b ++ y)
    (All-head P line a free_a)
    (All-head P other b free_b) tails in
    no_run_of_unindented a b following y (All-tail P line a free_a) (All-tail P other b free_b) free ends splits.1

-- the continuation lines that were decoded, and the value that they make
pub record Unfolding (first input unfolded rest : List ℕ) : Type 0 where
  pub more : List (List ℕ)
  pub joined : input ≡ flat_map encode_continuation more ++ rest
  pub each_one_line : All (λ line. IsByteFree 10 line) more
  pub value : unfolded ≡ flat_map encode_line (first ∷ more)

pub unfolding_first : (first input : List ℕ) → Unfolding first input (first ++ 10 ∷ []) input
unfolding_first first input =
    record { more = []; joined = refl; each_one_line = All-nil (λ (line : List ℕ). IsByteFree 10 line); value = sym (append-nil (first ++ 10 ∷ [])) }

pub unfolding_append : (first input value rest following line after : List ℕ) → Unfolding first input value rest → rest ≡ 32 ∷ following
    → SplitsAt 10 following line after
    → Unfolding first input ((value ++ line) ++ 10 ∷ []) after
unfolding_append first input value rest following line after so_far space split =
    let one : rest ≡ flat_map encode_continuation (line ∷ []) ++ after = space ∙ ap (λ (it : List ℕ). 32 ∷ it) split.joined
    ∙ sym (continuations_cons_append line after []) in
    let regrouped : flat_map encode_continuation so_far.more ++ (flat_map encode_continuation (line ∷ []) ++ after) ≡ flat_map encode_continuation
    (so_far.more ++ line ∷ []) ++ after =
    sym (append_assoc (flat_map encode_continuation so_far.more) (flat_map encode_continuation (line ∷ [])) after) ∙ ap (λ (it : List ℕ). it ++ after)
    (sym (flat_map-append encode_continuation so_far.more (line ∷ []))) in
    let last : flat_map encode_line (line ∷ []) ≡ line ++ 10 ∷ [] = append-nil (line ++ 10 ∷ []) in
    record {
      more = so_far.more ++ line ∷ [];
      joined = so_far.joined ∙ ap (λ (it : List ℕ). flat_map encode_continuation so_far.more ++ it) one ∙ regrouped;
      each_one_line = All-push (λ (it : List ℕ). IsByteFree 10 it) so_far.more line so_far.each_one_line split.first;
      value = append_assoc value line (10 ∷ []) ∙ ap (λ (it : List ℕ). it ++ (line ++ 10 ∷ [])) so_far.value
          ∙ ap (λ (it : List ℕ). flat_map encode_line (first ∷ so_far.more) ++ it) (sym last)
          ∙ sym (flat_map-append encode_line (first ∷ so_far.more) (line ∷ []));
    }

pub unfolding_step : (first input value rest following line after grown unfolded : List ℕ) → Unfolding first input value rest → rest ≡ 32 ∷ following
    → SplitsAt 10 following line after
    → grown ≡ value ++ line → unfolded ≡ grown ++ 10 ∷ [] → Unfolding first input unfolded after
unfolding_step first input value rest following line after grown unfolded so_far space split more last =
    let U : List ℕ → Type 0 = λ it. Unfolding first input it after in
    subst U (sym (last ∙ ap (λ (it : List ℕ). it ++ 10 ∷ []) more)) (unfolding_append first input value rest following line after so_far space split)

pub is_unfolded_at_end : (first input value rest : List ℕ) → Unfolding first input value rest → EndsHeader rest → IsUnfolded first input value rest
is_unfolded_at_end first input value rest so_far ends =
    (so_far.more, record { joined = so_far.joined; each_one_line = so_far.each_one_line; ends = ends }, so_far.value)

pub no_lines_of_split : (first input value rest following : List ℕ) → Unfolding first input value rest → rest ≡ 32 ∷ following → IsByteFree 10 following
    → BeginsWithNoContinuations input
no_lines_of_split first input value rest following so_far space free more tail lines =
    no_run_of_unindented so_far.more more following tail so_far.each_one_line lines.each_one_line free lines.ends
    (ap (λ (it : List ℕ). flat_map encode_continuation so_far.more ++ it) (sym space) ∙ sym so_far.joined ∙ lines.joined)

pub unfolding_len_lt : (rest following line after : List ℕ) → rest ≡ 32 ∷ following → SplitsAt 10 following line after → length after < length rest
unfolding_len_lt rest following line after space split = omega (arith, ap length space, ap length split.joined, length-append line (10 ∷ after))

-- ---- a header

encode_header_append : (name first rest : List ℕ) (more : List (List ℕ)) → (name ++ 32 ∷ encode_line first ++ flat_map encode_continuation more) ++ rest ≡ name
    ++ 32
    ∷ (first ++ 10 ∷ (flat_map encode_continuation more ++ rest))
encode_header_append name first rest more = simp append_assoc

-- the parts of a header, split from left to right
pub record HeaderParts (input name following first after : List ℕ) : Type 0 where
  pub split_parts : SplitsAt 32 input name following
  pub named : (name ≢ []) × IsByteFree 10 name
  pub line : SplitsAt 10 following first after

input_of_header_parts : (input name following first after rest : List ℕ) (more : List (List ℕ)) → HeaderParts input name following first after
    → after ≡ flat_map encode_continuation more ++ rest
    → input ≡ (name ++ 32 ∷ encode_line first ++ flat_map encode_continuation more) ++ rest
input_of_header_parts input name following first after rest more parts same =
    parts.split_parts.joined ∙ ap (λ (it : List ℕ). name ++ 32 ∷ it) (parts.line.joined ∙ ap (λ (it : List ℕ). first ++ 10 ∷ it) same)
    ∙ sym (encode_header_append name first rest more)

header_name_of_parts : (input name following first after : List ℕ) → HeaderParts input name following first after → IsHeaderName name
header_name_of_parts input name following first after parts =
    record { not_empty = parts.named.0; no_space = parts.split_parts.first; no_newline = parts.named.1 }

pub has_header_of_one_line : (input name following first after : List ℕ) → SplitsAt 32 input name following → (name ≢ []) × IsByteFree 10 name
    → SplitsAt 10 following first after → EndsHeader after
    → BeginsWithHeader input (record { name = name; value = first }) after
has_header_of_one_line input name following first after splits named line ends =
    let parts : HeaderParts input name following first after = record { split_parts = splits; named = named; line = line } in
    record {
      encoded = name ++ 32 ∷ encode_line first ++ flat_map encode_continuation [];
      joined = input_of_header_parts input name following first after after [] parts refl;
      ends = ends;
      written = record {
        first = first;
        more = [];
        joined = refl;
        named = header_name_of_parts input name following first after parts;
        one_line = line.first;
        each_one_line = All-nil (λ (it : List ℕ). IsByteFree 10 it);
        value = refl;
      };
    }

value_of_lines_of_several : (first after rest value : List ℕ) (more : List (List ℕ)) → after ≡ flat_map encode_continuation more ++ rest → EndsHeader rest
    → (EndsHeader after → ⊥)
    → value ≡ flat_map encode_line (first ∷ more) → value ≡ value_of_lines first more
value_of_lines_of_several first after rest value [] same ends goes_on is = absurd (goes_on (subst EndsHeader (sym same) ends))
value_of_lines_of_several first after rest value (second ∷ more) same ends goes_on is = is

pub has_header_of_lines : (input name following first after value rest : List ℕ) → SplitsAt 32 input name following → (name ≢ []) × IsByteFree 10 name
    → SplitsAt 10 following first after
    → (EndsHeader after → ⊥) → IsUnfolded first after value rest → BeginsWithHeader input (record { name = name; value = value }) rest
has_header_of_lines input name following first after value rest splits named line goes_on (more, lines, is) =
    let parts : HeaderParts input name following first after = record { split_parts = splits; named = named; line = line } in
    record {
      encoded = name ++ 32 ∷ encode_line first ++ flat_map encode_continuation more;
      joined = input_of_header_parts input name following first after rest more parts lines.joined;
      ends = lines.ends;
      written = record {
        first = first;
        more = more;
        joined = refl;
        named = header_name_of_parts input name following first after parts;
        one_line = line.first;
        each_one_line = lines.each_one_line;
        value = value_of_lines_of_several first after rest value more lines.joined lines.ends goes_on is;
      };
    }

-- the input is the name, a space, the first line, the continuation lines and the rest
input_of_begins_with_header : (input : List ℕ) (h : Header) (rest : List ℕ) (it : BeginsWithHeader input h rest)
    → input ≡ h.name ++ 32 ∷ (it.written.first ++ 10 ∷ (flat_map encode_continuation it.written.more ++ rest))
input_of_begins_with_header input h rest it = it.joined ∙ ap (λ (bytes : List ℕ). bytes ++ rest) it.written.joined
    ∙ encode_header_append h.name it.written.first rest it.written.more

pub no_header_without_space : (input : List ℕ) → IsByteFree 32 input → BeginsWithNoHeader input
no_header_without_space input free h rest it =
    no_split_of_byte_free 32 h.name (it.written.first ++ 10 ∷ (flat_map encode_continuation it.written.more ++ rest))
    (subst (IsByteFree 32) (input_of_begins_with_header input h rest it) free)

-- the first space of a header splits its name from its lines
header_name_unique : (input name following : List ℕ) (h : Header) (rest : List ℕ) → SplitsAt 32 input name following → (it : BeginsWithHeader input h rest)
    → (name ≡ h.name) × (following ≡ it.written.first ++ 10 ∷ (flat_map encode_continuation it.written.more ++ rest))
header_name_unique input name following h rest splits it =
    split_parts_unique 32 name following h.name (it.written.first ++ 10 ∷ (flat_map encode_continuation it.written.more ++ rest)) splits.first
    it.written.named.no_space
    (sym splits.joined ∙ input_of_begins_with_header input h rest it)

pub no_header_of_empty_name : (input name following : List ℕ) → SplitsAt 32 input name following → (IsHeaderName name → ⊥) → BeginsWithNoHeader input
no_header_of_empty_name input name following splits bad h rest it =
    bad (subst IsHeaderName (sym (header_name_unique input name following h rest splits it).0) it.written.named)

pub no_header_without_newline : (input name following : List ℕ) → SplitsAt 32 input name following → IsByteFree 10 following → BeginsWithNoHeader input
no_header_without_newline input name following splits free h rest it =
    no_split_of_byte_free 10 it.written.first (flat_map encode_continuation it.written.more ++ rest)
    (subst (IsByteFree 10) (header_name_unique input name following h rest splits it).1 free)

-- the first newline of a header's lines splits the first line from the continuation lines
header_first_line_unique : (input name following first after : List ℕ) (h : Header) (rest : List ℕ) → SplitsAt 32 input name following
    → SplitsAt 10 following first after
    → (it : BeginsWithHeader input h rest)
    → (first ≡ it.written.first) × (after ≡ flat_map encode_continuation it.written.more ++ rest)
header_first_line_unique input name following first after h rest splits line it =
    split_parts_unique 10 first after it.written.first (flat_map encode_continuation it.written.more ++ rest) line.first it.written.one_line
    (sym line.joined ∙ (header_name_unique input name following h rest splits it).1)

pub no_header_without_lines : (input name following first after : List ℕ) → SplitsAt 32 input name following → SplitsAt 10 following first after
    → BeginsWithNoContinuations after → BeginsWithNoHeader input
no_header_without_lines input name following first after splits line bad h rest it =
    bad it.written.more rest (record {
      joined = (header_first_line_unique input name following first after h rest splits line it).1;
      each_one_line = it.written.each_one_line;
      ends = it.ends;
    })

begins_with_space_of_no_header_end : (after : List ℕ) → (EndsHeader after → ⊥) → (rest : List ℕ) × (after ≡ 32 ∷ rest)
begins_with_space_of_no_header_end [] goes_on = absurd (goes_on tt)
begins_with_space_of_no_header_end (byte ∷ rest) goes_on = (rest, grind (arith, goes_on))

pub begins_several_of_indented : (input name following first after tail : List ℕ) → SplitsAt 32 input name following → (name ≢ []) × IsByteFree 10 name
    → SplitsAt 10 following first after → after ≡ 32 ∷ tail → BeginsWithSeveralLines input
begins_several_of_indented input name following first after tail splits named line space =
    record {
      name = name;
      first = first;
      rest = tail;
      joined = splits.joined ∙ ap (λ (it : List ℕ). name ++ 32 ∷ it) (line.joined ∙ ap (λ (it : List ℕ). first ++ 10 ∷ it) space)
          ∙ sym (encode_field_append name first (32 ∷ tail));
      named = record { not_empty = named.0; no_space = splits.first; no_newline = named.1 };
      one_line = line.first;
    }

abbrev header_from : List ℕ → List ℕ → Header
header_from name value = record { name = name; value = value }

header_eq_of_fields : (a b : Header) → a.name ≡ b.name → a.value ≡ b.value → a ≡ b
header_eq_of_fields a b name value = ap (λ (it : List ℕ). header_from it a.value) name ∙ ap (header_from b.name) value

-- an error of the continuation lines is an error of the header
pub header_error_of_lines : (input name following first after tail : List ℕ) (f e : Error) → f ≡ e → SplitsAt 32 input name following → (name ≢ [])
    × IsByteFree 10 name
    → SplitsAt 10 following first after → after ≡ 32 ∷ tail
    → (e ≡ Malformed → BeginsWithNoContinuations after) → IsHeaderFieldError input f
header_error_of_lines input name following first after tail f Malformed same splits named line space bad =
    rw same (no_header_without_lines input name following first after splits line (bad refl))
header_error_of_lines input name following first after tail f OutOfMemory same splits named line space bad =
    rw same (begins_several_of_indented input name following first after tail splits named line space)

-- an input begins with at most one header
pub header_unique : (input : List ℕ) (h k : Header) (x y : List ℕ) → BeginsWithHeader input h x → BeginsWithHeader input k y → (h ≡ k) × (x ≡ y)
header_unique input h k x y first second =
    let splits : SplitsAt 32 input h.name (first.written.first ++ 10 ∷ (flat_map encode_continuation first.written.more ++ x)) =
    record { joined = input_of_begins_with_header input h x first; first = first.written.named.no_space } in
    let line : SplitsAt 10 (first.written.first ++ 10 ∷ (flat_map encode_continuation first.written.more ++ x)) first.written.first
    (flat_map encode_continuation first.written.more ++ x) = record { joined = refl; first = first.written.one_line } in
    let names = header_name_unique input h.name _ k y splits second in
    let lines = header_first_line_unique input h.name _ first.written.first _ k y splits line second in
    let run = run_unique first.written.more second.written.more x y first.written.each_one_line second.written.each_one_line first.ends second.ends
    lines.1 in (
      header_eq_of_fields h k names.0 (first.written.value ∙ ap (λ (it : List ℕ). value_of_lines it first.written.more) lines.0
          ∙ ap (value_of_lines second.written.first) run.0 ∙ sym second.written.value),
      run.1,
    )

-- the value of several lines has a newline
pub folded_value_has_newline : (first input value rest : List ℕ) → IsUnfolded first input value rest → Contains value 10
folded_value_has_newline first input value rest (more, lines, is) =
    let here : Contains (encode_line first) 10 = Contains-append_right first (10 ∷ []) 10 (0, lit< tt, refl) in
    subst (λ (it : List ℕ). Contains it 10) (sym is) (Contains-append_left (encode_line first) (flat_map encode_line more) 10 here)
