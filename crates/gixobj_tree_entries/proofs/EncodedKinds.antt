-- The number of the first seven bytes decides whether they begin with the mode of a kind and a space. The functions
-- `kind_prefix` and `EntryMode::extract_from_bytes` use it.
use Rattle.std.proofs.Common.{◌≡◌, ◌≢◌, ◌<◌, ◌≤◌, ◌/◌, ◌++◌, ◌∷◌, ℕ, zero, suc, List, [], ap, append_assoc, arith, codes, drop, get_or, length, refl, subst}
use Rattle.std.proofs.Common.{sym, take, ◌∙◌}
use Rattle.std.proofs.Math.Seq.{drop-append_seam, take-append_seam}
use Rattle.std.proofs.lemmas.List.{length-take, take-append-drop}
use Rattle.std.proofs.lemmas.Nat.{be_bytes_8}
use Rattle.std.specs.Int.{from_be_bytes, to_be_bytes, w64}
use Rattle.gixobj_tree_entries.proofs.ByteSix.{encode_mode_has_six_digits}
use Rattle.gixobj_tree_entries.proofs.ModesRoundTrip.{mode_round_trips}
use Rattle.gixobj_tree_entries.specs.Mode.{BeginsWithKind, BeginsWithMode, DecodesToMode, mode_of_kind, encode_mode}
use Rattle.gixobj_tree_entries.specs.declared.entry_kind.EntryKind.{EntryKind}
use Rattle.gixobj_tree_entries.specs.declared.entry_kind.EntryKind.TheVariants as kind

abbrev Bytes : List ℕ → Type 0
Bytes content = (at : ℕ) → get_or content at 0 < 256

-- ---- the number of the first bytes

bytes_take : (count : ℕ) (content : List ℕ) → Bytes content → Bytes (take count content)
bytes_take zero content small at = omega arith
bytes_take (suc count) [] small at = omega arith
bytes_take (suc count) (first ∷ content) small zero = small 0
bytes_take (suc count) (first ∷ content) small (suc at) = bytes_take count content (λ i. small (suc i)) at

bytes_zero_cons : (content : List ℕ) → Bytes content → Bytes (0 ∷ content)
bytes_zero_cons content small zero = omega arith
bytes_zero_cons content small (suc at) = small at

-- seven bytes with the number of these seven are equal to them
take_seven_of_number : (content entire : List ℕ) → Bytes content → 8 ≤ length content → to_be_bytes w64 (from_be_bytes w64 (0 ∷ entire)) ≡ 0 ∷ entire
    → from_be_bytes w64 (0 ∷ take 7 content) ≡ from_be_bytes w64 (0 ∷ entire) → take 7 content ≡ entire
take_seven_of_number content entire small long back same =
    ap (drop 1) (sym (be_bytes_8 (0 ∷ take 7 content) (from_be_bytes w64 (0 ∷ entire)) (omega (arith, length-take 7 content))
    (bytes_zero_cons (take 7 content) (bytes_take 7 content small)) (sym same)) ∙ back)

-- the number of seven bytes divided by 256 is the number of the first six
number_of_seven_div_256 : (content : List ℕ) → Bytes content → 8 ≤ length content → from_be_bytes w64 (0 ∷ take 7 content) / 256 ≡ from_be_bytes w64
    (0 ∷ 0 ∷ take 6 content)
number_of_seven_div_256 (a ∷ b ∷ c ∷ d ∷ e ∷ f ∷ g ∷ h ∷ rest) small long = omega (arith, small 6)
number_of_seven_div_256 [] small long = absurd (omega arith)
number_of_seven_div_256 (a ∷ []) small long = absurd (omega arith)
number_of_seven_div_256 (a ∷ b ∷ []) small long = absurd (omega arith)
number_of_seven_div_256 (a ∷ b ∷ c ∷ []) small long = absurd (omega arith)
number_of_seven_div_256 (a ∷ b ∷ c ∷ d ∷ []) small long = absurd (omega arith)
number_of_seven_div_256 (a ∷ b ∷ c ∷ d ∷ e ∷ []) small long = absurd (omega arith)
number_of_seven_div_256 (a ∷ b ∷ c ∷ d ∷ e ∷ f ∷ []) small long = absurd (omega arith)
number_of_seven_div_256 (a ∷ b ∷ c ∷ d ∷ e ∷ f ∷ g ∷ []) small long = absurd (omega arith)

take_six_of_number : (content entire : List ℕ) → Bytes content → 8 ≤ length content → to_be_bytes w64 (from_be_bytes w64 (0 ∷ 0 ∷ entire)) ≡ 0 ∷ 0 ∷ entire
    → from_be_bytes w64 (0 ∷ take 7 content) / 256 ≡ from_be_bytes w64 (0 ∷ 0 ∷ entire) → take 6 content ≡ entire
take_six_of_number content entire small long back same =
    ap (drop 2) (sym (be_bytes_8 (0 ∷ 0 ∷ take 6 content) (from_be_bytes w64 (0 ∷ 0 ∷ entire)) (omega (arith, length-take 6 content))
    (bytes_zero_cons (0 ∷ take 6 content) (bytes_zero_cons (take 6 content) (bytes_take 6 content small))) (sym same
    ∙ number_of_seven_div_256 content small long))
    ∙ back)

-- ---- found

begins_with_kind_of_take : (kind : EntryKind) (digits content : List ℕ) (count : ℕ) → digits ≡ encode_mode (mode_of_kind kind)
    → take count content ≡ digits ++ 32 ∷ []
    → BeginsWithKind content kind (drop (length digits) content)
begins_with_kind_of_take kind digits content count is same =
    let rest : List ℕ = drop count content in
    let joined : content ≡ (digits ++ 32 ∷ []) ++ rest = sym (take-append-drop count content) ∙ ap (λ (it : List ℕ). it ++ rest) same in
    let parted : content ≡ digits ++ 32 ∷ rest = joined ∙ append_assoc digits (32 ∷ []) rest in
    let split : drop (length digits) content ≡ 32 ∷ rest = ap (drop (length digits)) parted ∙ drop-append_seam digits (32 ∷ rest) in
    record {
      name = rest;
      spaced = split;
      joined = parted ∙ ap (λ (it : List ℕ). it ++ 32 ∷ rest) is ∙ ap (λ (it : List ℕ). encode_mode (mode_of_kind kind) ++ it)
          (sym split);
    }

pub begins_with_blob_mode : (content : List ℕ) → Bytes content → 8 ≤ length content → from_be_bytes w64 (0 ∷ take 7 content) ≡ from_be_bytes w64
    (0 ∷ codes "100644 ")
    → BeginsWithKind content kind.Blob (drop 6 content)
begins_with_blob_mode content small long same = begins_with_kind_of_take kind.Blob (codes "100644") content 7 refl
    (take_seven_of_number content (codes "100644 ") small long refl same)

pub begins_with_tree_mode : (content : List ℕ) → Bytes content → 8 ≤ length content → from_be_bytes w64 (0 ∷ take 7 content) / 256 ≡ from_be_bytes w64
    (0 ∷ 0 ∷ codes "40000 ") → BeginsWithKind content kind.Tree (drop 5 content)
begins_with_tree_mode content small long same = begins_with_kind_of_take kind.Tree (codes "40000") content 6 refl
    (take_six_of_number content (codes "40000 ") small long refl same)

pub begins_with_executable_mode : (content : List ℕ) → Bytes content → 8 ≤ length content → from_be_bytes w64 (0 ∷ take 7 content) ≡ from_be_bytes w64
    (0 ∷ codes "100755 ") → BeginsWithKind content kind.BlobExecutable (drop 6 content)
begins_with_executable_mode content small long same = begins_with_kind_of_take kind.BlobExecutable (codes "100755") content 7 refl
    (take_seven_of_number content (codes "100755 ") small long refl same)

pub begins_with_link_mode : (content : List ℕ) → Bytes content → 8 ≤ length content → from_be_bytes w64 (0 ∷ take 7 content) ≡ from_be_bytes w64
    (0 ∷ codes "120000 ")
    → BeginsWithKind content kind.Link (drop 6 content)
begins_with_link_mode content small long same = begins_with_kind_of_take kind.Link (codes "120000") content 7 refl
    (take_seven_of_number content (codes "120000 ") small long refl same)

pub begins_with_commit_mode : (content : List ℕ) → Bytes content → 8 ≤ length content → from_be_bytes w64 (0 ∷ take 7 content) ≡ from_be_bytes w64
    (0 ∷ codes "160000 ")
    → BeginsWithKind content kind.Commit (drop 6 content)
begins_with_commit_mode content small long same = begins_with_kind_of_take kind.Commit (codes "160000") content 7 refl
    (take_seven_of_number content (codes "160000 ") small long refl same)

-- ---- not found

take_of_begins_with_kind : (kind : EntryKind) (content rest : List ℕ) → BeginsWithKind content kind rest
    → take (length (encode_mode (mode_of_kind kind) ++ 32 ∷ [])) content
    ≡ encode_mode (mode_of_kind kind) ++ 32 ∷ []
take_of_begins_with_kind kind content rest begins =
    let digits : List ℕ = encode_mode (mode_of_kind kind) in
    let joined : content ≡ (digits ++ 32 ∷ []) ++ begins.name = begins.joined ∙ ap (λ (it : List ℕ). digits ++ it) begins.spaced
    ∙ sym (append_assoc digits (32 ∷ []) begins.name) in
    ap (take (length (digits ++ 32 ∷ []))) joined ∙ take-append_seam (digits ++ 32 ∷ []) begins.name

number_of_take_seven : (content entire : List ℕ) → take 7 content ≡ entire → from_be_bytes w64 (0 ∷ take 7 content) ≡ from_be_bytes w64 (0 ∷ entire)
number_of_take_seven content entire same = ap (λ (it : List ℕ). from_be_bytes w64 (0 ∷ it)) same

pub no_kind_of_other_prefix : (content : List ℕ) → Bytes content → 8 ≤ length content → from_be_bytes w64 (0 ∷ take 7 content) ≢ from_be_bytes w64
    (0 ∷ codes "100644 ")
    → from_be_bytes w64 (0 ∷ take 7 content) / 256 ≢ from_be_bytes w64 (0 ∷ 0 ∷ codes "40000 ")
    → from_be_bytes w64 (0 ∷ take 7 content) ≢ from_be_bytes w64 (0 ∷ codes "100755 ") → from_be_bytes w64 (0 ∷ take 7 content) ≢ from_be_bytes w64
    (0 ∷ codes "120000 ") → from_be_bytes w64 (0 ∷ take 7 content) ≢ from_be_bytes w64 (0 ∷ codes "160000 ")
    → (kind : EntryKind) (rest : List ℕ) → BeginsWithKind content kind rest → ⊥
no_kind_of_other_prefix content small long blob tree executable link commit kind.Blob rest begins =
    blob (number_of_take_seven content (codes "100644 ") (take_of_begins_with_kind kind.Blob content rest begins))
no_kind_of_other_prefix content small long blob tree executable link commit kind.Tree rest begins =
    tree (number_of_seven_div_256 content small long ∙ ap (λ (it : List ℕ). from_be_bytes w64 (0 ∷ 0 ∷ it))
    (take_of_begins_with_kind kind.Tree content rest begins))
no_kind_of_other_prefix content small long blob tree executable link commit kind.BlobExecutable rest begins =
    executable (number_of_take_seven content (codes "100755 ") (take_of_begins_with_kind kind.BlobExecutable content rest begins))
no_kind_of_other_prefix content small long blob tree executable link commit kind.Link rest begins =
    link (number_of_take_seven content (codes "120000 ") (take_of_begins_with_kind kind.Link content rest begins))
no_kind_of_other_prefix content small long blob tree executable link commit kind.Commit rest begins =
    commit (number_of_take_seven content (codes "160000 ") (take_of_begins_with_kind kind.Commit content rest begins))

-- ---- the decoded mode

mode_of_kind_positive : (kind : EntryKind) → 0 < mode_of_kind kind
mode_of_kind_positive kind.Tree = omega arith
mode_of_kind_positive kind.Blob = omega arith
mode_of_kind_positive kind.BlobExecutable = omega arith
mode_of_kind_positive kind.Link = omega arith
mode_of_kind_positive kind.Commit = omega arith

encode_mode_of_kind_decodes : (kind : EntryKind) → DecodesToMode (encode_mode (mode_of_kind kind)) (mode_of_kind kind)
encode_mode_of_kind_decodes kind.Tree = mode_round_trips 0o040000 (omega arith) (λ it. omega (arith, it.0))
encode_mode_of_kind_decodes kind.Blob = mode_round_trips 0o100644 (omega arith) (λ it. omega (arith, it.0))
encode_mode_of_kind_decodes kind.BlobExecutable = mode_round_trips 0o100755 (omega arith) (λ it. omega (arith, it.0))
encode_mode_of_kind_decodes kind.Link = mode_round_trips 0o120000 (omega arith) (λ it. omega (arith, it.0))
encode_mode_of_kind_decodes kind.Commit = mode_round_trips 0o160000 (omega arith) (λ it. omega (arith, it.1))

append_space_ne_nil : (digits name : List ℕ) → digits ++ 32 ∷ name ≡ [] → ⊥
append_space_ne_nil [] name bare = cc bare
append_space_ne_nil (first ∷ digits) name bare = cc bare

begins_with_mode_of_encode_mode : (kind : EntryKind) (name : List ℕ) → BeginsWithMode (encode_mode (mode_of_kind kind) ++ 32 ∷ name) (mode_of_kind kind)
    (32 ∷ name)
begins_with_mode_of_encode_mode kind name = record {
  digits = encode_mode (mode_of_kind kind);
  some = append_space_ne_nil (encode_mode (mode_of_kind kind)) name;
  joined = refl;
  ends = refl;
  decodes = encode_mode_of_kind_decodes kind;
  byte_six = encode_mode_has_six_digits (mode_of_kind kind) name (mode_of_kind_positive kind);
}

pub begins_with_mode_of_kind : (content : List ℕ) (kind : EntryKind) (mode : ℕ) (rest : List ℕ) → mode ≡ mode_of_kind kind → BeginsWithKind content kind rest
    → BeginsWithMode content mode rest
begins_with_mode_of_kind content kind mode rest is begins =
    let entire : encode_mode (mode_of_kind kind) ++ 32 ∷ begins.name ≡ content = ap (λ (it : List ℕ). encode_mode (mode_of_kind kind) ++ it)
    (sym begins.spaced)
    ∙ sym begins.joined in
    let P : List ℕ → Type 0 = λ it. BeginsWithMode it (mode_of_kind kind) (32 ∷ begins.name) in
    let Q : List ℕ → Type 0 = λ it. BeginsWithMode content (mode_of_kind kind) it in
    let R : ℕ → Type 0 = λ it. BeginsWithMode content it rest in
    subst R (sym is) (subst Q (sym begins.spaced) (subst P entire (begins_with_mode_of_encode_mode kind begins.name)))
