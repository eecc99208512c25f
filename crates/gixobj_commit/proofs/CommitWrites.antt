-- States that the encoding of a commit is the concatenation of its written parts, for `write_into` and `size` of both
-- commit types.
use Rattle.std.proofs.Common.{◌≡◌, ℕ, List, [], ◌∷◌, ◌++◌, ◌+◌, ◌≤◌, ◌⊎◌, All, Option, map, refl, ap, arith, sym, subst, ◌∙◌, append_assoc, codes, inl, inr}
use Rattle.std.proofs.Common.{⊎_elim, length, length-append}
use Rattle.std.specs.List.{flat_map}
use Rattle.std.specs.Str.{str_to_ascii_lowercase}
use Rattle.std.specs.declared.alloc.Global.{Global}
use Rattle.std.specs.declared.borrow.CowSlice.{CowSlice}
use Rattle.std.proofs.lemmas.List.{append-nil}
use Rattle.std.proofs.lemmas.List.Elements.{All-cons, All-head, All-nil, All-tail}
use Rattle.std.proofs.lemmas.List.Folds.{flat_map-map}
use Rattle.bstr.specs.BStr.{bstr_bytes}
use Rattle.bstr.specs.declared.bstr.BStr.{BStr}
use Rattle.bstr.specs.declared.bstring.BString.{BString}
use Rattle.bstr.specs.Owned.{bstring_bytes}
use Rattle.gixobj_actor.specs.ActorWriting.{IsLegal, IsActorFieldError, encode_owned_actor}
use Rattle.gixobj_hash.specs.Hash.{DecodesToId, encode_id_hex}
use Rattle.gixobj_parse.specs.HeaderReading.{header_of, owned_header_of}
use Rattle.gixobj_hash.specs.FieldFormat.{encode_field}
use Rattle.gixobj_streams.specs.Writing.{RejectedValue, RejectsNothing}
use Rattle.gixobj_hash.specs.declared.hash.object_id.ObjectId.{ObjectId}
use Rattle.gixobj_hash.proofs.HexCase.{encode_id_hex_lower_case}
use Rattle.gixobj_commit.proofs.PartSteps.{IsInParts, in_parts}
use Rattle.gixobj_grammar.specs.Commit.{before_encoding, encode_encoding, encode_ids, encode_parent}
use Rattle.gixobj_commit.specs.CommitViews.{commit_lines, owned_commit_lines}
use Rattle.gixobj_hash.specs.Optional.{bytes_if_some, owned_bytes_if_some}
use Rattle.gixobj_commit.specs.CommitWriting.{IsMessageEncodingError, IsCommitLinesError, IsOwnedCommitError, encode_commit, hex_parent, in_lower_case}
use Rattle.gixobj_commit.specs.CommitWriting.{IsEncodingLineError}
use Rattle.gixobj_encode.specs.FieldWriting.{encode_header}
use Rattle.gixobj_commit.specs.declared.commit.Commit.{Commit}
use Rattle.gixobj_commit.specs.declared.commit.CommitRef.{CommitRef}

-- what holds of the values holds of each item
pub all_map : {X Y : Type 0} (P : Y → Type 0) (f : X → Y) (items : List X) → All P (map f items) → All (λ it. P (f it)) items
all_map P f [] all = All-nil (λ it. P (f it))
all_map P f (item ∷ items) all = All-cons (λ it. P (f it)) item items (All-head P (f item) (map f items) all)
    (all_map P f items (All-tail P (f item) (map f items) all))

-- the written lines of the tree and of the parents
abbrev pub ids_written : {X : Type 0} → ObjectId → (X → List ℕ) → List X → List ℕ
ids_written tree bytes parents = encode_field (codes "tree") (encode_id_hex tree) ++ flat_map bytes parents

-- the written bytes after the committer
abbrev pub rest_written : {X : Type 0} → Option BStr → (X → List ℕ) → List X → List ℕ → List ℕ
rest_written encoding bytes headers message = encode_encoding (bytes_if_some encoding) ++ flat_map bytes headers ++ 10 ∷ message

abbrev pub owned_parent : ObjectId → List ℕ
owned_parent id = encode_parent (encode_id_hex id)

abbrev pub borrowed_header : BStr × CowSlice ℕ Global → List ℕ
borrowed_header header = encode_header (header_of header)

abbrev pub owned_header : BString × BString → List ℕ
owned_header header = encode_header (owned_header_of header)

pub encode_commit_ids_in_lower_case : (tree : BStr) (id : ObjectId) (parents : List BStr) → DecodesToId (bstr_bytes tree) id
    → encode_field (codes "tree") (str_to_ascii_lowercase (bstr_bytes tree)) ++ flat_map encode_parent
    (map str_to_ascii_lowercase (map bstr_bytes parents))
    ≡ ids_written id hex_parent parents
encode_commit_ids_in_lower_case tree id parents spells =
    let one = ap (encode_field (codes "tree")) (sym (encode_id_hex_lower_case (bstr_bytes tree) id spells)) in
    let more = flat_map-map encode_parent str_to_ascii_lowercase (map bstr_bytes parents)
    ∙ flat_map-map (λ hex. encode_parent (str_to_ascii_lowercase hex)) bstr_bytes parents in
    ap (λ (it : List ℕ). it ++ flat_map encode_parent (map str_to_ascii_lowercase (map bstr_bytes parents))) one
    ∙ ap (λ (it : List ℕ). encode_field (codes "tree") (encode_id_hex id) ++ it) more

-- the parts after a prefix are regrouped
commit_parts_append_assoc : (prefix encoding headers message : List ℕ) → ((prefix ++ encoding) ++ headers) ++ message
    ≡ prefix ++ ((encoding ++ headers) ++ message)
commit_parts_append_assoc prefix encoding headers message = simp append_assoc

-- the encoding of a borrowed commit, in parts
encode_borrowed_commit_in_parts : (commit : CommitRef) (id : ObjectId) → DecodesToId (bstr_bytes commit.tree) id
    → encode_commit (in_lower_case (commit_lines commit))
    ≡ in_parts (ids_written id hex_parent commit.parents.items) (encode_field (codes "author") (bstr_bytes commit.author))
    (encode_field (codes "committer") (bstr_bytes commit.committer))
    (rest_written commit.encoding borrowed_header commit.extra_headers.items (bstr_bytes commit.message))
encode_borrowed_commit_in_parts commit id spells =
    let author = encode_field (codes "author") (bstr_bytes commit.author) in
    let committer = encode_field (codes "committer") (bstr_bytes commit.committer) in
    let encoding = encode_encoding (bytes_if_some commit.encoding) in
    let message : List ℕ = 10 ∷ bstr_bytes commit.message in
    let before = encode_ids (in_lower_case (commit_lines commit)) in
    let ids = encode_commit_ids_in_lower_case commit.tree id commit.parents.items spells in
    let headers = flat_map-map encode_header header_of commit.extra_headers.items in
    commit_parts_append_assoc ((before ++ author) ++ committer) encoding (flat_map encode_header (map header_of commit.extra_headers.items)) message
    ∙ ap (λ (it : List ℕ). ((it ++ author) ++ committer)
    ++ ((encoding ++ flat_map encode_header (map header_of commit.extra_headers.items)) ++ message)) ids
    ∙ ap (λ (it : List ℕ). in_parts (ids_written id hex_parent commit.parents.items) author committer ((encoding ++ it) ++ message)) headers

pub borrowed_commit_in_parts : (commit : CommitRef) (id : ObjectId) (parents : List BStr) (author committer : List ℕ)
    (headers : List (BStr × CowSlice ℕ Global))
    (message : List ℕ)
    → DecodesToId (bstr_bytes commit.tree) id → parents ≡ commit.parents.items → author ≡ bstr_bytes commit.author
    → committer ≡ bstr_bytes commit.committer
    → headers ≡ commit.extra_headers.items → message ≡ bstr_bytes commit.message → IsInParts (encode_commit (in_lower_case (commit_lines commit)))
    (ids_written id hex_parent parents) (encode_field (codes "author") author) (encode_field (codes "committer") committer)
    (rest_written commit.encoding borrowed_header headers message)
borrowed_commit_in_parts commit id parents author committer headers message spells one two three four five = record {
  joined = encode_borrowed_commit_in_parts commit id spells
      ∙ ap (λ (it : List BStr). in_parts (ids_written id hex_parent it) (encode_field (codes "author") (bstr_bytes commit.author))
      (encode_field (codes "committer") (bstr_bytes commit.committer))
      (rest_written commit.encoding borrowed_header commit.extra_headers.items (bstr_bytes commit.message))) (sym one)
      ∙ ap (λ (it : List ℕ). in_parts (ids_written id hex_parent parents) (encode_field (codes "author") it)
      (encode_field (codes "committer") (bstr_bytes commit.committer))
      (rest_written commit.encoding borrowed_header commit.extra_headers.items (bstr_bytes commit.message))) (sym two)
      ∙ ap (λ (it : List ℕ). in_parts (ids_written id hex_parent parents) (encode_field (codes "author") author) (encode_field (codes "committer") it)
      (rest_written commit.encoding borrowed_header commit.extra_headers.items (bstr_bytes commit.message))) (sym three)
      ∙ ap (λ (it : List (BStr × CowSlice ℕ Global)). in_parts (ids_written id hex_parent parents) (encode_field (codes "author") author)
      (encode_field (codes "committer") committer) (rest_written commit.encoding borrowed_header it (bstr_bytes commit.message))) (sym four)
      ∙ ap (λ (it : List ℕ). in_parts (ids_written id hex_parent parents) (encode_field (codes "author") author)
      (encode_field (codes "committer") committer)
      (rest_written commit.encoding borrowed_header headers it)) (sym five);
}

-- the written bytes of a borrowed commit before its message encoding
borrowed_before_encoding_in_parts : (commit : CommitRef) (id : ObjectId) → DecodesToId (bstr_bytes commit.tree) id
    → before_encoding (in_lower_case (commit_lines commit))
    ≡ (ids_written id hex_parent commit.parents.items ++ encode_field (codes "author") (bstr_bytes commit.author)) ++ encode_field (codes "committer")
    (bstr_bytes commit.committer)
borrowed_before_encoding_in_parts commit id spells =
    ap (λ (it : List ℕ). (it ++ encode_field (codes "author") (bstr_bytes commit.author)) ++ encode_field (codes "committer")
    (bstr_bytes commit.committer))
    (encode_commit_ids_in_lower_case commit.tree id commit.parents.items spells)

-- a message encoding is rejected after the committer
pub borrowed_commit_error_of_part : (commit : CommitRef) (id : ObjectId) (parents : List BStr) (author committer : List ℕ) (value : RejectedValue)
    (parts : List ℕ)
    → DecodesToId (bstr_bytes commit.tree) id → parents ≡ commit.parents.items → author ≡ bstr_bytes commit.author
    → committer ≡ bstr_bytes commit.committer
    → IsEncodingLineError (bytes_if_some commit.encoding) value parts
    → IsCommitLinesError (in_lower_case (commit_lines commit)) value
    (((ids_written id hex_parent parents ++ encode_field (codes "author") author) ++ encode_field (codes "committer") committer) ++ parts)
borrowed_commit_error_of_part commit id parents author committer value parts spells one two three (rejected, nothing) =
    (rejected, rw (nothing, one, two, three) (append-nil _ ∙ sym (borrowed_before_encoding_in_parts commit id spells)))

-- ---- owned commits

encode_ids_of_owned : (commit : Commit) → encode_ids (owned_commit_lines commit) ≡ ids_written commit.tree owned_parent commit.parents.items
encode_ids_of_owned commit = ap (λ (it : List ℕ). encode_field (codes "tree") (encode_id_hex commit.tree) ++ it)
    (flat_map-map encode_parent encode_id_hex commit.parents.items)

-- the encoding of an owned commit, in parts
encode_owned_commit_in_parts : (commit : Commit) → encode_commit (owned_commit_lines commit)
    ≡ in_parts (ids_written commit.tree owned_parent commit.parents.items) (encode_field (codes "author") (encode_owned_actor commit.author))
    (encode_field (codes "committer") (encode_owned_actor commit.committer))
    ((encode_encoding (owned_bytes_if_some commit.encoding) ++ flat_map owned_header commit.extra_headers.items) ++ 10 ∷ bstring_bytes commit.message)
encode_owned_commit_in_parts commit =
    let author = encode_field (codes "author") (encode_owned_actor commit.author) in
    let committer = encode_field (codes "committer") (encode_owned_actor commit.committer) in
    let encoding = encode_encoding (owned_bytes_if_some commit.encoding) in
    let message : List ℕ = 10 ∷ bstring_bytes commit.message in
    let written = flat_map encode_header (map owned_header_of commit.extra_headers.items) in
    commit_parts_append_assoc ((encode_ids (owned_commit_lines commit) ++ author) ++ committer) encoding written message
    ∙ ap (λ (it : List ℕ). in_parts it author committer ((encoding ++ written) ++ message)) (encode_ids_of_owned commit)
    ∙ ap (λ (it : List ℕ). in_parts (ids_written commit.tree owned_parent commit.parents.items) author committer ((encoding ++ it) ++ message))
    (flat_map-map encode_header owned_header_of commit.extra_headers.items)

pub owned_commit_in_parts : (commit : Commit) (parents : List ObjectId) (encoding : Option BStr) (headers : List (BString × BString)) (message : List ℕ)
    → parents ≡ commit.parents.items → bytes_if_some encoding ≡ owned_bytes_if_some commit.encoding → headers ≡ commit.extra_headers.items
    → message ≡ bstring_bytes commit.message
    → IsInParts (encode_commit (owned_commit_lines commit)) (ids_written commit.tree owned_parent parents)
    (encode_field (codes "author") (encode_owned_actor commit.author))
    (encode_field (codes "committer") (encode_owned_actor commit.committer)) (rest_written encoding owned_header headers message)
owned_commit_in_parts commit parents encoding headers message one two three four =
    record { joined = rw (one, two, three, four) (encode_owned_commit_in_parts commit) }

-- an author is rejected after the ids
pub owned_commit_error_of_author : (commit : Commit) (parents : List ObjectId) (value : RejectedValue) (parts : List ℕ) → parents ≡ commit.parents.items
    → IsActorFieldError (codes "author") commit.author value parts
    → IsOwnedCommitError commit value (ids_written commit.tree owned_parent parents ++ parts)
owned_commit_error_of_author commit parents value parts one (illegal, is, name) =
    inl (
      illegal,
      is,
      rw (name, one) (sym (append_assoc (ids_written commit.tree owned_parent commit.parents.items) (codes "author") (32 ∷ []))
          ∙ ap (λ (it : List ℕ). (it ++ codes "author") ++ 32 ∷ []) (sym (encode_ids_of_owned commit))),
    )

-- a committer is rejected after the author
pub owned_commit_error_of_committer : (commit : Commit) (parents : List ObjectId) (value : RejectedValue) (parts : List ℕ) → parents ≡ commit.parents.items
    → IsLegal commit.author
    → IsActorFieldError (codes "committer") commit.committer value parts
    → IsOwnedCommitError commit value
    ((ids_written commit.tree owned_parent parents ++ encode_field (codes "author") (encode_owned_actor commit.author))
    ++ parts)
owned_commit_error_of_committer commit parents value parts one legal (illegal, is, name) =
    let author = encode_field (codes "author") (encode_owned_actor commit.author) in
    inr (
    inl (
      legal,
      illegal,
      is,
      rw (name, one) (sym (append_assoc (ids_written commit.tree owned_parent commit.parents.items ++ author) (codes "committer") (32 ∷ []))
          ∙ ap (λ (it : List ℕ). ((it ++ author) ++ codes "committer") ++ 32 ∷ []) (sym (encode_ids_of_owned commit))),
    )
    )

-- a message encoding is rejected after the committer
pub owned_commit_error_of_encoding : (commit : Commit) (parents : List ObjectId) (encoding : Option BStr) (value : RejectedValue) (parts : List ℕ)
    → parents ≡ commit.parents.items
    → bytes_if_some encoding ≡ owned_bytes_if_some commit.encoding → IsLegal commit.author → IsLegal commit.committer
    → IsEncodingLineError (bytes_if_some encoding) value parts
    → IsOwnedCommitError commit value
    (((ids_written commit.tree owned_parent parents ++ encode_field (codes "author") (encode_owned_actor commit.author)) ++ encode_field
    (codes "committer")
    (encode_owned_actor commit.committer)) ++ parts)
owned_commit_error_of_encoding commit parents encoding value parts one two author committer (rejected, nothing) =
    let prefix : List ℕ → List ℕ = λ it. (it ++ encode_field (codes "author") (encode_owned_actor commit.author)) ++ encode_field (codes "committer")
    (encode_owned_actor commit.committer) in
    inr (
    inr (
      author,
      committer,
      (
        subst (λ (it : Option (List ℕ)). IsMessageEncodingError it value) two rejected,
        rw (nothing, one) (append-nil (prefix (ids_written commit.tree owned_parent commit.parents.items)) ∙ ap prefix (sym (encode_ids_of_owned commit))),
      ),
    )
    )

pub owned_commit_rejects_nothing : (commit : Commit) (encoding : Option BStr) → bytes_if_some encoding ≡ owned_bytes_if_some commit.encoding
    → IsLegal commit.author
    → IsLegal commit.committer
    → RejectsNothing (IsEncodingLineError (bytes_if_some encoding)) → RejectsNothing (IsOwnedCommitError commit)
owned_commit_rejects_nothing commit encoding two author committer none value parts (inl it) = absurd (it.0 author)
owned_commit_rejects_nothing commit encoding two author committer none value parts (inr (inl it)) = absurd (it.1 committer)
owned_commit_rejects_nothing commit encoding two author committer none value parts (inr (inr it)) =
    none value [] (subst (λ (it : Option (List ℕ)). IsMessageEncodingError it value) (sym two) it.2.0, refl)

-- ---- room for the parts before a rejected value

-- the message encoding of a borrowed commit is rejected right after the committer
pub borrowed_commit_error_after : (commit : CommitRef) (id : ObjectId) (parents : List BStr) (author committer : List ℕ) (value : RejectedValue)
    (parts : List ℕ)
    → DecodesToId (bstr_bytes commit.tree) id → parents ≡ commit.parents.items → author ≡ bstr_bytes commit.author
    → committer ≡ bstr_bytes commit.committer → IsCommitLinesError (in_lower_case (commit_lines commit)) value parts
    → parts ≡ (ids_written id hex_parent parents ++ encode_field (codes "author") author) ++ encode_field (codes "committer") committer
borrowed_commit_error_after commit id parents author committer value parts spells one two three (rejected, after) =
    rw (one, two, three) (after ∙ borrowed_before_encoding_in_parts commit id spells)

-- the value that an owned commit rejects: its author after the ids, its committer after the author's line, or its message
-- encoding after the committer's line
pub owned_commit_error_cases : (commit : Commit) (parents : List ObjectId) (encoding : Option BStr) (value : RejectedValue) (parts : List ℕ)
    → parents ≡ commit.parents.items → bytes_if_some encoding ≡ owned_bytes_if_some commit.encoding → IsOwnedCommitError commit value parts
    → ((begun : List ℕ) × IsActorFieldError (codes "author") commit.author value begun
    × (parts ≡ ids_written commit.tree owned_parent parents ++ begun))
    ⊎ (((begun : List ℕ) × IsLegal commit.author × IsActorFieldError (codes "committer") commit.committer value begun
    × (parts ≡ (ids_written commit.tree owned_parent parents ++ encode_field (codes "author") (encode_owned_actor commit.author)) ++ begun))
    ⊎ (IsLegal commit.author × IsLegal commit.committer × IsEncodingLineError (bytes_if_some encoding) value []
    × (parts ≡ (ids_written commit.tree owned_parent parents ++ encode_field (codes "author") (encode_owned_actor commit.author))
    ++ encode_field (codes "committer") (encode_owned_actor commit.committer))))
owned_commit_error_cases commit parents encoding value parts one two (inl (illegal, is, after)) =
    inl (
      codes "author" ++ 32 ∷ [],
      (illegal, is, refl),
      rw one (after ∙ ap (λ (it : List ℕ). (it ++ codes "author") ++ 32 ∷ []) (encode_ids_of_owned commit)
          ∙ append_assoc (ids_written commit.tree owned_parent commit.parents.items) (codes "author") (32 ∷ [])),
    )
owned_commit_error_cases commit parents encoding value parts one two (inr (inl (legal, illegal, is, after))) =
    let author = encode_field (codes "author") (encode_owned_actor commit.author) in
    inr (inl (
      codes "committer" ++ 32 ∷ [],
      legal,
      (illegal, is, refl),
      rw one (after ∙ ap (λ (it : List ℕ). ((it ++ author) ++ codes "committer") ++ 32 ∷ []) (encode_ids_of_owned commit)
          ∙ append_assoc (ids_written commit.tree owned_parent commit.parents.items ++ author) (codes "committer") (32 ∷ [])),
    ))
owned_commit_error_cases commit parents encoding value parts one two (inr (inr (author, committer, (rejected, after)))) =
    inr (inr (
      author,
      committer,
      (subst (λ (it : Option (List ℕ)). IsMessageEncodingError it value) (sym two) rejected, refl),
      rw one (after ∙ ap (λ (it : List ℕ). (it ++ encode_field (codes "author") (encode_owned_actor commit.author)) ++ encode_field (codes "committer")
          (encode_owned_actor commit.committer)) (encode_ids_of_owned commit)),
    ))

-- nothing is rejected in the ids
pub owned_commit_error_after_ids : (commit : Commit) (parents : List ObjectId) (encoding : Option BStr) → parents ≡ commit.parents.items
    → bytes_if_some encoding ≡ owned_bytes_if_some commit.encoding → (value : RejectedValue) (parts : List ℕ) → IsOwnedCommitError commit value parts
    → length (ids_written commit.tree owned_parent parents) ≤ length parts
owned_commit_error_after_ids commit parents encoding one two value parts rejected =
    let ids = ids_written commit.tree owned_parent parents in
    let author = encode_field (codes "author") (encode_owned_actor commit.author) in
    let committer = encode_field (codes "committer") (encode_owned_actor commit.committer) in
    ⊎_elim (λ it. omega (arith, ap length it.2, length-append ids it.0))
    (⊎_elim (λ it. omega (arith, ap length it.3, length-append (ids ++ author) it.0, length-append ids author))
    (λ it. omega (arith, ap length it.3, length-append (ids ++ author) committer, length-append ids author)))
    (owned_commit_error_cases commit parents encoding value parts one two rejected)

-- after the ids, the rejected value is the author, or comes after the author's line
pub author_or_later : (commit : Commit) (parents : List ObjectId) (encoding : Option BStr) → parents ≡ commit.parents.items
    → bytes_if_some encoding ≡ owned_bytes_if_some commit.encoding → (value : RejectedValue) (parts : List ℕ) → IsOwnedCommitError commit value parts
    → ((begun : List ℕ) × IsActorFieldError (codes "author") commit.author value begun
    × (parts ≡ ids_written commit.tree owned_parent parents ++ begun))
    ⊎ (length (ids_written commit.tree owned_parent parents) + length (encode_field (codes "author") (encode_owned_actor commit.author)) ≤ length parts)
author_or_later commit parents encoding one two value parts rejected =
    let ids = ids_written commit.tree owned_parent parents in
    let author = encode_field (codes "author") (encode_owned_actor commit.author) in
    let committer = encode_field (codes "committer") (encode_owned_actor commit.committer) in
    ⊎_elim (λ it. inl it)
    (λ later. inr (⊎_elim (λ it. omega (arith, ap length it.3, length-append (ids ++ author) it.0, length-append ids author))
    (λ it. omega (arith, ap length it.3, length-append (ids ++ author) committer, length-append ids author)) later))
    (owned_commit_error_cases commit parents encoding value parts one two rejected)

-- after a legal author, the rejected value is the committer, or comes after the committer's line
pub committer_or_later : (commit : Commit) (parents : List ObjectId) (encoding : Option BStr) → parents ≡ commit.parents.items
    → bytes_if_some encoding ≡ owned_bytes_if_some commit.encoding → IsLegal commit.author → (value : RejectedValue) (parts : List ℕ)
    → IsOwnedCommitError commit value parts
    → ((begun : List ℕ) × IsActorFieldError (codes "committer") commit.committer value begun
    × (parts ≡ (ids_written commit.tree owned_parent parents ++ encode_field (codes "author") (encode_owned_actor commit.author)) ++ begun))
    ⊎ (length (ids_written commit.tree owned_parent parents ++ encode_field (codes "author") (encode_owned_actor commit.author))
    + length (encode_field (codes "committer") (encode_owned_actor commit.committer)) ≤ length parts)
committer_or_later commit parents encoding one two legal value parts rejected =
    let ids = ids_written commit.tree owned_parent parents in
    let author = encode_field (codes "author") (encode_owned_actor commit.author) in
    let committer = encode_field (codes "committer") (encode_owned_actor commit.committer) in
    ⊎_elim (λ it. absurd (it.1.0 legal))
    (⊎_elim (λ it. inl (it.0, it.2, it.3)) (λ it. inr (omega (arith, ap length it.3, length-append (ids ++ author) committer))))
    (owned_commit_error_cases commit parents encoding value parts one two rejected)

-- after legal actors, the rejected value is the message encoding
pub encoding_or_later : (commit : Commit) (parents : List ObjectId) (encoding : Option BStr) (rest : List ℕ) → parents ≡ commit.parents.items
    → bytes_if_some encoding ≡ owned_bytes_if_some commit.encoding → IsLegal commit.author → IsLegal commit.committer
    → (value : RejectedValue) (parts : List ℕ) → IsOwnedCommitError commit value parts
    → ((begun : List ℕ) × IsEncodingLineError (bytes_if_some encoding) value begun
    × (parts ≡ ((ids_written commit.tree owned_parent parents ++ encode_field (codes "author") (encode_owned_actor commit.author))
    ++ encode_field (codes "committer") (encode_owned_actor commit.committer)) ++ begun))
    ⊎ (length ((ids_written commit.tree owned_parent parents ++ encode_field (codes "author") (encode_owned_actor commit.author))
    ++ encode_field (codes "committer") (encode_owned_actor commit.committer)) + length rest ≤ length parts)
encoding_or_later commit parents encoding rest one two author committer value parts rejected =
    ⊎_elim (λ it. absurd (it.1.0 author))
    (⊎_elim (λ it. absurd (it.2.0 committer)) (λ it. inl ([], it.2, it.3 ∙ sym (append-nil _))))
    (owned_commit_error_cases commit parents encoding value parts one two rejected)
