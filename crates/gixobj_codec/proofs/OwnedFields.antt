-- The fields of an owned commit that its encoder accepts are of one line: for `owned_commits_have_line_fields`.
use Rattle.std.proofs.Common.{◌≡◌, ◌≢◌, ◌∙◌, true, ap, inl, inr, refl, subst, sym, ℕ, List, [], ◌∷◌, All, Option, Some, None}
use Rattle.std.specs.Prelude.{Contains}
use Rattle.std.proofs.lemmas.Bool.{true≢false}
use Rattle.std.proofs.lemmas.List.Elements.{All-cons, All-head, All-map, All-nil, All-tail, Contains-get_or}
use Rattle.std.specs.List.{AllPass}
use Rattle.gixobj_actor.specs.ActorWriting.{IsLegal, encode_owned_actor}
use Rattle.gixobj_actor.specs.declared.actor.Signature.{Signature}
use Rattle.gixobj_commit.specs.CommitViews.{owned_commit_lines}
use Rattle.gixobj_commit.specs.CommitWriting.{IsMessageEncodingError, IsOwnedCommitError, before_author, before_committer}
use Rattle.gixobj_commit.specs.declared.commit.Commit.{Commit}
use Rattle.gixobj_streams.specs.Writing.{RejectedValue, RejectsNothing, header_with_newline, illegal_actor}
use Rattle.gixobj_hash.specs.Hash.{encode_id_hex, is_lower_hex_digit}
use Rattle.gixobj_grammar.specs.Commit.{before_encoding}
use Rattle.gixobj_hash.specs.Bytes.{greater_than, less_than, newline}
use Rattle.gixobj_hash.specs.Optional.{owned_bytes_if_some}
use Rattle.gixobj_hash.specs.ByteStrings.{IsByteFree}
use Rattle.gixobj_codec.specs.LineFields.{HasLineFields, IsOneLine}

-- ---- ids

lower_hex_digit_ne_newline : (byte : ℕ) → is_lower_hex_digit byte ≡ true → byte ≢ newline
lower_hex_digit_ne_newline byte digit same = true≢false (sym digit ∙ ap is_lower_hex_digit same)

pub digits_are_newline_free : (bytes : List ℕ) → AllPass is_lower_hex_digit bytes → IsByteFree newline bytes
digits_are_newline_free [] digits = All-nil (λ (it : ℕ). it ≢ newline)
digits_are_newline_free (byte ∷ bytes) digits =
    let P : ℕ → Type 0 = λ it. is_lower_hex_digit it ≡ true in
    All-cons (λ (it : ℕ). it ≢ newline) byte bytes (lower_hex_digit_ne_newline byte (All-head P byte bytes digits))
    (digits_are_newline_free bytes (All-tail P byte bytes digits))

-- ---- what the encoder accepts is legal

-- bytes are free of a byte if the opposite is refuted
byte_free_of_not_not : (byte : ℕ) (bytes : List ℕ) → ¬ ¬ IsByteFree byte bytes → IsByteFree byte bytes
byte_free_of_not_not byte [] denied = All-nil (λ (it : ℕ). it ≢ byte)
byte_free_of_not_not byte (first ∷ bytes) denied =
    let Other : ℕ → Type 0 = λ it. it ≢ byte in
    All-cons Other first bytes (λ same. denied (λ free. All-head Other first bytes free same))
    (byte_free_of_not_not byte bytes (λ not. denied (λ free. not (All-tail Other first bytes free))))

is_legal_of_not_not : (actor : Signature) → ¬ ¬ IsLegal actor → IsLegal actor
is_legal_of_not_not actor denied = (
  (
    byte_free_of_not_not less_than _ (λ not. denied (λ legal. not legal.0.0)),
    byte_free_of_not_not greater_than _ (λ not. denied (λ legal. not legal.0.1)),
    byte_free_of_not_not newline _ (λ not. denied (λ legal. not legal.0.2)),
  ),
  (
    byte_free_of_not_not less_than _ (λ not. denied (λ legal. not legal.1.0)),
    byte_free_of_not_not greater_than _ (λ not. denied (λ legal. not legal.1.1)),
    byte_free_of_not_not newline _ (λ not. denied (λ legal. not legal.1.2)),
  ),
)

byte_free_of_not_contains : (byte : ℕ) (bytes : List ℕ) → ¬ Contains bytes byte → IsByteFree byte bytes
byte_free_of_not_contains byte bytes none = λ k other within same. none (subst (λ (it : ℕ). Contains bytes it) same (Contains-get_or bytes k other within))

is_one_line_of_no_encoding_error : (encoding : Option (List ℕ)) → ((value : RejectedValue) → ¬ IsMessageEncodingError encoding value) → IsOneLine encoding
is_one_line_of_no_encoding_error None written = tt
is_one_line_of_no_encoding_error (Some encoding) written = byte_free_of_not_contains newline encoding
    (λ has. written (header_with_newline encoding) (inr (has, refl)))

-- ---- commits

pub owned_commit_has_line_fields : (commit : Commit) → IsByteFree newline (encode_id_hex commit.tree)
    → All (λ id. IsByteFree newline (encode_id_hex id)) commit.parents.items
    → (IsLegal commit.author → IsByteFree newline (encode_owned_actor commit.author))
    → (IsLegal commit.committer → IsByteFree newline (encode_owned_actor commit.committer)) → RejectsNothing (IsOwnedCommitError commit)
    → HasLineFields (owned_commit_lines commit)
owned_commit_has_line_fields commit tree parents author committer written =
    let lines = owned_commit_lines commit in
    let legal_author : IsLegal commit.author = is_legal_of_not_not commit.author (λ no. written illegal_actor (before_author lines) (inl (no, refl, refl))) in
    let legal_committer : IsLegal commit.committer =
    is_legal_of_not_not commit.committer (λ no. written illegal_actor (before_committer lines) (inr (inl (legal_author, no, refl, refl)))) in
    record {
      tree = tree;
      parents = All-map (λ (hex : List ℕ). IsByteFree newline hex) encode_id_hex commit.parents.items parents;
      author = author legal_author;
      committer = committer legal_committer;
      encoding = is_one_line_of_no_encoding_error (owned_bytes_if_some commit.encoding)
          (λ value rejected. written value (before_encoding lines) (inr (inr (legal_author, legal_committer, (rejected, refl)))));
    }
