-- The actors of a step whose commit is encoded are legal, and the encoding decodes to the commit: for the encoding of a
-- step's commit and for its keeping.
use Rattle.std.proofs.Common.{◌≡◌, ◌≢◌, ◌⊎◌, inl, inr, ⊎_elim, ◌==◌, sym, subst, refl, ℕ, true, false, All, List, [], ◌∷◌, Option, Some, None, arith}
use Rattle.std.proofs.lemmas.Bool.Decides.{nat_tests}
use Rattle.std.proofs.lemmas.List.Elements.{All-cons, All-head, All-nil, All-tail}
use Rattle.std.specs.Prelude.{map}
use Rattle.bstr.specs.Owned.{bstring_bytes}
use Rattle.gixobj_actor.specs.Actor.{IsWritable}
use Rattle.gixobj_actor.specs.ActorWriting.{IsLegal, encode_owned_actor}
use Rattle.gixobj_actor.specs.declared.actor.Signature.{Signature}
use Rattle.gixobj_commit.specs.CommitViews.{owned_commit_lines}
use Rattle.gixobj_commit.specs.CommitWriting.{IsMessageEncodingError, IsOwnedCommitError, before_author, before_committer}
use Rattle.gixobj_commit.specs.declared.commit.Commit.{Commit}
use Rattle.gixobj_streams.specs.Writing.{RejectsNothing, illegal_actor}
use Rattle.gixobj_hash.specs.Hash.{encode_id_hex}
use Rattle.gixobj_hash.specs.Hash.Hex.{IsIdHexOfKind}
use Rattle.gixobj_hash.specs.declared.hash.kind.Kind as hash
use Rattle.gixobj_hash.specs.declared.hash.object_id.ObjectId.{ObjectId}
use Rattle.gixobj_grammar.specs.Commit.{CommitLines, DecodesToCommit}
use Rattle.gixobj_hash.specs.ByteStrings.{IsByteFree}
use Rattle.gixobj_editor_import.specs.Commits.{NamesSignature, SameActor, only_parent, step_commit, encode_step}
use Rattle.gixobj_editor_import.specs.Steps.{HaveHex}
use Rattle.gixobj_editor_import.specs.declared.import.Step.{Step}

byte_eq_or_ne : (byte other : ℕ) → (byte ≡ other) ⊎ (byte ≢ other)
byte_eq_or_ne byte other = elim (byte == other) as (λ b. (byte == other) ≡ b → (byte ≡ other) ⊎ (byte ≢ other)) [
  | true ↦ λ passes. inl (grind (arith, nat_tests, passes))
  | false ↦ λ fails. inr (λ same. grind (arith, nat_tests, fails, same))
] refl

byte_free_or_not : (byte : ℕ) (bytes : List ℕ) → IsByteFree byte bytes ⊎ ¬ (IsByteFree byte bytes)
byte_free_or_not byte [] = inl (All-nil (λ it. it ≢ byte))
byte_free_or_not byte (first ∷ bytes) =
    let P : ℕ → Type 0 = λ it. it ≢ byte in
    ⊎_elim (λ same. inr (λ free. All-head P first bytes free same))
    (λ other. ⊎_elim (λ free. inl (All-cons P first bytes other free)) (λ has. inr (λ free. has (All-tail P first bytes free))) (byte_free_or_not byte bytes))
    (byte_eq_or_ne first byte)

both_or_not : {A B : Type 0} → A ⊎ ¬ A → B ⊎ ¬ B → (A × B) ⊎ ¬ (A × B)
both_or_not (inl a) (inl b) = inl (a, b)
both_or_not (inl a) (inr never) = inr (λ it. never it.1)
both_or_not (inr never) b = inr (λ it. never it.0)

all_three_or_not : {A B C : Type 0} → A ⊎ ¬ A → B ⊎ ¬ B → C ⊎ ¬ C → (A × B × C) ⊎ ¬ (A × B × C)
all_three_or_not (inl a) (inl b) (inl c) = inl (a, b, c)
all_three_or_not (inl a) (inl b) (inr never) = inr (λ it. never it.2)
all_three_or_not (inl a) (inr never) c = inr (λ it. never it.1)
all_three_or_not (inr never) b c = inr (λ it. never it.0)

writable_or_not : (bytes : List ℕ) → IsWritable bytes ⊎ ¬ (IsWritable bytes)
writable_or_not bytes = all_three_or_not (byte_free_or_not 60 bytes) (byte_free_or_not 62 bytes) (byte_free_or_not 10 bytes)

legal_or_not : (actor : Signature) → IsLegal actor ⊎ ¬ (IsLegal actor)
legal_or_not actor = both_or_not (writable_or_not (bstring_bytes actor.name)) (writable_or_not (bstring_bytes actor.email))

is_legal_of_copy : (actor copy : Signature) → SameActor actor copy → IsLegal copy → IsLegal actor
is_legal_of_copy actor copy same legal = (subst IsWritable same.name legal.0, subst IsWritable same.email legal.1)

copy_is_legal : (actor copy : Signature) → SameActor actor copy → IsLegal actor → IsLegal copy
copy_is_legal actor copy same legal = (subst IsWritable (sym same.name) legal.0, subst IsWritable (sym same.email) legal.1)

-- both actors of an encoded commit can be encoded
actors_legal_of_no_error : (commit : Commit) → RejectsNothing (IsOwnedCommitError commit) → IsLegal commit.author × IsLegal commit.committer
actors_legal_of_no_error commit nothing =
    ⊎_elim
    (λ author. ⊎_elim (λ committer. (author, committer))
    (λ other. absurd (nothing illegal_actor (before_committer (owned_commit_lines commit)) (inr (inl (author, other, refl, refl)))))
    (legal_or_not commit.committer))
    (λ other. absurd (nothing illegal_actor (before_author (owned_commit_lines commit)) (inl (other, refl, refl))))
    (legal_or_not commit.author)

module _ (step : Step) (commit : Commit) (author : SameActor step.author commit.author) (committer : SameActor step.committer commit.committer) where
  pub actors_legal : RejectsNothing (IsOwnedCommitError commit) → IsLegal step.author × IsLegal step.committer
  actors_legal nothing =
      let legal = actors_legal_of_no_error commit nothing in
      (is_legal_of_copy step.author commit.author author legal.0, is_legal_of_copy step.committer commit.committer committer legal.1)

  pub actor_rejected : (tree : ObjectId) (parent : Option ObjectId) (parts : List ℕ) → owned_commit_lines commit ≡ step_commit step tree parent
      → IsOwnedCommitError commit illegal_actor parts → ¬ (IsLegal step.author) ⊎ ¬ (IsLegal step.committer)
  actor_rejected tree parent parts lines (inl (other, is, before)) = inl (λ legal. other (copy_is_legal step.author commit.author author legal))
  actor_rejected tree parent parts lines (inr (inl (legal, other, is, before))) = inr (λ it. other (copy_is_legal step.committer commit.committer committer it))
  actor_rejected tree parent parts lines (inr (inr (legal, other, rejected))) =
      absurd (subst (λ (it : CommitLines). IsMessageEncodingError it.encoding illegal_actor) lines rejected.0)

parents_are_id_hex_of_kind : (k : hash.Kind) (parent : Option ObjectId) → HaveHex k (only_parent parent)
    → All (IsIdHexOfKind k) (map encode_id_hex (only_parent parent))
parents_are_id_hex_of_kind k None all = All-nil (IsIdHexOfKind k)
parents_are_id_hex_of_kind k (Some id) all = let P : ObjectId → Type 0 = λ it. IsIdHexOfKind k (encode_id_hex it) in
    All-cons (IsIdHexOfKind k) (encode_id_hex id) []
    (All-head P id [] all) (All-nil (IsIdHexOfKind k))

-- the encoding of a step's commit decodes to the commit
pub encode_step_decodes : (k : hash.Kind) (step : Step) (tree : ObjectId) (parent : Option ObjectId)
    → NamesSignature (encode_owned_actor step.author) step.author → NamesSignature (encode_owned_actor step.committer) step.committer
    → HaveHex k (tree ∷ only_parent parent) → DecodesToCommit k (encode_step step tree parent) (step_commit step tree parent)
encode_step_decodes k step tree parent author committer hex =
    let P : ObjectId → Type 0 = λ it. IsIdHexOfKind k (encode_id_hex it) in
    record {
      headers_encoding = [];
      joined = refl;
      tree = All-head P tree (only_parent parent) hex;
      parents = parents_are_id_hex_of_kind k parent (All-tail P tree (only_parent parent) hex);
      author = (_, _, _, author);
      committer = (_, _, _, committer);
      encoding = tt;
      extra_headers = refl;
    }
