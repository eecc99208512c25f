-- The lines of a commit that `commit_node` reads one after the other are those that the bytes decode to.
use Rattle.std.proofs.Common.{◌≡◌, ◌≢◌, ◌∙◌, ℕ, All, List, [], ◌∷◌, ◌++◌, ap, append_assoc, arith, refl, subst, sym}
use Rattle.std.proofs.lemmas.List.{append-nil}
use Rattle.std.proofs.lemmas.List.Elements.{All-head, All-tail}
use Rattle.std.specs.List.{AllZip, flat_map}
use Rattle.std.specs.Prelude.{codes}
use Rattle.gixobj_hash.specs.ByteStrings.{IsByteFree}
use Rattle.gixobj_hash.specs.FieldFormat.{encode_field}
use Rattle.gixobj_hash.specs.Hash.{DecodesToId}
use Rattle.gixobj_hash.specs.Hash.Hex.{IsIdHexOfKind}
use Rattle.gixobj_hash.specs.HeaderFormat.{BeginsWithField}
use Rattle.gixobj_hash.specs.declared.hash.kind.Kind.{Kind}
use Rattle.gixobj_hash.specs.declared.hash.object_id.ObjectId.{ObjectId}
use Rattle.gixobj_parse.proofs.HeaderFields.{field_unique, first_bytes_eq, hex_digits_newline_free}
use Rattle.gixobj_parse.specs.HeaderReading.{BeginsWithIdField, BeginsWithNoIdField}
use Rattle.gixobj_actor.specs.Actor.{NamesActor}
use Rattle.gixobj_grammar.proofs.LinesYielded.{encode_fields_append_assoc}
use Rattle.gixobj_grammar.proofs.OneLine.{input_of_flat_field}
use Rattle.gixobj_grammar.specs.Commit.{CommitLines, DecodesToCommit, IsCommit, encode_encoding, encode_parent}
use Rattle.gixobj_walks_commits.specs.Nodes.{BeginsWithActors, IsNodeOf}
use Rattle.gixobj_walks_commits.specs.Seconds.{HasSeconds}
use Rattle.gixobj_walks_graph.specs.Graph.{NodeView}

-- ---- actors

pub author_begins : (input committer : List ℕ) → (it : BeginsWithActors input committer)
    → BeginsWithField (codes "author") input it.author (encode_field (codes "committer") committer ++ it.rest)
author_begins input committer it = record { joined = it.joined; one_line = it.author_line }

pub committer_follows : (input committer value rest : List ℕ) → (it : BeginsWithActors input committer) → BeginsWithField (codes "author") input value rest
    → BeginsWithField (codes "committer") rest committer it.rest
committer_follows input committer value rest it has =
    let same = field_unique (codes "author") input it.author (encode_field (codes "committer") committer ++ it.rest) value rest
    (author_begins input committer it) has in
    record { joined = sym same.1; one_line = it.committer_line }

pub seconds_of_committer : (input committer value rest line after : List ℕ) (seconds : ℕ) → BeginsWithActors input committer
    → BeginsWithField (codes "author") input value rest → BeginsWithField (codes "committer") rest line after → HasSeconds line seconds
    → HasSeconds committer seconds
seconds_of_committer input committer value rest line after seconds it has_author has_committer is =
    let same = field_unique (codes "committer") rest committer it.rest line after (committer_follows input committer value rest it has_author) has_committer in
    subst (λ (line : List ℕ). HasSeconds line seconds) (sym same.0) is

-- an author is no parent
no_parent_at_actors : (actors committer hex after : List ℕ) → BeginsWithActors actors committer → BeginsWithField (codes "parent") actors hex after → ⊥
no_parent_at_actors actors committer hex after it has =
    let same : 112 ≡ 97 = first_bytes_eq 112 97 _ _ (sym (input_of_flat_field (codes "parent") actors hex after has)
    ∙ input_of_flat_field (codes "author") actors it.author (encode_field (codes "committer") committer ++ it.rest) (author_begins actors committer it)) in
    absurd (omega (arith, same))

-- ---- parents

-- the first parents are read, and the others follow, before the actors
pub record ReadsParents (kind : Kind) (bytes rest : List ℕ) (ids : List ObjectId) : Type 0 where
  pub commit : CommitLines
  pub decodes : DecodesToCommit kind bytes commit
  pub read : List (List ℕ)
  pub remaining : List (List ℕ)
  pub parents : commit.parents ≡ read ++ remaining
  pub ids_read : AllZip DecodesToId read ids
  pub actors : List ℕ
  pub joined : rest ≡ flat_map encode_parent remaining ++ actors
  pub are_hex : All (IsIdHexOfKind kind) remaining
  pub begins : BeginsWithActors actors commit.committer

-- the lines of the actors, and what follows them
abbrev actors_of : CommitLines → List ℕ → List ℕ
actors_of commit headers = encode_field (codes "author") commit.author
    ++ (encode_field (codes "committer") commit.committer ++ (encode_encoding commit.encoding ++ (headers ++ 10 ∷ commit.message)))

actor_is_one_line : (line : List ℕ) → NamesActor line → IsByteFree 10 line
actor_is_one_line line (name, email, time, is) = is.one_line

actors_begin : (kind : Kind) (bytes : List ℕ) (commit : CommitLines) → (is : DecodesToCommit kind bytes commit)
    → BeginsWithActors (actors_of commit is.headers_encoding) commit.committer
actors_begin kind bytes commit is = record {
  author = commit.author;
  rest = encode_encoding commit.encoding ++ (is.headers_encoding ++ 10 ∷ commit.message);
  joined = refl;
  author_line = actor_is_one_line commit.author is.author;
  committer_line = actor_is_one_line commit.committer is.committer;
}

-- the tree comes first
tree_comes_first : (kind : Kind) (bytes : List ℕ) (commit : CommitLines) → (is : DecodesToCommit kind bytes commit)
    → BeginsWithIdField (codes "tree") kind bytes commit.tree (flat_map encode_parent commit.parents ++ actors_of commit is.headers_encoding)
tree_comes_first kind bytes commit is = (
  record {
    joined = is.joined
        ∙ encode_fields_append_assoc commit.tree commit.author commit.committer is.headers_encoding commit.message commit.parents commit.encoding;
    one_line = hex_digits_newline_free commit.tree is.tree.1;
  },
  is.tree,
)

pub commit_has_tree : (kind : Kind) (bytes : List ℕ) → IsCommit kind bytes → BeginsWithNoIdField (codes "tree") kind bytes → ⊥
commit_has_tree kind bytes (commit, is) none = none commit.tree _ (tree_comes_first kind bytes commit is)

pub no_parent_is_read : (kind : Kind) (bytes hex rest : List ℕ) → IsCommit kind bytes → BeginsWithIdField (codes "tree") kind bytes hex rest
    → ReadsParents kind bytes rest []
no_parent_is_read kind bytes hex rest (commit, is) has =
    let comes = tree_comes_first kind bytes commit is in
    record {
      commit = commit;
      decodes = is;
      read = [];
      remaining = commit.parents;
      parents = refl;
      ids_read = tt;
      actors = actors_of commit is.headers_encoding;
      joined = sym (field_unique (codes "tree") bytes commit.tree _ hex rest comes.0 has.0).1;
      are_hex = is.parents;
      begins = actors_begin kind bytes commit is;
    }

parent_comes_first : (kind : Kind) (rest hex actors : List ℕ) (others : List (List ℕ)) → rest ≡ flat_map encode_parent (hex ∷ others) ++ actors
    → All (IsIdHexOfKind kind) (hex ∷ others) → BeginsWithIdField (codes "parent") kind rest hex (flat_map encode_parent others ++ actors)
parent_comes_first kind rest hex actors others joined are =
    let is : IsIdHexOfKind kind hex = All-head (IsIdHexOfKind kind) hex others are in (
      record {
        joined = joined ∙ append_assoc (encode_parent hex) (flat_map encode_parent others) actors;
        one_line = hex_digits_newline_free hex is.1;
      },
      is,
    )

next_parent : (kind : Kind) (rest hex after actors committer : List ℕ) (remaining : List (List ℕ)) → rest ≡ flat_map encode_parent remaining ++ actors
    → All (IsIdHexOfKind kind) remaining → BeginsWithActors actors committer → BeginsWithIdField (codes "parent") kind rest hex after
    → (others : List (List ℕ)) × (remaining ≡ hex ∷ others) × (after ≡ flat_map encode_parent others ++ actors)
next_parent kind rest hex after actors committer [] joined are begins has =
    let P : List ℕ → Type 0 = λ it. BeginsWithField (codes "parent") it hex after in
    absurd (no_parent_at_actors actors committer hex after begins (subst P joined has.0))
next_parent kind rest hex after actors committer (first ∷ others) joined are begins has =
    let comes = parent_comes_first kind rest first actors others joined are in
    let same = field_unique (codes "parent") rest first (flat_map encode_parent others ++ actors) hex after comes.0 has.0 in
    (others, ap (λ (it : List ℕ). it ∷ others) same.0, sym same.1)

no_parent_remains : (kind : Kind) (rest actors : List ℕ) (remaining : List (List ℕ)) → rest ≡ flat_map encode_parent remaining ++ actors
    → All (IsIdHexOfKind kind) remaining → BeginsWithNoIdField (codes "parent") kind rest → remaining ≡ []
no_parent_remains kind rest actors [] joined are none = refl
no_parent_remains kind rest actors (first ∷ others) joined are none =
    absurd (none first _ (parent_comes_first kind rest first actors others joined are))

all_zip_snoc : {A B : Type 0} (R : A → B → Type 0) (xs : List A) (ys : List B) (x : A) (y : B) → AllZip R xs ys → R x y
    → AllZip R (xs ++ x ∷ []) (ys ++ y ∷ [])
all_zip_snoc R [] [] x y zip is = (is, tt)
all_zip_snoc R [] (b ∷ ys) x y zip is = absurd zip
all_zip_snoc R (a ∷ xs) [] x y zip is = absurd zip
all_zip_snoc R (a ∷ xs) (b ∷ ys) x y zip is = (zip.0, all_zip_snoc R xs ys x y zip.1 is)

pub one_more_is_read : (kind : Kind) (bytes rest hex after : List ℕ) (ids : List ObjectId) (id : ObjectId) → ReadsParents kind bytes rest ids
    → BeginsWithIdField (codes "parent") kind rest hex after → DecodesToId hex id → ReadsParents kind bytes after (ids ++ id ∷ [])
one_more_is_read kind bytes rest hex after ids id reads has decodes =
    let next = next_parent kind rest hex after reads.actors reads.commit.committer reads.remaining reads.joined reads.are_hex reads.begins has in
    let P : List (List ℕ) → Type 0 = All (IsIdHexOfKind kind) in
    record {
      commit = reads.commit;
      decodes = reads.decodes;
      read = reads.read ++ hex ∷ [];
      remaining = next.0;
      parents = reads.parents ∙ ap (λ (it : List (List ℕ)). reads.read ++ it) next.1 ∙ sym (append_assoc reads.read (hex ∷ []) next.0);
      ids_read = all_zip_snoc DecodesToId reads.read ids hex id reads.ids_read decodes;
      actors = reads.actors;
      joined = next.2;
      are_hex = All-tail (IsIdHexOfKind kind) hex next.0 (subst P next.1 reads.are_hex);
      begins = reads.begins;
    }

-- a commit whose next parent is read has one
pub commit_has_parent : (kind : Kind) (bytes rest hex after : List ℕ) (ids : List ObjectId) → ReadsParents kind bytes rest ids
    → BeginsWithIdField (codes "parent") kind rest hex after
    → (commit : CommitLines) × DecodesToCommit kind bytes commit × (commit.parents ≢ [])
commit_has_parent kind bytes rest hex after ids reads has =
    let next = next_parent kind rest hex after reads.actors reads.commit.committer reads.remaining reads.joined reads.are_hex reads.begins has in
    let parents : reads.commit.parents ≡ reads.read ++ hex ∷ next.0 = reads.parents ∙ ap (λ (it : List (List ℕ)). reads.read ++ it) next.1 in
    (reads.commit, reads.decodes, λ none. cons_not_nil reads.read hex next.0 (sym parents ∙ none))
  where
    cons_not_nil : (before : List (List ℕ)) (hex : List ℕ) (others : List (List ℕ)) → before ++ hex ∷ others ≡ [] → ⊥
    cons_not_nil [] hex others same = cc same
    cons_not_nil (first ∷ before) hex others same = cc same

-- all parents are read
pub record ReadsAll (kind : Kind) (bytes rest : List ℕ) (ids : List ObjectId) : Type 0 where
  pub commit : CommitLines
  pub decodes : DecodesToCommit kind bytes commit
  pub parents : AllZip DecodesToId commit.parents ids
  pub begins : BeginsWithActors rest commit.committer

pub all_are_read : (kind : Kind) (bytes rest : List ℕ) (ids : List ObjectId) → ReadsParents kind bytes rest ids
    → BeginsWithNoIdField (codes "parent") kind rest → ReadsAll kind bytes rest ids
all_are_read kind bytes rest ids reads none =
    let ends = no_parent_remains kind rest reads.actors reads.remaining reads.joined reads.are_hex none in
    let same : reads.read ≡ reads.commit.parents =
    sym (reads.parents ∙ ap (λ (it : List (List ℕ)). reads.read ++ it) ends ∙ append-nil reads.read) in
    let here : reads.actors ≡ rest = sym (reads.joined ∙ ap (λ (it : List (List ℕ)). flat_map encode_parent it ++ reads.actors) ends) in
    record {
      commit = reads.commit;
      decodes = reads.decodes;
      parents = subst (λ (it : List (List ℕ)). AllZip DecodesToId it ids) same reads.ids_read;
      begins = subst (λ (it : List ℕ). BeginsWithActors it reads.commit.committer) here reads.begins;
    }

pub committer_begins : (kind : Kind) (bytes rest : List ℕ) (ids : List ObjectId) → ReadsParents kind bytes rest ids
    → BeginsWithNoIdField (codes "parent") kind rest → (committer : List ℕ) × BeginsWithActors rest committer
committer_begins kind bytes rest ids reads none = let all = all_are_read kind bytes rest ids reads none in (all.commit.committer, all.begins)

pub node_is_read : (kind : Kind) (bytes rest : List ℕ) (it : NodeView ObjectId) → ReadsParents kind bytes rest it.parents
    → BeginsWithNoIdField (codes "parent") kind rest
    → ((committer : List ℕ) → BeginsWithActors rest committer → HasSeconds committer it.seconds) → IsNodeOf kind bytes it
node_is_read kind bytes rest it reads none seconds =
    let all = all_are_read kind bytes rest it.parents reads none in
    record { commit = all.commit; decodes = all.decodes; parents = all.parents; seconds = seconds all.commit.committer all.begins }
