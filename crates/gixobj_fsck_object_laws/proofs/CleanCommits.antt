-- A clean commit decodes if and only if its times are plain, and headers, an empty line and a message follow.
use Rattle.std.proofs.Common.{◌≡◌, ◌≢◌, ◌↔◌, ◌||◌, ◌&&◌, ℕ, Bool, true, false, List, [], ◌∷◌, ◌++◌, All, Ok, inl, inr, refl, sym, ap, subst, ◌∙◌, arith}
use Rattle.std.proofs.Common.{append_assoc, append-nil}
use Rattle.std.specs.Prelude.{MatchBool, codes, nat_le}
use Rattle.std.specs.List.{AllPass, flat_map}
use Rattle.std.proofs.lemmas.Bool.Decides.{nat_tests}
use Rattle.std.proofs.lemmas.List.Elements.{All-cons, All-head, All-nil, All-tail}
use Rattle.gixobj_actor.specs.Actor.{IsActorLine, IsGap, NamesActor, is_time_byte}
use Rattle.gixobj_grammar.specs.Commit.{IsCommit, encode_encoding, encode_parent}
use Rattle.gixobj_hash.specs.FieldFormat.{encode_field}
use Rattle.gixobj_hash.specs.ByteStrings.{IsByteFree}
use Rattle.gixobj_hash.specs.Hash.Hex.{IsIdHexOfKind}
use Rattle.gixobj_hash.specs.HeaderFormat.{BeginsWithField, BeginsWithOtherName}
use Rattle.gixobj_hash.specs.declared.hash.kind.Kind.{Kind}
use Rattle.gixobj_hash.proofs.Splits.{last_split_unique}
use Rattle.gixobj_parse.proofs.HeaderFields.{field_unique, has_field_of_parts, hex_digits_newline_free}
use Rattle.gixobj_fsck.specs.Commits.{HasCommitMessage, IsCleanCommit, ParentLines, next_parent, no_parent}
use Rattle.gixobj_fsck.specs.Lines.{ActorLine}
use Rattle.gixobj_fsck.proofs.CommitOutcomes.{parents_deterministic}
use Rattle.gixobj_fsck_findings.proofs.CommitLists.{commit_lists}
use Rattle.gixobj_fsck_messages.specs.declared.message.Message.{Message}
use Rattle.gixobj_fsck_messages.specs.declared.message.Message.TheVariants as message
use Rattle.gixobj_fsck_messages.specs.declared.severity.Severity.{Severity}
use Rattle.gixobj_fsck_object_laws.specs.CleanCommits.{BeginsWithPeople, HasPlainLines, HasPlainTime, IsCleanIfNotFound, IsOtherWhite}
use Rattle.gixobj_fsck_object_laws.proofs.ActorLines.{SoundLine, actor_of_sound, free_of_tail, is_date_byte, last_of_sound, sound_line_of_actor}

-- ---- lines of actors

-- the line of an actor without a fault is a field
field_of_actor : (name : List ℕ) (missing : Message) (input rest : List ℕ) → ActorLine name missing input (Ok rest)
    → (line : List ℕ) × BeginsWithField name input line rest × SoundLine line
field_of_actor name missing input rest (actor, sound, is, part, follows) =
    let line = sound_line_of_actor actor sound rest part follows in
    (line.0, has_field_of_parts name input actor line.0 rest is line.1, line.2)

-- a plain byte of a date is of a time
time_of_date : (byte : ℕ) → is_date_byte byte ≡ true → byte ≢ 10 → (¬ IsOtherWhite byte) → is_time_byte byte ≡ true
time_of_date byte is other plain = go (is_time_byte byte) (nat_le 10 byte && nat_le byte 13) refl refl is
  where
    white : (nat_le 10 byte && nat_le byte 13) ≡ true → IsOtherWhite byte
    white between = (grind (arith, nat_tests, between, other), grind (arith, nat_tests, between))

    go : (time between : Bool) → is_time_byte byte ≡ time → (nat_le 10 byte && nat_le byte 13) ≡ between → (time || between) ≡ true
        → is_time_byte byte ≡ true
    go true between one two either = one
    go false true one two either = absurd (plain (white two))
    go false false one two either = absurd (cc either)

time_of_dates : (bytes : List ℕ) → AllPass is_date_byte bytes → IsByteFree 10 bytes → All (λ byte. ¬ IsOtherWhite byte) bytes → AllPass is_time_byte bytes
time_of_dates [] are free plain = All-nil (λ it. is_time_byte it ≡ true)
time_of_dates (byte ∷ bytes) are free plain =
    let P : ℕ → Type 0 = λ it. is_date_byte it ≡ true in
    let Q : ℕ → Type 0 = λ it. ¬ IsOtherWhite it in
    All-cons (λ it. is_time_byte it ≡ true) byte bytes
    (time_of_date byte (All-head P byte bytes are) (All-head (λ it. it ≢ 10) byte bytes free) (All-head Q byte bytes plain))
    (time_of_dates bytes (All-tail P byte bytes are) (All-tail (λ it. it ≢ 10) byte bytes free) (All-tail Q byte bytes plain))

-- the line of an actor without a fault is an actor if its time is plain
names_of_sound : (line : List ℕ) → SoundLine line → HasPlainTime line → NamesActor line
names_of_sound line it plain =
    let before = (it.name ++ 32 ∷ []) ++ 60 ∷ it.email in
    let joined : line ≡ before ++ 62 ∷ (32 ∷ it.date) = it.joined ∙ sym (append_assoc (it.name ++ 32 ∷ []) (60 ∷ it.email) (62 ∷ (32 ∷ it.date))) in
    let after = plain before (32 ∷ it.date) record { joined = joined; last = last_of_sound line it } in
    let free = free_of_tail (62 ∷ (32 ∷ [])) it.date (free_of_tail before (62 ∷ (32 ∷ it.date)) (subst (IsByteFree 10) joined it.one_line)) in
    let timed = time_of_dates it.date it.of_date free (All-tail (λ byte. ¬ IsOtherWhite byte) 32 it.date after) in
    (it.name, it.email, it.date, actor_of_sound line it it.date [] (sym (append-nil it.date)) timed tt)

-- ---- plain times of actors

plain_time : (bytes : List ℕ) → AllPass is_time_byte bytes → All (λ byte. ¬ IsOtherWhite byte) bytes
plain_time [] timed = All-nil (λ byte. ¬ IsOtherWhite byte)
plain_time (byte ∷ bytes) timed =
    let P : ℕ → Type 0 = λ it. is_time_byte it ≡ true in
    All-cons (λ it. ¬ IsOtherWhite it) byte bytes (other byte (All-head P byte bytes timed)) (plain_time bytes (All-tail P byte bytes timed))
  where
    other : (byte : ℕ) → is_time_byte byte ≡ true → ¬ IsOtherWhite byte
    other byte is white = grind (arith, nat_tests, is, white)

plain_gap : (gap time : List ℕ) → IsGap gap time → All (λ byte. ¬ IsOtherWhite byte) time → All (λ byte. ¬ IsOtherWhite byte) (gap ++ time)
plain_gap gap time (inl one) plain =
    let P : List ℕ → Type 0 = λ it. All (λ byte. ¬ IsOtherWhite byte) (it ++ time) in
    subst P (sym one) (All-cons (λ byte. ¬ IsOtherWhite byte) 32 time (λ white. omega (arith, white)) plain)
plain_gap gap time (inr none) plain =
    let P : List ℕ → Type 0 = λ it. All (λ byte. ¬ IsOtherWhite byte) (it ++ time) in subst P (sym none.0) plain

-- the line of an actor has a plain time
plain_of_actor : (line name email time : List ℕ) → IsActorLine line name email time [] → HasPlainTime line
plain_of_actor line name email time it before after split =
    let tail : it.gap ++ time ++ [] ≡ it.gap ++ time = append-nil (it.gap ++ time) in
    let joined : line ≡ (it.name_bytes ++ 60 ∷ email) ++ 62 ∷ (it.gap ++ time) = it.joined ∙ shuffle it.name_bytes it.gap in
    let same = last_split_unique 62 (it.name_bytes ++ 60 ∷ email) (it.gap ++ time) before after
    (subst (IsByteFree 62) tail it.last) split.last (sym joined ∙ split.joined) in
    let P : List ℕ → Type 0 = All (λ byte. ¬ IsOtherWhite byte) in
    subst P same.1 (plain_gap it.gap time (subst (IsGap it.gap) (append-nil time) it.spaced) (plain_time time it.timed))
  where
    nested : (named gap rest : List ℕ) → named ++ 60 ∷ (email ++ 62 ∷ (gap ++ (time ++ rest))) ≡ named ++ 60 ∷ email ++ 62 ∷ gap ++ time ++ rest
    nested named gap rest = simp append_assoc

    shuffle : (named gap : List ℕ) → named ++ 60 ∷ email ++ 62 ∷ gap ++ time ++ [] ≡ (named ++ 60 ∷ email) ++ 62 ∷ (gap ++ time)
    shuffle named gap = sym (nested named gap []) ∙ ap (λ (it : List ℕ). named ++ 60 ∷ (email ++ 62 ∷ (gap ++ it))) (append-nil time)
        ∙ sym (append_assoc named (60 ∷ email) (62 ∷ (gap ++ time)))

-- ---- the lines of a commit

-- lines of parents come before another line
parent_lines : (kind : Kind) (parents : List (List ℕ)) (rest : List ℕ) → All (IsIdHexOfKind kind) parents → BeginsWithOtherName (codes "parent") rest
    → ParentLines kind (flat_map encode_parent parents ++ rest) (Ok rest)
parent_lines kind [] rest are other = no_parent rest other
parent_lines kind (hex ∷ parents) rest are other =
    let hex_is = All-head (IsIdHexOfKind kind) hex parents are in
    next_parent (flat_map encode_parent (hex ∷ parents) ++ rest) hex (flat_map encode_parent parents ++ rest) (Ok rest)
    (record { joined = first hex parents; one_line = hex_digits_newline_free hex hex_is.1 }, hex_is)
    (parent_lines kind parents rest (All-tail (IsIdHexOfKind kind) hex parents are) other)
  where
    first : (hex : List ℕ) (parents : List (List ℕ))
        → flat_map encode_parent (hex ∷ parents) ++ rest ≡ encode_field (codes "parent") hex ++ (flat_map encode_parent parents ++ rest)
    first hex parents = simp append_assoc

-- the lines of a clean commit
pub record CleanLines (kind : Kind) (commit : List ℕ) : Type 0 where
  pub tree : List ℕ
  pub parents : List ℕ
  pub authors : List ℕ
  pub author : List ℕ
  pub committers : List ℕ
  pub committer : List ℕ
  pub rest : List ℕ
  pub tree_comes : BeginsWithField (codes "tree") commit tree parents
  pub is_tree : IsIdHexOfKind kind tree
  pub parents_come : ParentLines kind parents (Ok authors)
  pub author_comes : BeginsWithField (codes "author") authors author committers
  pub sound_author : SoundLine author
  pub committer_comes : BeginsWithField (codes "committer") committers committer rest
  pub sound_committer : SoundLine committer

lines_of_clean : (kind : Kind) (commit : List ℕ) → IsCleanCommit kind commit → CleanLines kind commit
lines_of_clean kind commit ((end, (b0, header, (b1, tree, (b2, parents, (b3, author, (b4, more, committer)))))), free) =
    let first = field_of_actor (codes "author") message.MissingAuthor b2 b3 author in
    let second = field_of_actor (codes "committer") message.MissingCommitter b4 end committer in
    record {
      tree = tree.0;
      parents = b1;
      authors = b2;
      author = first.0;
      committers = b3;
      committer = second.0;
      rest = end;
      tree_comes = subst (λ (it : List ℕ). BeginsWithField (codes "tree") it tree.0 b1) header.2 tree.1.0;
      is_tree = tree.1.1;
      parents_come = parents;
      author_comes = first.1;
      sound_author = first.2;
      committer_comes = subst (λ (it : List ℕ). BeginsWithField (codes "committer") it second.0 end) more.1 second.1;
      sound_committer = second.2;
    }

-- the ids of lines of parents
ids_of_parents : (kind : Kind) (input rest : List ℕ) → ParentLines kind input (Ok rest)
    → (parents : List (List ℕ)) × (input ≡ flat_map encode_parent parents ++ rest) × All (IsIdHexOfKind kind) parents
ids_of_parents kind input rest (no_parent _ other) = ([], refl, All-nil (IsIdHexOfKind kind))
ids_of_parents kind input rest (next_parent _ hex between _ begins more) =
    let it = ids_of_parents kind between rest more in (
      hex ∷ it.0,
      begins.0.joined ∙ ap (λ (it : List ℕ). encode_field (codes "parent") hex ++ it) it.1 ∙ next hex it.0,
      All-cons (IsIdHexOfKind kind) hex it.0 begins.1 it.2,
    )
  where
    next : (hex : List ℕ) (parents : List (List ℕ))
        → encode_field (codes "parent") hex ++ (flat_map encode_parent parents ++ rest) ≡ flat_map encode_parent (hex ∷ parents) ++ rest
    next hex parents = simp append_assoc

join_lines : (tree parents author committer rest : List ℕ)
    → tree ++ (parents ++ (author ++ (committer ++ rest))) ≡ tree ++ parents ++ author ++ committer ++ rest
join_lines tree parents author committer rest = simp append_assoc

-- a clean commit has lines of people
pub people_of_clean : (kind : Kind) (commit : List ℕ) → IsCleanCommit kind commit
    → (author committer rest : List ℕ) × BeginsWithPeople kind commit author committer rest
people_of_clean kind commit clean =
    let it = lines_of_clean kind commit clean in
    let ids = ids_of_parents kind it.parents it.authors it.parents_come in
    let tree_line = encode_field (codes "tree") it.tree in
    let id_lines = flat_map encode_parent ids.0 in
    let author_line = encode_field (codes "author") it.author in
    let committer_line = encode_field (codes "committer") it.committer in
    let all : commit ≡ tree_line ++ (id_lines ++ (author_line ++ (committer_line ++ it.rest))) =
    it.tree_comes.joined ∙ ap (λ (it : List ℕ). tree_line ++ it) (ids.1 ∙ ap (λ (it : List ℕ). id_lines ++ it) (it.author_comes.joined
    ∙ ap (λ (it : List ℕ). author_line ++ it) it.committer_comes.joined)) in (
      it.author,
      it.committer,
      it.rest,
      record {
        tree = it.tree;
        parents = ids.0;
        joined = all ∙ join_lines tree_line id_lines author_line committer_line it.rest;
        is_tree = it.is_tree;
        are_parents = ids.2;
        one_author = it.author_comes.one_line;
        one_committer = it.committer_comes.one_line;
      },
    )

-- lines of people in a clean commit are those without a fault
sound_people : (kind : Kind) (commit author committer rest : List ℕ) → CleanLines kind commit → BeginsWithPeople kind commit author committer rest
    → SoundLine author × SoundLine committer
sound_people kind commit author committer rest it has =
    let author_line = encode_field (codes "author") author in
    let committer_line = encode_field (codes "committer") committer in
    let id_lines = flat_map encode_parent has.parents in
    let tail = author_line ++ (committer_line ++ rest) in
    let tree : BeginsWithField (codes "tree") commit has.tree (id_lines ++ tail) =
    record {
      joined = has.joined ∙ sym (join_lines (encode_field (codes "tree") has.tree) id_lines author_line committer_line rest);
      one_line = hex_digits_newline_free has.tree has.is_tree.1;
    } in
    let first = field_unique (codes "tree") commit it.tree it.parents has.tree (id_lines ++ tail) it.tree_comes tree in
    let parents = parent_lines kind has.parents tail has.are_parents (no_parent_of_author author (committer_line ++ rest)) in
    let same : Ok it.authors ≡ Ok tail = parents_deterministic kind (id_lines ++ tail) (Ok it.authors) (Ok tail)
    (subst (λ (i : List ℕ). ParentLines kind i (Ok it.authors)) first.1 it.parents_come) parents in
    let second : it.authors ≡ tail = cc same in
    let field : BeginsWithField (codes "author") tail author (committer_line ++ rest) = record { joined = refl; one_line = has.one_author } in
    let third = field_unique (codes "author") tail it.author it.committers author (committer_line ++ rest)
    (subst (λ (i : List ℕ). BeginsWithField (codes "author") i it.author it.committers) second it.author_comes) field in
    let last : BeginsWithField (codes "committer") (committer_line ++ rest) committer rest = record { joined = refl; one_line = has.one_committer } in
    let fourth = field_unique (codes "committer") (committer_line ++ rest) it.committer it.rest committer rest
    (subst (λ (i : List ℕ). BeginsWithField (codes "committer") i it.committer it.rest) third.1 it.committer_comes) last in
    (subst SoundLine third.0 it.sound_author, subst SoundLine fourth.0 it.sound_committer)
  where
    no_parent_of_author : (author more : List ℕ) → BeginsWithOtherName (codes "parent") (encode_field (codes "author") author ++ more)
    no_parent_of_author author more after same = let first : ◌≡◌ {A = ℕ} 97 112 = cc same in omega (arith, first)

-- ---- both directions

-- a clean commit with plain lines is the encoding of a commit
commit_of_plain : (kind : Kind) (commit : List ℕ) → IsCleanCommit kind commit → HasPlainLines kind commit → IsCommit kind commit
commit_of_plain kind commit clean it =
    let sound = sound_people kind commit it.author it.committer it.rest (lines_of_clean kind commit clean) it.people in (
      record {
        tree = it.people.tree;
        parents = it.people.parents;
        author = it.author;
        committer = it.committer;
        encoding = it.ends.encoding;
        extra_headers = it.ends.headers;
        message = it.ends.message;
      },
      record {
        headers_encoding = it.ends.headers_encoding;
        joined = it.people.joined ∙ ap (λ (more : List ℕ). encode_field (codes "tree") it.people.tree ++ flat_map encode_parent it.people.parents
            ++ encode_field (codes "author") it.author ++ encode_field (codes "committer") it.committer ++ more) it.ends.joined
            ∙ shuffle (encode_field (codes "tree") it.people.tree) (flat_map encode_parent it.people.parents)
            (encode_field (codes "author") it.author) (encode_field (codes "committer") it.committer)
            (encode_encoding it.ends.encoding) it.ends.headers_encoding it.ends.message;
        tree = it.people.is_tree;
        parents = it.people.are_parents;
        author = names_of_sound it.author sound.0 it.plain_author;
        committer = names_of_sound it.committer sound.1 it.plain_committer;
        encoding = it.ends.is_encoding;
        extra_headers = it.ends.are_headers;
      },
    )
  where
    shuffle : (tree parents author committer encoding headers message : List ℕ)
        → tree ++ parents ++ author ++ committer ++ (encoding ++ headers ++ 10 ∷ message)
        ≡ (tree ++ parents ++ author ++ committer) ++ encoding ++ headers ++ 10 ∷ message
    shuffle tree parents author committer encoding headers message = simp append_assoc

-- the encoding of a commit has plain lines
plain_of_commit : (kind : Kind) (commit : List ℕ) → IsCommit kind commit → HasPlainLines kind commit
plain_of_commit kind commit (lines, it) = record {
  author = lines.author;
  committer = lines.committer;
  rest = encode_encoding lines.encoding ++ it.headers_encoding ++ 10 ∷ lines.message;
  people = record {
    tree = lines.tree;
    parents = lines.parents;
    joined = it.joined ∙ shuffle (encode_field (codes "tree") lines.tree) (flat_map encode_parent lines.parents)
        (encode_field (codes "author") lines.author) (encode_field (codes "committer") lines.committer)
        (encode_encoding lines.encoding) it.headers_encoding lines.message;
    is_tree = it.tree;
    are_parents = it.parents;
    one_author = it.author.3.one_line;
    one_committer = it.committer.3.one_line;
  };
  plain_author = plain_of_actor lines.author it.author.0 it.author.1 it.author.2 it.author.3;
  plain_committer = plain_of_actor lines.committer it.committer.0 it.committer.1 it.committer.2 it.committer.3;
  ends = record {
    encoding = lines.encoding;
    headers = lines.extra_headers;
    headers_encoding = it.headers_encoding;
    message = lines.message;
    joined = refl;
    is_encoding = it.encoding;
    are_headers = it.extra_headers;
  };
}
  where
    shuffle : (tree parents author committer encoding headers message : List ℕ)
        → (tree ++ parents ++ author ++ committer) ++ encoding ++ headers ++ 10 ∷ message
        ≡ tree ++ parents ++ author ++ committer ++ (encoding ++ headers ++ 10 ∷ message)
    shuffle tree parents author committer encoding headers message = simp append_assoc

-- a clean commit decodes if and only if its lines are plain
pub decodes_if_plain : (kind : Kind) (commit : List ℕ) → IsCleanCommit kind commit → IsCommit kind commit ↔ HasPlainLines kind commit
decodes_if_plain kind commit clean = (plain_of_commit kind commit, commit_of_plain kind commit clean)

-- a commit without findings is clean
pub clean_of_no_findings : (strict : Bool) (severity : Message → Severity) (kind : Kind) (commit : List ℕ) (clean : Bool)
    → MatchBool clean (IsCleanCommit kind commit) (HasCommitMessage kind commit) → IsCleanIfNotFound strict severity kind commit
clean_of_no_findings strict severity kind commit true is documented are = is
clean_of_no_findings strict severity kind commit false has documented are =
    let empty = (commit_lists strict severity kind commit documented [] are has.0).1 has.1 in absurd (omega (arith, empty.1))
