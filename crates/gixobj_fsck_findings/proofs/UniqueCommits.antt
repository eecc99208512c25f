-- The findings about a commit are unique.
use Rattle.std.proofs.Common.{◌≡◌, [], ℕ, List, Some, None, inl, inr, refl, sym, ap, subst, ◌∙◌}
use Rattle.std.specs.Prelude.{Option, codes}
use Rattle.gixobj_hash.specs.HeaderFormat.{BeginsWithOtherName}
use Rattle.gixobj_hash.specs.ByteStrings.{IsByteFree}
use Rattle.gixobj_hash.specs.declared.hash.kind.Kind.{Kind}
use Rattle.gixobj_hash.proofs.Splits.{no_split_of_byte_free}
use Rattle.gixobj_parse.specs.HeaderReading.{BeginsWithNoIdField}
use Rattle.gixobj_parse.proofs.HeaderFields.{field_unique}
use Rattle.gixobj_fsck.specs.Lines.{BeginsWithName, IdLine}
use Rattle.gixobj_fsck.proofs.Outcomes.{id_line_deterministic, name_of_id_field}
use Rattle.gixobj_fsck_messages.specs.declared.finding.Finding.{Finding}
use Rattle.gixobj_fsck_messages.specs.declared.message.Message.{Message}
use Rattle.gixobj_fsck_messages.specs.declared.message.Message.TheVariants as message
use Rattle.gixobj_fsck_messages.specs.declared.severity.Severity.{Severity}
use Rattle.gixobj_fsck_findings.specs.Checks.{AndThen, EndsAtFault, IsDeterministicCheck, listed, offset_of}
use Rattle.gixobj_fsck_findings.specs.CommitChecks.{AreCommitFindings, AuthorCheck, AuthorLines, AuthorsCheck, CommitCheck, CommitterCheck, FollowsParents}
use Rattle.gixobj_fsck_findings.specs.CommitChecks.{MoreAuthorsCheck, ParentsCheck, PeopleCheck, ZeroCheck, last_author, next_author, next_parent, no_author}
use Rattle.gixobj_fsck_findings.specs.CommitChecks.{no_parent}
use Rattle.gixobj_fsck_findings.specs.LineChecks.{HeaderCheck, IsFirstByteAt}
use Rattle.gixobj_fsck_findings.proofs.Unique.{actor_line_check_deterministic, and_then_deterministic, ends_deterministic, first_byte_unique}
use Rattle.gixobj_fsck_findings.proofs.Unique.{header_check_deterministic, same_rest_after}

-- a line that doesn't begin with a name has no id of this name
no_id_of_other : (kind : Kind) (line : List ℕ) → BeginsWithOtherName (codes "parent") line → BeginsWithNoIdField (codes "parent") kind line
no_id_of_other kind line other hex rest field =
    let named = name_of_id_field (codes "parent") kind line hex rest field in other named.0 named.1

-- the lines of parents end at one line
parents_end : (kind : Kind) (input a b : List ℕ) → FollowsParents kind input a → BeginsWithNoIdField (codes "parent") kind a
    → FollowsParents kind input b → BeginsWithNoIdField (codes "parent") kind b → a ≡ b
parents_end kind input _ _ (no_parent _) none_a (no_parent _) none_b = refl
parents_end kind input _ b (no_parent _) none_a (next_parent _ hex between _ field follows) none_b = absurd (none_a hex between field)
parents_end kind input a _ (next_parent _ hex between _ field follows) none_a (no_parent _) none_b = absurd (none_b hex between field)
parents_end kind input a b (next_parent _ hex between _ field follows) none_a (next_parent _ hex' between' _ field' follows') none_b =
    let same = (field_unique (codes "parent") input hex between hex' between' field.0 field'.0).1 in
    parents_end kind between a b follows none_a (subst (λ (i : List ℕ). FollowsParents kind i b) (sym same) follows') none_b

parents_deterministic : (severity : Message → Severity) (kind : Kind) (object : List ℕ) → IsDeterministicCheck (ParentsCheck severity kind object)
parents_deterministic severity kind object input before one other x y (line, f, inl a) (line', f', inl b) =
    let same = parents_end kind input line line' f (no_id_of_other kind line a.0) f' (no_id_of_other kind line' b.0) in
    (a.1 ∙ sym b.1, a.2 ∙ ap Some same ∙ sym b.2)
parents_deterministic severity kind object input before one other x y (line, f, inl a) (line', f', inr b) =
    let same = parents_end kind input line line' f (no_id_of_other kind line a.0) f' b.1 in
    let named = subst (λ (i : List ℕ). BeginsWithName (codes "parent") i) (sym same) b.0 in absurd (a.0 named.0 named.1)
parents_deterministic severity kind object input before one other x y (line, f, inr a) (line', f', inl b) =
    let same = parents_end kind input line line' f a.1 f' (no_id_of_other kind line' b.0) in
    let named = subst (λ (i : List ℕ). BeginsWithName (codes "parent") i) same a.0 in absurd (b.0 named.0 named.1)
parents_deterministic severity kind object input before one other x y (line, f, inr a) (line', f', inr b) =
    let same = parents_end kind input line line' f a.1 f' b.1 in (
      a.2 ∙ ap (λ (i : List ℕ). listed severity message.BadParentSha1 (offset_of object i) before) same ∙ sym b.2,
      a.3 ∙ sym b.3,
    )

-- ---- authors

author_deterministic : (severity : Message → Severity) (object : List ℕ) → IsDeterministicCheck (AuthorCheck severity object)
author_deterministic severity object = actor_line_check_deterministic severity object (codes "author")

author_lines_deterministic : (severity : Message → Severity) (object input : List ℕ) (before one other : List Finding) (x y : Option (List ℕ))
    → AuthorLines severity object input before one x → AuthorLines severity object input before other y → (one ≡ other) × (x ≡ y)
author_lines_deterministic severity object input before _ _ _ _ (no_author _ _ lacks) (no_author _ _ lacks') = (refl, refl)
author_lines_deterministic severity object input before _ _ _ _ (no_author _ _ lacks) (last_author _ _ _ line) = absurd (lacks line.0 line.1)
author_lines_deterministic severity object input before _ _ _ _ (no_author _ _ lacks) (next_author _ between _ middle _ _ line more) =
    absurd (lacks line.0 line.1)
author_lines_deterministic severity object input before _ _ _ _ (last_author _ _ _ line) (no_author _ _ lacks) = absurd (lacks line.0 line.1)
author_lines_deterministic severity object input before one other _ _ (last_author _ _ _ line) (last_author _ _ _ line') =
    ((author_deterministic severity object input before one other None None line line').0, refl)
author_lines_deterministic severity object input before one _ _ _ (last_author _ _ _ line) (next_author _ between _ middle _ _ line' more) =
    let e = (author_deterministic severity object input before one middle None (Some between) line line').1 in absurd (cc e)
author_lines_deterministic severity object input before _ _ _ _ (next_author _ between _ middle _ _ line more) (no_author _ _ lacks) =
    absurd (lacks line.0 line.1)
author_lines_deterministic severity object input before _ other _ _ (next_author _ between _ middle _ _ line more) (last_author _ _ _ line') =
    let e = (author_deterministic severity object input before middle other (Some between) None line line').1 in absurd (cc e)
author_lines_deterministic severity object input before one other x y (next_author _ between _ middle _ _ line more)
    (next_author _ between' _ middle' _ _ line' more') =
    let e = author_deterministic severity object input before middle middle' (Some between) (Some between') line line' in
    let rests = e.1 in
    let at : between ≡ between' = cc rests in
    author_lines_deterministic severity object between middle one other x y more
    (subst (λ (m : List Finding). AuthorLines severity object between m other y) (sym e.0)
    (subst (λ (i : List ℕ). AuthorLines severity object i middle' other y) (sym at) more'))

more_authors_deterministic : (severity : Message → Severity) (object : List ℕ) → IsDeterministicCheck (MoreAuthorsCheck severity object)
more_authors_deterministic severity object input before one other x y (inl a) (inl b) = (a.1 ∙ sym b.1, a.2 ∙ sym b.2)
more_authors_deterministic severity object input before one other x y (inl a) (inr (inl b)) = absurd (a.0 b.0.0 b.0.1)
more_authors_deterministic severity object input before one other x y (inl a) (inr (inr b)) = absurd (a.0 b.2.0 b.2.1)
more_authors_deterministic severity object input before one other x y (inr (inl a)) (inl b) = absurd (b.0 a.0.0 a.0.1)
more_authors_deterministic severity object input before one other x y (inr (inl a)) (inr (inl b)) =
    ((author_lines_deterministic severity object input before one other None None a.1 b.1).0, a.2 ∙ sym b.2)
more_authors_deterministic severity object input before one other x y (inr (inl a)) (inr (inr b)) =
    let e = (author_lines_deterministic severity object input before one b.1 None (Some b.0) a.1 b.3).1 in absurd (cc e)
more_authors_deterministic severity object input before one other x y (inr (inr a)) (inl b) = absurd (b.0 a.2.0 a.2.1)
more_authors_deterministic severity object input before one other x y (inr (inr a)) (inr (inl b)) =
    let e = (author_lines_deterministic severity object input before a.1 other (Some a.0) None a.3 b.1).1 in absurd (cc e)
more_authors_deterministic severity object input before one other x y (inr (inr a)) (inr (inr b)) =
    let e = author_lines_deterministic severity object input before a.1 b.1 (Some a.0) (Some b.0) a.3 b.3 in
    let rests = e.1 in
    let at : a.0 ≡ b.0 = cc rests in (
      a.4 ∙ ap (λ (m : List Finding). listed severity message.MultipleAuthors (offset_of object input) m) e.0 ∙ sym b.4,
      a.5 ∙ same_rest_after severity message.MultipleAuthors message.MultipleAuthors a.0 b.0 refl at ∙ sym b.5,
    )

authors_deterministic : (severity : Message → Severity) (object : List ℕ) → IsDeterministicCheck (AuthorsCheck severity object)
authors_deterministic severity object input before one other x y (inl a) (inl b) = (a.1 ∙ sym b.1, a.2 ∙ sym b.2)
authors_deterministic severity object input before one other x y (inl a) (inr (inl b)) = absurd (a.0 b.0.0 b.0.1)
authors_deterministic severity object input before one other x y (inl a) (inr (inr b)) = absurd (a.0 b.2.0 b.2.1)
authors_deterministic severity object input before one other x y (inr (inl a)) (inl b) = absurd (b.0 a.0.0 a.0.1)
authors_deterministic severity object input before one other x y (inr (inr a)) (inl b) = absurd (b.0 a.2.0 a.2.1)
authors_deterministic severity object input before one other x y (inr a) (inr b) =
    and_then_deterministic (AuthorCheck severity object) (MoreAuthorsCheck severity object) (author_deterministic severity object)
    (more_authors_deterministic severity object) input before one other x y a b

-- ---- the committer and zero bytes

committer_deterministic : (severity : Message → Severity) (object : List ℕ) → IsDeterministicCheck (CommitterCheck severity object)
committer_deterministic severity object input before one other x y (inl a) (inl b) = (a.1 ∙ sym b.1, a.2 ∙ sym b.2)
committer_deterministic severity object input before one other x y (inl a) (inr b) = absurd (a.0 b.0 b.1)
committer_deterministic severity object input before one other x y (inr a) (inl b) = absurd (b.0 a.0 a.1)
committer_deterministic severity object input before one other x y (inr a) (inr b) =
    actor_line_check_deterministic severity object (codes "committer") input before one other x y a b

-- a byte with a first occurrence occurs
occurs : (object : List ℕ) (offset : ℕ) → IsByteFree 0 object → IsFirstByteAt 0 object offset → ⊥
occurs object offset free first = no_split_of_byte_free 0 first.0 first.1 (subst (IsByteFree 0) first.2.joined free)

zero_deterministic : (severity : Message → Severity) (object : List ℕ) → IsDeterministicCheck (ZeroCheck severity object)
zero_deterministic severity object input before one other x y (e, inl a) (e', inl b) = (a.1 ∙ sym b.1, e ∙ sym e')
zero_deterministic severity object input before one other x y (e, inl a) (e', inr b) = absurd (occurs object b.0 a.0 b.1)
zero_deterministic severity object input before one other x y (e, inr a) (e', inl b) = absurd (occurs object a.0 b.0 a.1)
zero_deterministic severity object input before one other x y (e, inr a) (e', inr b) =
    let same = first_byte_unique 0 object a.0 b.0 a.1 b.1 in
    (a.2 ∙ ap (λ (n : ℕ). listed severity message.NulInCommit n before) same ∙ sym b.2, e ∙ sym e')

-- ---- commits

pub commit_check_deterministic : (severity : Message → Severity) (kind : Kind) (object : List ℕ) → IsDeterministicCheck (CommitCheck severity kind object)
commit_check_deterministic severity kind object =
    and_then_deterministic (HeaderCheck severity)
    (AndThen (EndsAtFault severity object (IdLine (codes "tree") kind message.MissingTree message.BadTreeSha1))
    (AndThen (ParentsCheck severity kind object) (PeopleCheck severity object))) (header_check_deterministic severity)
    (and_then_deterministic (EndsAtFault severity object (IdLine (codes "tree") kind message.MissingTree message.BadTreeSha1))
    (AndThen (ParentsCheck severity kind object) (PeopleCheck severity object))
    (ends_deterministic severity object (IdLine (codes "tree") kind message.MissingTree message.BadTreeSha1)
    (id_line_deterministic (codes "tree") kind message.MissingTree message.BadTreeSha1))
    (and_then_deterministic (ParentsCheck severity kind object) (PeopleCheck severity object) (parents_deterministic severity kind object)
    (and_then_deterministic (AuthorsCheck severity object) (AndThen (CommitterCheck severity object) (ZeroCheck severity object))
    (authors_deterministic severity object)
    (and_then_deterministic (CommitterCheck severity object) (ZeroCheck severity object) (committer_deterministic severity object)
    (zero_deterministic severity object)))))

pub commit_findings_unique : (severity : Message → Severity) (kind : Kind) (commit : List ℕ) (one other : List Finding)
    → AreCommitFindings severity kind commit one → AreCommitFindings severity kind commit other → one ≡ other
commit_findings_unique severity kind commit one other first second =
    (commit_check_deterministic severity kind commit commit [] one other None None first second).0
