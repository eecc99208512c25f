-- Without overrides the findings about a commit have the messages that git reports.
use Rattle.std.proofs.Common.{◌≡◌, ◌≢◌, ◌⊎◌, ◌∷◌, ◌++◌, [], ℕ, Bool, List, Ok, Err, Some, None, inl, inr, refl, sym, ap, subst, ◌∙◌, true, false}
use Rattle.std.specs.Prelude.{Contains, Option, Result, codes, if◌then◌else◌}
use Rattle.std.proofs.lemmas.List.Elements.{All-contains, Contains-append_left, Contains-append_right, Contains-push}
use Rattle.gixobj_hash.specs.declared.hash.kind.Kind.{Kind}
use Rattle.gixobj_fsck.specs.Commits.{CommitPart, IsCommitMessage, MoreAuthors, NoMoreAuthors, ParentLines, PeoplePart, bad_author, bad_parent}
use Rattle.gixobj_fsck.specs.Commits.{last_author as several, next_author as one_more, next_parent as one_parent, no_parent as no_line}
use Rattle.gixobj_fsck.specs.Headers.{HeaderPart}
use Rattle.gixobj_fsck.specs.Lines.{ActorLine, IdLine}
use Rattle.gixobj_fsck.specs.Steps.{Then}
use Rattle.gixobj_fsck.proofs.CommitMessages.{only_fault, only_zero}
use Rattle.gixobj_fsck_messages.specs.Severities.{documented_severity, is_reported}
use Rattle.gixobj_fsck_messages.specs.declared.finding.Finding.{Finding}
use Rattle.gixobj_fsck_messages.specs.declared.message.Message.{Message}
use Rattle.gixobj_fsck_messages.specs.declared.message.Message.TheVariants as message
use Rattle.gixobj_fsck_messages.specs.declared.severity.Severity.{Severity}
use Rattle.gixobj_fsck_findings.specs.Checks.{AndThen, EndsAtFault, HaveDocumentedSeverities, finding_of, listed, offset_of}
use Rattle.gixobj_fsck_findings.specs.CommitChecks.{AuthorCheck, AuthorLines, AuthorsCheck, CommitCheck, CommitterCheck, FollowsParents, HaveCommitMessages}
use Rattle.gixobj_fsck_findings.specs.CommitChecks.{MoreAuthorsCheck, ParentsCheck, PeopleCheck, ZeroCheck, last_author, next_author, next_parent, no_author}
use Rattle.gixobj_fsck_findings.specs.CommitChecks.{no_parent}
use Rattle.gixobj_fsck_findings.specs.LineChecks.{HeaderCheck, IsFirstByteAt}
use Rattle.gixobj_fsck_findings.proofs.Lists.{no_message_list, one_message_list}
use Rattle.gixobj_fsck_findings.proofs.Serious.{Follows, FollowsTo, IsSerious, actor_line_follows, and_then_follows, ends_follows, header_follows, last_follows}
use Rattle.gixobj_fsck_findings.proofs.Serious.{more_follows, serious_error, serious_list, serious_rest}

-- ---- ids and parents

tree_serious : (strict : Bool) (severity : Message → Severity) (kind : Kind) → HaveDocumentedSeverities strict severity → (input : List ℕ) (fault : Message)
    → IdLine (codes "tree") kind message.MissingTree message.BadTreeSha1 input (Err fault) → IsSerious severity fault
tree_serious strict severity kind documented input fault (inl a) = serious_error strict severity fault documented (ap documented_severity a.1)
tree_serious strict severity kind documented input fault (inr a) = serious_error strict severity fault documented (ap documented_severity a.2)

parents_lift : (kind : Kind) (input line : List ℕ) (outcome : Result (List ℕ) Message) → FollowsParents kind input line → ParentLines kind line outcome
    → ParentLines kind input outcome
parents_lift kind input _ outcome (no_parent _) lines = lines
parents_lift kind input line outcome (next_parent _ hex between _ field follows) lines =
    one_parent input hex between outcome field (parents_lift kind between line outcome follows lines)

parents_follow : (strict : Bool) (severity : Message → Severity) (kind : Kind) (object : List ℕ) → HaveDocumentedSeverities strict severity
    → Follows (ParentLines kind) (ParentsCheck severity kind object)
parents_follow strict severity kind object documented input before after outcome (line, follows, inl a) =
    inl (line, parents_lift kind input line (Ok line) follows (no_line line a.0), a.1, a.2)
parents_follow strict severity kind object documented input before after outcome (line, follows, inr a) =
    let serious = serious_error strict severity message.BadParentSha1 documented refl in
    inr (
      message.BadParentSha1,
      offset_of object line,
      parents_lift kind input line (Err message.BadParentSha1) follows (bad_parent line a.0 a.1),
      a.2 ∙ serious_list severity message.BadParentSha1 (offset_of object line) before serious,
      a.3,
    )

-- ---- authors

-- the lines of several authors end at the first fault, or are sound
author_lines_follow : (strict : Bool) (severity : Message → Severity) (object : List ℕ) → HaveDocumentedSeverities strict severity
    → (input : List ℕ) (before after : List Finding) (outcome : Option (List ℕ)) → AuthorLines severity object input before after outcome
    → ((rest : List ℕ) × MoreAuthors input message.MultipleAuthors × (after ≡ before) × (outcome ≡ Some rest))
    ⊎ ((fault : Message) × (offset : ℕ) × MoreAuthors input fault × (after ≡ before ++ finding_of fault offset ∷ []) × (outcome ≡ None))
author_lines_follow strict severity object documented input before _ _ (no_author _ _ lacks) = inl (input, several input lacks, refl, refl)
author_lines_follow strict severity object documented input before after _ (last_author _ _ _ line) =
    elim (actor_line_follows strict severity object (codes "author") message.MissingAuthor documented input before after None line) [
      | inl f ↦ let e = f.3 in absurd (cc e)
      | inr f ↦ elim f.2 [
        | inl a ↦ absurd (a.0 line.0 line.1)
        | inr a ↦ inr (f.0, f.1, bad_author input a.0 f.0 a.1 a.2, f.3, refl)
      ]
    ]
author_lines_follow strict severity object documented input before after outcome (next_author _ between _ middle _ _ line more) =
    elim (actor_line_follows strict severity object (codes "author") message.MissingAuthor documented input before middle (Some between) line) [
      | inl f ↦ let e = f.3 in let at : between ≡ f.0 = cc e in
          elim (author_lines_follow strict severity object documented between middle after outcome more) [
            | inl s ↦ inl (
              s.0,
              one_more input f.1.0 f.1.1 f.0 message.MultipleAuthors f.1.2 f.1.3 f.1.4
                  (subst (λ (i : List ℕ). MoreAuthors i message.MultipleAuthors) at s.1),
              s.2 ∙ f.2,
              s.3,
            )
            | inr s ↦ inr (
              s.0,
              s.1,
              one_more input f.1.0 f.1.1 f.0 s.0 f.1.2 f.1.3 f.1.4 (subst (λ (i : List ℕ). MoreAuthors i s.0) at s.2),
              s.3 ∙ ap (λ (m : List Finding). m ++ finding_of s.0 s.1 ∷ []) f.2,
              s.4,
            )
          ]
      | inr f ↦ let e = f.4 in absurd (cc e)
    ]

more_authors_follow : (strict : Bool) (severity : Message → Severity) (object : List ℕ) → HaveDocumentedSeverities strict severity
    → Follows NoMoreAuthors (MoreAuthorsCheck severity object)
more_authors_follow strict severity object documented input before after outcome (inl a) = inl (input, (a.0, refl), a.1, a.2)
more_authors_follow strict severity object documented input before after outcome (inr (inl a)) =
    elim (author_lines_follow strict severity object documented input before after None a.1) [
      | inl f ↦ let e = f.3 in absurd (cc e)
      | inr f ↦ inr (f.0, f.1, (a.0, f.2), f.3, a.2)
    ]
more_authors_follow strict severity object documented input before after outcome (inr (inr a)) =
    let serious = serious_error strict severity message.MultipleAuthors documented refl in
    elim (author_lines_follow strict severity object documented input before a.1 (Some a.0) a.3) [
      | inl f ↦ inr (
        message.MultipleAuthors,
        offset_of object input,
        (a.2, f.1),
        a.4 ∙ serious_list severity message.MultipleAuthors (offset_of object input) a.1 serious
            ∙ ap (λ (m : List Finding). m ++ finding_of message.MultipleAuthors (offset_of object input) ∷ []) f.2,
        a.5 ∙ serious_rest severity message.MultipleAuthors a.0 serious,
      )
      | inr f ↦ let e = f.4 in absurd (cc e)
    ]

authors_follow : (strict : Bool) (severity : Message → Severity) (object : List ℕ) → HaveDocumentedSeverities strict severity
    → Follows (Then (ActorLine (codes "author") message.MissingAuthor) NoMoreAuthors) (AuthorsCheck severity object)
authors_follow strict severity object documented input before after outcome (inl a) =
    let serious = serious_error strict severity message.MissingAuthor documented refl in
    inr (
      message.MissingAuthor,
      offset_of object input,
      inl (inl (a.0, refl)),
      a.1 ∙ serious_list severity message.MissingAuthor (offset_of object input) before serious,
      a.2 ∙ serious_rest severity message.MissingAuthor input serious,
    )
authors_follow strict severity object documented input before after outcome (inr a) =
    and_then_follows (ActorLine (codes "author") message.MissingAuthor) NoMoreAuthors (AuthorCheck severity object) (MoreAuthorsCheck severity object)
    (actor_line_follows strict severity object (codes "author") message.MissingAuthor documented)
    (more_authors_follow strict severity object documented) input before after outcome a

committer_follows : (strict : Bool) (severity : Message → Severity) (object : List ℕ) → HaveDocumentedSeverities strict severity
    → Follows (ActorLine (codes "committer") message.MissingCommitter) (CommitterCheck severity object)
committer_follows strict severity object documented input before after outcome (inl a) =
    let serious = serious_error strict severity message.MissingCommitter documented refl in
    inr (
      message.MissingCommitter,
      offset_of object input,
      inl (a.0, refl),
      a.1 ∙ serious_list severity message.MissingCommitter (offset_of object input) before serious,
      a.2,
    )
committer_follows strict severity object documented input before after outcome (inr a) =
    actor_line_follows strict severity object (codes "committer") message.MissingCommitter documented input before after outcome a

-- ---- commits

-- the author and no further author, and then the committer
people_of_lines : (input : List ℕ) (outcome : Result (List ℕ) Message)
    → Then (Then (ActorLine (codes "author") message.MissingAuthor) NoMoreAuthors) (ActorLine (codes "committer") message.MissingCommitter) input outcome
    → Then (ActorLine (codes "author") message.MissingAuthor) (Then NoMoreAuthors (ActorLine (codes "committer") message.MissingCommitter)) input outcome
people_of_lines input (Ok rest) (b, (a, x, y), z) = (a, x, (b, y, z))
people_of_lines input (Err fault) (inl (inl e)) = inl e
people_of_lines input (Err fault) (inl (inr (a, x, e))) = inr (a, x, inl e)
people_of_lines input (Err fault) (inr (b, (a, x, y), e)) = inr (a, x, inr (b, y, e))

people_follow : (strict : Bool) (severity : Message → Severity) (object : List ℕ) → HaveDocumentedSeverities strict severity
    → FollowsTo (ZeroCheck severity object)
    (Then (ActorLine (codes "author") message.MissingAuthor) (Then NoMoreAuthors (ActorLine (codes "committer") message.MissingCommitter)))
    (PeopleCheck severity object)
people_follow strict severity object documented input before after here =
    elim (more_follows (ZeroCheck severity object) (Then (ActorLine (codes "author") message.MissingAuthor) NoMoreAuthors)
    (ActorLine (codes "committer") message.MissingCommitter) (AuthorsCheck severity object)
    (AndThen (CommitterCheck severity object) (ZeroCheck severity object)) (authors_follow strict severity object documented)
    (last_follows (ZeroCheck severity object) (ActorLine (codes "committer") message.MissingCommitter) (CommitterCheck severity object)
    (committer_follows strict severity object documented)) input before after here) [
      | inl f ↦ inl (f.0, people_of_lines input (Ok f.0) f.1, f.2)
      | inr f ↦ inr (f.0, f.1, people_of_lines input (Err f.0) f.2, f.3)
    ]

commit_follows : (strict : Bool) (severity : Message → Severity) (kind : Kind) (object : List ℕ) → HaveDocumentedSeverities strict severity
    → FollowsTo (ZeroCheck severity object) (CommitPart kind) (CommitCheck severity kind object)
commit_follows strict severity kind object documented =
    more_follows (ZeroCheck severity object) HeaderPart (Then (IdLine (codes "tree") kind message.MissingTree message.BadTreeSha1) (PeoplePart kind))
    (HeaderCheck severity)
    (AndThen (EndsAtFault severity object (IdLine (codes "tree") kind message.MissingTree message.BadTreeSha1))
    (AndThen (ParentsCheck severity kind object) (PeopleCheck severity object)))
    (header_follows strict severity documented)
    (more_follows (ZeroCheck severity object) (IdLine (codes "tree") kind message.MissingTree message.BadTreeSha1) (PeoplePart kind)
    (EndsAtFault severity object (IdLine (codes "tree") kind message.MissingTree message.BadTreeSha1))
    (AndThen (ParentsCheck severity kind object) (PeopleCheck severity object))
    (ends_follows severity object (IdLine (codes "tree") kind message.MissingTree message.BadTreeSha1)
    (tree_serious strict severity kind documented))
    (more_follows (ZeroCheck severity object) (ParentLines kind)
    (Then (ActorLine (codes "author") message.MissingAuthor) (Then NoMoreAuthors (ActorLine (codes "committer") message.MissingCommitter)))
    (ParentsCheck severity kind object) (PeopleCheck severity object) (parents_follow strict severity kind object documented)
    (people_follow strict severity object documented)))

-- ---- the set

zero_reported : (strict : Bool) (severity : Message → Severity) (offset : ℕ) → HaveDocumentedSeverities strict severity
    → listed severity message.NulInCommit offset [] ≡ finding_of message.NulInCommit offset ∷ []
zero_reported true severity offset documented =
    ap (λ (s : Severity). if is_reported s then finding_of message.NulInCommit offset ∷ [] else []) (documented message.NulInCommit)
zero_reported false severity offset documented =
    ap (λ (s : Severity). if is_reported s then finding_of message.NulInCommit offset ∷ [] else []) (documented message.NulInCommit)

-- a byte with a first occurrence occurs
contains_of_split : (commit : List ℕ) (offset : ℕ) → IsFirstByteAt 0 commit offset → Contains commit 0
contains_of_split commit offset first =
    subst (λ (l : List ℕ). Contains l 0) (sym first.2.joined)
    (Contains-append_right first.0 (0 ∷ first.1) 0 (Contains-append_left (0 ∷ []) first.1 0 (Contains-push [] 0)))

pub commit_lists : (strict : Bool) (severity : Message → Severity) (kind : Kind) (commit : List ℕ) → HaveCommitMessages strict severity kind commit
commit_lists strict severity kind commit documented findings are =
    elim (commit_follows strict severity kind commit documented commit [] findings are) [
      | inl f ↦ elim f.2.1 [
        | inl a ↦ no_message_list findings (IsCommitMessage kind commit) a.1
            (λ it is. All-contains (λ byte. byte ≢ 0) commit 0 a.0 (only_zero kind commit f.0 f.1 it is).0 refl)
        | inr a ↦ one_message_list findings message.NulInCommit a.0 (IsCommitMessage kind commit)
            (a.2 ∙ zero_reported strict severity a.0 documented)
            (inr (f.0, f.1, contains_of_split commit a.0 a.1, refl)) (λ it is. (only_zero kind commit f.0 f.1 it is).1)
      ]
      | inr f ↦ one_message_list findings f.0 f.1 (IsCommitMessage kind commit) f.3 (inl f.2) (only_fault kind commit f.0 f.2)
    ]
