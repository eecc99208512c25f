-- The findings about a commit have messages about commits alone.
use Rattle.std.proofs.Common.{ℕ, [], List, Err, Some, inl, inr, sym, subst}
use Rattle.std.proofs.lemmas.List.Elements.{All-nil}
use Rattle.std.specs.Prelude.{None, codes}
use Rattle.gixobj_hash.specs.declared.hash.kind.Kind.{Kind}
use Rattle.gixobj_fsck.specs.Lines.{IdLine}
use Rattle.gixobj_fsck_messages.specs.declared.finding.Finding.{Finding}
use Rattle.gixobj_fsck_messages.specs.declared.message.Message.{Message}
use Rattle.gixobj_fsck_messages.specs.declared.message.Message.TheVariants as message
use Rattle.gixobj_fsck_messages.specs.declared.severity.Severity.{Severity}
use Rattle.gixobj_fsck_findings.specs.Checks.{AndThen, EndsAtFault, offset_of}
use Rattle.gixobj_fsck_findings.specs.CommitChecks.{AuthorCheck, AuthorLines, AuthorsCheck, CommitCheck, CommitterCheck, MoreAuthorsCheck, ParentsCheck}
use Rattle.gixobj_fsck_findings.specs.CommitChecks.{PeopleCheck, ZeroCheck, last_author, next_author, no_author}
use Rattle.gixobj_fsck_findings.specs.LineChecks.{HeaderCheck}
use Rattle.gixobj_fsck_object_laws.specs.Reported.{HaveMessagesOfCommits, IsAboutActors, IsAboutCommits}
use Rattle.gixobj_fsck_object_laws.proofs.Kept.{Keeps, keeps_actor_line, keeps_and_then, keeps_ends, keeps_header, keeps_listed, keeps_same}

about_actors : (it : Message) → IsAboutActors it → IsAboutCommits it
about_actors message.MissingNameBeforeEmail is = tt
about_actors message.BadName is = tt
about_actors message.MissingEmail is = tt
about_actors message.MissingSpaceBeforeEmail is = tt
about_actors message.BadEmail is = tt
about_actors message.MissingSpaceBeforeDate is = tt
about_actors message.ZeroPaddedDate is = tt
about_actors message.BadDateOverflow is = tt
about_actors message.BadDate is = tt
about_actors message.BadTimezone is = tt
about_actors it is = absurd is

tree_fault : (kind : Kind) (input : List ℕ) (fault : Message) → IdLine (codes "tree") kind message.MissingTree message.BadTreeSha1 input (Err fault)
    → IsAboutCommits fault
tree_fault kind input fault (inl a) = subst IsAboutCommits (sym a.1) tt
tree_fault kind input fault (inr a) = subst IsAboutCommits (sym a.2) tt

keeps_parents : (severity : Message → Severity) (kind : Kind) (object : List ℕ) → Keeps IsAboutCommits (ParentsCheck severity kind object)
keeps_parents severity kind object input before after outcome (line, follows, inl a) are = keeps_same IsAboutCommits before after a.1 are
keeps_parents severity kind object input before after outcome (line, follows, inr a) are =
    keeps_listed IsAboutCommits severity message.BadParentSha1 (offset_of object line) before after a.2 tt are

keeps_author : (severity : Message → Severity) (object : List ℕ) → Keeps IsAboutCommits (AuthorCheck severity object)
keeps_author severity object = keeps_actor_line IsAboutCommits severity object (codes "author") about_actors

keeps_author_lines : (severity : Message → Severity) (object : List ℕ) → Keeps IsAboutCommits (AuthorLines severity object)
keeps_author_lines severity object input before _ _ (no_author _ _ other) are = are
keeps_author_lines severity object input before after _ (last_author _ _ _ check) are = keeps_author severity object input before after None check are
keeps_author_lines severity object input before after outcome (next_author _ between _ middle _ _ check more) are =
    keeps_author_lines severity object between middle after outcome more (keeps_author severity object input before middle (Some between) check are)

keeps_more_authors : (severity : Message → Severity) (object : List ℕ) → Keeps IsAboutCommits (MoreAuthorsCheck severity object)
keeps_more_authors severity object input before after outcome (inl a) are = keeps_same IsAboutCommits before after a.1 are
keeps_more_authors severity object input before after outcome (inr (inl a)) are = keeps_author_lines severity object input before after None a.1 are
keeps_more_authors severity object input before after outcome (inr (inr a)) are =
    keeps_listed IsAboutCommits severity message.MultipleAuthors (offset_of object input) a.1 after a.4 tt
    (keeps_author_lines severity object input before a.1 (Some a.0) a.3 are)

keeps_authors : (severity : Message → Severity) (object : List ℕ) → Keeps IsAboutCommits (AuthorsCheck severity object)
keeps_authors severity object input before after outcome (inl a) are =
    keeps_listed IsAboutCommits severity message.MissingAuthor (offset_of object input) before after a.1 tt are
keeps_authors severity object input before after outcome (inr a) are =
    keeps_and_then IsAboutCommits (AuthorCheck severity object) (MoreAuthorsCheck severity object) (keeps_author severity object)
    (keeps_more_authors severity object) input before after outcome a are

keeps_committer : (severity : Message → Severity) (object : List ℕ) → Keeps IsAboutCommits (CommitterCheck severity object)
keeps_committer severity object input before after outcome (inl a) are =
    keeps_listed IsAboutCommits severity message.MissingCommitter (offset_of object input) before after a.1 tt are
keeps_committer severity object input before after outcome (inr a) are =
    keeps_actor_line IsAboutCommits severity object (codes "committer") about_actors input before after outcome a are

keeps_zero : (severity : Message → Severity) (object : List ℕ) → Keeps IsAboutCommits (ZeroCheck severity object)
keeps_zero severity object input before after outcome (ends, inl a) are = keeps_same IsAboutCommits before after a.1 are
keeps_zero severity object input before after outcome (ends, inr a) are =
    keeps_listed IsAboutCommits severity message.NulInCommit a.0 before after a.2 tt are

keeps_people : (severity : Message → Severity) (object : List ℕ) → Keeps IsAboutCommits (PeopleCheck severity object)
keeps_people severity object =
    keeps_and_then IsAboutCommits (AuthorsCheck severity object) (AndThen (CommitterCheck severity object) (ZeroCheck severity object))
    (keeps_authors severity object) (keeps_and_then IsAboutCommits (CommitterCheck severity object) (ZeroCheck severity object)
    (keeps_committer severity object) (keeps_zero severity object))

-- a check of a commit lists messages about commits alone
keeps_commit : (severity : Message → Severity) (kind : Kind) (object : List ℕ) → Keeps IsAboutCommits (CommitCheck severity kind object)
keeps_commit severity kind object =
    let Tree = IdLine (codes "tree") kind message.MissingTree message.BadTreeSha1 in
    let after_parents = keeps_and_then IsAboutCommits (ParentsCheck severity kind object) (PeopleCheck severity object)
    (keeps_parents severity kind object) (keeps_people severity object) in
    let after_tree = keeps_and_then IsAboutCommits (EndsAtFault severity object Tree)
    (AndThen (ParentsCheck severity kind object) (PeopleCheck severity object))
    (keeps_ends IsAboutCommits severity object Tree (tree_fault kind)) after_parents in
    keeps_and_then IsAboutCommits (HeaderCheck severity) (AndThen (EndsAtFault severity object Tree)
    (AndThen (ParentsCheck severity kind object) (PeopleCheck severity object))) (keeps_header IsAboutCommits severity tt tt) after_tree

pub have_messages_of_commits : (severity : Message → Severity) (kind : Kind) (commit : List ℕ) → HaveMessagesOfCommits severity kind commit
have_messages_of_commits severity kind commit findings are =
    keeps_commit severity kind commit commit [] findings None are (All-nil (λ (it : Finding). IsAboutCommits it.message))
