-- Clean commits and tags have no findings, by whatever severities.
use Rattle.std.proofs.Common.{ℕ, List, [], Some, None, Ok, inl, inr, refl, subst}
use Rattle.std.specs.Prelude.{codes}
use Rattle.gixobj_hash.specs.HeaderFormat.{BeginsWithOtherName}
use Rattle.gixobj_hash.specs.declared.hash.kind.Kind.{Kind}
use Rattle.gixobj_fsck.specs.Commits.{IsCleanCommit, ParentLines, PeoplePart}
use Rattle.gixobj_fsck.specs.Commits as commits
use Rattle.gixobj_fsck.specs.Headers.{HeaderPart}
use Rattle.gixobj_fsck.specs.Lines.{ActorLine, IdLine}
use Rattle.gixobj_fsck_messages.specs.declared.message.Message.{Message}
use Rattle.gixobj_fsck_messages.specs.declared.message.Message.TheVariants as message
use Rattle.gixobj_fsck_messages.specs.declared.severity.Severity.{Severity}
use Rattle.gixobj_fsck_tags.specs.Tags.{IsCleanTag, TaggerLine}
use Rattle.gixobj_fsck_findings.specs.CommitChecks.{AreCommitFindings, FollowsParents, PeopleCheck, no_parent, next_parent}
use Rattle.gixobj_fsck_findings.specs.LineChecks.{ActorLineCheck, HeaderCheck}
use Rattle.gixobj_fsck_findings.specs.TagChecks.{AreTagFindings, TaggerCheck}

-- a sound header is checked further
clean_header : (severity : Message → Severity) (Next : List ℕ → Type 0) (input between : List ℕ) → HeaderPart input (Ok between) → Next between
    → HeaderCheck severity input [] [] (Some input) × Next input
clean_header severity Next input between header next =
    (inl ((header.0, header.1, refl), refl, refl), subst Next header.2 next)

clean_actor : (severity : Message → Severity) (object name : List ℕ) (missing : Message) (input rest : List ℕ)
    → ActorLine name missing input (Ok rest) → ActorLineCheck severity object name input [] [] (Some rest)
clean_actor severity object name missing input rest (actor, after, is, sound, follows) =
    (actor, is, (rest, follows, inl (after, sound, refl, refl)))

clean_parents : (kind : Kind) (input rest : List ℕ) → ParentLines kind input (Ok rest)
    → FollowsParents kind input rest × BeginsWithOtherName (codes "parent") rest
clean_parents kind input rest (commits.no_parent _ other) = (no_parent input, other)
clean_parents kind input rest (commits.next_parent _ hex between _ begins more) =
    let it = clean_parents kind between rest more in (next_parent input hex between rest begins it.0, it.1)

-- a clean commit has no findings
pub no_commit_findings : (severity : Message → Severity) (kind : Kind) (commit : List ℕ) → IsCleanCommit kind commit
    → AreCommitFindings severity kind commit []
no_commit_findings severity kind commit ((end, (b0, header, (b1, tree, (b2, parents, (b3, author, (b4, more, committer)))))), free) =
    let Tree : List ℕ → Type 0 = λ it. IdLine (codes "tree") kind message.MissingTree message.BadTreeSha1 it (Ok b1) in
    let first = clean_header severity Tree commit b0 header tree in
    let lines = clean_parents kind b1 b2 parents in
    let Committer : List ℕ → Type 0 = λ it. ActorLine (codes "committer") message.MissingCommitter it (Ok end) in
    let people : PeopleCheck severity commit b2 [] [] None = inr (
      b3,
      [],
      inr (inr (b3, [], clean_actor severity commit (codes "author") message.MissingAuthor b2 b3 author, inl (more.0, refl, refl))),
      inr (
        end,
        [],
        inr (clean_actor severity commit (codes "committer") message.MissingCommitter b3 end (subst Committer more.1 committer)),
        (refl, inl (free, refl)),
      ),
    ) in
    inr (commit, [], first.0, inr (b1, [], inl (b1, first.1, refl, refl), inr (b2, [], (b2, lines.0, inl (lines.1, refl, refl)), people)))

clean_tagger : (severity : Message → Severity) (object input rest : List ℕ) → TaggerLine input (Ok rest)
    → TaggerCheck severity object input [] [] (Some rest)
clean_tagger severity object input rest (actor, after, is, sound, follows) =
    inr (actor, rest, is, follows, refl, inl (after, sound, refl))

-- a clean tag has no findings
pub no_tag_findings : (severity : Message → Severity) (kind : Kind) (tag : List ℕ) → IsCleanTag kind tag → AreTagFindings severity kind tag []
no_tag_findings severity kind tag (start, name, rest, (b0, header, (b1, object, type)), named, ok, (after, tagger, ends)) =
    let Object : List ℕ → Type 0 = λ it. IdLine (codes "object") kind message.MissingObject message.BadObjectSha1 it (Ok b1) in
    let first = clean_header severity Object tag b0 header object in
    inr (
      tag,
      [],
      first.0,
      inr (
        b1,
        [],
        inl (b1, first.1, refl, refl),
        inr (
          start,
          [],
          inr (inl (type.0, start, type.1, refl, refl)),
          inr (
            rest,
            [],
            inr (inl (name, rest, named, ok, refl, refl)),
            inr (after, [], clean_tagger severity tag rest after tagger, (refl, inl (ends, refl))),
          ),
        ),
      ),
    )
