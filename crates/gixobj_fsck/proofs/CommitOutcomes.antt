-- A commit has at most one outcome, and so at most one message.
use Rattle.std.proofs.Common.{◌≡◌, ℕ, List, Ok, Err, refl, sym, ap, subst, ◌∙◌}
use Rattle.std.specs.Prelude.{codes}
use Rattle.gixobj_hash.specs.declared.hash.kind.Kind.{Kind}
use Rattle.gixobj_parse.proofs.HeaderFields.{field_unique}
use Rattle.gixobj_fsck.specs.Actors.{ActorPart, IsAfterLine}
use Rattle.gixobj_fsck.specs.Commits.{CommitPart, MoreAuthors, NoMoreAuthors, ParentLines, PeoplePart, bad_author, bad_parent, last_author, next_author}
use Rattle.gixobj_fsck.specs.Commits.{next_parent, no_parent}
use Rattle.gixobj_fsck.specs.Headers.{HeaderPart}
use Rattle.gixobj_fsck.specs.Lines.{ActorLine, IdLine}
use Rattle.gixobj_fsck.specs.Steps.{IsDeterministic, Then}
use Rattle.gixobj_fsck_messages.specs.declared.message.Message.{Message}
use Rattle.gixobj_fsck_messages.specs.declared.message.Message.TheVariants as message
use Rattle.gixobj_fsck.proofs.Outcomes.{actor_deterministic, actor_line_deterministic, after_line_unique, after_name_unique, header_deterministic}
use Rattle.gixobj_fsck.proofs.Outcomes.{id_line_deterministic, name_of_id_field}
use Rattle.gixobj_fsck.proofs.Parts.{then_deterministic}

pub parents_deterministic : (kind : Kind) → IsDeterministic (ParentLines kind)
parents_deterministic kind input _ _ (no_parent _ lacks) (no_parent _ lacks') = refl
parents_deterministic kind input _ _ (no_parent _ lacks) (bad_parent _ named none) = absurd (lacks named.0 named.1)
parents_deterministic kind input _ _ (no_parent _ lacks) (next_parent _ hex rest outcome field follows) =
    let named = name_of_id_field (codes "parent") kind input hex rest field in absurd (lacks named.0 named.1)
parents_deterministic kind input _ _ (bad_parent _ named none) (no_parent _ lacks) = absurd (lacks named.0 named.1)
parents_deterministic kind input _ _ (bad_parent _ named none) (bad_parent _ named' none') = refl
parents_deterministic kind input _ _ (bad_parent _ named none) (next_parent _ hex rest outcome field follows) = absurd (none hex rest field)
parents_deterministic kind input _ _ (next_parent _ hex rest outcome field follows) (no_parent _ lacks) =
    let named = name_of_id_field (codes "parent") kind input hex rest field in absurd (lacks named.0 named.1)
parents_deterministic kind input _ _ (next_parent _ hex rest outcome field follows) (bad_parent _ named none) = absurd (none hex rest field)
parents_deterministic kind input _ _ (next_parent _ hex rest outcome field follows) (next_parent _ hex' rest' outcome' field' follows') =
    let same = (field_unique (codes "parent") input hex rest hex' rest' field.0 field'.0).1 in
    parents_deterministic kind rest outcome outcome' follows (subst (λ (it : List ℕ). ParentLines kind it outcome') (sym same) follows')

more_authors_unique : (input : List ℕ) (a b : Message) → MoreAuthors input a → MoreAuthors input b → a ≡ b
more_authors_unique input _ _ (last_author _ lacks) (last_author _ lacks') = refl
more_authors_unique input _ _ (last_author _ lacks) (bad_author _ actor fault is bad) = absurd (lacks actor is)
more_authors_unique input _ _ (last_author _ lacks) (next_author _ actor after rest fault is sound line follows) = absurd (lacks actor is)
more_authors_unique input _ _ (bad_author _ actor fault is bad) (last_author _ lacks) = absurd (lacks actor is)
more_authors_unique input _ _ (bad_author _ actor fault is bad) (bad_author _ actor' fault' is' bad') =
    let same = after_name_unique (codes "author") input actor actor' is is' in
    let e = actor_deterministic actor' (Err fault) (Err fault') (subst (λ (it : List ℕ). ActorPart it (Err fault)) same bad) bad' in cc e
more_authors_unique input _ _ (bad_author _ actor fault is bad) (next_author _ actor' after rest fault' is' sound line follows) =
    let same = after_name_unique (codes "author") input actor actor' is is' in
    let e = actor_deterministic actor' (Err fault) (Ok after) (subst (λ (it : List ℕ). ActorPart it (Err fault)) same bad) sound in cc e
more_authors_unique input _ _ (next_author _ actor after rest fault is sound line follows) (last_author _ lacks) = absurd (lacks actor is)
more_authors_unique input _ _ (next_author _ actor after rest fault is sound line follows) (bad_author _ actor' fault' is' bad) =
    let same = after_name_unique (codes "author") input actor actor' is is' in
    let e = actor_deterministic actor' (Ok after) (Err fault') (subst (λ (it : List ℕ). ActorPart it (Ok after)) same sound) bad in cc e
more_authors_unique input _ _ (next_author _ actor after rest fault is sound line follows)
    (next_author _ actor' after' rest' fault' is' sound' line' follows') =
    let same = after_name_unique (codes "author") input actor actor' is is' in
    let rests = after_line_unique actor' rest rest' (subst (λ (it : List ℕ). IsAfterLine it rest) same line) line' in
    more_authors_unique rest fault fault' follows (subst (λ (it : List ℕ). MoreAuthors it fault') (sym rests) follows')

pub no_more_authors_deterministic : IsDeterministic NoMoreAuthors
no_more_authors_deterministic input (Ok x) (Ok y) one other = ap Ok (one.1 ∙ sym other.1)
no_more_authors_deterministic input (Ok x) (Err b) one other = absurd (one.0 other.0.0 other.0.1)
no_more_authors_deterministic input (Err a) (Ok y) one other = absurd (other.0 one.0.0 one.0.1)
no_more_authors_deterministic input (Err a) (Err b) one other = ap Err (more_authors_unique input a b one.1 other.1)

-- a commit has one outcome
pub commit_deterministic : (kind : Kind) → IsDeterministic (CommitPart kind)
commit_deterministic kind =
    then_deterministic HeaderPart (Then (IdLine (codes "tree") kind message.MissingTree message.BadTreeSha1) (PeoplePart kind)) header_deterministic
    (then_deterministic (IdLine (codes "tree") kind message.MissingTree message.BadTreeSha1) (PeoplePart kind)
    (id_line_deterministic (codes "tree") kind message.MissingTree message.BadTreeSha1)
    (then_deterministic (ParentLines kind) (Then (ActorLine (codes "author") message.MissingAuthor)
    (Then NoMoreAuthors (ActorLine (codes "committer") message.MissingCommitter))) (parents_deterministic kind)
    (then_deterministic (ActorLine (codes "author") message.MissingAuthor)
    (Then NoMoreAuthors (ActorLine (codes "committer") message.MissingCommitter)) (actor_line_deterministic (codes "author") message.MissingAuthor)
    (then_deterministic NoMoreAuthors (ActorLine (codes "committer") message.MissingCommitter) no_more_authors_deterministic
    (actor_line_deterministic (codes "committer") message.MissingCommitter)))))
