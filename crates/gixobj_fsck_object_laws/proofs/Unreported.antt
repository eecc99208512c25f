-- No finding about an object has a message that git never has.
use Rattle.std.proofs.Common.{◌++◌, ◌∷◌, [], ℕ, All, List, inl, inr, refl, sym, subst}
use Rattle.std.specs.Prelude.{⊤}
use Rattle.std.proofs.lemmas.List.Elements.{All-cons, All-head, All-nil, All-tail}
use Rattle.gixobj_hash.specs.declared.hash.kind.Kind.{Kind}
use Rattle.gixobj_hash.specs.declared.kind.Kind as object
use Rattle.gixobj_hash.specs.declared.kind.Kind.TheVariants as object_kind
use Rattle.gixobj_fsck_messages.specs.Options.{severity_by}
use Rattle.gixobj_fsck_messages.specs.declared.finding.Finding.{Finding}
use Rattle.gixobj_fsck_messages.specs.declared.message.Message.{Message}
use Rattle.gixobj_fsck_messages.specs.declared.message.Message.TheVariants as message
use Rattle.gixobj_fsck_messages.specs.declared.options.Options.{Options}
use Rattle.gixobj_fsck_tree_findings.specs.Findings.{HasFinding}
use Rattle.gixobj_fsck_tree_findings.specs.Laws.{HaveTreeMessages, IsAmong}
use Rattle.gixobj_fsck_tree_findings.specs.TreeFindings.{fault_order, link_order}
use Rattle.gixobj_fsck_object_laws.specs.Reported.{IsAboutCommits, IsAboutTags}
use Rattle.gixobj_fsck_object_laws.specs.Unreported.{HaveNoUnreported, IsUnreported}
use Rattle.gixobj_fsck_object_laws.proofs.AboutCommits.{have_messages_of_commits}
use Rattle.gixobj_fsck_object_laws.proofs.AboutTags.{have_messages_of_tags}

-- a message about trees
abbrev pub IsAboutTrees : Message → Type 0
IsAboutTrees message.GitmodulesSymlink = ⊤
IsAboutTrees message.GitattributesSymlink = ⊤
IsAboutTrees message.GitignoreSymlink = ⊤
IsAboutTrees message.MailmapSymlink = ⊤
IsAboutTrees message.BadTree = ⊤
IsAboutTrees message.NullSha1 = ⊤
IsAboutTrees message.FullPathname = ⊤
IsAboutTrees message.HasDot = ⊤
IsAboutTrees message.HasDotdot = ⊤
IsAboutTrees message.HasDotgit = ⊤
IsAboutTrees message.ZeroPaddedFilemode = ⊤
IsAboutTrees message.BadFilemode = ⊤
IsAboutTrees message.DuplicateEntries = ⊤
IsAboutTrees message.TreeNotSorted = ⊤
IsAboutTrees it = ⊥

among_trees : (it : Message) → IsAmong it (link_order ++ fault_order) → IsAboutTrees it
among_trees it (inl e) = subst IsAboutTrees (sym e) tt
among_trees it (inr (inl e)) = subst IsAboutTrees (sym e) tt
among_trees it (inr (inr (inl e))) = subst IsAboutTrees (sym e) tt
among_trees it (inr (inr (inr (inl e)))) = subst IsAboutTrees (sym e) tt
among_trees it (inr (inr (inr (inr (inl e))))) = subst IsAboutTrees (sym e) tt
among_trees it (inr (inr (inr (inr (inr (inl e)))))) = subst IsAboutTrees (sym e) tt
among_trees it (inr (inr (inr (inr (inr (inr (inl e))))))) = subst IsAboutTrees (sym e) tt
among_trees it (inr (inr (inr (inr (inr (inr (inr (inl e)))))))) = subst IsAboutTrees (sym e) tt
among_trees it (inr (inr (inr (inr (inr (inr (inr (inr (inl e))))))))) = subst IsAboutTrees (sym e) tt
among_trees it (inr (inr (inr (inr (inr (inr (inr (inr (inr (inl e)))))))))) = subst IsAboutTrees (sym e) tt
among_trees it (inr (inr (inr (inr (inr (inr (inr (inr (inr (inr (inl e))))))))))) = subst IsAboutTrees (sym e) tt
among_trees it (inr (inr (inr (inr (inr (inr (inr (inr (inr (inr (inr (inl e)))))))))))) = subst IsAboutTrees (sym e) tt
among_trees it (inr (inr (inr (inr (inr (inr (inr (inr (inr (inr (inr (inr (inl e))))))))))))) = subst IsAboutTrees (sym e) tt
among_trees it (inr (inr (inr (inr (inr (inr (inr (inr (inr (inr (inr (inr (inr (inl e)))))))))))))) = subst IsAboutTrees (sym e) tt
among_trees it (inr (inr (inr (inr (inr (inr (inr (inr (inr (inr (inr (inr (inr (inr none)))))))))))))) = elim none [ ]

-- git never has a message about none of these
none_is_about : (Is : Message → Type 0) → (Is message.EmptyName → ⊥) → (Is message.MissingType → ⊥) → (Is message.MissingTag → ⊥)
    → (Is message.UnknownType → ⊥) → (it : Message) → Is it → ¬ IsUnreported it
none_is_about Is a b c d it is (inl e) = a (subst Is e is)
none_is_about Is a b c d it is (inr (inl e)) = b (subst Is e is)
none_is_about Is a b c d it is (inr (inr (inl e))) = c (subst Is e is)
none_is_about Is a b c d it is (inr (inr (inr e))) = d (subst Is e is)

all_of : (Is : Message → Type 0) → ((it : Message) → Is it → ¬ IsUnreported it) → (findings : List Finding)
    → All (λ (f : Finding). Is f.message) findings → All (λ (f : Finding). ¬ IsUnreported f.message) findings
all_of Is other [] are = All-nil (λ (f : Finding). ¬ IsUnreported f.message)
all_of Is other (first ∷ findings) are =
    let P : Finding → Type 0 = λ f. Is f.message in
    All-cons (λ (f : Finding). ¬ IsUnreported f.message) first findings (other first.message (All-head P first findings are))
    (all_of Is other findings (All-tail P first findings are))

about_trees : (findings : List Finding) → ((it : Message) → HasFinding it findings → IsAmong it (link_order ++ fault_order))
    → All (λ (f : Finding). IsAboutTrees f.message) findings
about_trees [] among = All-nil (λ (f : Finding). IsAboutTrees f.message)
about_trees (first ∷ findings) among =
    All-cons (λ (f : Finding). IsAboutTrees f.message) first findings (among_trees first.message (among first.message (inl refl)))
    (about_trees findings (λ (it : Message) (has : HasFinding it findings). among it (inr has)))

-- no finding about an object has a message that git never has
pub no_unreported : (options : Options) (kind : object.Kind) (hash_kind : Kind) (bytes : List ℕ) → HaveTreeMessages hash_kind options bytes
    → HaveNoUnreported options kind hash_kind bytes
no_unreported options object_kind.Tree hash_kind bytes trees findings are =
    all_of IsAboutTrees (none_is_about IsAboutTrees (λ is. is) (λ is. is) (λ is. is) (λ is. is)) findings
    (about_trees findings (trees findings are).0)
no_unreported options object_kind.Blob hash_kind bytes trees findings none =
    subst (All (λ (f : Finding). ¬ IsUnreported f.message)) (sym none) (All-nil (λ (f : Finding). ¬ IsUnreported f.message))
no_unreported options object_kind.Commit hash_kind bytes trees findings are =
    all_of IsAboutCommits (none_is_about IsAboutCommits (λ is. is) (λ is. is) (λ is. is) (λ is. is)) findings
    (have_messages_of_commits (severity_by options) hash_kind bytes findings are)
no_unreported options object_kind.Tag hash_kind bytes trees findings are =
    all_of IsAboutTags (none_is_about IsAboutTags (λ is. is) (λ is. is) (λ is. is) (λ is. is)) findings
    (have_messages_of_tags (severity_by options) hash_kind bytes findings are)
