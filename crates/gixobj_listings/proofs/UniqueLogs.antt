-- Two logs of one tip are the same; the law `log_is_unique` uses it.
use Rattle.std.proofs.Common.{◌≡◌, ◌∙◌, ◌∷◌, ◌<◌, ◌≤◌, ℕ, Bool, List, [], None, Option, Some, ap, arith, length, refl, subst, suc, sym, zero, inl, inr}
use Rattle.std.specs.Prelude.{IsFalse}
use Rattle.gix_object.specs.Actor.{IsActorLine}
use Rattle.gix_object.specs.Commit.{CommitLines, DecodesToCommit}
use Rattle.gix_object.specs.Existing.{IsDecodingLookupError, IsFindObjectError}
use Rattle.gix_object.specs.Hash.{DecodesToId}
use Rattle.gix_object.specs.Hash.Hex.{decoded_id}
use Rattle.gix_object.specs.ObjectReading.{IsObjectDecodeError}
use Rattle.gix_object.specs.Stores.{Objects, StoredObject}
use Rattle.gix_object.specs.Titles.{summary_of}
use Rattle.gix_object.specs.hash.decode.Error.TheVariants as decoding
use Rattle.gix_object.specs.hash.hash.kind.Kind as hash
use Rattle.gix_object.specs.hash.hash.object_id.ObjectId.{ObjectId}
use Rattle.gix_object.specs.hash.kind.Kind.{Kind}
use Rattle.gix_object.specs.hash.kind.Kind.TheVariants.{Commit}
use Rattle.gix_object.specs.keep.find.existing_object.Error.{Error}
use Rattle.gix_object.specs.keep.find.existing_object.Error.TheVariants as existing
use Rattle.gix_object.specs.store.find.Error.TheVariants as find
use Rattle.gixobj_listings.specs.Histories.{EndAlike, FollowsFirstParents, HasFirstParent, IsAllocationFailure, IsLog, IsLogged, LoggedView, NamesAuthor}
use Rattle.gixobj_listings.specs.Histories.{NamesCommit, NeverFails}
use Rattle.gixobj_listings.specs.declared.history.LogEnd.{LogEnd}
use Rattle.gixobj_listings.specs.declared.history.LogEnd.TheVariants as end

-- ---- the laws that it rests on

abbrev pub CommitIsUnique : Type 0
CommitIsUnique = (kind : hash.Kind) (content : List ℕ) (commit commit' : CommitLines) → DecodesToCommit kind content commit
    → DecodesToCommit kind content commit' → commit ≡ commit'

abbrev pub ActorIsUnique : Type 0
ActorIsUnique = (line name email time rest name' email' time' rest' : List ℕ) → IsActorLine line name email time rest
    → IsActorLine line name' email' time' rest' → (name ≡ name') × (email ≡ email') × (time ≡ time') × (rest ≡ rest')

abbrev pub IdIsUnique : Type 0
IdIsUnique = (bytes : List ℕ) (id : ObjectId) → DecodesToId bytes id → id ≡ decoded_id bytes

-- ---- one commit

commit_unique : CommitIsUnique → (objects : Objects) (id : ObjectId) (commit commit' : CommitLines) → NamesCommit objects id commit
    → NamesCommit objects id commit' → commit ≡ commit'
commit_unique unique objects id commit commit' (kept, names, kind, decodes) (kept', names', kind', decodes') =
    let same : kept' ≡ kept = cc (names, names') in
    unique kept.object_hash kept.bytes commit commit' decodes
    (subst (λ (it : StoredObject). DecodesToCommit it.object_hash it.bytes commit') same decodes')

author_unique : ActorIsUnique → (line author email author' email' : List ℕ) → NamesAuthor line author email → NamesAuthor line author' email'
    → (author ≡ author') × (email ≡ email')
author_unique unique line author email author' email' one other =
    let (name, mail, time, rest) = unique line one.line_name one.line_email one.time [] other.line_name other.line_email other.time [] one.actor other.actor in
    (cc (one.trimmed_name, other.trimmed_name, name), cc (one.trimmed_email, other.trimmed_email, mail))

first_parent_unique : IdIsUnique → (parents : List (List ℕ)) (parent parent' : Option ObjectId) → HasFirstParent parents parent
    → HasFirstParent parents parent' → parent ≡ parent'
first_parent_unique unique parents None None one other = refl
first_parent_unique unique parents None (Some id) one (hex, more, is, decodes) = cc (one, is)
first_parent_unique unique parents (Some id) None (hex, more, is, decodes) other = cc (other, is)
first_parent_unique unique parents (Some id) (Some id') (hex, more, is, decodes) (hex', more', is', decodes') =
    let same : hex ≡ hex' = cc (is, is') in
    let one : id ≡ decoded_id hex = unique hex id decodes in
    let other : id' ≡ decoded_id hex' = unique hex' id' decodes' in
    cc (same, one, other)

-- a commit of a log, of its parts
abbrev view_of : ObjectId → List ℕ → List ℕ → List ℕ → LoggedView
view_of id title author email = record { id = id; title = title; author = author; email = email }

same_view : (id id' : ObjectId) (title title' author author' email email' : List ℕ) → id ≡ id' → title ≡ title' → author ≡ author' → email ≡ email'
    → view_of id title author email ≡ view_of id' title' author' email'
same_view id id' title title' author author' email email' one two three four = cc (one, two, three, four)

logged_unique : CommitIsUnique → ActorIsUnique → IdIsUnique → (objects : Objects) (one other : LoggedView) (parent parent' : Option ObjectId)
    → one.id ≡ other.id → IsLogged objects one parent → IsLogged objects other parent' → (one ≡ other) × (parent ≡ parent')
logged_unique commits actors ids objects one other parent parent' same is is' =
    let named : NamesCommit objects one.id is'.commit = subst (λ (id : ObjectId). NamesCommit objects id is'.commit) (sym same) is'.named in
    let commit : is'.commit ≡ is.commit = commit_unique commits objects one.id is'.commit is.commit named is.named in
    let authored : NamesAuthor is.commit.author other.author other.email =
    subst (λ (it : CommitLines). NamesAuthor it.author other.author other.email) commit is'.author in
    let first : HasFirstParent is.commit.parents parent' = subst (λ (it : CommitLines). HasFirstParent it.parents parent') commit is'.first_parent in
    let (author, email) = author_unique actors is.commit.author one.author one.email other.author other.email is.author authored in
    let title : one.title ≡ other.title = is.title ∙ ap (λ (it : CommitLines). summary_of it.message) (sym commit) ∙ sym is'.title in (
      same_view one.id other.id one.title other.title one.author other.author one.email other.email same title author email,
      first_parent_unique ids is.commit.parents parent parent' is.first_parent first,
    )

-- ---- a commit that is read

found_is_unread : (objects : Objects) (may_fail : ObjectId → Bool) (id : ObjectId) (commit : CommitLines) (cause : Error) → IsFalse (may_fail id)
    → NamesCommit objects id commit → IsDecodingLookupError objects may_fail id cause → ¬ IsAllocationFailure cause → ⊥
found_is_unread objects may_fail id commit (existing.Find (find.Store message)) never named fails not_memory = cc (never, fails)
found_is_unread objects may_fail id commit (existing.Find find.OutOfMemory) never named fails not_memory = not_memory tt
found_is_unread objects may_fail id commit (existing.NotFound said) never (kept, names, kind, decodes) (same, none) not_memory = cc (names, none)
found_is_unread objects may_fail id commit (existing.Decode said decoding.Malformed) never (kept, names, kind, decodes) (same, (kept', names', error))
    not_memory =
    let is : kept' ≡ kept = cc (names, names') in
    let malformed : IsObjectDecodeError kept.object_hash kept.kind kept.bytes decoding.Malformed =
    subst (λ (it : StoredObject). IsObjectDecodeError it.object_hash it.kind it.bytes decoding.Malformed) is error in
    subst (λ (it : Kind). IsObjectDecodeError kept.object_hash it kept.bytes decoding.Malformed) kind malformed commit decodes
found_is_unread objects may_fail id commit (existing.Decode said decoding.OutOfMemory) never named fails not_memory = not_memory tt
found_is_unread objects may_fail id commit (existing.ObjectKind said actual expected) never named fails not_memory = fails

found_has_no_error : (objects : Objects) (may_fail : ObjectId → Bool) (id : ObjectId) (commit : CommitLines) (cause : Error) → IsFalse (may_fail id)
    → NamesCommit objects id commit → IsFindObjectError objects may_fail Commit id cause → ¬ IsAllocationFailure cause → ⊥
found_has_no_error objects may_fail id commit cause never named (inl fails) not_memory =
    found_is_unread objects may_fail id commit cause never named fails not_memory
found_has_no_error objects may_fail id commit cause never (kept, names, kind, decodes) (inr (actual, is, other, (kept', names', kind', encoding))) not_memory =
    let same : kept' ≡ kept = cc (names, names') in other (sym kind' ∙ ap (λ (it : StoredObject). it.kind) same ∙ kind)

-- ---- the ends of logs

-- a log that may have this many commits more ends so, before the next commit or after a root commit
abbrev IsEnd : Objects → (ObjectId → Bool) → ℕ → ℕ → Option ObjectId → LogEnd → Type 0
IsEnd objects may_fail max n next end.Root = (next ≡ None) × (n ≤ max)
IsEnd objects may_fail max n next (end.Unread id cause) = (next ≡ Some id) × IsFindObjectError objects may_fail Commit id cause
    × (¬ IsAllocationFailure cause) × (n < max)
IsEnd objects may_fail max n next (end.TooLong id) = (next ≡ Some id) × (n ≡ max)

-- these commits follow the start, and the log ends so
record Ends (objects : Objects) (may_fail : ObjectId → Bool) (max : ℕ) (start : Option ObjectId) (commits : List LoggedView) (it : LogEnd) : Type 0 where
  next : Option ObjectId
  follows : FollowsFirstParents objects start commits next
  at : IsEnd objects may_fail max (length commits) next it

ends_of_log : (objects : Objects) (may_fail : ObjectId → Bool) (max : ℕ) (tip : ObjectId) (commits : List LoggedView) (it : LogEnd)
    → IsLog objects may_fail max tip commits it → length commits ≤ max → Ends objects may_fail max (Some tip) commits it
ends_of_log objects may_fail max tip commits end.Root is len = record { next = None; follows = is; at = (refl, len) }
ends_of_log objects may_fail max tip commits (end.Unread id cause) (is, error, not_memory, low) len =
    record { next = Some id; follows = is; at = (refl, error, not_memory, low) }
ends_of_log objects may_fail max tip commits (end.TooLong id) (is, same) len = record { next = Some id; follows = is; at = (refl, same) }

end_of_suc : (objects : Objects) (may_fail : ObjectId → Bool) (max n : ℕ) (next : Option ObjectId) (it : LogEnd)
    → IsEnd objects may_fail (suc max) (suc n) next it → IsEnd objects may_fail max n next it
end_of_suc objects may_fail max n next end.Root (is, len) = (is, omega (arith, len))
end_of_suc objects may_fail max n next (end.Unread id cause) (is, error, not_memory, low) = (is, error, not_memory, omega (arith, low))
end_of_suc objects may_fail max n next (end.TooLong id) (is, same) = (is, omega (arith, same))

-- no log ends at a commit that is read, while it may have commits
read_is_no_end : (objects : Objects) (may_fail : ObjectId → Bool) (max : ℕ) (id : ObjectId) (commit : CommitLines) (start : Option ObjectId) (it : LogEnd)
    → NeverFails may_fail → start ≡ Some id → NamesCommit objects id commit → IsEnd objects may_fail (suc max) 0 start it → ⊥
read_is_no_end objects may_fail max id commit start end.Root never is named (none, len) = cc (is, none)
read_is_no_end objects may_fail max id commit start (end.Unread id' cause) never is named (at, error, not_memory, low) =
    let same : id' ≡ id = cc (is, at) in
    found_has_no_error objects may_fail id commit cause (never id) named
    (subst (λ (it : ObjectId). IsFindObjectError objects may_fail Commit it cause) same error) not_memory
read_is_no_end objects may_fail max id commit start (end.TooLong id') never is named (at, same) = omega (arith, same)

ends_alike : (objects : Objects) (may_fail : ObjectId → Bool) (max n : ℕ) (next : Option ObjectId) (one other : LogEnd)
    → IsEnd objects may_fail max n next one → IsEnd objects may_fail max n next other → EndAlike one other
ends_alike objects may_fail max n next end.Root end.Root at at' = tt
ends_alike objects may_fail max n next end.Root (end.Unread id cause) (none, len) (is, error, not_memory, low) = cc (none, is)
ends_alike objects may_fail max n next end.Root (end.TooLong id) (none, len) (is, same) = cc (none, is)
ends_alike objects may_fail max n next (end.Unread id cause) end.Root (is, error, not_memory, low) (none, len) = cc (none, is)
ends_alike objects may_fail max n next (end.Unread id cause) (end.Unread id' cause') (is, error, not_memory, low) (is', error', not_memory', low') =
    cc (is, is')
ends_alike objects may_fail max n next (end.Unread id cause) (end.TooLong id') (is, error, not_memory, low) (is', same) = absurd (omega (arith, low, same))
ends_alike objects may_fail max n next (end.TooLong id) end.Root (is, same) (none, len) = cc (none, is)
ends_alike objects may_fail max n next (end.TooLong id) (end.Unread id' cause) (is, same) (is', error, not_memory, low) = absurd (omega (arith, low, same))
ends_alike objects may_fail max n next (end.TooLong id) (end.TooLong id') (is, same) (is', same') = cc (is, is')

-- ---- the logs

module _ (commits_unique : CommitIsUnique) (actors_unique : ActorIsUnique) (ids_unique : IdIsUnique) where
  ends_unique : (objects : Objects) (may_fail : ObjectId → Bool) (max : ℕ) (start : Option ObjectId) (one other : List LoggedView) (end' end'' : LogEnd)
      → NeverFails may_fail → length one ≤ max → length other ≤ max → Ends objects may_fail max start one end'
      → Ends objects may_fail max start other end'' → (one ≡ other) × EndAlike end' end''
  ends_unique objects may_fail max start [] [] end' end'' never low low' is is' =
      let same : is'.next ≡ is.next = sym is'.follows ∙ is.follows in (
        refl,
        ends_alike objects may_fail max 0 is.next end' end'' is.at
            (subst (λ (next : Option ObjectId). IsEnd objects may_fail max 0 next end'') same is'.at),
      )
  ends_unique objects may_fail zero start [] (y ∷ other) end' end'' never low low' is is' = absurd (omega (arith, low'))
  ends_unique objects may_fail (suc max) start [] (y ∷ other) end' end'' never low low' is is' =
      let (at, (parent, logged, rest)) = is'.follows in
      absurd (read_is_no_end objects may_fail max y.id logged.commit start end' never at logged.named
      (subst (λ (next : Option ObjectId). IsEnd objects may_fail (suc max) 0 next end') (sym is.follows) is.at))
  ends_unique objects may_fail zero start (x ∷ one) [] end' end'' never low low' is is' = absurd (omega (arith, low))
  ends_unique objects may_fail (suc max) start (x ∷ one) [] end' end'' never low low' is is' =
      let (at, (parent, logged, rest)) = is.follows in
      absurd (read_is_no_end objects may_fail max x.id logged.commit start end'' never at logged.named
      (subst (λ (next : Option ObjectId). IsEnd objects may_fail (suc max) 0 next end'') (sym is'.follows) is'.at))
  ends_unique objects may_fail zero start (x ∷ one) (y ∷ other) end' end'' never low low' is is' = absurd (omega (arith, low))
  ends_unique objects may_fail (suc max) start (x ∷ one) (y ∷ other) end' end'' never low low' is is' =
      let (at, (parent, logged, rest)) = is.follows in
      let (at', (parent', logged', rest')) = is'.follows in
      let id : x.id ≡ y.id = cc (at, at') in
      let (same, parents) = logged_unique commits_unique actors_unique ids_unique objects x y parent parent' id logged logged' in
      let tail : FollowsFirstParents objects parent other is'.next =
      subst (λ (start : Option ObjectId). FollowsFirstParents objects start other is'.next) (sym parents) rest' in
      let more = ends_unique objects may_fail max parent one other end' end'' never (omega (arith, low)) (omega (arith, low'))
      (record { next = is.next; follows = rest; at = end_of_suc objects may_fail max (length one) is.next end' is.at })
      (record { next = is'.next; follows = tail; at = end_of_suc objects may_fail max (length other) is'.next end'' is'.at }) in
      (cc (same, more.0), more.1)

  pub logs_are_unique : (objects : Objects) (may_fail : ObjectId → Bool) (max : ℕ) (tip : ObjectId) (one other : List LoggedView) (end' end'' : LogEnd)
      → NeverFails may_fail → IsLog objects may_fail max tip one end' → length one ≤ max → IsLog objects may_fail max tip other end''
      → length other ≤ max → (one ≡ other) × EndAlike end' end''
  logs_are_unique objects may_fail max tip one other end' end'' never is low is' low' =
      ends_unique objects may_fail max (Some tip) one other end' end'' never low low' (ends_of_log objects may_fail max tip one end' is low)
      (ends_of_log objects may_fail max tip other end'' is' low')
