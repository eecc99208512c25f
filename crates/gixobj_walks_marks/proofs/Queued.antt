-- The queue of the commits that are not read: each once.
use Rattle.std.proofs.Common.{◌≡◌, ◌≢◌, ◌+◌, ◌<◌, ◌≤◌, ◌++◌, ℕ, zero, suc, Bool, cond, eqb, List, [], ◌∷◌, Option, Some, None, get_or, length, refl, subst, sym}
use Rattle.std.proofs.Common.{ap, ◌∙◌, inl, inr, arith}
use Rattle.std.specs.List.{slice_get}
use Rattle.std.specs.List.Sorted.{IsPermutation}
use Rattle.std.specs.Option.{is_some}
use Rattle.std.proofs.Math.ListN.{set}
use Rattle.std.proofs.lemmas.Bool.Decides.{eqb_tells}
use Rattle.std.proofs.lemmas.Bool.{eq-eqb}
use Rattle.std.proofs.lemmas.List.{length-set}
use Rattle.std.proofs.lemmas.List.Sums.{count_by-le-length, sum_by-append, sum_by-cons, sum_by-set}
use Rattle.std.proofs.lemmas.List.Sorted.{sum_by-IsPermutation}
use Rattle.std.proofs.lemmas.Option.{get_or_from_slice_get, none-some, same_Some, slice_get-get_or, slice_get_past, slice_get_within}
use Rattle.gixobj_walks_graph.specs.Graph.{IsRead, NodeView}
use Rattle.gixobj_walks_graph.specs.Numbered.{Nodes, graph_at}
use Rattle.gixobj_walks_marks.specs.Queue.{HasUnread, IsTakenOut, next_of, times, times_wanted}
use Rattle.gixobj_walks_marks.specs.Readings.{IsUnread, reads}
use Rattle.gixobj_walks_marks.specs.declared.queue.Unread.{Unread}
use Rattle.gixobj_walks_marks.proofs.Marked.{slice_get-set_other, slice_get-set_same}

-- the element after those of the list
pub slice_get-pushed : {X : Type 0} (xs : List X) (y : X) → slice_get (xs ++ y ∷ []) (length xs) ≡ Some y
slice_get-pushed [] y = refl
slice_get-pushed (x ∷ xs) y = slice_get-pushed xs y

-- the elements before one that is pushed, and none after it
pub slice_get-push_other : {X : Type 0} (xs : List X) (y : X) (i : ℕ) → length xs ≢ i
    → slice_get (xs ++ y ∷ []) i ≡ slice_get xs i
slice_get-push_other [] y zero other = absurd (other refl)
slice_get-push_other [] y (suc i) other = refl
slice_get-push_other (x ∷ xs) y zero other = refl
slice_get-push_other (x ∷ xs) y (suc i) other = slice_get-push_other xs y i (λ same. other (ap suc same))

-- how often a queue has a number: the first commit, and the rest
pub times_first : (x : Unread) (rest : List Unread) (number : ℕ)
    → times number (x ∷ rest) ≡ cond (eqb x.number number) 1 0 + times number rest
times_first x rest number = sum_by-cons (λ (u : Unread). cond (eqb u.number number) 1 0) x rest

-- how often a queue has a number, once a commit is pushed
counted_push : (x : Unread) (old new : List Unread) (number : ℕ) → IsPermutation (x ∷ old) new
    → times number new ≡ cond (eqb x.number number) 1 0 + times number old
counted_push x old new number pushed =
    sum_by-IsPermutation (λ (u : Unread). cond (eqb u.number number) 1 0) (x ∷ old) new pushed
    ∙ times_first x old number

-- a queue without elements, without commits
pub queued_none : HasUnread [] []
queued_none number = refl

-- a commit is added that is not read
pub queued_push : (nodes : Nodes) (old new : List Unread) (x : Unread) → x.number ≡ length nodes
    → IsPermutation (x ∷ old) new → HasUnread nodes old → HasUnread (nodes ++ None ∷ []) new
queued_push nodes old new x named pushed has number =
    let counted = counted_push x old new number pushed in
    elim (eqb_tells x.number number) [
      | inl same ↦
          let here : length nodes ≡ number = sym named ∙ same.1 in
          let one : ◌≡◌ {A = ℕ} (cond (eqb x.number number) 1 0) 1 = ap (λ (b : Bool). cond b 1 0) same.0 in
          let before : times number old ≡ 0 = has number
          ∙ ap times_wanted (slice_get_past nodes number (omega (arith, here))) in
          let after : times_wanted (slice_get (nodes ++ None ∷ []) number) ≡ 1 =
          subst (λ (n : ℕ). times_wanted (slice_get (nodes ++ None ∷ []) n) ≡ 1) here
          (ap times_wanted (slice_get-pushed nodes None)) in
          omega (arith, counted, one, before, after)
      | inr other ↦
          let none : ◌≡◌ {A = ℕ} (cond (eqb x.number number) 1 0) 0 = ap (λ (b : Bool). cond b 1 0) other.0 in
          let after : times_wanted (slice_get (nodes ++ None ∷ []) number) ≡ times_wanted (slice_get nodes number) =
          ap times_wanted (slice_get-push_other nodes None number (λ same. other.1 (named ∙ same))) in
          omega (arith, counted, none, has number, after)
    ]

-- a commit that a queue counts once is not read
wanted_is_unread : (entry : Option (Option (NodeView ℕ))) → 0 < times_wanted entry → entry ≡ Some None
wanted_is_unread (Some None) some = refl
wanted_is_unread (Some (Some node)) some = absurd (omega arith)
wanted_is_unread None some = absurd (omega arith)

-- an entry that no queue counts is read, if it is known
unwanted_is_read : (entry : Option (Option (NodeView ℕ))) → times_wanted entry ≡ 0 → entry ≢ None
    → (node : NodeView ℕ) × (entry ≡ Some (Some node))
unwanted_is_read (Some (Some node)) none known = (node, refl)
unwanted_is_read (Some None) none known = absurd (omega arith)
unwanted_is_read None none known = absurd (known refl)

-- how often a queue has a number, once a commit is taken out
pub counted_taken : (number : ℕ) (old new : List Unread) (out : IsTakenOut number old new) (q : ℕ)
    → cond (eqb out.unread.number q) 1 0 + times q new ≡ times q old
counted_taken number old new out q = sym (times_first out.unread new q)
    ∙ sum_by-IsPermutation (λ (u : Unread). cond (eqb u.number q) 1 0) old (out.unread ∷ new) out.taken

-- the commit that is taken out is not read
pub taken_is_unread : (nodes : Nodes) (number : ℕ) (old new : List Unread) → HasUnread nodes old
    → IsTakenOut number old new → IsUnread nodes number
taken_is_unread nodes number old new has out =
    let counted = counted_taken number old new out number in
    let one : ◌≡◌ {A = ℕ} (cond (eqb out.unread.number number) 1 0) 1 =
    ap (λ (b : Bool). cond b 1 0) (eq-eqb out.unread.number number out.named) in
    wanted_is_unread (slice_get nodes number) (omega (arith, counted, one, has number))

-- the next commit is not read
pub next_is_unread : (nodes : Nodes) (number : ℕ) (queue : List Unread) → HasUnread nodes queue
    → next_of queue ≡ Some number → IsUnread nodes number
next_is_unread nodes number [] has next = absurd (none-some number next)
next_is_unread nodes number (x ∷ rest) has next =
    let one : ◌≡◌ {A = ℕ} (cond (eqb x.number number) 1 0) 1 =
    ap (λ (b : Bool). cond b 1 0) (eq-eqb x.number number (same_Some x.number number next)) in
    let counted : cond (eqb x.number number) 1 0 + times number rest ≡ times_wanted (slice_get nodes number) =
    sym (times_first x rest number) ∙ has number in
    wanted_is_unread (slice_get nodes number) (omega (arith, counted, one))

-- with an empty queue, each known commit is read
pub all_are_read : (nodes : Nodes) (queue : List Unread) → HasUnread nodes queue → length queue ≤ 0 → (number : ℕ)
    → number < length nodes → IsRead (graph_at nodes) number
all_are_read nodes [] has empty number inside =
    unwanted_is_read (slice_get nodes number) (sym (has number))
    (λ none. none-some (get_or nodes number None) (sym none ∙ slice_get-get_or nodes number None inside))
all_are_read nodes (x ∷ rest) has empty number inside = absurd (omega arith)

-- the commit that is taken out is read
pub queued_read : (nodes : Nodes) (number : ℕ) (node : NodeView ℕ) (old new : List Unread) → HasUnread nodes old
    → IsTakenOut number old new → HasUnread (set nodes number (Some node)) new
queued_read nodes number node old new has out q =
    let unread = taken_is_unread nodes number old new has out in
    let counted = counted_taken number old new out q in
    elim (eqb_tells out.unread.number q) [
      | inl same ↦
          let here : number ≡ q = sym out.named ∙ same.1 in
          let one : ◌≡◌ {A = ℕ} (cond (eqb out.unread.number q) 1 0) 1 = ap (λ (b : Bool). cond b 1 0) same.0 in
          let before : times_wanted (slice_get nodes q) ≡ 1 =
          subst (λ (n : ℕ). times_wanted (slice_get nodes n) ≡ 1) here (ap times_wanted unread) in
          let after : times_wanted (slice_get (set nodes number (Some node)) q) ≡ 0 =
          subst (λ (n : ℕ). times_wanted (slice_get (set nodes number (Some node)) n) ≡ 0) here
          (ap times_wanted (slice_get-set_same nodes number (Some node)
          (slice_get_within nodes number None unread))) in
          omega (arith, counted, one, has q, before, after)
      | inr other ↦
          let none : ◌≡◌ {A = ℕ} (cond (eqb out.unread.number q) 1 0) 0 = ap (λ (b : Bool). cond b 1 0) other.0 in
          let after : times_wanted (slice_get (set nodes number (Some node)) q) ≡ times_wanted (slice_get nodes q) =
          ap times_wanted (slice_get-set_other nodes number q (Some node) (λ same. other.1 (out.named ∙ same))) in
          omega (arith, counted, none, has q, after)
    ]

-- ---- how many are read

-- one more commit is read
pub reads_more : (nodes : Nodes) (number : ℕ) (node : NodeView ℕ) → IsUnread nodes number
    → reads (set nodes number (Some node)) ≡ reads nodes + 1
reads_more nodes number node unread =
    let counted = sum_by-set (λ (entry : Option (NodeView ℕ)). cond (is_some entry) 1 0) nodes number (Some node) None
    (slice_get_within nodes number None unread) in
    let none : ◌≡◌ {A = ℕ} (cond (is_some (get_or nodes number None)) 1 0) 0 =
    ap (λ (entry : Option (NodeView ℕ)). cond (is_some entry) 1 0)
    (get_or_from_slice_get nodes number None None unread) in
    omega (arith, counted, none)

-- a commit that is added is not read
pub reads_push : (nodes : Nodes) → reads (nodes ++ None ∷ []) ≡ reads nodes
reads_push nodes =
    let counted = sum_by-append (λ (entry : Option (NodeView ℕ)). cond (is_some entry) 1 0) nodes (None ∷ []) in
    omega (arith, counted)

-- at most each commit is read
pub reads_within : (nodes : Nodes) → reads nodes ≤ length nodes
reads_within nodes = count_by-le-length is_some nodes

-- another commit can be read
pub reads_before : (nodes : Nodes) (number : ℕ) → IsUnread nodes number → reads nodes < length nodes
reads_before nodes number unread =
    let node : NodeView ℕ = record { parents = []; seconds = 0 } in
    omega (
      arith,
      reads_more nodes number node unread,
      reads_within (set nodes number (Some node)),
      length-set nodes number (Some node),
    )
