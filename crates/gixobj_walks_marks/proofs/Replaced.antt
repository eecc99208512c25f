-- The next commit is taken out of the queue, and commits are added.
use Rattle.std.proofs.Common.{◌≡◌, ◌∙◌, ◌++◌, ◌+◌, ◌<◌, ℕ, Bool, false, List, [], ◌∷◌, None, refl, sym, ap, subst, length, replicate, arith}
use Rattle.std.proofs.lemmas.List.{append-nil, append_assoc, length-replicate, replicate-append-replicate}
use Rattle.std.proofs.Common.{length-append}
use Rattle.std.proofs.lemmas.List.Sorted.{IsPermutation-cons, IsPermutation-refl, IsPermutation-swap, IsPermutation-trans}
use Rattle.std.specs.List.{AllByRecursion}
use Rattle.std.specs.List.Sorted.{IsPermutation}
use Rattle.gixobj_walks_graph.specs.Numbered.{Nodes}
use Rattle.gixobj_walks_marks.specs.Queue.{IsTakenOut}
use Rattle.gixobj_walks_marks.specs.Readings.{IsReading, IsUnread, KeepsMarks, ReplacesNext}
use Rattle.gixobj_walks_marks.specs.declared.queue.Unread.{Unread}
use Rattle.gixobj_walks_marks.proofs.Kept.{added_is_reading, marks_push}
use Rattle.gixobj_walks_marks.proofs.Queued.{counted_taken, reads_push, taken_is_unread, times_first}

-- the first two of a list are exchanged
heads_swap : {X : Type 0} (x y : X) (xs : List X) → IsPermutation (x ∷ y ∷ xs) (y ∷ x ∷ xs)
heads_swap x y xs = IsPermutation-swap (x ∷ y ∷ xs) (y ∷ x ∷ xs) 0 1 (omega arith) (omega arith) refl

-- a queue that has the same numbers as often is as good
reading_of_taken : (number : ℕ) (nodes : Nodes) (left right : List Bool) (old new : List Unread) (read : ℕ) (out : IsTakenOut number old new)
    → IsReading nodes left right old read → IsReading nodes left right (out.unread ∷ new) read
reading_of_taken number nodes left right old new read out is = record {
  known = is.known;
  left_length = is.left_length;
  right_length = is.right_length;
  left_closed = is.left_closed;
  right_closed = is.right_closed;
  queued = λ q. times_first out.unread new q ∙ counted_taken number old new out q ∙ is.queued q;
  counted = is.counted;
}

marks_stay : (nodes : Nodes) (marked : List Bool) → KeepsMarks nodes marked nodes marked
marks_stay nodes marked = λ starts has. has

pub nothing_added : (number : ℕ) (nodes : Nodes) (left right : List Bool) (old new : List Unread) (read : ℕ) → IsTakenOut number old new
    → IsReading nodes left right old read → ReplacesNext number 0 nodes left right nodes left right new read
nothing_added number nodes left right old new read out is = record {
  unread = out.unread;
  named = out.named;
  reading = reading_of_taken number nodes left right old new read out is;
  nodes_are = sym (append-nil nodes);
  left_marks = marks_stay nodes left;
  right_marks = marks_stay nodes right;
  reads_are = refl;
}

one_more_none : (nodes : Nodes) (added : ℕ) → (nodes ++ replicate added None) ++ None ∷ [] ≡ nodes ++ replicate (added + 1) None
one_more_none nodes added = append_assoc nodes (replicate added None) (None ∷ []) ∙ ap (λ it. nodes ++ it) (replicate-append-replicate added 1 None)

pub one_more_added : (number added : ℕ) (nodes : Nodes) (left right : List Bool) (middle : Nodes) (middle_left middle_right : List Bool)
    (queue : List Unread) (read : ℕ) (new : Nodes) (new_left new_right : List Bool) (new_queue : List Unread) (x : Unread)
    → ReplacesNext number added nodes left right middle middle_left middle_right queue read → x.number ≡ length middle
    → IsPermutation (x ∷ queue) new_queue → new ≡ middle ++ None ∷ [] → new_left ≡ middle_left ++ false ∷ []
    → new_right ≡ middle_right ++ false ∷ []
    → ReplacesNext number (added + 1) nodes left right new new_left new_right new_queue read
one_more_added number added nodes left right middle middle_left middle_right queue read new new_left new_right new_queue x is named
    pushed new_is left_is right_is =
    subst (λ it. ReplacesNext number (added + 1) nodes left right it new_left new_right new_queue read) (sym new_is)
    (subst (λ it. ReplacesNext number (added + 1) nodes left right (middle ++ None ∷ []) it new_right new_queue read) (sym left_is)
    (subst (λ it. ReplacesNext number (added + 1) nodes left right (middle ++ None ∷ []) (middle_left ++ false ∷ []) it new_queue read) (sym right_is)
    (record {
      unread = is.unread;
      named = is.named;
      reading = added_is_reading middle middle_left middle_right (is.unread ∷ queue) (is.unread ∷ new_queue) x read named
          (IsPermutation-trans (x ∷ is.unread ∷ queue) (is.unread ∷ x ∷ queue) (is.unread ∷ new_queue) (heads_swap x is.unread queue)
          (IsPermutation-cons is.unread (x ∷ queue) new_queue pushed)) is.reading;
      nodes_are = ap (λ it. it ++ None ∷ []) is.nodes_are ∙ one_more_none nodes added;
      left_marks = λ starts has. marks_push middle middle_left starts (is.left_marks starts has);
      right_marks = λ starts has. marks_push middle middle_right starts (is.right_marks starts has);
      reads_are = reads_push middle ∙ is.reads_are;
    })))

-- the commit that was taken out is out of the queue
pub taken_at_last : (number added : ℕ) (nodes : Nodes) (left right : List Bool) (new : Nodes) (new_left new_right : List Bool)
    (queue : List Unread) (read : ℕ) (is : ReplacesNext number added nodes left right new new_left new_right queue read)
    → IsTakenOut number (is.unread ∷ queue) queue
taken_at_last number added nodes left right new new_left new_right queue read is = record {
  unread = is.unread;
  named = is.named;
  taken = IsPermutation-refl (is.unread ∷ queue);
}

pub replaced_unread : (number added : ℕ) (nodes : Nodes) (left right : List Bool) (new : Nodes) (new_left new_right : List Bool)
    (queue : List Unread) (read : ℕ) → ReplacesNext number added nodes left right new new_left new_right queue read → IsUnread new number
replaced_unread number added nodes left right new new_left new_right queue read is = taken_is_unread new number (is.unread ∷ queue) queue
    is.reading.queued (taken_at_last number added nodes left right new new_left new_right queue read is)

pub replaced_length : (number added : ℕ) (nodes : Nodes) (left right : List Bool) (new : Nodes) (new_left new_right : List Bool)
    (queue : List Unread) (read : ℕ) → ReplacesNext number added nodes left right new new_left new_right queue read
    → length new ≡ length nodes + added
replaced_length number added nodes left right new new_left new_right queue read is =
    ap length is.nodes_are ∙ length-append nodes (replicate added None) ∙ ap (λ n. length nodes + n) (length-replicate added None)

pub replaced_parents : (number added : ℕ) (nodes : Nodes) (left right : List Bool) (new : Nodes) (new_left new_right : List Bool)
    (queue : List Unread) (read : ℕ) (parents : List ℕ) → ReplacesNext number added nodes left right new new_left new_right queue read
    → AllByRecursion (λ parent. parent < length nodes + added) parents → AllByRecursion (λ parent. parent < length new) parents
replaced_parents number added nodes left right new new_left new_right queue read parents is below =
    subst (λ n. AllByRecursion (λ parent. parent < n) parents)
    (sym (replaced_length number added nodes left right new new_left new_right queue read is)) below
