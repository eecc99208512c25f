-- What a search over the histories of two commits keeps, and where a search for merge bases ends.
use Rattle.std.proofs.Common.{◌≡◌, ◌↔◌, ◌<◌, ℕ, Bool, false, List, [], ◌∷◌, length, refl, subst, sym}
use Rattle.std.specs.List.{AllZip}
use Rattle.std.specs.Prelude.{Contains, IsTrue, Option}
use Rattle.gixobj_hash.specs.declared.hash.object_id.ObjectId.{ObjectId}
use Rattle.gixobj_walks_graph.specs.Bases.{AreMergeBases, IsMergeBase}
use Rattle.gixobj_walks_graph.specs.Graph.{AreOnce, IsAcyclic, IsIncluded, IsRead, NodeView}
use Rattle.gixobj_walks_graph.specs.Numbered.{graph_at}
use Rattle.gixobj_walks_marks.proofs.Ends.{candidate_is_base, settled_bases_are_exact}
use Rattle.gixobj_walks_marks.specs.Marks.{HasMarks}
use Rattle.gixobj_walks_marks.specs.Readings.{ReadingView}
use Rattle.gixobj_walks_marks.specs.Settled.{IsCandidate, IsSettledBases}
use Rattle.gixobj_walks.proofs.NamedBases.{candidate_named, candidate_numbered, settled_bases_named, wanted_base_numbered}
use Rattle.gixobj_walks.proofs.NamedLists.{name_extends}
use Rattle.gixobj_walks.proofs.NamedPaths.{below_of_name, named_steps, read_named, read_numbered}
use Rattle.gixobj_walks.proofs.NewestLists.{once_of_newest}
use Rattle.gixobj_walks.proofs.WalkLists.{functional_of_function, named_is_functional, read_or_not_named}
use Rattle.gixobj_walks.specs.Machine.{IsWalking}
use Rattle.gixobj_walks.specs.Named.{Extends, Names, graph_of, named_graph}
use Rattle.gixobj_walks.specs.Newest.{AreNewestFirst, IsNameOf}
use Rattle.gixobj_walks.specs.Search.{IsSearching}

-- the number of a start that has its name
pub start_of_zip : (ids : List ObjectId) (numbers : List ℕ) (id : ObjectId) → AllZip (Names ids) numbers (id ∷ [])
    → (number : ℕ) × (numbers ≡ number ∷ []) × Names ids number id
start_of_zip ids [] id zip = absurd zip
start_of_zip ids (number ∷ []) id zip = (number, refl, zip.0)
start_of_zip ids (number ∷ second ∷ numbers) id zip = absurd zip.1

-- ---- a search

-- what is kept when a search begins
pub searching_begun : (ids : List ObjectId) (reading : ReadingView) (left right : List ℕ) (one other : ObjectId) (Ended : Type 0)
    → AllZip (Names ids) left (one ∷ []) → AllZip (Names ids) right (other ∷ []) → IsWalking ids reading left right false
    → IsSearching ids reading one other false Ended
searching_begun ids reading left right one other Ended one_zip other_zip kept =
    let first = start_of_zip ids left one one_zip in
    let second = start_of_zip ids right other other_zip in
    record {
      one_number = first.0;
      other_number = second.0;
      one_name = first.2;
      other_name = second.2;
      kept = subst (λ starts. IsWalking ids reading (first.0 ∷ []) starts false) second.1
          (subst (λ starts. IsWalking ids reading starts right false) first.1 kept);
      end = λ settled. absurd (not_settled settled);
    }
  where
    not_settled : ¬ IsTrue false
    not_settled is = cc is

-- what is kept when a commit is given
pub searching_given : (old new : List ObjectId) (reading done : ReadingView) (one other : ObjectId) (before settled : Bool) (Ends Ended : Type 0)
    → Extends old new → ((left right : List ℕ) (any : Bool) → IsWalking old reading left right any → IsWalking new done left right false)
    → IsSearching old reading one other before Ends
    → ((one_number other_number : ℕ) → Names new one_number one → Names new other_number other
    → IsWalking new done (one_number ∷ []) (other_number ∷ []) false → IsTrue settled → Ended)
    → IsSearching new done one other settled Ended
searching_given old new reading done one other before settled Ends Ended extends keeps is tested =
    let one_name = name_extends old new extends is.one_number one is.one_name in
    let other_name = name_extends old new extends is.other_number other is.other_name in
    let kept = keeps (is.one_number ∷ []) (is.other_number ∷ []) false is.kept in
    record {
      one_number = is.one_number;
      other_number = is.other_number;
      one_name = one_name;
      other_name = other_name;
      kept = kept;
      end = tested is.one_number is.other_number one_name other_name kept;
    }

-- the end by numbers is the end by names
pub bases_end : (ids : List ObjectId) (reading : ReadingView) (one other : ObjectId) (settled : Bool)
    → ((m n : ℕ) → HasMarks reading.nodes (m ∷ []) reading.left → HasMarks reading.nodes (n ∷ []) reading.right → IsTrue settled
    → IsSettledBases (graph_at reading.nodes) m n)
    → (one_number other_number : ℕ) → Names ids one_number one → Names ids other_number other
    → IsWalking ids reading (one_number ∷ []) (other_number ∷ []) false → IsTrue settled
    → IsSettledBases (named_graph ids reading.nodes) one other
bases_end ids reading one other settled tested one_number other_number one_name other_name kept true_is =
    settled_bases_named ids reading.nodes kept.known kept.lengths kept.distinct one_number other_number one other one_name other_name
    (tested one_number other_number kept.left kept.right true_is)

module _ (ids : List ObjectId) (reading : ReadingView) (one other : ObjectId) (settled : Bool) (Ended : Type 0)
    (is : IsSearching ids reading one other settled Ended) where
  -- if everything that is known is read, the merge bases are found
  pub bases_of_all_read : ((number : ℕ) → number < length reading.nodes → IsRead (graph_at reading.nodes) number)
      → IsSettledBases (named_graph ids reading.nodes) one other
  bases_of_all_read read =
      let kept = is.kept in
      record {
        common = λ id wanted.
            let it = wanted_base_numbered ids reading.nodes kept.known kept.lengths kept.distinct is.one_number is.other_number one other
            is.one_name is.other_name id wanted in
            absurd (it.2.unread (read it.0 (subst (λ n. it.0 < n) (sym kept.lengths) (below_of_name ids it.0 id it.1))));
        below = λ id candidate wanted best.
            let it = wanted_base_numbered ids reading.nodes kept.known kept.lengths kept.distinct is.one_number is.other_number one other
            is.one_name is.other_name id wanted in
            absurd (it.2.unread (read it.0 (subst (λ n. it.0 < n) (sym kept.lengths) (below_of_name ids it.0 id it.1))));
        read = λ candidate best.
            let it = candidate_numbered ids reading.nodes kept.known kept.lengths kept.distinct is.one_number is.other_number one other
            is.one_name is.other_name candidate best in
            read_named ids reading.nodes kept.known kept.lengths it.0 candidate
            (read it.0 (subst (λ n. it.0 < n) (sym kept.lengths) (below_of_name ids it.0 candidate it.1))) it.1;
      }

  module _ (numbers : List ℕ) (exact : (m n : ℕ) → HasMarks reading.nodes (m ∷ []) reading.left
      → HasMarks reading.nodes (n ∷ []) reading.right → (number : ℕ) → Contains numbers number ↔ IsCandidate (graph_at reading.nodes) m n number)
    where
      -- the candidates are read, if reading has ended
      pub candidates_are_read : IsSettledBases (named_graph ids reading.nodes) one other → (number : ℕ) → Contains numbers number
          → IsRead (graph_at reading.nodes) number
      candidates_are_read end number has =
          let kept = is.kept in
          let best = (exact is.one_number is.other_number kept.left kept.right number).0 has in
          let from = reaches_named_end number best in
          read_numbered ids reading.nodes kept.distinct number from.0 (end.read from.0 (candidate_named ids reading.nodes kept.known
          kept.lengths kept.distinct is.one_number is.other_number one other is.one_name is.other_name number from.0 from.1 best)) from.1
        where
          reaches_named_end : (number : ℕ) → IsCandidate (graph_at reading.nodes) is.one_number is.other_number number
              → (id : ObjectId) × Names ids number id
          reaches_named_end number best =
              let path = best.common.from_one in
              let it = named_steps ids reading.nodes is.kept.known is.kept.lengths path.0 is.one_number number one path.1 is.one_name in
              (it.0, it.1)

      module _ (names : List ObjectId) (named : (id : ObjectId) → Contains names id ↔ IsNameOf ids numbers id)
          (first : AreNewestFirst (named_graph ids reading.nodes) names) where
        candidates_named : (id : ObjectId) → Contains names id ↔ IsCandidate (named_graph ids reading.nodes) one other id
        candidates_named id =
            let kept = is.kept in
            let lists = exact is.one_number is.other_number kept.left kept.right in (
              (λ has.
                  let it = (named id).0 has in
                  candidate_named ids reading.nodes kept.known kept.lengths kept.distinct is.one_number is.other_number one other
                  is.one_name is.other_name it.0 id it.2 ((lists it.0).0 it.1)),
              (λ best.
                  let it = candidate_numbered ids reading.nodes kept.known kept.lengths kept.distinct is.one_number is.other_number one other
                  is.one_name is.other_name id best in
                  (named id).1 (it.0, (lists it.0).1 it.2, it.1)),
            )

        listed_once : AreOnce names
        listed_once = once_of_newest (named_graph ids reading.nodes)
            (named_is_functional ids reading (is.one_number ∷ []) (is.other_number ∷ []) false is.kept) names first

        -- the names of the candidates are the merge bases of what was given
        pub bases_of_given : AreMergeBases (named_graph ids reading.nodes) one other names
        bases_of_given = record {
          exact = λ id. (
            (λ has. (candidate_is_base (named_graph ids reading.nodes) one other id).0 ((candidates_named id).0 has)),
            (λ base. (candidates_named id).1 ((candidate_is_base (named_graph ids reading.nodes) one other id).1 base)),
          );
          once = listed_once;
        }

        -- they are those of each graph with what was given, if no commit is an ancestor of itself
        pub bases_in_each : IsSettledBases (named_graph ids reading.nodes) one other → (F : ObjectId → Option (NodeView ObjectId))
            → IsIncluded (named_graph ids reading.nodes) (graph_of F) → IsAcyclic (graph_of F) → AreMergeBases (graph_of F) one other names
        bases_in_each end F included acyclic =
            let same : (id : ObjectId) → IsCandidate (named_graph ids reading.nodes) one other id ↔ IsMergeBase (graph_of F) one other id =
            settled_bases_are_exact (named_graph ids reading.nodes) (graph_of F) one other included (functional_of_function F) acyclic
            (read_or_not_named ids reading (is.one_number ∷ []) (is.other_number ∷ []) false is.kept) end in
            record {
              exact = λ id. (
                (λ has. (same id).0 ((candidates_named id).0 has)),
                (λ base. (candidates_named id).1 ((same id).1 base)),
              );
              once = listed_once;
            }
