-- Each commit has one node, and a store names one commit by an id.
use Rattle.std.proofs.Common.{◌≡◌, ◌∙◌, ◌↔◌, ℕ, List, [], ◌∷◌, Some, ap, map, refl, subst, sym}
use Rattle.std.specs.List.{AllZip}
use Rattle.gixobj_hash.proofs.HexIds.{all_zip_decodes_to_id, decoded_id_unique}
use Rattle.gixobj_hash.specs.Hash.{DecodesToId}
use Rattle.gixobj_hash.specs.Hash.Hex.{decoded_id}
use Rattle.gixobj_hash.specs.declared.hash.kind.Kind as hash
use Rattle.gixobj_hash.specs.declared.hash.object_id.ObjectId.{ObjectId}
use Rattle.gixobj_grammar.proofs.EntireCommits.{commit_unique, parents_are_id_hex}
use Rattle.gixobj_grammar.specs.Commit.{CommitLines, IsCommit}
use Rattle.gixobj_store.specs.Stores.{Objects, StoredObject}
use Rattle.gixobj_walks_commits.proofs.Numbers.{seconds_are_unique, seconds_exist}
use Rattle.gixobj_walks_commits.specs.Nodes.{CommitGraph, IsNodeOf}
use Rattle.gixobj_walks_commits.specs.Seconds.{HasSeconds}
use Rattle.gixobj_walks_graph.specs.Graph.{IsFunctional, NodeView}

ids_of_hexes : (hexes : List (List ℕ)) (ids : List ObjectId) → AllZip DecodesToId hexes ids → ids ≡ map decoded_id hexes
ids_of_hexes [] [] decode = refl
ids_of_hexes [] (id ∷ ids) decode = absurd decode
ids_of_hexes (hex ∷ hexes) [] decode = absurd decode
ids_of_hexes (hex ∷ hexes) (id ∷ ids) decode =
    let first = decoded_id_unique hex id decode.0 in
    let rest = ids_of_hexes hexes ids decode.1 in
    cc (first, rest)

nodes_eq : (a b : NodeView ObjectId) → a.parents ≡ b.parents → a.seconds ≡ b.seconds → a ≡ b
nodes_eq a b parents seconds =
    let P : List ObjectId → NodeView ObjectId = λ it. record { parents = it; seconds = a.seconds } in
    let S : ℕ → NodeView ObjectId = λ it. record { parents = b.parents; seconds = it } in
    ap P parents ∙ ap S seconds

pub node_is_unique : (kind : hash.Kind) (bytes : List ℕ) (a b : NodeView ObjectId) → IsNodeOf kind bytes a → IsNodeOf kind bytes b → a ≡ b
node_is_unique kind bytes a b first second =
    let same = commit_unique kind bytes first.commit second.commit first.decodes second.decodes in
    let parents = ids_of_hexes first.commit.parents a.parents first.parents ∙ ap (λ (it : CommitLines). map decoded_id it.parents) same
    ∙ sym (ids_of_hexes second.commit.parents b.parents second.parents) in
    let line : first.commit.committer ≡ second.commit.committer = ap (λ (it : CommitLines). it.committer) same in
    let seconds = seconds_are_unique second.commit.committer a.seconds b.seconds
    (subst (λ (it : List ℕ). HasSeconds it a.seconds) line first.seconds) second.seconds in
    nodes_eq a b parents seconds

pub node_exists : (kind : hash.Kind) (bytes : List ℕ) → IsCommit kind bytes → (it : NodeView ObjectId) × IsNodeOf kind bytes it
node_exists kind bytes (commit, decodes) =
    let (seconds, has) = seconds_exist commit.committer in (
      record { parents = map decoded_id commit.parents; seconds = seconds },
      record {
        commit = commit;
        decodes = decodes;
        parents = all_zip_decodes_to_id commit.parents (map decoded_id commit.parents) (parents_are_id_hex kind commit.parents decodes.parents) refl;
        seconds = has;
      },
    )

-- the bytes are the encoding of a commit if and only if they have a node
pub is_commit_iff_node_exists : (kind : hash.Kind) (bytes : List ℕ) → IsCommit kind bytes ↔ ((it : NodeView ObjectId) × IsNodeOf kind bytes it)
is_commit_iff_node_exists kind bytes = (node_exists kind bytes, λ some. (some.1.commit, some.1.decodes))

-- an id names one commit of a store
pub commit_graph_is_functional : (objects : Objects) → IsFunctional (CommitGraph objects)
commit_graph_is_functional objects id a b first second =
    let found : Some first.object ≡ Some second.object = sym first.named ∙ second.named in
    let same : first.object ≡ second.object = cc found in
    node_is_unique second.object.object_hash second.object.bytes a b
    (subst (λ (it : StoredObject). IsNodeOf it.object_hash it.bytes a) same first.read) second.read
