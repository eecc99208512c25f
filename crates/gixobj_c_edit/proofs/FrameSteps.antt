-- Frames that follow each other; the proofs of `split_frame`, `tree_header` and `store_of` use them.
use Rattle.std.proofs.Common.{◌≡◌, ◌≢◌, ◌<◌, ◌-◌, ◌==◌, ◌∷◌, ◌++◌, ◌∙◌, ap, arith, drop, inl, inr, length, length-append, false, refl, sym, take, true, ℕ, List}
use Rattle.std.proofs.Common.{[]}
use Rattle.std.proofs.lemmas.Bool.{eqb-true}
use Rattle.std.proofs.lemmas.List.{length-drop, length-take-le}
use Rattle.std.specs.FinMap as map
use Rattle.std.specs.Prelude.{Err, None, Ok, Option, Result, Some}
use Rattle.gixobj_c_edit.specs.Frames.{AreFrames, AreNoFrames, BeginsWithFrame, HoldsFrames, IsInserted, NextFrame, Parts, lossy_tree, objects_of, stored_tree}
use Rattle.gixobj_c_edit.specs.Frames.{other_tree, with_contents}
use Rattle.gixobj_c_edit.specs.declared.frames.Given.{Given}
use Rattle.gixobj_hash.proofs.Runs.{begins_with_pieces_snoc, yields_of_begins_with_pieces}
use Rattle.gixobj_hash.specs.Runs.{HasNoPiece, BeginsWithPieces, Yields, broken, complete, yields_end, yields_error}
use Rattle.gixobj_hash.proofs.Headers.{parts_of_loose_header}
use Rattle.gixobj_hash.specs.Decode.{HasLooseHeaderOfLength}
use Rattle.gixobj_hash.specs.Hash.{id_of}
use Rattle.gixobj_hash.specs.declared.hash.kind.Kind as hash
use Rattle.gixobj_hash.specs.declared.kind.Kind.{Kind}
use Rattle.gixobj_hash.specs.declared.kind.Kind.TheVariants as kind
use Rattle.gixobj_store.specs.Stores.{Objects}
use Rattle.gixobj_store_keep.specs.Memory.{memory_objects}

pub not_nil_of_test : (xs : List ℕ) → (length xs == 0) ≡ false → xs ≢ []
not_nil_of_test [] is = cc is
not_nil_of_test (x ∷ xs) is = λ none. cc none

pub nil_of_test : (xs : List ℕ) → (length xs == 0) ≡ true → xs ≡ []
nil_of_test [] is = refl
nil_of_test (x ∷ xs) is = absurd (let e : length (x ∷ xs) ≡ 0 = eqb-true (length (x ∷ xs)) 0 is in omega (arith, e))

-- ---- one header

abbrev header_of : {E : Type 0} → Result (Kind × ℕ × ℕ) E → Kind × ℕ × ℕ
header_of (Ok it) = it
header_of (Err error) = (kind.Tree, 0, 0)

module _ {E : Type 0} (result : Result (Kind × ℕ × ℕ) E) (header : Kind × ℕ × ℕ) (is : result ≡ Ok header) where
  pub same_header : (n m : ℕ) → result ≡ Ok (kind.Tree, n, m) → ◌≡◌ {A = Option (ℕ × ℕ)} (Some (header.1, header.2)) (Some (n, m))
  same_header n m tree = ap (λ (it : Result (Kind × ℕ × ℕ) E). Some ((header_of it).1, (header_of it).2)) (sym is ∙ tree)

  pub is_kind_of_tree : (n m : ℕ) → result ≡ Ok (kind.Tree, n, m) → header.0 ≡ kind.Tree
  is_kind_of_tree n m tree = ap (λ (it : Result (Kind × ℕ × ℕ) E). (header_of it).0) (sym is ∙ tree)

-- ---- one frame

abbrev pair_of : Option (ℕ × ℕ) → ℕ × ℕ
pair_of (Some it) = it
pair_of None = (0, 0)

module _ (input : List ℕ) (result : Option (ℕ × ℕ))
    (accepts : (size used : ℕ) → HasLooseHeaderOfLength input kind.Tree size used → result ≡ Some (size, used)) where
  pub no_frame_of_none : result ≡ None → HasNoPiece NextFrame tt input
  no_frame_of_none none = λ content following rest is. absurd (cc (none, accepts (length content) is.used is.header))

  pub no_frame_of_short : (size used : ℕ) → result ≡ Some (size, used)
      → length (take (length input - used) (drop used input)) < size → HasNoPiece NextFrame tt input
  no_frame_of_short size used some short = λ content following rest is.
      let len = length-drop used input in
      let tail = length-take-le (length input - used) (drop used input) (omega (arith, len)) in
      let same : ◌≡◌ {A = Option (ℕ × ℕ)} (Some (size, used)) (Some (length content, is.used)) = sym some ∙ accepts (length content) is.used is.header in
      let size_same : size ≡ length content = ap (λ (it : Option (ℕ × ℕ)). (pair_of it).0) same in
      let used_same : used ≡ is.used = ap (λ (it : Option (ℕ × ℕ)). (pair_of it).1) same in
      let all : length (drop used input) ≡ length (content ++ rest) = ap (λ (n : ℕ). length (drop n input)) used_same ∙ ap length is.joined in
      absurd (omega (arith, size_same, all, length-append content rest, short, len, tail))

pub frame_len_lt : (input content rest : List ℕ) → BeginsWithFrame input content rest → length rest < length input
frame_len_lt input content rest is =
    let parts = parts_of_loose_header input kind.Tree (length content) is.used is.header in
    let all : length (drop is.used input) ≡ length (content ++ rest) = ap length is.joined in
    omega (arith, parts.len, is.header.0, all, length-append content rest, length-drop is.used input)

-- ---- several frames

pub with_contents_snoc : (hash : hash.Kind) (contents : List (List ℕ)) (content : List ℕ) (objects : Objects)
    → with_contents hash (contents ++ content ∷ []) objects
    ≡ map.insert (with_contents hash contents objects) (id_of hash kind.Tree content) (record { kind = kind.Tree; object_hash = hash; bytes = content })
with_contents_snoc hash [] content objects = refl
with_contents_snoc hash (first ∷ contents) content objects = with_contents_snoc hash contents content _

pub objects_snoc : (hash : hash.Kind) (contents : List (List ℕ)) (content : List ℕ) (old new : Objects)
    → new ≡ map.insert old (id_of hash kind.Tree content) (stored_tree hash content) → old ≡ objects_of hash contents
    → new ≡ objects_of hash (contents ++ content ∷ [])
objects_snoc hash contents content old new inserted is =
    inserted ∙ ap (λ (objects : Objects). map.insert objects (id_of hash kind.Tree content) (stored_tree hash content)) is
    ∙ sym (with_contents_snoc hash contents content map.empty)

module _ (bytes rest : List ℕ) (contents : List (List ℕ)) (begins_with : BeginsWithPieces NextFrame tt bytes contents tt rest) where
  pub frames_snoc : (content after : List ℕ) → BeginsWithFrame rest content after → BeginsWithPieces NextFrame tt bytes (contents ++ content ∷ []) tt after
  frames_snoc content after is = begins_with_pieces_snoc NextFrame tt tt tt bytes rest after contents content begins_with is

  pub frames_end : rest ≡ [] → AreFrames bytes contents
  frames_end none =
      let yields : Yields NextFrame tt rest [] complete = rw none (yields_end tt) in
      yields_of_begins_with_pieces NextFrame tt tt bytes rest contents complete begins_with yields

  pub frames_broken : rest ≢ [] → HasNoPiece NextFrame tt rest → AreNoFrames bytes
  frames_broken some none =
      let yields : Yields NextFrame tt rest [] broken = yields_error tt rest some none in
      (contents, yields_of_begins_with_pieces NextFrame tt tt bytes rest contents broken begins_with yields)

-- ---- the stores

-- the trees of the frames so far, those that aren't lossy, and those that are
abbrev pub FramesSoFar : hash.Kind → List ℕ → List ℕ → Given → Type 0
FramesSoFar hash bytes rest given = (contents : List (List ℕ)) × (others : List (List ℕ)) × (lossy : List (List ℕ))
    × BeginsWithPieces NextFrame tt bytes contents tt rest × Parts hash contents others lossy
    × (memory_objects given.trees ≡ objects_of hash others) × (memory_objects given.lossy ≡ objects_of hash lossy)

pub frames_inserted : (hash : hash.Kind) (bytes rest content after : List ℕ) (old new : Given) → FramesSoFar hash bytes rest old
    → BeginsWithFrame rest content after → IsInserted hash content old new → FramesSoFar hash bytes after new
frames_inserted hash bytes rest content after old new (contents, others, lossy, begins, parts, trees, apart) is (inl (not_lossy, inserted, same)) = (
  contents ++ content ∷ [],
  others ++ content ∷ [],
  lossy,
  frames_snoc bytes rest contents begins content after is,
  other_tree contents others lossy content parts not_lossy,
  objects_snoc hash others content (memory_objects old.trees) (memory_objects new.trees) inserted trees,
  same ∙ apart,
)
frames_inserted hash bytes rest content after old new (contents, others, lossy, begins, parts, trees, apart) is (inr (is_lossy, inserted, same)) = (
  contents ++ content ∷ [],
  others,
  lossy ++ content ∷ [],
  frames_snoc bytes rest contents begins content after is,
  lossy_tree contents others lossy content parts is_lossy,
  same ∙ trees,
  objects_snoc hash lossy content (memory_objects old.lossy) (memory_objects new.lossy) inserted apart,
)

pub frames_held : (hash : hash.Kind) (bytes rest : List ℕ) (given : Given) → FramesSoFar hash bytes rest given → rest ≡ [] → HoldsFrames hash bytes given
frames_held hash bytes rest given (contents, others, lossy, begins, parts, trees, apart) none = record {
  contents = contents;
  other_contents = others;
  lossy_contents = lossy;
  frames = frames_end bytes rest contents begins none;
  parts = parts;
  others_are = trees;
  lossy_are = apart;
}
