-- Names of a path in bytes, split off one after the other; used for `lookup_entry_by_path` and its helpers.
use Rattle.std.proofs.Common.{◌≡◌, ◌≢◌, ◌<◌, ◌++◌, ◌∷◌, ℕ, List, [], ap, append_assoc, arith, length, nat_eq, refl, subst, sym, ◌∙◌}
use Rattle.std.proofs.Math.Dec.{eqb-suc-zero}
use Rattle.std.proofs.lemmas.List.{nil_from_length}
use Rattle.std.proofs.lemmas.List.Elements.{All-nil}
use Rattle.std.specs.Prelude.{MatchBool}
use Rattle.gixobj_hash.proofs.SplitsAtEach.{is_split_at_each_append, are_prefixes_nil, are_prefixes_snoc, is_split_at_each_of_byte_free, split_at_each_unique}
use Rattle.gixobj_hash.proofs.SplitsAtEach.{split_at_each_exists}
use Rattle.gixobj_hash.specs.Bytes.{slash}
use Rattle.gixobj_hash.specs.Splits.{IsSplitAtEach}
use Rattle.gixobj_hash.specs.ByteStrings.{IsByteFree, SplitsAt}
use Rattle.gixobj_store.specs.Lookups.{AreNamesOf, Name, SplitsName, named_parts}

-- ---- each path has one list of names

pub path_names : List ℕ → List Name
path_names path = named_parts (split_at_each_exists slash path).0

pub are_names_of_path : (path : List ℕ) → AreNamesOf path (path_names path)
unfolding path_names
are_names_of_path path = ((split_at_each_exists slash path).0, (split_at_each_exists slash path).1, refl)

pub path_names_unique : (path : List ℕ) (a b : List Name) → AreNamesOf path a → AreNamesOf path b → a ≡ b
path_names_unique path a b (parts, has_split, is) (others, has_split', is') = is
    ∙ ap named_parts (split_at_each_unique slash path parts others has_split has_split') ∙ sym is'

-- ---- what precedes the names

split_at_each_cons : (path part following : List ℕ) (parts : List (List ℕ)) → SplitsAt slash path part following → IsSplitAtEach slash following parts
    → IsSplitAtEach slash path (part ∷ parts)
split_at_each_cons path part following parts splits has_split = is_split_at_each_append slash path following (part ∷ []) parts
    (are_prefixes_snoc slash path path [] part following (are_prefixes_nil slash path) splits) has_split

-- a slash before a path adds no name
pub are_names_after_slash : (path following : List ℕ) (names : List Name) → path ≡ slash ∷ following → AreNamesOf following names → AreNamesOf path names
are_names_after_slash path following names is (parts, has_split, are) =
    ([] ∷ parts, split_at_each_cons path [] following parts (record { joined = is; first = All-nil (λ (it : ℕ). it ≢ slash) }) has_split, are)

are_names_of_cons : (path name following : List ℕ) (names : List Name) → name ≢ [] → SplitsAt slash path name following → AreNamesOf following names
    → AreNamesOf path (name ∷ names)
are_names_of_cons path [] following names some splits are = absurd (some refl)
are_names_of_cons path (byte ∷ name) following names some splits (parts, has_split, are) =
    ((byte ∷ name) ∷ parts, split_at_each_cons path (byte ∷ name) following parts splits has_split, ap (λ (it : List Name). (byte ∷ name) ∷ it) are)

are_names_of_one_part : (path : List ℕ) → IsByteFree slash path → AreNamesOf path (named_parts (path ∷ []))
are_names_of_one_part path free = (path ∷ [], is_split_at_each_of_byte_free slash path free, refl)

pub are_names_of_nil : AreNamesOf [] []
are_names_of_nil = are_names_of_one_part [] (All-nil (λ (it : ℕ). it ≢ slash))

are_names_of_one_name : (path : List ℕ) → path ≢ [] → IsByteFree slash path → AreNamesOf path (path ∷ [])
are_names_of_one_name [] some free = absurd (some refl)
are_names_of_one_name (byte ∷ path) some free = are_names_of_one_part (byte ∷ path) free

-- a path that is not empty and has no slash before it has a name
names_ne_nil_of_path : (path : List ℕ) (names : List Name) → ((rest : List ℕ) → path ≢ slash ∷ rest) → AreNamesOf path names → path ≢ [] → names ≢ []
names_ne_nil_of_path [] names other are some none = some refl
names_ne_nil_of_path (byte ∷ path) names other ([], has_split, is) some none = cc (has_split.joined)
names_ne_nil_of_path (byte ∷ path) names other ([] ∷ parts, has_split, is) some none = let here : byte ≡ slash = cc (has_split.joined) in
    other path (ap (λ (it : ℕ). it ∷ path) here)
names_ne_nil_of_path (byte ∷ path) names other ((first ∷ part) ∷ parts, has_split, is) some none = cc (sym is ∙ none)

-- ---- the first name

name_before_slash_ne_nil : (path name following : List ℕ) → SplitsAt slash path name following → ((rest : List ℕ) → path ≢ slash ∷ rest) → name ≢ []
name_before_slash_ne_nil path name following splits other none = other following (splits.joined ∙ ap (λ (it : List ℕ). it ++ slash ∷ following) none)

-- the bytes before a slash are the first name of a path that begins with no slash
pub splits_name_at_slash : (path bytes name following rest : List ℕ) → ((names : List Name) → AreNamesOf bytes names → AreNamesOf path names)
    → ((more : List ℕ) → bytes ≢ slash ∷ more) → SplitsAt slash bytes name following
    → ((names : List Name) → AreNamesOf rest names → AreNamesOf following names) → ((more : List ℕ) → rest ≢ slash ∷ more) → SplitsName path name rest
splits_name_at_slash path bytes name following rest same other splits same' other' =
    let others = path_names rest in
    let are = are_names_of_path rest in (
      others,
      same (name ∷ others) (are_names_of_cons bytes name following others (name_before_slash_ne_nil bytes name following splits other) splits
          (same' others are)),
      are,
      names_ne_nil_of_path rest others other' are,
    )

-- a path without a slash is one name
pub splits_name_at_end : (path bytes rest : List ℕ) → ((names : List Name) → AreNamesOf bytes names → AreNamesOf path names) → bytes ≢ []
    → IsByteFree slash bytes
    → rest ≡ [] → SplitsName path bytes rest
splits_name_at_end path bytes rest same some free none = (
  [],
  same (bytes ∷ []) (are_names_of_one_name bytes some free),
  subst (λ (it : List ℕ). AreNamesOf it []) (sym none) are_names_of_nil,
  λ more. absurd
      (more none),
)

pub are_names_of_slashes : (path bytes : List ℕ) → ((names : List Name) → AreNamesOf bytes names → AreNamesOf path names) → length bytes ≡ 0
    → AreNamesOf path []
are_names_of_slashes path bytes same none = same [] (subst (λ (it : List ℕ). AreNamesOf it []) (sym (nil_from_length bytes none)) are_names_of_nil)

-- ---- the last name

pub split_rest_nil_iff : (path name rest : List ℕ) → (split : SplitsName path name rest) → MatchBool (nat_eq (length rest) 0) (split.0 ≡ []) (split.0 ≢ [])
split_rest_nil_iff path name [] (others, entire, remaining, some) = path_names_unique [] others [] remaining are_names_of_nil
split_rest_nil_iff path name (byte ∷ rest) (others, entire, remaining, some) = rw (eqb-suc-zero (length rest)) (some (λ none. cc none))

-- ---- all names

append_cons_ne_nil : (names : List Name) (name : Name) (more : List Name) → names ++ name ∷ more ≢ []
append_cons_ne_nil [] name more none = cc none
append_cons_ne_nil (first ∷ names) name more none = cc none

-- a path has the name that is split off, and then the names of the rest
pub path_names_of_split : (path name rest : List ℕ) → SplitsName path name rest → path_names path ≡ name ∷ path_names rest
path_names_of_split path name rest (others, are, remaining, some) =
    path_names_unique path (path_names path) (name ∷ others) (are_names_of_path path) are
    ∙ ap (λ (it : List Name). name ∷ it) (path_names_unique rest others (path_names rest) remaining (are_names_of_path rest))

-- the rest has one name less
pub rest_names_len_lt : (path name rest : List ℕ) → SplitsName path name rest → length (path_names rest) < length (path_names path)
rest_names_len_lt path name rest split = rw (path_names_of_split path name rest split) (omega arith)

-- a name that is split off the rest is the next name of the path
pub path_names_snoc : (path rest name following : List ℕ) (names : List Name) → path_names path ≡ names ++ path_names rest
    → SplitsName rest name following → path_names path ≡ (names ++ name ∷ []) ++ path_names following
path_names_snoc path rest name following names are split =
    are ∙ ap (λ (it : List Name). names ++ it) (path_names_of_split rest name following split)
    ∙ sym (append_assoc names (name ∷ []) (path_names following))

-- a path whose rest has a name has names
pub path_has_names : (path rest name following : List ℕ) (names : List Name) → path_names path ≡ names ++ path_names rest
    → SplitsName rest name following → ¬ AreNamesOf path []
path_has_names path rest name following names are split none =
    append_cons_ne_nil names name (path_names following)
    (sym (are ∙ ap (λ (it : List Name). names ++ it) (path_names_of_split rest name following split))
    ∙ path_names_unique path (path_names path) [] (are_names_of_path path) none)
