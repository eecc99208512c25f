-- What a descent along open directories leaves open, and what changes once the directories above are restored; used
-- for openings, edits and writes by value.
use Rattle.std.proofs.Common.{◌≡◌, ◌≢◌, ◌<◌, ◌+◌, ◌∙◌, ℕ, true, false, cond, List, [], ◌∷◌, ◌++◌, Some, get_or, length, take, refl, sym, ap, subst, arith}
use Rattle.std.specs.Prelude.{reverse}
use Rattle.std.specs.Cmp.Lexicographic.{bytes_decides}
use Rattle.std.proofs.lemmas.List.{append-nil, append_assoc, map-append, reverse-append, reverse-reverse, take_more}
use mathlib.Core.List.{reverse-cons}
use Rattle.bstr.specs.Owned.{bstring_bytes}
use Rattle.bstr.specs.declared.bstring.BString.{BString}
use Rattle.gixobj_tree_entries.specs.Entries.{EntryView}
use Rattle.gixobj_editor_files.specs.Editing.{same_name}
use Rattle.gixobj_editor_files.specs.Edits.{ensured_dirs, or_empty, removed_dirs, upserted_dirs, with_dir, with_directory, with_path}
use Rattle.gixobj_editor_files.specs.Files.{Path}
use Rattle.gixobj_editor_files.specs.Opening.{Dirs, in_dir, in_path}
use Rattle.gixobj_editor_files.proofs.HasTrees.{with_directory_of_tree}
use Rattle.gixobj_hash.specs.declared.hash.object_id.ObjectId.{ObjectId}
use Rattle.gixobj_editor_open.specs.Paths.{names_of}
use Rattle.gixobj_editor_open.specs.Descents.{AreAbove, HasTreeAt, HaveTrees, IsDescended, IsExchanged, inner, rebuilt, with_inner}
use Rattle.gixobj_editor_open.specs.Nested.{Level, Opened, at_side, base_side, bases_of, dirs_of, entries_side}
use Rattle.gixobj_editor_open.proofs.BaseSteps.{OfBase, Settles, unmoved}
use Rattle.gixobj_editor_open.proofs.Exchanges.{at_with_inner}

-- directories at a path of two parts
in_path_append : (path rest : Path) (dirs : Dirs) → in_path (path ++ rest) dirs ≡ in_path rest (in_path path dirs)
in_path_append path rest dirs = λ i at. dirs (append_assoc path rest at i)

with_path_snoc : (path : Path) (name : List ℕ) (next dirs : Dirs) (at : Path)
    → with_path (path ++ name ∷ []) next dirs at ≡ with_path path (with_dir name next (in_path path dirs)) dirs at
with_path_snoc [] name next dirs [] = refl
with_path_snoc [] name next dirs (first ∷ at) = refl
with_path_snoc (n ∷ path) name next dirs [] = refl
with_path_snoc (n ∷ path) name next dirs (first ∷ at) =
    ap (λ o. cond (same_name n first) o (dirs (first ∷ at))) (with_path_snoc path name next (in_dir n dirs) at)

pub with_path_append : (path rest : Path) (next dirs : Dirs) (at : Path)
    → with_path (path ++ rest) next dirs at ≡ with_path path (with_path rest next (in_path path dirs)) dirs at
with_path_append [] rest next dirs at = refl
with_path_append (n ∷ path) rest next dirs [] = refl
with_path_append (n ∷ path) rest next dirs (first ∷ at) =
    ap (λ o. cond (same_name n first) o (dirs (first ∷ at))) (with_path_append path rest next (in_dir n dirs) at)

with_path_same : (path : Path) (next other dirs : Dirs) → ((at : Path) → next at ≡ other at) → (at : Path)
    → with_path path next dirs at ≡ with_path path other dirs at
with_path_same path next other dirs same at = let is : next ≡ other = λ i q. same q i in ap (λ (d : Dirs). with_path path d dirs at) is

pub with_dir_twice : (name : List ℕ) (next other dirs : Dirs) (at : Path) → with_dir name next dirs at ≡ with_dir name next (with_dir name other dirs) at
with_dir_twice name next other dirs [] = refl
with_dir_twice name next other dirs (first ∷ at) =
    elim (same_name name first) as (λ b. cond b (next at) (dirs (first ∷ at)) ≡ cond b (next at) (cond b (other at) (dirs (first ∷ at))))
    [ true ↦ refl | false ↦ refl ]

pub in_dir_with_dir : (name : List ℕ) (next dirs : Dirs) (at : Path) → in_dir name (with_dir name next dirs) at ≡ next at
in_dir_with_dir name next dirs at = ap (λ b. cond b (next at) (dirs (name ∷ at))) ((bytes_decides name name).1 refl)

-- for either list of the open directories
module _ (side : Level → List EntryView) where
  -- the directory reached is at the path
  at_rebuilt : (names : Path) (above here : Opened) → AreAbove names above
      → in_path (reverse names) (at_side side (rebuilt names above here)) ≡ at_side side here
  at_rebuilt [] above here are = refl
  at_rebuilt (name ∷ names) above here are =
      let entire : Dirs = at_side side (rebuilt (name ∷ names) above here) in
      let below : in_path (reverse names) entire ≡ at_side side (with_inner name here above) =
      at_rebuilt names (inner name above) (with_inner name here above) are.1 in
      let inside : in_dir name (at_side side (with_inner name here above)) ≡ at_side side here =
      λ i at. (at_with_inner side name here above are.0 (name ∷ at) ∙ in_dir_with_dir name (at_side side here) (at_side side above) at) i in
      ap (λ (p : Path). in_path p entire) (reverse-cons name names) ∙ in_path_append (reverse names) (name ∷ []) entire ∙ ap (in_dir name) below ∙ inside

  -- another directory in its place changes what is open at and below the path alone
  rebuilt_with : (names : Path) (above here next : Opened) → AreAbove names above → (at : Path)
      → at_side side (rebuilt names above next) at ≡ with_path (reverse names) (at_side side next) (at_side side (rebuilt names above here)) at
  rebuilt_with [] above here next are at = refl
  rebuilt_with (name ∷ names) above here next are at =
      let entire : Dirs = at_side side (rebuilt (name ∷ names) above here) in
      let out : Dirs = at_side side above in
      let below : in_path (reverse names) entire ≡ at_side side (with_inner name here above) =
      at_rebuilt names (inner name above) (with_inner name here above) are.1 in
      let with_dir_is : at_side side (with_inner name here above) ≡ with_dir name (at_side side here) out =
      λ i q. at_with_inner side name here above are.0 q i in
      let step : (q : Path) → at_side side (with_inner name next above) q ≡ with_dir name (at_side side next) (in_path (reverse names) entire) q =
      λ q. at_with_inner side name next above are.0 q ∙ with_dir_twice name (at_side side next) (at_side side here) out q
      ∙ ap (λ (d : Dirs). with_dir name (at_side side next) d q) (sym (below ∙ with_dir_is)) in
      rebuilt_with names (inner name above) (with_inner name here above) (with_inner name next above) are.1 at
      ∙ with_path_same (reverse names) (at_side side (with_inner name next above)) (with_dir name (at_side side next) (in_path (reverse names) entire)) entire
      step at
      ∙ sym (with_path_snoc (reverse names) name (at_side side next) entire at)
      ∙ ap (λ (p : Path). with_path p (at_side side next) entire at) (sym (reverse-cons name names))

-- the bases after a change in the directory reached
bases_with_path : (g : OfBase) (path : Path) (dirs bases next based : Dirs) → ((at : Path) → bases at ≡ g (dirs at) (dirs at) (bases at))
    → ((at : Path) → based at ≡ g (in_path path dirs at) (next at) (in_path path bases at)) → (at : Path)
    → with_path path based bases at ≡ g (dirs at) (with_path path next dirs at) (bases at)
bases_with_path g [] dirs bases next based same inside at = inside at
bases_with_path g (name ∷ path) dirs bases next based same inside [] = same []
bases_with_path g (name ∷ path) dirs bases next based same inside (first ∷ at) =
    elim (same_name name first) as (λ b. same_name name first ≡ b → cond b (with_path path based (in_dir name bases) at) (bases (first ∷ at))
    ≡ g (dirs (first ∷ at)) (cond b (with_path path next (in_dir name dirs) at) (dirs (first ∷ at))) (bases (first ∷ at))) [
      | true ↦ λ is. subst (λ (n : List ℕ). with_path path based (in_dir name bases) at
          ≡ g (dirs (n ∷ at)) (with_path path next (in_dir name dirs) at) (bases (n ∷ at))) ((bytes_decides name first).0 is)
          (bases_with_path g path (in_dir name dirs) (in_dir name bases) next based (λ q. same (name ∷ q)) inside at)
      | false ↦ λ is. same (first ∷ at)
    ] refl

-- a descent to the directory of one name more
have_trees_snoc : (path : Path) (name : List ℕ) (dirs : Dirs) → HaveTrees path dirs → HasTreeAt name (in_path path dirs) → HaveTrees (path ++ name ∷ []) dirs
have_trees_snoc [] name dirs trees tree = (tree, tt)
have_trees_snoc (n ∷ path) name dirs trees tree = (trees.0, have_trees_snoc path name (in_dir n dirs) trees.1 tree)

module _ {names : Path} {old here above : Opened} (descended : IsDescended names old here above) where
  pub at_descent : (side : Level → List EntryView) → in_path names (at_side side old) ≡ at_side side here
  at_descent side = subst (λ (p : Path). in_path p (at_side side old) ≡ at_side side here) (reverse-reverse names)
      (subst (λ (d : Opened). in_path (reverse (reverse names)) (at_side side d) ≡ at_side side here) descended.rebuilt_is
      (at_rebuilt side (reverse names) above here descended.are_above))

  pub is_descended_snoc : (name : List ℕ) (next taken : Opened) → IsExchanged name here above next taken → IsDescended (names ++ name ∷ []) old taken next
  is_descended_snoc name next taken exchanged =
      let back : reverse (names ++ name ∷ []) ≡ name ∷ reverse names = reverse-append names (name ∷ []) in record {
        rebuilt_is = ap (λ (p : Path). rebuilt p next taken) back
            ∙ ap (λ (d : Opened). rebuilt (reverse names) d (with_inner name taken next)) exchanged.inner_again
            ∙ ap (λ (d : Opened). rebuilt (reverse names) above d) exchanged.old_again ∙ descended.rebuilt_is;
        are_above = subst (λ (p : Path). AreAbove p next) (sym back) (
          exchanged.has_again,
          subst (λ (d : Opened). AreAbove (reverse names) d) (sym exchanged.inner_again) descended.are_above,
        );
        trees = have_trees_snoc names name (dirs_of old) descended.trees (subst (HasTreeAt name) (sym (at_descent entries_side)) exchanged.tree);
      }

  module _ (new next : Opened) (new_is : new ≡ rebuilt (reverse names) above next) where
    pub at_ascent : (side : Level → List EntryView) (at : Path) → at_side side new at ≡ with_path names (at_side side next) (at_side side old) at
    at_ascent side at =
        ap (λ (d : Opened). at_side side d at) new_is ∙ rebuilt_with side (reverse names) above here next descended.are_above at
        ∙ ap (λ (p : Path). with_path p (at_side side next) (at_side side (rebuilt (reverse names) above here)) at) (reverse-reverse names)
        ∙ ap (λ (d : Opened). with_path names (at_side side next) (at_side side d) at) descended.rebuilt_is

    pub bases_at_ascent : (g : OfBase) → Settles g → ((at : Path) → bases_of next at ≡ g (dirs_of here at) (dirs_of next at) (bases_of here at))
        → (at : Path) → bases_of new at ≡ g (dirs_of old at) (dirs_of new at) (bases_of old at)
    bases_at_ascent g settles inside at =
        at_ascent base_side at
        ∙ bases_with_path g names (dirs_of old) (bases_of old) (dirs_of next) (bases_of next) (unmoved g settles old)
        (λ q. inside q ∙ ap (λ (d : Dirs). g (d q) (dirs_of next q) (bases_of here q)) (sym (at_descent entries_side))
        ∙ ap (λ (d : Dirs). g (in_path names (dirs_of old) q) (dirs_of next q) (d q)) (sym (at_descent base_side))) at
        ∙ ap (λ o. g (dirs_of old at) o (bases_of old at)) (sym (at_ascent entries_side at))

    -- an unchanged directory leaves all unchanged
    pub ascent_unchanged : next ≡ here → new ≡ old
    ascent_unchanged same = new_is ∙ ap (λ (d : Opened). rebuilt (reverse names) above d) same ∙ descended.rebuilt_is

pub is_descended_nil : (old above : Opened) → IsDescended [] old old above
is_descended_nil old above = record { rebuilt_is = refl; are_above = tt; trees = tt }

-- the first names of a path, with one more
pub names_of_take_more : (path : List BString) (k : ℕ) (name : BString) → k < length path → name ≡ get_or path k name
    → names_of (take (k + 1) path) ≡ names_of (take k path) ++ bstring_bytes name ∷ []
names_of_take_more path k name low is =
    ap names_of (take_more path k name low) ∙ map-append bstring_bytes (take k path) (get_or path k name ∷ [])
    ∙ ap (λ (n : BString). names_of (take k path) ++ bstring_bytes n ∷ []) (sym is)

pub names_of_parts : (path consumed rest : List BString) → path ≡ consumed ++ rest → names_of path ≡ names_of consumed ++ names_of rest
names_of_parts path consumed rest is = ap names_of is ∙ map-append bstring_bytes consumed rest

pub non_empty_of_len : (path : List BString) → 0 < length path → path ≢ []
non_empty_of_len path long none =
    let short : 0 < length {A = BString} [] = subst (λ (p : List BString). 0 < length p) none long in absurd (omega (arith, short))

-- the last name of a path is left first
pub reverse_names_snoc : (path before : List BString) (name : BString) → path ≡ before ++ name ∷ []
    → reverse (names_of path) ≡ bstring_bytes name ∷ reverse (names_of before)
reverse_names_snoc path before name is =
    ap (λ (p : List BString). reverse (names_of p)) is ∙ ap reverse (map-append bstring_bytes before (name ∷ []))
    ∙ reverse-append (names_of before) (bstring_bytes name ∷ [])

-- a removal at a path is one in the directory reached
removed_dirs_append : (path : Path) (name : List ℕ) (rest : Path) (dirs : Dirs) (at : Path)
    → removed_dirs (path ++ name ∷ rest) dirs at ≡ with_path path (removed_dirs (name ∷ rest) (in_path path dirs)) dirs at
removed_dirs_append [] name rest dirs at = refl
removed_dirs_append (n ∷ []) name rest dirs [] = refl
removed_dirs_append (n ∷ []) name rest dirs (first ∷ at) = refl
removed_dirs_append (n ∷ m ∷ path) name rest dirs [] = refl
removed_dirs_append (n ∷ m ∷ path) name rest dirs (first ∷ at) =
    ap (λ o. cond (same_name n first) o (dirs (first ∷ at))) (removed_dirs_append (m ∷ path) name rest (in_dir n dirs) at)

-- the entry of a directory that has one of tree mode is unchanged
same_with_tree : (name : List ℕ) (null : ObjectId) (dirs : Dirs) → HasTreeAt name dirs → Some (with_directory name null (or_empty (dirs []))) ≡ dirs []
same_with_tree name null dirs tree =
    ap (λ o. Some (with_directory name null (or_empty o))) tree.1 ∙ ap Some (with_directory_of_tree name null tree.0 tree.2) ∙ sym tree.1

-- an upsert at a path is one in the directory reached, and so is an ensured directory
upserted_dirs_append : (path : Path) (name : List ℕ) (rest : Path) (mode : ℕ) (id null : ObjectId) (dirs : Dirs) → HaveTrees path dirs → (at : Path)
    → upserted_dirs (path ++ name ∷ rest) mode id null dirs at ≡ with_path path (upserted_dirs (name ∷ rest) mode id null (in_path path dirs)) dirs at
upserted_dirs_append [] name rest mode id null dirs trees at = refl
upserted_dirs_append (n ∷ []) name rest mode id null dirs trees [] = same_with_tree n null dirs trees.0
upserted_dirs_append (n ∷ []) name rest mode id null dirs trees (first ∷ at) = refl
upserted_dirs_append (n ∷ m ∷ path) name rest mode id null dirs trees [] = same_with_tree n null dirs trees.0
upserted_dirs_append (n ∷ m ∷ path) name rest mode id null dirs trees (first ∷ at) =
    ap (λ o. cond (same_name n first) o (dirs (first ∷ at))) (upserted_dirs_append (m ∷ path) name rest mode id null (in_dir n dirs) trees.1 at)

ensured_dirs_append : (path rest : Path) (null : ObjectId) (dirs : Dirs) → HaveTrees path dirs → (at : Path)
    → ensured_dirs (path ++ rest) null dirs at ≡ with_path path (ensured_dirs rest null (in_path path dirs)) dirs at
ensured_dirs_append [] rest null dirs trees at = refl
ensured_dirs_append (n ∷ path) rest null dirs trees [] = same_with_tree n null dirs trees.0
ensured_dirs_append (n ∷ path) rest null dirs trees (first ∷ at) =
    ap (λ o. cond (same_name n first) o (dirs (first ∷ at))) (ensured_dirs_append path rest null (in_dir n dirs) trees.1 at)

-- an edit in the directory reached is one at the entire path
module _ (path consumed rest : List BString) (path_is : path ≡ consumed ++ rest) {old here above : Opened} (new next : Opened)
    (descended : IsDescended (names_of consumed) old here above) (new_is : new ≡ rebuilt (reverse (names_of consumed)) above next) where
  names_are : names_of path ≡ names_of consumed ++ names_of rest
  names_are = names_of_parts path consumed rest path_is

  pub bases_of_ascent : (g : OfBase) → Settles g
      → ((at : Path) → bases_of next at ≡ g (dirs_of here at) (dirs_of next at) (bases_of here at)) → (at : Path)
      → bases_of new at ≡ g (dirs_of old at) (dirs_of new at) (bases_of old at)
  bases_of_ascent g settles inside = bases_at_ascent descended new next new_is g settles inside

  -- a change in the directory reached, by what it is at the entire path
  of_ascent : (change : Dirs → Dirs) (entire : Dirs) → ((at : Path) → dirs_of next at ≡ change (dirs_of here) at)
      → ((at : Path) → entire at ≡ with_path (names_of consumed) (change (in_path (names_of consumed) (dirs_of old))) (dirs_of old) at) → (at : Path)
      → dirs_of new at ≡ entire at
  of_ascent change entire inside append at =
      at_ascent descended new next new_is entries_side at
      ∙ with_path_same (names_of consumed) (dirs_of next) (change (in_path (names_of consumed) (dirs_of old))) (dirs_of old)
      (λ q. inside q ∙ ap (λ (d : Dirs). change d q) (sym (at_descent descended entries_side))) at ∙ sym (append at)

  pub removed_of_ascent : rest ≢ [] → ((at : Path) → dirs_of next at ≡ removed_dirs (names_of rest) (dirs_of here) at) → (at : Path)
      → dirs_of new at ≡ removed_dirs (names_of path) (dirs_of old) at
  removed_of_ascent filled inside at =
      of_ascent (removed_dirs (names_of rest)) (removed_dirs (names_of path) (dirs_of old)) inside
      (λ q. ap (λ (p : Path). removed_dirs p (dirs_of old) q) names_are ∙ append rest filled q) at
    where
      append : (r : List BString) → r ≢ [] → (q : Path) → removed_dirs (names_of consumed ++ names_of r) (dirs_of old) q
          ≡ with_path (names_of consumed) (removed_dirs (names_of r) (in_path (names_of consumed) (dirs_of old))) (dirs_of old) q
      append [] some q = absurd (some refl)
      append (name ∷ r) some q = removed_dirs_append (names_of consumed) (bstring_bytes name) (names_of r) (dirs_of old) q

  pub upserted_of_ascent : (mode : ℕ) (id null : ObjectId) → rest ≢ []
      → ((at : Path) → dirs_of next at ≡ upserted_dirs (names_of rest) mode id null (dirs_of here) at) → (at : Path)
      → dirs_of new at ≡ upserted_dirs (names_of path) mode id null (dirs_of old) at
  upserted_of_ascent mode id null filled inside at =
      of_ascent (upserted_dirs (names_of rest) mode id null) (upserted_dirs (names_of path) mode id null (dirs_of old)) inside
      (λ q. ap (λ (p : Path). upserted_dirs p mode id null (dirs_of old) q) names_are ∙ append rest filled q) at
    where
      append : (r : List BString) → r ≢ [] → (q : Path) → upserted_dirs (names_of consumed ++ names_of r) mode id null (dirs_of old) q
          ≡ with_path (names_of consumed) (upserted_dirs (names_of r) mode id null (in_path (names_of consumed) (dirs_of old))) (dirs_of old) q
      append [] some q = absurd (some refl)
      append (name ∷ r) some q = upserted_dirs_append (names_of consumed) (bstring_bytes name) (names_of r) mode id null (dirs_of old) descended.trees q

  pub ensured_of_ascent : (null : ObjectId) → ((at : Path) → dirs_of next at ≡ ensured_dirs (names_of rest) null (dirs_of here) at) → (at : Path)
      → dirs_of new at ≡ ensured_dirs (names_of path) null (dirs_of old) at
  ensured_of_ascent null inside at =
      of_ascent (ensured_dirs (names_of rest) null) (ensured_dirs (names_of path) null (dirs_of old)) inside
      (λ q. ap (λ (p : Path). ensured_dirs p null (dirs_of old) q) names_are
      ∙ ensured_dirs_append (names_of consumed) (names_of rest) null (dirs_of old) descended.trees q) at

  pub written_of_ascent : (last : Dirs) → ((at : Path) → dirs_of next at ≡ with_path (names_of rest) last (dirs_of here) at) → (at : Path)
      → dirs_of new at ≡ with_path (names_of path) last (dirs_of old) at
  written_of_ascent last inside at =
      of_ascent (with_path (names_of rest) last) (with_path (names_of path) last (dirs_of old)) inside
      (λ q. ap (λ (p : Path). with_path p last (dirs_of old) q) names_are ∙ with_path_append (names_of consumed) (names_of rest) last (dirs_of old) q) at

-- what is at the rest of the path in the directory reached is at the entire path
pub at_path_of_descent : (path consumed rest : List BString) → path ≡ consumed ++ rest → {old here above : Opened}
    → IsDescended (names_of consumed) old here above → (side : Level → List EntryView)
    → in_path (names_of rest) (at_side side here) ≡ in_path (names_of path) (at_side side old)
at_path_of_descent path consumed rest path_is {old} descended side =
    ap (in_path (names_of rest)) (sym (at_descent descended side)) ∙ sym (in_path_append (names_of consumed) (names_of rest) (at_side side old))
    ∙ ap (λ (p : Path). in_path p (at_side side old)) (sym (names_of_parts path consumed rest path_is))

pub dirs_of_descent : (path consumed rest : List BString) → path ≡ consumed ++ rest → {old here above : Opened}
    → IsDescended (names_of consumed) old here above → dirs_of here (names_of rest) ≡ dirs_of old (names_of path)
dirs_of_descent path consumed rest path_is {old} {here} descended =
    ap (dirs_of here) (sym (append-nil (names_of rest)))
    ∙ ap (λ (d : Dirs). d []) (at_path_of_descent path consumed rest path_is descended entries_side) ∙ ap (dirs_of old) (append-nil (names_of path))
