-- An entry found by name is unique, and a path continues in the object that its entry names; used for path lookups.
use Rattle.std.proofs.Common.{◌≡◌, ◌≢◌, ◌⊎◌, ◌++◌, ◌∷◌, ℕ, List, [], ap, append_assoc, arith, drop, inl, inr, refl, subst, sym, ⊎_elim, ◌∙◌}
use Rattle.std.proofs.lemmas.List.Elements.{All-head, All-tail}
use Rattle.std.specs.Prelude.{Bool, IsTrue, Option, Some, None}
use Rattle.gixobj_hash.specs.Runs as runs
use Rattle.gixobj_hash.specs.Runs.{Ending, yields_end, yields_error, yields_piece}
use Rattle.gixobj_hash.specs.declared.hash.kind.Kind as hash
use Rattle.gixobj_hash.specs.declared.hash.object_id.ObjectId.{ObjectId}
use Rattle.gixobj_hash.specs.declared.kind.Kind.{Kind}
use Rattle.gixobj_hash.specs.declared.kind.Kind.TheVariants.{Blob, Commit, Tag, Tree}
use Rattle.gixobj_tree_entries.specs.Entries.{EntryView}
use Rattle.gixobj_tree_entries.proofs.OneEntry.{entry_unique, entry_rest_len_lt}
use Rattle.gixobj_tree_entries.specs.TreeDecoding.{BeginsWithEntry, EntryStep, YieldsEntries}
use Rattle.std.specs.Option.{option_map}
use Rattle.std.specs.declared.ops.ControlFlow.{ControlFlow}
use Rattle.std.specs.declared.ops.ControlFlow.TheVariants.{Break, Continue}
use Rattle.gixobj_tree_entries.specs.EntryViews.{entry_view}
use Rattle.gixobj_tree_entries.specs.declared.entry_ref.EntryRef.{EntryRef}
use Rattle.gixobj_store.specs.Lookups.{FoundIn, HasFirstNamed, HasNoEntryNamed, IsAtPath, IsNamed, IsPath, IsStep, LeadsTo, Name, IsPathError}
use Rattle.gixobj_store.specs.Stores.{Objects, IsFindError, StoredObject, named}
use Rattle.gixobj_store.specs.declared.find.Error.{Error}
use Rattle.gixobj_store.specs.declared.find.Error.TheVariants.{OutOfMemory, Store}

-- ---- uniqueness of the first entry of a name

-- this entry of the name comes after entries of other names
abbrev pub Comes : hash.Kind → List ℕ → List EntryView → Name → EntryView → Type 0
Comes kind input consumed name e = (here rest : List ℕ) × runs.BeginsWithPieces (EntryStep kind) tt input consumed tt here × BeginsWithEntry kind here e rest
    × runs.HasNone (IsNamed name) consumed × IsNamed name e

has_none_named_head : (name : Name) (x : EntryView) (others : List EntryView) → runs.HasNone (IsNamed name) (x ∷ others) → ¬ IsNamed name x
has_none_named_head name x others none = All-head (λ (it : EntryView). ¬ IsNamed name it) x others none

has_none_named_tail : (name : Name) (x : EntryView) (others : List EntryView) → runs.HasNone (IsNamed name) (x ∷ others) → runs.HasNone (IsNamed name) others
has_none_named_tail name x others none = All-tail (λ (it : EntryView). ¬ IsNamed name it) x others none

comes_unique : (kind : hash.Kind) (input : List ℕ) (name : Name) (consumed others : List EntryView) (e it : EntryView) → Comes kind input consumed name e
    → Comes kind input others name it → e ≡ it
comes_unique kind input name [] [] e it (here, rest, (_, same), has, none, is) (here', rest', (_, same'), has', none', is') =
    (entry_unique kind here e it rest rest' has (subst (λ (at : List ℕ). BeginsWithEntry kind at it rest') (sym same' ∙ same) has')).0
comes_unique kind input name [] (x ∷ others) e it (here, rest, (_, same), has, none, is) (here', rest', (_, after, first, on), has', none', is') =
    absurd (has_none_named_head name x others none'
    (sym (ap (λ (y : EntryView). y.name)
    (entry_unique kind input e x rest after (subst (λ (at : List ℕ). BeginsWithEntry kind at e rest) (sym same) has) first).0) ∙ is))
comes_unique kind input name (x ∷ consumed) [] e it (here, rest, (_, after, first, on), has, none, is) (here', rest', (_, same'), has', none', is') =
    absurd (has_none_named_head name x consumed none
    (sym (ap (λ (y : EntryView). y.name)
    (entry_unique kind input it x rest' after (subst (λ (at : List ℕ). BeginsWithEntry kind at it rest') (sym same') has') first).0) ∙ is'))
comes_unique kind input name (x ∷ consumed) (y ∷ others) e it (here, rest, (_, after, first, on), has, none, is)
    (here', rest', (_, after', first', on'), has', none', is') =
    let (same_entry, same_rest) = entry_unique kind input x y after after' first first' in
    comes_unique kind after name consumed others e it (here, rest, on, has, has_none_named_tail name x consumed none, is) (
      here',
      rest',
      subst (λ (at : List ℕ). runs.BeginsWithPieces (EntryStep kind) tt at others tt here') (sym same_rest) on',
      has',
      has_none_named_tail name y others none',
      is',
    )

comes_of_has_first_named : (kind : hash.Kind) (input : List ℕ) (name : Name) (e : EntryView) → HasFirstNamed kind input name e → (consumed : List EntryView)
    × Comes kind input consumed name e
comes_of_has_first_named kind input name e ((_, _, here, rest, (consumed, on, none), has), is) = (consumed, (here, rest, on, has, none, is))

pub first_named_unique : (kind : hash.Kind) (input : List ℕ) (name : Name) (e it : EntryView) → HasFirstNamed kind input name e
    → HasFirstNamed kind input name it
    → e ≡ it
first_named_unique kind input name e it first first' =
    let (consumed, comes) = comes_of_has_first_named kind input name e first in
    let (others, comes') = comes_of_has_first_named kind input name it first' in
    comes_unique kind input name consumed others e it comes comes'

-- ---- a run without an entry of the name finds none

no_entry_in_nil : (kind : hash.Kind) (e : EntryView) (rest : List ℕ) → ¬ BeginsWithEntry kind [] e rest
no_entry_in_nil kind e rest has = let less = entry_rest_len_lt kind [] e rest has in omega (arith, less)

not_comes_of_has_none : (kind : hash.Kind) (input : List ℕ) (name : Name) (seen consumed : List EntryView) (ending : Ending) (e : EntryView)
    → YieldsEntries kind input seen ending → runs.HasNone (IsNamed name) seen → ¬ Comes kind input consumed name e
not_comes_of_has_none kind input name seen [] ending e (yields_end _) lacks (here, rest, (_, same), has, none, is) =
    no_entry_in_nil kind e rest (subst (λ (at : List ℕ). BeginsWithEntry kind at e rest) (sym same) has)
not_comes_of_has_none kind input name seen (x ∷ consumed) ending e (yields_end _) lacks (here, rest, (_, after, first, on), has, none, is) =
    no_entry_in_nil kind x after first
not_comes_of_has_none kind input name seen [] ending e (yields_error _ _ some nothing) lacks (here, rest, (_, same), has, none, is) =
    nothing e tt rest (subst (λ (at : List ℕ). BeginsWithEntry kind at e rest) (sym same) has)
not_comes_of_has_none kind input name seen (x ∷ consumed) ending e (yields_error _ _ some nothing) lacks (here, rest, (_, after, first, on), has, none, is) =
    nothing x tt after first
not_comes_of_has_none kind input name seen [] ending e (yields_piece _ _ _ following y more _ first' seen') lacks (here, rest, (_, same), has, none, is) =
    has_none_named_head name y more lacks
    (sym (ap (λ (y : EntryView). y.name)
    (entry_unique kind input e y rest following (subst (λ (at : List ℕ). BeginsWithEntry kind at e rest) (sym same) has) first').0) ∙ is)
not_comes_of_has_none kind input name seen (x ∷ consumed) ending e (yields_piece _ _ _ following y more _ first' seen') lacks
    (here, rest, (_, after, first, on), has, none, is) =
    let same_rest = (entry_unique kind input x y after following first first').1 in
    not_comes_of_has_none kind following name more consumed ending e seen' (has_none_named_tail name y more lacks) (
      here,
      rest,
      subst (λ (at : List ℕ). runs.BeginsWithPieces (EntryStep kind) tt at consumed tt here) same_rest on,
      has,
      has_none_named_tail name x consumed
          none,
      is,
    )

pub no_entry_named_of_search : (kind : hash.Kind) (input : List ℕ) (name : Name) (ending : Ending)
    → runs.YieldsNone (EntryStep kind) (IsNamed name) tt input ending
    → HasNoEntryNamed kind input name
no_entry_named_of_search kind input name ending (seen, yields, lacks) e first =
    let (consumed, comes) = comes_of_has_first_named kind input name e first in
    not_comes_of_has_none kind input name seen consumed ending e yields lacks comes

-- ---- paths

pub leads_to_last_name : (objects : Objects) (tree : StoredObject) (name : Name) (e : EntryView) → FoundIn (Some tree) name e
    → LeadsTo objects (Some tree) (name ∷ []) e
leads_to_last_name objects tree name e found = ([], (found, tt))

pub leads_to_through_tree : (objects : Objects) (tree : StoredObject) (name : Name) (more : List Name) (at e : EntryView) → FoundIn (Some tree) name at
    → LeadsTo objects (named objects at.id) more e → LeadsTo objects (Some tree) (name ∷ more) e
leads_to_through_tree objects tree name more at e found (before, path) = (at ∷ before, (found, path))

pub leads_to_from_tree : (objects : Objects) (tree : StoredObject) (name : Name) (more : List Name) (at e : EntryView) → more ≢ [] → FoundIn (Some tree) name at
    → LeadsTo objects (Some tree) (name ∷ more) e → LeadsTo objects (named objects at.id) more e
leads_to_from_tree objects tree name [] at e some found (before, path) = absurd (some refl)
leads_to_from_tree objects tree name (_ ∷ _) at e some found ([], path) = absurd path.1
leads_to_from_tree objects tree name (x ∷ more) at e some found (b ∷ before, path) =
    let same = first_named_unique tree.object_hash tree.bytes name b at path.0.1 found.1 in
    (before, subst (λ (it : EntryView). IsPath objects (named objects it.id) (x ∷ more) (before ++ e ∷ [])) same path.1)

pub not_leads_to_in_none : (objects : Objects) (names : List Name) (e : EntryView) → ¬ LeadsTo objects None names e
not_leads_to_in_none objects [] e ([], path) = path
not_leads_to_in_none objects [] e (b ∷ before, path) = path
not_leads_to_in_none objects (x ∷ names) e ([], path) = path.0
not_leads_to_in_none objects (x ∷ names) e (b ∷ before, path) = path.0

pub not_leads_to_of_nil : (objects : Objects) (first : Option StoredObject) (e : EntryView) → ¬ LeadsTo objects first [] e
not_leads_to_of_nil objects first e ([], path) = path
not_leads_to_of_nil objects first e (b ∷ before, path) = path

found_in_of_leads_to : (objects : Objects) (tree : StoredObject) (name : Name) (more : List Name) (e : EntryView) → LeadsTo objects (Some tree) (name ∷ more) e
    → (at : EntryView) × FoundIn (Some tree) name at
found_in_of_leads_to objects tree name more e ([], path) = (e, path.0)
found_in_of_leads_to objects tree name more e (b ∷ before, path) = (b, path.0)

pub not_leads_to_in_non_tree : (objects : Objects) (tree : StoredObject) (names : List Name) (e : EntryView) → tree.kind ≢ Tree
    → ¬ LeadsTo objects (Some tree) names e
not_leads_to_in_non_tree objects tree [] e other path = not_leads_to_of_nil objects (Some tree) e path
not_leads_to_in_non_tree objects tree (name ∷ more) e other path = other (found_in_of_leads_to objects tree name more e path).1.0

pub not_leads_to_without_entry : (objects : Objects) (tree : StoredObject) (name : Name) (more : List Name) (e : EntryView)
    → HasNoEntryNamed tree.object_hash tree.bytes name → ¬ LeadsTo objects (Some tree) (name ∷ more) e
not_leads_to_without_entry objects tree name more e none path =
    let (at, found) = found_in_of_leads_to objects tree name more e path in
    none at found.1

-- ---- the walk along a path

-- an object is a tree or of another kind
pub kind_tree_or_not : (kind : Kind) → (kind ≡ Tree) ⊎ (kind ≢ Tree)
kind_tree_or_not Tree = inl refl
kind_tree_or_not Blob = inr (λ same. cc same)
kind_tree_or_not Commit = inr (λ same. cc same)
kind_tree_or_not Tag = inr (λ same. cc same)

-- a prefix of the names leads to an entry with this id, and the remaining names lead on from the object of the id
pub record Follows (objects : Objects) (first : Option StoredObject) (path : List Name) (id : ObjectId) (names : List Name) : Type 0 where
  pub begun : List Name
  pub at : EntryView
  pub joined : path ≡ begun ++ names
  pub more : names ≢ []
  pub led : LeadsTo objects first begun at
  pub same_id : at.id ≡ id
  pub forth : (others : List Name) (e : EntryView) → LeadsTo objects (named objects id) others e → LeadsTo objects first (begun ++ others) e
  pub back : (e : EntryView) → LeadsTo objects first path e → LeadsTo objects (named objects id) names e
  pub found : (name : Name) × (rest : List Name) × (e : EntryView) × (path ≡ name ∷ rest) × FoundIn first name e

-- ---- steps of the walk

-- the first step continues
pub follows_nil : (objects : Objects) (tree : StoredObject) (path remaining : List Name) (id : ObjectId) → tree.kind ≡ Tree → IsStep tree path (Continue id)
    → remaining ≡ drop 1 path → Follows objects (Some tree) path id remaining
follows_nil objects tree path remaining id is_tree (name, more, e, split, some, first, same) rest =
    let here : remaining ≡ more = rest ∙ ap (drop 1) split in
    let at = λ (it : ObjectId). named objects it in
    record {
      begun = name ∷ [];
      at = e;
      joined = split ∙ ap (λ (it : List Name). name ∷ it) (sym here);
      more = λ none. some (sym here ∙ none);
      led = leads_to_last_name objects tree name e (is_tree, first);
      same_id = same;
      forth = λ others it led. leads_to_through_tree objects tree name others e it (is_tree, first)
          (subst (λ (x : ObjectId). LeadsTo objects (named objects x) others it) (sym same) led);
      back = λ it led.
          let led' = subst (λ (x : List Name). LeadsTo objects (Some tree) x it) split led in
          let rest' = leads_to_from_tree objects tree name more e it some (is_tree, first) led' in
          subst (λ (x : List Name). LeadsTo objects (named objects id) x it) (sym here)
          (subst (λ (x : ObjectId). LeadsTo objects (named objects x) more it) same rest');
      found = (name, more, e, split, (is_tree, first));
    }

-- a later step continues
pub follows_snoc : (objects : Objects) (first : Option StoredObject) (path names remaining : List Name) (id next : ObjectId) (tree : StoredObject)
    → Follows objects first path id names → named objects id ≡ Some tree → tree.kind ≡ Tree → IsStep tree names (Continue next)
    → remaining ≡ drop 1 names → Follows objects first path next remaining
follows_snoc objects first path names remaining id next tree follows names_it is_tree (name, more, e, split, some, is_first, same) rest =
    let here : remaining ≡ more = rest ∙ ap (drop 1) split in
    let begun = follows.begun in
    record {
      begun = begun ++ name ∷ [];
      at = e;
      joined = follows.joined ∙ ap (λ (it : List Name). begun ++ it) (split ∙ ap (λ (it : List Name). name ∷ it) (sym here))
          ∙ sym (append_assoc begun (name ∷ []) remaining);
      more = λ none. some (sym here ∙ none);
      led = follows.forth (name ∷ []) e
          (subst (λ (x : Option StoredObject). LeadsTo objects x (name ∷ []) e) (sym names_it) (leads_to_last_name objects tree name e (is_tree, is_first)));
      same_id = same;
      forth = λ others it led.
          let on = leads_to_through_tree objects tree name others e it (is_tree, is_first)
          (subst (λ (x : ObjectId). LeadsTo objects (named objects x) others it) (sym same) led) in
          subst (λ (x : List Name). LeadsTo objects first x it) (sym (append_assoc begun (name ∷ []) others))
          (follows.forth (name ∷ others) it (subst (λ (x : Option StoredObject). LeadsTo objects x (name ∷ others) it) (sym names_it) on));
      back = λ it led.
          let here' = subst (λ (x : Option StoredObject). LeadsTo objects x names it) names_it (follows.back it led) in
          let rest' = leads_to_from_tree objects tree name more e it some (is_tree, is_first)
          (subst (λ (x : List Name). LeadsTo objects (Some tree) x it) split here') in
          subst (λ (x : List Name). LeadsTo objects (named objects next) x it) (sym here)
          (subst (λ (x : ObjectId). LeadsTo objects (named objects x) more it) same rest');
      found = follows.found;
    }

-- a step into a tree breaks with the entry to which the remaining names lead
is_at_path_of_break : (objects : Objects) (tree : StoredObject) (names : List Name) (found : Option EntryRef) → tree.kind ≡ Tree
    → IsStep tree names (Break found)
    → IsAtPath objects (Some tree) names (option_map entry_view found)
is_at_path_of_break objects tree names (Some entry) is_tree (name, split, first) =
    subst (λ (x : List Name). LeadsTo objects (Some tree) x (entry_view entry)) (sym split)
    (leads_to_last_name objects tree name (entry_view entry) (is_tree, first))
is_at_path_of_break objects tree [] None is_tree none = not_leads_to_of_nil objects (Some tree)
is_at_path_of_break objects tree (name ∷ more) None is_tree none = λ e. not_leads_to_without_entry objects tree name more e (none name more refl)

none_of_break_none : (found : Option EntryRef) → ◌≡◌ {A = ControlFlow (Option EntryRef) ObjectId} (Break found) (Break None) → found ≡ None
none_of_break_none found same = cc same

-- a step into an object of any kind breaks with the entry to which the remaining names lead
pub is_at_path_broken : (objects : Objects) (it : StoredObject) (names : List Name) (found : Option EntryRef)
    → (it.kind ≢ Tree → ◌≡◌ {A = ControlFlow (Option EntryRef) ObjectId} (Break found) (Break None)) → (it.kind ≡ Tree → IsStep it names (Break found))
    → IsAtPath objects (Some it) names (option_map entry_view found)
is_at_path_broken objects it names found other tree =
    ⊎_elim (λ is. is_at_path_of_break objects it names found is (tree is))
    (λ is_not. rw (none_of_break_none found (other is_not)) (λ e. not_leads_to_in_non_tree objects it names e is_not)) (kind_tree_or_not it.kind)

-- the remaining names lead to the same entry as the path
pub is_at_path_complete : (objects : Objects) (first : Option StoredObject) (path names : List Name) (id : ObjectId) (found : Option EntryView)
    → Follows objects first path id names → IsAtPath objects (named objects id) names found → IsAtPath objects first path found
is_at_path_complete objects first path names id (Some e) follows led = subst (λ (x : List Name). LeadsTo objects first x e) (sym follows.joined)
    (follows.forth names e led)
is_at_path_complete objects first path names id None follows none = λ e led. none e (follows.back e led)

-- ---- errors of the walk

pub path_error_of_lookup : (objects : Objects) (may_fail : ObjectId → Bool) (first : Option StoredObject) (path names : List Name)
    (id : ObjectId) (error : Error)
    → Follows objects first path id names → IsFindError may_fail id error → IsPathError objects may_fail first path error
path_error_of_lookup objects may_fail first path names id (Store message) follows fails =
    (follows.at, (follows.begun, names, follows.joined, follows.more, follows.led), subst (λ (x : ObjectId). IsTrue (may_fail x)) (sym follows.same_id) fails)
path_error_of_lookup objects may_fail first path names id OutOfMemory follows fails = follows.found
