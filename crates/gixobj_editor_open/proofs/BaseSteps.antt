-- An edit of one level, or an opening in it, changes the bases as it changes the open directories: for the edits and
-- openings of open directories, and for the editor.
use Rattle.std.proofs.Common.{◌≡◌, ◌≢◌, ◌∙◌, ℕ, true, false, cond, List, [], ◌∷◌, Option, Some, None, refl, sym, ap, subst}
use Rattle.std.specs.List.{AllByRecursion}
use Rattle.gixobj_editor_open.specs.declared.open.Child.{Child}
use Rattle.std.specs.Cmp.Lexicographic.{bytes_decides}
use Rattle.gixobj_tree_entries.specs.Entries.{EntryView}
use Rattle.gixobj_tree.specs.WellFormed.{EachLater}
use Rattle.gixobj_editor_files.specs.Bases.{base_edited, base_opened}
use Rattle.gixobj_tree_entries.specs.Mode.{is_tree_mode}
use Rattle.gixobj_editor_files.proofs.HasTrees.{has_tree_of_entry}
use Rattle.gixobj_editor_files.specs.Edits.{IsEntryOf}
use Rattle.gixobj_editor_files.specs.Editing.{same_name}
use Rattle.gixobj_editor_files.specs.Files.{Path}
use Rattle.gixobj_editor_files.specs.Opening.{Dirs}
use Rattle.gixobj_editor_open.specs.Nested.{IsLevel, Opened, Part, base_side, bases_in, bases_of, dirs_of, in_part, opened, other_parts, parts, with_part}
use Rattle.gixobj_editor_open.proofs.Levels.{Becomes, BecomesBy, IsChanged, IsChild, dirs_of_opened_cons, at_name_by, bases_of_cons, bases_of_nil}
use Rattle.gixobj_editor_open.proofs.Levels.{in_part_of_child, found_by, dirs_of_cons, is_level_set, is_level_with_part, dirs_of_nil, becomes_of_removal}
use Rattle.gixobj_editor_open.proofs.Levels.{others_becomes_by, becomes_of_with_part, with_becomes_by, becomes_of_set, set_becomes_by, tied}
use Rattle.gixobj_editor_open.proofs.Ordered.{level_names_apart}

-- a directory that isn't open has no base
pub base_none_where_unopened : (ds : Opened) (at : Path) → dirs_of ds at ≡ None → bases_of ds at ≡ None
base_none_where_unopened [] at none = refl
base_none_where_unopened (d ∷ ds) at none =
    elim (tied at d.0) as (λ b. cond b (Some d.1.0) (dirs_of ds at) ≡ None → cond b (Some d.1.1) (bases_of ds at) ≡ None)
    [ true ↦ λ is. absurd (cc is) | false ↦ λ is. base_none_where_unopened ds at is ] none

bases_in_of_unopened : (name : List ℕ) (ps : List Part) (at : Path) → in_part name ps at ≡ None → bases_in name ps at ≡ None
bases_in_of_unopened name [] at none = refl
bases_in_of_unopened name (p ∷ ps) at none =
    elim (same_name p.0 name) as (λ b. cond b (dirs_of p.1 at) (in_part name ps at) ≡ None → cond b (bases_of p.1 at) (bases_in name ps at) ≡ None)
    [ true ↦ λ is. base_none_where_unopened p.1 at is | false ↦ λ is. bases_in_of_unopened name ps at is ] none

-- the base of a directory after a change, by what is open there before and after
abbrev pub OfBase : Type 0
OfBase = Option (List EntryView) → Option (List EntryView) → Option (List EntryView) → Option (List EntryView)

-- the base is unchanged if the same is open, or if the directory is open before and after
pub record Settles (g : OfBase) : Type 0 where
  pub same : (o base : Option (List EntryView)) → (o ≡ None → base ≡ None) → base ≡ g o o base
  pub stays : (was now : List EntryView) (base : Option (List EntryView)) → base ≡ g (Some was) (Some now) base

pub opening : Settles base_opened
opening = record { same = same; stays = λ was now base. refl }
  where
    same : (o base : Option (List EntryView)) → (o ≡ None → base ≡ None) → base ≡ base_opened o o base
    same None base none = none refl
    same (Some es) base none = refl

pub editing : Settles base_edited
editing = record { same = same; stays = λ was now base. refl }
  where
    same : (o base : Option (List EntryView)) → (o ≡ None → base ≡ None) → base ≡ base_edited o o base
    same None base none = none refl
    same (Some es) base none = refl

module _ (g : OfBase) (settles : Settles g) where
  pub unmoved : (ds : Opened) (at : Path) → bases_of ds at ≡ g (dirs_of ds at) (dirs_of ds at) (bases_of ds at)
  unmoved ds at = settles.same (dirs_of ds at) (bases_of ds at) (base_none_where_unopened ds at)

  module _ (old : Opened) (es es' : List EntryView) (ps ps' : List Part) {base : List EntryView} (view : opened es base ps ≡ old)
      (apart : EachLater (λ x y. x.0 ≢ y.0) ps) (apart' : EachLater (λ x y. x.0 ≢ y.0) ps')
      (name : List ℕ) (next based : Dirs) (becomes : Becomes name next ps ps') (bases_become : BecomesBy base_side name based ps ps')
      (inside : (path : Path) → based path ≡ g (in_part name ps path) (next path) (bases_in name ps path)) where
    pub moved : (at : Path) → bases_of (opened es' base ps') at ≡ g (dirs_of old at) (dirs_of (opened es' base ps') at) (bases_of old at)
    moved [] = settles.stays es es' (Some base) ∙ ap (λ o. g o (Some es') (Some base)) (sym (dirs_of_nil old es ps view))
        ∙ ap (λ o. g (dirs_of old []) (Some es') o) (sym (bases_of_nil old es ps view))
    moved (first ∷ path) =
        at_name_by base_side es' base ps' first path apart' ∙ bases_become.says first path ∙ here
        ∙ ap (λ o. g o (cond (same_name name first) (next path) (in_part first ps path)) (bases_in first ps path))
        (sym (dirs_of_cons old es ps view apart first path))
        ∙ ap (λ o. g (dirs_of old (first ∷ path)) o (bases_in first ps path))
        (sym (dirs_of_opened_cons es' base ps' first path apart' ∙ becomes.says first path))
        ∙ ap (λ o. g (dirs_of old (first ∷ path)) (dirs_of (opened es' base ps') (first ∷ path)) o) (sym (bases_of_cons old es ps view apart first path))
      where
        here : cond (same_name name first) (based path) (bases_in first ps path) ≡ g (in_part first ps path)
            (cond (same_name name first) (next path) (in_part first ps path)) (bases_in first ps path)
        here = elim (same_name name first) as
            (λ b. same_name name first ≡ b → cond b (based path) (bases_in first ps path) ≡ g (in_part first ps path)
            (cond b (next path) (in_part first ps path)) (bases_in first ps path)) [
              | true ↦ λ is. subst (λ n. based path ≡ g (in_part n ps path) (next path) (bases_in n ps path)) ((bytes_decides name first).0 is)
                  (inside path)
              | false ↦ λ is. settles.same (in_part first ps path) (bases_in first ps path) (bases_in_of_unopened first ps path)
            ] refl

-- in a created directory the bases after an edit are those of directories that weren't open
pub base_edited_of_made : (path : Path) (new base : Option (List EntryView)) → base_edited (dirs_of (opened [] [] []) path) new
    (bases_of (opened [] [] []) path)
    ≡ base_edited None new base
base_edited_of_made [] None base = refl
base_edited_of_made [] (Some es) base = refl
base_edited_of_made (name ∷ path) None base = refl
base_edited_of_made (name ∷ path) (Some es) base = refl

-- the base of a directory that was opened is the list found
pub base_opened_of_found : (es : List EntryView) (path : Path) (new : Dirs) → new [] ≡ Some es → base_opened (dirs_of (opened es es []) path) (new path)
    (bases_of (opened es es []) path) ≡ new path
base_opened_of_found es [] new root = sym root
base_opened_of_found es (name ∷ path) new root = refl

-- a written directory is open alone, with its base
pub base_edited_of_written : (old : Opened) (es written_tree base : List EntryView) → dirs_of old [] ≡ Some es → bases_of old [] ≡ Some base → (at : Path)
    → bases_of (opened written_tree base []) at ≡ base_edited (dirs_of old at) (dirs_of (opened written_tree base []) at) (bases_of old at)
base_edited_of_written old es written_tree base root is [] = ap (λ o. base_edited o (Some written_tree) (Some base)) (sym root)
    ∙ ap (λ o. base_edited (dirs_of old []) (Some written_tree) o)
    (sym is)
base_edited_of_written old es written_tree base root is (name ∷ path) = refl

-- the bases after a directory in it was replaced, added or closed
module _ (g : OfBase) (settles : Settles g) (old : Opened) (es : List EntryView) where
  pub set_moved : {cs new : List Child} {base : List EntryView} {name : List ℕ} {i : ℕ} {child next : Child} → IsChild name cs i child
      → IsChanged cs new i child next → opened es base (parts cs) ≡ old → IsLevel es (parts cs)
      → ((path : Path) → bases_of next.open path ≡ g (dirs_of child.open path) (dirs_of next.open path) (bases_of child.open path))
      → (at : Path) → bases_of (opened es base (parts new)) at ≡ g (dirs_of old at) (dirs_of (opened es base (parts new)) at) (bases_of old at)
  set_moved {cs} {new} {base} {name} {i} {child} {next} here now view level inside =
      moved g settles old es es (parts cs) (parts new) view (level_names_apart level) (level_names_apart (is_level_set here now level)) name
      (dirs_of next.open) (bases_of next.open) (becomes_of_set here now) (set_becomes_by base_side here now)
      (λ path. inside path ∙ ap (λ o. g o (dirs_of next.open path) (bases_of child.open path)) (sym (in_part_of_child here path))
      ∙ ap (λ b. g (in_part name (parts cs) path) (dirs_of next.open path) b) (sym (found_by base_side here path)))

  pub with_moved : (es' : List EntryView) (ps : List Part) {base : List EntryView} → opened es base ps ≡ old → EachLater (λ x y. x.0 ≢ y.0) ps
      → (name : List ℕ) (inner : Opened) → EachLater (λ x y. x.0 ≢ y.0) (with_part (name, inner) ps) → AllByRecursion (λ p. p.0 ≢ name) ps
      → ((path : Path) → in_part name ps path ≡ None) → ((path : Path) → bases_of inner path ≡ g None (dirs_of inner path) None)
      → (at : Path) → bases_of (opened es' base (with_part (name, inner) ps)) at ≡ g (dirs_of old at)
      (dirs_of (opened es' base (with_part (name, inner) ps)) at) (bases_of old at)
  with_moved es' ps view apart name inner apart' others none inside =
      moved g settles old es es' ps (with_part (name, inner) ps) view apart apart' name (dirs_of inner) (bases_of inner)
      (becomes_of_with_part name inner ps others)
      (with_becomes_by base_side name inner ps others)
      (λ path. inside path ∙ ap (λ o. g o (dirs_of inner path) None) (sym (none path)) ∙ ap (λ b. g (in_part name ps path) (dirs_of inner path) b)
      (sym (bases_in_of_unopened name ps path (none path))))

pub base_edited_of_dropped : (old : Opened) (es es' : List EntryView) (ps : List Part) {base : List EntryView} → opened es base ps ≡ old
    → EachLater (λ x y. x.0 ≢ y.0) ps → (name : List ℕ) → EachLater (λ x y. x.0 ≢ y.0) (other_parts name ps)
    → (at : Path) → bases_of (opened es' base (other_parts name ps)) at ≡ base_edited (dirs_of old at)
    (dirs_of (opened es' base (other_parts name ps)) at)
    (bases_of old at)
base_edited_of_dropped old es es' ps view apart name apart' =
    moved base_edited editing old es es' ps (other_parts name ps) view apart apart' name (λ _. None) (λ _. None) (becomes_of_removal name ps)
    (others_becomes_by base_side name ps) (λ path. refl)

-- the bases of an equal directory are unchanged
pub base_of_unmoved : (g : OfBase) → Settles g → (old new : Opened) → new ≡ old → (at : Path) → bases_of new at ≡ g (dirs_of old at) (dirs_of new at)
    (bases_of old at)
base_of_unmoved g settles old new same at = subst (λ (d : Opened). bases_of d at ≡ g (dirs_of old at) (dirs_of d at) (bases_of old at)) (sym same)
    (unmoved g settles old at)

-- the bases after a directory that was opened is added
pub base_opened_of_moved : (old : Opened) (es : List EntryView) (cs new : List Child) {base : List EntryView} → opened es base (parts cs) ≡ old
    → IsLevel es (parts cs)
    → (name : List ℕ) → AllByRecursion (λ p. p.0 ≢ name) (parts cs) → ((path : Path) → in_part name (parts cs) path ≡ None)
    → (e : EntryView) → IsEntryOf name (Some es) e → is_tree_mode e.mode ≡ true → (inner : Opened) → parts new ≡ with_part (name, inner) (parts cs)
    → ((path : Path) → bases_of inner path ≡ dirs_of inner path)
    → (at : Path) → bases_of (opened es base (parts new)) at ≡ base_opened (dirs_of old at) (dirs_of (opened es base (parts new)) at)
    (bases_of old at)
base_opened_of_moved old es cs new {base} view level name others none e entry tree inner is inside at =
    subst (λ (ps : List Part). bases_of (opened es base ps) at ≡ base_opened (dirs_of old at) (dirs_of (opened es base ps) at) (bases_of old at))
    (sym is)
    (with_moved base_opened opening old es es (parts cs) view (level_names_apart level) name inner
    (level_names_apart (is_level_with_part name inner es (parts cs) (has_tree_of_entry name es e entry.0 entry.1 tree) level)) others none inside at)
