-- A walk along the entries of a directory meets each directory that is open in it at its entry: for the loops of a
-- write and for leaf trees.
use mathlib.Core.Bool.{true≢false}
use Rattle.std.proofs.Common.{◌≡◌, ◌≢◌, ◌∙◌, ◌<◌, ◌+◌, inl, inr, ℕ, suc, true, false, cond, List, [], ◌∷◌, Option, Some, None, get_or, length, drop, refl, sym}
use Rattle.std.proofs.Common.{ap, subst, add-one, drop-cons}
use Rattle.std.specs.Cmp.Lexicographic.{bytes_decides, slice_cmp}
use Rattle.std.specs.List.{AllByRecursion}
use Rattle.std.specs.Ordering.{is_lt, nat_cmp}
use Rattle.std.proofs.lemmas.Cmp.{nat_list_cmp_total, tied_itself}
use Rattle.bstr.specs.Owned.{bstring_bytes}
use Rattle.gixobj_editor_files.specs.Editing.{has_tree, same_name}
use Rattle.gixobj_editor_files.specs.Files.{ContainsEntry, Path}
use Rattle.gixobj_editor_files.proofs.HasTrees.{entry_of_has_tree}
use Rattle.gixobj_editor_files.proofs.OpenedFiles.{same_name_false}
use Rattle.gixobj_editor_entries.proofs.Sublists.{all_both, all_weaker}
use Rattle.gixobj_tree_entries.specs.Entries.{EntryView}
use Rattle.gixobj_tree_entries.specs.KeyOrder.{ComesBefore, entry_key, key_of}
use Rattle.gixobj_tree_entries.specs.Mode.{is_tree_mode}
use Rattle.gixobj_editor_open.specs.declared.open.Child.{Child}
use Rattle.gixobj_editor_open.specs.Children.{pairs_after_next, next_child}
use Rattle.gixobj_editor_write.specs.WriteErrors.{child_side}
use Rattle.gixobj_editor_write.specs.Frames.{Ahead}
use Rattle.gixobj_editor_open.specs.Nested.{IsLevel, Level, Opened, Part, at_side, opened, part, part_at, part_key, parts}
use Rattle.gixobj_editor_open.proofs.Levels.{level_at_by}
use Rattle.gixobj_editor_open.proofs.Ordered.{Before, names_differ, level_names_apart}

-- the next child is what is open at the entry, and those after it are those of the other entries
pub record Stepped (node : Opened) (e : EntryView) (rest : List EntryView) (next : Option Child) (after : List Child) : Type 0 where
  pub here : (side : Level → List EntryView) (path : Path) → at_side side node (e.name ∷ path) ≡ child_side side next path
  pub ahead : Ahead node rest after

all_of_every : {X : Type 0} (P : X → Type 0) → ((x : X) → P x) → (xs : List X) → AllByRecursion P xs
all_of_every P all [] = tt
all_of_every P all (x ∷ xs) = (all x, all_of_every P all xs)

holds_of_contains : (P : EntryView → Type 0) (es : List EntryView) (x : EntryView) → ContainsEntry es x → AllByRecursion P es → P x
holds_of_contains P [] x h all = absurd h
holds_of_contains P (e ∷ es) x (inl same) all = subst P same all.0
holds_of_contains P (e ∷ es) x (inr h) all = holds_of_contains P es x h all.1

has_tree_in_tail : (name : List ℕ) (e : EntryView) (rest : List EntryView) → name ≢ e.name → has_tree name (e ∷ rest) ≡ true → has_tree name rest ≡ true
has_tree_in_tail name e rest other h = rw (same_name_false e.name name (λ q. other (sym q))) at h

part_at_of_absent : (side : Level → List EntryView) (name : List ℕ) (ps : List Part) (path : Path) → AllByRecursion (λ p. p.0 ≢ name) ps
    → part_at side name ps path ≡ None
part_at_of_absent side name [] path others = refl
part_at_of_absent side name (p ∷ ps) path others = rw (same_name_false p.0 name others.0) (part_at_of_absent side name ps path others.1)

module _ (e : EntryView) (rest : List EntryView) (apart : AllByRecursion (λ y. e.name ≢ y.name) rest)
    (ascending : AllByRecursion (ComesBefore e) rest) where
  all_after : (ps : List Part) → AllByRecursion (λ p. p.0 ≢ e.name) ps → AllByRecursion (λ p. has_tree p.0 (e ∷ rest) ≡ true) ps
      → AllByRecursion (λ p. has_tree p.0 rest ≡ true) ps
  all_after [] others h = tt
  all_after (p ∷ ps) others h = (has_tree_in_tail p.0 e rest others.0 h.0, all_after ps others.1 h.1)

  -- an entry of tree mode with this name is the first entry
  written_tree : (y : EntryView) → ContainsEntry (e ∷ rest) y → y.name ≡ e.name → is_tree_mode y.mode ≡ true → is_tree_mode e.mode ≡ true
  written_tree y (inl same) named tree = ap (λ (x : EntryView). is_tree_mode x.mode) same ∙ tree
  written_tree y (inr h) named tree = absurd (holds_of_contains (λ z. e.name ≢ z.name) rest y h apart (sym named))

  own_key : (name : List ℕ) → name ≡ e.name → has_tree name (e ∷ rest) ≡ true → entry_key e ≡ key_of name true
  own_key name is h = let y = entry_of_has_tree name (e ∷ rest) h in ap (key_of e.name) (written_tree y.0 y.1 (y.2 ∙ is) y.3)
      ∙ ap (λ (n : List ℕ). key_of n true)
      (sym is)

  -- after the directory of another entry there is none of the first entry
  not_after : (p q : Part) → Before p q → p.0 ≢ e.name → has_tree p.0 (e ∷ rest) ≡ true → has_tree q.0 (e ∷ rest) ≡ true → q.0 ≢ e.name
  not_after p q before other first second same =
      let x = entry_of_has_tree p.0 rest (has_tree_in_tail p.0 e rest other first) in
      let key : entry_key x.0 ≡ part_key p = ap (key_of x.0.name) x.3 ∙ ap (λ (n : List ℕ). key_of n true) x.2 in
      let back : Before q p = ap (λ k. slice_cmp nat_cmp k (part_key p)) (sym (own_key q.0 same second)) ∙ ap (slice_cmp nat_cmp (entry_key e))
      (sym key)
      ∙ holds_of_contains (ComesBefore e) rest x.0 x.1 ascending in
      true≢false (ap is_lt (sym (nat_list_cmp_total.trans (part_key p) (part_key q) (part_key p) before back) ∙ tied_itself nat_list_cmp_total
      (part_key p)))

  all_others : (p : Part) (qs : List Part) → AllByRecursion (Before p) qs → p.0 ≢ e.name → has_tree p.0 (e ∷ rest) ≡ true
      → AllByRecursion (λ q. has_tree q.0 (e ∷ rest) ≡ true) qs → AllByRecursion (λ q. q.0 ≢ e.name) qs
  all_others p [] before other first above = tt
  all_others p (q ∷ qs) before other first above = (not_after p q before.0 other first above.0, all_others p qs before.1 other first above.1)

stepped_cons : (node : Opened) (e : EntryView) (rest : List EntryView) (remaining : List Child) → Ahead node (e ∷ rest) remaining
    → Stepped node e rest (next_child e.name remaining) (pairs_after_next e.name remaining)
stepped_cons node e rest [] a = record {
  here = λ side path. (a.same side).0 path;
  ahead = record { same = λ side. (a.same side).1; above = tt; ordered = tt; apart = a.apart.1; ascending = a.ascending.1 };
}
stepped_cons node e rest (c ∷ cs) a =
    elim (same_name (bstring_bytes c.name) e.name) as (λ b. same_name (bstring_bytes c.name) e.name ≡ b
    → Stepped node e rest (cond b (Some c) None) (cond b cs (c ∷ cs))) [
      | true ↦ λ is. let own : bstring_bytes c.name ≡ e.name = (bytes_decides (bstring_bytes c.name) e.name).0 is in record {
        here = λ side path. (a.same side).0 path ∙ ap (λ b. cond b (at_side side c.open path) (part_at side e.name (parts cs) path)) is;
        ahead = record {
          same = λ side. all_weaker
              (λ (y : EntryView). (e.name ≢ y.name) × ((path : Path) → at_side side node (y.name ∷ path) ≡ part_at side y.name (parts (c ∷ cs)) path))
              (λ (y : EntryView). (path : Path) → at_side side node (y.name ∷ path) ≡ part_at side y.name (parts cs) path)
              (λ y h path. h.1 path ∙ ap (λ b. cond b (at_side side c.open path) (part_at side y.name (parts cs) path))
              (same_name_false (bstring_bytes c.name) y.name (λ q. h.0 (sym own ∙ q)))) rest
              (all_both (λ (y : EntryView). e.name ≢ y.name)
              (λ (y : EntryView). (path : Path) → at_side side node (y.name ∷ path) ≡ part_at side y.name
              (parts (c ∷ cs)) path) rest a.apart.0 (a.same side).1);
          above = all_after e rest a.apart.0 a.ascending.0 (parts cs)
              (all_weaker (Before (part c)) (λ q. q.0 ≢ e.name) (λ q before same. names_differ (part c) q before (own ∙ sym same)) (parts cs) a.ordered.0)
              a.above.1;
          ordered = a.ordered.1;
          apart = a.apart.1;
          ascending = a.ascending.1;
        };
      }
      | false ↦ λ is. let other : bstring_bytes c.name ≢ e.name = λ q. true≢false (sym ((bytes_decides (bstring_bytes c.name) e.name).1 q) ∙ is) in
          let others : AllByRecursion (λ q. q.0 ≢ e.name) (parts (c ∷ cs)) =
          (other, all_others e rest a.apart.0 a.ascending.0 (part c) (parts cs) a.ordered.0 other a.above.0 a.above.1) in record {
            here = λ side path. (a.same side).0 path ∙ part_at_of_absent side e.name (parts (c ∷ cs)) path others;
            ahead = record {
              same = λ side. (a.same side).1;
              above = all_after e rest a.apart.0 a.ascending.0 (parts (c ∷ cs)) others a.above;
              ordered = a.ordered;
              apart = a.apart.1;
              ascending = a.ascending.1;
            };
          }
    ] refl

-- a step of the walk at the position of an entry
pub stepped_succ : (node : Opened) (items : List EntryView) (i : ℕ) (e : EntryView) (remaining : List Child) → i < length items → e ≡ get_or items i e
    → Ahead node (drop i items) remaining
    → Stepped node e (drop (i + 1) items) (next_child e.name remaining) (pairs_after_next e.name remaining)
stepped_succ node items i e remaining low is a =
    let here : drop i items ≡ e ∷ drop (i + 1) items = rw add-one (drop-cons items i e low ∙ ap (λ x. x ∷ drop (suc i) items) (sym is)) in
    stepped_cons node e (drop (i + 1) items) remaining (subst (λ es. Ahead node es remaining) here a)

-- before the first entry all children remain
pub ahead_of_opened : (node : Opened) (es base : List EntryView) (cs : List Child) → opened es base (parts cs) ≡ node → IsLevel es (parts cs)
    → Ahead node es cs
ahead_of_opened node es base cs is level = record {
  same = λ side. all_of_every (λ (e : EntryView). (path : Path) → at_side side node (e.name ∷ path) ≡ part_at side e.name (parts cs) path)
      (λ e path. level_at_by side node es base (parts cs) is (level_names_apart level) e.name path) es;
  above = level.above;
  ordered = level.ordered;
  apart = level.formed.apart;
  ascending = level.formed.ascending;
}
