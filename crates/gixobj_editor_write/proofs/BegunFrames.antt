-- Frames of a walk: a step along an entry, a directory that begins, one that ends, and where the walk stops; for the
-- functions of `frames` and `walk`.
use Rattle.std.proofs.Common.{◌≡◌, ◌∙◌, ◌+◌, ◌<◌, ◌≤◌, ℕ, suc, true, false, cond, List, [], ◌∷◌, ◌++◌, Option, Some, None, drop, get_or, length, sym, ap, subst}
use Rattle.std.proofs.Common.{arith, add-one, append_assoc, append-nil, drop-cons, length-drop}
use Rattle.std.specs.declared.alloc.Global.{Global}
use Rattle.std.specs.declared.vec.Vec.{Vec}
use Rattle.bstr.specs.Owned.{bstring_bytes}
use Rattle.gixobj_tree_entries.specs.Entries.{EntryView, Pair}
use Rattle.gixobj_tree.specs.WellFormed.{IsWellFormed}
use Rattle.gixobj_editor_entries.specs.Pieces.{AreNonEmpty}
use Rattle.gixobj_editor_files.specs.Editing.{same_name}
use Rattle.gixobj_editor_files.specs.Emission.{EmitsBelow, EmitsEntries, end, of_entries}
use Rattle.gixobj_editor_files.specs.Opening.{in_dir}
use Rattle.gixobj_editor_files.specs.WrittenTrees.{SharesBase, so_far}
use Rattle.gixobj_editor_files.specs.declared.written_tree.WrittenTree.{WrittenTree}
use Rattle.gixobj_editor_files.specs.declared.written_tree.WrittenTree.TheVariants.{Prefix}
use Rattle.gixobj_editor_write.specs.Calls.{IsStorable}
use Rattle.gixobj_editor_open.specs.Children.{remaining_list}
use Rattle.gixobj_editor_write.specs.Frames.{Ahead, EmitsAfter, EmitsNext, EmitsWritten, HasEmitted, HasResumed, IsBegun, IsInStep, Waits, child_weight}
use Rattle.gixobj_editor_write.specs.Frames.{frame_weight, held_entries, written_entries, remaining_entries, weight_of}
use Rattle.gixobj_editor_write.specs.TakenTrees.{child_leaf_trees}
use Rattle.gixobj_editor_open.specs.LeafTrees.{inside_of, leaf_trees}
use Rattle.gixobj_editor_open.specs.Nested.{IsLevel, Opened, base_side, bases_of, below, dirs_of, entries_side, opened, parts, under}
use Rattle.gixobj_editor_write.specs.WriteErrors.{EmitsEntry, child_side}
use Rattle.gixobj_editor_open.specs.Children.{next_child, pairs_after_next}
use Rattle.gixobj_editor_open.specs.declared.children.Remaining.{Remaining}
use Rattle.gixobj_editor_write.specs.declared.frames.Frame.{Frame}
use Rattle.gixobj_editor_open.specs.declared.open.Child.{Child}
use Rattle.gixobj_editor_write.proofs.EntryWalks.{Stepped, ahead_of_opened, stepped_succ}
use Rattle.gixobj_editor_write.proofs.Emitting.{walk_exists_of_open, walk_goes, walk_step, walks_of_count, written_is_storable}
use Rattle.gixobj_editor_write.proofs.TakenTrees.{leaf_trees_of_next_child, remaining_nil}
use Rattle.gixobj_editor_open.proofs.Levels.{dirs_of_nil}

-- the entries from a position on begin with the entry at it
pub drop_entry_cons : (xs : List EntryView) (i : ℕ) (e : EntryView) → i < length xs → e ≡ get_or xs i e → drop i xs ≡ e ∷ drop (i + 1) xs
drop_entry_cons xs i e low is = rw add-one (drop-cons xs i e low ∙ ap (λ x. x ∷ drop (suc i) xs) (sym is))

entry_at_unique : (xs : List EntryView) (i : ℕ) (x y : EntryView) → i < length xs → x ≡ get_or xs i x → y ≡ get_or xs i y → x ≡ y
entry_at_unique xs i x y low is same =
    let both : x ∷ drop (i + 1) xs ≡ y ∷ drop (i + 1) xs = sym (drop_entry_cons xs i x low is) ∙ drop_entry_cons xs i y low same in
    cc both

weight_of_append : (ds es : Opened) → weight_of (ds ++ es) ≡ weight_of ds + weight_of es
weight_of_append [] es = omega arith
weight_of_append (d ∷ ds) es = omega (arith, weight_of_append ds es)

weight_of_under : (name : List ℕ) (ds : Opened) → weight_of (under name ds) ≡ weight_of ds
weight_of_under name [] = omega arith
weight_of_under name (d ∷ ds) = omega (arith, weight_of_under name ds)

weight_of_next_child : (name : List ℕ) (cs : List Child)
    → child_weight (next_child name cs) + weight_of (below (parts (pairs_after_next name cs))) ≡ weight_of (below (parts cs))
weight_of_next_child name [] = omega arith
weight_of_next_child name (c ∷ cs) = elim (same_name (bstring_bytes c.name) name) as
    (λ b. child_weight (cond b (Some c) None) + weight_of (below (parts (cond b cs (c ∷ cs)))) ≡ weight_of (below (parts (c ∷ cs)))) [
      | true ↦ omega (
        arith,
        weight_of_append (under (bstring_bytes c.name) c.open) (below (parts cs)),
        weight_of_under (bstring_bytes c.name) c.open,
      )
      | false ↦ omega arith
    ]

-- a directory whose walk begins
module _ (f : Frame) (es base : List EntryView) (cs : List Child) (view : opened es base (parts cs) ≡ f.node.now)
    (held : held_entries f.tree ≡ es) (first : f.next ≡ 0) (children : remaining_list f.remaining ≡ cs) where
  remaining_at_first : remaining_entries f ≡ es
  remaining_at_first = ap (λ n. drop n (held_entries f.tree)) first ∙ held

  pub has_come_first : IsLevel es (parts cs) → AreNonEmpty (λ (p : Vec Child Global). p.items) f.remaining.more.now
      → bases_of f.node.now [] ≡ Some f.base.now → f.written_tree ≡ Prefix 0 → HasEmitted f [] [] 0
  has_come_first level filled based written_tree =
      let none : written_entries f ≡ [] = ap (so_far f.base.now) written_tree in record {
        in_step = record {
          root = dirs_of_nil f.node.now es (parts cs) view ∙ ap Some (sym held);
          based = based;
          formed = subst IsWellFormed (sym held) level.formed;
          shares_base = subst (SharesBase f.base.now) (sym written_tree) (omega arith);
          filled = filled;
          ahead = subst (λ r. Ahead f.node.now r (remaining_list f.remaining)) (sym remaining_at_first)
              (subst (Ahead f.node.now es) (sym children) (ahead_of_opened f.node.now es base cs view level));
        };
        walked = λ qs more n walk.
            subst (λ os. EmitsEntries (dirs_of f.node.now) (bases_of f.node.now) (held_entries f.tree) qs (os ++ more) (0 + n)) (sym none)
            (walks_of_count n (0 + n) (omega arith)
            (subst (λ rs. EmitsEntries (dirs_of f.node.now) (bases_of f.node.now) rs qs more n) (remaining_at_first ∙ sym held) walk));
        trees = ap (λ xs. leaf_trees (below (parts xs))) children ∙ ap (λ (ds : Opened). leaf_trees (inside_of ds)) view;
      }

  pub weight_first : frame_weight f + 1 ≡ weight_of f.node.now
  weight_first = omega (
    arith,
    ap length remaining_at_first,
    ap (λ xs. weight_of (below (parts xs))) children,
    ap weight_of view,
  )

-- a step along an entry
module _ (f : Frame) (e : EntryView) (low : f.next < length (held_entries f.tree)) (is : e ≡ get_or (held_entries f.tree) f.next e)
    (next : Option Child) (r : Remaining) (is_next : next ≡ next_child e.name (remaining_list f.remaining))
    (following : remaining_list r ≡ pairs_after_next e.name (remaining_list f.remaining)) where
  stepped_of_frame : IsInStep f (remaining_entries f)
      → Stepped f.node.now e (drop (f.next + 1) (held_entries f.tree)) (next_child e.name (remaining_list f.remaining))
      (pairs_after_next e.name (remaining_list f.remaining))
  stepped_of_frame so = stepped_succ f.node.now (held_entries f.tree) f.next e (remaining_list f.remaining) low is so.ahead

  dirs_of_entry : IsInStep f (remaining_entries f) → in_dir e.name (dirs_of f.node.now) ≡ child_side entries_side next
  dirs_of_entry so = λ i path.
      ((stepped_of_frame so).here entries_side path ∙ ap (λ (o : Option Child). child_side entries_side o path) (sym is_next)) i

  bases_of_entry : IsInStep f (remaining_entries f) → in_dir e.name (bases_of f.node.now) ≡ child_side base_side next
  bases_of_entry so = λ i path.
      ((stepped_of_frame so).here base_side path ∙ ap (λ (o : Option Child). child_side base_side o path) (sym is_next)) i

  trees_of_entry : IsInStep f (remaining_entries f)
      → child_leaf_trees next ++ leaf_trees (below (parts (remaining_list r))) ≡ leaf_trees (below (parts (remaining_list f.remaining)))
  trees_of_entry so =
      ap (λ o. child_leaf_trees o ++ leaf_trees (below (parts (remaining_list r)))) is_next
      ∙ ap (λ cs. child_leaf_trees (next_child e.name (remaining_list f.remaining)) ++ leaf_trees (below (parts cs))) following
      ∙ leaf_trees_of_next_child e.name (remaining_list f.remaining) so.ahead.ordered

  weight_of_entry : length (remaining_entries f) + weight_of (below (parts (remaining_list f.remaining)))
      ≡ length (drop (f.next + 1) (held_entries f.tree)) + 1 + (child_weight next + weight_of (below (parts (remaining_list r))))
  weight_of_entry = omega (
    arith,
    ap length (drop_entry_cons (held_entries f.tree) f.next e low is),
    weight_of_next_child e.name (remaining_list f.remaining),
    ap child_weight is_next,
    ap (λ cs. weight_of (below (parts cs))) following,
  )

  in_step_after : IsInStep f (remaining_entries f) → AreNonEmpty (λ (p : Vec Child Global). p.items) r.more.now → (n : ℕ) (o : WrittenTree)
      → SharesBase f.base.now o
      → IsInStep (record { node = f.node; base = f.base; tree = f.tree; next = n; remaining = r; written_tree = o }) (drop (f.next + 1) (held_entries f.tree))
  in_step_after so filled n o shares = record {
    root = so.root;
    based = so.based;
    formed = so.formed;
    shares_base = shares;
    filled = filled;
    ahead = subst (Ahead f.node.now (drop (f.next + 1) (held_entries f.tree))) (sym following) (stepped_of_frame so).ahead;
  }

  pub has_come_visited : AreNonEmpty (λ (p : Vec Child Global). p.items) r.more.now → (o : WrittenTree) (inner : List Pair) (kept : List EntryView) (k : ℕ)
      → EmitsEntry (child_side entries_side next) (child_side base_side next) e inner kept k → so_far f.base.now o ≡ written_entries f ++ kept
      → SharesBase f.base.now o → (ps : List Pair) (ts : List (List EntryView)) (count : ℕ) → HasEmitted f ps ts count
      → HasEmitted (record { node = f.node; base = f.base; tree = f.tree; next = f.next + 1; remaining = r; written_tree = o }) (ps ++ inner)
      (ts ++ child_leaf_trees next) (count + k)
  has_come_visited filled o inner kept k emits written_tree shares ps ts count come = record {
    in_step = in_step_after come.in_step filled (f.next + 1) o shares;
    walked = walk_step (dirs_of f.node.now) (bases_of f.node.now) (child_side entries_side next) (child_side base_side next) (held_entries f.tree) f.next e
        ps inner (written_entries f) kept count k low is (dirs_of_entry come.in_step) (bases_of_entry come.in_step) emits come.walked
        (so_far f.base.now o) written_tree;
    trees = append_assoc ts (child_leaf_trees next) _ ∙ ap (λ us. ts ++ us) (trees_of_entry come.in_step) ∙ come.trees;
  }

  pub waits_for_child : AreNonEmpty (λ (p : Vec Child Global). p.items) r.more.now → (node : Opened) → IsBegun next node
      → (ps : List Pair) (ts : List (List EntryView)) (count : ℕ) → HasEmitted f ps ts count
      → Waits (record { node = f.node; base = f.base; tree = f.tree; next = f.next; remaining = r; written_tree = f.written_tree }) node ps ts count
  waits_for_child filled node begun ps ts count come = record {
    entry = e;
    low = low;
    is = is;
    dirs = dirs_of_entry come.in_step ∙ begun.dirs;
    bases = bases_of_entry come.in_step ∙ begun.bases;
    root = begun.root;
    in_step = in_step_after come.in_step filled f.next f.written_tree come.in_step.shares_base;
    walked = come.walked;
    trees = ap (λ us. ts ++ us)
        (ap (λ us. us ++ leaf_trees (below (parts (remaining_list r)))) (sym begun.trees) ∙ trees_of_entry come.in_step) ∙ come.trees;
  }

  pub emits_next_of_entry : (inner : List Pair) (kept : List EntryView) (k : ℕ)
      → EmitsEntry (child_side entries_side next) (child_side base_side next) e inner kept k → (more : List Pair) × EmitsNext f (inner ++ more)
  emits_next_of_entry inner kept k emits =
      let rest = walk_exists_of_open f.node.now (drop (f.next + 1) (held_entries f.tree)) in (
        rest.0,
        λ ps ts count come. (
          written_entries f ++ (kept ++ rest.1),
          count + (k + rest.2),
          of_entries (dirs_of f.node.now) (bases_of f.node.now) (held_entries f.tree) _ _ _ come.in_step.root
              (walk_goes (dirs_of f.node.now) (bases_of f.node.now) (child_side entries_side next) (child_side base_side next) (held_entries f.tree) f.next e
              ps inner (written_entries f) kept count k low is (dirs_of_entry come.in_step) (bases_of_entry come.in_step) emits come.walked
              rest.0 rest.1 rest.2 rest.3),
        ),
      )

  pub lighter_visited : (o : WrittenTree)
      → frame_weight (record { node = f.node; base = f.base; tree = f.tree; next = f.next + 1; remaining = r; written_tree = o }) + 1 ≤ frame_weight f
  lighter_visited o = omega (arith, weight_of_entry)

  pub lighter_begun : (node : Opened) → IsBegun next node
      → frame_weight (record { node = f.node; base = f.base; tree = f.tree; next = f.next; remaining = r; written_tree = f.written_tree }) + weight_of node ≤
      frame_weight f
  lighter_begun node begun = omega (
    arith,
    weight_of_entry,
    begun.weight,
    ap length (drop_entry_cons (held_entries f.tree) f.next e low is),
  )

-- a frame without remaining entries
module _ (f : Frame) (none : remaining_entries f ≡ []) (ps : List Pair) (ts : List (List EntryView)) (count : ℕ) (come : HasEmitted f ps ts count) where
  walks_of_ended : EmitsEntries (dirs_of f.node.now) (bases_of f.node.now) (held_entries f.tree) ps (written_entries f) count
  walks_of_ended =
      let walk = come.walked [] [] 0
      (subst (λ es. EmitsEntries (dirs_of f.node.now) (bases_of f.node.now) es [] [] 0) (sym none) (end (dirs_of f.node.now) (bases_of f.node.now))) in
      walks_of_count (count + 0) count (omega arith) (rw (append-nil, append-nil) at walk)

  pub emits_below_of_ended : EmitsBelow (dirs_of f.node.now) (bases_of f.node.now) ps (written_entries f) count
  emits_below_of_ended = of_entries (dirs_of f.node.now) (bases_of f.node.now) (held_entries f.tree) ps
      (written_entries f) count come.in_step.root walks_of_ended

  pub storable_of_ended : IsStorable (written_entries f)
  storable_of_ended = written_is_storable (dirs_of f.node.now) (bases_of f.node.now) (held_entries f.tree) ps (written_entries f) count walks_of_ended
      come.in_step.formed

  pub trees_of_ended : ts ≡ leaf_trees (inside_of f.node.now)
  trees_of_ended = sym (append-nil ts)
      ∙ ap (λ cs. ts ++ leaf_trees (below (parts cs))) (sym (remaining_nil f.node.now _ _ none come.in_step.ahead)) ∙ come.trees

-- the frame above goes on after a directory that ended
module _ (old done : Frame) (e : EntryView) (is : e ≡ get_or (held_entries old.tree) old.next e) (none : remaining_entries done ≡ [])
    (more : List Pair) (kept : List EntryView) (k : ℕ) (emits : EmitsWritten done.base.now e (written_entries done) more kept k) where
  emits_entry_of_ended : (qs : List Pair) (us : List (List EntryView)) (n : ℕ) → HasEmitted done qs us n
      → EmitsEntry (dirs_of done.node.now) (bases_of done.node.now) e (qs ++ more) kept (n + k)
  emits_entry_of_ended qs us n come = emits (dirs_of done.node.now) (bases_of done.node.now) qs n come.in_step.based
      (emits_below_of_ended done none qs us n come)

  entry_of_waits : (ps : List Pair) (ts : List (List EntryView)) (count : ℕ) (waits : Waits old done.node.now ps ts count) → waits.entry ≡ e
  entry_of_waits ps ts count waits = entry_at_unique (held_entries old.tree) old.next waits.entry e waits.low waits.is is

  pub has_resumed : (o : WrittenTree) → so_far old.base.now o ≡ written_entries old ++ kept → SharesBase old.base.now o
      → HasResumed old done (record { node = old.node; base = old.base; tree = old.tree; next = old.next + 1; remaining = old.remaining; written_tree = o })
      more k
  has_resumed o written_tree shares = λ ps qs ts us count n waits come. record {
    in_step = record {
      root = waits.in_step.root;
      based = waits.in_step.based;
      formed = waits.in_step.formed;
      shares_base = shares;
      filled = waits.in_step.filled;
      ahead = waits.in_step.ahead;
    };
    walked = walk_step (dirs_of old.node.now) (bases_of old.node.now) (dirs_of done.node.now) (bases_of done.node.now) (held_entries old.tree) old.next e
        ps (qs ++ more) (written_entries old) kept count (n + k) waits.low is
        (ap (λ (x : EntryView). in_dir x.name (dirs_of old.node.now)) (sym (entry_of_waits ps ts count waits)) ∙ waits.dirs)
        (ap (λ (x : EntryView). in_dir x.name (bases_of old.node.now)) (sym (entry_of_waits ps ts count waits)) ∙ waits.bases)
        (emits_entry_of_ended qs us n come) waits.walked (so_far old.base.now o) written_tree;
    trees = append_assoc ts us _ ∙ ap (λ x. ts ++ (x ++ leaf_trees (below (parts (remaining_list old.remaining))))) (trees_of_ended done none qs us n come)
        ∙ waits.trees;
  }

  pub emits_after_written : (rest : List Pair) × EmitsAfter old done (more ++ rest)
  emits_after_written =
      let rest = walk_exists_of_open old.node.now (drop (old.next + 1) (held_entries old.tree)) in (
        rest.0,
        λ ps qs ts us count n waits come. (
          written_entries old ++ (kept ++ rest.1),
          count + ((n + k) + rest.2),
          of_entries (dirs_of old.node.now) (bases_of old.node.now) (held_entries old.tree) _ _ _ waits.in_step.root
              (subst (λ x. EmitsEntries (dirs_of old.node.now) (bases_of old.node.now) (held_entries old.tree) (ps ++ x)
              (written_entries old ++ (kept ++ rest.1))
              (count + ((n + k) + rest.2))) (append_assoc qs more rest.0)
              (walk_goes (dirs_of old.node.now) (bases_of old.node.now) (dirs_of done.node.now) (bases_of done.node.now) (held_entries old.tree) old.next e
              ps (qs ++ more) (written_entries old) kept count (n + k) waits.low is
              (ap (λ (x : EntryView). in_dir x.name (dirs_of old.node.now)) (sym (entry_of_waits ps ts count waits)) ∙ waits.dirs)
              (ap (λ (x : EntryView). in_dir x.name (bases_of old.node.now)) (sym (entry_of_waits ps ts count waits)) ∙ waits.bases)
              (emits_entry_of_ended qs us n come) waits.walked rest.0 rest.1 rest.2 rest.3)),
        ),
      )

-- the frame above is lighter by an entry
pub lighter_resumed : (f : Frame) (o : WrittenTree) → f.next < length (held_entries f.tree)
    → frame_weight (record { node = f.node; base = f.base; tree = f.tree; next = f.next + 1; remaining = f.remaining; written_tree = o }) < frame_weight f
lighter_resumed f o low = omega (arith, length-drop (f.next + 1) (held_entries f.tree), length-drop f.next (held_entries f.tree))
