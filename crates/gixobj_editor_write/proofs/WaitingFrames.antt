-- Frames of a walk, each of which waits for the next, emit pairs of a write of the root, wherever the walk stops; the
-- proof of `emit_below` uses it.
use Rattle.std.proofs.Common.{◌≡◌, ◌∙◌, ◌+◌, ℕ, List, [], ◌∷◌, ◌++◌, Some, drop, refl, sym, ap, subst, arith, append_assoc, append-nil}
use Rattle.std.specs.Prelude.{reverse}
use Rattle.std.specs.List.{FoldsTo}
use Rattle.std.proofs.lemmas.List.{reverse-append}
use denote.Ref.{Bor}
use Rattle.gixobj_tree_entries.specs.Entries.{EntryView, Pair}
use Rattle.gixobj_editor_files.specs.Edits.{raised}
use Rattle.gixobj_editor_files.specs.Emission.{EmitsBelow, EmitsEntries, of_entries}
use Rattle.gixobj_editor_write.specs.Frames.{EmitsAfter, EmitsNext, HasEmitted, HasResumed, HasStepped, Waits, frame_weight, held_entries, written_entries}
use Rattle.gixobj_editor_write.specs.Frames.{remaining_entries}
use Rattle.gixobj_editor_write.specs.TakenTrees.{Adds}
use Rattle.gixobj_editor_open.specs.LeafTrees.{inside_of, leaf_trees}
use Rattle.gixobj_editor_open.specs.Nested.{Opened, bases_of, dirs_of}
use Rattle.gixobj_editor_write.specs.WriteErrors.{IsWriteError}
use Rattle.gixobj_editor_write.specs.declared.frames.Frame.{Frame}
use Rattle.gixobj_editor_write.specs.declared.walk.Step.TheVariants as step
use Rattle.gixobj_editor_write.specs.declared.write.WriteError.{WriteError}
use Rattle.gixobj_editor_write.specs.declared.write.WriteError.TheVariants as write
use Rattle.gixobj_editor_write.proofs.Emitting.{emits_entry_open, folds_to_append, raised_append, stopped_after_folds, stopped_at_call, walk_exists_of_open}
use Rattle.gixobj_editor_write.proofs.Emitting.{walk_goes}
use Rattle.gixobj_editor_write.proofs.BegunFrames.{emits_below_of_ended, trees_of_ended}
use Rattle.gixobj_editor_write.proofs.TakenTrees.{adds_append, adds_nil}

-- frames, the last begun first: each waits for the next, and the last for this directory; what came of all
abbrev pub AllWait : Opened → List Frame → Opened → List Pair → List (List EntryView) → ℕ → Type 0
AllWait root [] inner ps ts count = (root ≡ inner) × (ps ≡ []) × (ts ≡ []) × (count ≡ 0)
AllWait root (f ∷ fs) inner ps ts count = (before : List Pair) × (qs : List Pair) × (first : List (List EntryView))
    × (us : List (List EntryView)) × (m : ℕ) × (n : ℕ) × AllWait root fs f.node.now before first m
    × Waits f inner qs us n × (ps ≡ before ++ qs) × (ts ≡ first ++ us) × (count ≡ m + n)

-- the weight of all frames
abbrev pub frames_weight : List Frame → ℕ
frames_weight [] = 0
frames_weight (f ∷ fs) = frame_weight f + frames_weight fs

-- some pairs are emitted below this directory, with this prefix
abbrev pub EmitsAt : Opened → List Pair → Type 0
EmitsAt node ps = (written_tree : List EntryView) × (count : ℕ) × EmitsBelow (dirs_of node) (bases_of node) ps written_tree count

-- whatever the inner directory emits, a frame that waits for it emits something with it
waiting_emits : (f : Frame) (inner : Opened) (ps : List Pair) (ts : List (List EntryView)) (count : ℕ) → Waits f inner ps ts count
    → (qs : List Pair) → EmitsAt inner qs → (more : List Pair) × EmitsAt f.node.now (ps ++ (qs ++ more))
waiting_emits f inner ps ts count waits qs found =
    let seen = emits_entry_open (dirs_of inner) (bases_of inner) waits.entry qs found.0 found.1 found.2 in
    let rest = walk_exists_of_open f.node.now (drop (f.next + 1) (held_entries f.tree)) in (
      seen.0 ++ rest.0,
      (
        written_entries f ++ (seen.1 ++ rest.1),
        count + (seen.2 + rest.2),
        of_entries (dirs_of f.node.now) (bases_of f.node.now) (held_entries f.tree) _ _ _ waits.in_step.root
            (subst (λ x. EmitsEntries (dirs_of f.node.now) (bases_of f.node.now) (held_entries f.tree) (ps ++ x) (written_entries f ++ (seen.1 ++ rest.1))
            (count + (seen.2 + rest.2))) (append_assoc qs seen.0 rest.0)
            (walk_goes (dirs_of f.node.now) (bases_of f.node.now) (dirs_of inner) (bases_of inner) (held_entries f.tree) f.next waits.entry
            ps (qs ++ seen.0) (written_entries f) seen.1 count seen.2 waits.low waits.is waits.dirs waits.bases seen.3 waits.walked
            rest.0 rest.1 rest.2 rest.3)),
      ),
    )

append_five : (a b c d e : List Pair) → a ++ ((b ++ (c ++ d)) ++ e) ≡ (a ++ b) ++ (c ++ (d ++ e))
append_five a b c d e = simp append_assoc

-- all waiting frames, finished from the last on, emit pairs of a write of the root
pub all_emit : (root : Opened) (fs : List Frame) (inner : Opened) (ps : List Pair) (ts : List (List EntryView)) (count : ℕ) → AllWait root fs inner ps ts count
    → (qs : List Pair) → EmitsAt inner qs → (more : List Pair) × EmitsAt root (ps ++ (qs ++ more))
all_emit root [] inner ps ts count all qs found = (
  [],
  subst (λ x. EmitsAt root (x ++ (qs ++ []))) (sym all.1) (subst (EmitsAt root) (sym (append-nil qs)) (subst (λ (d : Opened). EmitsAt d qs) (sym all.0) found)),
)
all_emit root (f ∷ fs) inner ps ts count all qs found =
    let one = waiting_emits f inner all.1 all.3 all.5 all.7 qs found in
    let rest = all_emit root fs f.node.now all.0 all.2 all.4 all.6 (all.1 ++ (qs ++ one.0)) one.1 in (
      one.0 ++ rest.0,
      subst (EmitsAt root) (append_five all.0 all.1 qs one.0 rest.0 ∙ ap (λ x. x ++ (qs ++ (one.0 ++ rest.0))) (sym all.8)) rest.1,
    )

-- a directory with a root emits something
pub emits_at_exists : (node : Opened) (entries : List EntryView) → dirs_of node [] ≡ Some entries → (qs : List Pair) × EmitsAt node qs
emits_at_exists node entries root = let rest = walk_exists_of_open node entries in
    (rest.0, (rest.1, rest.2, of_entries (dirs_of node) (bases_of node) entries rest.0 rest.1 rest.2 root rest.3))

-- a walk under way: what came of the frames that wait, and of the last
pub record IsUnderWay {F : Type 0} (gave : F → Pair → F → Type 0) (root : Opened) (old new : F) (had has : List Pair) (was is : ℕ) (fs : List Frame)
    (f : Frame) : Type 0 where
  pub before : List Pair
  pub qs : List Pair
  pub first : List (List EntryView)
  pub us : List (List EntryView)
  pub m : ℕ
  pub n : ℕ
  pub waiting : AllWait root fs f.node.now before first m
  pub come : HasEmitted f qs us n
  pub adds : Adds had has (first ++ us) (before ++ qs)
  pub counted : is ≡ raised was (m + n)
  pub called : FoldsTo gave old (before ++ qs) new

module _ {F : Type 0} {gave : F → Pair → F → Type 0} {root : Opened} {old : F} {had : List Pair} {was : ℕ} where
  pub under_way_first : (f : Frame) → f.node.now ≡ root → HasEmitted f [] [] 0 → IsUnderWay gave root old old had had was was [] f
  under_way_first f node come = record {
    before = [];
    qs = [];
    first = [];
    us = [];
    m = 0;
    n = 0;
    waiting = (sym node, refl, refl, refl);
    come = come;
    adds = adds_nil had;
    counted = refl;
    called = refl;
  }

  -- the same frames in another list
  pub under_way_of_equal : {mid : F} {has : List Pair} {is : ℕ} {fs gs : List Frame} {f : Frame} → fs ≡ gs
      → IsUnderWay gave root old mid had has was is fs f → IsUnderWay gave root old mid had has was is gs f
  under_way_of_equal {mid} {has} {is} {fs} {gs} {f} same so = subst (λ xs. IsUnderWay gave root old mid had has was is xs f) same so

  -- a step of the last frame, with these pairs
  module _ {mid : F} {has : List Pair} {is : ℕ} {fs : List Frame} {f : Frame} (so : IsUnderWay gave root old mid had has was is fs f) (new : F)
      (has' : List Pair) (g : Frame) (node : g.node.now ≡ f.node.now) (more : List Pair) (further : List (List EntryView))
      (adds : Adds has has' further more) (calls : FoldsTo gave mid more new) where
    adds_more : Adds had has' (so.first ++ (so.us ++ further)) (so.before ++ (so.qs ++ more))
    adds_more = subst (λ ts. Adds had has' ts (so.before ++ (so.qs ++ more))) (append_assoc so.first so.us further)
        (subst (Adds had has' ((so.first ++ so.us) ++ further)) (append_assoc so.before so.qs more)
        (adds_append had has has' (so.first ++ so.us) (so.before ++ so.qs) further more so.adds adds))

    calls_more : FoldsTo gave old (so.before ++ (so.qs ++ more)) new
    calls_more = subst (λ x. FoldsTo gave old x new) (append_assoc so.before so.qs more)
        (folds_to_append gave old (so.before ++ so.qs) mid more new so.called calls)

    pub under_way_visited : HasStepped step.Visited f g more further → IsUnderWay gave root old new had has' was is fs g
    under_way_visited stepped = record {
      before = so.before;
      qs = so.qs ++ more;
      first = so.first;
      us = so.us ++ further;
      m = so.m;
      n = so.n;
      waiting = subst (λ (d : Opened). AllWait root fs d so.before so.first so.m) (sym node) so.waiting;
      come = stepped so.qs so.us so.n so.come;
      adds = adds_more;
      counted = so.counted;
      called = calls_more;
    }

    pub under_way_ended : HasStepped step.Ends f g more further → IsUnderWay gave root old new had has' was is fs g
    under_way_ended stepped = under_way_visited (λ ps ts count come. (stepped ps ts count come).0)

    pub under_way_begun : (inner : Bor Opened) → HasStepped (step.Begins inner) f g more further → (h : Frame) → h.node.now ≡ inner.now → HasEmitted h [] [] 0
        → IsUnderWay gave root old new had has' was is (g ∷ fs) h
    under_way_begun inner stepped h same come = record {
      before = so.before ++ (so.qs ++ more);
      qs = [];
      first = so.first ++ (so.us ++ further);
      us = [];
      m = so.m + so.n;
      n = 0;
      waiting = subst (λ (d : Opened). AllWait root (g ∷ fs) d (so.before ++ (so.qs ++ more)) (so.first ++ (so.us ++ further)) (so.m + so.n)) (sym same) (
        so.before,
        so.qs ++ more,
        so.first,
        so.us ++ further,
        so.m,
        so.n,
        subst (λ (d : Opened). AllWait root fs d so.before so.first so.m) (sym node) so.waiting,
        stepped so.qs so.us so.n so.come,
        refl,
        refl,
        refl,
      );
      come = come;
      adds = subst (λ ts. Adds had has' ts ((so.before ++ (so.qs ++ more)) ++ [])) (sym (append-nil (so.first ++ (so.us ++ further))))
          (subst (Adds had has' (so.first ++ (so.us ++ further))) (sym (append-nil (so.before ++ (so.qs ++ more)))) adds_more);
      counted = let same : so.m + so.n ≡ so.m + so.n + 0 = omega arith in subst (λ k. is ≡ raised was k) same so.counted;
      called = subst (λ x. FoldsTo gave old x new) (sym (append-nil (so.before ++ (so.qs ++ more)))) calls_more;
    }

    -- where memory runs out before the next directory is begun
    pub memory_before_begun : {E : Type 0} (rejected : F → List EntryView → E → F → Type 0) (inner : Bor Opened)
        → HasStepped (step.Begins inner) f g more further → (error : WriteError E) → error ≡ write.OutOfMemory
        → IsWriteError gave rejected (EmitsAt root) old new error
    memory_before_begun rejected inner stepped error is_error =
        let waits = stepped so.qs so.us so.n so.come in
        let found = emits_at_exists inner.now waits.root.0 waits.root.1 in
        let one = waiting_emits g inner.now (so.qs ++ more) (so.us ++ further) so.n waits found.0 found.1 in
        let rest = all_emit root fs g.node.now so.before so.first so.m
        (subst (λ (d : Opened). AllWait root fs d so.before so.first so.m) (sym node) so.waiting) ((so.qs ++ more) ++ (found.0 ++ one.0)) one.1 in
        stopped_at_call gave rejected (EmitsAt root) old new (so.before ++ (so.qs ++ more)) (found.0 ++ (one.0 ++ rest.0)) calls_more
        (subst (EmitsAt root) (append_five so.before (so.qs ++ more) found.0 one.0 rest.0) rest.1) error is_error

  -- where a step stops
  pub stopped_in_step : {E : Type 0} {mid : F} {has : List Pair} {is : ℕ} {fs : List Frame} {f : Frame} → IsUnderWay gave root old mid had has was is fs f
      → (rejected : F → List EntryView → E → F → Type 0) (new : F) (error : WriteError E) → IsWriteError gave rejected (EmitsNext f) mid new error
      → IsWriteError gave rejected (EmitsAt root) old new error
  stopped_in_step {E} {mid} {has} {is} {fs} {f} so rejected new =
      stopped_after_folds gave rejected (EmitsNext f) (EmitsAt root) old mid new (so.before ++ so.qs) so.called
      (λ qs next. let rest = all_emit root fs f.node.now so.before so.first so.m so.waiting (so.qs ++ qs) (next so.qs so.us so.n so.come) in
      (rest.0, subst (EmitsAt root) (append_four so.before so.qs qs rest.0) rest.1))
    where
      append_four : (a b c d : List Pair) → a ++ ((b ++ c) ++ d) ≡ (a ++ b) ++ (c ++ d)
      append_four a b c d = simp append_assoc

  -- the last frame has ended
  module _ {mid : F} {has : List Pair} {is : ℕ} {f : Frame} (so : IsUnderWay gave root old mid had has was is [] f) (none : remaining_entries f ≡ []) where
    pub emits_of_ended : EmitsBelow (dirs_of root) (bases_of root) so.qs (written_entries f) so.n
    emits_of_ended = subst (λ (d : Opened). EmitsBelow (dirs_of d) (bases_of d) so.qs (written_entries f) so.n) (sym so.waiting.0)
        (emits_below_of_ended f none so.qs so.us so.n so.come)

    pub counted_of_ended : is ≡ raised was so.n
    counted_of_ended = let same : so.m + so.n ≡ so.n = omega (arith, so.waiting.3) in subst (λ k. is ≡ raised was k) same so.counted

    pub adds_of_ended : Adds had has (leaf_trees (inside_of root)) so.qs
    adds_of_ended =
        let trees : so.first ++ so.us ≡ leaf_trees (inside_of root) =
        ap (λ x. x ++ so.us) so.waiting.2 ∙ trees_of_ended f none so.qs so.us so.n so.come
        ∙ ap (λ (d : Opened). leaf_trees (inside_of d)) (sym so.waiting.0) in
        subst (λ x. Adds had has x so.qs) trees (subst (λ x. Adds had has (so.first ++ so.us) (x ++ so.qs)) so.waiting.1 so.adds)

    pub called_of_ended : FoldsTo gave old so.qs mid
    called_of_ended = subst (λ x. FoldsTo gave old (x ++ so.qs) mid) so.waiting.1 so.called

    pub memory_of_ended : {E : Type 0} (rejected : F → List EntryView → E → F → Type 0) (error : WriteError E) → error ≡ write.OutOfMemory
        → IsWriteError gave rejected (EmitsAt root) old mid error
    memory_of_ended rejected error is_error = stopped_at_call gave rejected (EmitsAt root) old mid so.qs [] called_of_ended
        (subst (EmitsAt root) (sym (append-nil so.qs)) (written_entries f, so.n, emits_of_ended)) error is_error

  -- a frame has ended, and the one above goes on
  module _ {mid : F} {has : List Pair} {is : ℕ} {fs : List Frame} {parent done : Frame}
      (so : IsUnderWay gave root old mid had has was is (parent ∷ fs) done) where
    pub waits_of_parent : (ps : List Pair) × (ts : List (List EntryView)) × (count : ℕ) × Waits parent done.node.now ps ts count
    waits_of_parent = (so.waiting.1, so.waiting.3, so.waiting.5, so.waiting.7)

    pub stopped_in_resume : {E : Type 0} (rejected : F → List EntryView → E → F → Type 0) (new : F) (error : WriteError E)
        → IsWriteError gave rejected (EmitsAfter parent done) mid new error → IsWriteError gave rejected (EmitsAt root) old new error
    stopped_in_resume rejected new = stopped_after_folds gave rejected (EmitsAfter parent done) (EmitsAt root) old mid new (so.before ++ so.qs) so.called
        (λ qs after. let all = so.waiting in
        let rest = all_emit root fs parent.node.now all.0 all.2 all.4 all.6 (all.1 ++ (so.qs ++ qs))
        (after all.1 so.qs all.3 so.us all.5 so.n all.7 so.come) in (
          rest.0,
          subst (EmitsAt root)
              (append_five_left all.0 all.1 so.qs qs rest.0 ∙ ap (λ x. (x ++ so.qs) ++ (qs ++ rest.0)) (sym all.8)) rest.1,
        ))
      where
        append_five_left : (a b c d e : List Pair) → a ++ ((b ++ (c ++ d)) ++ e) ≡ ((a ++ b) ++ c) ++ (d ++ e)
        append_five_left a b c d e = simp append_assoc

    pub under_way_resumed : (new : F) (has' : List Pair) (is' : ℕ) (g : Frame) → g.node.now ≡ parent.node.now → (more : List Pair) (k : ℕ)
        → Adds has has' [] more → is' ≡ raised is k → FoldsTo gave mid more new → HasResumed parent done g more k
        → IsUnderWay gave root old new had has' was is' fs g
    under_way_resumed new has' is' g node more k adds counted calls resumed =
        let all = so.waiting in record {
          before = all.0;
          qs = all.1 ++ (so.qs ++ more);
          first = all.2;
          us = all.3 ++ so.us;
          m = all.4;
          n = all.5 + (so.n + k);
          waiting = subst (λ (d : Opened). AllWait root fs d all.0 all.2 all.4) (sym node) all.6;
          come = resumed all.1 so.qs all.3 so.us all.5 so.n all.7 so.come;
          adds = subst (λ ts. Adds had has' ts (all.0 ++ (all.1 ++ (so.qs ++ more)))) trees
              (subst (Adds had has' ((so.first ++ so.us) ++ [])) pairs
              (adds_append had has has' (so.first ++ so.us) (so.before ++ so.qs) [] more so.adds adds));
          counted = let same : (so.m + so.n) + k ≡ all.4 + (all.5 + (so.n + k)) = omega (arith, all.10) in
              subst (λ j. is' ≡ raised was j) same (raised_append was is is' (so.m + so.n) k so.counted counted);
          called = subst (λ x. FoldsTo gave old x new) pairs (folds_to_append gave old (so.before ++ so.qs) mid more new so.called calls);
        }
      where
        joined : (a b c d : List Pair) → ((a ++ b) ++ c) ++ d ≡ a ++ (b ++ (c ++ d))
        joined a b c d = simp append_assoc

        pairs : (so.before ++ so.qs) ++ more ≡ so.waiting.0 ++ (so.waiting.1 ++ (so.qs ++ more))
        pairs = ap (λ x. (x ++ so.qs) ++ more) so.waiting.8 ∙ joined so.waiting.0 so.waiting.1 so.qs more

        trees : (so.first ++ so.us) ++ [] ≡ so.waiting.2 ++ (so.waiting.3 ++ so.us)
        trees = append-nil (so.first ++ so.us) ∙ ap (λ x. x ++ so.us) so.waiting.9 ∙ append_assoc so.waiting.2 so.waiting.3 so.us

-- frames in a list, the last at its end
pub reverse_push : (fs : List Frame) (f : Frame) → reverse (fs ++ f ∷ []) ≡ f ∷ reverse fs
reverse_push fs f = reverse-append fs (f ∷ [])

pub frames_weight_pop : (fs : List Frame) (f : Frame) → frames_weight (fs ++ f ∷ []) ≡ frames_weight fs + frame_weight f
frames_weight_pop [] f = omega arith
frames_weight_pop (g ∷ fs) f = omega (arith, frames_weight_pop fs f)
