-- Git reads one list of entries of a tree, so that its messages are unique.
use Rattle.std.proofs.Common.{◌≡◌, ◌∙◌, ◌++◌, ◌+◌, ℕ, Bool, List, [], ◌∷◌, ap, arith, inl, inr, length, length-append, refl, subst, sym}
use Rattle.gixobj_fsck_messages.specs.Sets.{HasMessage}
use Rattle.gixobj_fsck_messages.specs.declared.message.Message.{Message}
use Rattle.gixobj_hash.proofs.Runs as runs
use Rattle.gixobj_hash.proofs.Splits.{split_parts_unique}
use Rattle.gixobj_hash.specs.Runs.{Ending}
use Rattle.gixobj_hash.specs.declared.hash.kind.Kind.{Kind}
use Rattle.gixobj_tree_entries.proofs.EncodedModes.{octal_digits_space_free}
use Rattle.gixobj_fsck_trees.proofs.RawEntryParts.{after_digits}
use Rattle.gixobj_fsck_trees.specs.RawEntries.{BeginsWithRawEntry, RawEntryStep, RawEntryView, ReadsTree}
use Rattle.gixobj_fsck_trees.specs.TreeMessages.{HaveUniqueMessages, ReportsOfTree}

append_parts_unique : (a x b y : List ℕ) → length a ≡ length b → a ++ x ≡ b ++ y → (a ≡ b) × (x ≡ y)
append_parts_unique [] x [] y len same = (refl, same)
append_parts_unique [] x (second ∷ b) y len same = cc len
append_parts_unique (first ∷ a) x [] y len same = cc len
append_parts_unique (first ∷ a) x (second ∷ b) y len same =
    let lengths : length a ≡ length b = omega (arith, len) in
    let rest = append_parts_unique a x b y lengths (cc same) in
    let heads : first ≡ second = cc same in
    (cc (heads, rest.0), rest.1)

abbrev pub view_of : ℕ → ℕ → List ℕ → List ℕ → ℕ → ℕ → RawEntryView
view_of mode first_digit name id offset end =
    record { mode = mode; first_digit = first_digit; name = name; id = id; offset = offset; end = end }

same_view : (m m' f f' : ℕ) (n n' i i' : List ℕ) (o o' e e' : ℕ) → m ≡ m' → f ≡ f' → n ≡ n' → i ≡ i' → o ≡ o' → e ≡ e'
    → view_of m f n i o e ≡ view_of m' f' n' i' o' e'
same_view m m' f f' n n' i i' o o' e e' mode first_digit name id offset end = rw (mode, first_digit, name, id, offset, end) refl

-- an input begins with at most one entry: its digits and its rest are unique
pub raw_entry_parts_unique : (kind : Kind) (input : List ℕ) (a b : RawEntryView) (x y : List ℕ) (first : BeginsWithRawEntry kind input a x)
    (second : BeginsWithRawEntry kind input b y) → (first.digits ≡ second.digits) × (x ≡ y)
raw_entry_parts_unique kind input a b x y first second =
    let digits = split_parts_unique 32 first.digits (after_digits a x) second.digits (after_digits b y)
    (octal_digits_space_free first.digits first.octal.1) (octal_digits_space_free second.digits second.octal.1) (sym first.joined ∙ second.joined) in
    let names = split_parts_unique 0 a.name (a.id ++ x) b.name (b.id ++ y) first.name second.name digits.1 in
    (digits.0, (append_parts_unique a.id x b.id y (first.id ∙ sym second.id) names.1).1)

-- an input begins with at most one entry at its offsets
raw_entry_unique : (kind : Kind) (input : List ℕ) (a b : RawEntryView) (x y : List ℕ) → BeginsWithRawEntry kind input a x
    → BeginsWithRawEntry kind input b y → a.offset ≡ b.offset → (x ≡ y → a.end ≡ b.end) → (a ≡ b) × (x ≡ y)
raw_entry_unique kind input a b x y first second offset end =
    let digits = split_parts_unique 32 first.digits (after_digits a x) second.digits (after_digits b y)
    (octal_digits_space_free first.digits first.octal.1) (octal_digits_space_free second.digits second.octal.1) (sym first.joined ∙ second.joined) in
    let names = split_parts_unique 0 a.name (a.id ++ x) b.name (b.id ++ y) first.name second.name digits.1 in
    let ids = append_parts_unique a.id x b.id y (first.id ∙ sym second.id) names.1 in
    let same_digits : first.digits ≡ second.digits = digits.0 in
    let mode : a.mode ≡ b.mode = first.mode ∙ (rw same_digits (sym second.mode)) in
    let first_digit : a.first_digit ≡ b.first_digit = first.first ∙ (rw same_digits (sym second.first)) in
    let name : a.name ≡ b.name = names.0 in
    let id : a.id ≡ b.id = ids.0 in (
      same_view a.mode b.mode a.first_digit b.first_digit a.name b.name a.id b.id a.offset b.offset a.end b.end mode first_digit name id offset
          (end ids.1),
      ids.1,
    )

next_unique : (before input s t : ℕ) (x y : List ℕ) → s + length x ≡ before + input → t + length y ≡ before + input → x ≡ y → s ≡ t
next_unique before input s t x y first second same =
    let len : length x ≡ length y = ap (λ (it : List ℕ). length it) same in
    omega (arith, len, first, second)

step_unique : (kind : Kind) (before : ℕ) (input : List ℕ) (a b : RawEntryView) (s t : ℕ) (x y : List ℕ) → RawEntryStep kind before input a s x
    → RawEntryStep kind before input b t y → (a ≡ b) × (s ≡ t) × (x ≡ y)
step_unique kind before input a b s t x y first second =
    let next = next_unique before (length input) s t x y first.3 second.3 in
    let same = raw_entry_unique kind input a b x y first.0 second.0 (first.1 ∙ sym second.1)
    (λ (rest : x ≡ y). first.2 ∙ next rest ∙ sym second.2) in
    (same.0, next same.1, same.1)

no_step_of_nil : (kind : Kind) (before : ℕ) (input : List ℕ) (e : RawEntryView) (following : ℕ) (rest : List ℕ) → input ≡ []
    → RawEntryStep kind before input e following rest → ⊥
no_step_of_nil kind before input e following rest bare has =
    let len : length input ≡ length (has.0.digits ++ 32 ∷ after_digits e rest) = ap (λ (it : List ℕ). length it) has.0.joined in
    let none : length input ≡ 0 = ap (λ (it : List ℕ). length it) bare in
    omega (arith, len, none, length-append has.0.digits (32 ∷ after_digits e rest))

-- git reads one list of entries of a tree
pub tree_reads_uniquely : (kind : Kind) (bytes : List ℕ) (a b : List RawEntryView) (e f : Ending) → ReadsTree kind bytes a e → ReadsTree kind bytes b f
    → (a ≡ b) × (e ≡ f)
tree_reads_uniquely kind bytes a b e f (inl first) (inl second) =
    runs.one_run (RawEntryStep kind) (step_unique kind) (no_step_of_nil kind) 0 bytes a b e f first.1 second.1
tree_reads_uniquely kind bytes a b e f (inl first) (inr second) = absurd (second.0 first.0)
tree_reads_uniquely kind bytes a b e f (inr first) (inl second) = absurd (first.0 second.0)
tree_reads_uniquely kind bytes a b e f (inr first) (inr second) = (first.1 ∙ sym second.1, first.2 ∙ sym second.2)

report_of_same : (strict : Bool) (a b : List RawEntryView) (e f : Ending) (it : Message) → a ≡ b → e ≡ f → ReportsOfTree strict a e it
    → ReportsOfTree strict b f it
report_of_same strict a b e f it entries ending report =
    let P : List RawEntryView → Type 0 = λ all. ReportsOfTree strict all e it in
    let Q : Ending → Type 0 = λ last. ReportsOfTree strict b last it in
    subst Q ending (subst P entries report)

-- the messages about a tree are unique
pub tree_messages_unique : (kind : Kind) (strict : Bool) (bytes : List ℕ) → HaveUniqueMessages kind strict bytes
tree_messages_unique kind strict bytes first second are others it =
    let same = tree_reads_uniquely kind bytes are.0 others.0 are.1 others.1 are.2 others.2 in (
      λ (has : HasMessage first it). (others.3 it).1 (report_of_same strict are.0 others.0 are.1 others.1 it same.0 same.1 ((are.3 it).0 has)),
      λ (has : HasMessage second it). (are.3 it).1 (report_of_same strict others.0 are.0 others.1 are.1 it (sym same.0) (sym same.1) ((others.3 it).0 has)),
    )
