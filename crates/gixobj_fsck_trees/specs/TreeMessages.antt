-- The messages of git-fsck about a tree (git-fsck, "FSCK MESSAGES").
use Rattle.std.specs.Prelude.{◌≡◌, ◌≢◌, ◌⊎◌, ◌↔◌, ◌==◌, ◌-◌, ℕ, Bool, List, [], ◌∷◌, length, take, ⊤}
use Rattle.std.specs.Cmp.Lexicographic.{slice_cmp}
use Rattle.std.specs.Ordering.{nat_cmp}
use Rattle.std.specs.declared.cmp.Ordering.TheVariants.{Less}
use Rattle.gixobj_fsck_messages.specs.Sets.{HasMessage}
use Rattle.gixobj_fsck_messages.specs.declared.message.Message.{Message}
use Rattle.gixobj_fsck_messages.specs.declared.message.Message.TheVariants as message
use Rattle.gixobj_fsck_messages.specs.declared.set.Messages.{Messages}
use Rattle.gixobj_hash.specs.Runs.{Ending, broken, complete}
use Rattle.gixobj_hash.specs.declared.hash.kind.Kind.{Kind}
use Rattle.gixobj_tree_entries.specs.KeyOrder.{name_cmp}
use Rattle.gixobj_tree_entries.specs.Mode.{tree_type, type_bits}
use Rattle.gixobj_fsck_trees.specs.EntryMessages.{HasBadMode, HasEntryMessage}
use Rattle.gixobj_fsck_trees.specs.RawEntries.{RawEntryView, ReadsTree}

-- an entry has the property
abbrev pub HasEntry : (RawEntryView → Type 0) → List RawEntryView → Type 0
HasEntry P [] = ⊥
HasEntry P (e ∷ entries) = P e ⊎ HasEntry P entries

-- the entry is a directory
abbrev pub is_directory : RawEntryView → Bool
is_directory e = type_bits (e.mode) == tree_type

-- the entries have different names, and the first isn't less in the order of names, which compares the common length
-- and one more byte
abbrev pub StepsDown : RawEntryView → RawEntryView → Type 0
StepsDown e next = (e.name ≢ next.name) × (name_cmp e.name (is_directory e) next.name (is_directory next) ≢ Less)

-- two neighbours aren't in the order of names
abbrev pub HasStepDown : List RawEntryView → Type 0
HasStepDown [] = ⊥
HasStepDown (e ∷ []) = ⊥
HasStepDown (e ∷ next ∷ entries) = StepsDown e next ⊎ HasStepDown (next ∷ entries)

-- two entries have one name
abbrev pub HasNameTwice : List RawEntryView → Type 0
HasNameTwice [] = ⊥
HasNameTwice (e ∷ entries) = HasEntry (λ other. other.name ≡ e.name) entries ⊎ HasNameTwice entries

-- each name is less than the next, bytewise
abbrev pub Ascend : List RawEntryView → Type 0
Ascend [] = ⊤
Ascend (e ∷ []) = ⊤
Ascend (e ∷ next ∷ entries) = (slice_cmp nat_cmp e.name next.name ≡ Less) × Ascend (next ∷ entries)

-- the entries without the last
abbrev pub without_last : List RawEntryView → List RawEntryView
without_last entries = take (length entries - 1) entries

-- the entries whose modes, order and names git compares: not the last one of a broken tree
abbrev pub compared : List RawEntryView → Ending → List RawEntryView
compared entries complete = entries
compared entries broken = without_last entries

-- git reports the message of a tree of these entries with this ending
abbrev pub ReportsOfTree : Bool → List RawEntryView → Ending → Message → Type 0
ReportsOfTree strict entries ending it = HasEntry (λ e. HasEntryMessage e it) entries
    ⊎ ((it ≡ message.BadTree) × (ending ≡ broken))
    ⊎ ((it ≡ message.BadFilemode) × HasEntry (HasBadMode strict) (compared entries ending))
    ⊎ ((it ≡ message.DuplicateEntries) × HasNameTwice (compared entries ending))
    ⊎ ((it ≡ message.TreeNotSorted) × HasStepDown (compared entries ending))

-- the set has exactly the messages of these bytes as a tree
abbrev pub AreTreeMessages : Kind → Bool → List ℕ → Messages → Type 0
AreTreeMessages kind strict bytes messages = (entries : List RawEntryView) × (ending : Ending)
    × ReadsTree kind bytes entries ending
    × ((it : Message) → HasMessage messages it ↔ ReportsOfTree strict entries ending it)

-- two sets of exactly the messages of these bytes as a tree have the same messages
abbrev pub HaveUniqueMessages : Kind → Bool → List ℕ → Type 0
HaveUniqueMessages kind strict bytes = (first second : Messages) → AreTreeMessages kind strict bytes first
    → AreTreeMessages kind strict bytes second → (it : Message) → HasMessage first it ↔ HasMessage second it
