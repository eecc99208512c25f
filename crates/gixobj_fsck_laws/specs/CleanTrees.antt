-- Trees of which git-fsck has no message (git-fsck, "FSCK MESSAGES").
use Rattle.std.specs.Prelude.{◌≡◌, ◌≢◌, ◌⊎◌, ◌<◌, ◌^◌, ℕ, Bool, false, List, [], All, codes}
use Rattle.std.specs.Str.Parse.{digits_value}
use Rattle.gixobj_hash.specs.Hash.{IsNull}
use Rattle.gixobj_hash.specs.declared.hash.kind.Kind.{Kind}
use Rattle.gixobj_tree_entries.specs.Entries.{EntryView}
use Rattle.gixobj_tree.specs.Rewriting.{HasCanonicalModes}
use Rattle.gixobj_tree.specs.WellFormed.{IsWellFormed}
use Rattle.gixobj_fsck_messages.specs.Sets.{HasNoMessage}
use Rattle.gixobj_fsck_messages.specs.declared.set.Messages.{Messages}
use Rattle.gixobj_fsck_names.specs.DotGit.{IsDotGit}
use Rattle.gixobj_fsck_trees.specs.RawEntries.{BeginsWithRawEntry, RawEntryView}
use Rattle.gixobj_fsck_trees.specs.TreeMessages.{AreTreeMessages}

-- git has no message about these bytes as a tree
abbrev pub IsCleanTree : Kind → Bool → List ℕ → Type 0
IsCleanTree kind strict bytes = (messages : Messages) × AreTreeMessages kind strict bytes messages
    × HasNoMessage messages

-- the bytes are entries, and the number of each mode has at most 16 bits. Git takes it modulo 2^16
pub data HaveSmallModes (kind : Kind) : List ℕ → Type 0 where
  no_entry : HaveSmallModes kind []
  next_entry : (input rest : List ℕ) (e : RawEntryView) (begins : BeginsWithRawEntry kind input e rest)
      → digits_value 8 begins.digits < 2 ^ 16 → HaveSmallModes kind rest → HaveSmallModes kind input

-- a mode that git writes; a check that isn't strict takes 100664 too
abbrev pub IsGitMode : Bool → ℕ → Type 0
IsGitMode strict mode = (mode ≡ 0o100644) ⊎ (mode ≡ 0o100755) ⊎ (mode ≡ 0o120000) ⊎ (mode ≡ 0o040000)
    ⊎ (mode ≡ 0o160000) ⊎ ((strict ≡ false) × (mode ≡ 0o100664))

-- an entry whose name is no directory's own and no repository's, whose id isn't null, and whose mode git writes
pub record IsSafeEntry (strict : Bool) (e : EntryView) : Type 0 where
  pub no_repository : ¬ IsDotGit e.name
  pub no_directory : e.name ≢ codes "."
  pub no_parent : e.name ≢ codes ".."
  pub some : ¬ IsNull e.id
  pub mode : IsGitMode strict e.mode

-- the bytes decode to a well-formed tree that re-encodes identically, and each entry is safe
abbrev pub IsSafeTree : Kind → Bool → List ℕ → Type 0
IsSafeTree kind strict bytes = (entries : List EntryView) × HasCanonicalModes kind bytes entries
    × IsWellFormed entries × All (IsSafeEntry strict) entries
