-- The messages of git-fsck about single entries of a tree (git-fsck, "FSCK MESSAGES").
use Rattle.std.specs.Prelude.{◌≡◌, ◌⊎◌, ◌∷◌, [], ℕ, Bool, false, List, All, Contains, codes}
use Rattle.gixobj_fsck_messages.specs.declared.message.Message.{Message}
use Rattle.gixobj_fsck_messages.specs.declared.message.Message.TheVariants as message
use Rattle.gixobj_fsck_names.specs.DotFiles.{IsGitAttributes, IsGitIgnore, IsGitModules, IsMailmap}
use Rattle.gixobj_fsck_names.specs.DotGit.{IsDotGit}
use Rattle.gixobj_fsck_names.specs.Letters.{backslash, dot}
use Rattle.gixobj_hash.specs.ByteStrings.{IsByteFree}
use Rattle.gixobj_hash.specs.Bytes.{slash}
use Rattle.gixobj_tree_entries.specs.Mode.{link_type, type_bits}
use Rattle.gixobj_fsck_trees.specs.RawEntries.{RawEntryView}

-- the entry is a symbolic link
abbrev pub IsLink : RawEntryView → Type 0
IsLink e = type_bits (e.mode) ≡ link_type

-- the entry has a mode that git doesn't write; a check that isn't strict takes 100664 too
abbrev pub HasBadMode : Bool → RawEntryView → Type 0
HasBadMode strict e = ¬ ((e.mode ≡ 0o100644) ⊎ (e.mode ≡ 0o100755) ⊎ (e.mode ≡ 0o120000) ⊎ (e.mode ≡ 0o040000)
    ⊎ (e.mode ≡ 0o160000) ⊎ ((strict ≡ false) × (e.mode ≡ 0o100664)))

-- the message is about this link, by its name
abbrev pub HasLinkMessage : RawEntryView → Message → Type 0
HasLinkMessage e it = ((it ≡ message.GitmodulesSymlink) × IsGitModules e.name)
    ⊎ ((it ≡ message.GitattributesSymlink) × IsGitAttributes e.name)
    ⊎ ((it ≡ message.GitignoreSymlink) × IsGitIgnore e.name)
    ⊎ ((it ≡ message.MailmapSymlink) × IsMailmap e.name)

-- the message is about this name: a slash in it, or `.`, `..`, or what file systems take for `.git`
abbrev pub HasNameMessage : RawEntryView → Message → Type 0
HasNameMessage e it = ((it ≡ message.FullPathname) × Contains e.name slash)
    ⊎ ((it ≡ message.HasDot) × (e.name ≡ codes "."))
    ⊎ ((it ≡ message.HasDotdot) × (e.name ≡ codes ".."))
    ⊎ ((it ≡ message.HasDotgit) × IsDotGit e.name)

-- a name with a message may begin with this byte, if it has no slash and no backslash: a dot, `g` in either case, or
-- the first byte of a code point that HFS+ ignores
abbrev pub MayBeginFault : ℕ → Type 0
MayBeginFault first = (first ≡ dot) ⊎ (first ≡ 71) ⊎ (first ≡ 103) ⊎ (first ≡ 0xe2) ⊎ (first ≡ 0xef)

-- the name has no such first byte, no slash and no backslash
abbrev pub IsPlainName : List ℕ → Type 0
IsPlainName [] = ⊥
IsPlainName (first ∷ rest) = (¬ MayBeginFault first) × IsByteFree slash (first ∷ rest)
    × IsByteFree backslash (first ∷ rest)

-- the message is about this entry, but not as a link: about its name, an id of zeros, or a mode that begins with 0
abbrev pub HasFault : RawEntryView → Message → Type 0
HasFault e it = HasNameMessage e it
    ⊎ ((it ≡ message.NullSha1) × All (λ byte. byte ≡ 0) e.id)
    ⊎ ((it ≡ message.ZeroPaddedFilemode) × (e.first_digit ≡ 48))

-- the message is about this entry, as a link or not
abbrev pub HasEntryMessage : RawEntryView → Message → Type 0
HasEntryMessage e it = (IsLink e × HasLinkMessage e it) ⊎ HasFault e it
