-- Plain names have no message.
use Rattle.std.proofs.Common.{◌≡◌, ◌≢◌, ◌⊎◌, ◌↔◌, ◌≤◌, Bool, IsTrue, false, get_or, length, ◌++◌, ◌∷◌, ◌∙◌, ℕ, List, [], arith, inl, inr, map, refl, subst}
use Rattle.std.specs.Prelude.{codes, true}
use Rattle.std.specs.Char.{to_ascii_lowercase}
use Rattle.std.proofs.lemmas.List.Elements.{All-contains}
use Rattle.gixobj_fsck_messages.specs.declared.message.Message.{Message}
use Rattle.gixobj_fsck_names.specs.DotGit.{IsDotGit, IsDotGitOnNtfs}
use Rattle.gixobj_fsck_names.specs.Hfs.{IsOnHfs, ignores, reads}
use Rattle.gixobj_fsck_names.specs.Letters.{backslash, slash}
use Rattle.gixobj_fsck_names.specs.Ntfs.{IsOnNtfs}
use Rattle.gixobj_hash.proofs.Splits.{no_split_of_byte_free}
use Rattle.gixobj_hash.specs.ByteStrings.{IsByteFree}
use Rattle.gixobj_fsck_trees.specs.EntryMessages.{HasNameMessage, IsPlainName, MayBeginFault}
use Rattle.gixobj_fsck_trees.specs.RawEntries.{RawEntryView}

dot_of_lower : (byte : ℕ) → to_ascii_lowercase byte ≡ 46 → byte ≡ 46
dot_of_lower byte same = grind arith

g_of_lower : (byte : ℕ) → to_ascii_lowercase byte ≡ 103 → (byte ≡ 71) ⊎ (byte ≡ 103)
g_of_lower byte same = grind arith

not_on_hfs : (name letters : List ℕ) → IsPlainName name → IsOnHfs name (46 ∷ letters) → ⊥
not_on_hfs [] letters plain on = plain
not_on_hfs (first ∷ rest) letters plain (ignores _ after _ before on) = elim before.4 [
  | inl it ↦ plain.0 (inr (inr (inr (inl (first_is ∙ it.0)))))
  | inr (inl it) ↦ plain.0 (inr (inr (inr (inl (first_is ∙ it.0)))))
  | inr (inr it) ↦ plain.0 (inr (inr (inr (inr (first_is ∙ it.0)))))
]
  where
    first_is : first ≡ before.0
    first_is = cc (before.3)
not_on_hfs (first ∷ rest) letters plain (reads _ _ _ _ small same on) = plain.0 (inl (dot_of_lower first same))

not_on_ntfs : (name : List ℕ) (letter : ℕ) (letters : List ℕ)
    → ((first : ℕ) (rest : List ℕ) → name ≡ first ∷ rest → to_ascii_lowercase first ≢ letter) → IsOnNtfs true name (letter ∷ letters) → ⊥
not_on_ntfs name letter letters other (spelled, rest, joined, spells, dropped) = go spelled joined spells
  where
    go : (spelled : List ℕ) → name ≡ spelled ++ rest → map to_ascii_lowercase spelled ≡ letter ∷ letters → ⊥
    go [] joined spells = cc spells
    go (first ∷ spelled) joined spells = other first (spelled ++ rest) joined (cc spells)

not_dot_first : (name : List ℕ) → IsPlainName name → (first : ℕ) (rest : List ℕ) → name ≡ first ∷ rest → to_ascii_lowercase first ≢ 46
not_dot_first name plain first rest is same =
    let P : List ℕ → Type 0 = λ it. IsPlainName it in
    let begins = subst P is plain in begins.0 (inl (dot_of_lower first same))

not_g_first : (name : List ℕ) → IsPlainName name → (first : ℕ) (rest : List ℕ) → name ≡ first ∷ rest → to_ascii_lowercase first ≢ 103
not_g_first name plain first rest is same =
    let P : List ℕ → Type 0 = λ it. IsPlainName it in
    let begins = subst P is plain in elim (g_of_lower first same) [
      | inl capital ↦ begins.0 (inr (inl capital))
      | inr small ↦ begins.0 (inr (inr (inl small)))
    ]

not_dot_git_on_ntfs : (name : List ℕ) → IsPlainName name → IsDotGitOnNtfs name → ⊥
unfolding IsDotGitOnNtfs
not_dot_git_on_ntfs name plain (inl on) = not_on_ntfs name 46 (codes "git") (not_dot_first name plain) on
not_dot_git_on_ntfs name plain (inr on) = not_on_ntfs name 103 (codes "it~1") (not_g_first name plain) on

free_of : (name : List ℕ) → IsPlainName name → IsByteFree slash name × IsByteFree backslash name
free_of [] plain = absurd plain
free_of (first ∷ rest) plain = (plain.1, plain.2)

not_dot_git : (name : List ℕ) → IsPlainName name → IsDotGit name → ⊥
not_dot_git name plain (inl on) = not_on_hfs name (codes "git") plain on
not_dot_git name plain (inr (inl on)) = not_dot_git_on_ntfs name plain on
not_dot_git name plain (inr (inr (before, after, joined, on))) =
    let P : List ℕ → Type 0 = λ it. IsByteFree backslash it in
    no_split_of_byte_free backslash before after (subst P joined (free_of name plain).1)

not_dots : (name : List ℕ) (rest : List ℕ) → IsPlainName name → name ≡ 46 ∷ rest → ⊥
not_dots name rest plain is = let P : List ℕ → Type 0 = λ it. IsPlainName it in let begins = subst P is plain in begins.0 (inl refl)

pub no_name_message_of_plain : (e : RawEntryView) (it : Message) → IsPlainName e.name → HasNameMessage e it → ⊥
no_name_message_of_plain e it plain (inl has) = All-contains (λ byte. byte ≢ slash) e.name slash (free_of e.name plain).0 has.1 refl
no_name_message_of_plain e it plain (inr (inl has)) = not_dots e.name [] plain has.1
no_name_message_of_plain e it plain (inr (inr (inl has))) = not_dots e.name (codes ".") plain has.1
no_name_message_of_plain e it plain (inr (inr (inr has))) = not_dot_git e.name plain has.1

-- a name is plain by its first byte, and without slashes and backslashes
pub plain_of_first : (name : List ℕ) (may_begin : Bool) → 1 ≤ length name → (IsTrue may_begin ↔ MayBeginFault (get_or name 0 0)) → may_begin ≡ false
    → IsByteFree slash name × IsByteFree backslash name → IsPlainName name
plain_of_first [] may_begin filled test other free = absurd (omega arith)
plain_of_first (first ∷ rest) may_begin filled test other free = (λ (is : MayBeginFault first). let yes : may_begin ≡ true = test.1 is in cc, free.0, free.1)
