-- What the walks of names decide.
use Rattle.std.proofs.Common.{◌≡◌, ◌++◌, ◌↔◌, ℕ, Bool, List, [], ◌∷◌, refl, ap, inl, inr, map}
use Rattle.std.specs.Char.{to_ascii_lowercase}
use Rattle.std.specs.List.{AllByRecursion}
use Rattle.gixobj_fsck_names.specs.DotFiles.{IsHashed, IsNumber, IsShortName}
use Rattle.gixobj_fsck_names.specs.DotGit.{HasAfterBackslash}
use Rattle.gixobj_fsck_names.specs.Letters.{backslash, tilde}
use Rattle.gixobj_fsck_names.specs.Ntfs.{EndsOnNtfs, IsDropped, IsOnNtfs, IsSpaceOrDot}
use Rattle.gixobj_fsck_names.specs.Walks.{DropsEach, EndsWithDigit, FindsBackslash, HashesEach, ShortensEach, SpellsEach}

drops_each_of_parts : (slashes : Bool) (dropped rest : List ℕ) → AllByRecursion IsSpaceOrDot dropped
    → EndsOnNtfs slashes rest → DropsEach slashes (dropped ++ rest)
drops_each_of_parts slashes [] [] all ends = tt
drops_each_of_parts slashes [] (byte ∷ rest) all ends = inl ends
drops_each_of_parts slashes (byte ∷ dropped) rest all ends = inr (all.0, drops_each_of_parts slashes dropped rest all.1 ends)

dropped_of_each : (slashes : Bool) (bytes : List ℕ) → DropsEach slashes bytes → IsDropped slashes bytes
dropped_of_each slashes [] each = ([], [], refl, tt, tt)
dropped_of_each slashes (byte ∷ rest) (inl ends) = ([], byte ∷ rest, refl, tt, ends)
dropped_of_each slashes (byte ∷ rest) (inr each) =
    let it = dropped_of_each slashes rest each.1 in
    (byte ∷ it.0, it.1, ap (λ (bytes : List ℕ). byte ∷ bytes) it.2, (each.0, it.3), it.4)

-- bytes are dropped if and only if each is, up to an end
pub dropped_iff_each : (slashes : Bool) (bytes : List ℕ) → DropsEach slashes bytes ↔ IsDropped slashes bytes
dropped_iff_each slashes bytes = (
  dropped_of_each slashes bytes,
  λ (it : IsDropped slashes bytes). rw it.2 (drops_each_of_parts slashes it.0 it.1 it.3 it.4),
)

spells_each_of_parts : (slashes : Bool) (spelled rest letters : List ℕ) → map to_ascii_lowercase spelled ≡ letters
    → IsDropped slashes rest → SpellsEach slashes (spelled ++ rest) letters
spells_each_of_parts slashes [] rest [] spells dropped = dropped
spells_each_of_parts slashes [] rest (letter ∷ letters) spells dropped = cc
spells_each_of_parts slashes (byte ∷ spelled) rest [] spells dropped = cc
spells_each_of_parts slashes (byte ∷ spelled) rest (letter ∷ letters) spells dropped =
    ((cc), spells_each_of_parts slashes spelled rest letters (cc) dropped)

spelled_of_each : (slashes : Bool) (name letters : List ℕ) → SpellsEach slashes name letters → IsOnNtfs slashes name letters
spelled_of_each slashes name [] each = ([], name, refl, refl, each)
spelled_of_each slashes [] (letter ∷ letters) each = absurd each
spelled_of_each slashes (byte ∷ name) (letter ∷ letters) each =
    let it = spelled_of_each slashes name letters each.1 in
    let first : to_ascii_lowercase byte ≡ letter = each.0 in
    let others : map to_ascii_lowercase it.0 ≡ letters = it.3 in
    (byte ∷ it.0, it.1, ap (λ (bytes : List ℕ). byte ∷ bytes) it.2, (cc), it.4)

-- NTFS takes a name for a letters if and only if it takes each byte for a letter, and drops the rest
pub on_ntfs_iff_each : (slashes : Bool) (name letters : List ℕ) → SpellsEach slashes name letters ↔ IsOnNtfs slashes name letters
on_ntfs_iff_each slashes name letters = (
  spelled_of_each slashes name letters,
  λ (it : IsOnNtfs slashes name letters). rw it.2 (spells_each_of_parts slashes it.0 it.1 letters it.3 it.4),
)

shortens_each_of_parts : (spelled rest : List ℕ) (digit : ℕ) (letters : List ℕ) → map to_ascii_lowercase spelled ≡ letters
    → EndsWithDigit (digit ∷ rest) → ShortensEach (spelled ++ (digit ∷ rest)) letters
shortens_each_of_parts [] rest digit [] spells ends = ends
shortens_each_of_parts [] rest digit (letter ∷ letters) spells ends = cc
shortens_each_of_parts (byte ∷ spelled) rest digit [] spells ends = cc
shortens_each_of_parts (byte ∷ spelled) rest digit (letter ∷ letters) spells ends =
    ((cc), shortens_each_of_parts spelled rest digit letters (cc) ends)

shortened_of_each : (name letters : List ℕ) → ShortensEach name letters → IsShortName letters name
shortened_of_each [] [] each = absurd each
shortened_of_each (digit ∷ rest) [] each = ([], rest, digit, refl, refl, each.0, each.1)
shortened_of_each [] (letter ∷ letters) each = absurd each
shortened_of_each (byte ∷ name) (letter ∷ letters) each =
    let it = shortened_of_each name letters each.1 in
    let first : to_ascii_lowercase byte ≡ letter = each.0 in
    let others : map to_ascii_lowercase it.0 ≡ letters = it.4 in
    (byte ∷ it.0, it.1, it.2, ap (λ (bytes : List ℕ). byte ∷ bytes) it.3, (cc), it.5, it.6)

-- a name is a short one if and only if each byte is a letter of its beginning, up to the digit
pub short_name_iff_each : (letters name : List ℕ) → ShortensEach name letters ↔ IsShortName letters name
short_name_iff_each letters name = (
  shortened_of_each name letters,
  λ (it : IsShortName letters name). rw it.3 (shortens_each_of_parts it.0 it.1 it.2 letters it.4 (it.5, it.6)),
)

hashes_each_of_number : (digits hash : List ℕ) → IsNumber digits → HashesEach (tilde ∷ digits) hash
hashes_each_of_number digits [] number = (refl, number)
hashes_each_of_number digits (letter ∷ hash) number = inl (refl, number)

hashes_each_of_parts : (letters digits first more : List ℕ) → map to_ascii_lowercase letters ≡ first → IsNumber digits
    → HashesEach (letters ++ (tilde ∷ digits)) (first ++ more)
hashes_each_of_parts [] digits first more spells number = hashes_each_of_number digits (first ++ more) number
hashes_each_of_parts (byte ∷ letters) digits [] more spells number = cc
hashes_each_of_parts (byte ∷ letters) digits (letter ∷ first) more spells number =
    inr ((cc), hashes_each_of_parts letters digits first more (cc) number)

hashed_of_each : (bytes hash : List ℕ) → HashesEach bytes hash → IsHashed hash bytes
hashed_of_each [] hash each = absurd each
hashed_of_each (byte ∷ rest) [] each = ([], rest, [], [], ap (λ (it : ℕ). it ∷ rest) each.0, refl, refl, each.1)
hashed_of_each (byte ∷ rest) (letter ∷ hash) (inl each) =
    ([], rest, [], letter ∷ hash, ap (λ (it : ℕ). it ∷ rest) each.0, refl, refl, each.1)
hashed_of_each (byte ∷ rest) (letter ∷ hash) (inr each) =
    let it = hashed_of_each rest hash each.1 in
    let first : to_ascii_lowercase byte ≡ letter = each.0 in
    let others : map to_ascii_lowercase it.0 ≡ it.2 = it.5 in (
      byte ∷ it.0,
      it.1,
      letter ∷ it.2,
      it.3,
      ap (λ (bytes : List ℕ). byte ∷ bytes) it.4,
      (cc),
      ap (λ (bytes : List ℕ). letter ∷ bytes) it.6,
      it.7,
    )

-- bytes are hashed if and only if each is a letter of the hash, up to the tilde
pub hashed_iff_each : (hash bytes : List ℕ) → HashesEach bytes hash ↔ IsHashed hash bytes
hashed_iff_each hash bytes = (
  hashed_of_each bytes hash,
  λ (it : IsHashed hash bytes). rw (it.4, it.6) (hashes_each_of_parts it.0 it.1 it.2 it.3 it.5 it.7),
)

finds_backslash_of_parts : (P : List ℕ → Type 0) (before after : List ℕ) → P after
    → FindsBackslash P (before ++ (backslash ∷ after))
finds_backslash_of_parts P [] after holds = inl (refl, holds)
finds_backslash_of_parts P (byte ∷ before) after holds = inr (finds_backslash_of_parts P before after holds)

has_after_backslash_of_found : (P : List ℕ → Type 0) (name : List ℕ) → FindsBackslash P name → HasAfterBackslash P name
has_after_backslash_of_found P [] found = absurd found
has_after_backslash_of_found P (byte ∷ rest) (inl found) = ([], rest, ap (λ (it : ℕ). it ∷ rest) found.0, found.1)
has_after_backslash_of_found P (byte ∷ rest) (inr found) =
    let it = has_after_backslash_of_found P rest found in
    (byte ∷ it.0, it.1, ap (λ (bytes : List ℕ). byte ∷ bytes) it.2, it.3)

-- a property holds after a backslash if and only if the walk finds one
pub after_backslash_iff_found : (P : List ℕ → Type 0) (name : List ℕ) → FindsBackslash P name ↔ HasAfterBackslash P name
after_backslash_iff_found P name = (
  has_after_backslash_of_found P name,
  λ (it : HasAfterBackslash P name). rw it.2 (finds_backslash_of_parts P it.0 it.1 it.3),
)
