-- When HFS+ takes a name for a letters, by the first bytes of the name.
use Rattle.std.proofs.Common.{◌≡◌, ◌<◌, ◌≤◌, ◌↔◌, ℕ, List, [], ◌∷◌, subst, inl, inr, arith}
use Rattle.gixobj_fsck_names.specs.Walks.{ReadsNext}
use Rattle.gixobj_fsck_names.specs.Utf8.{BeginsWithThree}
use Rattle.gixobj_fsck_names.specs.Hfs.{EndsOnHfs, IsIgnored, IsIgnoredBefore, IsOnHfs, ends, ignores, reads}

-- the name begins with no ignored code point
abbrev pub BeginsRead : List ℕ → Type 0
BeginsRead name = ¬ ((rest : List ℕ) × IsIgnoredBefore rest name)

next_of_on_hfs : (name letters : List ℕ) → BeginsRead name → IsOnHfs name letters → ReadsNext name letters
next_of_on_hfs name [] read (ends _ it) = it
next_of_on_hfs name letters read (ignores _ rest _ ignored on) = absurd (read (rest, ignored))
next_of_on_hfs (byte ∷ rest) (letter ∷ letters) read (reads _ _ _ _ small same on) = (small, same, on)

on_hfs_of_next : (name letters : List ℕ) → ReadsNext name letters → IsOnHfs name letters
on_hfs_of_next name [] next = ends name next
on_hfs_of_next [] (letter ∷ letters) next = absurd next
on_hfs_of_next (byte ∷ rest) (letter ∷ letters) next = reads byte letter rest letters next.0 next.1 next.2

-- where no code point is ignored, the first byte is read
pub next_iff_on_hfs : (name letters : List ℕ) → BeginsRead name → ReadsNext name letters ↔ IsOnHfs name letters
next_iff_on_hfs name letters read = (on_hfs_of_next name letters, next_of_on_hfs name letters read)

not_ascii_of_ignored : (first second third : ℕ) → IsIgnored first second third → ¬ (first < 0x80)
not_ascii_of_ignored first second third (inl ignored) = λ small. let same : first ≡ 0xe2 = ignored.0 in omega arith
not_ascii_of_ignored first second third (inr (inl ignored)) = λ small. let same : first ≡ 0xe2 = ignored.0 in omega arith
not_ascii_of_ignored first second third (inr (inr ignored)) = λ small. let same : first ≡ 0xef = ignored.0 in omega arith

begins_of_ignored : (first second third : ℕ) (rest : List ℕ) → IsIgnored first second third
    → BeginsWithThree (first ∷ second ∷ third ∷ rest)
begins_of_ignored first second third rest (inl it) =
    let first_is : first ≡ 0xe2 = it.0 in
    let second_is : second ≡ 0x80 = it.1 in
    let third_is : (0x80 ≤ third) × (third ≤ 0xbf) = elim it.2 [
      | inl low ↦ (omega (arith, low), omega (arith, low))
      | inr high ↦ (omega (arith, high), omega (arith, high))
    ] in (
      inr (inl ((omega arith, omega arith), (omega arith, omega arith))),
      third_is,
      λ no. let f : first ≡ 0xef = no.0 in omega arith,
    )
begins_of_ignored first second third rest (inr (inl it)) =
    let first_is : first ≡ 0xe2 = it.0 in
    let second_is : second ≡ 0x81 = it.1 in
    let low : 0xaa ≤ third = it.2.0 in
    let high : third ≤ 0xaf = it.2.1 in (
      inr (inl ((omega arith, omega arith), (omega arith, omega arith))),
      (omega arith, omega arith),
      λ no. let f : first ≡ 0xef = no.0 in omega arith,
    )
begins_of_ignored first second third rest (inr (inr it)) =
    let first_is : first ≡ 0xef = it.0 in
    let second_is : second ≡ 0xbb = it.1 in
    let third_is : third ≡ 0xbf = it.2 in (
      inr (inr (inr ((omega arith, omega arith), (omega arith, omega arith)))),
      (omega arith, omega arith),
      λ no. let f : second ≡ 0xbf = no.1 in omega arith,
    )

ends_not_of_ignored : (first second third : ℕ) (rest : List ℕ) → IsIgnored first second third
    → ¬ EndsOnHfs (first ∷ second ∷ third ∷ rest)
ends_not_of_ignored first second third rest ignored (inl is_slash) =
    let f : first ≡ 47 = is_slash in not_ascii_of_ignored first second third ignored (omega arith)
ends_not_of_ignored first second third rest ignored (inr other) =
    other (inr (inr (inl (begins_of_ignored first second third rest ignored))))

rest_of_ignored : (name rest letters : List ℕ) → IsIgnoredBefore rest name → IsOnHfs name letters → IsOnHfs rest letters
rest_of_ignored name rest letters ignored (ends _ it) =
    absurd (ends_not_of_ignored ignored.0 ignored.1 ignored.2 rest ignored.4
    (let P : List ℕ → Type 0 = λ bytes. EndsOnHfs bytes in subst P ignored.3 it))
rest_of_ignored name rest letters ignored (ignores _ after _ other on) =
    let same : after ≡ rest = cc (ignored.3, other.3) in
    let P : List ℕ → Type 0 = λ bytes. IsOnHfs bytes letters in subst P same on
rest_of_ignored name rest letters ignored (reads byte letter _ _ small same on) =
    let first : byte ≡ ignored.0 = cc (ignored.3) in
    absurd (not_ascii_of_ignored ignored.0 ignored.1 ignored.2 ignored.4 (omega arith))

-- an ignored code point before a name changes nothing
pub ignored_iff_on_hfs : (name rest letters : List ℕ) → IsIgnoredBefore rest name → IsOnHfs rest letters ↔ IsOnHfs name letters
ignored_iff_on_hfs name rest letters ignored =
    (ignores name rest letters ignored, rest_of_ignored name rest letters ignored)
