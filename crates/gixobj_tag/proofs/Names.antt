-- Lemmas on the searches for faults, the first fault and valid names, for the proofs of `name::faults` and of plain
-- names.
use Rattle.std.proofs.Common.{◌≡◌, ◌≢◌, ℕ, ◌+◌, Bool, true, false, List, [], ◌∷◌, ◌++◌, length, take, drop, refl, sym, ap, subst, ◌∙◌, arith, inl, inr}
use Rattle.std.proofs.Common.{append_assoc, length-append}
use Rattle.std.proofs.lemmas.Bool.{cases_eq, eqb-true, false≢true}
use Rattle.std.proofs.lemmas.Bool.Decides.{Decides-eqb}
use Rattle.std.proofs.lemmas.List.{append-nil, drop_at, get_or_default, nil_from_length, take-append-drop}
use Rattle.std.proofs.lemmas.List.Elements.{All-append, All-cons, All-from_recursion, All-head, All-nil, All-tail}
use Rattle.std.proofs.lemmas.List.Prefix.{at_from_reads, at_reads}
use Rattle.std.proofs.lemmas.Slice.Eq.{ends_is, starts_is}
use Rattle.std.specs.List.{AllByRecursion, ends_with, starts_with}
use Rattle.std.specs.Prelude.{◌↔◌, ◌⊎◌, ◌==◌, All, IsTrue, codes, nat_eq}
use Rattle.bstr.specs.Text.{Contains as Occurs}
use Rattle.gixobj_streams.specs.declared.encode.RefNameFault.{RefNameFault}
use Rattle.gixobj_streams.specs.declared.encode.RefNameFault.TheVariants as fault
use Rattle.gixobj_tag.specs.NameRule.{BeginsWith, EndsWith, HasFault, Holds, IsFirstFault, IsForbidden, IsTagName, IsTagNameError, faults}
use Rattle.gixobj_tag.specs.declared.name.Error.{Error}
use Rattle.gixobj_tag.specs.declared.name.Error.TheVariants.{InvalidRefName, StartsWithDash}
use Rattle.gixobj_hash.proofs.Splits.{byte_free_of_all_pass}
use Rattle.gixobj_hash.specs.Bytes.{newline, slash}
use Rattle.gixobj_hash.specs.ByteStrings.{IsByteFree}

-- ---- searches

-- the tests and the search of the library decide the relations of the name rule
pub begins_with_iff : (bytes prefix : List ℕ) (r : Bool) → r ≡ starts_with nat_eq bytes prefix → IsTrue r ↔ BeginsWith prefix bytes
begins_with_iff bytes prefix r is =
    let parts = starts_is Decides-eqb bytes prefix r is in (
      λ passes. (drop (length prefix) bytes, parts.0 passes),
      λ begins. parts.1 begins.0 begins.1,
    )

pub ends_with_iff : (bytes end : List ℕ) (r : Bool) → r ≡ ends_with nat_eq bytes end → IsTrue r ↔ EndsWith end bytes
ends_with_iff bytes end r is =
    let parts = ends_is Decides-eqb bytes end r is in (
      λ passes. (_, parts.0 passes),
      λ ends. parts.1 ends.0 ends.1,
    )

holds_of_occurs : (bytes inner : List ℕ) → Occurs bytes inner → Holds inner bytes
holds_of_occurs bytes inner (position, occurs) =
    let tail = at_from_reads 0 bytes inner position occurs.fits occurs.reads in (
      take position bytes,
      drop (position + length inner) bytes,
      sym (take-append-drop position bytes) ∙ ap (λ (it : List ℕ). take position bytes ++ it) tail
          ∙ sym (append_assoc (take position bytes) inner (drop (position + length inner) bytes)),
    )

occurs_of_holds : (bytes inner : List ℕ) → Holds inner bytes → Occurs bytes inner
occurs_of_holds bytes inner (prefix, rest, joined) =
    let is : bytes ≡ prefix ++ (inner ++ rest) = joined ∙ append_assoc prefix inner rest in
    let tail : drop (length prefix) bytes ≡ inner ++ rest = ap (drop (length prefix)) is ∙ drop_at prefix (inner ++ rest) (length prefix) refl in (
      length prefix,
      record {
        fits = omega (arith, ap length joined, length-append (prefix ++ inner) rest, length-append prefix inner);
        reads = at_reads 0 bytes inner (length prefix) rest tail;
      },
    )

pub holds_iff : (bytes inner : List ℕ) (r : Bool) → ((r ≡ true) ↔ Occurs bytes inner) → IsTrue r ↔ Holds inner bytes
holds_iff bytes inner r yields = (
  λ passes. holds_of_occurs bytes inner (yields.0 passes),
  λ holds. yields.1 (occurs_of_holds bytes inner holds),
)

-- the first of two tests decides a fault if it passes, and the second if the first fails
is_true_iff_of_true : (r : Bool) (A F : Type 0) → r ≡ true → (IsTrue r ↔ A) → (A → F) → IsTrue r ↔ F
is_true_iff_of_true r A F passes first found = (λ _. found (first.0 passes), λ _. passes)

is_true_iff_of_false_or : (first r : Bool) (A B F : Type 0) → first ≡ false → (IsTrue first ↔ A) → (IsTrue r ↔ B) → (A ⊎ B → F) → (F → A ⊎ B) → IsTrue r ↔ F
is_true_iff_of_false_or first r A B F fails other next found only = (
  λ passes. found (inr (next.0 passes)),
  λ fault. (elim (only fault) [ inl it ↦ absurd (false≢true (sym fails ∙ other.1 it)) | inr it ↦ next.1 it ]),
)

-- ---- parts

-- what precedes a part, and what follows it
abbrev Opens : List ℕ → Type 0
Opens before = (before ≡ []) ⊎ EndsWith (slash ∷ []) before

abbrev Closes : List ℕ → Type 0
Closes tail = (tail ≡ []) ⊎ BeginsWith (slash ∷ []) tail

-- bytes begin with a part, which a slash or their end follows
first_part_exists : (bytes : List ℕ) → (part tail : List ℕ) × (bytes ≡ part ++ tail) × Closes tail × IsByteFree slash part
first_part_exists [] = ([], [], refl, inl refl, All-nil (λ it. it ≢ slash))
first_part_exists (byte ∷ bytes) =
    let further = first_part_exists bytes in
    elim (cases_eq byte slash) [
      | inl same ↦ ([], byte ∷ bytes, refl, inr (bytes, cc same), All-nil (λ it. it ≢ slash))
      | inr other ↦ (
        byte ∷ further.0,
        further.1,
        ap (λ (it : List ℕ). byte ∷ it) further.2,
        further.3,
        All-cons
            (λ it. it ≢ slash) byte further.0 other further.4,
      )
    ]

-- bytes end with a part, which a slash or their beginning precedes
last_part_exists : (bytes : List ℕ) → (before part : List ℕ) × (bytes ≡ before ++ part) × Opens before × IsByteFree slash part
last_part_exists [] = ([], [], refl, inl refl, All-nil (λ it. it ≢ slash))
last_part_exists (byte ∷ bytes) =
    let further = last_part_exists bytes in
    let joined : byte ∷ bytes ≡ byte ∷ (further.0 ++ further.1) = ap (λ (it : List ℕ). byte ∷ it) further.2 in
    elim further.3 [
      | inr (prefix, ends) ↦ (byte ∷ further.0, further.1, joined, inr (byte ∷ prefix, ap (λ (it : List ℕ). byte ∷ it) ends), further.4)
      | inl none ↦ elim (cases_eq byte slash) [
        | inl same ↦ (byte ∷ further.0, further.1, joined, inr ([], cc (same, none)), further.4)
        | inr other ↦ ([], byte ∷ further.1, cc (joined, none), inl refl, All-cons (λ it. it ≢ slash) byte further.1 other further.4)
      ]
    ]

-- ---- a dot at the start of a part

-- a dot at the beginning of a part is a fault
dot_start_of_opens : (name before rest : List ℕ) → name ≡ before ++ 46 ∷ rest → Opens before → HasFault fault.DotStart name
dot_start_of_opens name before rest joined opens =
    let further = first_part_exists rest in (
      46 ∷ further.0,
      record {
        before = before;
        following = further.1;
        joined = cc (joined, further.2, append_assoc before (46 ∷ further.0) further.1);
        opens = opens;
        closes = further.3;
        one = All-cons (λ it. it ≢ slash) 46 further.0 (λ same. absurd (omega (arith, same))) further.4;
      },
      (further.0, refl),
    )

dot_start_of_begins_or_holds : (name : List ℕ) → BeginsWith (codes ".") name ⊎ Holds (codes "/.") name → HasFault fault.DotStart name
dot_start_of_begins_or_holds name (inl (rest, begins)) = dot_start_of_opens name [] rest begins (inl refl)
dot_start_of_begins_or_holds name (inr (prefix, rest, holds)) =
    dot_start_of_opens name (prefix ++ slash ∷ []) rest (holds ∙ simp append_assoc) (inr (prefix, refl))

pub dot_start_cases : (name : List ℕ) → HasFault fault.DotStart name → BeginsWith (codes ".") name ⊎ Holds (codes "/.") name
dot_start_cases name (part, is, (rest, begins)) = elim is.opens [
  | inl none ↦ inl (rest ++ is.following, cc (is.joined, begins, none))
  | inr (prefix, ends) ↦
      let regrouped : prefix ++ slash ∷ [] ++ (codes "." ++ rest) ++ is.following ≡ prefix ++ codes "/." ++ (rest ++ is.following) =
      simp append_assoc in
      inr (prefix, rest ++ is.following, cc (is.joined, begins, ends, regrouped))
]

pub dot_start_iff_at_start : (name : List ℕ) (r : Bool) → r ≡ true → r ≡ starts_with nat_eq name (codes ".") → IsTrue r ↔ HasFault fault.DotStart name
dot_start_iff_at_start name r passes is = is_true_iff_of_true r _ _ passes (begins_with_iff name (codes ".") r is)
    (λ begins. dot_start_of_begins_or_holds name (inl begins))

pub dot_start_iff_after_slash : (name : List ℕ) (first r : Bool) → first ≡ false → first ≡ starts_with nat_eq name (codes ".")
    → ((r ≡ true) ↔ Occurs name (codes "/."))
    → IsTrue r ↔ HasFault fault.DotStart name
dot_start_iff_after_slash name first r fails is yields =
    is_true_iff_of_false_or first r _ _ _ fails (begins_with_iff name (codes ".") first is) (holds_iff name (codes "/.") r yields)
    (dot_start_of_begins_or_holds name)
    (dot_start_cases name)

-- ---- `.lock` at the end of a part

-- `.lock` at the end of a part is a fault
lock_suffix_of_closes : (name prefix tail : List ℕ) → name ≡ prefix ++ codes ".lock" ++ tail → Closes tail → HasFault fault.LockSuffix name
lock_suffix_of_closes name prefix tail joined closes =
    let further = last_part_exists prefix in (
      further.1 ++ codes ".lock",
      record {
        before = further.0;
        following = tail;
        joined = cc (joined, further.2, append_assoc further.0 further.1 (codes ".lock"));
        opens = further.3;
        closes = closes;
        one = All-append (λ it. it ≢ slash) further.1 (codes ".lock") further.4 (byte_free_of_all_pass slash (codes ".lock") refl);
      },
      (further.1, refl),
    )

lock_suffix_of_ends_or_holds : (name : List ℕ) → EndsWith (codes ".lock") name ⊎ Holds (codes ".lock/") name → HasFault fault.LockSuffix name
lock_suffix_of_ends_or_holds name (inl (prefix, ends)) = lock_suffix_of_closes name prefix [] (ends ∙ sym (append-nil (prefix ++ codes ".lock"))) (inl refl)
lock_suffix_of_ends_or_holds name (inr (prefix, rest, holds)) =
    lock_suffix_of_closes name prefix (slash ∷ rest) (holds ∙ simp append_assoc) (inr (rest, refl))

pub lock_suffix_cases : (name : List ℕ) → HasFault fault.LockSuffix name → EndsWith (codes ".lock") name ⊎ Holds (codes ".lock/") name
lock_suffix_cases name (part, is, (prefix, ends)) = elim is.closes [
  | inl none ↦
      let regrouped : is.before ++ (prefix ++ codes ".lock") ++ [] ≡ is.before ++ prefix ++ codes ".lock" = simp (append_assoc, append-nil) in
      inl (is.before ++ prefix, cc (is.joined, ends, none, regrouped))
  | inr (rest, begins) ↦
      let regrouped : is.before ++ (prefix ++ codes ".lock") ++ (slash ∷ [] ++ rest) ≡ is.before ++ prefix ++ codes ".lock/" ++ rest =
      simp append_assoc in
      inr (is.before ++ prefix, rest, cc (is.joined, ends, begins, regrouped))
]

pub lock_suffix_iff_at_end : (name : List ℕ) (r : Bool) → r ≡ true → r ≡ ends_with nat_eq name (codes ".lock") → IsTrue r ↔ HasFault fault.LockSuffix name
lock_suffix_iff_at_end name r passes is = is_true_iff_of_true r _ _ passes (ends_with_iff name (codes ".lock") r is)
    (λ ends. lock_suffix_of_ends_or_holds name (inl ends))

pub lock_suffix_iff_before_slash : (name : List ℕ) (first r : Bool) → first ≡ false → first ≡ ends_with nat_eq name (codes ".lock")
    → ((r ≡ true) ↔ Occurs name (codes ".lock/")) → IsTrue r ↔ HasFault fault.LockSuffix name
lock_suffix_iff_before_slash name first r fails is yields =
    is_true_iff_of_false_or first r _ _ _ fails (ends_with_iff name (codes ".lock") first is) (holds_iff name (codes ".lock/") r yields)
    (lock_suffix_of_ends_or_holds name)
    (lock_suffix_cases name)

-- ---- slashes

-- a test for a last slash, and the search for two in a row if none is first or last, decide a fault
pub bad_slash_iff_at_end : (name : List ℕ) (r last : Bool) → r ≡ true → r ≡ last → last ≡ ends_with nat_eq name (codes "/")
    → IsTrue r ↔ HasFault fault.BadSlash name
bad_slash_iff_at_end name r last passes same is = is_true_iff_of_true r _ _ passes (ends_with_iff name (codes "/") r (same ∙ is)) (λ ends. inr (inl ends))

pub bad_slash_iff_doubled : (name : List ℕ) (outer first last r : Bool) → outer ≡ false → first ≡ starts_with nat_eq name (codes "/") → first ≡ false
    → outer ≡ last
    → last ≡ ends_with nat_eq name (codes "/") → ((r ≡ true) ↔ Occurs name (codes "//")) → IsTrue r ↔ HasFault fault.BadSlash name
bad_slash_iff_doubled name outer first last r fails is other same ends yields =
    is_true_iff_of_false_or first r _ _ _ other (begins_with_iff name (codes "/") first is)
    (is_true_iff_of_false_or outer r _ _ (EndsWith (codes "/") name ⊎ Holds (codes "//") name) fails (ends_with_iff name (codes "/") outer (same ∙ ends))
    (holds_iff name (codes "//") r yields) (λ it. it) (λ it. it))
    (λ it. it) (λ it. it)

-- ---- the first fault

-- the number of faults that are tested before this one
abbrev position : RefNameFault → ℕ
position fault.Empty = 0
position fault.DotStart = 1
position fault.LockSuffix = 2
position fault.DoubleDot = 3
position fault.AtBrace = 4
position fault.Backslash = 5
position fault.InvalidByte = 6
position fault.BadSlash = 7
position fault.DotEnd = 8

faults_split_at_fault : (here : RefNameFault) → faults ≡ take (position here) faults ++ here ∷ drop (position here + 1) faults
faults_split_at_fault fault.Empty = refl
faults_split_at_fault fault.DotStart = refl
faults_split_at_fault fault.LockSuffix = refl
faults_split_at_fault fault.DoubleDot = refl
faults_split_at_fault fault.AtBrace = refl
faults_split_at_fault fault.Backslash = refl
faults_split_at_fault fault.InvalidByte = refl
faults_split_at_fault fault.BadSlash = refl
faults_split_at_fault fault.DotEnd = refl

-- a fault that the name has, and before which it has none, is its first
pub is_first_fault : (name : List ℕ) (here : RefNameFault) → AllByRecursion (λ it. ¬ HasFault it name) (take (position here) faults) → HasFault here name
    → IsFirstFault name here
is_first_fault name here none has = record {
  before = take (position here) faults;
  after = drop (position here + 1) faults;
  joined = faults_split_at_fault here;
  none = All-from_recursion (λ it. ¬ HasFault it name) _ none;
  here = has;
}

-- a name without each fault of the list has no fault
pub no_fault_of_valid : (name : List ℕ) → AllByRecursion (λ it. ¬ HasFault it name) faults → (each : RefNameFault) → ¬ HasFault each name
no_fault_of_valid name none fault.Empty = none.0
no_fault_of_valid name none fault.DotStart = none.1.0
no_fault_of_valid name none fault.LockSuffix = none.1.1.0
no_fault_of_valid name none fault.DoubleDot = none.1.1.1.0
no_fault_of_valid name none fault.AtBrace = none.1.1.1.1.0
no_fault_of_valid name none fault.Backslash = none.1.1.1.1.1.0
no_fault_of_valid name none fault.InvalidByte = none.1.1.1.1.1.1.0
no_fault_of_valid name none fault.BadSlash = none.1.1.1.1.1.1.1.0
no_fault_of_valid name none fault.DotEnd = none.1.1.1.1.1.1.1.1.0

pub has_fault_empty : (name : List ℕ) (r : Bool) → r ≡ true → r ≡ (length name == 0) → HasFault fault.Empty name
has_fault_empty name r passes is = nil_from_length name (eqb-true (length name) 0 (sym is ∙ passes))

-- ---- one error

-- of two faults in the list, each after faults that the name doesn't have, none precedes the other
first_fault_in_order_unique : (name : List ℕ) (p x q y : List RefNameFault) (a b : RefNameFault) → p ++ a ∷ x ≡ q ++ b ∷ y → All (λ it. ¬ HasFault it name) p
    → All (λ it. ¬ HasFault it name) q → HasFault a name → HasFault b name → a ≡ b
first_fault_in_order_unique name [] x [] y a b same none_p none_q has_a has_b = cc same
first_fault_in_order_unique name [] x (other ∷ q) y a b same none_p none_q has_a has_b =
    let heads : a ≡ other = cc same in
    absurd (All-head (λ it. ¬ HasFault it name) other q none_q (subst (λ (it : RefNameFault). HasFault it name) heads has_a))
first_fault_in_order_unique name (other ∷ p) x [] y a b same none_p none_q has_a has_b =
    let heads : b ≡ other = cc same in
    absurd (All-head (λ it. ¬ HasFault it name) other p none_p (subst (λ (it : RefNameFault). HasFault it name) heads has_b))
first_fault_in_order_unique name (other ∷ p) x (another ∷ q) y a b same none_p none_q has_a has_b =
    first_fault_in_order_unique name p x q y a b (cc same) (All-tail (λ it. ¬ HasFault it name) other p none_p)
    (All-tail (λ it. ¬ HasFault it name) another q none_q) has_a
    has_b

-- a name has at most one first fault
pub first_fault_unique : (name : List ℕ) (a b : RefNameFault) → IsFirstFault name a → IsFirstFault name b → a ≡ b
first_fault_unique name a b first second =
    first_fault_in_order_unique name first.before first.after second.before second.after a b (sym first.joined
    ∙ second.joined) first.none second.none first.here
    second.here

-- a name has at most one error
pub tag_name_error_unique : (name : List ℕ) (a b : Error) → IsTagNameError name a → IsTagNameError name b → a ≡ b
tag_name_error_unique name (InvalidRefName a) (InvalidRefName b) first second = ap (λ (it : RefNameFault). InvalidRefName it)
    (first_fault_unique name a b first second)
tag_name_error_unique name (InvalidRefName a) StartsWithDash first second = absurd (second.0 a first.here)
tag_name_error_unique name StartsWithDash (InvalidRefName b) first second = absurd (first.0 b second.here)
tag_name_error_unique name StartsWithDash StartsWithDash first second = refl

-- a name with an error is not valid for tags
pub not_tag_name_of_error : (name : List ℕ) (error : Error) → IsTagNameError name error → ¬ IsTagName name
not_tag_name_of_error name (InvalidRefName fault) first valid = valid.0 fault first.here
not_tag_name_of_error name StartsWithDash rejected valid = valid.1 rejected.1

-- ---- names of tags

-- a valid name isn't empty, and has no forbidden byte and no newline
pub tag_name_not_nil : (name : List ℕ) → IsTagName name → name ≢ []
tag_name_not_nil name valid = valid.0 fault.Empty

pub tag_name_byte_free : (name : List ℕ) (byte : ℕ) → IsForbidden byte → IsTagName name → IsByteFree byte name
tag_name_byte_free name byte forbidden valid =
    λ k d within same. valid.0 fault.InvalidByte (byte, (k, within, get_or_default name k byte d within ∙ same), forbidden)

pub tag_name_newline_free : (name : List ℕ) → IsTagName name → IsByteFree newline name
tag_name_newline_free name valid = tag_name_byte_free name newline (inl (omega arith)) valid
