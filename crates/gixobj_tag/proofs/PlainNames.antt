-- Lemmas on the walk over the bytes of a dotted name, and that plain names have no fault, for the proofs of
-- `name::faults`.
use Rattle.std.proofs.Common.{◌≡◌, ◌≢◌, ◌+◌, ◌<◌, ◌≤◌, ℕ, Bool, true, false, List, [], ◌∷◌, ◌++◌, refl, sym, ap, subst, ◌∙◌, arith, inl, inr, append_assoc}
use Rattle.std.proofs.Common.{drop, get_or, length, length-append, rules}
use Rattle.std.proofs.lemmas.Bool.{and_parts, cases_eq, false≢true, or_parts}
use Rattle.std.proofs.lemmas.Bool.Decides.{Decides-eqb, Decides-not, nat_tests}
use Rattle.std.proofs.lemmas.List.{append-nil, at_drop_all, at_drop_more}
use Rattle.std.proofs.lemmas.List.Elements.{All-cons, All-contains, All-from_recursion, All-head, All-nil, All-tail, Contains-append_left}
use Rattle.std.proofs.lemmas.List.Elements.{Contains-append_right}
use Rattle.std.specs.List.{ends_with}
use Rattle.std.specs.Prelude.{◌↔◌, ◌⊎◌, ◌==◌, ◌&&◌, ◌||◌, All, Contains, IsTrue, codes, nat_eq, not}
use Rattle.gixobj_streams.specs.declared.encode.RefNameFault.TheVariants as fault
use Rattle.gixobj_hash.specs.Bytes.{slash}
use Rattle.gixobj_tag.proofs.Names.{dot_start_cases, ends_with_iff, lock_suffix_cases}
use Rattle.gixobj_tag.specs.NameRule.{EndsWith, HasNoFault, Holds, IsForbidden, backslash}
use Rattle.gixobj_tag.specs.PlainNames.{IsDotted, IsDottedAfter, IsPlainName, dot, is_plain_byte, may_follow}

-- the byte is plain
abbrev IsPlainByte : ℕ → Type 0
IsPlainByte byte = IsTrue (is_plain_byte byte)

-- ---- the walk

-- two dots in a row are the first two bytes, or occur after the first byte
holds_double_dot_cons_cases : (a b : ℕ) (rest : List ℕ) → Holds (codes "..") (a ∷ b ∷ rest) → ((a ≡ dot) × (b ≡ dot)) ⊎ Holds (codes "..") (b ∷ rest)
holds_double_dot_cons_cases a b rest ([], after, joined) = inl (cc joined, cc joined)
holds_double_dot_cons_cases a b rest (first ∷ prefix, after, joined) = inr (prefix, after, cc joined)

-- one byte is not two dots
not_holds_double_dot_singleton : (byte : ℕ) → ¬ Holds (codes "..") (byte ∷ [])
not_holds_double_dot_singleton byte (prefix, rest, joined) =
    absurd (omega (arith, ap length joined, length-append (prefix ++ codes "..") rest, length-append prefix (codes "..")))

-- what occurs in bytes occurs after one more byte
holds_cons : (inner : List ℕ) (byte : ℕ) (content : List ℕ) → Holds inner content → Holds inner (byte ∷ content)
holds_cons inner byte content (prefix, rest, joined) = (byte ∷ prefix, rest, ap (λ (it : List ℕ). byte ∷ it) joined)

-- after a plain byte that doesn't double a dot the walk continues
is_dotted_after_cons_iff : (before byte : ℕ) (rest : List ℕ) → IsPlainByte byte → ¬ ((before ≡ dot) × (byte ≡ dot))
    → IsDottedAfter before (byte ∷ rest) ↔ IsDottedAfter byte rest
is_dotted_after_cons_iff before byte rest plain single = (
  λ dotted. (All-tail IsPlainByte byte rest dotted.0, λ holds. dotted.1 (holds_cons (codes "..") before _ holds)),
  λ dotted. (
    All-cons IsPlainByte byte rest plain dotted.0,
    λ holds. (elim (holds_double_dot_cons_cases before byte (rest ++ dot ∷ []) holds) [ inl both ↦ single both | inr further ↦ dotted.1 further ]),
  ),
)

-- the walk stops at a byte that isn't plain, or that doubles a dot
not_is_dotted_after_cons : (before byte : ℕ) (rest : List ℕ) → (is_plain_byte byte ≡ false) ⊎ ((before ≡ dot) × (byte ≡ dot))
    → ¬ IsDottedAfter before (byte ∷ rest)
not_is_dotted_after_cons before byte rest (inl other) dotted = false≢true (sym other ∙ All-head IsPlainByte byte rest dotted.0)
not_is_dotted_after_cons before byte rest (inr (first, second)) dotted = dotted.1 ([], rest ++ dot ∷ [], cc (first, second))

-- at the end, a dot must not be the last byte
is_dotted_after_nil_iff : (before : ℕ) → (before ≢ dot) ↔ IsDottedAfter before []
is_dotted_after_nil_iff before = (
  λ other. (
    All-nil IsPlainByte,
    λ holds. (elim (holds_double_dot_cons_cases before dot [] holds) [ inl both ↦ other both.0 | inr further ↦ not_holds_double_dot_singleton dot further ]),
  ),
  λ dotted same. dotted.1 ([], [], cc same),
)

-- what the test of a byte says if it passes, and if it fails
plain_byte_of_may_follow : (before byte : ℕ) → may_follow before byte ≡ true → IsPlainByte byte × ¬ ((before ≡ dot) × (byte ≡ dot))
plain_byte_of_may_follow before byte may =
    let parts = and_parts (is_plain_byte byte) (not (before == dot) || not (byte == dot)) may in (
      parts.0,
      λ both. (
          let first : (not (dot == dot) || not (byte == dot)) ≡ true =
          subst (λ (it : ℕ). (not (it == dot) || not (byte == dot)) ≡ true) both.0 parts.1 in
          let second : (not (dot == dot) || not (dot == dot)) ≡ true =
          subst (λ (it : ℕ). (not (dot == dot) || not (it == dot)) ≡ true) both.1 first in
          false≢true second),
    )

not_plain_or_double_dot_of_test : (before byte : ℕ) (plain : Bool) → is_plain_byte byte ≡ plain → (plain && (not (before == dot) || not (byte == dot))) ≡ false
    → (is_plain_byte byte ≡ false) ⊎ ((before ≡ dot) × (byte ≡ dot))
not_plain_or_double_dot_of_test before byte false is may = inl is
not_plain_or_double_dot_of_test before byte true is may =
    let parts = or_parts (not (before == dot)) (not (byte == dot)) may in
    inr (is_dot before parts.0, is_dot byte parts.1)
  where
    is_dot : (byte : ℕ) → not (byte == dot) ≡ false → byte ≡ dot
    is_dot byte fails = elim (cases_eq byte dot) [
      | inl same ↦ same
      | inr other ↦ absurd (false≢true (sym fails ∙ (Decides-not (byte == dot) (Decides-eqb byte dot)).1 other))
    ]

-- the walk at a position of the name: it continues, stops, or is at the end
pub is_dotted_step : (name : List ℕ) (k before : ℕ) → k < length name → may_follow before (get_or name k 0) ≡ true
    → (IsDotted name ↔ IsDottedAfter before (drop k name)) → IsDotted name ↔ IsDottedAfter (get_or name k 0) (drop (k + 1) name)
is_dotted_step name k before within may sofar =
    let remaining : drop k name ≡ get_or name k 0 ∷ drop (k + 1) name = at_drop_more (λ it. it) name k 0 within in
    let yields = plain_byte_of_may_follow before (get_or name k 0) may in
    let more = is_dotted_after_cons_iff before (get_or name k 0) (drop (k + 1) name) yields.0 yields.1 in (
      λ dotted. more.0 (subst (IsDottedAfter before) remaining (sofar.0 dotted)),
      λ dotted. sofar.1 (subst (IsDottedAfter before) (sym remaining) (more.1 dotted)),
    )

pub not_is_dotted_at_end : (name : List ℕ) (k before : ℕ) → k < length name → may_follow before (get_or name k 0) ≡ false
    → (IsDotted name ↔ IsDottedAfter before (drop k name)) → ¬ IsDotted name
not_is_dotted_at_end name k before within may sofar dotted =
    let remaining : drop k name ≡ get_or name k 0 ∷ drop (k + 1) name = at_drop_more (λ it. it) name k 0 within in
    not_is_dotted_after_cons before (get_or name k 0) (drop (k + 1) name)
    (not_plain_or_double_dot_of_test before (get_or name k 0) (is_plain_byte (get_or name k 0)) refl may)
    (subst (IsDottedAfter before) remaining (sofar.0 dotted))

pub is_dotted_of_last : (name : List ℕ) (k before : ℕ) → length name ≤ k → (IsDotted name ↔ IsDottedAfter before (drop k name))
    → IsTrue (not (before == dot)) ↔ IsDotted name
is_dotted_of_last name k before past sofar =
    let remaining : drop k name ≡ [] = at_drop_all (λ it. it) name k past in
    let end = is_dotted_after_nil_iff before in
    let test = Decides-not (before == dot) (Decides-eqb before dot) in (
      λ passes. sofar.1 (subst (IsDottedAfter before) (sym remaining) (end.0 (test.0 passes))),
      λ dotted. test.1 (end.1 (subst (IsDottedAfter before) remaining (sofar.0 dotted))),
    )

-- the negated test decides that the bytes don't have this suffix
pub not_ends_with_iff : (content end : List ℕ) (r : Bool) → r ≡ ends_with nat_eq content end → IsTrue (not r) ↔ (¬ EndsWith end content)
not_ends_with_iff content end r is = Decides-not r (ends_with_iff content end r is)

-- ---- no fault

-- no forbidden byte is plain
control_byte_not_plain : (byte : ℕ) → byte < 32 → is_plain_byte byte ≡ false
control_byte_not_plain byte low = grind (arith, nat_tests)

forbidden_not_plain : (byte : ℕ) → IsForbidden byte → is_plain_byte byte ≡ false
forbidden_not_plain byte (inl low) = control_byte_not_plain byte low
forbidden_not_plain byte (inr (inl same)) = subst (λ (it : ℕ). is_plain_byte it ≡ false) (sym same) refl
forbidden_not_plain byte (inr (inr among)) =
    All-contains (λ it. is_plain_byte it ≡ false) (codes " ~^:?*[") byte
    (All-from_recursion (λ it. is_plain_byte it ≡ false) (codes " ~^:?*[") (search rules))
    among

-- plain bytes contain no byte that isn't plain
plain_name_not_contains : (name : List ℕ) (byte : ℕ) → All IsPlainByte name → is_plain_byte byte ≡ false → ¬ Contains name byte
plain_name_not_contains name byte plain other among = false≢true (sym other ∙ All-contains IsPlainByte name byte plain among)

-- bytes with one that isn't plain don't occur in plain bytes
plain_name_not_holds : (name inner : List ℕ) (byte : ℕ) → All IsPlainByte name → Contains inner byte → is_plain_byte byte ≡ false → ¬ Holds inner name
plain_name_not_holds name inner byte plain among other (prefix, rest, joined) =
    plain_name_not_contains name byte plain other
    (subst (λ (it : List ℕ). Contains it byte) (sym joined)
    (Contains-append_left (prefix ++ inner) rest byte (Contains-append_right prefix inner byte among)))

-- the name between two dots
abbrev between : List ℕ → List ℕ
between name = dot ∷ (name ++ dot ∷ [])

-- a plain name has no fault
pub no_fault_of_plain_name : (name : List ℕ) → IsPlainName name → HasNoFault name
no_fault_of_plain_name name (dotted, unlocked) fault.Empty empty = dotted.1 ([], [], ap between empty)
no_fault_of_plain_name name (dotted, unlocked) fault.DotStart has = elim (dot_start_cases name has) [
  | inl (rest, begins) ↦ dotted.1 ([], rest ++ dot ∷ [], ap between begins)
  | inr holds ↦ plain_name_not_holds name (codes "/.") slash dotted.0 (0, omega arith, refl) refl holds
]
no_fault_of_plain_name name (dotted, unlocked) fault.LockSuffix has = elim (lock_suffix_cases name has) [
  | inl ends ↦ unlocked ends
  | inr holds ↦ plain_name_not_holds name (codes ".lock/") slash dotted.0 (5, omega arith, refl) refl holds
]
no_fault_of_plain_name name (dotted, unlocked) fault.DoubleDot (prefix, rest, joined) =
    let regrouped : dot ∷ ((prefix ++ codes ".." ++ rest) ++ dot ∷ []) ≡ (dot ∷ prefix) ++ codes ".." ++ (rest ++ dot ∷ []) = simp append_assoc in
    dotted.1 (dot ∷ prefix, rest ++ dot ∷ [], ap between joined ∙ regrouped)
no_fault_of_plain_name name (dotted, unlocked) fault.AtBrace holds = plain_name_not_holds name (codes "@{") 64 dotted.0 (0, omega arith, refl) refl holds
no_fault_of_plain_name name (dotted, unlocked) fault.Backslash among = plain_name_not_contains name backslash dotted.0 refl among
no_fault_of_plain_name name (dotted, unlocked) fault.InvalidByte (byte, among, forbidden) =
    plain_name_not_contains name byte dotted.0 (forbidden_not_plain byte forbidden) among
no_fault_of_plain_name name (dotted, unlocked) fault.BadSlash (inl (rest, begins)) =
    plain_name_not_holds name (slash ∷ []) slash dotted.0 (0, omega arith, refl) refl
    ([], rest, begins)
no_fault_of_plain_name name (dotted, unlocked) fault.BadSlash (inr (inl (prefix, ends))) =
    plain_name_not_holds name (slash ∷ []) slash dotted.0 (0, omega arith, refl) refl
    (prefix, [], ends ∙ sym (append-nil (prefix ++ slash ∷ [])))
no_fault_of_plain_name name (dotted, unlocked) fault.BadSlash (inr (inr holds)) = plain_name_not_holds name (slash ∷ slash ∷ []) slash dotted.0
    (0, omega arith, refl) refl holds
no_fault_of_plain_name name (dotted, unlocked) fault.DotEnd (prefix, ends) =
    let regrouped : dot ∷ ((prefix ++ codes ".") ++ dot ∷ []) ≡ ((dot ∷ prefix) ++ codes "..") ++ [] = simp (append_assoc, append-nil) in
    dotted.1 (dot ∷ prefix, [], ap between ends ∙ regrouped)
