-- A byte string splits uniquely at the first or the last occurrence of a byte.
use Rattle.std.proofs.Common.{◌≡◌, ◌≢◌, ℕ, List, [], ◌∷◌, ◌++◌, true, refl, sym, ap, subst, ◌∙◌}
use Rattle.std.proofs.Common.{eq-eqb}
use Rattle.std.proofs.lemmas.Bool.{and_parts, true≢false}
use Rattle.std.proofs.lemmas.List.Elements.{All-cons, All-head, All-nil, All-tail}
use Rattle.std.specs.List.{list_all}
use Rattle.std.specs.Prelude.{◌==◌, not}
use Rattle.gixobj_hash.specs.ByteStrings.{IsByteFree, SplitsAt}

-- the first byte of content without the byte differs from it
free-head : (byte first : ℕ) (content : List ℕ) → IsByteFree byte (first ∷ content) → first ≢ byte
free-head byte first content free = All-head (λ it. it ≢ byte) first content free

free-tail : (byte first : ℕ) (content : List ℕ) → IsByteFree byte (first ∷ content) → IsByteFree byte content
free-tail byte first content free = All-tail (λ it. it ≢ byte) first content free

pub split_parts_unique : (byte : ℕ) (a x b y : List ℕ) → IsByteFree byte a → IsByteFree byte b → a ++ byte ∷ x ≡ b ++ byte ∷ y → (a ≡ b) × (x ≡ y)
split_parts_unique byte [] x [] y free_a free_b same = (refl, cc same)
split_parts_unique byte [] x (first ∷ b) y free_a free_b same =
    absurd (free-head byte first b free_b (let e : byte ≡ first = cc same in sym e))
split_parts_unique byte (first ∷ a) x [] y free_a free_b same =
    absurd (free-head byte first a free_a (cc same))
split_parts_unique byte (first ∷ a) x (second ∷ b) y free_a free_b same =
    let tails : a ++ byte ∷ x ≡ b ++ byte ∷ y = cc same in
    let rest = split_parts_unique byte a x b y (free-tail byte first a free_a) (free-tail byte second b free_b) tails in
    let heads : first ≡ second = cc same in
    (cc (heads, rest.0), rest.1)

pub splits_at_unique : (byte : ℕ) (content a x b y : List ℕ) → SplitsAt byte content a x → SplitsAt byte content b y → (a ≡ b) × (x ≡ y)
splits_at_unique byte content a x b y first second = split_parts_unique byte a x b y first.first second.first (sym first.joined ∙ second.joined)

pub no_split_of_byte_free : (byte : ℕ) (a x : List ℕ) → IsByteFree byte (a ++ byte ∷ x) → ⊥
no_split_of_byte_free byte [] x free = free-head byte byte x free refl
no_split_of_byte_free byte (first ∷ a) x free = no_split_of_byte_free byte a x (free-tail byte first (a ++ byte ∷ x) free)

-- a byte string splits uniquely at the last occurrence of a byte
pub last_split_unique : (byte : ℕ) (a x b y : List ℕ) → IsByteFree byte x → IsByteFree byte y → a ++ byte ∷ x ≡ b ++ byte ∷ y → (a ≡ b) × (x ≡ y)
last_split_unique byte [] x [] y free_x free_y same = (refl, cc same)
last_split_unique byte [] x (first ∷ b) y free_x free_y same =
    let after : x ≡ b ++ byte ∷ y = cc same in
    absurd (no_split_of_byte_free byte b y (let P : List ℕ → Type 0 = IsByteFree byte in subst P after free_x))
last_split_unique byte (first ∷ a) x [] y free_x free_y same =
    let after : y ≡ a ++ byte ∷ x = cc same in
    absurd (no_split_of_byte_free byte a x (let P : List ℕ → Type 0 = IsByteFree byte in subst P after free_y))
last_split_unique byte (first ∷ a) x (second ∷ b) y free_x free_y same =
    let tails : a ++ byte ∷ x ≡ b ++ byte ∷ y = cc same in
    let rest = last_split_unique byte a x b y free_x free_y tails in
    let heads : first ≡ second = cc same in
    (cc (heads, rest.0), rest.1)

-- content whose bytes pass the test does not have the byte
pub byte_free_of_all_pass : (byte : ℕ) (content : List ℕ) → list_all (λ it. not (it == byte)) content ≡ true → IsByteFree byte content
byte_free_of_all_pass byte [] passes = All-nil (λ it. it ≢ byte)
byte_free_of_all_pass byte (first ∷ content) passes =
    let parts = and_parts (not (first == byte)) (list_all (λ it. not (it == byte)) content) passes in
    let other : first ≢ byte = λ same. true≢false (sym parts.0 ∙ ap not (eq-eqb first byte same)) in
    All-cons (λ it. it ≢ byte) first content other (byte_free_of_all_pass byte content parts.1)
