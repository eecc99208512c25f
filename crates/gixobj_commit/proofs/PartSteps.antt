-- Four parts that are written or counted in order; used by the proofs of commits.
use Rattle.std.proofs.Common.{◌≡◌, ◌+◌, ◌<◌, ℕ, List, ◌++◌, arith, length, ap, length-append}
use Rattle.gixobj_streams.proofs.Appends.{appends_prefix_first, appends_prefix_append, appends_all_append}
use Rattle.gixobj_streams.specs.Streams.{AppendsAll, AppendsPrefix, SinkView}
use Rattle.std.specs.declared.io.Error as io

-- four parts, concatenated
abbrev pub in_parts : List ℕ → List ℕ → List ℕ → List ℕ → List ℕ
in_parts first second third fourth = ((first ++ second) ++ third) ++ fourth

-- the bytes are these four parts
pub record IsInParts (bytes first second third fourth : List ℕ) : Type 0 where
  pub joined : bytes ≡ in_parts first second third fourth

-- ---- four parts p, q, r, s, written in order

appends_prefix_of_eq : {cause : io.Error} (a b : SinkView) (x y : List ℕ) → y ≡ x → AppendsPrefix a b x cause → AppendsPrefix a b y cause
appends_prefix_of_eq a b x y same part = rw same part

pub appends_first_of_four : {cause : io.Error} (a b : SinkView) (bytes p q r s : List ℕ) → IsInParts bytes p q r s → AppendsPrefix a b p cause
    → AppendsPrefix a b bytes cause
appends_first_of_four a b bytes p q r s entire part =
    appends_prefix_of_eq a b (in_parts p q r s) bytes entire.joined (appends_prefix_first a b ((p ++ q) ++ r) s
    (appends_prefix_first a b (p ++ q) r (appends_prefix_first a b p q part)))

pub appends_second_of_four : {cause : io.Error} (a b c : SinkView) (bytes p q r s : List ℕ) → IsInParts bytes p q r s → AppendsAll a b p
    → AppendsPrefix b c q cause → AppendsPrefix a c bytes cause
appends_second_of_four a b c bytes p q r s entire one part =
    appends_prefix_of_eq a c (in_parts p q r s) bytes entire.joined (appends_prefix_first a c ((p ++ q) ++ r) s
    (appends_prefix_first a c (p ++ q) r (appends_prefix_append a b c p q one part)))

pub appends_third_of_four : {cause : io.Error} (a b c d : SinkView) (bytes p q r s : List ℕ) → IsInParts bytes p q r s → AppendsAll a b p
    → AppendsAll b c q → AppendsPrefix c d r cause → AppendsPrefix a d bytes cause
appends_third_of_four a b c d bytes p q r s entire one two part =
    appends_prefix_of_eq a d (in_parts p q r s) bytes entire.joined
    (appends_prefix_first a d ((p ++ q) ++ r) s (appends_prefix_append a c d (p ++ q) r (appends_all_append a b c p q one two) part))

pub appends_all_three : (a b c d : SinkView) (p q r : List ℕ) → AppendsAll a b p → AppendsAll b c q → AppendsAll c d r → AppendsAll a d ((p ++ q) ++ r)
appends_all_three a b c d p q r one two three = appends_all_append a c d (p ++ q) r (appends_all_append a b c p q one two) three

pub appends_fourth_of_four : {cause : io.Error} (a b c d e : SinkView) (bytes p q r s : List ℕ) → IsInParts bytes p q r s → AppendsAll a b p
    → AppendsAll b c q → AppendsAll c d r → AppendsPrefix d e s cause → AppendsPrefix a e bytes cause
appends_fourth_of_four a b c d e bytes p q r s entire one two three part =
    appends_prefix_of_eq a e (in_parts p q r s) bytes entire.joined (appends_prefix_append a d e ((p ++ q) ++ r) s
    (appends_all_three a b c d p q r one two three) part)

pub appends_all_four : (a b c d e : SinkView) (bytes p q r s : List ℕ) → IsInParts bytes p q r s → AppendsAll a b p → AppendsAll b c q → AppendsAll c d r
    → AppendsAll d e s → AppendsAll a e bytes
appends_all_four a b c d e bytes p q r s entire one two three four =
    rw entire.joined (appends_all_append a d e ((p ++ q) ++ r) s (appends_all_three a b c d p q r one two three) four)

-- ---- four parts p, q, r, s, counted in order

len_of_four_parts : (bytes p q r s : List ℕ) → IsInParts bytes p q r s → length bytes ≡ ((length p + length q) + length r) + length s
len_of_four_parts bytes p q r s entire =
    omega (arith, ap length entire.joined, length-append ((p ++ q) ++ r) s, length-append (p ++ q) r, length-append p q)

pub no_overflow_at_first : (bound : ℕ) (bytes p q r s : List ℕ) → IsInParts bytes p q r s → (length p < bound → ⊥) → length bytes < bound → ⊥
no_overflow_at_first bound bytes p q r s entire over short = over (omega (arith, short, len_of_four_parts bytes p q r s entire))

pub no_overflow_at_second : (bound : ℕ) (bytes p q r s : List ℕ) (n : ℕ) → IsInParts bytes p q r s → n ≡ length p → (n + length q < bound → ⊥)
    → length bytes < bound
    → ⊥
no_overflow_at_second bound bytes p q r s n entire one over short = over (omega (arith, short, one, len_of_four_parts bytes p q r s entire))

pub no_overflow_at_third : (bound : ℕ) (bytes p q r s : List ℕ) (n m : ℕ) → IsInParts bytes p q r s → n ≡ length p → m ≡ n + length q
    → (m + length r < bound → ⊥)
    → length bytes < bound → ⊥
no_overflow_at_third bound bytes p q r s n m entire one two over short = over (omega (arith, short, one, two, len_of_four_parts bytes p q r s entire))

pub no_overflow_at_fourth : (bound : ℕ) (bytes p q r s : List ℕ) (n m k : ℕ) → IsInParts bytes p q r s → n ≡ length p → m ≡ n + length q → k ≡ m + length r
    → (k + length s < bound → ⊥) → length bytes < bound → ⊥
no_overflow_at_fourth bound bytes p q r s n m k entire one two three over short =
    over (omega (arith, short, one, two, three, len_of_four_parts bytes p q r s entire))

pub counted_eq_len : (bound : ℕ) (bytes p q r s : List ℕ) (n m k j : ℕ) → IsInParts bytes p q r s → n ≡ length p → m ≡ n + length q → k ≡ m + length r
    → (k + length s < bound) × (j ≡ k + length s) → (length bytes < bound) × (j ≡ length bytes)
counted_eq_len bound bytes p q r s n m k j entire one two three four =
    let len = len_of_four_parts bytes p q r s entire in
    (omega (arith, len, one, two, three, four.0), omega (arith, len, one, two, three, four.1))
