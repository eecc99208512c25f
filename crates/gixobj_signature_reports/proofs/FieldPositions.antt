-- The field with a number begins after that number of spaces and ends before the next one; the functions of `gpg` use
-- these lemmas.
use Rattle.std.proofs.Common.{◌≡◌, ◌≢◌, ◌∷◌, ◌++◌, ◌==◌, ◌∙◌, ◌<◌, ◌≤◌, ◌-◌, arith, [], ap, sym, true, false, cond, length, zero, suc, ℕ, Bool, List, Option}
use Rattle.std.proofs.Common.{Some, None, refl}
use Rattle.std.proofs.lemmas.Bool.{eqb-true}
use Rattle.std.proofs.lemmas.List.Elements.{All-head, All-tail}
use Rattle.std.specs.Option.{option_map}
use Rattle.std.specs.Prelude.{slice_get}
use Rattle.gixobj_hash.specs.Bytes.{space}
use Rattle.gixobj_hash.specs.ByteStrings.{IsByteFree, SplitsAt}
use Rattle.gixobj_signature_reports.specs.Fields.{after_space, field_at, fields_of, first_token, if_not_empty, one_more_byte}
use Rattle.gixobj_signature_reports.specs.StatusLines.{after_some_space, after_spaces, if_some}

false_of_not_true : (t : Bool) → ¬ (t ≡ true) → t ≡ false
false_of_not_true true other = absurd (other refl)
false_of_not_true false other = refl

eqb_space_false_of_ne : (byte : ℕ) → byte ≢ space → (byte == space) ≡ false
eqb_space_false_of_ne byte other = false_of_not_true (byte == space) (λ yes. other (eqb-true byte space yes))

-- the first token is the bytes before the first space, or all
first_token_before_space : (prefix rest line : List ℕ) → IsByteFree space prefix → line ≡ prefix ++ space ∷ rest → prefix ≡ first_token line
first_token_before_space [] rest line free is = sym (ap first_token is)
first_token_before_space (byte ∷ prefix) rest line free is =
    let other : (byte == space) ≡ false = eqb_space_false_of_ne byte (All-head (λ it. it ≢ space) byte prefix free) in
    ap (λ (xs : List ℕ). byte ∷ xs) (first_token_before_space prefix rest (prefix ++ space ∷ rest) (All-tail (λ it. it ≢ space) byte prefix free) refl)
    ∙ sym (ap first_token is ∙ ap (λ (t : Bool). cond t [] (byte ∷ first_token (prefix ++ space ∷ rest))) other)

pub first_token_of_spaceless : (line : List ℕ) → IsByteFree space line → line ≡ first_token line
first_token_of_spaceless [] free = refl
first_token_of_spaceless (byte ∷ line) free =
    let other : (byte == space) ≡ false = eqb_space_false_of_ne byte (All-head (λ it. it ≢ space) byte line free) in
    ap (λ (xs : List ℕ). byte ∷ xs) (first_token_of_spaceless line (All-tail (λ it. it ≢ space) byte line free))
    ∙ sym (ap (λ (t : Bool). cond t [] (byte ∷ first_token line)) other)

pub first_token_of_split : (prefix rest line : List ℕ) → SplitsAt space line prefix rest → prefix ≡ first_token line
first_token_of_split prefix rest line splits = first_token_before_space prefix rest line splits.first splits.joined

-- the bytes after the first space are the rest, or nothing
after_space_is_rest : (prefix rest line : List ℕ) → IsByteFree space prefix → line ≡ prefix ++ space ∷ rest → rest ≡ after_space line
after_space_is_rest [] rest line free is = sym (ap after_space is)
after_space_is_rest (byte ∷ prefix) rest line free is =
    let other : (byte == space) ≡ false = eqb_space_false_of_ne byte (All-head (λ it. it ≢ space) byte prefix free) in
    after_space_is_rest prefix rest (prefix ++ space ∷ rest) (All-tail (λ it. it ≢ space) byte prefix free) refl
    ∙ sym (ap after_space is ∙ ap (λ (t : Bool). cond t (prefix ++ space ∷ rest) (after_space (prefix ++ space ∷ rest))) other)

pub after_space_of_split : (prefix rest line : List ℕ) → SplitsAt space line prefix rest → rest ≡ after_space line
after_space_of_split prefix rest line splits = after_space_is_rest prefix rest line splits.first splits.joined

pub after_space_of_spaceless : (line : List ℕ) → IsByteFree space line → [] ≡ after_space line
after_space_of_spaceless [] free = refl
after_space_of_spaceless (byte ∷ line) free =
    let other : (byte == space) ≡ false = eqb_space_false_of_ne byte (All-head (λ it. it ≢ space) byte line free) in
    after_space_of_spaceless line (All-tail (λ it. it ≢ space) byte line free)
    ∙ sym (ap (λ (t : Bool). cond t line (after_space line)) other)

-- the field with number 0
first_field_of_one_more_byte : (byte : ℕ) (fields : List (List ℕ)) (token : List ℕ) → slice_get fields 0 ≡ Some token
    → slice_get (one_more_byte byte fields) 0 ≡ Some
    (byte ∷ token)
first_field_of_one_more_byte byte [] token is = cc is
first_field_of_one_more_byte byte (field ∷ fields) token is = cc is

first_field_cons : (t : Bool) (byte : ℕ) (fields : List (List ℕ)) (token : List ℕ) → slice_get fields 0 ≡ Some token
    → slice_get (cond t ([] ∷ fields) (one_more_byte byte fields)) 0 ≡ Some (cond t [] (byte ∷ token))
first_field_cons true byte fields token is = refl
first_field_cons false byte fields token is = first_field_of_one_more_byte byte fields token is

first_field_is_first_token : (line : List ℕ) → slice_get (fields_of line) 0 ≡ Some (first_token line)
first_field_is_first_token [] = refl
first_field_is_first_token (byte ∷ rest) = first_field_cons (byte == space) byte (fields_of rest) (first_token rest) (first_field_is_first_token rest)

-- the field with a later number is the one before it of the bytes after the first space
later_field_of_one_more_byte : (byte number : ℕ) (fields : List (List ℕ)) → slice_get (one_more_byte byte fields) (suc number) ≡ slice_get fields (suc number)
later_field_of_one_more_byte byte number [] = refl
later_field_of_one_more_byte byte number (field ∷ fields) = refl

later_field_cons : (t : Bool) (byte number : ℕ) (fields : List (List ℕ)) (rest : List ℕ) (more : Option (List ℕ))
    → slice_get fields number ≡ slice_get (fields_of rest) number
    → slice_get fields (suc number) ≡ if_some (λ it. slice_get (fields_of it) number) more
    → slice_get (cond t ([] ∷ fields) (one_more_byte byte fields)) (suc number) ≡ if_some (λ it. slice_get (fields_of it) number)
    (cond t (Some rest) more)
later_field_cons true byte number fields rest more same later = same
later_field_cons false byte number fields rest more same later = later_field_of_one_more_byte byte number fields ∙ later

field_succ_after_some_space : (number : ℕ) (line : List ℕ) → slice_get (fields_of line) (suc number) ≡ if_some (λ it. slice_get (fields_of it) number)
    (after_some_space line)
field_succ_after_some_space number [] = refl
field_succ_after_some_space number (byte ∷ rest) = later_field_cons (byte == space) byte number (fields_of rest) rest (after_some_space rest) refl
    (field_succ_after_some_space number rest)

if_some_field_is_first_token : (number : ℕ) (more : Option (List ℕ))
    → ((it : List ℕ) → slice_get (fields_of it) number ≡ option_map first_token (after_spaces number it))
    → if_some (λ it. slice_get (fields_of it) number) more ≡ option_map first_token (if_some (after_spaces number) more)
if_some_field_is_first_token number None here = refl
if_some_field_is_first_token number (Some it) here = here it

field_is_first_token_after_spaces : (number : ℕ) (line : List ℕ) → slice_get (fields_of line) number ≡ option_map first_token (after_spaces number line)
field_is_first_token_after_spaces zero line = first_field_is_first_token line
field_is_first_token_after_spaces (suc number) line = field_succ_after_some_space number line
    ∙ if_some_field_is_first_token number (after_some_space line) (field_is_first_token_after_spaces number)

pub field_at_eq : (number : ℕ) (line : List ℕ) (after_them : Option (List ℕ)) → after_them ≡ after_spaces number line
    → field_at number (fields_of line) ≡ if_not_empty (option_map first_token after_them)
field_at_eq number line after_them is = ap if_not_empty (field_is_first_token_after_spaces number line ∙ ap (option_map first_token) (sym is))

-- the bytes after some space are the rest, or none
after_some_space_append : (prefix rest : List ℕ) → IsByteFree space prefix → Some rest ≡ after_some_space (prefix ++ space ∷ rest)
after_some_space_append [] rest free = refl
after_some_space_append (byte ∷ prefix) rest free =
    let other : (byte == space) ≡ false = eqb_space_false_of_ne byte (All-head (λ it. it ≢ space) byte prefix free) in
    after_some_space_append prefix rest (All-tail (λ it. it ≢ space) byte prefix free)
    ∙ sym (ap (λ (t : Bool). cond t (Some (prefix ++ space ∷ rest)) (after_some_space (prefix ++ space ∷ rest))) other)

pub after_some_space_of_split : (prefix rest line : List ℕ) → SplitsAt space line prefix rest → Some rest ≡ after_some_space line
after_some_space_of_split prefix rest line splits = after_some_space_append prefix rest splits.first ∙ sym (ap after_some_space splits.joined)

pub after_some_space_of_spaceless : (line : List ℕ) → IsByteFree space line → None ≡ after_some_space line
after_some_space_of_spaceless [] free = refl
after_some_space_of_spaceless (byte ∷ line) free =
    let other : (byte == space) ≡ false = eqb_space_false_of_ne byte (All-head (λ it. it ≢ space) byte line free) in
    after_some_space_of_spaceless line (All-tail (λ it. it ≢ space) byte line free)
    ∙ sym (ap (λ (t : Bool). cond t (Some line) (after_some_space line)) other)

-- steps over spaces: one is skipped, none remains to skip, or none is there
pub after_spaces_step : (remaining : ℕ) (line next : List ℕ) (found : Option (List ℕ)) → remaining ≢ 0 → Some next ≡ after_some_space line
    → found ≡ after_spaces (remaining - 1) next → found ≡ after_spaces remaining line
after_spaces_step zero line next found some is same = absurd (some refl)
after_spaces_step (suc remaining) line next found some is same =
    let one : suc remaining - 1 ≡ remaining = omega arith in
    same ∙ ap (λ m. after_spaces m next) one ∙ ap (if_some (after_spaces remaining)) is

pub after_spaces_zero : (remaining : ℕ) (line : List ℕ) (entire : Option (List ℕ)) → remaining ≤ 0 → after_spaces remaining line ≡ entire
    → Some line ≡ entire
after_spaces_zero zero line entire none same = same
after_spaces_zero (suc remaining) line entire none same = absurd (omega arith)

pub after_spaces_none : (remaining : ℕ) (line : List ℕ) → remaining ≢ 0 → None ≡ after_some_space line → None ≡ after_spaces remaining line
after_spaces_none zero line some is = absurd (some refl)
after_spaces_none (suc remaining) line some is = ap (if_some (after_spaces remaining)) is

-- steps over single bytes: a space or another byte
pub after_spaces_of_space : (remaining byte : ℕ) (line next : List ℕ) (entire : Option (List ℕ)) → 0 < remaining → line ≡ byte ∷ next → byte ≡ space
    → after_spaces remaining line ≡ entire → after_spaces (remaining - 1) next ≡ entire
after_spaces_of_space zero byte line next entire some is same all = absurd (omega arith)
after_spaces_of_space (suc remaining) byte line next entire some is same all =
    let one : suc remaining - 1 ≡ remaining = omega arith in
    ap (λ m. after_spaces m next) one ∙ sym (ap (after_spaces (suc remaining)) (is ∙ ap (λ b. b ∷ next) same)) ∙ all

pub after_spaces_of_byte : (remaining byte : ℕ) (line next : List ℕ) (entire : Option (List ℕ)) → 0 < remaining → line ≡ byte ∷ next → byte ≢ space
    → after_spaces remaining line ≡ entire → after_spaces remaining next ≡ entire
after_spaces_of_byte zero byte line next entire some is other all = absurd (omega arith)
after_spaces_of_byte (suc remaining) byte line next entire some is other all =
    sym (ap (λ (t : Bool). if_some (after_spaces remaining) (cond t (Some next) (after_some_space next))) (eqb_space_false_of_ne byte other))
    ∙ sym (ap (after_spaces (suc remaining)) is) ∙ all

pub after_spaces_of_nil : (remaining : ℕ) (line : List ℕ) (entire : Option (List ℕ)) → 0 < remaining → length line ≡ 0 → after_spaces remaining line ≡ entire
    → None ≡ entire
after_spaces_of_nil zero line entire some empty all = absurd (omega arith)
after_spaces_of_nil (suc remaining) [] entire some empty all = all
after_spaces_of_nil (suc remaining) (byte ∷ line) entire some empty all = absurd (cc empty)
