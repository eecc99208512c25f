-- A message splits at its first two consecutive line breaks; `message_title_and_body` uses these lemmas.
use Rattle.std.proofs.lemmas.Bool.{eqb-true}
use Rattle.std.proofs.Common.{◌++◌, ◌+◌, ◌∙◌, ◌∷◌, ◌≡◌, ◌≢◌, ◌≤◌, Bool, List, None, Option, Some, [], ap, append-nil, append_assoc, arith, cond, false, inl}
use Rattle.std.proofs.Common.{inr, length, length-append, not, refl, subst, suc, sym, true, zero, ℕ}
use Rattle.std.specs.Prelude.{is_some, ◌&&◌, ◌==◌, ◌-◌, take}
use Rattle.bstr.specs.BStr.{bstr_bytes}
use Rattle.bstr.specs.declared.bstr.BStr.{BStr}
use Rattle.gixobj_hash.specs.Optional.{bytes_if_some}
use Rattle.std.specs.Prelude.{MatchOption}
use Rattle.gixobj_text.specs.LineBreaks.{IsUnsplit, begins_two_breaks, after_break, after_next_break, after_carriage_return, after_two_breaks}
use Rattle.gixobj_text.specs.LineBreaks.{no_double_break_before, no_double_break}
use Rattle.gixobj_text.specs.Titles.{HasBreaks, IsBreak, IsSplitAtBreaks, SplitsTitle}
use Rattle.gixobj_text.specs.Titles.IsBreak.{alone, after_return}

begins_two_breaks_append : (first second rest : List ℕ) → IsBreak first → IsBreak second → begins_two_breaks (first ++ second ++ rest) ≡ true
begins_two_breaks_append first second rest alone alone = refl
begins_two_breaks_append first second rest alone after_return = refl
begins_two_breaks_append first second rest after_return alone = refl
begins_two_breaks_append first second rest after_return after_return = refl

not_and_sides : (a b : Bool) → (not a && b) ≡ true → (a ≡ false) × (b ≡ true)
not_and_sides true b so = cc so
not_and_sides false b so = (refl, so)

no_breaks_at_start : (content : List ℕ) (rest : List ℕ) → begins_two_breaks content ≡ false → HasBreaks content [] rest → ⊥
no_breaks_at_start content rest none it =
    let here = ap begins_two_breaks it.joined ∙ begins_two_breaks_append it.first it.second rest it.breaks.0 it.breaks.1 in
    cc (sym none ∙ here)

no_break_in_nil : (head first second rest : List ℕ) → IsBreak first → [] ≡ head ++ first ++ second ++ rest → ⊥
no_break_in_nil [] first second rest alone is = cc is
no_break_in_nil [] first second rest after_return is = cc is
no_break_in_nil (byte ∷ head) first second rest it is = cc is

has_breaks_tail : (byte one : ℕ) (content head rest : List ℕ) → HasBreaks (byte ∷ content) (one ∷ head) rest → HasBreaks content head rest
has_breaks_tail byte one content head rest it = record { first = it.first; second = it.second; breaks = it.breaks; joined = cc it.joined }

pub title_split_is_first : (count : ℕ) (content head rest : List ℕ) → no_double_break_before count content ≡ true → HasBreaks content head rest
    → count ≤ length head
title_split_is_first zero content head rest none it = grind (arith)
title_split_is_first (suc count) [] head rest none it = cc none
title_split_is_first (suc count) (byte ∷ content) [] rest none it =
    absurd (no_breaks_at_start (byte ∷ content) rest (not_and_sides (begins_two_breaks (byte ∷ content)) (no_double_break_before count content) none).0 it)
title_split_is_first (suc count) (byte ∷ content) (one ∷ head) rest none it =
    let later : count ≤ length head =
    title_split_is_first count content head rest (not_and_sides (begins_two_breaks (byte ∷ content)) (no_double_break_before count content) none).1
    (has_breaks_tail byte one content head rest it) in
    grind (arith)

pub no_breaks_of_unsplit : (content head rest : List ℕ) → no_double_break content ≡ true → ¬ HasBreaks content head rest
no_breaks_of_unsplit [] head rest none it = no_break_in_nil head it.first it.second rest it.breaks.0 it.joined
no_breaks_of_unsplit (byte ∷ content) [] rest none it = no_breaks_at_start (byte ∷ content) rest
    (not_and_sides (begins_two_breaks (byte ∷ content)) (no_double_break content) none).0
    it
no_breaks_of_unsplit (byte ∷ content) (one ∷ head) rest none it =
    no_breaks_of_unsplit content head rest (not_and_sides (begins_two_breaks (byte ∷ content)) (no_double_break content) none).1
    (has_breaks_tail byte one content head rest it)

-- ---- the walk to the split

-- the bytes begin with a line break, which the rest follows
abbrev IsBroken : List ℕ → List ℕ → Type 0
IsBroken content rest = (first : List ℕ) × IsBreak first × (content ≡ first ++ rest)

return_newline_cons : (one two : ℕ) (rest found : List ℕ) → one ≡ 13 → two ≡ 10 → rest ≡ found → one ∷ two ∷ rest ≡ 13 ∷ 10 ∷ found
return_newline_cons one two rest found first second is = cc (first, second, is)

newline_cons : (one : ℕ) (rest found : List ℕ) → one ≡ 10 → rest ≡ found → one ∷ rest ≡ 10 ∷ found
newline_cons one rest found first is = cc (first, is)

is_broken_of_return_and_flag : (b : Bool) (byte two : ℕ) (rest found : List ℕ) → byte ≡ 13 → (two == 10) ≡ b → cond b (Some rest) None ≡ Some found
    → IsBroken (byte ∷ two ∷ rest) found
is_broken_of_return_and_flag true byte two rest found first second is =
    (13 ∷ 10 ∷ [], after_return, return_newline_cons byte two rest found first (eqb-true two 10 second) (cc is))
is_broken_of_return_and_flag false byte two rest found first second is = cc is

is_broken_of_return : (byte : ℕ) (rest found : List ℕ) → byte ≡ 13 → after_carriage_return rest ≡ Some found → IsBroken (byte ∷ rest) found
is_broken_of_return byte [] found first is = cc is
is_broken_of_return byte (two ∷ rest) found first is = is_broken_of_return_and_flag (two == 10) byte two rest found first refl is

is_broken_of_flags : (b c : Bool) (byte : ℕ) (rest found : List ℕ) → (byte == 10) ≡ b → (byte == 13) ≡ c
    → cond b (Some rest) (cond c (after_carriage_return rest) None) ≡ Some found → IsBroken (byte ∷ rest) found
is_broken_of_flags true c byte rest found first second is = (10 ∷ [], alone, newline_cons byte rest found (eqb-true byte 10 first) (cc is))
is_broken_of_flags false true byte rest found first second is = is_broken_of_return byte rest found (eqb-true byte 13 second) is
is_broken_of_flags false false byte rest found first second is = cc is

is_broken_of_after_break : (content found : List ℕ) → after_break content ≡ Some found → IsBroken content found
is_broken_of_after_break [] found is = cc is
is_broken_of_after_break (byte ∷ rest) found is = is_broken_of_flags (byte == 10) (byte == 13) byte rest found refl refl is

has_breaks_of_next_break : (content body : List ℕ) (next : Option (List ℕ)) → after_break content ≡ next → after_next_break next ≡ Some body
    → HasBreaks content [] body
has_breaks_of_next_break content body None first second = cc second
has_breaks_of_next_break content body (Some rest) first second =
    let one : IsBroken content rest = is_broken_of_after_break content rest first in
    let two : IsBroken rest body = is_broken_of_after_break rest body second in
    record {
      first = one.0;
      second = two.0;
      breaks = (one.1, two.1);
      joined = one.2 ∙ ap (λ (bytes : List ℕ). one.0 ++ bytes) two.2
          ∙ sym (append_assoc one.0 two.0 body);
    }

has_breaks_of_after_two_breaks : (content body : List ℕ) → Some body ≡ after_two_breaks content → HasBreaks content [] body
has_breaks_of_after_two_breaks content body is = has_breaks_of_next_break content body (after_break content) refl (sym is)

no_double_break_before_snoc : (head : List ℕ) (byte : ℕ) (rest : List ℕ) → no_double_break_before (length head) (head ++ byte ∷ rest) ≡ true
    → begins_two_breaks (byte ∷ rest) ≡ false → no_double_break_before (length (head ++ byte ∷ [])) (head ++ byte ∷ rest) ≡ true
no_double_break_before_snoc [] byte rest none one = ap (λ (b : Bool). not b && true) one
no_double_break_before_snoc (one ∷ head) byte rest none two =
    let parts = not_and_sides (begins_two_breaks (one ∷ head ++ byte ∷ rest)) (no_double_break_before (length head) (head ++ byte ∷ rest)) none in
    both (begins_two_breaks (one ∷ head ++ byte ∷ rest)) _ parts.0 (no_double_break_before_snoc head byte rest parts.1 two)
  where
    both : (a b : Bool) → a ≡ false → b ≡ true → (not a && b) ≡ true
    both true b is so = cc is
    both false b is so = so

pub is_unsplit_refl : (message : List ℕ) → IsUnsplit message message
is_unsplit_refl message = record { prefix = []; joined = refl; none = refl }

pub is_unsplit_step : (message rest : List ℕ) (byte : ℕ) (after_two : List ℕ) → IsUnsplit message rest → rest ≡ byte ∷ after_two
    → None ≡ after_two_breaks rest
    → IsUnsplit message after_two
is_unsplit_step message rest byte after_two it is none =
    let joined : message ≡ it.prefix ++ byte ∷ after_two = it.joined ∙ ap (λ (bytes : List ℕ). it.prefix ++ bytes) is in
    let not : begins_two_breaks (byte ∷ after_two) ≡ false = ap begins_two_breaks (sym is) ∙ sym (ap is_some none) in
    record {
      prefix = it.prefix ++ byte ∷ [];
      joined = joined ∙ sym (append_assoc it.prefix (byte ∷ []) after_two);
      none = ap (no_double_break_before (length (it.prefix ++ byte ∷ []))) joined ∙ no_double_break_before_snoc it.prefix byte after_two
          (ap (no_double_break_before (length it.prefix)) (sym joined) ∙ it.none) not;
    }

no_double_break_of_before_len : (head : List ℕ) → no_double_break_before (length head) head ≡ true → no_double_break head ≡ true
no_double_break_of_before_len [] is = refl
no_double_break_of_before_len (byte ∷ head) is =
    let parts = not_and_sides (begins_two_breaks (byte ∷ head)) (no_double_break_before (length head) head) is in
    both (begins_two_breaks (byte ∷ head)) (no_double_break head) parts.0 (no_double_break_of_before_len head parts.1)
  where
    both : (a b : Bool) → a ≡ false → b ≡ true → (not a && b) ≡ true
    both true b is so = cc is
    both false b is so = so

pub splits_title_of_unsplit : (message rest title : List ℕ) → IsUnsplit message rest → rest ≡ [] → title ≡ message → SplitsTitle message title None
splits_title_of_unsplit message rest title it none all =
    let is : message ≡ it.prefix = it.joined ∙ ap (λ (bytes : List ℕ). it.prefix ++ bytes) none ∙ append-nil it.prefix in
    let so : no_double_break_before (length message) message ≡ true = ap (λ (n : ℕ). no_double_break_before n message) (ap length is) ∙ it.none in
    inr (all, λ head rest. no_breaks_of_unsplit message head rest (no_double_break_of_before_len message so))

pub title_is_prefix : (head rest message : List ℕ) → message ≡ head ++ rest → take (length message - length rest) message ≡ head
title_is_prefix head rest message is =
    let sum : length message ≡ length head + length rest = ap length is ∙ length-append head rest in
    let count : length message - length rest ≡ length head = omega arith in
    ap (λ (n : ℕ). take n message) count ∙ ap (take (length head)) is ∙ taken head rest
  where
    taken : (head rest : List ℕ) → take (length head) (head ++ rest) ≡ head
    taken [] rest = refl
    taken (byte ∷ head) rest = ap (λ (bytes : List ℕ). byte ∷ bytes) (taken head rest)

pub is_split_at_breaks : (message rest body title : List ℕ) → IsUnsplit message rest → Some body ≡ after_two_breaks rest
    → title ≡ take (length message - length rest) message → IsSplitAtBreaks message title body
is_split_at_breaks message rest body title it two is =
    let at : HasBreaks rest [] body = has_breaks_of_after_two_breaks rest body two in
    let head : title ≡ it.prefix = is ∙ title_is_prefix it.prefix rest message it.joined in
    subst (λ (t : List ℕ). IsSplitAtBreaks message t body) (sym head)
    (record {
      here = record {
        first = at.first;
        second = at.second;
        breaks = at.breaks;
        joined = it.joined ∙ ap (λ (bytes : List ℕ). it.prefix ++ bytes) at.joined ∙ sym (append_assoc it.prefix (at.first ++ at.second) body)
            ∙ ap (λ (bytes : List ℕ). bytes ++ body) (sym (append_assoc it.prefix at.first at.second));
      };
      minimum = λ other after_two others. title_split_is_first (length it.prefix) message other after_two it.none others;
    })

pub splits_title_at_end : (message title body : List ℕ) → IsSplitAtBreaks message title body → body ≡ [] → SplitsTitle message title None
splits_title_at_end message title body it none = inl (subst (λ (b : List ℕ). IsSplitAtBreaks message title b) none it)

-- a message splits into its title and the body, which is none if and only if it is empty
pub splits_title_of_option : (message title body : List ℕ) (found : Option BStr) → IsSplitAtBreaks message title body
    → MatchOption found (body ≡ []) (λ it. (bstr_bytes it ≡ body) × (body ≢ []))
    → SplitsTitle message title (bytes_if_some found)
splits_title_of_option message title body None it is = splits_title_at_end message title body it is
splits_title_of_option message title body (Some found) it (is, some) =
    (subst (λ (b : List ℕ). IsSplitAtBreaks message title b) (sym is) it, subst (λ (b : List ℕ). b ≢ []) (sym is) some)

pub nil_of_is_empty : (content : List ℕ) → length content ≡ 0 → content ≡ []
nil_of_is_empty [] is = refl
nil_of_is_empty (byte ∷ content) is = absurd (omega arith)
