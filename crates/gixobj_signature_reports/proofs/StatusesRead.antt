-- The values of all status lines, from one line after the other.
use Rattle.std.proofs.Common.{◌≡◌, ◌∷◌, ◌∙◌, [], ap, sym, codes, List, ℕ, Option, Some, None, refl, map}
use Rattle.std.specs.List.{cons_option, filter_map}
use Rattle.bstr.specs.Text.{lines_of, without_terminator}
use Rattle.gixobj_signature_reports.specs.Fields.{after_prefix, either, last_of}
use Rattle.gixobj_signature_reports.specs.GpgReports.{Verdict, reported_fields, status_of, status_lines, trust_in, reported_trust, valid_fields}
use Rattle.gixobj_signature_reports.specs.StatusLines.{HasOneMore, after_status_prefix, reported_after, status_from, statuses_in, status_after, line_status}
use Rattle.gixobj_signature_reports.specs.StatusLines.{verdict_of}
use Rattle.gixobj_signature_reports.specs.declared.report.gpg.Statuses.{Statuses}

-- a list of at least one item has a last one, whatever precedes it
last_of_cons_ignores_default : {X : Type 0} (x : X) (xs : List X) (a b : Option X) → either (last_of (x ∷ xs)) a ≡ either (last_of (x ∷ xs)) b
last_of_cons_ignores_default x [] a b = refl
last_of_cons_ignores_default x (y ∷ ys) a b = last_of_cons_ignores_default y ys a b

last_of_cons : {X : Type 0} (x : X) (xs : List X) (a : Option X) → either (last_of (x ∷ xs)) a ≡ either (last_of xs) (Some x)
last_of_cons x [] a = refl
last_of_cons x (y ∷ ys) a = last_of_cons_ignores_default y ys a (Some x)

last_of_cons_option : {X : Type 0} (x : Option X) (xs : List X) (found : Option X)
    → either (last_of (cons_option x xs)) found ≡ either (last_of xs) (either x found)
last_of_cons_option (Some x) xs found = last_of_cons x xs found
last_of_cons_option None xs found = refl

-- one more line: its value is found, or the value found before
pub reported_after_cons : (bytes line : List ℕ) (lines rest : List (List ℕ)) (found next total : Option (List ℕ)) → lines ≡ line ∷ rest
    → next ≡ either (status_after bytes line) found
    → either (last_of (reported_after bytes lines)) found ≡ total → either (last_of (reported_after bytes rest)) next ≡ total
reported_after_cons bytes line lines rest found next total is gives entire =
    ap (either (last_of (reported_after bytes rest))) gives
    ∙ sym (last_of_cons_option (status_after bytes line) (reported_after bytes rest) found)
    ∙ ap (λ (ls : List (List ℕ)). either (last_of (reported_after bytes ls)) found) (sym is) ∙ entire

-- one more line: its status is added to the statuses
pub statuses_in_cons : (line : List ℕ) (lines rest : List (List ℕ)) (before after : Statuses) (total : Verdict) → lines ≡ line ∷ rest
    → HasOneMore before (line_status line) after
    → verdict_of before (statuses_in lines) ≡ total → verdict_of after (statuses_in rest) ≡ total
statuses_in_cons line lines rest before after total is more entire =
    more (statuses_in rest) ∙ ap (λ (ls : List (List ℕ)). verdict_of before (statuses_in ls)) (sym is) ∙ entire

-- two passes, over status lines and then over their values, are one pass over all lines
filter_map_cons_option : {X Y Z : Type 0} (f : X → Option Y) (g : Y → Option Z) (h : Option Y → Option Z) → h None ≡ None → ((y : Y) → h (Some y) ≡ g y)
    → (y : Option Y) (ys : List Y) (zs : List Z) → filter_map g ys ≡ zs → filter_map g (cons_option y ys) ≡ cons_option (h y) zs
filter_map_cons_option f g h none some None ys zs same = same ∙ ap (λ (z : Option _). cons_option z zs) (sym none)
filter_map_cons_option f g h none some (Some y) ys zs same = ap (cons_option (g y)) same ∙ ap (λ (z : Option _). cons_option z zs) (sym (some y))

filter_map_filter_map : {X Y Z : Type 0} (f : X → Option Y) (g : Y → Option Z) (h : Option Y → Option Z) → h None ≡ None → ((y : Y) → h (Some y) ≡ g y)
    → (xs : List X) → filter_map g (filter_map f xs) ≡ filter_map (λ x. h (f x)) xs
filter_map_filter_map f g h none some [] = refl
filter_map_filter_map f g h none some (x ∷ xs) = filter_map_cons_option f g h none some (f x) (filter_map f xs) (filter_map (λ x. h (f x)) xs)
    (filter_map_filter_map f g h none some xs)

reported_after_of_status_lines : (bytes raw : List ℕ) → filter_map (λ line. after_prefix bytes line) (status_lines raw)
    ≡ reported_after bytes (map without_terminator (lines_of raw))
reported_after_of_status_lines bytes raw = filter_map_filter_map (λ line. after_prefix (codes "[GNUPG:] ") line) (λ line. after_prefix bytes line)
    (after_status_prefix bytes) refl (λ y. refl)
    (map without_terminator (lines_of raw))

pub statuses_of_raw : (raw : List ℕ) → filter_map status_of (status_lines raw) ≡ statuses_in (map without_terminator (lines_of raw))
statuses_of_raw raw = filter_map_filter_map (λ line. after_prefix (codes "[GNUPG:] ") line) status_of status_from refl (λ y. refl)
    (map without_terminator (lines_of raw))

pub trust_of_raw : (raw : List ℕ) → trust_in (status_lines raw) ≡ reported_trust
    (last_of (reported_after (codes "TRUST_") (map without_terminator (lines_of raw))))
trust_of_raw raw = ap (λ (xs : List (List ℕ)). reported_trust (last_of xs)) (reported_after_of_status_lines (codes "TRUST_") raw)

pub valid_fields_of_raw : (raw : List ℕ) → valid_fields (status_lines raw) ≡ reported_fields
    (last_of (reported_after (codes "VALIDSIG ") (map without_terminator (lines_of raw))))
valid_fields_of_raw raw = ap (λ (xs : List (List ℕ)). reported_fields (last_of xs)) (reported_after_of_status_lines (codes "VALIDSIG ") raw)
