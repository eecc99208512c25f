-- The first byte of a status line selects its keywords; `status_of_line` and `valid_here` use these lemmas.
use Rattle.std.proofs.Common.{◌≡◌, ◌≢◌, ◌∷◌, ◌∙◌, ◌&&◌, [], ap, cond, drop, length, nat_eq, sym, take, codes, Bool, true, false, List, ℕ, Option, Some, None}
use Rattle.std.proofs.Common.{refl}
use Rattle.std.proofs.lemmas.Bool.{eqb-true}
use Rattle.std.specs.Cmp.Lexicographic.{pointwise}
use Rattle.std.specs.Option.{option_map}
use Rattle.gixobj_signature_reports.specs.Fields.{after_prefix, either}
use Rattle.gixobj_signature_reports.specs.GpgReports.{error_status_of, status_of, with_status}
use Rattle.gixobj_signature_reports.specs.declared.report.Status.{Status}
use Rattle.gixobj_signature_reports.specs.declared.report.Status.TheVariants as status

-- for a line with this first byte, the keywords that begin with it report what all keywords report
either_none : {X : Type 0} (x : Option X) → either x None ≡ x
either_none (Some x) = refl
either_none None = refl

cons_of_head_eq : (byte first : ℕ) (line rest : List ℕ) → line ≡ first ∷ rest → first ≡ byte → line ≡ byte ∷ rest
cons_of_head_eq byte first line rest is same = is ∙ ap (λ b. b ∷ rest) same

pub status_of_goodsig : (line rest : List ℕ) (first : ℕ) (found : Option (Status × List ℕ)) → line ≡ first ∷ rest → first ≡ 71
    → found ≡ either (option_map (with_status status.Good) (after_prefix (codes "GOODSIG ") line)) None → found ≡ status_of line
status_of_goodsig line rest first found is same says =
    let at = cons_of_head_eq 71 first line rest is same in
    says ∙ ap (λ it. either (option_map (with_status status.Good) (after_prefix (codes "GOODSIG ") it)) None) at ∙ sym (ap status_of at)

pub status_of_badsig : (line rest : List ℕ) (first : ℕ) (found : Option (Status × List ℕ)) → line ≡ first ∷ rest → first ≡ 66
    → found ≡ either (option_map (with_status status.Bad) (after_prefix (codes "BADSIG ") line)) None → found ≡ status_of line
status_of_badsig line rest first found is same says =
    let at = cons_of_head_eq 66 first line rest is same in
    says ∙ ap (λ it. either (option_map (with_status status.Bad) (after_prefix (codes "BADSIG ") it)) None) at ∙ sym (ap status_of at)

pub status_of_errsig : (line rest : List ℕ) (first : ℕ) (found : Option (Status × List ℕ)) → line ≡ first ∷ rest → first ≡ 69
    → found ≡ error_status_of line → found ≡ status_of line
status_of_errsig line rest first found is same says =
    let at = cons_of_head_eq 69 first line rest is same in
    says ∙ ap error_status_of at ∙ sym (either_none (error_status_of (69 ∷ rest))) ∙ sym (ap status_of at)

pub error_status_of_keywords : (line : List ℕ) (found : Option (Status × List ℕ))
    → found ≡ either (option_map (with_status status.Error) (after_prefix (codes "ERRSIG ") line))
    (either (option_map (with_status status.Expired) (after_prefix (codes "EXPSIG ") line))
    (either (option_map (with_status status.ExpiredKey) (after_prefix (codes "EXPKEYSIG ") line)) None))
    → found ≡ error_status_of line
error_status_of_keywords line found says =
    says ∙ ap (λ it. either (option_map (with_status status.Error) (after_prefix (codes "ERRSIG ") line))
    (either (option_map (with_status status.Expired) (after_prefix (codes "EXPSIG ") line)) it))
    (either_none (option_map (with_status status.ExpiredKey) (after_prefix (codes "EXPKEYSIG ") line)))

pub status_of_revoked : (line rest : List ℕ) (first : ℕ) (found : Option (Status × List ℕ)) → line ≡ first ∷ rest → first ≡ 82
    → found ≡ either (option_map (with_status status.RevokedKey) (after_prefix (codes "REVKEYSIG ") line)) None → found ≡ status_of line
status_of_revoked line rest first found is same says =
    let at = cons_of_head_eq 82 first line rest is same in
    says ∙ ap (λ it. either (option_map (with_status status.RevokedKey) (after_prefix (codes "REVKEYSIG ") it)) None) at
    ∙ either_none (option_map (with_status status.RevokedKey) (after_prefix (codes "REVKEYSIG ") (82 ∷ rest))) ∙ sym (ap status_of at)

-- with another first byte, or none, no keyword matches
false_of_not_true : (t : Bool) → ¬ (t ≡ true) → t ≡ false
false_of_not_true true other = absurd (other refl)
false_of_not_true false other = refl

after_prefix_none_of_other_byte : (byte first : ℕ) (token rest : List ℕ) → first ≢ byte → after_prefix (byte ∷ token) (first ∷ rest) ≡ None
after_prefix_none_of_other_byte byte first token rest other =
    ap (λ (t : Bool). cond (t && pointwise nat_eq token (take (length token) rest)) (Some (drop (length token) rest)) None)
    (false_of_not_true (nat_eq byte first) (λ yes. other (sym (eqb-true byte first yes))))

no_status_of_six_nones : (a b c d e f : Option (List ℕ)) → a ≡ None → b ≡ None → c ≡ None → d ≡ None → e ≡ None → f ≡ None
    → None ≡ either (option_map (with_status status.Good) a) (either (option_map (with_status status.Bad) b)
    (either (either (option_map (with_status status.Error) c) (either (option_map (with_status status.Expired) d)
    (option_map (with_status status.ExpiredKey) e))) (option_map (with_status status.RevokedKey) f)))
no_status_of_six_nones None None None None None None p q r s t u = refl
no_status_of_six_nones (Some a) b c d e f p q r s t u = absurd (cc p)
no_status_of_six_nones None (Some b) c d e f p q r s t u = absurd (cc q)
no_status_of_six_nones None None (Some c) d e f p q r s t u = absurd (cc r)
no_status_of_six_nones None None None (Some d) e f p q r s t u = absurd (cc s)
no_status_of_six_nones None None None None (Some e) f p q r s t u = absurd (cc t)
no_status_of_six_nones None None None None None (Some f) p q r s t u = absurd (cc u)

pub status_of_other_byte : (line rest : List ℕ) (first : ℕ) → line ≡ first ∷ rest → first ≢ 71 → first ≢ 66 → first ≢ 69 → first ≢ 82 → None ≡ status_of line
status_of_other_byte line rest first is good bad error revoked =
    no_status_of_six_nones (after_prefix (codes "GOODSIG ") (first ∷ rest)) (after_prefix (codes "BADSIG ") (first ∷ rest))
    (after_prefix (codes "ERRSIG ") (first ∷ rest))
    (after_prefix (codes "EXPSIG ") (first ∷ rest)) (after_prefix (codes "EXPKEYSIG ") (first ∷ rest))
    (after_prefix (codes "REVKEYSIG ") (first ∷ rest))
    (after_prefix_none_of_other_byte 71 first (codes "OODSIG ") rest good) (after_prefix_none_of_other_byte 66 first (codes "ADSIG ") rest bad)
    (after_prefix_none_of_other_byte 69 first (codes "RRSIG ") rest error)
    (after_prefix_none_of_other_byte 69 first (codes "XPSIG ") rest error) (after_prefix_none_of_other_byte 69 first (codes "XPKEYSIG ") rest error)
    (after_prefix_none_of_other_byte 82 first (codes "EVKEYSIG ") rest revoked)
    ∙ sym (ap status_of is)

pub status_of_nil : (line : List ℕ) → length line ≡ 0 → None ≡ status_of line
status_of_nil [] empty = refl
status_of_nil (byte ∷ line) empty = absurd (cc empty)

-- with another first byte, or none, the keyword `VALIDSIG` doesn't match
pub no_validsig_of_other_byte : (line rest : List ℕ) (first : ℕ) (before : Option (List ℕ)) → line ≡ first ∷ rest → first ≢ 86
    → before ≡ either (after_prefix (codes "VALIDSIG ") line) before
no_validsig_of_other_byte line rest first before is other =
    sym (ap (λ it. either (after_prefix (codes "VALIDSIG ") it) before) is
    ∙ ap (λ it. either it before) (after_prefix_none_of_other_byte 86 first (codes "ALIDSIG ") rest other))

pub no_validsig_of_nil : (line : List ℕ) (before : Option (List ℕ)) → length line ≡ 0 → before ≡ either (after_prefix (codes "VALIDSIG ") line) before
no_validsig_of_nil [] before empty = refl
no_validsig_of_nil (byte ∷ line) before empty = absurd (cc empty)
