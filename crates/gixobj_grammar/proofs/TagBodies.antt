-- Lemmas that the body of a tag splits at its marker, for the decoder of bodies and for entire tags.
use Rattle.std.proofs.Common.{◌≡◌, ◌≢◌, ◌+◌, ◌-◌, ℕ, List, [], ◌∷◌, ◌++◌, Option, Some, None, IsFalse, IsTrue, append_assoc, ap, arith, drop, inl, inr, length}
use Rattle.std.proofs.Common.{length-append, subst, sym, take, ◌∙◌}
use Rattle.std.proofs.Math.Seq.{drop-append_seam, take-append_seam}
use Rattle.std.proofs.lemmas.Bool.{true≢false}
use Rattle.std.proofs.lemmas.List.{take_rest}
use Rattle.gixobj_parse.specs.Markers.{HasNoMarker, IsMarkerPlace, StartsLine}
use Rattle.gixobj_parse.specs.declared.signature.Format.{Format}
use Rattle.gixobj_grammar.specs.TagBodies.{IsMalformedBody, IsBody, IsParted, are_newlines, after_a_newline, newlines_alone, signed, signed_at_once, unsigned}

-- ---- bytes split at their marker

pub is_parted_unsigned : (bytes message : List ℕ) → message ≡ bytes → HasNoMarker bytes → IsParted bytes message None
is_parted_unsigned bytes message same none = subst (λ (it : List ℕ). IsParted bytes it None) (sym same) (unsigned bytes none)

pub is_parted_at_start : (bytes message signature : List ℕ) (position : ℕ) (format : Format) → IsMarkerPlace bytes position format → position ≡ 0 → message ≡ []
    → signature ≡ bytes → IsParted bytes message (Some signature)
is_parted_at_start bytes message signature position format is start bare same =
    let at : IsMarkerPlace bytes 0 format = subst (λ (it : ℕ). IsMarkerPlace bytes it format) start is in
    rw (bare, same) (signed_at_once bytes format at)

-- a marker after the first line begins the signature
is_parted_after_lines : (bytes message signature lines rest : List ℕ) (position : ℕ) (format : Format) → IsMarkerPlace bytes position format
    → bytes ≡ lines ++ 10 ∷ rest
    → position ≡ length lines + 1
    → message ≡ take (position - 1) bytes → signature ≡ take (length bytes - position) (drop position bytes) → IsParted bytes message (Some signature)
is_parted_after_lines bytes message signature lines rest position format is joined at head after =
    let count : position - 1 ≡ length lines = omega (arith, at) in
    let same_message : message ≡ lines = head ∙ ap (λ (it : ℕ). take it bytes) count ∙ ap (take (length lines)) joined ∙ take-append_seam lines
    (10 ∷ rest) in
    let flat : bytes ≡ (lines ++ 10 ∷ []) ++ rest = joined ∙ sym (append_assoc lines (10 ∷ []) rest) in
    let long : position ≡ length (lines ++ 10 ∷ []) = at ∙ sym (length-append lines (10 ∷ [])) in
    let same_rest : signature ≡ rest = after ∙ take_rest bytes position ∙ ap (λ (it : ℕ). drop it bytes) long
    ∙ ap (drop (length (lines ++ 10 ∷ []))) flat
    ∙ drop-append_seam (lines ++ 10 ∷ []) rest in
    let here : IsMarkerPlace bytes (length lines + 1) format = subst (λ (it : ℕ). IsMarkerPlace bytes it format) at is in
    rw (same_message, same_rest) (signed bytes lines rest format joined here)

-- a marker after nothing, or after lines, begins the signature
is_parted_of_starts_line : (bytes message signature head rest : List ℕ) (position : ℕ) (format : Format) → IsMarkerPlace bytes position format
    → (position ≡ 0 → ⊥)
    → message ≡ take (position - 1) bytes
    → signature ≡ take (length bytes - position) (drop position bytes) → bytes ≡ head ++ rest → length head ≡ position → StartsLine head
    → IsParted bytes message (Some signature)
is_parted_of_starts_line bytes message signature head rest position format is later before after joined long (inl bare) =
    absurd (later (sym long ∙ ap length bare))
is_parted_of_starts_line bytes message signature head rest position format is later before after joined long (inr (lines, ends)) =
    let flat : bytes ≡ lines ++ 10 ∷ rest = joined ∙ ap (λ (it : List ℕ). it ++ rest) ends ∙ append_assoc lines (10 ∷ []) rest in
    is_parted_after_lines bytes message signature lines rest position format is flat (sym long ∙ ap length ends ∙ length-append lines (10 ∷ [])) before after

pub is_parted_at_marker : (bytes message signature : List ℕ) (position : ℕ) (format : Format) → IsMarkerPlace bytes position format → (position ≡ 0 → ⊥)
    → message ≡ take (position - 1) bytes → signature ≡ take (length bytes - position) (drop position bytes)
    → IsParted bytes message (Some signature)
is_parted_at_marker bytes message signature position format is later before after =
    is_parted_of_starts_line bytes message signature is.here.prefix is.here.rest position format is later before after is.here.joined is.here.as_long
    is.here.starts

-- ---- bodies

pub is_body_of_newlines : (body message : List ℕ) → IsTrue (are_newlines body) → message ≡ body → IsBody body message None
is_body_of_newlines body message are same = subst (λ (it : List ℕ). IsBody body it None) (sym same) (newlines_alone body are)

pub is_body_after_newline : (body bytes message : List ℕ) (signature : Option (List ℕ)) → IsFalse (are_newlines body) → body ≡ 10 ∷ bytes
    → IsParted bytes message signature → IsBody body message signature
is_body_after_newline body bytes message signature more joined parted =
    let after : IsFalse (are_newlines (10 ∷ bytes)) = subst (λ (it : List ℕ). IsFalse (are_newlines it)) joined more in
    after_a_newline body bytes message signature joined after parted

pub no_body_of_other_byte : (body : List ℕ) → IsFalse (are_newlines body) → ((rest : List ℕ) → body ≢ 10 ∷ rest) → IsMalformedBody body
no_body_of_other_byte body more other message signature (newlines_alone _ are) = true≢false (sym are ∙ more)
no_body_of_other_byte body more other message signature (after_a_newline _ bytes _ _ joined after parted) = other bytes joined
