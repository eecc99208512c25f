-- The content of a loose object follows its header.
use Rattle.std.proofs.Common.{◌≡◌, ◌≤◌, ◌-◌, ◌++◌, ◌∙◌, ℕ, List, ap, drop, length, subst, sym, take}
use Rattle.std.proofs.lemmas.List.{length-take-le, take-append-drop, take_rest}
use Rattle.gixobj_hash.specs.Decode.{BeginsWithLooseHeader, HasContent, HasLooseHeaderOfLength}
use Rattle.gixobj_hash.specs.declared.kind.Kind.{Kind}

-- the input after a decoded header is the rest that follows the header
pub begins_with_header_of_rest : (input : List ℕ) (kind : Kind) (size used : ℕ)
    → HasLooseHeaderOfLength input kind size used → BeginsWithLooseHeader input kind size (take (length input - used) (drop used input))
begins_with_header_of_rest input kind size used has = rw (take_rest input used) (take used input, sym (take-append-drop used input), has.1)

-- the prefix of the rest whose length the header states is the content
pub has_content_of_header : (input : List ℕ) (kind : Kind) (size : ℕ) (after content : List ℕ)
    → BeginsWithLooseHeader input kind size after → size ≤ length after → content ≡ take size after → HasContent input kind content
has_content_of_header input kind size after content begins fits is =
    let rest : List ℕ = drop size after in
    let said : length content ≡ size = ap length is ∙ length-take-le size after fits in
    let joined : content ++ rest ≡ after = ap (λ it. it ++ rest) is ∙ take-append-drop size after in (
      rest,
      subst (λ (n : ℕ). BeginsWithLooseHeader input kind n (content ++ rest)) (sym said)
          (subst (λ (it : List ℕ). BeginsWithLooseHeader input kind size it) (sym joined) begins),
    )
