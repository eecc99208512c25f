-- Findings that are written one after the other.
use Rattle.std.proofs.Common.{add-one, ◌≡◌, ◌+◌, ◌-◌, ◌<◌, ◌≤◌, ℕ, Bool, List, [], ◌∷◌, ◌++◌, ◌∙◌, ap, append_assoc, arith, drop, get_or, length, map}
use Rattle.std.proofs.Common.{slice_set, sym, take}
use Rattle.std.proofs.Math.Seq.{drop-cons}
use Rattle.std.proofs.lemmas.List.{length-map, length-take-le, map_more, set-append_right}
use Rattle.gixobj_c_fsck.specs.Findings.{finding_parts}
use Rattle.gixobj_c_fsck.specs.declared.findings.FindingParts.{FindingParts}
use Rattle.gixobj_fsck_messages.specs.declared.finding.Finding.{Finding}

-- the findings so far and the next are written, and the elements after them are unchanged
pub written_next : (strict : Bool) (findings : List Finding) (i : ℕ) (out old : List FindingParts) (d : Finding) (parts : FindingParts)
    → i < length findings → length findings ≤ length old → out ≡ map (finding_parts strict) (take i findings) ++ drop i old
    → parts ≡ finding_parts strict (get_or findings i d)
    → slice_set out i parts ≡ map (finding_parts strict) (take (i + 1) findings) ++ drop (i + 1) old
written_next strict findings i out old d parts within long so_far is =
    let f = finding_parts strict in
    let so = map f (take i findings) in
    let len : length so ≡ i = length-map (take i findings) f ∙ length-take-le i findings (omega arith) in
    let rest : drop i old ≡ get_or old i parts ∷ drop (i + 1) old = rw add-one (drop-cons old i parts (omega arith)) in
    let here : slice_set (so ++ drop i old) i parts ≡ so ++ slice_set (drop i old) (i - i) parts =
    set-append_right so (drop i old) i i parts len (omega arith) in
    let first : i - i ≡ 0 = omega arith in
    let set_first : slice_set (drop i old) (i - i) parts ≡ parts ∷ drop (i + 1) old =
    ap (λ (k : ℕ). slice_set (drop i old) k parts) first ∙ ap (λ (list : List FindingParts). slice_set list 0 parts) rest in
    let mapped : map f (take (i + 1) findings) ≡ so ++ parts ∷ [] =
    map_more f findings i d within ∙ ap (λ (it : FindingParts). so ++ it ∷ []) (sym is) in
    ap (λ (list : List FindingParts). slice_set list i parts) so_far ∙ here ∙ ap (λ (list : List FindingParts). so ++ list) set_first
    ∙ sym (append_assoc so (parts ∷ []) (drop (i + 1) old)) ∙ ap (λ (list : List FindingParts). list ++ drop (i + 1) old) (sym mapped)
