use Rattle.std.proofs.Common.{◌≡◌, inl, inr, refl, subst, sym}
use Rattle.gix_object.specs.Hash.{id_kind}
use Rattle.gix_object.specs.hash.hash.kind.Kind.{Kind}
use Rattle.gixobj_examples_audits.specs.Canonical.{IsCanonicalRoot}
use Rattle.gixobj_examples_audits.proofs.mirrors.is_mirrored.Goals as goal

pub returns-in-Ok-false-clause-error : goal.returns-in-Ok-false-clause-error
returns-in-Ok-false-clause-error g c = (
  c.have_same_kind.ensures.0 c.if-not-have_same_kind.false,
  inl (
    refl,
    λ trees fits is.
        let yes = ((c.in-Ok-false.ensures {u = tt}).canonical trees fits).1 is in
        let otherwise = c.in-Ok-false.field-0-test in
        absurd (cc (yes, otherwise)),
  ),
)

pub returns-in-Ok-false-is_canonical-clause-error : goal.returns-in-Ok-false-is_canonical-clause-error
returns-in-Ok-false-is_canonical-clause-error g c = (
  c.have_same_kind.ensures.0 c.if-not-have_same_kind.false,
  inr (
    refl,
    (λ trees fits. ((c.in-Ok-true.ensures {u = tt}).canonical trees fits).0 c.in-Ok-true.field-0-test),
    λ trees fits is.
        let yes = ((c.in-Ok-false-is_canonical.ensures {u = tt}).canonical trees fits).1 is in
        let otherwise = c.in-Ok-false-is_canonical.field-0-test in
        absurd (cc (yes, otherwise)),
  ),
)

pub returns-in-Err-clause-error : goal.returns-in-Err-clause-error
returns-in-Err-clause-error g c = (c.have_same_kind.ensures.0 c.if-not-have_same_kind.false, (c.in-Err.ensures {u = tt}).error)

pub returns-in-Err-is_canonical-clause-error : goal.returns-in-Err-is_canonical-clause-error
returns-in-Err-is_canonical-clause-error g c = (
  c.have_same_kind.ensures.0 c.if-not-have_same_kind.false,
  (λ trees fits. ((c.in-Ok-true.ensures {u = tt}).canonical trees fits).0 c.in-Ok-true.field-0-test),
  (c.in-Err-is_canonical.ensures {u = tt}).error,
)

pub returns-clause-same : goal.returns-clause-same
returns-clause-same g c = λ trees fits others its T U shared in_t in_u both.
    let one = ((c.in-Ok-true.ensures {u = tt}).canonical trees fits).0 c.in-Ok-true.field-0-test in
    let other = ((c.in-Ok-true-is_canonical.ensures {u = tt}).canonical others its).0 c.in-Ok-true-is_canonical.field-0-test in
    let kinds : id_kind c.args.root ≡ id_kind c.args.copy = c.have_same_kind.ensures.0 c.if-not-have_same_kind.false in
    let law = c.equal_files_have_equal_ids.ensures T U shared trees others (id_kind c.args.root) c.args.depth c.args.depth c.args.root c.args.copy in_t in_u
    both one (subst (λ (kind : Kind). IsCanonicalRoot others kind c.args.depth c.args.copy) (sym kinds) other) in
    ((λ yes. law.0 (c.is_same_id.ensures.0 yes)), λ same. c.is_same_id.ensures.1 (law.1 same))
