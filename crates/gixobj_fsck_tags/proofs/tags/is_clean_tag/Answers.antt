use Rattle.std.proofs.Common.{◌≡◌, inl, inr, rules, true}
use Rattle.gixobj_fsck_tags.proofs.CleanTags.{bad_name, clean_by_end}
use Rattle.gixobj_fsck_tags.proofs.tags.is_clean_tag.Goals as goal
use Rattle.gixobj_tag.specs.NameRule.{HasNoFault}

pub returns-in-Err : goal.returns-in-Err
returns-in-Err c = inr (c.in-Err.field-0, inl (inl c.in-Err.ensures))

pub returns-in-Err-split_name : goal.returns-in-Err-split_name
returns-in-Err-split_name c = inr (c.in-Err-split_name.field-0, inl (inr (c.in-Ok.start.now, c.in-Ok.ensures, c.in-Err-split_name.ensures)))

pub returns-then-not-is_reference_name : goal.returns-then-not-is_reference_name
returns-then-not-is_reference_name c =
    let other : ¬ HasNoFault c.in-Ok-split_name.name.now = λ (sound : HasNoFault c.in-Ok-split_name.name.now).
    (let yes : c.is_reference_name.result ≡ true = c.is_reference_name.ensures.1 sound in let not_yes = c.if-not-is_reference_name.true in cc (yes, not_yes)) in
    bad_name c.args.kind c.args.tag.now c.in-Ok.start.now c.in-Ok-split_name.name.now c.in-Ok-split_name.rest.now c.in-Ok.ensures
    c.in-Ok-split_name.ensures other

pub returns-else-not-is_reference_name : goal.returns-else-not-is_reference_name
returns-else-not-is_reference_name c =
    let yes : c.is_reference_name.result ≡ true = search rules in
    clean_by_end c.args.kind c.args.tag.now c.in-Ok.start.now c.in-Ok-split_name.name.now c.in-Ok-split_name.rest.now c.ends_with_tagger.result
    c.in-Ok.ensures c.in-Ok-split_name.ensures (c.is_reference_name.ensures.0 yes) c.ends_with_tagger.ensures
