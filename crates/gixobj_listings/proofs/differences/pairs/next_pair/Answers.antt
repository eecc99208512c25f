use Rattle.std.proofs.Common.{◌≡◌, ◌∙◌, ◌∷◌, ap, refl, rules, sym}
use Rattle.std.specs.Cmp.Lexicographic.{slice_cmp}
use Rattle.std.specs.Ordering.{nat_cmp}
use Rattle.std.specs.declared.cmp.Ordering.TheVariants.{Equal, Greater}
use Rattle.gix_object.specs.Entries.{EntryView}
use Rattle.gix_object.specs.KeyOrder.{entry_key}
use Rattle.gixobj_listings.proofs.PairSteps.{next_pair_of_equal, next_pair_of_greater}
use Rattle.gixobj_listings.proofs.differences.pairs.next_pair.Goals as goal

pub returns-in-Greater-clause-next : goal.returns-in-Greater-clause-next
returns-in-Greater-clause-next c =
    let before = c.in-Some-Some.before.now in
    let after = c.in-Some-Some.after.now in
    let left_is : c.args.left.now ≡ before ∷ c.in-Some-Some.left_more.now = search rules in
    let right_is : c.args.right.now ≡ after ∷ c.in-Some-Some.right_more.now = search rules in
    let order : slice_cmp nat_cmp (entry_key before) (entry_key after) ≡ Greater = sym c.order_of.ensures ∙ c.in-Greater.is in
    next_pair_of_greater c.args.left.now c.args.right.now before after c.in-Some-Some.left_more.now c.in-Some-Some.right_more.now
    c.after_alone-in-Greater.result
    left_is right_is order c.after_alone-in-Greater.ensures

pub returns-in-Equal-clause-next : goal.returns-in-Equal-clause-next
returns-in-Equal-clause-next c =
    let before = c.in-Some-Some.before.now in
    let after = c.in-Some-Some.after.now in
    let left_is : c.args.left.now ≡ before ∷ c.in-Some-Some.left_more.now = search rules in
    let right_is : c.args.right.now ≡ after ∷ c.in-Some-Some.right_more.now = search rules in
    let order : slice_cmp nat_cmp (entry_key before) (entry_key after) ≡ Equal = sym c.order_of.ensures ∙ c.in-Equal.is in
    next_pair_of_equal c.args.left.now c.args.right.now before after c.in-Some-Some.left_more.now c.in-Some-Some.right_more.now _ left_is right_is order
    c.requires.left_names c.requires.right_names (ap (λ (y : EntryView). y.name) c.before-in-Some-Some.view_is) refl refl refl
