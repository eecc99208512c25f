-- Exactly the selected commits are marked, and each is read, so that they can be listed.
use Rattle.std.proofs.Common.{◌∙◌, ap, length}
use Rattle.gixobj_walks_known.proofs.Listed.{errors_of_list, lists_walk, marked_are_reached, marks_of_chosen}
use Rattle.gixobj_walks_known.proofs.lists.walk.Goals as goal

pub list_in_order-requires-clause-reached : goal.list_in_order-requires-clause-reached
list_in_order-requires-clause-reached c =
    let marks = marks_of_chosen c.args.nodes.now c.args.tips.now c.args.hidden.now c.in_ok-left.left.items c.in_ok-right.right.items
    c.in_ok-chosen.chosen.items c.deref.result.now c.deref-2.result.now c.deref-3.result.now c.deref.ensures.value
    c.deref-2.ensures.value c.deref-3.ensures.value c.in_ok-left.ensures.marks c.in_ok-right.ensures.marks
    c.in_ok-chosen.ensures.selected in
    let lengths = ap length c.deref-3.ensures.value ∙ c.in_ok-chosen.ensures.length ∙ ap length c.deref.ensures.value
    ∙ c.in_ok-left.ensures.length in
    marked_are_reached c.args.nodes.now c.args.tips.now c.args.hidden.now c.deref-3.result.now marks c.requires.known lengths

pub returns-clause-walk : goal.returns-clause-walk
returns-clause-walk c =
    let marks = marks_of_chosen c.args.nodes.now c.args.tips.now c.args.hidden.now c.in_ok-left.left.items c.in_ok-right.right.items
    c.in_ok-chosen.chosen.items c.deref.result.now c.deref-2.result.now c.deref-3.result.now c.deref.ensures.value
    c.deref-2.ensures.value c.deref-3.ensures.value c.in_ok-left.ensures.marks c.in_ok-right.ensures.marks
    c.in_ok-chosen.ensures.selected in
    let lengths = ap length c.deref-3.ensures.value ∙ c.in_ok-chosen.ensures.length ∙ ap length c.deref.ensures.value
    ∙ c.in_ok-left.ensures.length in
    lists_walk c.args.nodes.now c.args.tips.now c.args.hidden.now c.deref-3.result.now marks c.requires.known lengths c.args.order
    c.list_in_order.result c.list_in_order.ensures.listing c.list_in_order.ensures.exact

pub returns-clause-error : goal.returns-clause-error
returns-clause-error c =
    let marks = marks_of_chosen c.args.nodes.now c.args.tips.now c.args.hidden.now c.in_ok-left.left.items c.in_ok-right.right.items
    c.in_ok-chosen.chosen.items c.deref.result.now c.deref-2.result.now c.deref-3.result.now c.deref.ensures.value
    c.deref-2.ensures.value c.deref-3.ensures.value c.in_ok-left.ensures.marks c.in_ok-right.ensures.marks
    c.in_ok-chosen.ensures.selected in
    let lengths = ap length c.deref-3.ensures.value ∙ c.in_ok-chosen.ensures.length ∙ ap length c.deref.ensures.value
    ∙ c.in_ok-left.ensures.length in
    errors_of_list c.args.nodes.now c.args.tips.now c.args.hidden.now c.deref-3.result.now marks c.requires.known lengths
    c.list_in_order.result c.list_in_order.ensures.error
