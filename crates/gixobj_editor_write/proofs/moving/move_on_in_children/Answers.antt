use Rattle.std.proofs.Common.{◌≡◌, ◌∙◌, List, ap}
use Rattle.std.specs.List.{flat_map}
use Rattle.std.specs.Vec.{with_items}
use Rattle.std.specs.declared.alloc.Global.{Global}
use Rattle.std.specs.declared.vec.Vec.{Vec}
use Rattle.std.proofs.lemmas.List.{with_items_is}
use Rattle.gixobj_editor_write.specs.Moves.{moved_on, moved_out}
use Rattle.gixobj_editor_open.specs.Nested.{Opened, parts}
use Rattle.gixobj_editor_open.specs.declared.open.Child.{Child}
use Rattle.gixobj_editor_write.proofs.Moves.{moved_on_joined, moved_out_joined}
use Rattle.gixobj_editor_write.proofs.moving.move_on_in_children.Goals as goal

pub returns-clause-moved : goal.returns-clause-moved
returns-clause-moved c =
    let first = c.args.first in
    let cs = c.args.children.now.first.items in
    let new = c.move_on_in_piece-next.new.children in
    let pieces = c.move_on_in_pieces.new.pieces in
    let next = c.move_on_in_piece-next.result in
    let is = ap parts (with_items_is c.args.children.now.first new (c.move_on_in_piece-next.auto.children ∙ c.deref_mut.ensures.len))
    ∙ c.move_on_in_piece-next.ensures.moved ∙ ap (λ (l : List Child). moved_on first (parts l)) c.deref_mut.ensures.value in
    let next_is : next ≡ moved_out first (parts cs) =
    c.move_on_in_piece-next.ensures.last ∙ ap (λ (l : List Child). moved_out first (parts l)) c.deref_mut.ensures.value in
    let others = ap (λ (ps : List (Vec Child Global)). parts (flat_map (λ (p : Vec Child Global). p.items) ps))
    (with_items_is c.args.children.now.more pieces (c.move_on_in_pieces.auto.pieces ∙ c.deref_mut-2.ensures.len))
    ∙ c.move_on_in_pieces.ensures.moved
    ∙ ap (λ (ps : List (Vec Child Global)). moved_on next (parts (flat_map (λ (p : Vec Child Global). p.items) ps))) c.deref_mut-2.ensures.value
    ∙ ap (λ (ds : Opened). moved_on ds (parts (flat_map (λ (p : Vec Child Global). p.items) c.args.children.now.more.items))) next_is in
    moved_on_joined first cs (with_items c.args.children.now.first new).items c.args.children.now.more.items
    (with_items c.args.children.now.more pieces).items is others

pub returns-clause-last : goal.returns-clause-last
returns-clause-last c =
    let first = c.args.first in
    let cs = c.args.children.now.first.items in
    let more = c.args.children.now.more.items in
    let next = c.move_on_in_piece-next.result in
    let next_is : next ≡ moved_out first (parts cs) =
    c.move_on_in_piece-next.ensures.last ∙ ap (λ (l : List Child). moved_out first (parts l)) c.deref_mut.ensures.value in
    c.move_on_in_pieces.ensures.last
    ∙ ap (λ (ps : List (Vec Child Global)). moved_out next (parts (flat_map (λ (p : Vec Child Global). p.items) ps))) c.deref_mut-2.ensures.value
    ∙ ap (λ (ds : Opened). moved_out ds (parts (flat_map (λ (p : Vec Child Global). p.items) more))) next_is
    ∙ moved_out_joined first cs more
