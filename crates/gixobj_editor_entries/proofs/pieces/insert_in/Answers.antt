use Rattle.std.proofs.Common.{◌≡◌, ◌∙◌, ◌+◌, is_ok, true, subst, arith}
use Rattle.std.specs.Prelude.{vec_len}
use Rattle.gixobj_editor_entries.specs.Pieces.{HasGap, item_key, other_key}
use Rattle.gixobj_editor_entries.proofs.OnePiece.{insert_of_own_none, set_of_own_found}
use Rattle.gixobj_editor_entries.proofs.pieces.insert_in.Goals as goal

pub returns-in-Ok-clause-items : goal.returns-in-Ok-clause-items
returns-in-Ok-clause-items g c =
    let seen = c.in-Ok.ensures {u = tt} in
    set_of_own_found g.T.Named.name_of g.T.Named.is_tree_of c.args.item c.deref.result.now c.args.piece.now.items c.name.result.now c.is_tree.result
    c.deref.ensures.value c.name.ensures c.is_tree.ensures c.in-Ok.index c.requires.ascending seen.position seen.within seen.found

pub returns-in-Err-clause-items : goal.returns-in-Err-clause-items
returns-in-Err-clause-items g c =
    let seen = c.in-Err.ensures {u = tt} in
    let ok : is_ok c.insert.result ≡ true = c.insert.ensures.succeeds (omega (arith, c.requires.has_capacity)) in
    (rw ok at c.insert.ensures.items)
    ∙ insert_of_own_none g.T.Named.name_of g.T.Named.is_tree_of c.args.item c.deref.result.now c.args.piece.now.items c.name.result.now c.is_tree.result
    c.deref.ensures.value c.name.ensures c.is_tree.ensures c.in-Err.index c.requires.ascending seen.position seen.none

pub returns-in-Err-clause-len : goal.returns-in-Err-clause-len
returns-in-Err-clause-len g c =
    let ok : is_ok c.insert.result ≡ true = c.insert.ensures.succeeds (omega (arith, c.requires.has_capacity)) in
    let is : vec_len c.insert.new.self ≡ vec_len c.args.piece.now + 1 = rw ok at c.insert.ensures.len in
    omega (arith, is)

pub returns-in-Ok-clause-alone : goal.returns-in-Ok-clause-alone
returns-in-Ok-clause-alone g c = λ yes.
    let key = item_key g.T.Named.name_of g.T.Named.is_tree_of in
    subst (λ l. HasGap key (other_key g.T.Named.name_of g.T.Named.is_tree_of c.args.item) l c.args.before c.args.after) c.deref-in-Ok.ensures.value
    (c.is_alone_in-is_alone.ensures yes)

pub returns-in-Err-clause-alone : goal.returns-in-Err-clause-alone
returns-in-Err-clause-alone g c = λ yes.
    let key = item_key g.T.Named.name_of g.T.Named.is_tree_of in
    subst (λ l. HasGap key (other_key g.T.Named.name_of g.T.Named.is_tree_of c.args.item) l c.args.before c.args.after) c.deref-in-Err.ensures.value
    (c.is_alone_in-is_alone-in-Err.ensures yes)
