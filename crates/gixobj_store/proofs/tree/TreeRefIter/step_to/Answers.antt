use Rattle.std.proofs.Common.{◌≡◌, ◌≢◌, ◌∷◌, [], Bool, List, ap, refl, subst, sym}
use Rattle.std.specs.Prelude.{MatchBool}
use Rattle.gixobj_tree_entries.specs.EntryViews.{entry_view}
use Rattle.gixobj_store.specs.EntrySteps.{remaining_tree_bytes}
use Rattle.gixobj_store.specs.Lookups.{HasNoEntryNamed, Name}
use Rattle.gixobj_store.proofs.tree.TreeRefIter.step_to.Goals as goal

pub returns-in_default : goal.returns-in_default
returns-in_default c others last name more same =
    let here : c.args.name.now ≡ name = cc same in
    subst (λ (it : Name). HasNoEntryNamed c.args.self.hash_kind (remaining_tree_bytes c.args.self) it) here c.in_default.ensures.none

pub returns-then-is_last : goal.returns-then-is_last
returns-then-is_last c others last =
    let none = subst (λ (it : Bool). MatchBool it (others ≡ []) (others ≢ [])) c.if-is_last.true last in
    (c.args.name.now, ap (λ (it : List Name). c.args.name.now ∷ it) none, c.in-Some.ensures.found)

pub returns-else-is_last : goal.returns-else-is_last
returns-else-is_last c others last =
    let some = subst (λ (it : Bool). MatchBool it (others ≡ []) (others ≢ [])) c.if-is_last.false last in
    (c.args.name.now, others, entry_view c.in-Some.entry, refl, some, c.in-Some.ensures.found, sym c.to_owned.ensures)
