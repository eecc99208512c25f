use Rattle.std.proofs.Common.{◌≡◌, ◌∙◌, ℕ, Bool, true, false, cond, List, [], ◌∷◌, Option, Some, None, refl, ap}
use Rattle.std.specs.Prelude.{◌||◌, is_some}
use Rattle.std.specs.List.{find, list_any}
use Rattle.std.specs.Option.{option_copied}
use denote.Ref.{Bor}
use Rattle.gixobj_editor_files.specs.Editing.{has_tree}
use Rattle.gixobj_editor_open.proofs.open.has_tree_named.Goals as goal

is_some_find : {X : Type 0} (p : X → Bool) (xs : List X) → is_some (find p xs) ≡ list_any p xs
is_some_find p [] = refl
is_some_find p (x ∷ xs) = elim (p x) as (λ b. is_some (cond b (Some x) (find p xs)) ≡ (b || list_any p xs))
    [ true ↦ refl | false ↦ is_some_find p xs ]

is_some_copied : {X : Type 0} (r : Option (Bor X)) → is_some r ≡ is_some (option_copied r)
is_some_copied None = refl
is_some_copied (Some x) = refl

pub returns : goal.returns
returns c = c.is_some.ensures ∙ is_some_copied c.find_tree.result ∙ ap is_some c.find_tree.ensures ∙ is_some_find _ c.args.entries.now
    ∙ ap (λ (name : List ℕ). has_tree name c.args.entries.now) c.as_bytes.ensures
