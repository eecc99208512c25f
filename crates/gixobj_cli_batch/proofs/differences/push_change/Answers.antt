use Rattle.bstr.specs.Owned.{bstring_bytes}
use Rattle.std.proofs.Common.{◌≡◌, ◌++◌, ◌∙◌, List, ap, map, subst, ℕ}
use Rattle.gixobj_cli_batch.specs.Lines.{change_line, path_bytes}
use Rattle.gixobj_listings.specs.Changes.{ChangeView}
use Rattle.gixobj_cli_batch.proofs.Appended.{change_line_of_parts}
use Rattle.gixobj_cli_batch.proofs.differences.push_change.Goals as goal

pub returns : goal.returns
returns c =
    let letter = c.in_ok-extend_from_slice.ensures.items ∙ ap (λ (bytes : List ℕ). c.push_ids.new.lines.items ++ bytes) c.letter_of.ensures in
    let path = c.in_ok-push_path.ensures ∙ ap (λ names. c.push.new.self.items ++ path_bytes (map bstring_bytes names)) c.deref.ensures.value in
    subst (λ (change : ChangeView). c.push-2.new.self.items ≡ c.args.lines.now.items ++ change_line change) c.change.view_is
    (change_line_of_parts _ _ _ _ _ _ _ _ _ _ c.in_ok-push_modes.ensures c.in_ok-push_ids.ensures letter c.in_ok-push.ensures.items path
    c.in_ok-push-2.ensures.items)
