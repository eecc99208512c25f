-- The root is open.
use Rattle.std.proofs.Common.{◌≢◌, List, None, subst, sym}
use Rattle.bstr.specs.declared.bstring.BString.{BString}
use Rattle.gixobj_editor_open.specs.Paths.{names_of}
use Rattle.gixobj_editor.proofs.Edited.{map_is_opened, map_dirs}
use Rattle.gixobj_editor.proofs.editor.Editor.to_cursor.Goals as goal

pub invariant_of-result : goal.invariant_of-result
invariant_of-result g c =
    record {
      is_open = subst (λ (l : List BString). map_dirs c.self.inside.root (names_of l) ≢ None) (sym c.clear.ensures.items)
          (map_is_opened c.self.inside.root c.self.invariant.opened).root;
    }
