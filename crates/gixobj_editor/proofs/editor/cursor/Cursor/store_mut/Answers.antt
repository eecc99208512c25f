-- The directory at the prefix is open for every store.
use Rattle.std.proofs.Common.{◌≢◌, None, ap, refl}
use denote.Ref.{at_last}
use Rattle.gixobj_editor_files.specs.State.{open_dirs, with_store}
use Rattle.gixobj_editor.specs.declared.editor.cursor.Cursor.{Cursor}
use Rattle.gixobj_editor.proofs.editor.cursor.Cursor.store_mut.Goals as goal

pub returns : goal.returns
returns g c = (
  (
    refl,
    λ w.
        let old = c.args.self.now in
        let at : (p : open_dirs old.editor.now old.editor.now.prefix ≢ None) → Cursor g.row.S.Denot =
        λ p. record { editor = at_last old.editor (with_store old.editor.now w); lent_back = old.lent_back; is_open = p } in
        let one : IsProp (open_dirs old.editor.now old.editor.now.prefix ≢ None) = hlevel in
        ap at (one _ _),
  ),
  record { writes_back = tt; value = c.store_mut.ensures.value },
)
