-- A single empty name means the root.
use Rattle.std.proofs.Common.{◌≡◌, subst}
use Rattle.std.specs.Prelude.{IfErr, OnOk}
use Rattle.gixobj_editor_files.specs.Files.{Path, Trees}
use Rattle.gixobj_editor_files.specs.Edits.{IsNoTree}
use Rattle.gixobj_editor_files.specs.State.{open_dirs}
use Rattle.gixobj_editor_files.specs.Unopened.{with_empty_name}
use Rattle.gixobj_editor_lookups.specs.Openings.{AreTreesOf}
use Rattle.gixobj_editor.specs.Cursors.{IsEnsured, IsCursorError}
use Rattle.gixobj_editor.specs.FailedEdits.{HasCountedIn, IsAfterFailedEdit}
use Rattle.gixobj_editor.proofs.editor.Editor.open_prefix.Goals as goal

pub returns-clause-prefix : goal.returns-clause-prefix
returns-clause-prefix g c = subst (λ (p : Path). OnOk c.ensure_directory.result (c.ensure_directory.new.self.prefix ≡ p)) c.cursor_path_of.ensures
    c.ensure_directory.ensures.prefix

pub returns-clause-ensured : goal.returns-clause-ensured
returns-clause-ensured g c =
    subst (λ (p : Path). OnOk c.ensure_directory.result ((trees : Trees) → AreTreesOf (g.S.Store.objects c.args.self.now.store) trees
    → IsEnsured trees c.args.self.now p c.ensure_directory.new.self)) c.cursor_path_of.ensures c.ensure_directory.ensures.ensured

pub returns-clause-after_error : goal.returns-clause-after_error
returns-clause-after_error g c =
    subst (λ (p : Path). IfErr c.ensure_directory.result (λ error. (trees : Trees) → AreTreesOf (g.S.Store.objects c.args.self.now.store) trees
    → IsAfterFailedEdit (record { objects = g.S.Store.objects; may_fail = g.S.Store.may_fail }) trees c.args.self.now (with_empty_name p) error
    c.ensure_directory.new.self)) c.cursor_path_of.ensures
    c.ensure_directory.ensures.after_error

pub returns-clause-error : goal.returns-clause-error
returns-clause-error g c =
    subst
    (λ (p : Path). IfErr c.ensure_directory.result (λ error. (trees : Trees) → AreTreesOf (g.S.Store.objects c.args.self.now.store) trees
    → IsCursorError (g.S.Store.objects c.args.self.now.store) (g.S.Store.may_fail c.args.self.now.store) trees (open_dirs c.args.self.now) p error))
    c.cursor_path_of.ensures c.ensure_directory.ensures.error

pub returns-clause-lookups : goal.returns-clause-lookups
returns-clause-lookups g c =
    subst (λ (p : Path). IfErr c.ensure_directory.result (HasCountedIn g.S.Store.objects IsNoTree c.args.self.now (with_empty_name p)
    c.ensure_directory.new.self)) c.cursor_path_of.ensures c.ensure_directory.ensures.lookups
