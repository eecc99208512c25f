-- The trees that the directory at the prefix emits are those of the write's result.
use Rattle.std.proofs.Common.{◌≢◌, ◌∙◌, List, Err, None, Ok, ap, subst, sym}
use Rattle.std.specs.Prelude.{IfErr}
use Rattle.std.specs.Fn.{CalledAt}
use Rattle.gixobj_editor_open.specs.Paths.{names_of}
use Rattle.gixobj_editor_write.specs.WriteErrors.{IsWriteError}
use Rattle.gixobj_editor_open.specs.Nested.{bases_of, dirs_of}
use Rattle.gixobj_editor_files.specs.Files.{Path}
use Rattle.gixobj_editor_files.specs.Edits.{only_open, with_path}
use Rattle.gixobj_editor_files.specs.Emission.{EmitsSome, Saves}
use Rattle.gixobj_editor_files.specs.Opening.{Dirs, in_path}
use Rattle.gixobj_editor_files.specs.State.{State, open_bases, open_dirs}
use Rattle.gixobj_editor.proofs.Edited.{if_ok_and, map_dirs, map_bases_eq, map_dirs_eq}
use Rattle.gixobj_editor.proofs.OpenedOn.{IsWrittenSo, written_below_opened_on}
use Rattle.gixobj_editor.proofs.WrittenBelow.{prefix_is_open, written_at}
use Rattle.gixobj_editor.proofs.editor.Editor.write_below.Goals as goal

pub write_at-requires-clause-is_open : goal.write_at-requires-clause-is_open
write_at-requires-clause-is_open g c =
    let s = c.self.inside in
    subst (λ (l : List _). dirs_of s.root (names_of l) ≢ None) (sym c.deref.ensures.value)
    (prefix_is_open s.store s.object_hash (names_of s.prefix.items) s.root s.lookups c.args.self.now c.self.view_is c.requires.is_open)

pub invariant_of-self : goal.invariant_of-self
invariant_of-self g c =
    let s = c.self.inside in
    let there : dirs_of s.root (names_of c.deref.result.now) ≢ None = subst (λ (l : List _). dirs_of s.root (names_of l) ≢ None) (sym c.deref.ensures.value)
    (prefix_is_open s.store s.object_hash (names_of s.prefix.items) s.root s.lookups c.args.self.now c.self.view_is c.requires.is_open) in
    written_below_opened_on c.write_at.result (names_of c.deref.result.now) s.root c.write_at.new.node
    (if_ok_and c.write_at.result _ _ (λ _. IsWrittenSo (names_of c.deref.result.now) s.root c.write_at.new.node) c.write_at.ensures.written
    c.write_at.ensures.bases
    (λ it ok edited. (ok.1, ok.5, ok.6, edited))) c.write_at.ensures.unchanged there c.self.invariant

pub returns-clause-written : goal.returns-clause-written
returns-clause-written g c = if_ok_and c.write_at.result _ _ _ c.write_at.ensures.written c.write_at.ensures.bases (λ it ok edited.
    let s = c.self.inside in
    let at = ap names_of c.deref.ensures.value in
    written_at s.store s.object_hash (names_of s.prefix.items) (λ f p h. CalledAt g.F.FnMut f p.1 (Ok p.0) h) s.root c.write_at.new.node s.lookups
    c.args.self.now c.self.view_is c.self.invariant
    (prefix_is_open s.store s.object_hash (names_of s.prefix.items) s.root s.lookups c.args.self.now c.self.view_is c.requires.is_open) it ok.0 ok.1
    c.args.out.now
    c.write_at.new.out
    (subst (λ (p : Path). Saves (in_path p (dirs_of s.root)) (in_path p (bases_of s.root)) ok.0 ok.1 it.saved) at ok.2) ok.3 ok.4 ok.5
    (λ location. ok.6 location ∙ ap (λ (p : Path). with_path p (only_open ok.1) (dirs_of s.root) location) at) edited)

pub returns-clause-error : goal.returns-clause-error
returns-clause-error g c =
    subst (λ (o : State g.row.S.Denot). IfErr c.write_at.result
    (IsWriteError (λ f p h. CalledAt g.F.FnMut f p.1 (Ok p.0) h) (λ f tree e h. CalledAt g.F.FnMut f tree (Err e) h)
    (EmitsSome (in_path o.prefix (open_dirs o)) (in_path o.prefix (open_bases o))) c.args.out.now c.write_at.new.out)) c.self.view_is
    (subst (λ (b : Dirs). IfErr c.write_at.result (IsWriteError (λ f p h. CalledAt g.F.FnMut f p.1 (Ok p.0) h)
    (λ f tree e h. CalledAt g.F.FnMut f tree (Err e) h)
    (EmitsSome (in_path (names_of c.self.inside.prefix.items) (map_dirs c.self.inside.root)) (in_path (names_of c.self.inside.prefix.items) b))
    c.args.out.now c.write_at.new.out)) (sym (map_bases_eq c.self.inside.root))
    (subst (λ (d : Dirs). IfErr c.write_at.result (IsWriteError (λ f p h. CalledAt g.F.FnMut f p.1 (Ok p.0) h)
    (λ f tree e h. CalledAt g.F.FnMut f tree (Err e) h)
    (EmitsSome (in_path (names_of c.self.inside.prefix.items) d) (in_path (names_of c.self.inside.prefix.items) (bases_of c.self.inside.root)))
    c.args.out.now c.write_at.new.out)) (sym (map_dirs_eq c.self.inside.root))
    (subst (λ (p : Path). IfErr c.write_at.result (IsWriteError (λ f p h. CalledAt g.F.FnMut f p.1 (Ok p.0) h)
    (λ f tree e h. CalledAt g.F.FnMut f tree (Err e) h)
    (EmitsSome (in_path p (dirs_of c.self.inside.root)) (in_path p (bases_of c.self.inside.root))) c.args.out.now c.write_at.new.out))
    (ap names_of c.deref.ensures.value) c.write_at.ensures.error)))
