-- The trees that the open directories emit are those of the write's result.
use Rattle.std.proofs.Common.{◌∙◌, Err, Ok, ap, subst, sym}
use Rattle.std.specs.Prelude.{IfErr}
use Rattle.std.specs.Fn.{CalledAt}
use Rattle.std.proofs.lemmas.Result.{IfOk-weaker}
use Rattle.gixobj_editor_open.specs.Paths.{names_of}
use Rattle.gixobj_editor_write.specs.WriteErrors.{IsWriteError}
use Rattle.gixobj_editor_open.specs.Nested.{bases_of}
use Rattle.gixobj_editor_files.specs.Emission.{EmitsSome}
use Rattle.gixobj_editor_files.specs.Opening.{Dirs}
use Rattle.gixobj_editor_files.specs.State.{State, open_bases, open_dirs}
use Rattle.gixobj_editor.proofs.Edited.{if_ok_and, map_bases_eq, map_dirs_eq}
use Rattle.gixobj_editor.proofs.OpenedOn.{written_opened_on}
use Rattle.gixobj_editor.proofs.WrittenOut.{written_at}
use Rattle.gixobj_editor.proofs.editor.Editor.try_write.Goals as goal

pub invariant_of-self : goal.invariant_of-self
invariant_of-self g c =
    written_opened_on c.write_all.result c.self.inside.root c.write_all.new.node
    (IfOk-weaker c.write_all.result _ _ (λ it ok. (ok.1, ok.5, ok.6)) c.write_all.ensures.written) c.write_all.ensures.unchanged c.self.invariant

pub returns-clause-written : goal.returns-clause-written
returns-clause-written g c = if_ok_and c.write_all.result _ _ _ c.write_all.ensures.written c.write_all.ensures.bases (λ it ok edited.
    let s = c.self.inside in
    written_at s.store s.object_hash (names_of s.prefix.items) (λ f p h. CalledAt g.F.FnMut f p.1 (Ok p.0) h) s.root c.write_all.new.node s.lookups
    c.args.self.now c.self.view_is c.self.invariant it ok.0 ok.1 ok.6.0 c.args.out.now c.write_all.new.out
    ok.2 ok.3 ok.4 ok.5 ok.6.1 edited)

pub returns-clause-error : goal.returns-clause-error
returns-clause-error g c =
    subst (λ (b : Dirs). IfErr c.write_all.result (IsWriteError (λ f p h. CalledAt g.F.FnMut f p.1 (Ok p.0) h)
    (λ f tree e h. CalledAt g.F.FnMut f tree (Err e) h)
    (EmitsSome (open_dirs c.args.self.now) b) c.args.out.now c.write_all.new.out))
    (sym (map_bases_eq c.self.inside.root) ∙ ap (λ (o : State g.row.S.Denot). open_bases o) c.self.view_is)
    (subst (λ (d : Dirs). IfErr c.write_all.result (IsWriteError (λ f p h. CalledAt g.F.FnMut f p.1 (Ok p.0) h)
    (λ f tree e h. CalledAt g.F.FnMut f tree (Err e) h)
    (EmitsSome d (bases_of c.self.inside.root)) c.args.out.now c.write_all.new.out))
    (sym (map_dirs_eq c.self.inside.root) ∙ ap (λ (o : State g.row.S.Denot). open_dirs o) c.self.view_is) c.write_all.ensures.error)
