use Rattle.std.proofs.Common.{rules, ◌≡◌, [], ◌∷◌, Ok, Err, refl}
use Rattle.std.specs.Fn.{CalledAt}
use Rattle.gixobj_hash.specs.declared.hash.object_id.ObjectId.{ObjectId}
use Rattle.gixobj_hash.specs.declared.hash.object_id.ObjectId.TheVariants.{Sha1}
use Rattle.gixobj_editor_open.proofs.Results.{if_err_weaken}
use Rattle.gixobj_editor_write.proofs.Emitting.{stopped_at_call}
use Rattle.gixobj_editor_write.proofs.write.emit.Goals as goal

pub returns-in_err-reserve-clause-error : goal.returns-in_err-reserve-clause-error
returns-in_err-reserve-clause-error g c =
    if_err_weaken c.from_residual.result _ _ c.from_residual.ensures.1
    (stopped_at_call (λ f p h. CalledAt g.F.FnMut f p.1 (Ok p.0) h) (λ f tree e h. CalledAt g.F.FnMut f tree (Err e) h)
    (λ ps. (id : ObjectId) × (ps ≡ (id, c.args.tree.now) ∷ [])) c.args.out.now c.args.out.now [] ((Sha1 [], c.args.tree.now) ∷ []) refl (Sha1 [], refl))

pub out-requires : goal.out-requires
out-requires g c = c.requires.callable [] c.args.out.now refl _ c.requires.storable

pub returns-in-Err-clause-error : goal.returns-in-Err-clause-error
returns-in-Err-clause-error g c =
    let requested : CalledAt g.F.FnMut c.args.out.now c.args.tree.now (Err c.in-Err.error) c.out.new.self = search rules in
    record { before = []; tree = c.args.tree.now; between = c.args.out.now; called = refl; failed = requested; emitted = λ id. ([], (id, refl)) }
