-- The parts of the field are appended one after the other.
use Rattle.std.proofs.Common.{[], ◌∷◌, ◌++◌, subst, sym}
use Rattle.gixobj_streams.specs.Streams.{AppendsAll}
use Rattle.gixobj_actor.proofs.SignatureFields.{field_error_of_actor_error, field_room_of_actor_error}
use Rattle.gixobj_actor.proofs.encode.trusted_header_signature.Goals as goal

pub returns-clause-error : goal.returns-clause-error
returns-clause-error g c =
    let write_bytes = c.in_ok-write_parts.ensures.appended in
    field_error_of_actor_error c.write_with.result (g.S.Sink.view c.args.sink.now) (g.S.Sink.view c.write_parts.new.sink)
    (g.S.Sink.view c.write_with.new.sink) _ c.args.name.now c.args.actor.now write_bytes
    (λ same. subst (λ it. AppendsAll (g.S.Sink.view c.args.sink.now) (g.S.Sink.view it) (c.args.name.now ++ 32 ∷ [])) (sym same) write_bytes)
    c.write_with.ensures.error

pub returns-clause-room : goal.returns-clause-room
returns-clause-room g c = field_room_of_actor_error c.write_with.result (g.S.Sink.view c.args.sink.now) _ _ c.args.name.now c.args.actor.now
    c.write_with.ensures.error
