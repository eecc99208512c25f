-- The errors of writing an actor are those of its field, once the field's name and a space are appended.
use Rattle.std.proofs.Common.{ℕ, List, [], ◌∷◌, ◌++◌, Result, Ok, Err, refl}
use Rattle.std.specs.Prelude.{IfErr}
use Rattle.bstr.specs.Owned.{bstring_bytes}
use Rattle.gixobj_streams.proofs.Appends.{appends_prefix_after_byte}
use Rattle.gixobj_hash.specs.FieldFormat.{encode_field}
use Rattle.gixobj_streams.specs.Streams.{AppendsAll, AppendsPrefix, SinkView}
use Rattle.gixobj_streams.specs.Writing.{IsWritingError, LacksRoom}
use Rattle.std.specs.declared.io.Error as io
use Rattle.gixobj_streams.specs.declared.encode.Error.{Error}
use Rattle.gixobj_streams.specs.declared.encode.Error.TheVariants as error
use Rattle.gixobj_actor.specs.ActorWriting.{IsActorError, IsActorFieldError, encode_owned_actor}
use Rattle.gixobj_actor.specs.declared.actor.Signature.{Signature}

-- an error of the actor after the field's name and a space is an error of the field
field_error_of_owned_actor_error : (a b c : SinkView) (Unchanged : Type 0) (name : List ℕ) (actor : Signature) (e : Error) → AppendsAll a b (name ++ 32 ∷ [])
    → (Unchanged → AppendsAll a c (name ++ 32 ∷ []))
    → IsActorError (bstring_bytes actor.name) (bstring_bytes actor.email) Unchanged (AppendsPrefix b c (encode_owned_actor actor ++ 10 ∷ [])) e
    → IsWritingError (IsActorFieldError name actor) a c (encode_field name (encode_owned_actor actor)) e
field_error_of_owned_actor_error a b c U name actor (error.Writer cause) write_bytes same failure =
    appends_prefix_after_byte a b c name 32 (encode_owned_actor actor ++ 10 ∷ []) write_bytes failure.1
field_error_of_owned_actor_error a b c U name actor error.IllegalActor write_bytes same failure = (name ++ 32 ∷ [], (failure.0, refl, refl), same failure.1)
field_error_of_owned_actor_error a b c U name actor (error.NewlineInHeaderValue value) write_bytes same failure = absurd failure
field_error_of_owned_actor_error a b c U name actor error.EmptyValue write_bytes same failure = absurd failure
field_error_of_owned_actor_error a b c U name actor error.StartsWithDash write_bytes same failure = absurd failure
field_error_of_owned_actor_error a b c U name actor (error.InvalidRefName fault) write_bytes same failure = absurd failure
field_error_of_owned_actor_error a b c U name actor (error.NullbyteInFilename value) write_bytes same failure = absurd failure
field_error_of_owned_actor_error a b c U name actor error.OutOfMemory write_bytes same failure = absurd failure

pub field_error_of_actor_error : {T : Type 0} (result : Result T Error) (a b c : SinkView) (Unchanged : Type 0) (name : List ℕ) (actor : Signature)
    → AppendsAll a b (name ++ 32 ∷ []) → (Unchanged → AppendsAll a c (name ++ 32 ∷ []))
    → IfErr result (IsActorError (bstring_bytes actor.name) (bstring_bytes actor.email) Unchanged (AppendsPrefix b c (encode_owned_actor actor ++ 10 ∷ [])))
    → IfErr result (IsWritingError (IsActorFieldError name actor) a c (encode_field name (encode_owned_actor actor)))
field_error_of_actor_error (Ok value) a b c U name actor write_bytes same failure = tt
field_error_of_actor_error (Err why) a b c U name actor write_bytes same failure =
    field_error_of_owned_actor_error a b c U name actor why write_bytes same failure

-- a sink fails only for a legal actor, which is not rejected
lacks_room_of_legal_actor : (a : SinkView) (Unchanged : Type 0) (Written : io.Error → Type 0) (name : List ℕ) (actor : Signature) (e : Error)
    → IsActorError (bstring_bytes actor.name) (bstring_bytes actor.email) Unchanged Written e → LacksRoom (IsActorFieldError name actor) a e
lacks_room_of_legal_actor a U W name actor (error.Writer cause) failure = λ value parts rejected. absurd (rejected.0 failure.0)
lacks_room_of_legal_actor a U W name actor error.IllegalActor failure = tt
lacks_room_of_legal_actor a U W name actor (error.NewlineInHeaderValue value) failure = tt
lacks_room_of_legal_actor a U W name actor error.EmptyValue failure = tt
lacks_room_of_legal_actor a U W name actor error.StartsWithDash failure = tt
lacks_room_of_legal_actor a U W name actor (error.InvalidRefName fault) failure = tt
lacks_room_of_legal_actor a U W name actor (error.NullbyteInFilename value) failure = tt
lacks_room_of_legal_actor a U W name actor error.OutOfMemory failure = tt

pub field_room_of_actor_error : {T : Type 0} (result : Result T Error) (a : SinkView) (Unchanged : Type 0) (Written : io.Error → Type 0)
    (name : List ℕ) (actor : Signature) → IfErr result (IsActorError (bstring_bytes actor.name) (bstring_bytes actor.email) Unchanged Written)
    → IfErr result (LacksRoom (IsActorFieldError name actor) a)
field_room_of_actor_error (Ok value) a U W name actor failure = tt
field_room_of_actor_error (Err why) a U W name actor failure = lacks_room_of_legal_actor a U W name actor why failure
