-- The name, the email and the end of the line are the encoding with its terminator.
use Rattle.std.proofs.Common.{◌≡◌, ◌++◌, codes, rules}
use Rattle.std.proofs.lemmas.Result.{err_from_is_err_and}
use Rattle.bstr.specs.Owned.{bstring_bytes}
use Rattle.gixobj_actor.proofs.EncodedActors.{encode_actor_append}
use Rattle.gixobj_actor.specs.ActorWriting.{IsLegal, encode_owned_actor}
use Rattle.gixobj_actor.specs.Date.{encode_time}
use Rattle.gixobj_actor.proofs.actor.Signature.write_with.Goals as goal

pub returns-in_err-write_with_terminator-clause-error : goal.returns-in_err-write_with_terminator-clause-error
returns-in_err-write_with_terminator-clause-error g c =
    let actor = c.args.self.now in
    let p = err_from_is_err_and c.from_residual.result c.from_residual.ensures.1 in
    let legal : IsLegal actor = search rules in
    let split = encode_actor_append (bstring_bytes actor.name) (bstring_bytes actor.email) (encode_time actor.time.seconds actor.time.offset)
    c.args.terminator.now in
    let encoding : encode_owned_actor actor ++ c.args.terminator.now ≡ c.as_bytes-name.result.now ++ codes " <" ++ c.as_bytes-email.result.now
    ++ c.as_bytes.result.now = cc split in
    rw (p.1, p.2) (legal, rw encoding c.in_err-write_with_terminator.ensures.appended)

pub returns-clause-written : goal.returns-clause-written
returns-clause-written g c =
    let actor = c.args.self.now in
    let legal : IsLegal actor = search rules in
    let split = encode_actor_append (bstring_bytes actor.name) (bstring_bytes actor.email) (encode_time actor.time.seconds actor.time.offset)
    c.args.terminator.now in
    let encoding : encode_owned_actor actor ++ c.args.terminator.now ≡ c.as_bytes-name.result.now ++ codes " <" ++ c.as_bytes-email.result.now
    ++ c.as_bytes.result.now = cc split in
    (legal, rw encoding c.in_ok-write_with_terminator.ensures.appended)
