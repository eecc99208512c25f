use Rattle.std.proofs.lemmas.Result.{IfErr-weaker, IfOk-weaker}
use Rattle.bstr.specs.BStr.{bstr_bytes}
use Rattle.gixobj_examples_objects.proofs.Errors.{message_error_is_memory}
use Rattle.gixobj_examples_objects.proofs.walker.message_of.Goals as goal

pub returns-clause-message : goal.returns-clause-message
returns-clause-message c =
    IfOk-weaker c.message.result _ _
    (λ message found commit is. c.message_search_complete.ensures.message c.args.kind c.args.bytes.now commit c.from_bytes.result
    (bstr_bytes message) is c.from_bytes.ensures found)
    c.message.ensures.found

pub returns-clause-error : goal.returns-clause-error
returns-clause-error c =
    IfErr-weaker c.message.result _ _
    (λ error fault commit is. message_error_is_memory c.from_bytes.result error
    (c.message_search_complete.ensures.has_message c.args.kind c.args.bytes.now commit c.from_bytes.result is c.from_bytes.ensures) fault)
    c.message.ensures.error
