use Rattle.gixobj_codec.proofs.CommitsExtracted.{payload_extracted, value_extracted}
use Rattle.gixobj_codec.proofs.ReceivedCommits.{decodes_if_found, signature_of_decoded}
use Rattle.gixobj_codec.proofs.SignaturesFound.{signature_is_there, no_signature_error_of_decoded}
use Rattle.gixobj_codec.proofs.signed.commit_payloads_are_signed.Goals as goal

pub returns-clause-payload : goal.returns-clause-payload
returns-clause-payload c kind commit bytes value signed named fields has = payload_extracted kind commit bytes named fields value signed has

pub returns-clause-found : goal.returns-clause-found
returns-clause-found c = signature_is_there

pub returns-clause-value : goal.returns-clause-value
returns-clause-value c kind commit bytes value signed named fields has = value_extracted kind commit bytes named fields value signed has

pub returns-clause-decoded : goal.returns-clause-decoded
returns-clause-decoded c = signature_of_decoded

pub returns-clause-decodes : goal.returns-clause-decodes
returns-clause-decodes c kind commit bytes value signed named fields has = decodes_if_found kind commit bytes named fields value signed has

pub returns-clause-no_error : goal.returns-clause-no_error
returns-clause-no_error c = no_signature_error_of_decoded
