use Rattle.std.proofs.Common.{rules}
use Rattle.gixobj_store_find.proofs.traits.header_ext.HeaderExt.header.Goals as goal

pub returns-in_err-header-clause-error : goal.returns-in_err-header-clause-error
returns-in_err-header-clause-error g c = search rules
