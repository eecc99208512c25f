use Rattle.gixobj_parse.proofs.HeaderFields.{field_unique, header_unique}
use Rattle.gixobj_parse.proofs.laws.header_field_decodes_uniquely.Goals as goal

pub returns-clause-one_field : goal.returns-clause-one_field
returns-clause-one_field c = field_unique

pub returns-clause-one_header : goal.returns-clause-one_header
returns-clause-one_header c = header_unique
