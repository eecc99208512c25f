use Rattle.gixobj_records.proofs.RecordLists.{record_unique, records_unique}
use Rattle.gixobj_records.proofs.laws.records_decode_uniquely.Goals as goal

pub returns-clause-one_record : goal.returns-clause-one_record
returns-clause-one_record c = record_unique

pub returns-clause-one_list : goal.returns-clause-one_list
returns-clause-one_list c = records_unique
