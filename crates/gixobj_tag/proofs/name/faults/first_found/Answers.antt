use Rattle.std.proofs.Common.{rules}
use Rattle.gixobj_streams.specs.declared.encode.RefNameFault.TheVariants as fault
use Rattle.gixobj_tag.proofs.Names.{has_fault_empty, is_first_fault, no_fault_of_valid}
use Rattle.gixobj_tag.proofs.name.faults.first_found.Goals as goal

pub returns-then-is_empty : goal.returns-then-is_empty
returns-then-is_empty c = is_first_fault c.args.name.now fault.Empty tt (has_fault_empty c.args.name.now c.is_empty.result c.if-is_empty.true
    c.is_empty.ensures)

pub returns-then-has_dot_start : goal.returns-then-has_dot_start
returns-then-has_dot_start c = is_first_fault c.args.name.now fault.DotStart (search rules) (c.has_dot_start.ensures.0 c.if-has_dot_start.true)

pub returns-then-has_lock_suffix : goal.returns-then-has_lock_suffix
returns-then-has_lock_suffix c = is_first_fault c.args.name.now fault.LockSuffix (search rules) (c.has_lock_suffix.ensures.0 c.if-has_lock_suffix.true)

pub returns-then-has_double_dot : goal.returns-then-has_double_dot
returns-then-has_double_dot c = is_first_fault c.args.name.now fault.DoubleDot (search rules) (c.has_double_dot.ensures.0 c.if-has_double_dot.true)

pub returns-then-has_at_brace : goal.returns-then-has_at_brace
returns-then-has_at_brace c = is_first_fault c.args.name.now fault.AtBrace (search rules) (c.has_at_brace.ensures.0 c.if-has_at_brace.true)

pub returns-then-has_backslash : goal.returns-then-has_backslash
returns-then-has_backslash c = is_first_fault c.args.name.now fault.Backslash (search rules) (c.has_backslash.ensures.0 c.if-has_backslash.true)

pub returns-then-has_invalid_byte : goal.returns-then-has_invalid_byte
returns-then-has_invalid_byte c =
    is_first_fault c.args.name.now fault.InvalidByte (search rules, (search rules, (search rules, (search rules, (search rules, (search rules, tt))))))
    (c.has_invalid_byte.ensures.0 c.if-has_invalid_byte.true)

pub returns-then-has_bad_slash : goal.returns-then-has_bad_slash
returns-then-has_bad_slash c =
    is_first_fault c.args.name.now fault.BadSlash (
      search rules,
      (
        search rules,
        (search rules, (search rules, (search rules, (search rules, (search rules, tt))))),
      ),
    )
    (c.has_bad_slash.ensures.0 c.if-has_bad_slash.true)

pub returns-then-has_dot_end : goal.returns-then-has_dot_end
returns-then-has_dot_end c =
    is_first_fault c.args.name.now fault.DotEnd
    (search rules, (search rules, (search rules, (search rules, (search rules, (search rules, (search rules, (search rules, tt))))))))
    (c.has_dot_end.ensures.0 c.if-has_dot_end.true)

pub returns : goal.returns
returns c = no_fault_of_valid c.args.name.now
    (search rules, (search rules, (search rules, (search rules, (search rules, (search rules, (search rules, (search rules, (search rules, tt)))))))))
