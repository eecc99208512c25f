use Rattle.gixobj_parse.proofs.HeaderFields.{not_name_and_space}
use Rattle.gixobj_parse.proofs.parse.after_name.Goals as goal

pub returns-in_default-after_space-clause-none :
    goal.returns-in_default-after_space-clause-none
returns-in_default-after_space-clause-none c =
    not_name_and_space c.args.input.now c.args.name.now c.in-Some.following.now c.in-Some.ensures c.in_default-after_space.ensures
