-- The arguments as bytes.
use Rattle.std.proofs.Common.{◌≡◌, ◌≢◌, arith, rules, ◌∙◌}
use Rattle.std.specs.Prelude.{codes}
use Rattle.std.specs.String.{string_bytes}
use Rattle.gixobj_cli_show.proofs.OneOrTwoItems.{map_one, map_two, map_one_ne_command, map_two_ne_command}
use Rattle.gixobj_cli_show.proofs.arguments.requested_hash.Goals as goal

pub returns-in-len1-clause-found : goal.returns-in-len1-clause-found
returns-in-len1-clause-found c =
    let token : string_bytes c.token-item.result ≡ c.args.command.now = search rules in
    map_one string_bytes c.args.arguments.now c.token-item.result (omega arith) c.token-item.is ∙ cc token

pub returns-in-len2-clause-found : goal.returns-in-len2-clause-found
returns-in-len2-clause-found c =
    let token : string_bytes c.token-item-then-arguments-lt3.result ≡ c.args.command.now = search rules in
    let second : string_bytes c.sha256-item.result ≡ codes "sha256" = search rules in
    map_two string_bytes c.args.arguments.now c.token-item-then-arguments-lt3.result c.sha256-item.result
    (omega arith) c.token-item-then-arguments-lt3.is c.sha256-item.is
    ∙ cc (token, second)

pub returns-in_default-2-clause-none : goal.returns-in_default-2-clause-none
returns-in_default-2-clause-none c =
    let other : string_bytes c.token-item.result ≢ c.args.command.now = search rules in
    map_one_ne_command string_bytes c.args.arguments.now c.token-item.result c.args.command.now (omega arith) c.token-item.is other

pub returns-in_default-4-clause-none : goal.returns-in_default-4-clause-none
returns-in_default-4-clause-none c =
    let other : string_bytes c.token-item-then-arguments-lt3.result ≢ c.args.command.now = search rules in
    map_two_ne_command string_bytes c.args.arguments.now c.token-item-then-arguments-lt3.result c.sha256-item.result c.args.command.now
    (omega arith) c.token-item-then-arguments-lt3.is c.sha256-item.is other
