use Rattle.std.proofs.Common.{◌≡◌, ap, true}
use Rattle.std.specs.Option.{option_copied}
use Rattle.gix_object.specs.Files.{is_null}
use Rattle.gixobj_listings.proofs.EntryTests.{entry_is_null_of_test}
use Rattle.gixobj_listings.proofs.PairReturns.{no_side_of_null}
use Rattle.gixobj_listings.proofs.differences.unless_null.Goals as goal

pub returns-then-is_null : goal.returns-then-is_null
returns-then-is_null c =
    let null : is_null c.in-Some.entry.now.id ≡ true = entry_is_null_of_test _ _ _ _ c.entry.view_is c.is_null.ensures c.if-is_null.true in
    no_side_of_null (option_copied c.args.entry) c.in-Some.entry.now (ap option_copied c.in-Some.is) null
