use Rattle.std.proofs.Common.{rules}
use Rattle.gixobj_parse.proofs.Prefixes.{marker_place_at_newline, marker_place_at_start, no_marker_of_no_prefix, prefixes_before_newline}
use Rattle.gixobj_parse.proofs.signature.find.Goals as goal

pub returns-in-Some-from_signature-clause-found : goal.returns-in-Some-from_signature-clause-found
returns-in-Some-from_signature-clause-found c =
    marker_place_at_newline _ _ _ _ c.loop-newline.invariant.within c.loop-newline.invariant.so_far c.in-Some.ensures c.in-Some-from_signature.ensures.found

pub loop-newline-preserved : goal.loop-newline-preserved
loop-newline-preserved c =
    let further = prefixes_before_newline _ _ _ c.loop-newline.invariant.within c.loop-newline.invariant.so_far c.in-Some.ensures
    c.in_default-from_signature.ensures.none in
    record { within = further.0; so_far = further.1 }

pub returns-in_err-format-clause-none : goal.returns-in_err-format-clause-none
returns-in_err-format-clause-none c =
    let none = no_marker_of_no_prefix _ _ c.loop-newline.invariant.within c.loop-newline.invariant.so_far c.in_default.ensures c.in_err-format.ensures.none in
    search rules

pub returns-clause-found : goal.returns-clause-found
returns-clause-found c =
    marker_place_at_start _ _ _ c.loop-newline.invariant.within c.loop-newline.invariant.so_far c.in_default.ensures c.in_ok-format.ensures.found
