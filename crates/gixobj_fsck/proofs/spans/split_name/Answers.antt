use Rattle.std.proofs.Common.{true, ◌-◌, drop, length-drop, sym, arith, length, take_all, le_refl, subst, take, ◌≡◌, ℕ, List}
use Rattle.memchr.specs.Find.{NoneBefore, Nowhere, Passes, is_byte3}
use Rattle.gixobj_fsck.proofs.SpanParts.{names_before, not_name_of_found, span_of_all, span_of_take}
use Rattle.std.specs.List.{list_all, slice_index}
use Rattle.gixobj_fsck.specs.Spans.{IsSpan, is_of_class}
use Rattle.gixobj_fsck.specs.declared.spans.Class.TheVariants as class
use Rattle.gixobj_fsck.proofs.spans.split_name.Goals as goal

pub returns-in-Some : goal.returns-in-Some
returns-in-Some c =
    let input = c.args.input.now in
    let test = Passes (is_byte3 60 62 10) input in
    let found : NoneBefore test 0 (length input) c.in-Some.at × test c.in-Some.at = c.in-Some.ensures in
    let within = found.0.high in
    let before = names_before input c.in-Some.at (omega arith) found.0.before in
    let span = span_of_take class.Name input c.in-Some.at within before (not_name_of_found (slice_index input c.in-Some.at) found.1) in
    let rest = drop c.in-Some.at input in
    let all = take_all (length input - c.in-Some.at) rest (omega (arith, length-drop c.in-Some.at input)) in
    let P : List ℕ → Type 0 = λ it. IsSpan class.Name input (take c.in-Some.at input) it in
    subst P (sym all) span

pub returns-in-None : goal.returns-in-None
returns-in-None c =
    let input = c.args.input.now in
    let none : Nowhere (Passes (is_byte3 60 62 10) input) 0 (length input) = c.in-None.ensures in
    let P : List ℕ → Type 0 = λ it. list_all (is_of_class class.Name) it ≡ true in
    let within = le_refl (length input) in
    span_of_all class.Name input (subst P (take_all (length input) input within) (names_before input (length input) within none))
