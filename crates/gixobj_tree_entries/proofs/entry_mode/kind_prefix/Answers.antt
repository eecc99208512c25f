use Rattle.std.proofs.Common.{◌∙◌, ◌/◌, ap, arith, sym}
use Rattle.gixobj_tree_entries.proofs.EncodedKinds.{no_kind_of_other_prefix}
use Rattle.gixobj_tree_entries.proofs.entry_mode.kind_prefix.Goals as goal

pub returns-clause-none : goal.returns-clause-none
returns-clause-none c long = no_kind_of_other_prefix c.args.i.now (λ at. omega (arith, c.type_inv.i at)) long
    (λ same. c.if-prefix-from_be_bytes.false (c.first_seven-prefix.ensures ∙ same ∙ sym c.from_be_bytes.ensures))
    (λ same. c.if-prefix-from_be_bytes-2.false (ap (λ number. number / 256) c.first_seven-prefix.ensures ∙ same ∙ sym c.from_be_bytes-2.ensures))
    (λ same. c.if-prefix-from_be_bytes-3.false (c.first_seven-prefix.ensures ∙ same ∙ sym c.from_be_bytes-3.ensures))
    (λ same. c.if-prefix-from_be_bytes-4.false (c.first_seven-prefix.ensures ∙ same ∙ sym c.from_be_bytes-4.ensures))
    (λ same. c.if-prefix-from_be_bytes-5.false (c.first_seven-prefix.ensures ∙ same ∙ sym c.from_be_bytes-5.ensures))
