-- The positions follow from the numbers of the bytes after each part.
use Rattle.std.proofs.Common.{refl}
use Rattle.gixobj_c.proofs.EntryParts.{id_before_rest, is_entry_at_of_spans, name_before_rest, rest_of_entry}
use Rattle.gixobj_c.proofs.trees.positions.Goals as goal
use Rattle.gixobj_tree_entries.specs.EntryViews.{entry_view}

pub span_before-name_span-requires : goal.span_before-name_span-requires
span_before-name_span-requires c = name_before_rest _ _ _ _ (entry_view c.args.entry) _ _ _ _ c.requires.from c.requires.begins c.as_bytes-name.ensures
    c.as_bytes-id.ensures.value refl

pub span_before-id_span-requires : goal.span_before-id_span-requires
span_before-id_span-requires c = id_before_rest _ _ _ _ (entry_view c.args.entry) _ _ c.requires.from c.requires.begins c.as_bytes-id.ensures.value

pub offset_of-next-requires : goal.offset_of-next-requires
offset_of-next-requires c = rest_of_entry _ _ _ _ (entry_view c.args.entry) _ c.requires.from c.requires.begins

pub returns : goal.returns
returns c = is_entry_at_of_spans _ _ _ _ (entry_view c.args.entry) _ _ _ _ c.requires.from c.requires.begins c.offset_of-next.ensures.rest c.value-mode.ensures
    c.as_bytes-name.ensures c.as_bytes-id.ensures.value c.offset_of-next.ensures.within c.span_before-name_span.ensures c.span_before-id_span.ensures
