use Rattle.std.proofs.Common.{◌≡◌, ℕ, List, Result, ap, subst, sym, ◌∙◌}
use Rattle.std.specs.List.{AllZip}
use Rattle.std.specs.Prelude.{codes}
use Rattle.gix_object.specs.CommitViews.{commit_lines}
use Rattle.gix_object.specs.ExtraHeaders.{hash_kind_of, searched, values_named}
use Rattle.gix_object.specs.RemainingHeaders.{remaining_headers}
use Rattle.gix_object.specs.Mergetags.{IsTagOf, mergetag_kind, mergetag_values, remaining_mergetags}
use Rattle.gix_object.specs.hash.decode.Error.{Error}
use Rattle.gix_object.specs.hash.hash.kind.Kind.{Kind}
use Rattle.gix_object.specs.tag.tag.TagRef.{TagRef}
use Rattle.gixobj_examples_objects.proofs.auditor.merged_tags_of.Goals as goal

pub returns : goal.returns
returns c =
    let tags = c.mergetags.result in
    let values : remaining_mergetags remaining_headers tags ≡ values_named (codes "mergetag") (commit_lines c.args.commit.now).extra_headers =
    ap (λ name. values_named name (remaining_headers (searched (mergetag_values tags)))) c.mergetags.ensures.name
    ∙ ap (values_named (codes "mergetag")) (ap remaining_headers c.mergetags.ensures.headers ∙ c.extra_headers.ensures.headers) in
    let (items, (last, yielded, ends), (same, _)) = c.in_ok-tags.ensures.ran in
    let (after, none) = ends tt in
    let tags_are = c.borrowed_mergetag_search_complete.ensures.yielded tags after items (last, yielded, none) in
    let of_values = subst (λ (it : List (List ℕ)). AllZip (IsTagOf (mergetag_kind tags)) it items) values tags_are in
    let of_kind = subst (λ (it : Kind). AllZip (IsTagOf it) (values_named (codes "mergetag") (commit_lines c.args.commit.now).extra_headers) items)
    c.mergetags.ensures.hash_kind of_values in
    let of_items = subst (λ (it : List (Result TagRef Error)). AllZip (IsTagOf (hash_kind_of c.extra_headers.result))
    (values_named (codes "mergetag") (commit_lines c.args.commit.now).extra_headers) it) (sym same) of_kind in
    (hash_kind_of c.extra_headers.result, c.extra_headers.ensures.hash_kind, of_items)
