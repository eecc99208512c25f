use Rattle.std.proofs.Common.{◌≡◌, ◌∙◌, List, None, Ok, Option, Result, ap, filter, map, refl, subst}
use Rattle.std.specs.Iterator.{Yields}
use Rattle.gix_object.specs.Filters.{NextFiltered, all_of, passes_filter, remaining_filtered}
use Rattle.gix_object.specs.TrailerSteps.{remaining_bytes, remaining_trailers, trailer_view}
use Rattle.gix_object.specs.Trailers.{TrailerView}
use Rattle.gix_object.specs.hash.memory.OutOfMemory.{OutOfMemory}
use Rattle.gix_object.specs.message.commit.message.body.filters.Filter.{Filter}
use Rattle.gix_object.specs.message.commit.message.body.filters.Filtered.{Filtered}
use Rattle.gix_object.specs.message.commit.message.body.trailers.TrailerRef.{TrailerRef}
use Rattle.gixobj_examples_objects.proofs.signers.sign_offs_of.Goals as goal

pub returns : goal.returns
returns c =
    let reader = c.signed_off_by_trailers-trailer-items.result in
    let remaining = c.loop-trailer.trailer-iterator in
    let found = c.loop-trailer.found.items in
    let all : List TrailerView = remaining_trailers (all_of reader) in
    let from_reader : Yields NextFiltered reader c.loop-trailer.yielded remaining =
    subst (λ (it : Filtered). Yields NextFiltered it c.loop-trailer.yielded remaining) c.into_iter-trailer-iterator.ensures.into_iter_gives
    c.loop-trailer.yielded_by in
    let yielded : Yields NextFiltered reader (map (λ (it : TrailerRef). Ok it) found) remaining =
    subst (λ (items : List (Result TrailerRef OutOfMemory)). Yields NextFiltered reader items remaining) c.loop-trailer.invariant from_reader in
    let ended : NextFiltered remaining None c.next.new.self =
    subst (λ (item : Option (Result TrailerRef OutOfMemory)). NextFiltered remaining item c.next.new.self) c.in-None.is c.next.ensures.steps in
    let kept : map trailer_view found ≡ remaining_filtered reader = c.readers_yield_all.ensures.filtered reader found
    (c.next.new.self, (remaining, yielded, ended)) in
    let signed = ap (λ (by : Filter). filter (λ (trailer : TrailerView). passes_filter by trailer.token) all)
    c.signed_off_by_trailers-trailer-items.ensures.filter in
    (all, (remaining_bytes (all_of reader), c.signed_off_by_trailers-trailer-items.ensures.trailers, refl), kept ∙ signed)
