-- The last of the yielded trailers is the last of the message; an error comes only for a continued line.
use Rattle.std.proofs.Common.{◌≡◌, ◌++◌, ◌∙◌, ◌∷◌, Err, List, None, Ok, Option, Result, Some, [], ap, map, option_map, refl, rules, subst, sym, true}
use Rattle.std.specs.Iterator.{Yields}
use Rattle.std.specs.List.{last_or}
use Rattle.bstr.specs.BStr.{bstr_bytes}
use Rattle.gix_object.specs.TrailerSteps.{NextTrailer, next_allocates, remaining_bytes, remaining_trailers, trailer_view}
use Rattle.gix_object.specs.hash.memory.OutOfMemory.{OutOfMemory}
use Rattle.gix_object.specs.message.commit.message.body.trailers.TrailerRef.{TrailerRef}
use Rattle.gix_object.specs.message.commit.message.body.trailers.Trailers.{Trailers}
use Rattle.gixobj_examples_objects.specs.Signers.{HasContinuedLine}
use Rattle.gixobj_examples_objects.proofs.LastTrailers.{has_continued_line, last_or_map, last_or_snoc, map_snoc, on_err_of}
use Rattle.gixobj_examples_objects.proofs.signers.last_trailer_of.Goals as goal

pub loop-trailer-preserved : goal.loop-trailer-preserved
loop-trailer-preserved c =
    let (seen, yielded, last) = c.loop-trailer.invariant in
    let one = c.in_ok-trailer.field-0 in
    let is : c.in-Some.trailer ≡ Ok one = search rules in (
      seen ++ one ∷ [],
      ap (λ (items : List (Result TrailerRef OutOfMemory)). items ++ c.in-Some.trailer ∷ []) yielded
          ∙ ap (λ (item : Result TrailerRef OutOfMemory). map (λ (it : TrailerRef). Ok it) seen ++ item ∷ []) is
          ∙ sym (map_snoc (λ (it : TrailerRef). Ok it) seen one),
      sym (last_or_snoc None seen one),
    )

pub returns-in_err-trailer-clause-allocates : goal.returns-in_err-trailer-clause-allocates
returns-in_err-trailer-clause-allocates c =
    let message = bstr_bytes c.args.commit.now.message in
    let start = c.message_trailers-trailer-items.result in
    let at = c.loop-trailer.trailer-iterator in
    let (seen, yielded, last) = c.loop-trailer.invariant in
    let yields : Yields NextTrailer start (map (λ (it : TrailerRef). Ok it) seen) at =
    subst (λ (items : List (Result TrailerRef OutOfMemory)). Yields NextTrailer start items at) yielded
    (subst (λ (it : Trailers). Yields NextTrailer it c.loop-trailer.yielded at) c.into_iter-trailer-iterator.ensures.into_iter_gives
    c.loop-trailer.yielded_by) in
    let is : c.in-Some.trailer ≡ Err c.in_err-trailer.field-0.0 = search rules in
    let step = subst (λ (item : Result TrailerRef OutOfMemory). NextTrailer at (Some item) c.next.new.self) is c.in-Some.ensures.steps in
    on_err_of c.from_residual.result (HasContinuedLine message)
    (has_continued_line message start seen at c.message_trailers-trailer-items.ensures yields step.0)

pub returns-clause-found : goal.returns-clause-found
returns-clause-found c =
    let start = c.message_trailers-trailer-items.result in
    let at = c.loop-trailer.trailer-iterator in
    let (seen, yielded, last) = c.loop-trailer.invariant in
    let yields : Yields NextTrailer start (map (λ (it : TrailerRef). Ok it) seen) at =
    subst (λ (items : List (Result TrailerRef OutOfMemory)). Yields NextTrailer start items at) yielded
    (subst (λ (it : Trailers). Yields NextTrailer it c.loop-trailer.yielded at) c.into_iter-trailer-iterator.ensures.into_iter_gives
    c.loop-trailer.yielded_by) in
    let ended : NextTrailer at None c.next.new.self =
    subst (λ (item : Option (Result TrailerRef OutOfMemory)). NextTrailer at item c.next.new.self) c.in-None.is c.next.ensures.steps in
    let all = c.readers_yield_all.ensures.trailers start seen (c.next.new.self, (at, yields, ended)) in (
      remaining_trailers start,
      (remaining_bytes start, c.message_trailers-trailer-items.ensures, refl),
      ap (option_map trailer_view) last ∙ last_or_map trailer_view None seen ∙ ap (last_or None) all,
    )
