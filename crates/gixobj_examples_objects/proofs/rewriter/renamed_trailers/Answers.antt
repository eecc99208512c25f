use Rattle.std.proofs.Common.{◌≡◌, ◌++◌, ◌∙◌, ◌∷◌, List, None, Ok, Option, Result, [], ap, map, rules, subst}
use Rattle.std.specs.Iterator.{Yields}
use Rattle.gix_object.specs.TrailerSteps.{NextTrailer, trailer_view}
use Rattle.gix_object.specs.Trailers.{TrailerView, trailers_of_bytes}
use Rattle.gix_object.specs.hash.memory.OutOfMemory.{OutOfMemory}
use Rattle.gix_object.specs.message.commit.message.body.trailers.TrailerRef.{TrailerRef}
use Rattle.gix_object.specs.message.commit.message.body.trailers.Trailers.{Trailers}
use Rattle.gixobj_examples_objects.specs.Assembled.{renamed}
use Rattle.gixobj_examples_objects.proofs.Renaming.{are_renamed_snoc}
use Rattle.gixobj_examples_objects.proofs.rewriter.renamed_trailers.Goals as goal

pub loop-trailer-preserved-in_ok-push : goal.loop-trailer-preserved-in_ok-push
loop-trailer-preserved-in_ok-push c =
    let one = c.in_ok-trailer.field-0 in
    let copy = c.in_ok-renamed_copy.field-0 in
    let is : c.in-Some.trailer ≡ Ok one = search rules in
    let copied : copy ≡ renamed c.args.from.now c.args.to.now (trailer_view one) = search rules in
    let pushed : c.push.new.self.items ≡ c.loop-trailer.trailers.items ++ copy ∷ [] = search rules in
    are_renamed_snoc c.args.from.now c.args.to.now c.loop-trailer.yielded c.in-Some.trailer one c.loop-trailer.trailers.items c.push.new.self.items copy
    c.loop-trailer.invariant is copied pushed

pub loop-trailer-preserved : goal.loop-trailer-preserved
loop-trailer-preserved c =
    let one = c.in_ok-trailer.field-0 in
    let copy = c.in_ok-renamed_copy.field-0 in
    let is : c.in-Some.trailer ≡ Ok one = search rules in
    let copied : copy ≡ renamed c.args.from.now c.args.to.now (trailer_view one) = search rules in
    let pushed : c.push.new.self.items ≡ c.loop-trailer.trailers.items ++ copy ∷ [] = search rules in
    are_renamed_snoc c.args.from.now c.args.to.now c.loop-trailer.yielded c.in-Some.trailer one c.loop-trailer.trailers.items c.push.new.self.items copy
    c.loop-trailer.invariant is copied pushed

pub returns : goal.returns
returns c =
    let start = c.trailers-trailer-items.result in
    let at = c.loop-trailer.trailer-iterator in
    let (seen, yielded, kept) = c.loop-trailer.invariant in
    let yields : Yields NextTrailer start (map (λ (it : TrailerRef). Ok it) seen) at =
    subst (λ (items : List (Result TrailerRef OutOfMemory)). Yields NextTrailer start items at) yielded
    (subst (λ (it : Trailers). Yields NextTrailer it c.loop-trailer.yielded at) c.into_iter-trailer-iterator.ensures.into_iter_gives
    c.loop-trailer.yielded_by) in
    let ended : NextTrailer at None c.next.new.self =
    subst (λ (item : Option (Result TrailerRef OutOfMemory)). NextTrailer at item c.next.new.self) c.in-None.is c.next.ensures.steps in
    let all = c.readers_yield_all.ensures.trailers start seen (c.next.new.self, (at, yields, ended)) in
    kept ∙ ap (λ (ts : List TrailerView). map (renamed c.args.from.now c.args.to.now) ts) (all ∙ ap trailers_of_bytes c.trailers-trailer-items.ensures)
