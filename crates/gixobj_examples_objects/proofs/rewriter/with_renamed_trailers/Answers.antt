use Rattle.std.proofs.Common.{◌≡◌, ◌∙◌, ap, rules}
use Rattle.bstr.specs.BStr.{bstr_bytes}
use Rattle.gix_object.specs.Bodies.{bytes_of_body, trailer_block_start}
use Rattle.gix_object.specs.Optional.{bytes_if_some}
use Rattle.gixobj_examples_objects.proofs.Renaming.{HasRenamedParts, errors_of_message, parts_of_body, parts_without_body, renamed_of_message}
use Rattle.gixobj_examples_objects.proofs.rewriter.with_renamed_trailers.Goals as goal
use Rattle.gixobj_examples_objects.proofs.rewriter.with_renamed_trailers.Goals.{in-Some+in_ok-trailers-in-Some, in-None}

pub returns-clause-renamed : goal.returns-clause-renamed
returns-clause-renamed c =
    let title = c.from_bytes-parts.result.title in
    let same : c.as_bytes.result.now ≡ bstr_bytes title = search rules in
    let its : c.deref.result.now ≡ c.match-body.trailers.items = search rules in
    let has : HasRenamedParts c.args.from.now c.args.to.now c.args.message.now c.as_bytes.result.now c.deref.result.now = elim c.match-body.branch [
      | in-Some+in_ok-trailers-in-Some w ↦ parts_of_body c.args.from.now c.args.to.now c.args.message.now (bstr_bytes title) c.as_bytes.result.now
          (bytes_of_body w.in-Some.body) (bytes_if_some c.from_bytes-parts.result.body) (trailer_block_start w.in-Some.body) c.match-body.trailers.items
          c.deref.result.now c.from_bytes-parts.ensures w.in-Some.ensures.found same its
          (ap (λ v. v.items) w.trailers-is ∙ w.in_ok-trailers-in-Some.ensures)
      | in-None w ↦ parts_without_body c.args.from.now c.args.to.now c.args.message.now (bstr_bytes title) c.as_bytes.result.now
          (bytes_if_some c.from_bytes-parts.result.body) c.deref.result.now c.from_bytes-parts.ensures (ap bytes_if_some w.in-None.ensures.none) same
          (its ∙ ap (λ v. v.items) w.trailers-is ∙ w.new-trailers.ensures.items)
    ] in
    renamed_of_message c.message_of.result (λ it. it.items) c.args.from.now c.args.to.now c.args.message.now c.as_bytes.result.now c.deref.result.now has
    c.message_of.ensures.message

pub returns-clause-error : goal.returns-clause-error
returns-clause-error c =
    let title = c.from_bytes-parts.result.title in
    let same : c.as_bytes.result.now ≡ bstr_bytes title = search rules in
    let its : c.deref.result.now ≡ c.match-body.trailers.items = search rules in
    let has : HasRenamedParts c.args.from.now c.args.to.now c.args.message.now c.as_bytes.result.now c.deref.result.now = elim c.match-body.branch [
      | in-Some+in_ok-trailers-in-Some w ↦ parts_of_body c.args.from.now c.args.to.now c.args.message.now (bstr_bytes title) c.as_bytes.result.now
          (bytes_of_body w.in-Some.body) (bytes_if_some c.from_bytes-parts.result.body) (trailer_block_start w.in-Some.body) c.match-body.trailers.items
          c.deref.result.now c.from_bytes-parts.ensures w.in-Some.ensures.found same its
          (ap (λ v. v.items) w.trailers-is ∙ w.in_ok-trailers-in-Some.ensures)
      | in-None w ↦ parts_without_body c.args.from.now c.args.to.now c.args.message.now (bstr_bytes title) c.as_bytes.result.now
          (bytes_if_some c.from_bytes-parts.result.body) c.deref.result.now c.from_bytes-parts.ensures (ap bytes_if_some w.in-None.ensures.none) same
          (its ∙ ap (λ v. v.items) w.trailers-is ∙ w.new-trailers.ensures.items)
    ] in
    errors_of_message c.message_of.result c.args.from.now c.args.to.now c.args.message.now c.as_bytes.result.now c.deref.result.now has
    c.message_of.ensures.error
