-- The name is that of the owned tag.
use Rattle.std.proofs.Common.{List, ℕ, ◌++◌, Option, subst}
use Rattle.std.specs.Prelude.{IfErr, OnOk, codes}
use Rattle.bstr.specs.BStr.{bstr_bytes}
use Rattle.gixobj_hash.specs.FieldFormat.{encode_field}
use Rattle.gixobj_streams.specs.Writing.{IsWritingError, LacksRoom, RejectsNothing}
use Rattle.gixobj_tag.specs.TagFormat.{encode_tagger, encode_target}
use Rattle.gixobj_tag.specs.TagViews.{owned_tag_lines}
use Rattle.gixobj_tag.specs.TagWriting.{IsTagPartsError, IsTaggerError, encode_body}
use Rattle.gixobj_hash.specs.Optional.{bytes_if_some}
use Rattle.gixobj_tag.proofs.tag.write.owned.TagWriteTo.write_into.Goals as goal

pub returns-clause-no_error : goal.returns-clause-no_error
returns-clause-no_error g c =
    subst (λ (it : List ℕ). OnOk c.write_tag.result
    (RejectsNothing (IsTagPartsError (encode_target (owned_tag_lines c.args.self.now)) it (IsTaggerError c.args.self.now.tagger)))) c.as_bstr.ensures
    c.write_tag.ensures.no_error

pub returns-clause-error : goal.returns-clause-error
returns-clause-error g c =
    let lines = owned_tag_lines c.args.self.now in
    let content : List ℕ → List ℕ → Option (List ℕ) → List ℕ = λ name message signature. encode_target lines ++ encode_field
    (codes "tag") name ++ encode_tagger lines.tagger ++ encode_body message signature in
    let Says : List ℕ → List ℕ → Option (List ℕ) → Type 0 = λ name message signature.
    IfErr c.write_tag.result (IsWritingError (IsTagPartsError (encode_target lines) name (IsTaggerError c.args.self.now.tagger)) (g.S.Sink.view c.args.sink.now)
    (g.S.Sink.view c.write_tag.new.sink) (content name message signature)) in
    let named = subst (λ (it : List ℕ). Says it (bstr_bytes c.as_bstr-2.result) (bytes_if_some c.borrowed.result)) c.as_bstr.ensures
    c.write_tag.ensures.error in
    let with_message = subst (λ (it : List ℕ). Says lines.name it (bytes_if_some c.borrowed.result)) c.as_bstr-2.ensures named in
    subst (λ (it : Option (List ℕ)). Says lines.name lines.message it) c.borrowed.ensures with_message

pub returns-clause-room : goal.returns-clause-room
returns-clause-room g c =
    subst (λ (it : List ℕ). IfErr c.write_tag.result
    (LacksRoom (IsTagPartsError (encode_target (owned_tag_lines c.args.self.now)) it (IsTaggerError c.args.self.now.tagger)) (g.S.Sink.view c.args.sink.now)))
    c.as_bstr.ensures c.write_tag.ensures.room
