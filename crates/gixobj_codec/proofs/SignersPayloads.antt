-- The payload that is found in a signed object is the one that the signer got: for `signed_commit_has_payload` and
-- `signed_tag_has_payload`.
use Rattle.std.proofs.Common.{◌≡◌, IfOk, subst, sym, ℕ, List, Result, Ok, Err}
use Rattle.gixobj_commit.specs.CommitSigning as commit
use Rattle.gixobj_commit.specs.CommitViews as commit_views
use Rattle.gixobj_commit.specs.CommitWriting.{IsOwnedCommitError, encode_commit}
use Rattle.gixobj_commit.specs.declared.commit.Commit.{Commit}
use Rattle.gixobj_streams.specs.Writing.{RejectsNothing}
use Rattle.gixobj_hash.specs.Hash.{id_kind}
use Rattle.gixobj_grammar.specs.Commit.{CommitLines, IsCommit}
use Rattle.gixobj_signature_reports.specs.Calls.{Answer, CallView}
use Rattle.gixobj_signature.specs.Plans.{CarriesOut}
use Rattle.gixobj_signature.specs.Signing.{sign_options_view, sign_plan, signature}
use Rattle.gixobj_signature.specs.declared.signature.sign.Error.{Error}
use Rattle.gixobj_signature.specs.declared.signature.sign.Options.{Options}
use Rattle.gixobj_grammar.specs.TagSignatures as tags
use Rattle.gixobj_tag.specs.TagSigning as tag
use Rattle.gixobj_parse.specs.Markers.{HasNoMarker}
use Rattle.gixobj_tag.specs.TagFormat.{TagLines}
use Rattle.gixobj_tag.specs.TagViews as tag_views
use Rattle.gixobj_tag.specs.TagWriting.{encode_tag}
use Rattle.gixobj_tag.specs.declared.tag.Tag.{Tag}
use Rattle.gixobj_grammar.specs.CommitSignatures as commits
use Rattle.gixobj_codec.proofs.CommitsExtracted.{payload_extracted}
use Rattle.gixobj_codec.proofs.ReceivedCommits.{signature_of_decoded}
use Rattle.gixobj_codec.proofs.SignaturesFound.{signature_is_there}
use Rattle.gixobj_codec.proofs.TagsExtracted.{signed_data_is_payload_of_tag, signed_tag_has_marker}
use Rattle.gixobj_codec.specs.LineFields.{HasHeaderNames, HasLineFields}
use Rattle.gixobj_codec.specs.SignedEncodings.{CommitPayloadIsSigned, FindsSigned, FindsTagSignature, TagPayloadIsSigned, decoded_value}

module _ {S : Type 0} (runs : S → CallView → Answer → S → Type 0) (options : Options) (old new : S) where
  module _ (it : Commit) (fields : RejectsNothing (IsOwnedCommitError it) → HasLineFields (commit_views.owned_commit_lines it)) where
    pub commit_found : (result : Result Commit Error) → IfOk result (commit.IsSignedCommit runs options it old new)
        → IfOk result (λ signed. HasHeaderNames (commit_views.owned_commit_lines it)
        → ¬ commits.HasNoSignature (id_kind it.tree) (encode_commit (commit_views.owned_commit_lines signed)))
    commit_found (Err error) is = tt
    commit_found (Ok signed) is = λ named none.
        signature_is_there (id_kind it.tree) (commit_views.owned_commit_lines it) is.bytes named (fields is.writable)
        (subst (λ (lines : CommitLines). commits.HasNoSignature (id_kind it.tree) (encode_commit lines)) is.lines none)

    pub commit_decoded : (result : Result Commit Error) → IfOk result (commit.IsSignedCommit runs options it old new)
        → IfOk result (λ signed. HasHeaderNames (commit_views.owned_commit_lines it)
        → IsCommit (id_kind it.tree) (encode_commit (commit_views.owned_commit_lines signed))
        → FindsSigned runs options (id_kind it.tree) (encode_commit (commit_views.owned_commit_lines signed)) old new)
    commit_decoded (Err error) is = tt
    commit_decoded (Ok signed) is = λ named decodes.
        let kind = id_kind it.tree in
        let lines = commit_views.owned_commit_lines it in
        let again : IsCommit kind (encode_commit (commit.with_signature kind is.bytes lines)) =
        subst (λ (it : CommitLines). IsCommit kind (encode_commit it)) is.lines decodes in
        let found : commits.HasCommitSignature kind (encode_commit (commit_views.owned_commit_lines signed)) (decoded_value is.bytes)
        (commit.payload_of_commit kind lines) =
        subst (λ (it : CommitLines). commits.HasCommitSignature kind (encode_commit it) (decoded_value is.bytes) (commit.payload_of_commit kind lines))
        (sym is.lines) (signature_of_decoded kind lines is.bytes named (fields is.writable) again) in
        (is.bytes, commit.payload_of_commit kind lines, is.called, found)

    pub commit_payload : (result : Result Commit Error) → IfOk result (commit.IsSignedCommit runs options it old new)
        → IfOk result (λ signed. HasHeaderNames (commit_views.owned_commit_lines it) → CommitPayloadIsSigned runs options (id_kind it.tree)
        (encode_commit (commit_views.owned_commit_lines signed)) old new)
    commit_payload (Err error) is = tt
    commit_payload (Ok signed) is = λ named value payload has.
        let again : commits.HasCommitSignature (id_kind it.tree)
        (encode_commit (commit.with_signature (id_kind it.tree) is.bytes (commit_views.owned_commit_lines it))) value payload =
        subst (λ (lines : CommitLines). commits.HasCommitSignature (id_kind it.tree) (encode_commit lines) value payload) is.lines has in
        let same : payload ≡ commit.payload_of_commit (id_kind it.tree) (commit_views.owned_commit_lines it) =
        payload_extracted (id_kind it.tree) (commit_views.owned_commit_lines it) is.bytes named (fields is.writable) value payload again in
        (is.bytes, subst (λ (signs : List ℕ). CarriesOut runs (sign_plan (sign_options_view options) signs) old (signature is.bytes) new) (sym same) is.called)

  pub tag_found : (it : Tag) (result : Result Tag Error) → IfOk result (tag.IsSignedTag runs options it old new)
      → IfOk result (λ signed. FindsTagSignature runs options (encode_tag (tag_views.owned_tag_lines signed)) old new)
  tag_found it (Err error) is = tt
  tag_found it (Ok signed) is = (
    is.bytes,
    tag.payload_of_tag (tag_views.owned_tag_lines it),
    is.called,
    λ marker none. signed_tag_has_marker (tag_views.owned_tag_lines it) is.bytes marker
        (subst (λ (lines : TagLines). HasNoMarker (encode_tag lines)) is.lines none),
  )

  pub tag_payload : (it : Tag) (result : Result Tag Error) → IfOk result (tag.IsSignedTag runs options it old new)
      → IfOk result (λ signed. TagPayloadIsSigned runs options (encode_tag (tag_views.owned_tag_lines signed)) old new)
  tag_payload it (Err error) is = tt
  tag_payload it (Ok signed) is = record {
    payload = tag.payload_of_tag (tag_views.owned_tag_lines it);
    bytes = is.bytes;
    called = is.called;
    found = λ marker found_signature seen format has.
        signed_data_is_payload_of_tag (tag_views.owned_tag_lines it) is.bytes found_signature seen format marker
        (subst (λ (lines : TagLines). tags.HasTagSignature (encode_tag lines) found_signature seen format) is.lines has);
  }
