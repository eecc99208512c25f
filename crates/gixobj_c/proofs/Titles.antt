-- Positions of the parts of a message, and what is written of its summary.
use Rattle.std.proofs.Common.{◌≡◌, ℕ, List, [], ◌++◌, append_assoc, inl, inr, refl, subst, sym, ◌∙◌}
use Rattle.std.proofs.lemmas.List.{append-nil}
use Rattle.std.specs.Prelude.{Option, Some, None}
use Rattle.bstr.specs.BStr.{bstr_bytes}
use Rattle.bstr.specs.declared.bstr.BStr.{BStr}
use Rattle.gixobj_c_codes.specs.Buffers.{WritesBytes}
use Rattle.gixobj_c.specs.Messages.{IsMessageOf, IsSummaryCall}
use Rattle.gixobj_c.specs.Spans.{BeginsWithPiece, HasPieceBefore, IsEmptyAt, IsSpanAtStart, IsSpanBefore}
use Rattle.gixobj_c.specs.declared.messages.Message.{Message}
use Rattle.gixobj_hash.specs.Optional.{bytes_if_some}
use Rattle.gixobj_text.specs.Titles.{SplitsTitle, summary_of}
use Rattle.gixobj_text.specs.declared.commit.message.MessageRef.{MessageRef}

title_prefix : (message title : List ℕ) (body : Option (List ℕ)) → SplitsTitle message title body → BeginsWithPiece message title
title_prefix message title (Some body) (splits, some) = record {
  rest = splits.here.first ++ splits.here.second ++ body;
  joined = splits.here.joined
      ∙ simp append_assoc;
}
title_prefix message title None (inl splits) = record { rest = splits.here.first ++ splits.here.second ++ []; joined = splits.here.joined ∙ simp append_assoc }
title_prefix message title None (inr (same, none)) = record { rest = []; joined = sym same ∙ sym (append-nil title) }

pub title_is_prefix : (message : List ℕ) (parts : MessageRef) → SplitsTitle message (bstr_bytes parts.title) (bytes_if_some parts.body)
    → BeginsWithPiece message (bstr_bytes parts.title)
title_is_prefix message parts split = title_prefix message (bstr_bytes parts.title) (bytes_if_some parts.body) split

body_before : (message title body : List ℕ) → SplitsTitle message title (Some body) → HasPieceBefore message body 0
body_before message title body (splits, some) =
    let flat : title ++ splits.here.first ++ splits.here.second ++ body ≡ (title ++ splits.here.first ++ splits.here.second) ++ (body ++ []) =
    simp (append_assoc, append-nil) in
    record { prefix = title ++ splits.here.first ++ splits.here.second; rest = []; joined = splits.here.joined ∙ flat; remaining = refl }

split_of : (message : List ℕ) (parts : MessageRef) (body : Option BStr) → SplitsTitle message (bstr_bytes parts.title) (bytes_if_some parts.body)
    → parts.body ≡ body → SplitsTitle message (bstr_bytes parts.title) (bytes_if_some body)
split_of message parts body split is = subst (λ (it : Option BStr). SplitsTitle message (bstr_bytes parts.title) (bytes_if_some it)) is split

pub body_before_end : (message : List ℕ) (parts : MessageRef) (body : BStr) → SplitsTitle message (bstr_bytes parts.title) (bytes_if_some parts.body)
    → parts.body ≡ Some body → HasPieceBefore message (bstr_bytes body) 0
body_before_end message parts body split is = body_before message (bstr_bytes parts.title) (bstr_bytes body) (split_of message parts (Some body) split is)

pub message_with_body : (message : List ℕ) (parts : MessageRef) (body : BStr) (out : Message)
    → SplitsTitle message (bstr_bytes parts.title) (bytes_if_some parts.body)
    → parts.body ≡ Some body → out.has_body ≡ 1 → IsSpanAtStart message (bstr_bytes parts.title) out.title → IsSpanBefore message (bstr_bytes body) 0 out.body
    → IsMessageOf message out
message_with_body message parts body out split is has title span =
    inr (has, (bstr_bytes parts.title, bstr_bytes body, title, span, split_of message parts (Some body) split is))

pub message_without_body : (message : List ℕ) (parts : MessageRef) (out : Message) → SplitsTitle message (bstr_bytes parts.title) (bytes_if_some parts.body)
    → parts.body ≡ None → out.has_body ≡ 0 → IsEmptyAt 0 out.body → IsSpanAtStart message (bstr_bytes parts.title) out.title → IsMessageOf message out
message_without_body message parts out split is has empty title = inl (has, empty, (bstr_bytes parts.title, title, split_of message parts None split is))

pub summary_call_of_written : (message title bytes before after : List ℕ) (body : Option (List ℕ)) (len_before len status : ℕ) → SplitsTitle message title body
    → bytes ≡ summary_of title → WritesBytes bytes before after len status → IsSummaryCall message before after len_before len status
summary_call_of_written message title bytes before after body len_before len status split same writes =
    (title, body, split, inl (subst (λ (it : List ℕ). WritesBytes it before after len status) same writes))
