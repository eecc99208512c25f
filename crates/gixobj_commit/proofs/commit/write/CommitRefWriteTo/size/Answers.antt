-- The sizes of the parts of the encoding are added one after the other.
use Rattle.gixobj_hash.proofs.HexIds.{decoded_id_decodes}
use Rattle.gixobj_hash.specs.Hash.Hex.{decoded_id}
use Rattle.bstr.specs.BStr.{bstr_bytes}
use Rattle.std.proofs.Common.{◌^◌}
use Rattle.gixobj_commit.proofs.CommitWrites.{borrowed_commit_in_parts}
use Rattle.gixobj_commit.proofs.PartSteps.{counted_eq_len, no_overflow_at_first, no_overflow_at_fourth, no_overflow_at_second, no_overflow_at_third}
use Rattle.gixobj_commit.proofs.commit.write.CommitRefWriteTo.size.Goals as goal

pub returns-in_err-ids : goal.returns-in_err-ids
returns-in_err-ids c =
    let entire = borrowed_commit_in_parts c.args.self.now (decoded_id (bstr_bytes c.args.self.now.tree)) c.as_slice-parents.result.now
    c.as_bytes-author.result.now
    c.as_bytes-committer.result.now c.as_slice-headers.result.now c.as_bytes-message.result.now
    (decoded_id_decodes (bstr_bytes c.args.self.now.tree) c.requires.tree) c.as_slice-parents.ensures c.as_bytes-author.ensures c.as_bytes-committer.ensures
    c.as_slice-headers.ensures.value c.as_bytes-message.ensures in
    rw c.from_residual.ensures (no_overflow_at_first (2 ^ 64) _ _ _ _ _ entire c.in_err-ids.ensures)

pub returns-in_err-with_author : goal.returns-in_err-with_author
returns-in_err-with_author c =
    let entire = borrowed_commit_in_parts c.args.self.now (decoded_id (bstr_bytes c.args.self.now.tree)) c.as_slice-parents.result.now
    c.as_bytes-author.result.now
    c.as_bytes-committer.result.now c.as_slice-headers.result.now c.as_bytes-message.result.now
    (decoded_id_decodes (bstr_bytes c.args.self.now.tree) c.requires.tree) c.as_slice-parents.ensures c.as_bytes-author.ensures c.as_bytes-committer.ensures
    c.as_slice-headers.ensures.value c.as_bytes-message.ensures in
    rw c.from_residual-in_err-with_author.ensures (no_overflow_at_second
    (2 ^ 64) _ _ _ _ _ c.in_ok-ids.ids entire c.in_ok-ids.ensures.1 c.in_err-with_author.ensures)

pub returns-in_err-lines : goal.returns-in_err-lines
returns-in_err-lines c =
    let entire = borrowed_commit_in_parts c.args.self.now (decoded_id (bstr_bytes c.args.self.now.tree)) c.as_slice-parents.result.now
    c.as_bytes-author.result.now
    c.as_bytes-committer.result.now c.as_slice-headers.result.now c.as_bytes-message.result.now
    (decoded_id_decodes (bstr_bytes c.args.self.now.tree) c.requires.tree) c.as_slice-parents.ensures c.as_bytes-author.ensures c.as_bytes-committer.ensures
    c.as_slice-headers.ensures.value c.as_bytes-message.ensures in
    rw c.from_residual-in_err-lines.ensures
    (no_overflow_at_third (2 ^ 64) _ _ _ _ _ c.in_ok-ids.ids c.in_ok-with_author.with_author entire c.in_ok-ids.ensures.1 c.in_ok-with_author.ensures.1
    c.in_err-lines.ensures)

pub returns-in_err-all : goal.returns-in_err-all
returns-in_err-all c =
    let entire = borrowed_commit_in_parts c.args.self.now (decoded_id (bstr_bytes c.args.self.now.tree)) c.as_slice-parents.result.now
    c.as_bytes-author.result.now
    c.as_bytes-committer.result.now c.as_slice-headers.result.now c.as_bytes-message.result.now
    (decoded_id_decodes (bstr_bytes c.args.self.now.tree) c.requires.tree) c.as_slice-parents.ensures c.as_bytes-author.ensures c.as_bytes-committer.ensures
    c.as_slice-headers.ensures.value c.as_bytes-message.ensures in
    rw c.from_residual-in_err-all.ensures
    (no_overflow_at_fourth (2 ^ 64) _ _ _ _ _ c.in_ok-ids.ids c.in_ok-with_author.with_author c.in_ok-lines.lines entire c.in_ok-ids.ensures.1
    c.in_ok-with_author.ensures.1 c.in_ok-lines.ensures.1 c.in_err-all.ensures)

pub returns : goal.returns
returns c =
    let entire = borrowed_commit_in_parts c.args.self.now (decoded_id (bstr_bytes c.args.self.now.tree)) c.as_slice-parents.result.now
    c.as_bytes-author.result.now
    c.as_bytes-committer.result.now c.as_slice-headers.result.now c.as_bytes-message.result.now
    (decoded_id_decodes (bstr_bytes c.args.self.now.tree) c.requires.tree) c.as_slice-parents.ensures c.as_bytes-author.ensures c.as_bytes-committer.ensures
    c.as_slice-headers.ensures.value c.as_bytes-message.ensures in
    counted_eq_len (2 ^ 64) _ _ _ _ _ c.in_ok-ids.ids c.in_ok-with_author.with_author c.in_ok-lines.lines c.in_ok-all.all entire c.in_ok-ids.ensures.1
    c.in_ok-with_author.ensures.1 c.in_ok-lines.ensures.1 c.in_ok-all.ensures
