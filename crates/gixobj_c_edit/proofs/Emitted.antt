-- The replies to an edit script end in a write, whose id and trees are what `edited` returns: `editor_of`,
-- `replies_of`, `new_trees` and `last_id` use it.
use Rattle.std.proofs.Common.{◌≡◌, ◌∷◌, ◌++◌, ◌-◌, ◌∙◌, All, Contains, List, [], ℕ, ap, arith, inl, inr, length, length-append, refl, subst, sym, take}
use Rattle.std.proofs.Math.Seq.{take-append_seam}
use Rattle.std.proofs.lemmas.List.Elements.{All-contains, All-take, Contains-push}
use Rattle.std.specs.Fn.{FnReturnsAt, Shared}
use Rattle.std.specs.List.{flat_map}
use Rattle.std.specs.Prelude.{None, Option, Result, Some, map, option_copied, slice_get}
use denote.Ref.{Bor}
use Rattle.gixobj_editor_write.specs.declared.write.WriteError.TheVariants as write
use Rattle.gixobj_editor_write.specs.declared.write.Written.{Written}
use Rattle.gixobj_c_edit.specs.Edits.{HasRun, IsCommandsOf, HasOwnId, IsEditError, IsEmitted, IsRepliesError, IsScriptFailure, IsStart, IsStartError}
use Rattle.gixobj_c_edit.specs.Failures.{given_failure}
use Rattle.gixobj_c_edit.specs.Frames.{HoldsFrames, encode_frame}
use Rattle.gixobj_c_edit.specs.Lossy.{IsLossless}
use Rattle.gixobj_c_edit.specs.declared.frames.Given.{Given}
use Rattle.gixobj_c_edit.specs.Replies.{AreDone, EndsInWrite, IsReplyToWrite, written_id}
use Rattle.gixobj_c_edit.specs.Roots.{IsRootError}
use Rattle.gixobj_c_edit.specs.declared.failure.Failure.{Failure}
use Rattle.gixobj_c_edit.specs.declared.failure.Failure.TheVariants as failure
use Rattle.gixobj_c_edit.proofs.EditRuns.{IsDone}
use Rattle.gixobj_editor.specs.Commands.{emitted_pairs}
use Rattle.gixobj_editor.specs.Replies.{IsRun}
use Rattle.gixobj_editor_commands.specs.Views.{command_view}
use Rattle.gixobj_editor_commands.specs.declared.command.Command.{Command}
use Rattle.gixobj_editor.specs.declared.reply.EditReply.TheVariants as edit_reply
use Rattle.gixobj_editor.specs.declared.reply.Reply.{Reply}
use Rattle.gixobj_editor.specs.declared.reply.Reply.TheVariants as reply
use Rattle.gixobj_streams.specs.declared.encode.Error.{Error}
use Rattle.gixobj_editor_files.specs.State.{State}
use Rattle.gixobj_hash.specs.Hash.{id_bytes}
use Rattle.gixobj_hash.specs.declared.hash.kind.Kind.{Kind}
use Rattle.gixobj_hash.specs.declared.hash.object_id.ObjectId.{ObjectId}
use Rattle.gixobj_store_keep.specs.Memory.{memory_objects}
use Rattle.gixobj_store_keep.specs.declared.memory.Memory.{Memory}
use Rattle.gixobj_cli_edit.proofs.WiderRelations.{run_wider}
use Rattle.gixobj_cli_edit.specs.Edits.{memory_model}
use Rattle.gixobj_store.specs.Stores.{Objects}
use Rattle.gixobj_tree_entries.specs.Entries.{EntryView}
use Rattle.gixobj_tree.specs.TreeEncoding.{IsDigestResult}

-- ---- the replies

slice_get_seam : (before : List (Reply Error)) (last : Reply Error) → slice_get (before ++ last ∷ []) (length before) ≡ Some last
slice_get_seam [] last = refl
slice_get_seam (first ∷ before) last = slice_get_seam before last

module _ (all before : List (Reply Error)) (last : Reply Error) (joined : all ≡ before ++ last ∷ []) where
  pub done_before_last : AreDone all → AreDone before
  done_before_last done = subst AreDone (ap (take (length before)) joined ∙ take-append_seam before (last ∷ [])) (All-take IsDone (length before) all done)

  done_last : AreDone all → IsDone last
  done_last done = All-contains IsDone all last done (subst (λ (them : List (Reply Error)). Contains them last) (sym joined) (Contains-push before last))

  got_last : slice_get all (length all - 1) ≡ Some last
  got_last =
      let len = ap length joined ∙ length-append before (last ∷ []) in
      let index : length all - 1 ≡ length before = omega (arith, len) in
      ap (slice_get all) index ∙ ap (λ (them : List (Reply Error)). slice_get them (length before)) joined ∙ slice_get_seam before last

-- the reply to a write that is done
is_written : (last : Reply Error) → IsReplyToWrite last → IsDone last → (written : Written) × (last ≡ reply.Edit (edit_reply.Written written))
is_written (reply.Edit (edit_reply.Written written)) is done = (written, refl)
is_written (reply.Edit (edit_reply.WriteRefused (write.Out error))) is done = absurd (cc done)
is_written (reply.Edit (edit_reply.WriteRefused write.OutOfMemory)) is done = absurd (cc done)
is_written (reply.Edit (edit_reply.NotKept written count error)) is done = absurd (cc done)
is_written (reply.Edit edit_reply.Done) is done = absurd is
is_written (reply.Edit (edit_reply.Refused error)) is done = absurd is
is_written (reply.At replies) is done = absurd is
is_written (reply.AtRefused error) is done = absurd is
is_written reply.RootSet is done = absurd is
is_written reply.RootRefused is done = absurd is

-- the last of the replies, which is that of a write
record IsLastWritten (all : List (Reply Error)) (got : Option (Reply Error)) : Type 0 where
  pub before : List (Reply Error)
  pub written : Written
  pub joined : all ≡ before ++ reply.Edit (edit_reply.Written written) ∷ []
  pub is : got ≡ Some (reply.Edit (edit_reply.Written written))

is_last_written : (all : List (Reply Error)) (got : Option (Reply Error)) → EndsInWrite all → AreDone all → got ≡ slice_get all (length all - 1)
    → IsLastWritten all got
is_last_written all got (before, last, joined, is) done same =
    let it = is_written last is (done_last all before last joined done) in record {
      before = before;
      written = it.0;
      joined = joined ∙ ap (λ (r : Reply Error). before ++ r ∷ []) it.1;
      is = same ∙ got_last all before last joined ∙ ap Some it.1;
    }

abbrev written_id_of : Option (Reply Error) → Option ObjectId
written_id_of (Some it) = written_id it
written_id_of None = None

pub last_id_is_written : (all : List (Reply Error)) (got : Option (Bor (Reply Error))) (last : Bor (Reply Error)) (id : ObjectId) → EndsInWrite all
    → AreDone all → option_copied got ≡ slice_get all (length all - 1) → got ≡ Some last → written_id last.now ≡ Some id
    → (before : List (Reply Error)) × (written : Written) × (all ≡ before ++ reply.Edit (edit_reply.Written written) ∷ []) × (id ≡ written.id)
last_id_is_written all got last id ends done same is found =
    let it = is_last_written all (option_copied got) ends done same in
    let named : ◌≡◌ {A = Option ObjectId} (Some id) (Some it.written.id) =
    sym found ∙ ap written_id_of (sym (ap option_copied is) ∙ it.is) in
    let its_id : id ≡ it.written.id = cc named in
    (it.before, it.written, it.joined, its_id)

pub is_emitted : (hash : Kind) (all before : List (Reply Error)) (written : Written) (frames : List ℕ) (id : ObjectId)
    → all ≡ before ++ reply.Edit (edit_reply.Written written) ∷ [] → id ≡ written.id → AreDone all
    → frames ≡ flat_map encode_frame (emitted_pairs all) → All (λ pair. IsLossless hash pair.1) (emitted_pairs all)
    → IsEmitted hash all frames (id_bytes id)
is_emitted hash all before written frames id joined same done framed lossless = record {
  replies = before;
  written = written;
  joined = joined;
  done = done_before_last all before (reply.Edit (edit_reply.Written written)) joined done;
  framed = framed;
  lossless = lossless;
  named = ap id_bytes same;
}

-- ---- the start

pub start_error_of_root : (hash : Kind) (trees root : List ℕ) (given : Given) (cause known it : Failure) (number : ℕ) (ids : List ℕ)
    → HoldsFrames hash trees given → IsRootError (memory_objects given.trees) hash root cause → known ≡ given_failure (memory_objects given.lossy) cause
    → HasOwnId known it ids → number ≡ 0 → IsStartError hash trees root it number ids
start_error_of_root hash trees root given cause known it number ids holds error same own zero =
    (zero, (known, inr (memory_objects given.trees, memory_objects given.lossy, cause, holds, error, same), own))

-- ---- the run

pub has_run_of_answers : {F : Type 0} (of : Shared F (Bor (List EntryView) × Unit {0}) (Result ObjectId Error)) (out : F) (hash : Kind) (old new : State Memory)
    (commands : List Command) (replies : List (Reply Error))
    → ((tree : List EntryView) (answer : Result ObjectId Error) → FnReturnsAt of out tree answer → IsDigestResult hash tree answer)
    → IsRun memory_model (λ tree answer. FnReturnsAt of out tree answer) old commands replies new → HasRun hash old commands replies
has_run_of_answers of out hash old new commands replies within ran =
    (new, run_wider memory_model (λ tree answer. FnReturnsAt of out tree answer) (IsDigestResult hash) within old new commands replies ran)

pub edit_error_of_replies : (hash : Kind) (trees root script : List ℕ) (lossy : Objects) (state : State Memory) (all : List Command)
    (replies : List (Reply Error)) (it : Failure) (number : ℕ) (ids : List ℕ)
    → IsCommandsOf hash script all → IsStart hash trees root lossy state → HasRun hash state all replies
    → IsRepliesError hash lossy replies it number ids → IsEditError hash trees root script it number ids
edit_error_of_replies hash trees root script lossy state all replies it number ids (commands, joined, decodes) start ran error =
    inr (inr (
      lossy,
      replies,
      record {
        commands = commands;
        decodes = decodes;
        state = state;
        start = start;
        ran = subst (λ (them : List Command). HasRun hash state them replies) joined ran;
      },
      error,
    ))

pub edit_error_of_script : (hash : Kind) (trees root script : List ℕ) (lossy : Objects) (state : State Memory) (it : Failure) (number : ℕ) (ids : List ℕ)
    → IsStart hash trees root lossy state → IsScriptFailure hash script it number → IsEditError hash trees root script it number ids
edit_error_of_script hash trees root script lossy state it number ids start error = inr (inl (lossy, state, start, error))

pub edit_error_of_memory : (hash : Kind) (trees root script : List ℕ) (lossy : Objects) (state : State Memory) (all : List Command) (it : Failure) (number : ℕ)
    (ids : List ℕ) → IsCommandsOf hash script all → IsStart hash trees root lossy state → (it ≡ failure.OutOfMemory) × (number ≡ 0)
    → IsEditError hash trees root script it number ids
edit_error_of_memory hash trees root script lossy state all it number ids (commands, joined, decodes) start (memory, zero) =
    edit_error_of_script hash trees root script lossy state it number ids start (inr (memory, zero, inr (map command_view commands, decodes)))
