-- Each kept pair is an emitted pair.
use Rattle.std.proofs.Common.{All, List, [], ◌∷◌, ◌++◌}
use Rattle.std.proofs.lemmas.List.Elements.{All-append, All-cons, All-head, All-nil, All-tail, All-take}
use Rattle.std.specs.List.{flat_map}
use Rattle.gixobj_tree_entries.specs.Entries.{Pair}
use Rattle.gixobj_editor.specs.Commands.{kept_of, kept_of_edit, emitted_pairs, kept_pairs, pairs_of, pairs_of_edit}
use Rattle.gixobj_editor.specs.declared.reply.EditReply.{EditReply}
use Rattle.gixobj_editor.specs.declared.reply.EditReply.TheVariants as edit_reply
use Rattle.gixobj_editor.specs.declared.reply.Reply.{Reply}
use Rattle.gixobj_editor.specs.declared.reply.Reply.TheVariants as reply

module _ (P : Pair → Type 0) where
  pub all_first : (first then : List Pair) → All P (first ++ then) → All P first
  all_first [] then all = All-nil P
  all_first (pair ∷ first) then all = All-cons P pair first (All-head P pair (first ++ then) all) (all_first first then (All-tail P pair (first ++ then) all))

  pub all_then : (first then : List Pair) → All P (first ++ then) → All P then
  all_then [] then all = all
  all_then (pair ∷ first) then all = all_then first then (All-tail P pair (first ++ then) all)

  kept_edit : {E : Type 0} (it : EditReply E) → All P (pairs_of_edit it) → All P (kept_of_edit it)
  kept_edit (edit_reply.Written written) all = all
  kept_edit (edit_reply.NotKept written count error) all = All-take P count written.trees.items all
  kept_edit edit_reply.Done all = all
  kept_edit (edit_reply.Refused error) all = all
  kept_edit (edit_reply.WriteRefused error) all = all

  kept_edits : {E : Type 0} (replies : List (EditReply E)) → All P (flat_map pairs_of_edit replies) → All P (flat_map kept_of_edit replies)
  kept_edits [] all = all
  kept_edits (it ∷ replies) all =
      All-append P (kept_of_edit it) (flat_map kept_of_edit replies) (kept_edit it (all_first (pairs_of_edit it) (flat_map pairs_of_edit replies) all))
      (kept_edits replies (all_then (pairs_of_edit it) (flat_map pairs_of_edit replies) all))

  kept_reply : {E : Type 0} (it : Reply E) → All P (pairs_of it) → All P (kept_of it)
  kept_reply (reply.Edit it) all = kept_edit it all
  kept_reply (reply.At replies) all = kept_edits replies.items all
  kept_reply (reply.AtRefused error) all = all
  kept_reply reply.RootSet all = all
  kept_reply reply.RootRefused all = all

  -- what holds of all emitted pairs holds of all kept pairs
  pub kept_have : {E : Type 0} (replies : List (Reply E)) → All P (emitted_pairs replies) → All P (kept_pairs replies)
  kept_have [] all = all
  kept_have (it ∷ replies) all =
      All-append P (kept_of it) (kept_pairs replies) (kept_reply it (all_first (pairs_of it) (emitted_pairs replies) all))
      (kept_have replies (all_then (pairs_of it) (emitted_pairs replies) all))
