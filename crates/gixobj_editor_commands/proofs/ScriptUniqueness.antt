-- A script decodes uniquely, and it has no bad line; used for laws of scripts.
use Rattle.std.proofs.Common.{◌≡◌, ◌↔◌, ◌+◌, ◌++◌, ◌∷◌, ℕ, All, List, [], ap, inl, inr, length, refl, subst, suc, sym, ◌∙◌}
use Rattle.std.proofs.lemmas.List.Elements.{All-cons, All-head, All-nil, All-push, All-tail}
use Rattle.std.proofs.lemmas.List.{append-nil}
use Rattle.std.specs.List.{AllZip}
use Rattle.gixobj_editor_commands.specs.Views.{CommandView}
use Rattle.gixobj_hash.specs.declared.hash.kind.Kind as hash
use Rattle.gixobj_hash.proofs.SplitsAtEach.{flat_map_ended_append, split_at_each_unique, split_at_each_exists}
use Rattle.gixobj_editor_commands.proofs.EncodedLines.{command_unique}
use Rattle.gixobj_editor_commands.proofs.ScriptDecoding.{filled_lines_snoc}
use Rattle.gixobj_editor_commands.specs.Lines.{DecodesToCommand}
use Rattle.gixobj_hash.specs.Splits.{IsSplitAtEach}
use Rattle.gixobj_editor_commands.specs.Scripts.{IsBadLine, IsFirstBad, IsGoodLine, IsScript, filled_lines}
use Rattle.gixobj_hash.specs.Bytes.{newline}
use Rattle.gixobj_hash.specs.ByteStrings.{IsByteFree}

-- ---- unique decoding

commands_unique : (hash : hash.Kind) (lines : List (List ℕ)) (a b : List CommandView) → AllZip (DecodesToCommand hash) lines a
    → AllZip (DecodesToCommand hash) lines b
    → a ≡ b
commands_unique hash [] [] [] first second = refl
commands_unique hash [] [] (y ∷ b) first second = absurd second
commands_unique hash [] (x ∷ a) b first second = absurd first
commands_unique hash (line ∷ lines) [] b first second = absurd first
commands_unique hash (line ∷ lines) (x ∷ a) [] first second = absurd second
commands_unique hash (line ∷ lines) (x ∷ a) (y ∷ b) first second =
    let heads = command_unique hash line x y first.0 second.0 in
    let tails = commands_unique hash lines a b first.1 second.1 in
    cc (heads, tails)

pub script_unique : (hash : hash.Kind) (content : List ℕ) (a b : List CommandView) → IsScript hash content a → IsScript hash content b → a ≡ b
script_unique hash content a b first second =
    let P : List (List ℕ) → Type 0 = λ it. AllZip (DecodesToCommand hash) (filled_lines it) b in
    commands_unique hash (filled_lines first.lines) a b first.each
    (subst P (split_at_each_unique newline content second.lines first.lines second.split_parts first.split_parts) second.each)

-- ---- bad lines

-- a bad line is not a good line
good_line_not_bad : (hash : hash.Kind) (line : List ℕ) → IsGoodLine hash line → IsBadLine hash line → ⊥
good_line_not_bad hash line (inl empty) bad = bad.0 empty
good_line_not_bad hash line (inr (command, is)) bad = bad.1 command is

-- two first bad lines have equally many lines before them
lines_before_bad_len_eq : (hash : hash.Kind) (a b x y : List (List ℕ)) (line line' : List ℕ) → All (IsGoodLine hash) a → All (IsGoodLine hash) b
    → IsBadLine hash line
    → IsBadLine hash line' → a ++ line ∷ x ≡ b ++ line' ∷ y → length a ≡ length b
lines_before_bad_len_eq hash [] [] x y line line' good good' bad bad' same = refl
lines_before_bad_len_eq hash [] (second ∷ b) x y line line' good good' bad bad' same =
    let heads : line ≡ second = cc same in
    absurd (good_line_not_bad hash second (All-head (IsGoodLine hash) second b good') (subst (IsBadLine hash) heads bad))
lines_before_bad_len_eq hash (first ∷ a) [] x y line line' good good' bad bad' same =
    let heads : line' ≡ first = cc same in
    absurd (good_line_not_bad hash first (All-head (IsGoodLine hash) first a good) (subst (IsBadLine hash) heads bad'))
lines_before_bad_len_eq hash (first ∷ a) (second ∷ b) x y line line' good good' bad bad' same =
    let tails : a ++ line ∷ x ≡ b ++ line' ∷ y = cc same in
    ap suc (lines_before_bad_len_eq hash a b x y line line' (All-tail (IsGoodLine hash) first a good)
    (All-tail (IsGoodLine hash) second b good') bad bad' tails)

pub malformed_line_unique : (hash : hash.Kind) (content : List ℕ) (number number' : ℕ) → IsFirstBad hash content number → IsFirstBad hash content number'
    → number ≡ number'
malformed_line_unique hash content number number' (line, first, bad) (line', second, bad') =
    let same = split_at_each_unique newline content _ _ first.split_parts second.split_parts in
    let many = lines_before_bad_len_eq hash first.before second.before first.following second.following line line' first.good second.good bad bad' same in
    first.counted ∙ ap (λ (it : ℕ). it + 1) many ∙ sym second.counted

-- each line of a script is good
all_good_of_commands : (hash : hash.Kind) (lines : List (List ℕ)) (commands : List CommandView) → AllZip (DecodesToCommand hash) (filled_lines lines) commands
    → All (IsGoodLine hash) lines
all_good_of_commands hash [] commands each = All-nil (IsGoodLine hash)
all_good_of_commands hash ([] ∷ lines) commands each = All-cons (IsGoodLine hash) [] lines (inl refl) (all_good_of_commands hash lines commands each)
all_good_of_commands hash ((byte ∷ bytes) ∷ lines) [] each = absurd each
all_good_of_commands hash ((byte ∷ bytes) ∷ lines) (command ∷ commands) each = All-cons (IsGoodLine hash) (byte ∷ bytes) lines (inr (command, each.0))
    (all_good_of_commands hash lines commands each.1)

good_line_at_middle : (hash : hash.Kind) (before after : List (List ℕ)) (line : List ℕ) → All (IsGoodLine hash) (before ++ line ∷ after) → IsGoodLine hash line
good_line_at_middle hash [] after line good = All-head (IsGoodLine hash) line after good
good_line_at_middle hash (first ∷ before) after line good = good_line_at_middle hash before after line
    (All-tail (IsGoodLine hash) first (before ++ line ∷ after) good)

pub no_malformed_line_of_script : (hash : hash.Kind) (content : List ℕ) (commands : List CommandView) (number : ℕ) → IsScript hash content commands
    → IsFirstBad hash content number
    → ⊥
no_malformed_line_of_script hash content commands number script (line, is, bad) =
    let same = split_at_each_unique newline content _ _ script.split_parts is.split_parts in
    let good = subst (All (IsGoodLine hash)) same (all_good_of_commands hash script.lines commands script.each) in
    good_line_not_bad hash line (good_line_at_middle hash is.before is.following line good) bad

-- ---- the last newline

-- an empty line follows a last newline
is_split_at_each_snoc_newline : (content : List ℕ) (lines : List (List ℕ)) → IsSplitAtEach newline content lines
    → IsSplitAtEach newline (content ++ newline ∷ [])
    (lines ++ [] ∷ [])
is_split_at_each_snoc_newline content lines split =
    record {
      joined = ap (λ (it : List ℕ). it ++ newline ∷ []) split.joined ∙ sym (flat_map_ended_append newline lines ([] ∷ []));
      free = All-push (IsByteFree newline) lines [] split.free (All-nil (λ (it : ℕ). it ≡ newline → ⊥));
    }

filled_lines_snoc_nil : (lines : List (List ℕ)) → filled_lines (lines ++ [] ∷ []) ≡ filled_lines lines
filled_lines_snoc_nil lines = filled_lines_snoc lines [] ∙ append-nil (filled_lines lines)

pub is_script_iff_with_newline : (hash : hash.Kind) (content : List ℕ) (commands : List CommandView) → IsScript hash content commands ↔ IsScript hash
    (content ++ newline ∷ []) commands
is_script_iff_with_newline hash content commands = (with_newline, without)
  where
    P : List (List ℕ) → Type 0
    P it = AllZip (DecodesToCommand hash) it commands

    with_newline : IsScript hash content commands → IsScript hash (content ++ newline ∷ []) commands
    with_newline script = record {
      lines = script.lines ++ [] ∷ [];
      split_parts = is_split_at_each_snoc_newline content script.lines script.split_parts;
      each = subst P
          (sym (filled_lines_snoc_nil script.lines)) script.each;
    }

    without : IsScript hash (content ++ newline ∷ []) commands → IsScript hash content commands
    without script =
        let (lines, split) = split_at_each_exists newline content in
        let same = split_at_each_unique newline (content ++ newline ∷ []) script.lines (lines ++ [] ∷ []) script.split_parts
        (is_split_at_each_snoc_newline content lines split) in
        record { lines = lines; split_parts = split; each = subst P (ap filled_lines same ∙ filled_lines_snoc_nil lines) script.each }
