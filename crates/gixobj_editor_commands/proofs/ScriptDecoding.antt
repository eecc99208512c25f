-- A script that is parsed line by line decodes to the commands of its lines, or has a first bad line; used for
-- `parse_script` and laws of scripts.
use Rattle.std.proofs.Common.{◌≡◌, ◌≢◌, ◌+◌, ◌++◌, ◌∷◌, ◌≤◌, ℕ, All, List, [], ap, append_assoc, arith, inl, inr, length, length-append, refl, subst, sym, ◌∙◌}
use Rattle.std.proofs.lemmas.List.Elements.{All-nil, All-push}
use Rattle.std.specs.List.{AllZip}
use Rattle.gixobj_editor_commands.specs.Views.{CommandView}
use Rattle.gixobj_hash.specs.declared.hash.kind.Kind as hash
use Rattle.gixobj_hash.proofs.SplitsAtEach.{ArePrefixes, is_split_at_each_append, are_prefixes_nil, are_prefixes_snoc, split_at_each_exists}
use Rattle.gixobj_hash.proofs.SplitsAtEach.{is_split_at_each_snoc}
use Rattle.gixobj_editor_commands.specs.Lines.{DecodesToCommand}
use Rattle.gixobj_hash.specs.Splits.{IsSplitAtEach}
use Rattle.gixobj_editor_commands.specs.Scripts.{IsFirstBad, IsGoodLine, IsReached, IsScript, AppendsLine, IsScriptLineError, IsScriptParseError, filled_lines}
use Rattle.gixobj_editor_commands.specs.declared.script.ScriptError.{ScriptError}
use Rattle.gixobj_editor_commands.specs.declared.script.ScriptError.TheVariants.{BadLine, OutOfMemory}
use Rattle.gixobj_hash.specs.Bytes.{newline}
use Rattle.gixobj_hash.specs.ByteStrings.{IsByteFree, SplitsAt}

-- the lines before the rest decode to these commands, and the next line has this number
pub record IsReadTo (hash : hash.Kind) (content rest : List ℕ) (commands : List CommandView) (number : ℕ) : Type 0 where
  pub lines : List (List ℕ)
  pub prefix : ArePrefixes newline content rest lines
  pub each : AllZip (DecodesToCommand hash) (filled_lines lines) commands
  pub good : All (IsGoodLine hash) lines
  pub counted : number ≡ length lines + 1
  pub bound : number + length rest ≤ length content + 1

pub is_read_to_nil : (hash : hash.Kind) (content : List ℕ) → IsReadTo hash content content [] 1
is_read_to_nil hash content =
    record { lines = []; prefix = are_prefixes_nil newline content; each = tt; good = All-nil (IsGoodLine hash); counted = refl; bound = omega arith }

-- ---- one line

-- a line that is not empty appends its command
pub appends_line_of_command : (hash : hash.Kind) (line : List ℕ) (command : CommandView) (old new : List CommandView) → line ≢ []
    → DecodesToCommand hash line command → new ≡ old ++ command ∷ [] → AppendsLine hash line old new
appends_line_of_command hash [] command old new some is inserted = absurd (some refl)
appends_line_of_command hash (byte ∷ bytes) command old new some is inserted = (command ∷ [], (is, tt), inserted)

-- ---- line by line

pub filled_lines_snoc : (lines : List (List ℕ)) (line : List ℕ) → filled_lines (lines ++ line ∷ []) ≡ filled_lines lines ++ filled_lines (line ∷ [])
filled_lines_snoc [] line = refl
filled_lines_snoc ([] ∷ lines) line = filled_lines_snoc lines line
filled_lines_snoc ((byte ∷ bytes) ∷ lines) line = ap (λ (it : List (List ℕ)). (byte ∷ bytes) ∷ it) (filled_lines_snoc lines line)

all_zip_append : {X Y : Type 0} (R : X → Y → Type 0) (xs xs' : List X) (ys ys' : List Y) → AllZip R xs ys → AllZip R xs' ys' → AllZip R (xs ++ xs') (ys ++ ys')
all_zip_append R [] xs' [] ys' first second = second
all_zip_append R [] xs' (y ∷ ys) ys' first second = absurd first
all_zip_append R (x ∷ xs) xs' [] ys' first second = absurd first
all_zip_append R (x ∷ xs) xs' (y ∷ ys) ys' first second = (first.0, all_zip_append R xs xs' ys ys' first.1 second)

is_good_line_of_commands : (hash : hash.Kind) (line : List ℕ) (own : List CommandView) → AllZip (DecodesToCommand hash) (filled_lines (line ∷ [])) own
    → IsGoodLine hash line
is_good_line_of_commands hash [] own are = inl refl
is_good_line_of_commands hash (byte ∷ bytes) [] are = absurd are
is_good_line_of_commands hash (byte ∷ bytes) (command ∷ own) are = inr (command, are.0)

commands_of_lines_snoc : (hash : hash.Kind) (lines : List (List ℕ)) (line : List ℕ) (old new : List CommandView)
    → AllZip (DecodesToCommand hash) (filled_lines lines) old
    → AppendsLine hash line old new → AllZip (DecodesToCommand hash) (filled_lines (lines ++ line ∷ [])) new
commands_of_lines_snoc hash lines line old new each (own, are, inserted) =
    rw (filled_lines_snoc lines line, inserted) (all_zip_append (DecodesToCommand hash) (filled_lines lines) (filled_lines (line ∷ [])) old own each are)

len_snoc : (lines : List (List ℕ)) (line : List ℕ) → length (lines ++ line ∷ []) ≡ length lines + 1
len_snoc lines line = length-append lines (line ∷ [])

after_newline_len_lt : (rest line after : List ℕ) → SplitsAt newline rest line after → length after + 1 ≤ length rest
after_newline_len_lt rest line after splits = omega (arith, ap length splits.joined, length-append line (newline ∷ after))

pub is_read_to_snoc : (hash : hash.Kind) (content rest line after : List ℕ) (old new : List CommandView) (number : ℕ) → IsReadTo hash content rest old number
    → SplitsAt newline rest line after → AppendsLine hash line old new
    → IsReadTo hash content after new (number + 1)
is_read_to_snoc hash content rest line after old new number so_far splits inserts =
    record {
      lines = so_far.lines ++ line ∷ [];
      prefix = are_prefixes_snoc newline content rest so_far.lines line after so_far.prefix splits;
      each = commands_of_lines_snoc hash so_far.lines line old new so_far.each inserts;
      good = All-push (IsGoodLine hash) so_far.lines line so_far.good (is_good_line_of_commands hash line inserts.0 inserts.1);
      counted = ap (λ (it : ℕ). it + 1) so_far.counted ∙ ap (λ (it : ℕ). it + 1) (sym (len_snoc so_far.lines line));
      bound = (let less = after_newline_len_lt rest line after splits in omega (arith, less, so_far.bound));
    }

-- the current line is reached
pub is_reached_at_line : (hash : hash.Kind) (content rest line after : List ℕ) (commands : List CommandView) (number : ℕ)
    → IsReadTo hash content rest commands number
    → SplitsAt newline rest line after → IsReached hash content number line
is_reached_at_line hash content rest line after commands number so_far splits =
    let (others, split) = split_at_each_exists newline after in
    let entire = is_split_at_each_append newline content after (so_far.lines ++ line ∷ []) others
    (are_prefixes_snoc newline content rest so_far.lines line after so_far.prefix splits) split in
    let P : List (List ℕ) → Type 0 = IsSplitAtEach newline content in
    record {
      before = so_far.lines;
      following = others;
      split_parts = subst P (append_assoc so_far.lines (line ∷ []) others) entire;
      good = so_far.good;
      counted = so_far.counted;
    }

pub is_reached_at_last_line : (hash : hash.Kind) (content rest : List ℕ) (commands : List CommandView) (number : ℕ) → IsReadTo hash content rest commands number
    → IsByteFree newline rest → IsReached hash content number rest
is_reached_at_last_line hash content rest commands number so_far free =
    record {
      before = so_far.lines;
      following = [];
      split_parts = is_split_at_each_snoc newline content rest so_far.lines so_far.prefix free;
      good = so_far.good;
      counted = so_far.counted;
    }

-- an error of a reached line is an error of the script
pub script_error_of_line : (hash : hash.Kind) (content line : List ℕ) (number : ℕ) (error : ScriptError) → IsReached hash content number line
    → IsScriptLineError hash number line error → IsScriptParseError hash content error
script_error_of_line hash content line number (BadLine bad) is (same, wrong) =
    (let P : ℕ → Type 0 = IsFirstBad hash content in subst P (sym same) (line, is, wrong))
script_error_of_line hash content line number OutOfMemory is has = (number, line, is, has)

pub is_script_at_end : (hash : hash.Kind) (content rest : List ℕ) (old new : List CommandView) (number : ℕ) → IsReadTo hash content rest old number
    → IsByteFree newline rest → AppendsLine hash rest old new → IsScript hash content new
is_script_at_end hash content rest old new number so_far free inserts =
    record {
      lines = so_far.lines ++ rest ∷ [];
      split_parts = is_split_at_each_snoc newline content rest so_far.lines so_far.prefix free;
      each = commands_of_lines_snoc hash so_far.lines rest old new so_far.each inserts;
    }
