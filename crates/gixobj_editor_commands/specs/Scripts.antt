-- Scripts of lines that are empty or commands.
use Rattle.std.specs.Prelude.{◌≡◌, ◌≢◌, ◌⊎◌, ◌+◌, ◌++◌, ◌∷◌, ℕ, All, List, [], length}
use Rattle.std.specs.List.{AllZip}
use Rattle.gixobj_editor_commands.specs.Views.{CommandView}
use Rattle.gixobj_hash.specs.declared.hash.kind.Kind as hash
use Rattle.gixobj_editor_commands.specs.Lines.{HasCommand, HasNoCommand, DecodesToCommand}
use Rattle.gixobj_hash.specs.Splits.{IsSplitAtEach}
use Rattle.gixobj_editor_commands.specs.declared.script.ScriptError.{ScriptError}
use Rattle.gixobj_editor_commands.specs.declared.script.ScriptError.TheVariants.{BadLine, OutOfMemory}
use Rattle.gixobj_hash.specs.Bytes.{newline}

-- the lines that are not empty
abbrev pub filled_lines : List (List ℕ) → List (List ℕ)
filled_lines [] = []
filled_lines ([] ∷ lines) = filled_lines lines
filled_lines ((byte ∷ bytes) ∷ lines) = (byte ∷ bytes) ∷ filled_lines lines

-- a script of these commands: its lines that are not empty decode to them, in order; an empty line follows a last
-- newline
pub record IsScript (hash : hash.Kind) (content : List ℕ) (commands : List CommandView) : Type 0 where
  pub lines : List (List ℕ)
  pub split_parts : IsSplitAtEach newline content lines
  pub each : AllZip (DecodesToCommand hash) (filled_lines lines) commands

-- the line is empty or a command
abbrev pub IsGoodLine : hash.Kind → List ℕ → Type 0
IsGoodLine hash line = (line ≡ []) ⊎ HasCommand hash line

-- the line is neither empty nor a command
abbrev pub IsBadLine : hash.Kind → List ℕ → Type 0
IsBadLine hash line = (line ≢ []) × HasNoCommand hash line

-- the command of a line is appended; an empty line has none
abbrev pub AppendsLine : hash.Kind → List ℕ → List CommandView → List CommandView → Type 0
AppendsLine hash line old new = (own : List CommandView) × AllZip (DecodesToCommand hash) (filled_lines (line ∷ [])) own
    × (new ≡ old ++ own)

-- the error of the line with this number: the line is bad, or out of memory for its command
abbrev pub IsScriptLineError : hash.Kind → ℕ → List ℕ → ScriptError → Type 0
IsScriptLineError hash number line (BadLine bad) = (bad ≡ number) × IsBadLine hash line
IsScriptLineError hash number line OutOfMemory = HasCommand hash line

-- the line with this number, from 1, has no bad line before it
pub record IsReached (hash : hash.Kind) (content : List ℕ) (number : ℕ) (line : List ℕ) : Type 0 where
  pub before : List (List ℕ)
  pub following : List (List ℕ)
  pub split_parts : IsSplitAtEach newline content (before ++ line ∷ following)
  pub good : All (IsGoodLine hash) before
  pub counted : number ≡ length before + 1

-- the first bad line has this number
abbrev pub IsFirstBad : hash.Kind → List ℕ → ℕ → Type 0
IsFirstBad hash content number = (line : List ℕ) × IsReached hash content number line × IsBadLine hash line

-- the error of a script: the first bad line, or out of memory for a command before any bad line
abbrev pub IsScriptParseError : hash.Kind → List ℕ → ScriptError → Type 0
IsScriptParseError hash content (BadLine number) = IsFirstBad hash content number
IsScriptParseError hash content OutOfMemory = (number : ℕ) × (line : List ℕ) × IsReached hash content number line
    × HasCommand hash line
