-- The last lines of bytes, from line to line; the functions of `trailers` use these lemmas.
use Rattle.std.proofs.Common.{◌++◌, ◌∙◌, ◌∷◌, List, [], ap, append_assoc, refl, sym, ℕ}
use Rattle.bstr.specs.Text.{lines_of}
use Rattle.gixobj_text.specs.FirstLines.{HasLastLines, IsFirstLine}

pub last_lines_refl : (bytes : List ℕ) → HasLastLines bytes bytes
last_lines_refl bytes = record { skipped = []; joined = refl }

pub last_lines_step : (entire bytes line rest : List ℕ) → HasLastLines entire bytes → IsFirstLine bytes line rest → HasLastLines entire rest
last_lines_step entire bytes line rest last first = record {
  skipped = last.skipped ++ line ∷ [];
  joined = last.joined ∙ ap (λ (lines : List (List ℕ)). last.skipped ++ lines) first.lines
      ∙ sym (append_assoc last.skipped (line ∷ []) (lines_of rest));
}

pub last_lines_trans : (first second third : List ℕ) → HasLastLines first second → HasLastLines second third → HasLastLines first third
last_lines_trans first second third one other = record {
  skipped = one.skipped ++ other.skipped;
  joined = one.joined ∙ ap (λ (lines : List (List ℕ)). one.skipped ++ lines) other.joined
      ∙ sym (append_assoc one.skipped other.skipped (lines_of third));
}
