-- Trailers by their tokens.
use Rattle.std.specs.Prelude.{◌||◌, ℕ, Bool, List, codes}
use Rattle.std.specs.Str.{str_eq_ignore_ascii_case}

-- the token is this name, ASCII case ignored
abbrev pub is_named : List ℕ → List ℕ → Bool
is_named name token = str_eq_ignore_ascii_case token name

-- the token of an author of the change
abbrev pub names_author : List ℕ → Bool
names_author token = is_named (codes "Signed-off-by") token || is_named (codes "Co-authored-by") token

-- the token of anyone who had a part in the change
abbrev pub names_attribution : List ℕ → Bool
names_attribution token =
    is_named (codes "Signed-off-by") token || (is_named (codes "Co-authored-by") token
    || (is_named (codes "Assisted-by") token || (is_named (codes "Acked-by") token
    || (is_named (codes "Reviewed-by") token || is_named (codes "Tested-by") token))))
