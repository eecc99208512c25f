-- Plain names, in which no fault has to be searched (git-check-ref-format, "DESCRIPTION").
use Rattle.std.specs.Prelude.{◌==◌, ◌&&◌, ◌||◌, ℕ, Bool, not, List, [], ◌∷◌, ◌++◌, All, IsTrue, codes}
use Rattle.std.specs.Char.{is_ascii_alphanumeric}
use Rattle.gixobj_hash.specs.Bytes.{minus}
use Rattle.gixobj_tag.specs.NameRule.{EndsWith, Holds}

-- the byte of a dot
abbrev pub dot : ℕ
dot = 46

-- the byte of an underscore
abbrev pub underscore : ℕ
underscore = 95

-- the byte is a letter, a digit, a dash, an underscore or a dot
abbrev pub is_plain_byte : ℕ → Bool
is_plain_byte byte = is_ascii_alphanumeric byte || byte == minus || byte == underscore || byte == dot

-- the second byte may follow the first: it is plain, and they are not two dots
abbrev pub may_follow : ℕ → ℕ → Bool
may_follow before byte = is_plain_byte byte && (not (before == dot) || not (byte == dot))

-- plain bytes that have no two dots in a row, also with this byte before them and a dot after them
abbrev pub IsDottedAfter : ℕ → List ℕ → Type 0
IsDottedAfter before content = All (λ byte. IsTrue (is_plain_byte byte)) content
    × ¬ Holds (codes "..") (before ∷ (content ++ dot ∷ []))

-- runs of plain bytes, separated by single dots: no dot is first or last, and no two follow each other
abbrev pub IsDotted : List ℕ → Type 0
IsDotted name = IsDottedAfter dot name

-- a dotted name that doesn't end with `.lock`, as git's lock files do
abbrev pub IsPlainName : List ℕ → Type 0
IsPlainName name = IsDotted name × ¬ EndsWith (codes ".lock") name
