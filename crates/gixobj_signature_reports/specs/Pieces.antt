-- The arguments of calls, as they are made of pieces.
use Rattle.std.specs.Prelude.{ℕ, List, [], ◌∷◌, ◌++◌, codes, map}
use Rattle.gixobj_signature_reports.specs.Calls.{WordView, file, plain, verify_time}
use Rattle.gixobj_signature_reports.specs.declared.arguments.Piece.{Piece}
use Rattle.gixobj_signature_reports.specs.declared.arguments.Piece.TheVariants as piece

-- the argument that a piece becomes
abbrev pub piece_view : Piece → WordView
piece_view (piece.Text bytes) = plain bytes.now
piece_view (piece.File number) = file number
piece_view (piece.VerifyTime time) = verify_time time.seconds time.offset

-- the first arguments of an ssh-keygen command on signatures of git, after these arguments (ssh-keygen(1), "-Y", "-n")
abbrev pub git_arguments : List (List ℕ) → List ℕ → List WordView
git_arguments arguments command =
    map plain arguments ++ plain (codes "-Y") ∷ plain command ∷ plain (codes "-n") ∷ plain (codes "git") ∷ []
