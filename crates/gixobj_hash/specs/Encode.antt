-- The encoding of a loose header (gitformat-loose, "Loose object format").
use Rattle.std.specs.Prelude.{ℕ, List, [], ◌∷◌, ◌++◌, decimal}
use Rattle.gixobj_hash.specs.declared.kind.Kind.{Kind}
use Rattle.gixobj_hash.specs.Kind.{kind_name}
use Rattle.gixobj_hash.specs.Bytes.{space}

-- the loose header of an object of this kind and size: the name of the kind, a space, the size in decimal, a zero
-- byte
abbrev pub encode_loose_header : Kind → ℕ → List ℕ
encode_loose_header kind size = kind_name kind ++ space ∷ decimal size ++ 0 ∷ []
