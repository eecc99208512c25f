-- The name of the kind, the size and the rest are the parts of the header.
use Rattle.std.proofs.Common.{ap, ◌≡◌, ◌∷◌, ◌++◌, ◌∙◌, length, ◌+◌, inl, refl}
use Rattle.gixobj_c.proofs.loose.gixobj_loose_header.Goals as goal
use Rattle.gixobj_hash.proofs.Headers.{loose_header_of_parts}
use Rattle.gixobj_hash.specs.Kind.{kind_name}

pub returns : goal.returns
returns c =
    let token = c.in-Some.token.now in
    let kind = c.in-Some-from_name.kind in
    let bytes = c.in-Some-split_at_byte.size_bytes.now in
    let named : token ≡ kind_name kind = c.in-Some-from_name.ensures in
    let header = loose_header_of_parts _ kind c.in-Some-size_from_bytes.size _ record {
      size_bytes = bytes;
      rest = c.in-Some-split_at_byte.field-0-1.now;
      joined = c.in-Some.ensures.found.joined ∙ ap (λ it. it ++ 32 ∷ c.in-Some.after.now) named
          ∙ ap (λ it. kind_name kind ++ 32 ∷ it) c.in-Some-split_at_byte.ensures.found.joined;
      decodes = c.in-Some-size_from_bytes.ensures;
      len = ap (λ it. length it + length bytes + 2) named;
    } in
    inl (refl, (kind, header, c.kind_code.ensures))
