-- The join of the slice is that of its names.
use Rattle.std.proofs.Common.{◌∙◌, ◌∷◌, [], ap, map, sym}
use Rattle.std.proofs.lemmas.Iterator.{YieldsList-from_slice, items_from_drains}
use Rattle.std.proofs.lemmas.Simd.{map-map}
use Rattle.bstr.specs.Owned.{bstring_bytes, joined}
use Rattle.gixobj_hash.specs.Bytes.{slash}
use Rattle.gixobj_editor_lookups.proofs.removal.join_names.Goals as goal

pub returns : goal.returns
returns c =
    let joined_is = c.in_ok-bytes.ensures {u = tt} in
    let end = joined_is.3.1 in
    let now_is = items_from_drains {v = λ y. y.now} joined_is.1 (end.0, end.1, λ _. (joined_is.3.0, end.2))
    (YieldsList-from_slice c.args.path.now joined_is.2.0) in
    c.from.ensures ∙ joined_is.4 ∙ ap (joined (slash ∷ [])) (sym (map-map bstring_bytes (λ y. y.now) joined_is.1) ∙ ap (map bstring_bytes) now_is)
