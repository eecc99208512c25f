-- The encoding of a tree with entries begins with the first entry.
use Rattle.std.proofs.Common.{◌≢◌, ℕ, List, [], ◌∷◌, refl}
use Rattle.std.specs.List.{concat}
use Rattle.gixobj_tree_entries.specs.Entries.{EntryView}
use Rattle.gixobj_hash.specs.declared.hash.kind.Kind as hash
use Rattle.gixobj_tree_entries.specs.TreeDecoding.{BeginsWithEntry, DecodesToTree}

pub first_entry_exists : (hash : hash.Kind) (content : List ℕ) (entries : List EntryView)
    → DecodesToTree hash content entries → entries ≢ [] → (e : EntryView) × (rest : List ℕ) × BeginsWithEntry hash content e rest
first_entry_exists hash content [] (encodings, joined, each) some = absurd (some refl)
first_entry_exists hash content (e ∷ entries) ([], joined, each) some = absurd each
first_entry_exists hash content (e ∷ entries) (bytes ∷ encodings, joined, each) some = (e, concat encodings, (bytes, joined, each.0))
