-- Codes of an editor's state, which distinguish its values.
use Rattle.std.specs.Prelude.{◌≡◌, refl, ℕ, Bool, true, false, List}
use Rattle.std.specs.FinMap as map
use Rattle.std.specs.Coded.{Coded, code_by, coded×, coded_bool, coded_list, coded_ℕ}
use Rattle.gixobj_tree_entries.specs.Entries.{EntryView}
use Rattle.gixobj_hash.specs.declared.hash.kind.Kind.{Kind}
use Rattle.gixobj_hash.specs.declared.hash.kind.Kind.TheVariants as hash
use Rattle.gixobj_hash.specs.declared.hash.object_id.ObjectId.{ObjectId}
use Rattle.gixobj_hash.specs.declared.hash.object_id.ObjectId.TheVariants as id
use Rattle.gixobj_editor_files.specs.Files.{Path}
use Rattle.gixobj_editor_files.specs.State.{DirMap, State}

-- the flag of a kind: true for SHA-1
abbrev pub is_sha1 : Kind → Bool
is_sha1 hash.Sha1 = true
is_sha1 hash.Sha256 = false

-- the kind of a flag
abbrev pub hash_of : Bool → Kind
hash_of true = hash.Sha1
hash_of false = hash.Sha256

-- the flag of a kind has that kind
pub hash_of_is_sha1 : (it : Kind) → hash_of (is_sha1 it) ≡ it
hash_of_is_sha1 hash.Sha1 = refl
hash_of_is_sha1 hash.Sha256 = refl

-- the code of a kind
abbrev pub hash_code : Coded Kind
hash_code = code_by Bool coded_bool is_sha1 hash_of hash_of_is_sha1

-- the flag of an id's kind, and the bytes of the id
abbrev pub id_parts : ObjectId → Bool × List ℕ
id_parts (id.Sha1 bytes) = (true, bytes)
id_parts (id.Sha256 bytes) = (false, bytes)

-- the id of a flag and bytes
abbrev pub id_from_parts : Bool × List ℕ → ObjectId
id_from_parts (true, bytes) = id.Sha1 bytes
id_from_parts (false, bytes) = id.Sha256 bytes

-- the parts of an id make that id
pub id_from_id_parts : (it : ObjectId) → id_from_parts (id_parts it) ≡ it
id_from_id_parts (id.Sha1 bytes) = refl
id_from_id_parts (id.Sha256 bytes) = refl

-- the code of an id
abbrev pub id_code : Coded ObjectId
id_code = code_by (Bool × List ℕ) (coded× coded_bool (coded_list coded_ℕ)) id_parts id_from_parts id_from_id_parts

-- the code of an entry
abbrev pub entry_code : Coded EntryView
entry_code = code_by (ℕ × (List ℕ × ObjectId)) (coded× coded_ℕ (coded× (coded_list coded_ℕ) id_code))
    (λ e. (e.mode, (e.name, e.id))) (λ p. record { mode = p.0; name = p.1.0; id = p.1.1 }) (λ _. refl)

-- the code of an editor's state, from a code of its store
abbrev pub state_code : {S : Type 0} → Coded S → Coded (State S)
state_code {S} store_code =
    code_by (DirMap × (DirMap × (S × (ℕ × (Kind × Path)))))
    (coded× (map.code (coded_list (coded_list coded_ℕ)) (coded_list entry_code))
    (coded× (map.code (coded_list (coded_list coded_ℕ)) (coded_list entry_code))
    (coded× store_code (coded× coded_ℕ (coded× hash_code (coded_list (coded_list coded_ℕ)))))))
    (λ s. (s.dirs, (s.bases, (s.store, (s.lookups, (s.object_hash, s.prefix))))))
    (λ p. record {
      dirs = p.0;
      bases = p.1.0;
      store = p.1.1.0;
      lookups = p.1.1.1.0;
      object_hash = p.1.1.1.1.0;
      prefix = p.1.1.1.1.1;
    }) (λ _. refl)
