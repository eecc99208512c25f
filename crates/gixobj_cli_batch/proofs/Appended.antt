-- Lines that are appended one after the other, and the store of records.
use Rattle.std.proofs.Common.{◌≡◌, ◌++◌, ◌∷◌, ◌∙◌, ◌+◌, ◌<◌, ℕ, List, [], Option, ap, append-nil, append_assoc, get_or, length, map, refl, sym, take}
use Rattle.std.proofs.lemmas.List.{map_more, take_more}
use Rattle.std.proofs.lemmas.List.Concat.{flat_map-append}
use Rattle.std.specs.List.{flat_map}
use Rattle.gix_object.specs.Files.{Path}
use Rattle.gix_object.specs.Stores.{Objects}
use Rattle.gixobj_cli_batch.specs.Lines.{change_letter, change_line, id_fields, mode_fields, more_path_bytes, path_bytes}
use Rattle.gixobj_cli_batch.specs.Objects.{objects_of, with_record, with_records}
use Rattle.gixobj_listings.specs.Changes.{VersionView}
use Rattle.gixobj_records.specs.Records.{RecordView, record_view}
use Rattle.gixobj_records.specs.declared.records.Record.{Record}

-- ---- lines

pub flat_map_snoc : {X : Type 0} (f : X → List ℕ) (xs : List X) (x : X) → flat_map f (xs ++ x ∷ []) ≡ flat_map f xs ++ f x
flat_map_snoc f xs x = flat_map-append f xs (x ∷ []) ∙ ap (λ (tail : List ℕ). flat_map f xs ++ tail) (append-nil (f x))

-- the lines of the items so far, and that of the next
pub flat_map_take : {X : Type 0} (f : X → List ℕ) (xs : List X) (i : ℕ) (x : X) (lines more : List ℕ) → i < length xs → x ≡ get_or xs i x
    → lines ≡ flat_map f (take i xs) → more ≡ lines ++ f x → more ≡ flat_map f (take (i + 1) xs)
flat_map_take f xs i x lines more within is before added =
    let taken : take (i + 1) xs ≡ take i xs ++ x ∷ [] = take_more xs i x within ∙ ap (λ it. take i xs ++ it ∷ []) (sym is) in
    added ∙ ap (λ (list : List ℕ). list ++ f x) before ∙ sym (flat_map_snoc f (take i xs) x) ∙ ap (flat_map f) (sym taken)

-- the lines of the items so far, after others, and that of the next
pub appended_take : {X : Type 0} (f : X → List ℕ) (xs : List X) (i : ℕ) (default : X) (old lines more : List ℕ) → i < length xs
    → lines ≡ old ++ flat_map f (take i xs) → more ≡ lines ++ f (get_or xs i default) → more ≡ old ++ flat_map f (take (i + 1) xs)
appended_take f xs i default old lines more within so_far added =
    let x = get_or xs i default in
    let taken : take (i + 1) xs ≡ take i xs ++ x ∷ [] = take_more xs i default within in
    added ∙ ap (λ (list : List ℕ). list ++ f x) so_far ∙ append_assoc old (flat_map f (take i xs)) (f x)
    ∙ ap (λ (list : List ℕ). old ++ list) (sym (flat_map_snoc f (take i xs) x) ∙ ap (flat_map f) (sym taken))

-- ---- paths

pub more_path_bytes_snoc : (path : Path) (name : List ℕ) → more_path_bytes (path ++ name ∷ []) ≡ more_path_bytes path ++ 47 ∷ name
more_path_bytes_snoc [] name = ap (λ (tail : List ℕ). 47 ∷ tail) (append-nil name)
more_path_bytes_snoc (first ∷ path) name =
    ap (λ (tail : List ℕ). 47 ∷ first ++ tail) (more_path_bytes_snoc path name) ∙ sym (append_assoc (47 ∷ first) (more_path_bytes path) (47 ∷ name))

-- the names so far, and the next
pub more_path_bytes_take : {X : Type 0} (f : X → List ℕ) (names : List X) (i : ℕ) (name : X) (before lines slashed more : List ℕ) → i < length names
    → name ≡ get_or names i name → lines ≡ before ++ more_path_bytes (map f (take i names)) → slashed ≡ lines ++ 47 ∷ [] → more ≡ slashed ++ f name
    → more ≡ before ++ more_path_bytes (map f (take (i + 1) names))
more_path_bytes_take f names i name before lines slashed more within is so_far first second =
    let so = more_path_bytes (map f (take i names)) in
    let taken : map f (take (i + 1) names) ≡ map f (take i names) ++ f name ∷ [] =
    map_more f names i name within ∙ ap (λ it. map f (take i names) ++ f it ∷ []) (sym is) in
    let bytes : more_path_bytes (map f (take (i + 1) names)) ≡ so ++ 47 ∷ f name =
    ap more_path_bytes taken ∙ more_path_bytes_snoc (map f (take i names)) (f name) in
    second ∙ ap (λ (list : List ℕ). list ++ f name) (first ∙ ap (λ (list : List ℕ). list ++ 47 ∷ []) so_far)
    ∙ append_assoc (before ++ so) (47 ∷ []) (f name) ∙ append_assoc before so (47 ∷ f name) ∙ ap (λ (list : List ℕ). before ++ list) (sym bytes)

-- ---- stores

with_records_append : (objects : Objects) (records more : List RecordView)
    → with_records objects (records ++ more) ≡ with_records (with_records objects records) more
with_records_append objects [] more = refl
with_records_append objects (it ∷ records) more = with_records_append (with_record objects it) records more

-- the objects of the records so far, and that of the next
pub objects_of_take : (records : List Record) (i : ℕ) (default : Record) (objects more : Objects) → i < length records
    → objects ≡ objects_of (map record_view (take i records)) → more ≡ with_record objects (record_view (get_or records i default))
    → more ≡ objects_of (map record_view (take (i + 1) records))
objects_of_take records i default objects more within before added =
    let it = record_view (get_or records i default) in
    added ∙ ap (λ (store : Objects). with_record store it) before ∙ sym (with_records_append _ (map record_view (take i records)) (it ∷ []))
    ∙ ap objects_of (sym (map_more record_view records i default within))

-- ---- changes

parts_assoc : (old m i l p : List ℕ) → (((((old ++ m) ++ i) ++ l) ++ 9 ∷ []) ++ p) ++ 10 ∷ [] ≡ old ++ ((((m ++ i) ++ l) ++ 9 ∷ p) ++ 10 ∷ [])
parts_assoc old m i l p = simp append_assoc

-- the parts of the line of a change, appended one after the other
pub change_line_of_parts : (old a b c d e f : List ℕ) (before after : Option VersionView) (path : Path) → a ≡ old ++ mode_fields before after
    → b ≡ a ++ id_fields before after → c ≡ b ++ change_letter before after → d ≡ c ++ 9 ∷ [] → e ≡ d ++ path_bytes path → f ≡ e ++ 10 ∷ []
    → f ≡ old ++ change_line (record { path = path; before = before; after = after })
change_line_of_parts old a b c d e f before after path first second third fourth fifth sixth =
    let joined : f ≡ (((((old ++ mode_fields before after) ++ id_fields before after) ++ change_letter before after) ++ 9 ∷ []) ++ path_bytes path) ++ 10 ∷ [] =
    cc (first, second, third, fourth, fifth, sixth) in
    joined ∙ parts_assoc old (mode_fields before after) (id_fields before after) (change_letter before after) (path_bytes path)
