-- An opening, an upsert and a removal make the same of the same open directories; the laws on outcomes use it.
use Rattle.std.proofs.Common.{◌≡◌, ◌∙◌, ◌++◌, ◌∷◌, ℕ, [], List, None, Option, Some, ap, cond, inl, inr, refl, subst, sym}
use Rattle.std.specs.Option.{option_map}
use Rattle.gix_object.specs.Bases.{base_edited, base_opened, edited_bases, opened_bases}
use Rattle.gix_object.specs.Editing.{same_name, with_entry, without}
use Rattle.gix_object.specs.Edits.{Finds, Opens, arrived, down, found, only_open, or_empty, removed_dirs, stops, upserted_dirs, with_dir, with_directory}
use Rattle.gix_object.specs.Entries.{EntryView}
use Rattle.gix_object.specs.Files.{Path, Trees}
use Rattle.gix_object.specs.Opening.{Dirs, HasAt, in_dir}
use Rattle.gix_object.specs.hash.hash.object_id.ObjectId.{ObjectId}
use Rattle.gixobj_examples_audits.specs.Outcomes.{AreSameDirs}

some_injective : (xs ys : List EntryView) → Some xs ≡ Some ys → xs ≡ ys
some_injective xs ys is = cc is

none_not_some : (x : Option (List EntryView)) (ys : List EntryView) → x ≡ None → x ≡ Some ys → ⊥
none_not_some x ys none some = let both : None ≡ Some ys = sym none ∙ some in cc both

-- ---- openings

with_dir_same : (name : List ℕ) (inner inner' d d' : Dirs) → AreSameDirs inner inner' → AreSameDirs d d'
    → AreSameDirs (with_dir name inner d) (with_dir name inner' d')
with_dir_same name inner inner' d d' same_inner same [] = same []
with_dir_same name inner inner' d d' same_inner same (first ∷ path) =
    ap (λ (x : Option (List EntryView)). cond (same_name name first) x (d (first ∷ path))) (same_inner path)
    ∙ ap (λ (x : Option (List EntryView)). cond (same_name name first) (inner' path) x) (same (first ∷ path))

record AreOneFind (es xs : List EntryView) (fs gs : List ObjectId) : Type 0 where
  entries : es ≡ xs
  ids : fs ≡ gs

finds_unique : (trees : Trees) (id : ObjectId) (es xs : List EntryView) (fs gs : List ObjectId) → Finds trees id es fs → Finds trees id xs gs
    → AreOneFind es xs fs gs
finds_unique trees id es xs fs gs (_, inl a) (_, inl b) = record { entries = a.1 ∙ sym b.1; ids = a.2 ∙ sym b.2 }
finds_unique trees id es xs fs gs (_, inl a) (_, inr b) = absurd (b.0 a.0)
finds_unique trees id es xs fs gs (_, inr a) (_, inl b) = absurd (a.0 b.0)
finds_unique trees id es xs fs gs (_, inr a) (_, inr b) = record { entries = some_injective es xs (sym a.1 ∙ b.1); ids = a.2 ∙ sym b.2 }

pub record AreOneOpening (new new' : Dirs) (looked_up looked_up' : List ObjectId) : Type 0 where
  pub dirs : AreSameDirs new new'
  pub ids : looked_up ≡ looked_up'

module _ (StopsBefore : EntryView → Type 0) (trees : Trees) where
  pub opens_unique : (path : Path) (dirs dirs' new new' : Dirs) (ids ids' : List ObjectId) → AreSameDirs dirs dirs'
      → Opens StopsBefore trees path dirs new ids → Opens StopsBefore trees path dirs' new' ids' → AreOneOpening new new' ids ids'
  opens_unique path dirs dirs' new new' ids ids' same (arrived d) (arrived d') = record { dirs = same; ids = refl }
  opens_unique path dirs dirs' new new' ids ids' same (stops name rest d ends closed) (stops name' rest' d' ends' closed') = record { dirs = same; ids = refl }
  opens_unique path dirs dirs' new new' ids ids' same
      (stops name rest d ends closed) (down name' rest' d' inner' e' entries' seen' has' named' opened' below') =
      absurd (none_not_some (d (name ∷ [])) entries' (closed []) (same (name ∷ []) ∙ opened'))
  opens_unique path dirs dirs' new new' ids ids' same (stops name rest d ends closed)
      (found name' rest' d' inner' e' entries' first' seen' entry' tree' goes' closed' finds' below') =
      absurd (goes' (ends e' (subst (λ (o : Option (List EntryView)). HasAt o e') (sym (same [])) entry'.0) entry'.1))
  opens_unique path dirs dirs' new new' ids ids' same (down name rest d inner e entries seen has named opened below) (stops name' rest' d' ends' closed') =
      absurd (none_not_some (d' (name ∷ [])) entries (closed' []) (sym (same (name ∷ [])) ∙ opened))
  opens_unique path dirs dirs' new new' ids ids' same (down name rest d inner e entries seen has named opened below)
      (down name' rest' d' inner' e' entries' seen' has' named' opened' below') =
      let it = opens_unique rest (in_dir name d) (in_dir name d') inner inner' seen seen' (λ p. same (name ∷ p)) below below' in
      record { dirs = with_dir_same name inner inner' d d' it.dirs same; ids = it.ids }
  opens_unique path dirs dirs' new new' ids ids' same (down name rest d inner e entries seen has named opened below)
      (found name' rest' d' inner' e' entries' first' seen' entry' tree' goes' closed' finds' below') =
      absurd (none_not_some (d' (name ∷ [])) entries (closed' []) (sym (same (name ∷ [])) ∙ opened))
  opens_unique path dirs dirs' new new' ids ids' same (found name rest d inner e entries first seen entry tree goes closed finds below)
      (stops name' rest' d' ends' closed') =
      absurd (goes (ends' e (subst (λ (o : Option (List EntryView)). HasAt o e) (same []) entry.0) entry.1))
  opens_unique path dirs dirs' new new' ids ids' same (found name rest d inner e entries first seen entry tree goes closed finds below)
      (down name' rest' d' inner' e' entries' seen' has' named' opened' below') =
      absurd (none_not_some (d (name ∷ [])) entries' (closed []) (same (name ∷ []) ∙ opened'))
  opens_unique path dirs dirs' new new' ids ids' same (found name rest d inner e entries first seen entry tree goes closed finds below)
      (found name' rest' d' inner' e' entries' first' seen' entry' tree' goes' closed' finds' below') =
      let that : e' ≡ e = entry.2 e' (subst (λ (o : Option (List EntryView)). HasAt o e') (sym (same [])) entry'.0) entry'.1 in
      let one = finds_unique trees e.id entries entries' first first' finds (subst (λ (y : EntryView). Finds trees y.id entries' first') that finds') in
      let it = opens_unique rest (only_open entries) (only_open entries') inner inner' seen seen'
      (λ p. ap (λ (es : List EntryView). only_open es p) one.entries) below below' in
      record {
        dirs = with_dir_same name inner inner' d d' it.dirs same;
        ids = ap (λ (is : List ObjectId). is ++ seen) one.ids ∙ ap (λ (is : List ObjectId). first' ++ is) it.ids;
      }

-- ---- edits

pub upserted_dirs_same : (path : Path) (mode : ℕ) (id null : ObjectId) (dirs others : Dirs) → AreSameDirs dirs others
    → AreSameDirs (upserted_dirs path mode id null dirs) (upserted_dirs path mode id null others)
upserted_dirs_same [] mode id null dirs others same at = same at
upserted_dirs_same (name ∷ []) mode id null dirs others same [] =
    ap (λ (o : Option (List EntryView)). Some (with_entry (record { mode = mode; name = name; id = id }) (or_empty o))) (same [])
upserted_dirs_same (name ∷ []) mode id null dirs others same (first ∷ at) =
    ap (λ (o : Option (List EntryView)). cond (same_name name first) None o) (same (first ∷ at))
upserted_dirs_same (name ∷ next ∷ rest) mode id null dirs others same [] =
    ap (λ (o : Option (List EntryView)). Some (with_directory name null (or_empty o))) (same [])
upserted_dirs_same (name ∷ next ∷ rest) mode id null dirs others same (first ∷ at) =
    ap (λ (o : Option (List EntryView)). cond (same_name name first) o (dirs (first ∷ at)))
    (upserted_dirs_same (next ∷ rest) mode id null (in_dir name dirs) (in_dir name others) (λ p. same (name ∷ p)) at)
    ∙ ap (λ (o : Option (List EntryView)). cond (same_name name first) (upserted_dirs (next ∷ rest) mode id null (in_dir name others) at) o)
    (same (first ∷ at))

pub removed_dirs_same : (path : Path) (dirs others : Dirs) → AreSameDirs dirs others → AreSameDirs (removed_dirs path dirs) (removed_dirs path others)
removed_dirs_same [] dirs others same at = same at
removed_dirs_same (name ∷ []) dirs others same [] = ap (λ (o : Option (List EntryView)). option_map (without name) o) (same [])
removed_dirs_same (name ∷ []) dirs others same (first ∷ at) =
    ap (λ (o : Option (List EntryView)). cond (same_name name first) None o) (same (first ∷ at))
removed_dirs_same (name ∷ next ∷ rest) dirs others same [] = same []
removed_dirs_same (name ∷ next ∷ rest) dirs others same (first ∷ at) =
    ap (λ (o : Option (List EntryView)). cond (same_name name first) o (dirs (first ∷ at)))
    (removed_dirs_same (next ∷ rest) (in_dir name dirs) (in_dir name others) (λ p. same (name ∷ p)) at)
    ∙ ap (λ (o : Option (List EntryView)). cond (same_name name first) (removed_dirs (next ∷ rest) (in_dir name others) at) o) (same (first ∷ at))

-- ---- bases

pub edited_bases_same : (old old' new new' bases bases' : Dirs) → AreSameDirs old old' → AreSameDirs new new' → AreSameDirs bases bases'
    → AreSameDirs (edited_bases old new bases) (edited_bases old' new' bases')
edited_bases_same old old' new new' bases bases' same_old same_new same_bases at =
    ap (λ (x : Option (List EntryView)). base_edited x (new at) (bases at)) (same_old at)
    ∙ (ap (λ (x : Option (List EntryView)). base_edited (old' at) x (bases at)) (same_new at)
    ∙ ap (λ (x : Option (List EntryView)). base_edited (old' at) (new' at) x) (same_bases at))

pub opened_bases_same : (old old' new new' bases bases' : Dirs) → AreSameDirs old old' → AreSameDirs new new' → AreSameDirs bases bases'
    → AreSameDirs (opened_bases old new bases) (opened_bases old' new' bases')
opened_bases_same old old' new new' bases bases' same_old same_new same_bases at =
    ap (λ (x : Option (List EntryView)). base_opened x (new at) (bases at)) (same_old at)
    ∙ (ap (λ (x : Option (List EntryView)). base_opened (old' at) x (bases at)) (same_new at)
    ∙ ap (λ (x : Option (List EntryView)). base_opened (old' at) (new' at) x) (same_bases at))
