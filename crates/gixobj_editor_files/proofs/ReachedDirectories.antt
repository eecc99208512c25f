-- The directories that an opening reaches, and what is found there: for removals by the editor and for `OpenPrefixes`.
use Rattle.std.proofs.Common.{◌≡◌, ◌≢◌, ◌⊎◌, inl, inr, ℕ, List, [], ◌∷◌, ◌++◌, refl, sym, ap, subst, ◌∙◌, Option, Some, None}
use Rattle.gixobj_tree_entries.specs.Entries.{EntryView}
use Rattle.gixobj_hash.specs.Hash.{id_kind}
use Rattle.gixobj_hash.specs.declared.hash.object_id.ObjectId.{ObjectId}
use Rattle.gixobj_editor_files.specs.Edits.{Finds, IsNotLookedUp, Opens, arrived, down, entry_at, first_entry_of, found, only_open, stops, with_dir}
use Rattle.gixobj_editor_files.specs.Files.{Path, Table, Trees}
use Rattle.gixobj_editor_files.specs.OpeningStops.{ReachesDirectory}
use Rattle.gixobj_editor_files.specs.Opening.{Dirs, HasAt, in_dir}
use Rattle.gixobj_editor_files.specs.Tables.{IsNeverLookedUp}
use Rattle.gixobj_editor_files.specs.Unopened.{looked_up_entry}
use Rattle.gixobj_editor_files.proofs.OpeningFiles.{with_dir_in_dir, opens_keeps_root}
use Rattle.gixobj_editor_files.proofs.RemovedFiles.{IsBare, IsReached}
use Rattle.gixobj_editor_files.proofs.UnopenedCounts.{IsIdle, has_at_of_entry_at, found_below, first_entry_of_has_at, known_nowhere, known_open}

-- if no directory is open there is no entry
entry_at_of_unopened : (path : Path) (dirs : Dirs) → ((at : Path) → dirs at ≡ None) → entry_at path dirs ≡ None
entry_at_of_unopened [] dirs none = refl
entry_at_of_unopened (name ∷ []) dirs none = ap (first_entry_of name) (none [])
entry_at_of_unopened (name ∷ next ∷ rest) dirs none = entry_at_of_unopened (next ∷ rest) (in_dir name dirs) (λ at. none (name ∷ at))

-- there is no entry below a name that isn't open
entry_at_below_unopened : (name : List ℕ) (rest : Path) (last : List ℕ) (following : Path) (dirs : Dirs) → ((path : Path) → dirs (name ∷ path) ≡ None)
    → entry_at (name ∷ (rest ++ last ∷ following)) dirs ≡ None
entry_at_below_unopened name [] last following dirs none = entry_at_of_unopened (last ∷ following) (in_dir name dirs) none
entry_at_below_unopened name (next ∷ rest) last following dirs none = entry_at_of_unopened (next ∷ (rest ++ last ∷ following)) (in_dir name dirs) none

pub entry_at_in_dir : (name : List ℕ) (rest : Path) (last : List ℕ) (following : Path) (dirs : Dirs)
    → entry_at (name ∷ (rest ++ last ∷ following)) dirs ≡ entry_at
    (rest ++ last ∷ following) (in_dir name dirs)
entry_at_in_dir name [] last following dirs = refl
entry_at_in_dir name (next ∷ rest) last following dirs = refl

-- a path has a name after each of its directories
append_cons_head_exists : (rest : Path) (last : List ℕ) (following : Path) → (next : List ℕ) × (more : Path) × (rest ++ last ∷ following ≡ next ∷ more)
append_cons_head_exists [] last following = (last, following, refl)
append_cons_head_exists (next ∷ rest) last following = (next, rest ++ last ∷ following, refl)

module _ {StopsBefore : EntryView → Type 0} (idle : IsIdle StopsBefore) (trees : Trees) where
  -- the entry in the last directory that was opened is the one that a lookup finds
  pub known_after : (path : Path) (last : List ℕ) (dirs new : Dirs) (looked_up : List ObjectId) → Opens StopsBefore trees path dirs new looked_up
      → entry_at (path ++ last ∷ []) new ≡ looked_up_entry trees (path ++ last ∷ []) dirs
  known_after path last dirs new looked_up (arrived d) = refl
  known_after path last dirs new looked_up (stops name rest d other none) =
      let remaining = append_cons_head_exists rest last [] in
      entry_at_below_unopened name rest last [] d none
      ∙ sym (subst (λ q. looked_up_entry trees (name ∷ q) d ≡ None) (sym remaining.2)
      (known_nowhere trees name remaining.0 remaining.1 d (λ e h n. idle e (other e h n)) none))
  known_after path last dirs new looked_up (down name rest d inner e entries more has named is opens) =
      let remaining = append_cons_head_exists rest last [] in
      entry_at_in_dir name rest last [] (with_dir name inner d) ∙ ap (entry_at (rest ++ last ∷ [])) (with_dir_in_dir name inner d) ∙ known_after rest last
      (in_dir name d) inner more opens
      ∙ subst (λ q. looked_up_entry trees q (in_dir name d) ≡ looked_up_entry trees (name ∷ q) d) (sym remaining.2)
      (sym (known_open trees name remaining.0 remaining.1 d entries is))
  known_after path last dirs new looked_up (found name rest d inner e entries first more entry tree free none finds opens) =
      let remaining = append_cons_head_exists rest last [] in
      entry_at_in_dir name rest last [] (with_dir name inner d) ∙ ap (entry_at (rest ++ last ∷ [])) (with_dir_in_dir name inner d) ∙ known_after rest last
      (only_open entries) inner more opens
      ∙ subst (λ q. looked_up_entry trees q (only_open entries) ≡ looked_up_entry trees (name ∷ q) d) (sym remaining.2)
      (sym (found_below trees name remaining.0 remaining.1 d e entries first entry tree (none []) finds))

  -- an opening opens each directory that it reaches
  known_some : (x y : Option EntryView) (e : EntryView) → x ≡ Some e → x ≡ y → y ≡ None → ⊥
  known_some x y e some same none = let bad : Some e ≡ None = sym some ∙ same ∙ none in cc bad

  pub comes_open : (path : Path) (dirs new : Dirs) (looked_up : List ObjectId) → Opens StopsBefore trees path dirs new looked_up → dirs [] ≢ None
      → ReachesDirectory StopsBefore trees dirs path → new path ≢ None
  comes_open path dirs new looked_up (arrived d) root comes = root
  comes_open path dirs new looked_up (stops name rest d other none) root (inl is) = absurd (cc is)
  comes_open path dirs new looked_up (stops name rest d other none) root (inr (inl (entries, is))) =
      absurd (let bad : None ≡ Some entries = sym (none rest) ∙ is in cc bad)
  comes_open path dirs new looked_up (stops name [] d other none) root (inr (inr (e, seen, tree, free, known))) = let has =
      has_at_of_entry_at name (d []) e seen in absurd (free (other e has.0 has.1))
  comes_open path dirs new looked_up (stops name (next ∷ rest) d other none) root (inr (inr (e, seen, tree, free, known))) =
      absurd (known_some _ _ e seen refl (known_nowhere trees name next rest d (λ x h n. idle x (other x h n)) none))
  comes_open path dirs new looked_up (down name [] d inner e entries more has named is opens) root comes =
      λ unopened. let bad : Some entries ≡ None = sym is ∙ sym (opens_keeps_root trees [] (in_dir name d) inner more opens)
      ∙ sym (ap (λ (x : Dirs). x []) (with_dir_in_dir name inner d)) ∙ unopened in cc bad
  comes_open path dirs new looked_up (down name (next ∷ rest) d inner e entries more has named is opens) root comes =
      λ unopened. comes_open (next ∷ rest) (in_dir name d) inner more opens (λ no_root. let bad : Some entries ≡ None = sym is ∙ no_root in cc bad)
      (within comes) (sym (ap (λ (x : Dirs). x (next ∷ rest)) (with_dir_in_dir name inner d)) ∙ unopened)
    where
      within : ReachesDirectory StopsBefore trees d (name ∷ next ∷ rest) → ReachesDirectory StopsBefore trees (in_dir name d) (next ∷ rest)
      within (inl empty) = absurd (cc empty)
      within (inr (inl there)) = inr (inl there)
      within (inr (inr (x, seen, tree, free, known))) = inr (inr (x, sym (known_open trees name next rest d entries is) ∙ seen, tree, free, known))
  comes_open path dirs new looked_up (found name [] d inner e entries first more entry tree free none finds opens) root comes =
      λ unopened. let bad : Some entries ≡ None = sym (opens_keeps_root trees [] (only_open entries) inner more opens)
      ∙ sym (ap (λ (x : Dirs). x []) (with_dir_in_dir name inner d)) ∙ unopened in cc bad
  comes_open path dirs new looked_up (found name (next ∷ rest) d inner e entries first more entry tree free none finds opens) root comes =
      λ unopened. comes_open (next ∷ rest) (only_open entries) inner more opens (λ no_root. let bad : Some entries ≡ None = no_root in cc bad) (within comes)
      (sym (ap (λ (x : Dirs). x (next ∷ rest)) (with_dir_in_dir name inner d)) ∙ unopened)
    where
      within : ReachesDirectory StopsBefore trees d (name ∷ next ∷ rest) → ReachesDirectory StopsBefore trees (only_open entries) (next ∷ rest)
      within (inl empty) = absurd (cc empty)
      within (inr (inl (es, there))) = absurd (let bad : None ≡ Some es = sym (none (next ∷ rest)) ∙ there in cc bad)
      within (inr (inr (x, seen, is_tree, is_free, known))) =
          inr (inr (x, sym (found_below trees name next rest d e entries first entry tree (none []) finds) ∙ seen, is_tree, is_free, known))

  -- an opening reaches each directory that it opened
  finds_known : (it : ObjectId) (entries : List EntryView) (requests : List ObjectId) → Finds trees it entries requests → IsNeverLookedUp it
      ⊎ ((es : List EntryView) × (trees it ≡ Some es))
  finds_known it entries requests (formed, inl (empty, nothing, none)) = inl empty
  finds_known it entries requests (formed, inr (filled, named, looked_up)) = inr (entries, named)

  pub open_comes : (path : Path) (dirs new : Dirs) (looked_up : List ObjectId) → Opens StopsBefore trees path dirs new looked_up → (entries : List EntryView)
      → new path ≡ Some entries → ReachesDirectory StopsBefore trees dirs path
  open_comes path dirs new looked_up (arrived d) es is_open = inl refl
  open_comes path dirs new looked_up (stops name rest d other none) es is_open = absurd (let bad : None ≡ Some es = sym (none rest) ∙ is_open in cc bad)
  open_comes path dirs new looked_up (down name [] d inner e entries more has named is opens) es is_open = inr (inl (entries, is))
  open_comes path dirs new looked_up (down name (next ∷ rest) d inner e entries more has named is opens) es is_open =
      outside (open_comes (next ∷ rest) (in_dir name d) inner more opens es (sym (ap (λ (x : Dirs). x (next ∷ rest)) (with_dir_in_dir name inner d)) ∙ is_open))
    where
      outside : ReachesDirectory StopsBefore trees (in_dir name d) (next ∷ rest) → ReachesDirectory StopsBefore trees d (name ∷ next ∷ rest)
      outside (inl empty) = absurd (cc empty)
      outside (inr (inl there)) = inr (inl there)
      outside (inr (inr (x, seen, tree, free, known))) = inr (inr (x, known_open trees name next rest d entries is ∙ seen, tree, free, known))
  open_comes path dirs new looked_up (found name [] d inner e entries first more entry tree free none finds opens) es is_open =
      inr (inr (e, first_entry_of_has_at name (d []) e entry, tree, free, finds_known e.id entries first finds))
  open_comes path dirs new looked_up (found name (next ∷ rest) d inner e entries first more entry tree free none finds opens) es is_open =
      outside (open_comes (next ∷ rest) (only_open entries) inner more opens es (sym (ap (λ (x : Dirs). x (next ∷ rest)) (with_dir_in_dir name inner d))
      ∙ is_open))
    where
      outside : ReachesDirectory StopsBefore trees (only_open entries) (next ∷ rest) → ReachesDirectory StopsBefore trees d (name ∷ next ∷ rest)
      outside (inl empty) = absurd (cc empty)
      outside (inr (inl (s, there))) = absurd (cc there)
      outside (inr (inr (x, seen, is_tree, is_free, known))) =
          inr (inr (x, found_below trees name next rest d e entries first entry tree (none []) finds ∙ seen, is_tree, is_free, known))

  -- after an opening the entry at the path may be removed
  bare : (T : Table) (e : EntryView) → IsNotLookedUp e → IsBare T e
  bare T e (inl other) = inl other
  bare T e (inr (inl null)) = inr (inl null)
  bare T e (inr (inr is)) = inr (inr (ap T.tree_at is ∙ T.none_in_empty (id_kind e.id)))

  reached_nowhere : (T : Table) (name : List ℕ) (q : Path) (dirs : Dirs)
      → (((e : EntryView) → HasAt (dirs []) e → e.name ≡ name → IsBare T e) × ((path : Path) → dirs (name ∷ path) ≡ None)) → IsReached T (name ∷ q) dirs
  reached_nowhere T name [] dirs unopened = tt
  reached_nowhere T name (next ∷ rest) dirs unopened = inl unopened

  reached_down : (T : Table) (name : List ℕ) (q : Path) (dirs : Dirs) → ((es : List EntryView) × (dirs (name ∷ []) ≡ Some es))
      → IsReached T q (in_dir name dirs) → IsReached T (name ∷ q) dirs
  reached_down T name [] dirs is reached = tt
  reached_down T name (next ∷ rest) dirs is reached = inr (is, reached)

  pub opens_reached : (T : Table) (path : Path) (last : List ℕ) (dirs new : Dirs) (looked_up : List ObjectId) → Opens StopsBefore trees path dirs new looked_up
      → IsReached T (path ++ last ∷ []) new
  opens_reached T path last dirs new looked_up (arrived d) = tt
  opens_reached T path last dirs new looked_up (stops name rest d other none) =
      reached_nowhere T name (rest ++ last ∷ []) d ((λ e h n. bare T e (idle e (other e h n))), none)
  opens_reached T path last dirs new looked_up (down name rest d inner e entries more has named is opens) =
      let within = with_dir_in_dir name inner d in
      reached_down T name (rest ++ last ∷ []) (with_dir name inner d)
      (entries, ap (λ (x : Dirs). x []) within ∙ opens_keeps_root trees rest (in_dir name d) inner more opens ∙ is)
      (subst (IsReached T (rest ++ last ∷ [])) (sym within) (opens_reached T rest last (in_dir name d) inner more opens))
  opens_reached T path last dirs new looked_up (found name rest d inner e entries first more entry tree free none finds opens) =
      let within = with_dir_in_dir name inner d in
      reached_down T name (rest ++ last ∷ []) (with_dir name inner d)
      (entries, ap (λ (x : Dirs). x []) within ∙ opens_keeps_root trees rest (only_open entries) inner more opens)
      (subst (IsReached T (rest ++ last ∷ [])) (sym within) (opens_reached T rest last (only_open entries) inner more opens))

-- an opening that ended above the directory of the path opens no more on a longer path
pub opens_of_longer_path : {StopsBefore : EntryView → Type 0} (trees : Trees) (path more : Path) (dirs new : Dirs) (looked_up : List ObjectId)
    → Opens StopsBefore trees path dirs new looked_up → dirs [] ≢ None → new path ≡ None → Opens StopsBefore trees (path ++ more) dirs new looked_up
opens_of_longer_path trees path more dirs new looked_up (arrived d) root ended = absurd (root ended)
opens_of_longer_path trees path more dirs new looked_up (stops name rest d other none) root ended = stops name (rest ++ more) d other none
opens_of_longer_path trees path more dirs new looked_up (down name rest d inner e entries requests has named is opens) root ended =
    down name (rest ++ more) d inner e entries requests has named is
    (opens_of_longer_path trees rest more (in_dir name d) inner requests opens (λ none. let bad : Some entries ≡ None = sym is ∙ none in cc bad)
    (sym (ap (λ (x : Dirs). x rest) (with_dir_in_dir name inner d)) ∙ ended))
opens_of_longer_path trees path more dirs new looked_up (found name rest d inner e entries first requests entry tree free none finds opens) root ended =
    found name (rest ++ more) d inner e entries first requests entry tree free none finds
    (opens_of_longer_path trees rest more (only_open entries) inner requests opens (λ nothing. let bad : Some entries ≡ None = nothing in cc bad)
    (sym (ap (λ (x : Dirs). x rest) (with_dir_in_dir name inner d)) ∙ ended))
