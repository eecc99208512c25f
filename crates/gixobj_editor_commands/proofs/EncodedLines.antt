-- A line decodes to at most one command, and some to none; used for parsing lines and for laws of scripts.
use Rattle.std.proofs.Common.{◌≡◌, ◌≢◌, ◌∷◌, ◌==◌, ℕ, List, [], ap, codes, eq-eqb, false, true, if◌then◌else◌, inl, inr, refl, slice_index, subst, sym, ◌∙◌}
use Rattle.std.proofs.lemmas.Bool.{true≢false}
use Rattle.std.proofs.lemmas.List.Elements.{All-weaker}
use Rattle.std.proofs.lemmas.List.{append_cancel_left}
use Rattle.std.proofs.Math.Decide.{ℕ_discrete}
use Rattle.hex.specs.Hex.{is_hex_digit}
use Rattle.gixobj_editor_commands.specs.Views.{CommandView, EditView, edits_at, one_edit, remove, remove_leaf, set_root, upsert, write}
use Rattle.gixobj_hash.specs.declared.hash.kind.Kind as hash
use Rattle.gixobj_hash.specs.declared.hash.object_id.ObjectId.{ObjectId}
use Rattle.gixobj_hash.proofs.SplitsAtEach.{split_at_each_unique, split_at_each_exists}
use Rattle.gixobj_editor_commands.specs.Lines.{HasCommand, HasEdit, HasNoCommand, HasNoEdit, DecodesToCommand, IsEditAt, DecodesToEdit, IsEntryAt, IsHexOfId}
use Rattle.gixobj_editor_commands.specs.Lines.{keyword_and}
use Rattle.gixobj_editor_commands.specs.ScriptPaths.{ArePathNames, root_path}
use Rattle.gixobj_hash.proofs.Splits.{byte_free_of_all_pass, no_split_of_byte_free, split_parts_unique}
use Rattle.gixobj_hash.specs.Bytes.{slash}
use Rattle.gixobj_hash.specs.ByteStrings.{IsByteFree, SplitsAt}
use Rattle.gixobj_tree_entries.specs.Mode.{entry_kind_name}
use Rattle.gixobj_tree_entries.specs.declared.entry_kind.EntryKind.{EntryKind}
use Rattle.gixobj_tree_entries.specs.declared.entry_kind.EntryKind.TheVariants.{Blob, BlobExecutable, Commit, Link, Tree}

-- ---- the names of a path

-- a path other than `.` has names
pub path_names_unless_dot_exist : (path : List ℕ) → path ≢ root_path → (names : List (List ℕ)) × ArePathNames path names
path_names_unless_dot_exist path other = (let (names, split) = split_at_each_exists slash path in (names, inr (other, split)))

-- each path has a list of names
pub path_names_exist : (path : List ℕ) → (names : List (List ℕ)) × ArePathNames path names
path_names_exist [] = path_names_unless_dot_exist [] (λ same. cc same)
path_names_exist (x ∷ y ∷ path) = path_names_unless_dot_exist (x ∷ y ∷ path) (λ same. cc same)
path_names_exist (x ∷ []) =
    elim (ℕ_discrete x 46) [
      | yes same ↦ ([], inl (ap (λ (it : ℕ). it ∷ []) same, refl))
      | no other ↦ path_names_unless_dot_exist (x ∷ []) (λ same. other (cc same))
    ]

pub path_names_unique : (path : List ℕ) (a b : List (List ℕ)) → ArePathNames path a → ArePathNames path b → a ≡ b
path_names_unique path a b (inl (is, none)) (inl (too, nothing)) = none ∙ sym nothing
path_names_unique path a b (inl (is, none)) (inr (other, split)) = absurd (other is)
path_names_unique path a b (inr (other, split)) (inl (is, none)) = absurd (other is)
path_names_unique path a b (inr (other, split)) (inr (too, again)) = split_at_each_unique slash path a b split again

-- ---- `KIND HEX PATH`

keyword_space_free : (kind : EntryKind) → IsByteFree 32 (entry_kind_name kind)
keyword_space_free Tree = byte_free_of_all_pass 32 (entry_kind_name Tree) refl
keyword_space_free Blob = byte_free_of_all_pass 32 (entry_kind_name Blob) refl
keyword_space_free BlobExecutable = byte_free_of_all_pass 32 (entry_kind_name BlobExecutable) refl
keyword_space_free Link = byte_free_of_all_pass 32 (entry_kind_name Link) refl
keyword_space_free Commit = byte_free_of_all_pass 32 (entry_kind_name Commit) refl

-- the entry kind of a name, by its first byte
kind_of_name : List ℕ → EntryKind
kind_of_name token =
    let first = slice_index token 0 in
    if first == 116 then Tree else if first == 98 then Blob else if first == 101 then BlobExecutable else if first == 108 then Link else Commit

kind_of_name_of_keyword : (kind : EntryKind) → kind_of_name (entry_kind_name kind) ≡ kind
unfolding kind_of_name
kind_of_name_of_keyword Tree = refl
kind_of_name_of_keyword Blob = refl
kind_of_name_of_keyword BlobExecutable = refl
kind_of_name_of_keyword Link = refl
kind_of_name_of_keyword Commit = refl

entry_kind_name_injective : (a b : EntryKind) → entry_kind_name a ≡ entry_kind_name b → a ≡ b
entry_kind_name_injective a b same = sym (kind_of_name_of_keyword a) ∙ ap kind_of_name same ∙ kind_of_name_of_keyword b

hex_digit_ne_space : (byte : ℕ) → is_hex_digit byte ≡ true → byte ≢ 32
hex_digit_ne_space byte digit = λ same. true≢false (sym digit ∙ ap is_hex_digit same)

hex_space_free : (hash : hash.Kind) (hex : List ℕ) (id : ObjectId) → IsHexOfId hash hex id → IsByteFree 32 hex
hex_space_free hash hex id is = All-weaker (λ (it : ℕ). is_hex_digit it ≡ true) (λ (it : ℕ). it ≢ 32) hex_digit_ne_space hex is.0.1

-- the bytes before the first space are the name of the kind
entry_token_eq_keyword : (hash : hash.Kind) (entry token after : List ℕ) (kind : EntryKind) (id : ObjectId) (path : List ℕ) → SplitsAt 32 entry token after
    → (is : IsEntryAt hash entry kind id path)
    → (token ≡ entry_kind_name kind) × (after ≡ keyword_and is.hex path)
entry_token_eq_keyword hash entry token after kind id path splits is =
    split_parts_unique 32 token after (entry_kind_name kind) (keyword_and is.hex path) splits.first (keyword_space_free kind) (sym splits.joined ∙ is.joined)

-- the bytes before the second space are the hex digits of the id
entry_hex_and_path_unique : (hash : hash.Kind) (entry token after hex rest : List ℕ) (kind : EntryKind) (id : ObjectId) (path : List ℕ)
    → SplitsAt 32 entry token after
    → SplitsAt 32 after hex rest
    → (is : IsEntryAt hash entry kind id path) → (hex ≡ is.hex) × (rest ≡ path)
entry_hex_and_path_unique hash entry token after hex rest kind id path splits again is =
    split_parts_unique 32 hex rest is.hex path again.first (hex_space_free hash is.hex id is.is_hex_of_id)
    (sym again.joined ∙ (entry_token_eq_keyword hash entry token after kind id path splits is).1)

pub no_space_in_token : (hash : hash.Kind) (entry : List ℕ) → IsByteFree 32 entry → (kind : EntryKind) (id : ObjectId) (path : List ℕ)
    → IsEntryAt hash entry kind id path → ⊥
no_space_in_token hash entry free = λ kind id path is. no_split_of_byte_free 32 (entry_kind_name kind) (keyword_and is.hex path)
    (subst (IsByteFree 32) is.joined free)

pub no_kind_of_token : (hash : hash.Kind) (entry token after : List ℕ) → SplitsAt 32 entry token after
    → ((kind : EntryKind) → token ≡ entry_kind_name kind → ⊥)
    → (kind : EntryKind) (id : ObjectId) (path : List ℕ) → IsEntryAt hash entry kind id path → ⊥
no_kind_of_token hash entry token after splits none = λ kind id path is. none kind (entry_token_eq_keyword hash entry token after kind id path splits is).0

pub no_second_space_in_entry : (hash : hash.Kind) (entry token after : List ℕ) → SplitsAt 32 entry token after → IsByteFree 32 after
    → (kind : EntryKind) (id : ObjectId) (path : List ℕ) → IsEntryAt hash entry kind id path → ⊥
no_second_space_in_entry hash entry token after splits free = λ kind id path is.
    no_split_of_byte_free 32 is.hex path (subst (IsByteFree 32) (entry_token_eq_keyword hash entry token after kind id path splits is).1 free)

pub no_id_of_token : (hash : hash.Kind) (entry token after hex rest : List ℕ) → SplitsAt 32 entry token after → SplitsAt 32 after hex rest
    → ((id : ObjectId) → IsHexOfId hash hex id → ⊥)
    → (kind : EntryKind) (id : ObjectId) (path : List ℕ) → IsEntryAt hash entry kind id path → ⊥
no_id_of_token hash entry token after hex rest splits again none = λ kind id path is.
    let same = (entry_hex_and_path_unique hash entry token after hex rest kind id path splits again is).0 in
    let P : List ℕ → Type 0 = λ it. IsHexOfId hash it id in
    none id (subst P (sym same) is.is_hex_of_id)

entry_at_unique : (hash : hash.Kind) (entry : List ℕ) (kind kind' : EntryKind) (id id' : ObjectId) (path path' : List ℕ) → IsEntryAt hash entry kind id path
    → IsEntryAt hash entry kind' id' path' → (kind ≡ kind') × (id ≡ id') × (path ≡ path')
entry_at_unique hash entry kind kind' id id' path path' first second =
    let same_parts = split_parts_unique 32 (entry_kind_name kind) (keyword_and first.hex path) (entry_kind_name kind') (keyword_and second.hex path')
    (keyword_space_free kind)
    (keyword_space_free kind') (sym first.joined ∙ second.joined) in
    let encodings = split_parts_unique 32 first.hex path second.hex path' (hex_space_free hash first.hex id first.is_hex_of_id)
    (hex_space_free hash second.hex id' second.is_hex_of_id) same_parts.1 in
    (entry_kind_name_injective kind kind' same_parts.0, cc (first.is_hex_of_id.1, second.is_hex_of_id.1, encodings.0), encodings.1)

-- ---- keywords

-- the rest after a keyword is unique
keyword_and_injective : (token a b : List ℕ) → keyword_and token a ≡ keyword_and token b → a ≡ b
keyword_and_injective token a b same = (let tails : 32 ∷ a ≡ 32 ∷ b = append_cancel_left token (32 ∷ a) (32 ∷ b) same in cc tails)

-- bytes with different first bytes differ
cons_ne_of_heads_differ : (x y : ℕ) (a b : List ℕ) → (x == y) ≡ false → x ∷ a ≡ y ∷ b → ⊥
cons_ne_of_heads_differ x y a b other same = (let heads : x ≡ y = cc same in true≢false (sym (eq-eqb x y heads) ∙ other))

cons_ne_of_seconds_differ : (z x y : ℕ) (a b : List ℕ) → (x == y) ≡ false → z ∷ x ∷ a ≡ z ∷ y ∷ b → ⊥
cons_ne_of_seconds_differ z x y a b other same = (let tails : x ∷ a ≡ y ∷ b = cc same in cons_ne_of_heads_differ x y a b other tails)

-- ---- edits

pub has_no_edit_of_upsert : (hash : hash.Kind) (entry : List ℕ) → ((kind : EntryKind) (id : ObjectId) (path : List ℕ) → IsEntryAt hash entry kind id path → ⊥)
    → HasNoEdit hash (keyword_and (codes "upsert") entry)
has_no_edit_of_upsert hash entry none (upsert names kind id) (other, path, joined, is, are) =
    let P : List ℕ → Type 0 = λ it. IsEntryAt hash it kind id path in
    none kind id path (subst P (sym (keyword_and_injective (codes "upsert") entry other joined)) is)
has_no_edit_of_upsert hash entry none (remove names) (path, joined, are) = cons_ne_of_heads_differ 117 114 _ _ refl joined
has_no_edit_of_upsert hash entry none (remove_leaf names) (path, joined, are) = cons_ne_of_heads_differ 117 108 _ _ refl joined
has_no_edit_of_upsert hash entry none write joined = cons_ne_of_heads_differ 117 119 _ _ refl joined

pub has_edit_of_upsert : (hash : hash.Kind) (entry : List ℕ) (kind : EntryKind) (id : ObjectId) (path : List ℕ) → IsEntryAt hash entry kind id path
    → HasEdit hash (keyword_and (codes "upsert") entry)
has_edit_of_upsert hash entry kind id path is = (let (names, are) = path_names_exist path in (upsert names kind id, (entry, path, refl, is, are)))

pub has_edit_of_removal : (hash : hash.Kind) (bytes path : List ℕ) → bytes ≡ keyword_and (codes "remove") path → HasEdit hash bytes
has_edit_of_removal hash bytes path joined = (let (names, are) = path_names_exist path in (remove names, (path, joined, are)))

pub has_edit_of_leaf_removal : (hash : hash.Kind) (bytes path : List ℕ) → bytes ≡ keyword_and (codes "leaf") path → HasEdit hash bytes
has_edit_of_leaf_removal hash bytes path joined = (let (names, are) = path_names_exist path in (remove_leaf names, (path, joined, are)))

edit_unique : (hash : hash.Kind) (bytes : List ℕ) (a b : EditView) → DecodesToEdit hash bytes a → DecodesToEdit hash bytes b → a ≡ b
edit_unique hash bytes (upsert names kind id) (upsert names' kind' id') (entry, path, joined, is, are) (entry', path', joined', is', are') =
    let same = keyword_and_injective (codes "upsert") entry' entry (sym joined' ∙ joined) in
    let P : List ℕ → Type 0 = λ it. IsEntryAt hash it kind' id' path' in
    let parts = entry_at_unique hash entry kind kind' id id' path path' is (subst P same is') in
    let Q : List ℕ → Type 0 = λ it. ArePathNames it names' in
    let names_are = path_names_unique path names names' are (subst Q (sym parts.2) are') in
    cc (parts.0, parts.1, names_are)
edit_unique hash bytes (remove names) (remove names') (path, joined, are) (path', joined', are') =
    let same = keyword_and_injective (codes "remove") path' path (sym joined' ∙ joined) in
    let Q : List ℕ → Type 0 = λ it. ArePathNames it names' in
    ap remove (path_names_unique path names names' are (subst Q same are'))
edit_unique hash bytes (remove_leaf names) (remove_leaf names') (path, joined, are) (path', joined', are') =
    let same = keyword_and_injective (codes "leaf") path' path (sym joined' ∙ joined) in
    let Q : List ℕ → Type 0 = λ it. ArePathNames it names' in
    ap remove_leaf (path_names_unique path names names' are (subst Q same are'))
edit_unique hash bytes write write is too = refl
edit_unique hash bytes (upsert names kind id) (remove names') (entry, path, joined, is, are) (path', joined', are') =
    absurd (cons_ne_of_heads_differ 117 114 _ _ refl (sym joined ∙ joined'))
edit_unique hash bytes (upsert names kind id) (remove_leaf names') (entry, path, joined, is, are) (path', joined', are') =
    absurd (cons_ne_of_heads_differ 117 108 _ _ refl (sym joined ∙ joined'))
edit_unique hash bytes (upsert names kind id) write (entry, path, joined, is, are) joined' =
    absurd (cons_ne_of_heads_differ 117 119 _ _ refl (sym joined ∙ joined'))
edit_unique hash bytes (remove names) (upsert names' kind id) (path, joined, are) (entry, path', joined', is, are') =
    absurd (cons_ne_of_heads_differ 114 117 _ _ refl (sym joined ∙ joined'))
edit_unique hash bytes (remove names) (remove_leaf names') (path, joined, are) (path', joined', are') =
    absurd (cons_ne_of_heads_differ 114 108 _ _ refl (sym joined ∙ joined'))
edit_unique hash bytes (remove names) write (path, joined, are) joined' = absurd (cons_ne_of_heads_differ 114 119 _ _ refl (sym joined ∙ joined'))
edit_unique hash bytes (remove_leaf names) (upsert names' kind id) (path, joined, are) (entry, path', joined', is, are') =
    absurd (cons_ne_of_heads_differ 108 117 _ _ refl (sym joined ∙ joined'))
edit_unique hash bytes (remove_leaf names) (remove names') (path, joined, are) (path', joined', are') =
    absurd (cons_ne_of_heads_differ 108 114 _ _ refl (sym joined ∙ joined'))
edit_unique hash bytes (remove_leaf names) write (path, joined, are) joined' = absurd (cons_ne_of_heads_differ 108 119 _ _ refl (sym joined ∙ joined'))
edit_unique hash bytes write (upsert names kind id) joined (entry, path, joined', is, are) =
    absurd (cons_ne_of_heads_differ 119 117 _ _ refl (sym joined ∙ joined'))
edit_unique hash bytes write (remove names) joined (path, joined', are) = absurd (cons_ne_of_heads_differ 119 114 _ _ refl (sym joined ∙ joined'))
edit_unique hash bytes write (remove_leaf names) joined (path, joined', are) = absurd (cons_ne_of_heads_differ 119 108 _ _ refl (sym joined ∙ joined'))

-- ---- commands

-- an edit begins with the keyword of no other command
has_no_edit_of_at : (hash : hash.Kind) (rest : List ℕ) → HasNoEdit hash (keyword_and (codes "at") rest)
has_no_edit_of_at hash rest (upsert names kind id) (entry, path, joined, is, are) = cons_ne_of_heads_differ 97 117 _ _ refl joined
has_no_edit_of_at hash rest (remove names) (path, joined, are) = cons_ne_of_heads_differ 97 114 _ _ refl joined
has_no_edit_of_at hash rest (remove_leaf names) (path, joined, are) = cons_ne_of_heads_differ 97 108 _ _ refl joined
has_no_edit_of_at hash rest write joined = cons_ne_of_heads_differ 97 119 _ _ refl joined

has_no_edit_of_root : (hash : hash.Kind) → HasNoEdit hash (codes "root")
has_no_edit_of_root hash (upsert names kind id) (entry, path, joined, is, are) = cons_ne_of_heads_differ 114 117 _ _ refl joined
has_no_edit_of_root hash (remove names) (path, joined, are) = cons_ne_of_seconds_differ 114 111 101 _ _ refl joined
has_no_edit_of_root hash (remove_leaf names) (path, joined, are) = cons_ne_of_heads_differ 114 108 _ _ refl joined
has_no_edit_of_root hash write joined = cons_ne_of_heads_differ 114 119 _ _ refl joined

-- bytes that begin with `at` are no command if the rest is no edit at a prefix
has_no_command_of_no_edit_at : (hash : hash.Kind) (bytes : List ℕ) → ((names : List (List ℕ)) (edits : List EditView) → IsEditAt hash bytes names edits → ⊥)
    → HasNoCommand hash (keyword_and (codes "at") bytes)
has_no_command_of_no_edit_at hash bytes none (one_edit edit) is = has_no_edit_of_at hash bytes edit is
has_no_command_of_no_edit_at hash bytes none (edits_at names edits) (rest, joined, is) =
    let P : List ℕ → Type 0 = λ it. IsEditAt hash it names edits in
    none names edits (subst P (sym (keyword_and_injective (codes "at") bytes rest joined)) is)
has_no_command_of_no_edit_at hash bytes none (set_root entries) (joined, empty) = cons_ne_of_heads_differ 97 114 _ _ refl joined

pub no_command_without_space : (hash : hash.Kind) (bytes : List ℕ) → IsByteFree 32 bytes → HasNoCommand hash (keyword_and (codes "at") bytes)
no_command_without_space hash bytes free = has_no_command_of_no_edit_at hash bytes (λ names edits is. no_split_of_byte_free 32 is.prefix is.rest
    (subst (IsByteFree 32) is.joined free))

pub no_command_without_edit : (hash : hash.Kind) (bytes prefix rest : List ℕ) → SplitsAt 32 bytes prefix rest → HasNoEdit hash rest
    → HasNoCommand hash (keyword_and (codes "at") bytes)
no_command_without_edit hash bytes prefix rest splits none =
    has_no_command_of_no_edit_at hash bytes (λ names edits is.
    let split = split_parts_unique 32 prefix rest is.prefix is.rest splits.first is.no_space (sym splits.joined ∙ is.joined) in
    let P : List ℕ → Type 0 = λ it. DecodesToEdit hash it is.edit in
    none is.edit (subst P (sym split.1) is.is))

pub has_command_of_edit_at : (hash : hash.Kind) (bytes prefix rest : List ℕ) → SplitsAt 32 bytes prefix rest → HasEdit hash rest
    → HasCommand hash (keyword_and (codes "at") bytes)
has_command_of_edit_at hash bytes prefix rest splits (edit, is) =
    let (names, are) = path_names_exist prefix in (
      edits_at names (edit ∷ []),
      (
        bytes,
        refl,
        record {
          prefix = prefix;
          rest = rest;
          edit = edit;
          joined = splits.joined;
          no_space = splits.first;
          names_of_prefix = are;
          one = refl;
          is = is;
        },
      ),
    )

pub has_command_of_edit : (hash : hash.Kind) (bytes : List ℕ) → HasEdit hash bytes → HasCommand hash bytes
has_command_of_edit hash bytes (edit, is) = (one_edit edit, is)

edit_at_unique : (hash : hash.Kind) (bytes : List ℕ) (names names' : List (List ℕ)) (edits edits' : List EditView) → IsEditAt hash bytes names edits
    → IsEditAt hash bytes names' edits' → (names ≡ names') × (edits ≡ edits')
edit_at_unique hash bytes names names' edits edits' first second =
    let split = split_parts_unique 32 first.prefix first.rest second.prefix second.rest first.no_space second.no_space (sym first.joined ∙ second.joined) in
    let P : List ℕ → Type 0 = λ it. DecodesToEdit hash it second.edit in
    let Q : List ℕ → Type 0 = λ it. ArePathNames it names' in
    let edit = edit_unique hash first.rest first.edit second.edit first.is (subst P (sym split.1) second.is) in
    (path_names_unique first.prefix names names' first.names_of_prefix (subst Q (sym split.0) second.names_of_prefix), cc (first.one, second.one, edit))

pub command_unique : (hash : hash.Kind) (bytes : List ℕ) (a b : CommandView) → DecodesToCommand hash bytes a → DecodesToCommand hash bytes b → a ≡ b
command_unique hash bytes (one_edit edit) (one_edit edit') is is' = ap one_edit (edit_unique hash bytes edit edit' is is')
command_unique hash bytes (edits_at names edits) (edits_at names' edits') (rest, joined, is) (rest', joined', is') =
    let same = keyword_and_injective (codes "at") rest' rest (sym joined' ∙ joined) in
    let P : List ℕ → Type 0 = λ it. IsEditAt hash it names' edits' in
    let parts = edit_at_unique hash rest names names' edits edits' is (subst P same is') in
    cc (parts.0, parts.1)
command_unique hash bytes (set_root entries) (set_root entries') (joined, empty) (joined', empty') = ap set_root (empty ∙ sym empty')
command_unique hash bytes (one_edit edit) (edits_at names edits) is (rest, joined, is') =
    (let P : List ℕ → Type 0 = λ it. DecodesToEdit hash it edit in absurd (has_no_edit_of_at hash rest edit (subst P joined is)))
command_unique hash bytes (one_edit edit) (set_root entries) is (joined, empty) =
    (let P : List ℕ → Type 0 = λ it. DecodesToEdit hash it edit in absurd (has_no_edit_of_root hash edit (subst P joined is)))
command_unique hash bytes (edits_at names edits) (one_edit edit) (rest, joined, is) is' =
    (let P : List ℕ → Type 0 = λ it. DecodesToEdit hash it edit in absurd (has_no_edit_of_at hash rest edit (subst P joined is')))
command_unique hash bytes (edits_at names edits) (set_root entries) (rest, joined, is) (joined', empty) =
    absurd (cons_ne_of_heads_differ 97 114 _ _ refl (sym joined ∙ joined'))
command_unique hash bytes (set_root entries) (one_edit edit) (joined, empty) is =
    (let P : List ℕ → Type 0 = λ it. DecodesToEdit hash it edit in absurd (has_no_edit_of_root hash edit (subst P joined is)))
command_unique hash bytes (set_root entries) (edits_at names edits) (joined, empty) (rest, joined', is) =
    absurd (cons_ne_of_heads_differ 114 97 _ _ refl (sym joined ∙ joined'))
