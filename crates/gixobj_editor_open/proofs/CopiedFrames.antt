-- Directories whose copies are begun, each waiting for the copy of one in it; for `copied`.
use Rattle.std.proofs.Common.{◌≡◌, ◌∙◌, ◌+◌, ◌*◌, ℕ, List, [], ◌∷◌, ◌++◌, length, sym, ap, subst, arith, append_assoc, append-nil, length-append}
use Rattle.std.proofs.lemmas.List.{map-append}
use Rattle.std.specs.declared.alloc.Global.{Global}
use Rattle.std.specs.declared.vec.Vec.{Vec}
use Rattle.bstr.specs.Owned.{bstring_bytes}
use Rattle.gixobj_editor_entries.specs.Pieces.{AreNonEmpty}
use Rattle.gixobj_editor_open.specs.Children.{remaining_list}
use Rattle.gixobj_editor_open.specs.Copies.{IsCopiedInPart}
use Rattle.gixobj_editor_open.specs.Nested.{IsLevel, Opened, below, length-under, opened, part, parts, under}
use Rattle.gixobj_editor_open.specs.declared.children.Remaining.{Remaining}
use Rattle.gixobj_editor_open.specs.declared.copying.Copying.{Copying}
use Rattle.gixobj_editor_open.specs.declared.open.Child.{Child}

-- the last begun first: each waits for the copy of the next, and the last for that of this name and directory
abbrev pub AllCopied : Opened → List Copying → List ℕ → Opened → Type 0
AllCopied root [] name node = root ≡ node
AllCopied root (f ∷ fs) name node = (above : Opened) × AllCopied root fs (bstring_bytes f.name) above
    × IsCopiedInPart f ((name, node) ∷ parts (remaining_list f.remaining)) above

abbrev pub copying_weight : Copying → ℕ
copying_weight f = 2 * length (below (parts (remaining_list f.remaining))) + 1

abbrev pub copying_weights : List Copying → ℕ
copying_weights [] = 0
copying_weights (f ∷ fs) = copying_weight f + copying_weights fs

pub copying_weights_pop : (fs : List Copying) (f : Copying) → copying_weights (fs ++ f ∷ []) ≡ copying_weights fs + copying_weight f
copying_weights_pop [] f = omega arith
copying_weights_pop (g ∷ fs) f = omega (arith, copying_weights_pop fs f)

-- the next directory is begun
pub half_copied_begun : (f : Copying) (r : Remaining) (child : Child) (node : Opened) → remaining_list f.remaining ≡ child ∷ remaining_list r
    → AreNonEmpty (λ (p : Vec Child Global). p.items) r.more.now → IsCopiedInPart f (parts (remaining_list f.remaining)) node
    → IsCopiedInPart (record { name = f.name; entries = f.entries; base = f.base; copies = f.copies; remaining = r })
    ((bstring_bytes child.name, child.open) ∷ parts (remaining_list r)) node
half_copied_begun f r child node next filled so = record {
  view = ap (λ cs. opened f.entries f.base (parts f.copies.items ++ parts cs)) (sym next) ∙ so.view;
  level = subst (λ cs. IsLevel f.entries (parts f.copies.items ++ parts cs)) next so.level;
  filled = filled;
}

pub copying_weight_begun : (f : Copying) (r : Remaining) (child : Child) → remaining_list f.remaining ≡ child ∷ remaining_list r
    → copying_weight (record { name = f.name; entries = f.entries; base = f.base; copies = f.copies; remaining = r }) + 2 * length child.open
    ≡ copying_weight f
copying_weight_begun f r child next = omega (
  arith,
  ap (λ cs. length (below (parts cs))) next,
  length-append (under (bstring_bytes child.name) child.open) (below (parts (remaining_list r))),
  length-under (bstring_bytes child.name) child.open,
)

-- no directory remains
pub view_of_copied : (f : Copying) (node : Opened) → remaining_list f.remaining ≡ [] → IsCopiedInPart f (parts (remaining_list f.remaining)) node
    → opened f.entries f.base (parts f.copies.items) ≡ node
view_of_copied f node none so = ap (opened f.entries f.base) (sym (append-nil (parts f.copies.items)))
    ∙ ap (λ cs. opened f.entries f.base (parts f.copies.items ++ parts cs)) (sym none) ∙ so.view

-- the directory above gets the copy
pub half_copied_ended : (f : Copying) (copies : Vec Child Global) (child : Child) (node : Opened) (inner : Opened) (name : List ℕ)
    → copies.items ≡ f.copies.items ++ child ∷ [] → bstring_bytes child.name ≡ name → child.open ≡ inner
    → IsCopiedInPart f ((name, inner) ∷ parts (remaining_list f.remaining)) node
    → IsCopiedInPart (record { name = f.name; entries = f.entries; base = f.base; copies = copies; remaining = f.remaining })
    (parts (remaining_list f.remaining)) node
half_copied_ended f copies child node inner name pushed named there so =
    let rest = parts (remaining_list f.remaining) in
    let same : part child ≡ (name, inner) = ap (λ n. (n, child.open)) named ∙ ap (λ (ds : Opened). (name, ds)) there in
    let all : parts copies.items ++ rest ≡ parts f.copies.items ++ ((name, inner) ∷ rest) =
    ap (λ cs. parts cs ++ rest) pushed ∙ ap (λ ps. ps ++ rest) (map-append part f.copies.items (child ∷ []))
    ∙ append_assoc (parts f.copies.items) (part child ∷ []) rest ∙ ap (λ p. parts f.copies.items ++ (p ∷ rest)) same in record {
      view = ap (opened f.entries f.base) all ∙ so.view;
      level = subst (IsLevel f.entries) (sym all) so.level;
      filled = so.filled;
    }
