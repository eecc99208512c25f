-- The loop that opens the directories on a path and enters each, and its returns: at the end of the path, at an entry
-- that ends the opening, and at a failed lookup. They are the clauses of `open_and_enter`.
use Rattle.std.proofs.Common.{◌≡◌, ◌∙◌, ◌+◌, ◌≤◌, ℕ, List, [], ◌∷◌, None, refl, sym, ap, subst, take, drop, length, arith}
use Rattle.std.specs.Prelude.{reverse}
use Rattle.std.proofs.lemmas.List.{take_all}
use Rattle.bstr.specs.Owned.{bstring_bytes}
use Rattle.bstr.specs.declared.bstring.BString.{BString}
use Rattle.gixobj_editor_files.specs.Files.{Path}
use Rattle.gixobj_editor_open.specs.Paths.{names_of}
use Rattle.gixobj_editor_open.specs.Descents.{rebuilt, top_of}
use Rattle.gixobj_editor_open.specs.Nested.{Opened, dirs_of, entries_side}
use Rattle.gixobj_editor_open.proofs.Descents.{names_of_take_more}
use Rattle.gixobj_editor_open.proofs.Exchanges.{at_without_inner}
use Rattle.gixobj_editor_lookups.proofs.OpeningDescents.{ComesAlong, IsOpenedFrom, Opening, Stopping, comes_along_nil, comes_along_snoc, halts_of_error}
use Rattle.gixobj_editor_lookups.proofs.OpeningDescents.{is_opened_from_next, names_of_middle, opens_of_end, opens_of_stay}
use Rattle.gixobj_editor_lookups.proofs.opening.open_and_enter.Goals as goal

pub loop-name-init : goal.loop-name-init
loop-name-init g c = record { count = refl; along = comes_along_nil _ _ _ _ _ }

pub loop-name-preserved : goal.loop-name-preserved
loop-name-preserved g c =
    let inv = c.loop-name.invariant in
    let name = bstring_bytes c.name-item.result in
    let k = c.loop-name.name-index in
    let path = c.args.path.now in
    let next = c.open_recursively.new.node in
    let o = c.open_recursively.ensures in
    let entire = is_opened_from_next inv.along next o.kept o.still_opened o.bases o.same_root o.root.0 o.root.1 in
    let one : names_of c.from_ref-next.result.now ≡ name ∷ [] = ap names_of c.from_ref-next.ensures.value in
    let opened = subst (λ (p : Path). Opening (g.S.Store.objects c.args.store.now) c.args.not_looked_up p (dirs_of c.loop-name.node) (dirs_of next)
    c.loop-name.lookups
    c.open_recursively.new.lookups) one (c.in_default.ensures {u = tt}).opened in
    let exchanged = (c.if-not-exchange.ensures {u = tt}).exchanged refl in record {
      count = ap (λ (n : ℕ). n + 1) inv.count;
      along = rw (c.swap.ensures.x_after, c.swap.ensures.y_after)
          (subst (λ (p : Path). ComesAlong (g.S.Store.objects c.args.store.now) c.args.not_looked_up p c.args.node.now c.exchange.new.other c.exchange.new.self
          c.args.lookups.now c.open_recursively.new.lookups)
          (sym (names_of_take_more path k c.name-item.result c.loop-name-test.true c.name-item.is))
          (comes_along_snoc inv.along next name c.exchange.new.self c.exchange.new.other c.open_recursively.new.lookups entire opened exchanged));
    }

pub returns-in-Err-clause-still_opened : goal.returns-in-Err-clause-still_opened
returns-in-Err-clause-still_opened g c =
    let inv = c.loop-name.invariant in
    let name = bstring_bytes c.name-item.result in
    let k = c.loop-name.name-index in
    let path = c.args.path.now in
    let next = c.open_recursively.new.node in
    let o = c.open_recursively.ensures in
    let entire = is_opened_from_next inv.along next o.kept o.still_opened o.bases o.same_root o.root.0 o.root.1 in
    let top_is : top_of path c.loop-name.depth c.loop-name.above next ≡ rebuilt (reverse (names_of (take k path))) c.loop-name.above next =
    ap (λ (n : ℕ). top_of path n c.loop-name.above next) inv.count in
    let top : IsOpenedFrom c.args.node.now _ = subst (IsOpenedFrom c.args.node.now) (sym top_is) entire in top.still_opened

pub returns-in-Err-clause-bases : goal.returns-in-Err-clause-bases
returns-in-Err-clause-bases g c =
    let inv = c.loop-name.invariant in
    let name = bstring_bytes c.name-item.result in
    let k = c.loop-name.name-index in
    let path = c.args.path.now in
    let next = c.open_recursively.new.node in
    let o = c.open_recursively.ensures in
    let entire = is_opened_from_next inv.along next o.kept o.still_opened o.bases o.same_root o.root.0 o.root.1 in
    let top_is : top_of path c.loop-name.depth c.loop-name.above next ≡ rebuilt (reverse (names_of (take k path))) c.loop-name.above next =
    ap (λ (n : ℕ). top_of path n c.loop-name.above next) inv.count in
    let top : IsOpenedFrom c.args.node.now _ = subst (IsOpenedFrom c.args.node.now) (sym top_is) entire in top.bases

pub returns-in-Err-clause-same_root : goal.returns-in-Err-clause-same_root
returns-in-Err-clause-same_root g c =
    let inv = c.loop-name.invariant in
    let name = bstring_bytes c.name-item.result in
    let k = c.loop-name.name-index in
    let path = c.args.path.now in
    let next = c.open_recursively.new.node in
    let o = c.open_recursively.ensures in
    let entire = is_opened_from_next inv.along next o.kept o.still_opened o.bases o.same_root o.root.0 o.root.1 in
    let top_is : top_of path c.loop-name.depth c.loop-name.above next ≡ rebuilt (reverse (names_of (take k path))) c.loop-name.above next =
    ap (λ (n : ℕ). top_of path n c.loop-name.above next) inv.count in
    let top : IsOpenedFrom c.args.node.now _ = subst (IsOpenedFrom c.args.node.now) (sym top_is) entire in top.same_root

pub returns-then-not-exchange-clause-still_opened : goal.returns-then-not-exchange-clause-still_opened
returns-then-not-exchange-clause-still_opened g c =
    let inv = c.loop-name.invariant in
    let name = bstring_bytes c.name-item.result in
    let k = c.loop-name.name-index in
    let path = c.args.path.now in
    let next = c.open_recursively.new.node in
    let o = c.open_recursively.ensures in
    let entire = is_opened_from_next inv.along next o.kept o.still_opened o.bases o.same_root o.root.0 o.root.1 in
    let same = (c.if-not-exchange.ensures {u = tt}).unchanged refl in
    let top_is : top_of path c.loop-name.depth c.exchange.new.other c.exchange.new.self
    ≡ rebuilt (reverse (names_of (take k path))) c.loop-name.above next =
    ap (λ (n : ℕ). top_of path n c.exchange.new.other c.exchange.new.self) inv.count
    ∙ ap (λ (d : Opened). top_of path k c.exchange.new.other d) same.0 ∙ ap (λ (d : Opened). top_of path k d next) same.1 in
    let top : IsOpenedFrom c.args.node.now _ = subst (IsOpenedFrom c.args.node.now) (sym top_is) entire in top.still_opened

pub returns-then-not-exchange-clause-bases : goal.returns-then-not-exchange-clause-bases
returns-then-not-exchange-clause-bases g c =
    let inv = c.loop-name.invariant in
    let name = bstring_bytes c.name-item.result in
    let k = c.loop-name.name-index in
    let path = c.args.path.now in
    let next = c.open_recursively.new.node in
    let o = c.open_recursively.ensures in
    let entire = is_opened_from_next inv.along next o.kept o.still_opened o.bases o.same_root o.root.0 o.root.1 in
    let same = (c.if-not-exchange.ensures {u = tt}).unchanged refl in
    let top_is : top_of path c.loop-name.depth c.exchange.new.other c.exchange.new.self
    ≡ rebuilt (reverse (names_of (take k path))) c.loop-name.above next =
    ap (λ (n : ℕ). top_of path n c.exchange.new.other c.exchange.new.self) inv.count
    ∙ ap (λ (d : Opened). top_of path k c.exchange.new.other d) same.0 ∙ ap (λ (d : Opened). top_of path k d next) same.1 in
    let top : IsOpenedFrom c.args.node.now _ = subst (IsOpenedFrom c.args.node.now) (sym top_is) entire in top.bases

pub returns-then-not-exchange-clause-same_root : goal.returns-then-not-exchange-clause-same_root
returns-then-not-exchange-clause-same_root g c =
    let inv = c.loop-name.invariant in
    let name = bstring_bytes c.name-item.result in
    let k = c.loop-name.name-index in
    let path = c.args.path.now in
    let next = c.open_recursively.new.node in
    let o = c.open_recursively.ensures in
    let entire = is_opened_from_next inv.along next o.kept o.still_opened o.bases o.same_root o.root.0 o.root.1 in
    let same = (c.if-not-exchange.ensures {u = tt}).unchanged refl in
    let top_is : top_of path c.loop-name.depth c.exchange.new.other c.exchange.new.self
    ≡ rebuilt (reverse (names_of (take k path))) c.loop-name.above next =
    ap (λ (n : ℕ). top_of path n c.exchange.new.other c.exchange.new.self) inv.count
    ∙ ap (λ (d : Opened). top_of path k c.exchange.new.other d) same.0 ∙ ap (λ (d : Opened). top_of path k d next) same.1 in
    let top : IsOpenedFrom c.args.node.now _ = subst (IsOpenedFrom c.args.node.now) (sym top_is) entire in top.same_root

pub returns-in-Err-clause-stopped_opening : goal.returns-in-Err-clause-stopped_opening
returns-in-Err-clause-stopped_opening g c =
    let inv = c.loop-name.invariant in
    let name = bstring_bytes c.name-item.result in
    let k = c.loop-name.name-index in
    let path = c.args.path.now in
    let next = c.open_recursively.new.node in
    let one : names_of c.from_ref-next.result.now ≡ name ∷ [] = ap names_of c.from_ref-next.ensures.value in
    let split = names_of_middle path k c.name-item.result c.loop-name-test.true c.name-item.is in
    let rest = names_of (drop (k + 1) path) in
    let top_is : top_of path c.loop-name.depth c.loop-name.above next ≡ rebuilt (reverse (names_of (take k path))) c.loop-name.above next =
    ap (λ (n : ℕ). top_of path n c.loop-name.above next) inv.count in
    let stopped = subst (λ (p : Path). Stopping (g.S.Store.objects c.args.store.now) (g.S.Store.may_fail c.args.store.now) c.args.not_looked_up
    c.in-Err.error p (dirs_of c.loop-name.node) (dirs_of next)
    c.loop-name.lookups c.open_recursively.new.lookups) one (c.in-Err.ensures {u = tt}).stopped_opening in
    subst (λ (d : Opened). Stopping (g.S.Store.objects c.args.store.now) (g.S.Store.may_fail c.args.store.now) c.args.not_looked_up c.in-Err.error
    (names_of path) (dirs_of c.args.node.now) (dirs_of d)
    c.args.lookups.now c.open_recursively.new.lookups) (sym top_is)
    (subst (λ (p : Path). Stopping (g.S.Store.objects c.args.store.now) (g.S.Store.may_fail c.args.store.now) c.args.not_looked_up c.in-Err.error p
    (dirs_of c.args.node.now)
    (dirs_of (rebuilt (reverse (names_of (take k path))) c.loop-name.above next)) c.args.lookups.now c.open_recursively.new.lookups) (sym split)
    (halts_of_error inv.along next (g.S.Store.may_fail c.args.store.now) name rest c.open_recursively.new.lookups c.in-Err.error stopped))

pub returns-then-not-exchange-clause-opened : goal.returns-then-not-exchange-clause-opened
returns-then-not-exchange-clause-opened g c =
    let inv = c.loop-name.invariant in
    let name = bstring_bytes c.name-item.result in
    let k = c.loop-name.name-index in
    let path = c.args.path.now in
    let next = c.open_recursively.new.node in
    let one : names_of c.from_ref-next.result.now ≡ name ∷ [] = ap names_of c.from_ref-next.ensures.value in
    let split = names_of_middle path k c.name-item.result c.loop-name-test.true c.name-item.is in
    let rest = names_of (drop (k + 1) path) in
    let same = (c.if-not-exchange.ensures {u = tt}).unchanged refl in
    let top_is : top_of path c.loop-name.depth c.exchange.new.other c.exchange.new.self
    ≡ rebuilt (reverse (names_of (take k path))) c.loop-name.above next =
    ap (λ (n : ℕ). top_of path n c.exchange.new.other c.exchange.new.self) inv.count
    ∙ ap (λ (d : Opened). top_of path k c.exchange.new.other d) same.0 ∙ ap (λ (d : Opened). top_of path k d next) same.1 in
    let opened = subst (λ (p : Path). Opening (g.S.Store.objects c.args.store.now) c.args.not_looked_up p (dirs_of c.loop-name.node) (dirs_of next)
    c.loop-name.lookups
    c.open_recursively.new.lookups) one (c.in_default.ensures {u = tt}).opened in
    let none : dirs_of next (name ∷ []) ≡ None = at_without_inner entries_side name next (sym (c.if-not-exchange.ensures {u = tt}).open) [] in
    subst (λ (d : Opened). Opening (g.S.Store.objects c.args.store.now) c.args.not_looked_up (names_of path) (dirs_of c.args.node.now) (dirs_of d)
    c.args.lookups.now c.open_recursively.new.lookups) (sym top_is)
    (subst (λ (p : Path). Opening (g.S.Store.objects c.args.store.now) c.args.not_looked_up p (dirs_of c.args.node.now)
    (dirs_of (rebuilt (reverse (names_of (take k path))) c.loop-name.above next)) c.args.lookups.now c.open_recursively.new.lookups) (sym split)
    (opens_of_stay inv.along next name rest c.open_recursively.new.lookups none opened))

pub returns-clause-opened : goal.returns-clause-opened
returns-clause-opened g c =
    let inv = c.loop-name.invariant in
    let k = c.loop-name.name-index in
    let path = c.args.path.now in
    let top_is : top_of path c.loop-name.depth c.loop-name.above c.loop-name.node
    ≡ rebuilt (reverse (names_of (take k path))) c.loop-name.above c.loop-name.node =
    ap (λ (n : ℕ). top_of path n c.loop-name.above c.loop-name.node) inv.count in
    let high : length path ≤ k = omega arith in
    subst (λ (d : Opened). Opening (g.S.Store.objects c.args.store.now) c.args.not_looked_up (names_of path) (dirs_of c.args.node.now) (dirs_of d)
    c.args.lookups.now c.loop-name.lookups) (sym top_is)
    (subst (λ (p : List BString). Opening (g.S.Store.objects c.args.store.now) c.args.not_looked_up (names_of p) (dirs_of c.args.node.now)
    (dirs_of (rebuilt (reverse (names_of (take k path))) c.loop-name.above c.loop-name.node)) c.args.lookups.now c.loop-name.lookups)
    (take_all k path high) (opens_of_end inv.along))

pub returns-clause-bases : goal.returns-clause-bases
returns-clause-bases g c =
    let inv = c.loop-name.invariant in
    let k = c.loop-name.name-index in
    let path = c.args.path.now in
    let top_is : top_of path c.loop-name.depth c.loop-name.above c.loop-name.node
    ≡ rebuilt (reverse (names_of (take k path))) c.loop-name.above c.loop-name.node =
    ap (λ (n : ℕ). top_of path n c.loop-name.above c.loop-name.node) inv.count in
    let top : IsOpenedFrom c.args.node.now _ = subst (IsOpenedFrom c.args.node.now) (sym top_is) inv.along.entire in top.bases
