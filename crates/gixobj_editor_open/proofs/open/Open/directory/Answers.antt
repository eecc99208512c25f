use Rattle.std.proofs.Common.{◌≡◌, ◌∙◌, ◌<◌, ◌≤◌, ◌+◌, ℕ, List, ◌∷◌, ◌++◌, drop, get_or, length, arith, ap, sym}
use Rattle.std.proofs.lemmas.List.{drop_all, drop_more}
use Rattle.bstr.specs.Owned.{bstring_bytes}
use Rattle.bstr.specs.declared.bstring.BString.{BString}
use Rattle.gixobj_editor_open.specs.Paths.{names_of}
use Rattle.gixobj_editor_open.specs.Nested.{child_list, dirs_of, parts}
use Rattle.gixobj_editor_open.proofs.Levels.{IsChild, dirs_of_nil}
use Rattle.gixobj_editor_open.proofs.Ordered.{level_names_apart}
use Rattle.gixobj_editor_open.proofs.Steps.{path_down, path_unopened}
use Rattle.gixobj_editor_open.proofs.open.Open.directory.Goals as goal

names_of_drop : (path : List BString) (i : ℕ) (name : BString) → i < length path → name ≡ get_or path i name
    → names_of (drop i path) ≡ bstring_bytes name ∷ names_of (drop (i + 1) path)
names_of_drop path i name low is = ap names_of (drop_more path i name low ∙ ap (λ (x : BString). x ∷ drop (i + 1) path) (sym is))

pub returns-in_default-clause-none : goal.returns-in_default-clause-none
returns-in_default-clause-none c = λ at.
    let path = c.args.path.now in
    let i = c.loop-name.name-index in
    c.loop-name.invariant at
    ∙ path_unopened c.loop-name.here.now c.here.inside.entries (child_list c.here.inside.children) c.here.view_is (level_names_apart c.here.invariant.level)
    (names_of (drop i path)) (names_of (drop (i + 1) path)) (names_of_drop path i c.name-item.result c.loop-name-test.true c.name-item.is)
    (c.in_default.ensures {u = tt}).none at

pub loop-name-preserved : goal.loop-name-preserved
loop-name-preserved c = λ at.
    let path = c.args.path.now in
    let i = c.loop-name.name-index in
    let child : IsChild (bstring_bytes c.name-item.result) (child_list c.here.inside.children) _ c.at-child.result.now =
    record { found = (c.in-Some.ensures {u = tt}).found; is = c.at-child.ensures } in
    c.loop-name.invariant at
    ∙ path_down c.loop-name.here.now c.here.inside.entries (child_list c.here.inside.children) c.here.view_is (level_names_apart c.here.invariant.level)
    (names_of (drop i path)) (names_of (drop (i + 1) path)) (names_of_drop path i c.name-item.result c.loop-name-test.true c.name-item.is) child at

pub returns-clause-found : goal.returns-clause-found
returns-clause-found c = λ at.
    let path = c.args.path.now in
    let high : length path ≤ c.loop-name.name-index = omega (arith, c.loop-name-test.false) in
    let here = c.loop-name.here.now in
    sym (c.loop-name.invariant at ∙ ap (λ (names : List BString). dirs_of here (names_of names ++ at)) (drop_all c.loop-name.name-index path high))

pub returns-clause-root : goal.returns-clause-root
returns-clause-root c =
    let here = c.here-2.inside in
    (here.entries, dirs_of_nil c.loop-name.here.now here.entries (parts (child_list here.children)) c.here-2.view_is)
