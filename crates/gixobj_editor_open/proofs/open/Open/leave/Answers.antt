use Rattle.std.proofs.Common.{◌∙◌, refl, subst, sym, ap}
use Rattle.std.specs.Prelude.{reverse}
use Rattle.bstr.specs.Owned.{bstring_bytes}
use Rattle.gixobj_editor_files.specs.Files.{Path}
use Rattle.gixobj_editor_open.specs.Paths.{names_of}
use Rattle.gixobj_editor_open.specs.Descents.{AreAbove, inner, rebuilt}
use Rattle.gixobj_editor_open.specs.Nested.{Opened}
use Rattle.gixobj_editor_open.proofs.Descents.{reverse_names_snoc}
use Rattle.gixobj_editor_open.proofs.open.Open.leave.Goals as goal

pub names-init : goal.names-init
names-init c = record { same = refl; are_above = c.requires }

pub names-preserved : goal.names-preserved
names-preserved c =
    let inv = c.names.invariant in
    let names = reverse (names_of c.in-Some.before.now) in
    let back = reverse_names_snoc c.names.remaining.now c.in-Some.before.now c.in-Some.name.now c.in-Some.ensures.cases.0 in
    let are = subst (λ (p : Path). AreAbove p c.names.above) back inv.are_above in
    let swapped = c.exchange.ensures.exchanged (c.exchange.ensures.open ∙ are.0) in record {
      same = rw (c.swap.ensures.x_after, c.swap.ensures.y_after) (ap (λ (d : Opened). rebuilt names d c.exchange.new.self) swapped.taken_is
          ∙ ap (λ (d : Opened). rebuilt names (inner (bstring_bytes c.in-Some.name.now) c.names.above) d) swapped.new_is
          ∙ ap (λ (p : Path). rebuilt p c.names.above c.names.self) (sym back) ∙ inv.same);
      are_above = rw c.swap.ensures.y_after (subst (λ (d : Opened). AreAbove names d) (sym swapped.taken_is) are.1);
    }
