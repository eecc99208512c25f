-- An open directory in another has fewer open directories than that one.
use Rattle.std.specs.Prelude.{◌≡◌, ◌+◌, ◌≤◌, List, [], ◌∷◌, ◌++◌, length}
use Rattle.std.specs.List.{flat_map}
use Rattle.std.specs.declared.alloc.Global.{Global}
use Rattle.std.specs.declared.vec.Vec.{Vec}
use Rattle.std.proofs.Common.{arith, length-append}
use Rattle.bstr.specs.Owned.{bstring_bytes}
use Rattle.gixobj_editor_open.specs.declared.open.Child.{Child}
use Rattle.gixobj_editor_open.specs.declared.open.Children.{Children}
use Rattle.gixobj_editor_open.specs.declared.open.Open.TheDeep.{deep-Child}
use Rattle.gixobj_editor_open.specs.Nested.{below, child_list, length-under, parts, under}
use denote.Param.Weighed.{most}

-- the maximum size of a child is at most one more than the number of open directories below
pub most_le-below : (cs : List Child) → most deep-Child cs ≤ length (below (parts cs)) + 1
most_le-below [] = omega arith
most_le-below (c ∷ cs) = omega (
  arith,
  most_le-below cs,
  length-under (bstring_bytes c.name) c.open,
  length-append
      (under (bstring_bytes c.name) c.open) (below (parts cs)),
)

-- the open directories below appended lists of children
pub length-below_append : (cs ds : List Child)
    → length (below (parts (cs ++ ds))) ≡ length (below (parts cs)) + length (below (parts ds))
length-below_append [] ds = omega arith
length-below_append (c ∷ cs) ds = omega (
  arith,
  length-below_append cs ds,
  length-append
      (under (bstring_bytes c.name) c.open) (below (parts (cs ++ ds))),
  length-append
      (under (bstring_bytes c.name) c.open) (below (parts cs)),
)

most_le-below_pieces : (vs : List (Vec Child Global))
    → most (λ v. most deep-Child v.items) vs
    ≤ length (below (parts (flat_map (λ (p : Vec Child Global). p.items) vs))) + 1
most_le-below_pieces [] = omega arith
most_le-below_pieces (v ∷ vs) = omega (
  arith,
  most_le-below v.items,
  most_le-below_pieces vs,
  length-below_append v.items (flat_map (λ (p : Vec Child Global). p.items) vs),
)

-- the maximum size of a child in the first piece, and in the others, is at most one more than the number of open
-- directories below
pub most_le-first : (children : Children)
    → most deep-Child children.first.items ≤ length (below (parts (child_list children))) + 1
most_le-first children = omega (
  arith,
  most_le-below children.first.items,
  length-below_append children.first.items (flat_map (λ (p : Vec Child Global). p.items) children.more.items),
)

pub most_le-more : (children : Children)
    → most (λ v. most deep-Child v.items) children.more.items ≤ length (below (parts (child_list children))) + 1
most_le-more children = omega (
  arith,
  most_le-below_pieces children.more.items,
  length-below_append children.first.items (flat_map (λ (p : Vec Child Global). p.items) children.more.items),
)
