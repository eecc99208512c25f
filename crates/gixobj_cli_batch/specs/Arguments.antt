-- The commands that the arguments of the program name.
use Rattle.std.specs.Prelude.{◌≡◌, ◌≢◌, ℕ, Bool, true, false, List, [], ◌∷◌, ◌++◌, Option, Some, None, codes, ⊤}
use Rattle.gix_object.specs.Hash.{DecodesToId, IsIdHex}
use Rattle.gix_object.specs.hash.hash.object_id.ObjectId.{ObjectId}
use Rattle.gixobj_cli_batch.specs.declared.arguments.Command.{Command}
use Rattle.gixobj_cli_batch.specs.declared.arguments.Command.TheVariants as command
use Rattle.gixobj_cli_batch.specs.declared.fault.Fault.{Fault}
use Rattle.gixobj_cli_batch.specs.declared.fault.Fault.TheVariants as program
use Rattle.gixobj_walks_graph.specs.declared.order.Order.{Order}
use Rattle.gixobj_walks_graph.specs.declared.order.Order.TheVariants.{Date, Topological}

-- the argument is the hex of this id
abbrev pub IsIdArgument : List ℕ → ObjectId → Type 0
IsIdArgument hex id = IsIdHex hex × DecodesToId hex id

-- the argument is the hex of no id
abbrev pub NamesNoId : List ℕ → Type 0
NamesNoId hex = (id : ObjectId) → ¬ IsIdArgument hex id

-- the arguments of a check after its name
abbrev pub strict_arguments : Bool → List (List ℕ)
strict_arguments true = codes "--strict" ∷ []
strict_arguments false = []

-- ---- walks

-- `^`
abbrev pub caret : ℕ
caret = 94

-- the argument is a `^` and the hex of this id
abbrev pub IsHiddenArgument : List ℕ → ObjectId → Type 0
IsHiddenArgument argument id = (hex : List ℕ) × (argument ≡ caret ∷ hex) × IsIdArgument hex id

-- the argument is a `^` and the hex of no id, or no `^`
abbrev pub NamesNoHiddenId : List ℕ → Type 0
NamesNoHiddenId argument = (id : ObjectId) → ¬ IsHiddenArgument argument id

-- the argument for an order; none for that by date
abbrev pub order_arguments : Order → List (List ℕ)
order_arguments Date = []
order_arguments Topological = codes "--topo-order" ∷ []

-- the first of the arguments is not that for the topological order
abbrev pub NamesNoOrder : List (List ℕ) → Type 0
NamesNoOrder arguments = (rest : List (List ℕ)) → arguments ≢ codes "--topo-order" ∷ rest

-- the arguments are the tip of a walk, and the hidden id after a `^` or nothing
abbrev pub AreWalkArguments : List (List ℕ) → ObjectId → Option ObjectId → Type 0
AreWalkArguments arguments tip None = (hex : List ℕ) × (arguments ≡ hex ∷ []) × IsIdArgument hex tip
AreWalkArguments arguments tip (Some hidden) = (hex argument : List ℕ) × (arguments ≡ hex ∷ argument ∷ [])
    × IsIdArgument hex tip × IsHiddenArgument argument hidden

-- the arguments are those of no walk
abbrev pub NamesNoWalk : List (List ℕ) → Type 0
NamesNoWalk arguments = (tip : ObjectId) (hidden : Option ObjectId) → ¬ AreWalkArguments arguments tip hidden

-- ---- commands

-- the arguments are `check`, alone or with `--strict`; or `log` or `ls` and an id; or `diff` or `merge-base` and two
-- ids; or `rev-list`, an order and the ids of a walk
abbrev pub NamesCommand : List (List ℕ) → Command → Type 0
NamesCommand arguments (command.Check strict) = arguments ≡ codes "check" ∷ strict_arguments strict
NamesCommand arguments (command.Log id) = (hex : List ℕ) × (arguments ≡ codes "log" ∷ hex ∷ []) × IsIdArgument hex id
NamesCommand arguments (command.List id) = (hex : List ℕ) × (arguments ≡ codes "ls" ∷ hex ∷ []) × IsIdArgument hex id
NamesCommand arguments (command.Diff from to) = (first second : List ℕ)
    × (arguments ≡ codes "diff" ∷ first ∷ second ∷ []) × IsIdArgument first from × IsIdArgument second to
NamesCommand arguments (command.MergeBase one other) = (first second : List ℕ)
    × (arguments ≡ codes "merge-base" ∷ first ∷ second ∷ []) × IsIdArgument first one × IsIdArgument second other
NamesCommand arguments (command.RevList order tip hidden) = (ids : List (List ℕ))
    × (arguments ≡ codes "rev-list" ∷ order_arguments order ++ ids) × AreWalkArguments ids tip hidden

-- the arguments are those of no command
abbrev pub NamesNoCommand : List (List ℕ) → Type 0
NamesNoCommand arguments = (named : Command) → ¬ NamesCommand arguments named

-- the arguments aren't known: a read of them failed, or the allocation of their list
abbrev pub IsArgumentsError : Fault → Type 0
IsArgumentsError (program.Failed cause) = ⊤
IsArgumentsError program.OutOfMemory = ⊤
IsArgumentsError other = ⊥
