-- A list of one item or two, mapped by a function.
use Rattle.std.proofs.Common.{◌≡◌, ◌≢◌, ℕ, List, [], ◌∷◌, length, map, get_or, arith}
use Rattle.gixobj_hash.specs.declared.hash.kind.Kind.{Kind}
use Rattle.gixobj_cli_show.specs.Arguments.{hash_arguments}

pub map_one : {X Y : Type 0} (f : X → Y) (xs : List X) (x : X) → length xs ≡ 1 → x ≡ get_or xs 0 x → map f xs ≡ f x ∷ []
map_one f [] x len first = absurd (omega arith)
map_one f (a ∷ []) x len first = cc first
map_one f (a ∷ b ∷ xs) x len first = absurd (omega arith)

pub map_two : {X Y : Type 0} (f : X → Y) (xs : List X) (x y : X) → length xs ≡ 2 → x ≡ get_or xs 0 x → y ≡ get_or xs 1 y → map f xs ≡ f x ∷ f y ∷ []
map_two f [] x y len first second = absurd (omega arith)
map_two f (a ∷ []) x y len first second = absurd (omega arith)
map_two f (a ∷ b ∷ []) x y len first second = cc (first, second)
map_two f (a ∷ b ∷ c ∷ xs) x y len first second = absurd (omega arith)

-- arguments with another first argument are not the command
pub map_one_ne_command : {X : Type 0} (f : X → List ℕ) (xs : List X) (x : X) (command : List ℕ) → length xs ≡ 1 → x ≡ get_or xs 0 x → f x ≢ command
    → (hash : Kind)
    → ¬ (map f xs ≡ command ∷ hash_arguments hash)
map_one_ne_command f xs x command len first other hash is = other (cc (map_one f xs x len first, is))

pub map_two_ne_command : {X : Type 0} (f : X → List ℕ) (xs : List X) (x y : X) (command : List ℕ) → length xs ≡ 2 → x ≡ get_or xs 0 x → y ≡ get_or xs 1 y
    → f x ≢ command
    → (hash : Kind) → ¬ (map f xs ≡ command ∷ hash_arguments hash)
map_two_ne_command f xs x y command len first second other hash is = other (cc (map_two f xs x y len first second, is))
