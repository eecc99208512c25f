-- Searches of a commit's extra headers by name (gitdatamodel, "commits").
use Rattle.std.specs.Prelude.{◌≡◌, ◌≢◌, ℕ, suc, List, [], ◌∷◌, ◌++◌, All, Option, None, Some, MatchOption, length, map}
use Rattle.std.specs.Iterator.{Yields, YieldsThen}
use Rattle.std.specs.List.{filter}
use Rattle.std.specs.Str.{bytes_eq}
use Rattle.bstr.specs.BStr.{bstr_bytes}
use Rattle.bstr.specs.declared.bstr.BStr.{BStr}
use Rattle.gixobj_hash.specs.HeaderFormat.{Header}
use Rattle.gixobj_commit.specs.declared.extra_headers.ExtraHeaders.{ExtraHeaders}
use Rattle.gixobj_commit.specs.declared.extra_headers.FindAll.{FindAll}
use Rattle.gixobj_hash.specs.declared.hash.kind.Kind.{Kind}
pub use Rattle.gixobj_grammar.specs.RemainingHeaders.{pair_of}

-- the iterator that yields the headers
abbrev pub iterator_of : {I : Type 0} → ExtraHeaders I → I
iterator_of headers = headers.inner

-- the kind of the commit's ids, which determines the name of the signature header
abbrev pub hash_kind_of : {I : Type 0} → ExtraHeaders I → Kind
hash_kind_of headers = headers.hash_kind

-- the iterator that yields the searched headers
abbrev pub searched : {I : Type 0} → FindAll I → I
searched values = values.inner

-- the name that is searched for
abbrev pub searched_name : {I : Type 0} → FindAll I → List ℕ
searched_name values = values.name.now

-- the header of this name and this value
abbrev pub header_at : List ℕ → BStr → Header
header_at name value = record { name = name; value = bstr_bytes value }

-- no header has this name
abbrev pub HasNoHeaderNamed : List ℕ → List Header → Type 0
HasNoHeaderNamed name headers = All (λ it. it.name ≢ name) headers

-- the first header of this name has this value; these others come before it, and this rest after it
abbrev pub HasFirstHeader : List ℕ → List Header → List Header → BStr → List Header → Type 0
HasFirstHeader name headers others value rest = HasNoHeaderNamed name others
    × (headers ≡ others ++ header_at name value ∷ rest)

-- the value of the first header of this name, or none if no header has it
abbrev pub IsFirstValue : List ℕ → List Header → Option BStr → Type 0
IsFirstValue name headers result = MatchOption result (HasNoHeaderNamed name headers)
    (λ value. (others rest : List Header) × HasFirstHeader name headers others value rest)

-- the position, from 0, of the first header of this name, or none if no header has it
abbrev pub IsFirstPosition : List ℕ → List Header → Option ℕ → Type 0
IsFirstPosition name headers result = MatchOption result (HasNoHeaderNamed name headers)
    (λ index. (others rest : List Header) × (value : BStr) × HasFirstHeader name headers others value rest
    × (index ≡ length others))

-- the values of all headers of this name, in order
abbrev pub values_named : List ℕ → List Header → List (List ℕ)
values_named name headers = map (λ it. it.value) (filter (λ it. bytes_eq it.name name) headers)

module _ {S : Type 0} (steps : S → Option (BStr × BStr) → S → Type 0) (name : List ℕ) where
  -- the calls from one state to another yielded these headers: up to the first of this name, or all of them if none has
  -- it
  abbrev pub Gave : S → List (BStr × BStr) → Option BStr → S → Type 0
  Gave from consumed None to = YieldsThen steps from consumed None to × HasNoHeaderNamed name (map pair_of consumed)
  Gave from consumed (Some value) to = Yields steps from consumed to × (others : List Header)
      × HasFirstHeader name (map pair_of consumed) others value []

  -- the next value of this name, or none if the iterator ends first
  abbrev pub NextValue : S → Option BStr → S → Type 0
  NextValue from result to = (consumed : List (BStr × BStr)) × Gave from consumed result to

  -- the value of the first header of this name that the iterator yields, or none if it yields none
  abbrev pub FindsValue : S → Option BStr → Type 0
  FindsValue from result = (to : S) × NextValue from result to

  -- the number of headers that the iterator yields before the first of this name, or none if it yields none
  abbrev pub FindsPosition : S → Option ℕ → Type 0
  FindsPosition from result = (consumed : List (BStr × BStr)) × (to : S)
      × MatchOption result (Gave from consumed None to)
      (λ index. (value : BStr) × Gave from consumed (Some value) to × (length consumed ≡ suc index))

-- one step of a search for all values of a name: the next of them, or none at the end
abbrev pub NextOfAll : {S : Type 0} → (S → Option (BStr × BStr) → S → Type 0) → FindAll S → Option BStr → FindAll S
    → Type 0
NextOfAll steps before result after = (searched_name after ≡ searched_name before)
    × NextValue steps (searched_name before) (searched before) result (searched after)
