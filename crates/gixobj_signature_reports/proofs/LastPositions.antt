-- The bytes after the last ` key ` of a line, found by a backward search, space by space: for `after_last_key`.
use Rattle.std.proofs.Common.{◌≡◌, ◌≢◌, ◌∷◌, ◌++◌, ◌∙◌, ◌<◌, ◌≤◌, ◌&&◌, arith, [], ap, codes, cond, drop, length, length-append, nat_eq, sym, take}
use Rattle.std.proofs.Common.{append_assoc, suc, zero, ℕ, Bool, true, false, List, Some, None, refl}
use Rattle.std.proofs.lemmas.Bool.{eqb-true}
use Rattle.std.proofs.lemmas.List.Elements.{All-head, All-tail}
use Rattle.std.specs.Cmp.Lexicographic.{pointwise}
use Rattle.bstr.proofs.Computing.{computing}
use Rattle.gixobj_hash.specs.Bytes.{space}
use Rattle.gixobj_hash.specs.ByteStrings.{IsByteFree, SplitsAtLast}
use Rattle.gixobj_signature_reports.specs.Fields.{after_prefix, either}
use Rattle.gixobj_signature_reports.specs.SshReports.{after_last, ssh_key}

abbrev key_token : List ℕ
key_token = codes " key "

-- the last occurrence in a suffix of the bytes is the last of all bytes
after_last_of_drop : (content : List ℕ) (at : ℕ) (bytes rest : List ℕ) → after_last content (drop at bytes) ≡ Some rest → after_last content bytes ≡ Some rest
after_last_of_drop content zero bytes rest is = is
after_last_of_drop content (suc at) [] rest is = is
after_last_of_drop content (suc at) (byte ∷ bytes) rest is = ap (λ it. either it (after_prefix content (byte ∷ bytes)))
    (after_last_of_drop content at bytes rest is)

false_of_not_true : (t : Bool) → ¬ (t ≡ true) → t ≡ false
false_of_not_true true other = absurd (other refl)
false_of_not_true false other = refl

-- no occurrence begins with another byte than a space
no_key_token_of_other_byte : (byte : ℕ) (rest : List ℕ) → byte ≢ space → after_prefix key_token (byte ∷ rest) ≡ None
no_key_token_of_other_byte byte rest other =
    ap (λ (t : Bool). cond (t && pointwise nat_eq (codes "key ") (take 4 rest)) (Some (drop 4 rest)) None)
    (false_of_not_true (nat_eq space byte) (λ yes. other (sym (eqb-true space byte yes))))

no_key_token_of_space_free_append : (free following : List ℕ) → IsByteFree space free → after_last key_token following ≡ None
    → after_last key_token (free ++ following) ≡ None
no_key_token_of_space_free_append [] following all none = none
no_key_token_of_space_free_append (byte ∷ free) following all none =
    ap (λ it. either it (after_prefix key_token (byte ∷ free ++ following)))
    (no_key_token_of_space_free_append free following (All-tail (λ it. it ≢ space) byte free all) none)
    ∙ no_key_token_of_other_byte byte (free ++ following) (All-head (λ it. it ≢ space) byte free all)

drop_len_append : (prefix back : List ℕ) → drop (length prefix) (prefix ++ back) ≡ back
drop_len_append [] back = refl
drop_len_append (byte ∷ prefix) back = drop_len_append prefix back

-- a backward search that splits `remaining` at its last space
module _ (line remaining prefix rest : List ℕ) (entire : line ≡ remaining ++ drop (length remaining) line)
    (split : SplitsAtLast space remaining prefix rest) where
  line_is : line ≡ prefix ++ (space ∷ rest ++ drop (length remaining) line)
  line_is = entire ∙ ap (λ (it : List ℕ). it ++ drop (length remaining) line) split.joined ∙ append_assoc prefix (space ∷ rest)
      (drop (length remaining) line)

  at_prefix : drop (length prefix) line ≡ space ∷ rest ++ drop (length remaining) line
  at_prefix = ap (drop (length prefix)) line_is ∙ drop_len_append prefix (space ∷ rest ++ drop (length remaining) line)

  pub joined_here : line ≡ prefix ++ drop (length prefix) line
  joined_here = line_is ∙ ap (λ (it : List ℕ). prefix ++ it) (sym at_prefix)

  pub inside_here : length prefix ≤ length line
  inside_here = let sum = ap length joined_here ∙ length-append prefix (drop (length prefix) line) in omega (arith, sum)

  here : after_last key_token (drop (length remaining) line) ≡ None → after_last key_token (drop (length prefix) line) ≡ after_prefix key_token
      (drop (length prefix) line)
  here none =
      ap (after_last key_token) at_prefix
      ∙ ap (λ it. either it (after_prefix key_token (space ∷ rest ++ drop (length remaining) line)))
      (no_key_token_of_space_free_append rest (drop (length remaining) line) split.last none)
      ∙ sym (ap (after_prefix key_token) at_prefix)

  pub key_here : (token : List ℕ) → after_last key_token (drop (length remaining) line) ≡ None
      → after_prefix key_token (drop (length prefix) line) ≡ Some token
      → Some token ≡ after_last key_token line
  key_here token none is = sym (after_last_of_drop key_token (length prefix) line token (here none ∙ is))

  pub no_key_here : after_last key_token (drop (length remaining) line) ≡ None → after_prefix key_token (drop (length prefix) line) ≡ None
      → after_last key_token (drop (length prefix) line) ≡ None
  no_key_here none is = here none ∙ is

pub prefix_len_lt : (remaining prefix rest : List ℕ) → SplitsAtLast space remaining prefix rest → length prefix < length remaining
prefix_len_lt remaining prefix rest split = let sum = ap length split.joined ∙ length-append prefix (space ∷ rest) in omega (arith, sum)

pub no_key_after_last : (line remaining : List ℕ) → line ≡ remaining ++ drop (length remaining) line → IsByteFree space remaining
    → after_last key_token (drop (length remaining) line) ≡ None → None ≡ after_last key_token line
no_key_after_last line remaining entire free none =
    sym (ap (after_last key_token) entire ∙ no_key_token_of_space_free_append remaining (drop (length remaining) line) free none)

-- empty output has no key
ssh_key_nil : ssh_key [] ≡ None
unfolding computing
ssh_key_nil = refl

pub output_not_nil_of_key : (output : List ℕ) → ssh_key output ≢ None → output ≢ []
output_not_nil_of_key output some none = some (ap ssh_key none ∙ ssh_key_nil)
