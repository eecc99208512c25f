-- Searches of headers that an iterator yields from a list: for the laws on searches of headers, and `MergetagsFound`.
use Rattle.std.proofs.Common.{◌≡◌, ◌≢◌, ℕ, Bool, List, [], ◌∷◌, ◌++◌, map, Option, None, Some, append_assoc, arith, length, length-append, true, false, cond}
use Rattle.std.proofs.Common.{refl, sym, ap, subst, ◌∙◌}
use Rattle.std.proofs.lemmas.Iterator.{YieldsList}
use Rattle.std.proofs.lemmas.Iterator.Consumers.{YieldsList-from_shown}
use Rattle.std.proofs.lemmas.List.{append-nil, length-map}
use Rattle.std.proofs.lemmas.List.Elements.{All-head, All-tail}
use Rattle.std.proofs.lemmas.Slice.Eq.{bytes_eq-Decides}
use Rattle.std.specs.Iterator.{Yields, YieldsFirstBy}
use Rattle.std.specs.List.{filter}
use Rattle.std.specs.Str.{bytes_eq}
use Rattle.bstr.specs.BStr.{bstr_bytes}
use Rattle.bstr.specs.declared.bstr.BStr.{BStr}
use Rattle.gixobj_hash.specs.HeaderFormat.{Header}
use Rattle.gixobj_commit.specs.ExtraHeaders.{FindsPosition, FindsValue, Gave, NextOfAll, HasFirstHeader, IsFirstPosition, IsFirstValue, HasNoHeaderNamed}
use Rattle.gixobj_commit.specs.ExtraHeaders.{header_at, pair_of, searched, searched_name, values_named}
use Rattle.gixobj_commit.specs.declared.extra_headers.FindAll.{FindAll}

-- ---- values in a list of headers

bytes_eq_false_of_ne : (b : Bool) (xs ys : List ℕ) → bytes_eq xs ys ≡ b → xs ≢ ys → bytes_eq xs ys ≡ false
bytes_eq_false_of_ne false xs ys test other = test
bytes_eq_false_of_ne true xs ys test other = absurd (other ((bytes_eq-Decides xs ys).0 test))

values_named_append_other : (name : List ℕ) (others more : List Header) → HasNoHeaderNamed name others
    → values_named name (others ++ more) ≡ values_named name more
values_named_append_other name [] more lacks = refl
values_named_append_other name (one ∷ others) more lacks =
    let other = bytes_eq_false_of_ne (bytes_eq one.name name) one.name name refl (All-head (λ it. it.name ≢ name) one others lacks) in
    let kept = filter (λ it. bytes_eq it.name name) (others ++ more) in
    ap (λ test. map (λ it. it.value) (cond test (one ∷ kept) kept)) other
    ∙ values_named_append_other name others more (All-tail (λ it. it.name ≢ name) one others lacks)

values_named_cons_same : (name : List ℕ) (value : BStr) (more : List Header) → values_named name (header_at name value ∷ more) ≡ bstr_bytes value
    ∷ values_named name more
values_named_cons_same name value more =
    let kept = filter (λ it. bytes_eq it.name name) more in
    ap (λ test. map (λ it. it.value) (cond test (header_at name value ∷ kept) kept)) ((bytes_eq-Decides name name).1 refl)

-- ---- steps of the iterator

module _ {S : Type 0} (rest : S → List Header) where
  -- the yielded headers, and then the remaining ones
  came : (s t : S) (pairs : List (BStr × BStr)) → Yields (YieldsFirstBy pair_of rest) s pairs t → rest s ≡ map pair_of pairs ++ rest t
  came s t [] yielded = ap rest yielded
  came s t (pair ∷ pairs) (next, step, yielded) = step ∙ ap (λ it. pair_of pair ∷ it) (came next t pairs yielded)

  all_came : (name : List ℕ) (s t : S) (received : List (BStr × BStr)) → Gave (YieldsFirstBy pair_of rest) name s received None t
      → rest s ≡ map pair_of received
  all_came name s t received ((last, yielded, step), lacks) =
      came s last received yielded ∙ ap (λ it. map pair_of received ++ it) step.0 ∙ append-nil (map pair_of received)

  first : (name : List ℕ) (s t : S) (received : List (BStr × BStr)) (value : BStr)
      → (gave : Gave (YieldsFirstBy pair_of rest) name s received (Some value) t)
      → HasFirstHeader name (rest s) gave.1 value (rest t)
  first name s t received value (yielded, others, (lacks, last)) =
      (lacks, came s t received yielded ∙ ap (λ (it : List Header). it ++ rest t) last ∙ append_assoc others (header_at name value ∷ []) (rest t))

  pub first_value : (name : List ℕ) (s : S) (result : Option BStr) → FindsValue (YieldsFirstBy pair_of rest) name s result
      → IsFirstValue name (rest s) result
  first_value name s None (to, (received, gave)) = subst (HasNoHeaderNamed name) (sym (all_came name s to received gave)) gave.1
  first_value name s (Some value) (to, (received, gave)) = (gave.1, rest to, first name s to received value gave)

  pub first_position : (name : List ℕ) (s : S) (result : Option ℕ) → FindsPosition (YieldsFirstBy pair_of rest) name s result
      → IsFirstPosition name (rest s) result
  first_position name s None (received, to, gave) = first_value name s None (to, (received, gave))
  first_position name s (Some index) (received, to, (value, gave, counted)) =
      let last = gave.2.1 in (
        gave.1,
        rest to,
        value,
        first name s to received value gave,
        omega
            (arith, counted, length-map received pair_of, ap length last, length-append gave.1 (header_at name value ∷ [])),
      )

  -- ---- all values

  abbrev pub still_to_come : FindAll S → List (List ℕ)
  still_to_come s = values_named (searched_name s) (rest (searched s))

  pub none_to_come : (s t : FindAll S) → NextOfAll (YieldsFirstBy pair_of rest) s None t → length (still_to_come s) ≡ 0
  none_to_come s t (same, (received, gave)) =
      let all = all_came s.name.now s.inner t.inner received gave ∙ sym (append-nil (map pair_of received)) in
      ap (λ it. length (values_named s.name.now it)) all ∙ ap length (values_named_append_other s.name.now (map pair_of received) [] gave.1)

  pub one_came : (s : FindAll S) (value : BStr) (t : FindAll S) → NextOfAll (YieldsFirstBy pair_of rest) s (Some value) t
      → still_to_come s ≡ bstr_bytes value ∷ still_to_come t
  one_came s value t (same, (received, gave)) =
      let name = s.name.now in
      let (lacks, all) = first name s.inner t.inner received value gave in
      ap (values_named name) all ∙ values_named_append_other name gave.1 (header_at name value ∷ rest t.inner) lacks
      ∙ values_named_cons_same name value (rest t.inner)
      ∙ ap (λ it. bstr_bytes value ∷ values_named it (rest t.inner)) (sym same)

  pub all_values : (s : FindAll S) → YieldsList (NextOfAll (YieldsFirstBy pair_of rest)) bstr_bytes s
      (values_named (searched_name s) (rest (searched s)))
  all_values = YieldsList-from_shown (NextOfAll (YieldsFirstBy pair_of rest)) bstr_bytes still_to_come none_to_come one_came
