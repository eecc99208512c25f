-- States that `mergetags` yields the tags of the remaining headers in order; the two laws on merged tags use it.
use Rattle.std.proofs.Common.{◌≡◌, ℕ, List, [], ◌∷◌, Option, None, Some, Result, Ok, Err, ap, arith, length, refl, sym, subst, ◌∙◌}
use Rattle.std.proofs.lemmas.Iterator.{YieldsList}
use Rattle.std.proofs.lemmas.List.{nil_from_length}
use Rattle.std.specs.Iterator.{AlwaysYields, Yields, YieldsFirstBy, YieldsThen}
use Rattle.std.specs.List.{AllZip}
use Rattle.bstr.specs.BStr.{bstr_bytes}
use Rattle.gixobj_codec.proofs.HeadersFound.{none_to_come, one_came}
use Rattle.gixobj_commit.specs.ExtraHeaders.{pair_of}
use Rattle.gixobj_commit.specs.Mergetags.{NextMergetag, IsTagOf, IsTagOrNone, mergetag_kind, mergetag_values, remaining_mergetags, tag_if_ok}
use Rattle.gixobj_commit.specs.declared.extra_headers.Mergetags.{Mergetags}
use Rattle.gixobj_hash.specs.HeaderFormat.{Header}
use Rattle.gixobj_hash.specs.declared.decode.Error.{Error}
use Rattle.gixobj_hash.specs.declared.hash.kind.Kind.{Kind}
use Rattle.gixobj_tag.proofs.EntireTags.{tag_unique}
use Rattle.gixobj_tag.specs.TagFormat.{TagLines}
use Rattle.gixobj_tag.specs.TagViews.{tag_lines}
use Rattle.gixobj_tag.specs.declared.tag.TagRef.{TagRef}

-- bytes decode as at most one tag
tag_if_ok_unique : (kind : Kind) (content : List ℕ) (item : Result TagRef Error) (read : Option TagLines) → IsTagOf kind content item
    → IsTagOrNone kind content read
    → tag_if_ok item ≡ read
tag_if_ok_unique kind content (Ok tag) (Some lines) is is' = ap Some (tag_unique kind content (tag_lines tag) lines is is')
tag_if_ok_unique kind content (Ok tag) None is none = absurd (none (tag_lines tag) is)
tag_if_ok_unique kind content (Err error) (Some lines) (same, none) is = absurd (none lines is)
tag_if_ok_unique kind content (Err error) None none none' = refl

module _ {S : Type 0} (rest : S → List Header) where
  abbrev Steps : Mergetags S → Option (Result TagRef Error) → Mergetags S → Type 0
  Steps = NextMergetag (YieldsFirstBy pair_of rest)

  none_remaining : (s t : Mergetags S) → Steps s None t → length (remaining_mergetags rest s) ≡ 0
  none_remaining s t (None, gives, reads, same) = none_to_come rest (mergetag_values s) (mergetag_values t) gives
  none_remaining s t (Some value, gives, reads, same) = absurd reads

  -- one step yields the tag of the first remaining value
  record Came (s t : Mergetags S) (item : Result TagRef Error) : Type 0 where
    value : List ℕ
    joined : remaining_mergetags rest s ≡ value ∷ remaining_mergetags rest t
    is : IsTagOf (mergetag_kind s) value item
    same : mergetag_kind t ≡ mergetag_kind s

  came : (s t : Mergetags S) (item : Result TagRef Error) → Steps s (Some item) t → Came s t item
  came s t item (None, gives, reads, same) = absurd (cc reads)
  came s t item (Some value, gives, reads, same) =
      record { value = bstr_bytes value; joined = one_came rest (mergetag_values s) value (mergetag_values t) gives; is = reads; same = same }

  -- ---- a run to its end

  run_consumed_are_tags : (kind : Kind) (s last after : Mergetags S) (consumed : List (Result TagRef Error)) → mergetag_kind s ≡ kind
      → Yields Steps s consumed last
      → Steps last None after
      → AllZip (IsTagOf kind) (remaining_mergetags rest s) consumed
  run_consumed_are_tags kind s last after [] same yielded none =
      let bare : remaining_mergetags rest s ≡ [] =
      nil_from_length (remaining_mergetags rest s) (ap (λ it. length (remaining_mergetags rest it)) yielded ∙ none_remaining last after none) in
      subst (λ (it : List (List ℕ)). AllZip (IsTagOf kind) it []) (sym bare) tt
  run_consumed_are_tags kind s last after (item ∷ consumed) same (next, step, yielded) none =
      let it = came s next item step in
      let is : IsTagOf kind it.value item = subst (λ (of : Kind). IsTagOf of it.value item) same it.is in
      subst (λ (values : List (List ℕ)). AllZip (IsTagOf kind) values (item ∷ consumed)) (sym it.joined)
      (is, run_consumed_are_tags kind next last after consumed (it.same ∙ same) yielded none)

  pub all_consumed_are_tags : (s after : Mergetags S) (consumed : List (Result TagRef Error)) → YieldsThen Steps s consumed None after
      → AllZip (IsTagOf (mergetag_kind s)) (remaining_mergetags rest s) consumed
  all_consumed_are_tags s after consumed (last, yielded, none) = run_consumed_are_tags (mergetag_kind s) s last after consumed refl yielded none

  -- ---- the list of all results

  run_listed : (kind : Kind) (s : Mergetags S) (encodings : List (List ℕ)) (read : List (Option TagLines)) → mergetag_kind s ≡ kind
      → remaining_mergetags rest s ≡ encodings → AllZip (IsTagOrNone kind) encodings read
      → AlwaysYields Steps tag_if_ok s read
  run_listed kind s [] [] same remaining all = λ item t step. let it = came s t item step in let none : [] ≡ it.value ∷ remaining_mergetags rest t =
      sym remaining ∙ it.joined in absurd (cc none)
  run_listed kind s [] (one ∷ read) same remaining all = absurd all
  run_listed kind s (content ∷ encodings) [] same remaining all = absurd all
  run_listed kind s (content ∷ encodings) (one ∷ read) same remaining (is, all) = (
    (λ t step. absurd (omega (arith, none_remaining s t step, ap length remaining))),
    λ item t step.
        let it = came s t item step in
        let joined : it.value ∷ remaining_mergetags rest t ≡ content ∷ encodings = sym it.joined ∙ remaining in
        let value : it.value ≡ content = cc joined in
        let others : remaining_mergetags rest t ≡ encodings = cc joined in
        let answer : IsTagOf kind content item = subst (λ (of : Kind). IsTagOf of content item) same
        (subst (λ (bytes : List ℕ). IsTagOf (mergetag_kind s) bytes item) value it.is) in
        (tag_if_ok_unique kind content item one answer is, run_listed kind t encodings read (it.same ∙ same) others all),
  )

  pub all_listed : (s : Mergetags S) (read : List (Option TagLines)) → AllZip (IsTagOrNone (mergetag_kind s)) (remaining_mergetags rest s) read
      → YieldsList Steps tag_if_ok s read
  all_listed s read all = record { runs = run_listed (mergetag_kind s) s (remaining_mergetags rest s) read refl refl all }
