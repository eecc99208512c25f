-- The result of each test on an entry decides the property of the entry's view.
use Rattle.std.proofs.Common.{◌≡◌, ◌↔◌, ◌∙◌, Bool, true, false, ap, refl, sym}
use Rattle.std.proofs.lemmas.Bool.{eq-eqb, eqb-true, false_from_ne_true}
use Rattle.std.proofs.lemmas.List.Elements.{All-weaker}
use Rattle.std.proofs.lemmas.List.Sums.{AllPass-from_list_all, list_all-from_AllPass}
use Rattle.std.specs.Prelude.{◌==◌, IsTrue}
use Rattle.gix_object.specs.Entries.{EntryView}
use Rattle.gix_object.specs.Files.{is_null}
use Rattle.gix_object.specs.Hash.{IsNull, id_bytes}
use Rattle.gix_object.specs.Mode.{is_tree_mode}
use Rattle.gix_object.specs.hash.hash.object_id.ObjectId.{ObjectId}

is_null_true : (id : ObjectId) → IsNull id → is_null id ≡ true
is_null_true id null = list_all-from_AllPass (λ byte. byte == 0) (id_bytes id)
    (All-weaker (λ byte. byte ≡ 0) (λ byte. (byte == 0) ≡ true) (λ byte zero. eq-eqb byte 0 zero) (id_bytes id) null)

is_null_of_true : (id : ObjectId) → is_null id ≡ true → IsNull id
is_null_of_true id passes = All-weaker (λ byte. (byte == 0) ≡ true) (λ byte. byte ≡ 0) (λ byte zero. eqb-true byte 0 zero) (id_bytes id)
    (AllPass-from_list_all (λ byte. byte == 0) (id_bytes id) passes)

pub is_null_of_test : (id : ObjectId) (b : Bool) → (IsTrue b ↔ IsNull id) → b ≡ is_null id
is_null_of_test id true yields = sym (is_null_true id (yields.0 refl))
is_null_of_test id false yields = sym (false_from_ne_true (is_null id) (λ passes. cc (yields.1 (is_null_of_true id passes))))

pub entry_is_null_of_test : (b v : Bool) (inside e : EntryView) → inside ≡ e → (IsTrue b ↔ IsNull inside.id) → b ≡ v → is_null e.id ≡ v
entry_is_null_of_test b v inside e same yields is = sym (is_null_of_test inside.id b yields ∙ ap (λ (y : EntryView). is_null y.id) same) ∙ is

pub is_tree_mode_of_test : (b v : Bool) (inside e : EntryView) → inside ≡ e → b ≡ is_tree_mode inside.mode → b ≡ v → is_tree_mode e.mode ≡ v
is_tree_mode_of_test b v inside e same yields is = sym (yields ∙ ap (λ (y : EntryView). is_tree_mode y.mode) same) ∙ is
