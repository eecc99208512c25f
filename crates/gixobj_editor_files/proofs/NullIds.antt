-- The null id, by its test.
use Rattle.std.proofs.Common.{◌≡◌, ◌↔◌, Bool, true, false, refl, sym}
use Rattle.std.specs.Prelude.{◌==◌, IsTrue}
use Rattle.std.proofs.lemmas.Bool.{eq-eqb, eqb-true, false_from_ne_true}
use Rattle.std.proofs.lemmas.List.Elements.{All-weaker}
use Rattle.std.proofs.lemmas.List.Sums.{AllPass-from_list_all, list_all-from_AllPass}
use Rattle.gixobj_hash.specs.Hash.{IsNull, id_bytes}
use Rattle.gixobj_hash.specs.declared.hash.object_id.ObjectId.{ObjectId}
use Rattle.gixobj_editor_files.specs.Files.{is_null}

pub is_null_true : (id : ObjectId) → IsNull id → is_null id ≡ true
is_null_true id null = list_all-from_AllPass (λ byte. byte == 0) (id_bytes id)
    (All-weaker (λ byte. byte ≡ 0) (λ byte. (byte == 0) ≡ true) (λ byte zero. eq-eqb byte 0 zero) (id_bytes id) null)

pub is_null_of_true : (id : ObjectId) → is_null id ≡ true → IsNull id
is_null_of_true id passes = All-weaker (λ byte. (byte == 0) ≡ true) (λ byte. byte ≡ 0) (λ byte zero. eqb-true byte 0 zero) (id_bytes id)
    (AllPass-from_list_all (λ byte. byte == 0) (id_bytes id) passes)

pub is_null_of_test : (id : ObjectId) (b : Bool) → (IsTrue b ↔ IsNull id) → b ≡ is_null id
is_null_of_test id true yields = sym (is_null_true id (yields.0 refl))
is_null_of_test id false yields = sym (false_from_ne_true (is_null id) (λ passes. cc (yields.1 (is_null_of_true id passes))))
