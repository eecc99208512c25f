-- Results of lookups and writes in the store that keeps nothing.
use Rattle.std.proofs.Common.{◌≡◌, ℕ, List, [], None, Ok, Some, ap, false, length, refl, sym}
use Rattle.std.proofs.lemmas.List.{append-nil}
use Rattle.std.specs.FinMap as finite
use Rattle.std.specs.Option.{option_map}
use Rattle.std.specs.Prelude.{Option, is_some}
use Rattle.gixobj_store.specs.Stores.{IsFound, IsHeaderFound, StoredObject, header, named}
use Rattle.gixobj_hash.specs.Hash.{id_of}
use Rattle.gixobj_hash.specs.Hash.Order.{id_cmp}
use Rattle.gixobj_hash.specs.declared.hash.kind.Kind.TheVariants.{Sha1}
use Rattle.gixobj_hash.specs.declared.hash.object_id.ObjectId.{ObjectId}
use Rattle.gixobj_hash.specs.declared.kind.Kind.{Kind}
use Rattle.gixobj_store_find.specs.NeverWrites.{AnswersId, AnswersKnownId}

named_empty : (id : ObjectId) → None ≡ named finite.empty id
named_empty id = sym (finite.get-empty id_cmp id)

pub is_found_none_in_empty : (id : ObjectId) → IsFound finite.empty id None
is_found_none_in_empty id = named_empty id

pub is_header_found_none_in_empty : (id : ObjectId) → IsHeaderFound finite.empty id None
is_header_found_none_in_empty id = ap (option_map header) (named_empty id)

pub not_named_in_empty : (id : ObjectId) → false ≡ is_some (named finite.empty id)
not_named_in_empty id = ap (λ (it : Option StoredObject). is_some it) (named_empty id)

-- the id of an object whose entire content is the stream
pub answers_id_of_content : (kind : Kind) (content : List ℕ) → AnswersId kind (length content) (Some content) (Ok (id_of Sha1 kind content))
answers_id_of_content kind content = (Some [], (content, record { consumed = sym (append-nil content); counted = refl }, refl))

pub answers_known_id_of_content : (id : ObjectId) (kind : Kind) (content : List ℕ) → AnswersKnownId id kind (length content) (Some content) (Ok id)
answers_known_id_of_content id kind content = (refl, (Some [], (content, record { consumed = sym (append-nil content); counted = refl })))
