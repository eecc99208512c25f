-- Trailers that are renamed, and the message of them; the proofs of `renamed_trailers` and `with_renamed_trailers` use it.
use Rattle.std.proofs.Common.{◌≡◌, ◌∙◌, ◌++◌, ◌∷◌, ℕ, Err, List, None, Ok, Option, Result, Some, [], ap, drop, map, refl, subst, sym}
use Rattle.std.specs.Prelude.{IfErr, IfOk}
use Rattle.bstr.proofs.lemmas.LineLemmas.{lines-nil}
use Rattle.gix_object.specs.Titles.{SplitsTitle}
use Rattle.gix_object.specs.TrailerBlocks.{IsTrailerBlockStart}
use Rattle.gix_object.specs.TrailerSteps.{trailer_view}
use Rattle.gix_object.specs.Trailers.{TrailerView, trailers_of, trailers_of_bytes}
use Rattle.gix_object.specs.hash.memory.OutOfMemory.{OutOfMemory}
use Rattle.gix_object.specs.message.commit.message.body.trailers.TrailerRef.{TrailerRef}
use Rattle.gixobj_examples_objects.specs.Assembled.{HasParts, IsMessageError, IsMessageOf, IsRenamed, IsRenamingError, renamed}
use Rattle.gixobj_examples_objects.specs.declared.assembler.MessageError.{MessageError}
use Rattle.gixobj_examples_objects.specs.declared.assembler.MessageError.TheVariants as message

map_snoc : {A B : Type 0} (f : A → B) (xs : List A) (x : A) → map f (xs ++ x ∷ []) ≡ map f xs ++ f x ∷ []
map_snoc f [] x = refl
map_snoc f (y ∷ xs) x = ap (λ (ys : List _). f y ∷ ys) (map_snoc f xs x)

renamed_snoc : (from to : List ℕ) (seen : List TrailerRef) (one : TrailerRef) (before after : List TrailerView) (copy : TrailerView)
    → before ≡ map (renamed from to) (map trailer_view seen) → copy ≡ renamed from to (trailer_view one) → after ≡ before ++ copy ∷ []
    → after ≡ map (renamed from to) (map trailer_view (seen ++ one ∷ []))
renamed_snoc from to seen one before after copy kept copied pushed =
    pushed
    ∙ ap (λ (ts : List TrailerView). ts ++ copy ∷ []) kept
    ∙ ap (λ (it : TrailerView). map (renamed from to) (map trailer_view seen) ++ it ∷ []) copied
    ∙ sym (ap (λ (ts : List TrailerView). map (renamed from to) ts) (map_snoc trailer_view seen one)
    ∙ map_snoc (renamed from to) (map trailer_view seen) (trailer_view one))

-- the iterator has yielded these trailers, and each is renamed
abbrev pub AreRenamed : List ℕ → List ℕ → List (Result TrailerRef OutOfMemory) → List TrailerView → Type 0
AreRenamed from to yielded items = (seen : List TrailerRef) × (yielded ≡ map (λ it. Ok it) seen)
    × (items ≡ map (renamed from to) (map trailer_view seen))

pub are_renamed_snoc : (from to : List ℕ) (yielded : List (Result TrailerRef OutOfMemory)) (item : Result TrailerRef OutOfMemory) (one : TrailerRef)
    (before after : List TrailerView) (copy : TrailerView) → AreRenamed from to yielded before → item ≡ Ok one
    → copy ≡ renamed from to (trailer_view one) → after ≡ before ++ copy ∷ [] → AreRenamed from to (yielded ++ item ∷ []) after
are_renamed_snoc from to yielded item one before after copy (seen, same, kept) is copied pushed = (
  seen ++ one ∷ [],
  ap (λ (items : List (Result TrailerRef OutOfMemory)). items ++ item ∷ []) same
      ∙ ap (λ (it : Result TrailerRef OutOfMemory). map (λ (trailer : TrailerRef). Ok trailer) seen ++ it ∷ []) is
      ∙ sym (map_snoc (λ (it : TrailerRef). Ok it) seen one),
  renamed_snoc from to seen one before after copy kept copied pushed,
)

-- ---- the parts of a message

-- these are the title of a message, and its trailers, renamed
pub record HasRenamedParts (from to message title : List ℕ) (its : List TrailerView) : Type 0 where
  pub trailers : List TrailerView
  pub parts : HasParts message title trailers
  pub same : its ≡ map (renamed from to) trailers

pub parts_of_body : (from to message title title' bytes : List ℕ) (body : Option (List ℕ)) (start : ℕ) (its its' : List TrailerView)
    → SplitsTitle message title body → (body ≡ Some bytes) × IsTrailerBlockStart bytes start → title' ≡ title → its' ≡ its
    → its ≡ map (renamed from to) (trailers_of_bytes (drop start bytes)) → HasRenamedParts from to message title' its'
parts_of_body from to message title title' bytes body start its its' split is title_same its_same copied =
    let splits : SplitsTitle message title' (Some bytes) =
    subst (λ (t : List ℕ). SplitsTitle message t (Some bytes)) (sym title_same)
    (subst (λ (b : Option (List ℕ)). SplitsTitle message title b) is.0 split) in
    record {
      trailers = trailers_of_bytes (drop start bytes);
      parts = record {
        body = Some bytes;
        split = splits;
        has = (
          drop start bytes,
          record { title = title'; body = Some bytes; split = splits; has = (start, is.1, refl) },
          refl,
        );
      };
      same = its_same ∙ copied;
    }

pub parts_without_body : (from to message title title' : List ℕ) (body : Option (List ℕ)) (its : List TrailerView) → SplitsTitle message title body
    → body ≡ None → title' ≡ title → its ≡ [] → HasRenamedParts from to message title' its
parts_without_body from to message title title' body its split is title_same none =
    let splits : SplitsTitle message title' None =
    subst (λ (t : List ℕ). SplitsTitle message t None) (sym title_same)
    (subst (λ (b : Option (List ℕ)). SplitsTitle message title b) is split) in
    record {
      trailers = [];
      parts = record {
        body = None;
        split = splits;
        has = ([], record { title = title'; body = None; split = splits; has = refl }, sym (ap trailers_of lines-nil));
      };
      same = none;
    }

-- ---- results

if_ok_of : {X E : Type 0} (r : Result X E) (P Q : X → Type 0) → ((x : X) → P x → Q x) → IfOk r P → IfOk r Q
if_ok_of (Ok x) P Q of is = of x is
if_ok_of (Err e) P Q of is = tt

if_err_of : {X E : Type 0} (r : Result X E) (P Q : E → Type 0) → ((e : E) → P e → Q e) → IfErr r P → IfErr r Q
if_err_of (Ok x) P Q of is = tt
if_err_of (Err e) P Q of is = of e is

pub renamed_of_message : {X E : Type 0} (r : Result X E) (items : X → List ℕ) (from to message title : List ℕ) (its : List TrailerView)
    → HasRenamedParts from to message title its → IfOk r (λ it. IsMessageOf title its (items it)) → IfOk r (λ it. IsRenamed from to message (items it))
renamed_of_message r items from to message title its has is =
    if_ok_of r (λ it. IsMessageOf title its (items it)) (λ it. IsRenamed from to message (items it))
    (λ it of. (title, has.trailers, has.parts, subst (λ (ts : List TrailerView). IsMessageOf title ts (items it)) has.same of)) is

error_of_message : (from to before title : List ℕ) (trailers : List TrailerView) (error : MessageError) → HasParts before title trailers
    → IsMessageError title (map (renamed from to) trailers) error → IsRenamingError from to before error
error_of_message from to before title trailers message.Title has is = (title, trailers, has, is)
error_of_message from to before title trailers (message.Trailer index) has is = (title, trailers, has, is)
error_of_message from to before title trailers message.OutOfMemory has is = tt

pub errors_of_message : {X : Type 0} (r : Result X MessageError) (from to message title : List ℕ) (its : List TrailerView)
    → HasRenamedParts from to message title its → IfErr r (IsMessageError title its) → IfErr r (IsRenamingError from to message)
errors_of_message r from to message title its has is =
    if_err_of r (IsMessageError title its) (IsRenamingError from to message)
    (λ error of. error_of_message from to message title has.trailers error has.parts
    (subst (λ (ts : List TrailerView). IsMessageError title ts error) has.same of)) is
