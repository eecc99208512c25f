-- Lists of numbers and their names.
use Rattle.std.proofs.Common.{◌∙◌, ◌++◌, ℕ, zero, suc, ◌+◌, ◌<◌, List, [], ◌∷◌, take, get_or, sym, ap, subst, length}
use Rattle.std.proofs.lemmas.List.{append-nil, append_assoc, take_more}
use Rattle.std.specs.List.{AllZip}
use Rattle.gixobj_walks.specs.Named.{Extends, Names}

pub zip_push : {A B : Type 0} (R : A → B → Type 0) (xs : List A) (ys : List B) (x : A) (y : B) → AllZip R xs ys → R x y
    → AllZip R (xs ++ x ∷ []) (ys ++ y ∷ [])
zip_push R [] [] x y zip last = (last, tt)
zip_push R [] (b ∷ ys) x y zip last = absurd zip
zip_push R (a ∷ xs) [] x y zip last = absurd zip
zip_push R (a ∷ xs) (b ∷ ys) x y zip last = (zip.0, zip_push R xs ys x y zip.1 last)

name_in_longer : {V : Type 0} (old more : List V) (number : ℕ) (id : V) → Names old number id → Names (old ++ more) number id
name_in_longer [] more number id name = absurd (cc)
name_in_longer (first ∷ old) more zero id name = name
name_in_longer (first ∷ old) more (suc number) id name = name_in_longer old more number id name

pub name_extends : {V : Type 0} (old new : List V) → Extends old new → (number : ℕ) (id : V) → Names old number id → Names new number id
name_extends old new (more, is) number id name = subst (λ it. Names it number id) (sym is) (name_in_longer old more number id name)

pub names_extend : {V : Type 0} (old new : List V) → Extends old new → (numbers : List ℕ) (ids : List V) → AllZip (Names old) numbers ids
    → AllZip (Names new) numbers ids
names_extend old new extends [] [] zip = tt
names_extend old new extends [] (id ∷ ids) zip = absurd zip
names_extend old new extends (number ∷ numbers) [] zip = absurd zip
names_extend old new extends (number ∷ numbers) (id ∷ ids) zip =
    (name_extends old new extends number id zip.0, names_extend old new extends numbers ids zip.1)

pub extends_itself : {V : Type 0} (ids : List V) → Extends ids ids
extends_itself ids = ([], sym (append-nil ids))

pub extends_further : {V : Type 0} (first second third : List V) → Extends first second → Extends second third → Extends first third
extends_further first second third (more, is) (rest, then) =
    (more ++ rest, then ∙ ap (λ it. it ++ rest) is ∙ append_assoc first more rest)

-- ---- one more of both lists

pub zip_take_more : {A B : Type 0} (R : A → B → Type 0) (xs : List A) (ys : List B) (i : ℕ) (x : A) (d : B) → i < length ys
    → AllZip R xs (take i ys) → R x (get_or ys i d) → AllZip R (xs ++ x ∷ []) (take (i + 1) ys)
zip_take_more R xs ys i x d inside zip last =
    subst (λ it. AllZip R (xs ++ x ∷ []) it) (sym (take_more ys i d inside)) (zip_push R xs (take i ys) x (get_or ys i d) zip last)

pub zip_take_more_left : {A B : Type 0} (R : A → B → Type 0) (xs : List A) (ys : List B) (i : ℕ) (d : A) (y : B) → i < length xs
    → AllZip R (take i xs) ys → R (get_or xs i d) y → AllZip R (take (i + 1) xs) (ys ++ y ∷ [])
zip_take_more_left R xs ys i d y inside zip last =
    subst (λ it. AllZip R it (ys ++ y ∷ [])) (sym (take_more xs i d inside)) (zip_push R (take i xs) ys (get_or xs i d) y zip last)
