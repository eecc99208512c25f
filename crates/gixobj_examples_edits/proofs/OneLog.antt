-- Each log of a tip has the same length; the proof of `history_len` uses it.
use Rattle.std.proofs.Common.{◌≡◌, ◌≤◌, ◌∙◌, ℕ, Bool, List, Option, ap, length, refl}
use Rattle.gix_object.specs.Stores.{Objects}
use Rattle.gix_object.specs.hash.hash.object_id.ObjectId.{ObjectId}
use Rattle.gixobj_examples_edits.specs.HistoryLengths.{IsHistoryLen, len_to_root}
use Rattle.gixobj_listings.specs.Histories.{EndAlike, IsLog, LoggedView, NeverFails}
use Rattle.gixobj_listings.specs.declared.history.LogEnd.{LogEnd}
use Rattle.gixobj_listings.specs.declared.history.LogEnd.TheVariants as end

-- the law that a log is unique
abbrev pub LogIsUnique : Type 0
LogIsUnique = (objects : Objects) (may_fail : ObjectId → Bool) (max : ℕ) (tip : ObjectId) (first second : List LoggedView) (it other : LogEnd)
    → NeverFails may_fail → IsLog objects may_fail max tip first it → length first ≤ max → IsLog objects may_fail max tip second other
    → length second ≤ max → (first ≡ second) × EndAlike it other

len_of_alike : (commits : List LoggedView) (it other : LogEnd) → EndAlike it other → len_to_root commits it ≡ len_to_root commits other
len_of_alike commits end.Root end.Root alike = refl
len_of_alike commits end.Root (end.Unread id cause) alike = absurd alike
len_of_alike commits end.Root (end.TooLong id) alike = absurd alike
len_of_alike commits (end.Unread id cause) end.Root alike = absurd alike
len_of_alike commits (end.Unread id cause) (end.Unread id' cause') alike = refl
len_of_alike commits (end.Unread id cause) (end.TooLong id') alike = absurd alike
len_of_alike commits (end.TooLong id) end.Root alike = absurd alike
len_of_alike commits (end.TooLong id) (end.Unread id' cause) alike = absurd alike
len_of_alike commits (end.TooLong id) (end.TooLong id') alike = refl

pub history_len_of_log : LogIsUnique → (objects : Objects) (may_fail : ObjectId → Bool) (max : ℕ) (tip : ObjectId) (commits : List LoggedView) (it : LogEnd)
    (found : Option ℕ) → IsLog objects may_fail max tip commits it → length commits ≤ max → found ≡ len_to_root commits it
    → IsHistoryLen objects may_fail max tip found
history_len_of_log unique objects may_fail max tip commits it found is low same = λ never commits' it' is' low'.
    let both = unique objects may_fail max tip commits commits' it it' never is low is' low' in
    same ∙ ap (λ (list : List LoggedView). len_to_root list it) both.0 ∙ len_of_alike commits' it it' both.1
