-- The lines of a tag decode uniquely.
use Rattle.std.proofs.Common.{◌≡◌, ℕ, List, [], ◌∷◌, ◌++◌, Option, Some, None, append_assoc, ap, refl, subst, sym, ◌∙◌}
use Rattle.std.specs.Prelude.{codes}
use Rattle.gixobj_actor.specs.Actor.{IsActorLine, IsMalformedActorLine}
use Rattle.gixobj_parse.proofs.HeaderFields.{field_unique}
use Rattle.gixobj_hash.specs.HeaderFormat.{BeginsWithField, BeginsWithNoField, BeginsWithOtherName}
use Rattle.gixobj_grammar.specs.TagLines.{BeginsWithNoTagName, BeginsWithMalformedTagger, BeginsWithTagger}

-- ---- names

pub no_name_of_empty : (input name rest : List ℕ) → BeginsWithField (codes "tag") input name rest → name ≡ [] → BeginsWithNoTagName input
no_name_of_empty input name rest field bare other following (second, filled) =
    filled (sym (field_unique (codes "tag") input name rest other following field second).0 ∙ bare)

pub no_name_of_missing_field : (input : List ℕ) → BeginsWithNoField (codes "tag") input → BeginsWithNoTagName input
no_name_of_missing_field input none name rest (field, filled) = none name rest field

-- ---- taggers

-- a field begins with its name and a space
pub no_tagger_and_begins_field : (name input value rest : List ℕ) → BeginsWithField name input value rest → BeginsWithOtherName name input → ⊥
no_tagger_and_begins_field name input value rest field lacks = lacks (value ++ 10 ∷ rest) (field.joined ∙ simp append_assoc)

pub no_tagger_of_missing_newline : (input after : List ℕ) → input ≡ codes "tagger" ++ 32 ∷ after → BeginsWithNoField (codes "tagger") input
    → BeginsWithMalformedTagger input
no_tagger_of_missing_newline input after named none (Some line) rest (field, actor) = none line rest field
no_tagger_of_missing_newline input after named none None rest (lacks, same) = lacks after named

pub no_tagger_of_malformed_actor : (input after line rest : List ℕ) → input ≡ codes "tagger" ++ 32 ∷ after → BeginsWithField (codes "tagger") input line rest
    → IsMalformedActorLine line → BeginsWithMalformedTagger input
no_tagger_of_malformed_actor input after line rest named field none (Some other) following (second, (name, email, time, bytes, is)) =
    let A : List ℕ → Type 0 = λ it. IsActorLine it name email time bytes in
    none name email time bytes (subst A (sym (field_unique (codes "tagger") input line rest other following field second).0) is)
no_tagger_of_malformed_actor input after line rest named field none None following (lacks, same) = lacks after named

pub tagger_unique : (input : List ℕ) (a b : Option (List ℕ)) (x y : List ℕ) → BeginsWithTagger input a x → BeginsWithTagger input b y → (a ≡ b) × (x ≡ y)
tagger_unique input None None x y (lacks, same) (lacks', same') = (refl, same ∙ sym same')
tagger_unique input None (Some line) x y (lacks, same) (field, actor) = absurd (no_tagger_and_begins_field (codes "tagger") input line y field lacks)
tagger_unique input (Some line) None x y (field, actor) (lacks, same) = absurd (no_tagger_and_begins_field (codes "tagger") input line x field lacks)
tagger_unique input (Some line) (Some other) x y (field, actor) (field', actor') =
    let one = field_unique (codes "tagger") input line x other y field field' in (ap Some one.0, one.1)
