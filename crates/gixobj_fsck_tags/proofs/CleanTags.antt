-- Clean tags, by their parts.
use Rattle.std.proofs.Common.{◌≡◌, ◌≢◌, ◌⊎◌, ◌↔◌, ◌∷◌, ℕ, Bool, true, false, not, IsTrue, List, [], Ok, Err, ap, inl, inr, refl}
use Rattle.std.proofs.lemmas.Bool.{false≢true}
use Rattle.std.proofs.lemmas.Bool.Decides.{eqb_tells}
use Rattle.std.specs.Prelude.{MatchBool, codes}
use Rattle.gixobj_hash.specs.Bytes.{newline}
use Rattle.gixobj_hash.specs.HeaderFormat.{BeginsWithField}
use Rattle.gixobj_hash.specs.declared.hash.kind.Kind.{Kind}
use Rattle.gixobj_fsck.specs.Dates.{BeginsWithByte}
use Rattle.gixobj_fsck_messages.specs.declared.message.Message.TheVariants as message
use Rattle.gixobj_fsck_tags.specs.Tags.{EndsOtherwise, EndsWithTagger, HasTagMessage, IsCleanTag, TaggerLine, TargetPart}
use Rattle.gixobj_tag.specs.NameRule.{HasNoFault}

ends_of_no_header : (input : List ℕ) → ((input ≢ []) × (¬ BeginsWithByte newline input) → IsTrue false) → (input ≡ []) ⊎ BeginsWithByte newline input
ends_of_no_header [] none = inl refl
ends_of_no_header (byte ∷ rest) none = elim (eqb_tells byte 10) [
  | inl here ↦ inr (rest, ap (λ (it : ℕ). it ∷ rest) here.1)
  | inr other ↦
      absurd (false≢true (none (
        λ (empty : byte ∷ rest ≡ []). cc empty,
        λ (begins : BeginsWithByte newline (byte ∷ rest)). other.1 (cc (begins.1)),
      )))
]

-- after a sound line of the tagger a header comes or not
pub ends_by_test : (input after : List ℕ) (header : Bool) → TaggerLine input (Ok after)
    → (IsTrue header ↔ ((after ≢ []) × (¬ BeginsWithByte newline after))) → MatchBool (not header) (EndsWithTagger input) (EndsOtherwise input)
ends_by_test input after true line test =
    let both = test.0 refl in inr (after, inr (line.0, line.2, line.4), both.0, both.1)
ends_by_test input after false line test = (after, line, ends_of_no_header after test.1)

-- the end of the header decides after a sound name
pub clean_by_end : (kind : Kind) (tag start name rest : List ℕ) (ends : Bool) → TargetPart kind tag (Ok start)
    → BeginsWithField (codes "tag") start name rest → HasNoFault name → MatchBool ends (EndsWithTagger rest) (EndsOtherwise rest)
    → MatchBool ends (IsCleanTag kind tag) (HasTagMessage kind tag)
clean_by_end kind tag start name rest true target named sound ends = (start, name, rest, target, named, sound, ends)
clean_by_end kind tag start name rest false target named sound (inl faulty) =
    inr (faulty.0, inr (inr (rest, (start, target, (name, named)), faulty.1)))
clean_by_end kind tag start name rest false target named sound (inr more) =
    inl (rest, more.0, (start, target, (name, named)), more.1, more.2, more.3)

-- a name that isn't a reference's is a message
pub bad_name : (kind : Kind) (tag start name rest : List ℕ) → TargetPart kind tag (Ok start) → BeginsWithField (codes "tag") start name rest
    → (¬ HasNoFault name) → HasTagMessage kind tag
bad_name kind tag start name rest target named other =
    inr (message.BadTagName, inr (inl (start, name, rest, target, named, (other, refl))))
