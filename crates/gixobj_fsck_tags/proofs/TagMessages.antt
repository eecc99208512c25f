-- The messages of a tag, as a set.
use Rattle.std.proofs.Common.{◌≡◌, ◌≢◌, ◌⊎◌, ℕ, Bool, true, false, List, [], Ok, Err, inl, inr, sym, subst}
use Rattle.std.specs.Prelude.{◌↔◌, IsTrue, codes, not}
use Rattle.gixobj_hash.specs.Bytes.{newline}
use Rattle.gixobj_hash.specs.HeaderFormat.{BeginsWithField}
use Rattle.gixobj_hash.specs.declared.hash.kind.Kind.{Kind}
use Rattle.gixobj_fsck.specs.Dates.{BeginsWithByte}
use Rattle.gixobj_fsck_messages.specs.Sets.{HasError, HasMessage, HasNoMessage, Inserts}
use Rattle.gixobj_fsck_messages.specs.declared.message.Message.{Message}
use Rattle.gixobj_fsck_messages.specs.declared.message.Message.TheVariants as message
use Rattle.gixobj_fsck_messages.specs.declared.set.Messages.{Messages}
use Rattle.gixobj_fsck_tags.specs.Tags.{HasExtraHeader, IsAcceptedTag, IsAfterTagger, IsBadName, IsTagMessage, NamePart, TaggerLine, TargetPart}
use Rattle.gixobj_fsck.proofs.MessageSets.{no_error_iff}
use Rattle.gixobj_fsck.proofs.Outcomes.{actor_line_deterministic}
use Rattle.gixobj_fsck_tags.proofs.TagOutcomes.{after_tagger_unique, messages_after_name, name_part_deterministic}

-- the fault of the tagger is inserted
pub inserts_tagger_fault : (before after : Messages) (fault : Message) (input : List ℕ) → Inserts before fault after → TaggerLine input (Err fault)
    → (it : Message) → HasMessage after it ↔ (HasMessage before it ⊎ TaggerLine input (Err it))
inserts_tagger_fault before after fault input inserts here it = (
  λ has. elim ((inserts it).0 has) [
    | inl was ↦ inl was
    | inr same ↦ inr (subst (λ (m : Message). TaggerLine input (Err m)) (sym same) here)
  ],
  λ either. (inserts it).1 (elim either [
    | inl was ↦ inl was
    | inr other ↦ inr (let e = actor_line_deterministic (codes "tagger") message.MissingTaggerEntry input (Err it) (Err fault) other here in cc e)
  ]),
)

-- a sound line of a tagger adds nothing
pub inserts_no_fault : (before : Messages) (input rest : List ℕ) → TaggerLine input (Ok rest)
    → (it : Message) → HasMessage before it ↔ (HasMessage before it ⊎ TaggerLine input (Err it))
inserts_no_fault before input rest sound it = (
  λ has. inl has,
  λ either. elim either [
    | inl was ↦ was
    | inr other ↦ let e = actor_line_deterministic (codes "tagger") message.MissingTaggerEntry input (Err it) (Ok rest) other sound in cc e
  ],
)

-- the messages of the name and then of the tagger are those of the tag
pub inserts_all : (kind : Kind) (input start name rest : List ℕ) (empty middle after : Messages) → TargetPart kind input (Ok start)
    → BeginsWithField (codes "tag") start name rest → HasNoMessage empty
    → ((it : Message) → HasMessage middle it ↔ (HasMessage empty it ⊎ IsBadName name it))
    → ((it : Message) → HasMessage after it ↔ (HasMessage middle it ⊎ TaggerLine rest (Err it)))
    → (it : Message) → HasMessage after it ↔ IsTagMessage kind input it
inserts_all kind input start name rest empty middle after target field none first second it =
    let those = messages_after_name kind input start name rest it target field in (
      λ has. those.1 (elim ((second it).0 has) [
        | inl was ↦ elim ((first it).0 was) [ inl nothing ↦ absurd (none it nothing) | inr bad ↦ inl bad ]
        | inr bad ↦ inr bad
      ]),
      λ is. (second it).1 (elim (those.0 is) [ inl bad ↦ inl ((first it).1 (inr bad)) | inr bad ↦ inr bad ]),
    )

-- after a fault up to the name there is no extra header
pub no_extra_of_fault : (kind : Kind) (input : List ℕ) (fault : Message) → NamePart kind input (Err fault)
    → IsTrue false ↔ HasExtraHeader kind input
no_extra_of_fault kind input fault here = (
  λ holds. absurd (let e : false ≡ true = holds in cc e),
  λ extra. let e = name_part_deterministic kind input (Ok extra.0) (Err fault) extra.2 here in cc e,
)

-- an extra header comes if the input after the tagger begins with one
pub extra_iff : (has : Bool) (kind : Kind) (input rest after : List ℕ) → NamePart kind input (Ok rest) → IsAfterTagger rest after
    → (IsTrue has ↔ ((after ≢ []) × (¬ BeginsWithByte newline after))) → IsTrue has ↔ HasExtraHeader kind input
extra_iff has kind input rest after here tagger begins = (
  λ holds. (rest, after, here, tagger, (begins.0 holds).0, (begins.0 holds).1),
  λ extra.
      let rests : extra.0 ≡ rest = let e = name_part_deterministic kind input (Ok extra.0) (Ok rest) extra.2 here in cc e in
      let same = after_tagger_unique rest extra.1 after (subst (λ (at : List ℕ). IsAfterTagger at extra.1) rests extra.3) tagger in
      begins.1 (subst (λ (at : List ℕ). at ≢ []) same extra.4, subst (λ (at : List ℕ). ¬ BeginsWithByte newline at) same extra.5),
)

-- without an extra header a tag is accepted if no message counts as an error
pub accepted_without_extra : (has_error strict : Bool) (kind : Kind) (input : List ℕ) (messages : Messages) → (HasExtraHeader kind input → ⊥)
    → ((it : Message) → HasMessage messages it ↔ IsTagMessage kind input it) → (IsTrue has_error ↔ HasError strict messages)
    → IsTrue (not has_error) ↔ IsAcceptedTag strict kind input
accepted_without_extra has_error strict kind input messages none same errs =
    let those = no_error_iff has_error strict messages (IsTagMessage kind input) same errs in
    (λ holds. inr (those.0 holds), λ accepted. elim accepted [ inl extra ↦ absurd (none extra) | inr sound ↦ those.1 sound ])
