-- The messages that git-fsck never has, of its documentation (git-fsck, "FSCK MESSAGES").
use Rattle.std.specs.Prelude.{◌≡◌, ◌⊎◌, ℕ, All, List}
use Rattle.gixobj_hash.specs.declared.hash.kind.Kind.{Kind}
use Rattle.gixobj_hash.specs.declared.kind.Kind as object
use Rattle.gixobj_fsck_messages.specs.declared.finding.Finding.{Finding}
use Rattle.gixobj_fsck_messages.specs.declared.message.Message.{Message}
use Rattle.gixobj_fsck_messages.specs.declared.message.Message.TheVariants as message
use Rattle.gixobj_fsck_messages.specs.declared.options.Options.{Options}
use Rattle.gixobj_fsck_objects.specs.Objects.{AreFindings}

-- git never has this message
abbrev pub IsUnreported : Message → Type 0
IsUnreported it = (it ≡ message.EmptyName) ⊎ (it ≡ message.MissingType) ⊎ (it ≡ message.MissingTag)
    ⊎ (it ≡ message.UnknownType)

-- no finding about the object has such a message
abbrev pub HaveNoUnreported : Options → object.Kind → Kind → List ℕ → Type 0
HaveNoUnreported options kind hash_kind bytes = (findings : List Finding)
    → AreFindings options kind hash_kind bytes findings → All (λ (it : Finding). ¬ IsUnreported it.message) findings
