-- The messages that git-fsck may have about a tag that decodes (git-fsck, "FSCK MESSAGES").
use Rattle.std.specs.Prelude.{ℕ, List, ⊤}
use Rattle.gixobj_grammar.specs.TagPrefix.{IsTag}
use Rattle.gixobj_hash.specs.declared.hash.kind.Kind.{Kind}
use Rattle.gixobj_fsck_messages.specs.declared.message.Message.{Message}
use Rattle.gixobj_fsck_messages.specs.declared.message.Message.TheVariants as message
use Rattle.gixobj_fsck_tags.specs.Tags.{HasExtraHeader, IsTagMessage}
use Rattle.gixobj_fsck_object_laws.specs.Reported.{IsAboutActors}

-- a message that git may have about a tag that decodes: of a zero byte in the header, the name or the tagger
abbrev pub IsAboutDecodedTags : Message → Type 0
IsAboutDecodedTags message.NulInHeader = ⊤
IsAboutDecodedTags message.BadTagName = ⊤
IsAboutDecodedTags message.MissingTaggerEntry = ⊤
IsAboutDecodedTags message.MissingEmail = ⊥
IsAboutDecodedTags it = IsAboutActors it

-- git has no other message about a tag that decodes, and no other header follows its tagger
abbrev pub HasLimitedMessages : Kind → List ℕ → Type 0
HasLimitedMessages kind tag = IsTag kind tag
    → ((it : Message) → IsTagMessage kind tag it → IsAboutDecodedTags it) × (¬ HasExtraHeader kind tag)
