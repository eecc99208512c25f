-- Tags of which git-fsck has no message (git-fsck, "FSCK MESSAGES").
use Rattle.std.specs.Prelude.{ℕ, Bool, List, []}
use Rattle.gixobj_grammar.specs.TagPrefix.{IsTag}
use Rattle.gixobj_hash.specs.declared.hash.kind.Kind.{Kind}
use Rattle.gixobj_fsck_findings.specs.Checks.{HaveDocumentedSeverities}
use Rattle.gixobj_fsck_findings.specs.TagChecks.{AreTagFindings}
use Rattle.gixobj_fsck_messages.specs.declared.message.Message.{Message}
use Rattle.gixobj_fsck_messages.specs.declared.severity.Severity.{Severity}
use Rattle.gixobj_fsck_tags.specs.Tags.{HasExtraHeader, IsCleanTag}

-- the bytes are the encoding of a tag if git has no message about them, and no other header follows the tagger
abbrev pub DecodesIfClean : Kind → List ℕ → Type 0
DecodesIfClean kind tag = IsCleanTag kind tag → IsTag kind tag

-- in a check without overrides a tag without findings decodes, if no other header follows the tagger: git doesn't
-- report that
abbrev pub DecodesIfNotFound : Bool → (Message → Severity) → Kind → List ℕ → Type 0
DecodesIfNotFound strict severity kind tag = HaveDocumentedSeverities strict severity
    → AreTagFindings severity kind tag [] → (¬ HasExtraHeader kind tag) → IsTag kind tag
