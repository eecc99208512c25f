-- Laws of the findings about trees.
use Rattle.std.specs.Prelude.{◌≡◌, ◌⊎◌, ◌↔◌, ◌++◌, ℕ, IsTrue, List, [], ◌∷◌}
use Rattle.gixobj_fsck_messages.specs.Options.{is_reported_by, is_strict_by, severity_by}
use Rattle.gixobj_fsck_messages.specs.Sets.{HasMessage}
use Rattle.gixobj_fsck_messages.specs.declared.finding.Finding.{Finding}
use Rattle.gixobj_fsck_messages.specs.Severities.{severity_of}
use Rattle.gixobj_fsck_messages.specs.declared.message.Message.{Message}
use Rattle.gixobj_fsck_messages.specs.declared.message.Message.TheVariants as message
use Rattle.gixobj_fsck_messages.specs.declared.options.Options.{Options}
use Rattle.gixobj_fsck_messages.specs.declared.set.Messages.{Messages}
use Rattle.gixobj_hash.specs.declared.hash.kind.Kind.{Kind}
use Rattle.gixobj_fsck_trees.specs.TreeMessages.{AreTreeMessages}
use Rattle.gixobj_fsck_tree_findings.specs.Findings.{HasFinding}
use Rattle.gixobj_fsck_tree_findings.specs.TreeFindings.{AreTreeFindings, fault_order, link_order}

-- the options have no overrides
abbrev pub OverridesNothing : Options → Type 0
OverridesNothing options = (it : Message) → severity_by options it ≡ severity_of (is_strict_by options) it

-- the message is one of these
abbrev pub IsAmong : Message → List Message → Type 0
IsAmong it [] = ⊥
IsAmong it (first ∷ messages) = (it ≡ first) ⊎ IsAmong it messages

-- two lists of the findings about these bytes are equal
abbrev pub HaveUniqueFindings : Kind → Options → List ℕ → Type 0
HaveUniqueFindings kind options bytes = (first second : List Finding) → AreTreeFindings kind options bytes first
    → AreTreeFindings kind options bytes second → first ≡ second

-- a message has a finding if and only if it is in the set of messages about the tree, and is reported
abbrev pub HaveSetOfMessages : Kind → Options → List ℕ → Type 0
HaveSetOfMessages kind options bytes = (findings : List Finding) (messages : Messages)
    → AreTreeFindings kind options bytes findings → AreTreeMessages kind (is_strict_by options) bytes messages
    → (it : Message) → HasFinding it findings ↔ (HasMessage messages it × IsTrue (is_reported_by options it))

-- if the options override nothing, a message has a finding if and only if it is in the set
abbrev pub HaveDefaultMessages : Kind → Options → List ℕ → Type 0
HaveDefaultMessages kind options bytes = (findings : List Finding) (messages : Messages) → OverridesNothing options
    → AreTreeFindings kind options bytes findings → AreTreeMessages kind (is_strict_by options) bytes messages
    → (it : Message) → HasFinding it findings ↔ HasMessage messages it

-- the findings have messages about trees alone, and never `emptyName`, as git doesn't read an empty name
abbrev pub HaveTreeMessages : Kind → Options → List ℕ → Type 0
HaveTreeMessages kind options bytes = (findings : List Finding) → AreTreeFindings kind options bytes findings
    → ((it : Message) → HasFinding it findings → IsAmong it (link_order ++ fault_order))
    × (¬ HasFinding message.EmptyName findings)
