-- Messages by their numbers.
use Rattle.std.specs.Prelude.{◌≡◌, ◌<◌, ℕ, Some, slice_get, refl}
use Rattle.std.proofs.Common.{ap, arith}
use Rattle.gixobj_fsck_messages.specs.Messages.{all_messages, message_number}
use Rattle.gixobj_fsck_messages.specs.declared.message.Message.{Message}
use Rattle.gixobj_fsck_messages.specs.declared.message.Message.TheVariants as message

-- the list of all messages has each at the position of its number
pub message_at_number : (it : Message) → slice_get all_messages (message_number it) ≡ Some it
message_at_number message.GitmodulesSymlink = refl
message_at_number message.GitattributesSymlink = refl
message_at_number message.GitignoreSymlink = refl
message_at_number message.MailmapSymlink = refl
message_at_number message.BadTree = refl
message_at_number message.NullSha1 = refl
message_at_number message.FullPathname = refl
message_at_number message.EmptyName = refl
message_at_number message.HasDot = refl
message_at_number message.HasDotdot = refl
message_at_number message.HasDotgit = refl
message_at_number message.ZeroPaddedFilemode = refl
message_at_number message.BadFilemode = refl
message_at_number message.DuplicateEntries = refl
message_at_number message.TreeNotSorted = refl
message_at_number message.NulInHeader = refl
message_at_number message.UnterminatedHeader = refl
message_at_number message.MissingTree = refl
message_at_number message.BadTreeSha1 = refl
message_at_number message.BadParentSha1 = refl
message_at_number message.MissingAuthor = refl
message_at_number message.MultipleAuthors = refl
message_at_number message.MissingCommitter = refl
message_at_number message.NulInCommit = refl
message_at_number message.MissingObject = refl
message_at_number message.BadObjectSha1 = refl
message_at_number message.MissingTypeEntry = refl
message_at_number message.MissingType = refl
message_at_number message.BadType = refl
message_at_number message.MissingTagEntry = refl
message_at_number message.MissingTag = refl
message_at_number message.BadTagName = refl
message_at_number message.MissingTaggerEntry = refl
message_at_number message.MissingNameBeforeEmail = refl
message_at_number message.BadName = refl
message_at_number message.MissingEmail = refl
message_at_number message.MissingSpaceBeforeEmail = refl
message_at_number message.BadEmail = refl
message_at_number message.MissingSpaceBeforeDate = refl
message_at_number message.ZeroPaddedDate = refl
message_at_number message.BadDateOverflow = refl
message_at_number message.BadDate = refl
message_at_number message.BadTimezone = refl
message_at_number message.ExtraHeaderEntry = refl
message_at_number message.UnknownType = refl

-- messages of one number are the same
pub number_injective : (a b : Message) → message_number a ≡ message_number b → a ≡ b
number_injective a b same =
    let at_a = message_at_number a in
    let at_b = message_at_number b in
    let one = ap (λ (n : ℕ). slice_get all_messages n) same in
    cc

-- a number is below the number of messages
pub number_lt : (it : Message) → message_number it < 45
number_lt message.GitmodulesSymlink = omega arith
number_lt message.GitattributesSymlink = omega arith
number_lt message.GitignoreSymlink = omega arith
number_lt message.MailmapSymlink = omega arith
number_lt message.BadTree = omega arith
number_lt message.NullSha1 = omega arith
number_lt message.FullPathname = omega arith
number_lt message.EmptyName = omega arith
number_lt message.HasDot = omega arith
number_lt message.HasDotdot = omega arith
number_lt message.HasDotgit = omega arith
number_lt message.ZeroPaddedFilemode = omega arith
number_lt message.BadFilemode = omega arith
number_lt message.DuplicateEntries = omega arith
number_lt message.TreeNotSorted = omega arith
number_lt message.NulInHeader = omega arith
number_lt message.UnterminatedHeader = omega arith
number_lt message.MissingTree = omega arith
number_lt message.BadTreeSha1 = omega arith
number_lt message.BadParentSha1 = omega arith
number_lt message.MissingAuthor = omega arith
number_lt message.MultipleAuthors = omega arith
number_lt message.MissingCommitter = omega arith
number_lt message.NulInCommit = omega arith
number_lt message.MissingObject = omega arith
number_lt message.BadObjectSha1 = omega arith
number_lt message.MissingTypeEntry = omega arith
number_lt message.MissingType = omega arith
number_lt message.BadType = omega arith
number_lt message.MissingTagEntry = omega arith
number_lt message.MissingTag = omega arith
number_lt message.BadTagName = omega arith
number_lt message.MissingTaggerEntry = omega arith
number_lt message.MissingNameBeforeEmail = omega arith
number_lt message.BadName = omega arith
number_lt message.MissingEmail = omega arith
number_lt message.MissingSpaceBeforeEmail = omega arith
number_lt message.BadEmail = omega arith
number_lt message.MissingSpaceBeforeDate = omega arith
number_lt message.ZeroPaddedDate = omega arith
number_lt message.BadDateOverflow = omega arith
number_lt message.BadDate = omega arith
number_lt message.BadTimezone = omega arith
number_lt message.ExtraHeaderEntry = omega arith
number_lt message.UnknownType = omega arith
