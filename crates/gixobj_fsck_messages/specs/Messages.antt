-- The messages of git-fsck, their names (git-fsck, "FSCK MESSAGES") and their numbers.
use Rattle.std.specs.Prelude.{◌≡◌, ℕ, List, [], ◌∷◌, codes, map}
use Rattle.std.specs.Char.{to_ascii_lowercase}
use Rattle.gixobj_fsck_messages.specs.declared.message.Message.{Message}
use Rattle.gixobj_fsck_messages.specs.declared.message.Message.TheVariants as message

-- the name of a message, as git-fsck prints it
abbrev pub message_name : Message → List ℕ
message_name message.GitmodulesSymlink = codes "gitmodulesSymlink"
message_name message.GitattributesSymlink = codes "gitattributesSymlink"
message_name message.GitignoreSymlink = codes "gitignoreSymlink"
message_name message.MailmapSymlink = codes "mailmapSymlink"
message_name message.BadTree = codes "badTree"
message_name message.NullSha1 = codes "nullSha1"
message_name message.FullPathname = codes "fullPathname"
message_name message.EmptyName = codes "emptyName"
message_name message.HasDot = codes "hasDot"
message_name message.HasDotdot = codes "hasDotdot"
message_name message.HasDotgit = codes "hasDotgit"
message_name message.ZeroPaddedFilemode = codes "zeroPaddedFilemode"
message_name message.BadFilemode = codes "badFilemode"
message_name message.DuplicateEntries = codes "duplicateEntries"
message_name message.TreeNotSorted = codes "treeNotSorted"
message_name message.NulInHeader = codes "nulInHeader"
message_name message.UnterminatedHeader = codes "unterminatedHeader"
message_name message.MissingTree = codes "missingTree"
message_name message.BadTreeSha1 = codes "badTreeSha1"
message_name message.BadParentSha1 = codes "badParentSha1"
message_name message.MissingAuthor = codes "missingAuthor"
message_name message.MultipleAuthors = codes "multipleAuthors"
message_name message.MissingCommitter = codes "missingCommitter"
message_name message.NulInCommit = codes "nulInCommit"
message_name message.MissingObject = codes "missingObject"
message_name message.BadObjectSha1 = codes "badObjectSha1"
message_name message.MissingTypeEntry = codes "missingTypeEntry"
message_name message.MissingType = codes "missingType"
message_name message.BadType = codes "badType"
message_name message.MissingTagEntry = codes "missingTagEntry"
message_name message.MissingTag = codes "missingTag"
message_name message.BadTagName = codes "badTagName"
message_name message.MissingTaggerEntry = codes "missingTaggerEntry"
message_name message.MissingNameBeforeEmail = codes "missingNameBeforeEmail"
message_name message.BadName = codes "badName"
message_name message.MissingEmail = codes "missingEmail"
message_name message.MissingSpaceBeforeEmail = codes "missingSpaceBeforeEmail"
message_name message.BadEmail = codes "badEmail"
message_name message.MissingSpaceBeforeDate = codes "missingSpaceBeforeDate"
message_name message.ZeroPaddedDate = codes "zeroPaddedDate"
message_name message.BadDateOverflow = codes "badDateOverflow"
message_name message.BadDate = codes "badDate"
message_name message.BadTimezone = codes "badTimezone"
message_name message.ExtraHeaderEntry = codes "extraHeaderEntry"
message_name message.UnknownType = codes "unknownType"

-- the message has this name, in any case of the letters
abbrev pub NamesMessage : List ℕ → Message → Type 0
NamesMessage name it = map to_ascii_lowercase (message_name it) ≡ map to_ascii_lowercase name

-- no message has this name, in any case of the letters
abbrev pub NamesNoMessage : List ℕ → Type 0
NamesNoMessage name = (it : Message) → ¬ NamesMessage name it

-- the number of a message, in the order in which git reports the messages of one object
abbrev pub message_number : Message → ℕ
message_number message.GitmodulesSymlink = 0
message_number message.GitattributesSymlink = 1
message_number message.GitignoreSymlink = 2
message_number message.MailmapSymlink = 3
message_number message.BadTree = 4
message_number message.NullSha1 = 5
message_number message.FullPathname = 6
message_number message.EmptyName = 7
message_number message.HasDot = 8
message_number message.HasDotdot = 9
message_number message.HasDotgit = 10
message_number message.ZeroPaddedFilemode = 11
message_number message.BadFilemode = 12
message_number message.DuplicateEntries = 13
message_number message.TreeNotSorted = 14
message_number message.NulInHeader = 15
message_number message.UnterminatedHeader = 16
message_number message.MissingTree = 17
message_number message.BadTreeSha1 = 18
message_number message.BadParentSha1 = 19
message_number message.MissingAuthor = 20
message_number message.MultipleAuthors = 21
message_number message.MissingCommitter = 22
message_number message.NulInCommit = 23
message_number message.MissingObject = 24
message_number message.BadObjectSha1 = 25
message_number message.MissingTypeEntry = 26
message_number message.MissingType = 27
message_number message.BadType = 28
message_number message.MissingTagEntry = 29
message_number message.MissingTag = 30
message_number message.BadTagName = 31
message_number message.MissingTaggerEntry = 32
message_number message.MissingNameBeforeEmail = 33
message_number message.BadName = 34
message_number message.MissingEmail = 35
message_number message.MissingSpaceBeforeEmail = 36
message_number message.BadEmail = 37
message_number message.MissingSpaceBeforeDate = 38
message_number message.ZeroPaddedDate = 39
message_number message.BadDateOverflow = 40
message_number message.BadDate = 41
message_number message.BadTimezone = 42
message_number message.ExtraHeaderEntry = 43
message_number message.UnknownType = 44

-- how many messages there are
abbrev pub message_count : ℕ
message_count = 45

-- all messages, by their numbers
abbrev pub all_messages : List Message
all_messages = message.GitmodulesSymlink ∷ message.GitattributesSymlink ∷ message.GitignoreSymlink ∷
    message.MailmapSymlink ∷ message.BadTree ∷ message.NullSha1 ∷ message.FullPathname ∷ message.EmptyName ∷
    message.HasDot ∷ message.HasDotdot ∷ message.HasDotgit ∷ message.ZeroPaddedFilemode ∷ message.BadFilemode ∷
    message.DuplicateEntries ∷ message.TreeNotSorted ∷ message.NulInHeader ∷ message.UnterminatedHeader ∷
    message.MissingTree ∷ message.BadTreeSha1 ∷ message.BadParentSha1 ∷ message.MissingAuthor ∷
    message.MultipleAuthors ∷ message.MissingCommitter ∷ message.NulInCommit ∷ message.MissingObject ∷
    message.BadObjectSha1 ∷ message.MissingTypeEntry ∷ message.MissingType ∷ message.BadType ∷ message.MissingTagEntry
    ∷ message.MissingTag ∷ message.BadTagName ∷ message.MissingTaggerEntry ∷ message.MissingNameBeforeEmail ∷
    message.BadName ∷ message.MissingEmail ∷ message.MissingSpaceBeforeEmail ∷ message.BadEmail ∷
    message.MissingSpaceBeforeDate ∷ message.ZeroPaddedDate ∷ message.BadDateOverflow ∷ message.BadDate ∷
    message.BadTimezone ∷ message.ExtraHeaderEntry ∷ message.UnknownType ∷ []
