-- The positions follow from the numbers of the bytes after each value.
use Rattle.std.proofs.Common.{refl}
use Rattle.gixobj_c.proofs.Lines.{author_value, committer_value, encoding_value, header_of_line, is_token_of_same_line, line_of_variant, message_value}
use Rattle.gixobj_c.proofs.Lines.{parent_value, tree_value}
use Rattle.gixobj_c.proofs.commits.token_of_line.Goals as goal

pub one_line-requires : goal.one_line-requires
one_line-requires c = tree_value c.args.commit.now c.args.offset _ c.args.rest.now
    (line_of_variant c.args.commit.now c.args.offset _ _ c.args.rest.now c.in-Tree.is c.requires)

pub one_line-requires-in-Parent : goal.one_line-requires-in-Parent
one_line-requires-in-Parent c = parent_value c.args.commit.now c.args.offset _ c.args.rest.now
    (line_of_variant c.args.commit.now c.args.offset _ _ c.args.rest.now c.in-Parent.is c.requires)

pub one_line-requires-in-Author : goal.one_line-requires-in-Author
one_line-requires-in-Author c = author_value c.args.commit.now c.args.offset _ c.args.rest.now
    (line_of_variant c.args.commit.now c.args.offset _ _ c.args.rest.now c.in-Author.is c.requires)

pub one_line-requires-in-Committer : goal.one_line-requires-in-Committer
one_line-requires-in-Committer c = committer_value c.args.commit.now c.args.offset _ c.args.rest.now
    (line_of_variant c.args.commit.now c.args.offset _ _ c.args.rest.now c.in-Committer.is c.requires)

pub one_line-requires-in-Encoding : goal.one_line-requires-in-Encoding
one_line-requires-in-Encoding c = encoding_value c.args.commit.now c.args.offset _ c.args.rest.now
    (line_of_variant c.args.commit.now c.args.offset _ _ c.args.rest.now c.in-Encoding.is c.requires)

pub one_line-requires-in-Message : goal.one_line-requires-in-Message
one_line-requires-in-Message c = message_value c.args.commit.now c.args.offset _ c.args.rest.now
    (line_of_variant c.args.commit.now c.args.offset _ _ c.args.rest.now c.in-Message.is c.requires)

pub extra_header-requires : goal.extra_header-requires
extra_header-requires c = header_of_line c.args.commit.now c.args.offset _ c.args.rest.now
    (line_of_variant c.args.commit.now c.args.offset _ _ c.args.rest.now c.in-ExtraHeader.is c.requires)

pub returns-in-Tree : goal.returns-in-Tree
returns-in-Tree c = is_token_of_same_line _ _ _ _ _ _ _ c.in-Tree.is refl c.one_line.ensures

pub returns-in-Parent : goal.returns-in-Parent
returns-in-Parent c = is_token_of_same_line _ _ _ _ _ _ _ c.in-Parent.is refl c.one_line-in-Parent.ensures

pub returns-in-Author : goal.returns-in-Author
returns-in-Author c = is_token_of_same_line _ _ _ _ _ _ _ c.in-Author.is refl c.one_line-in-Author.ensures

pub returns-in-Committer : goal.returns-in-Committer
returns-in-Committer c = is_token_of_same_line _ _ _ _ _ _ _ c.in-Committer.is refl c.one_line-in-Committer.ensures

pub returns-in-Encoding : goal.returns-in-Encoding
returns-in-Encoding c = is_token_of_same_line _ _ _ _ _ _ _ c.in-Encoding.is refl c.one_line-in-Encoding.ensures

pub returns-in-Message : goal.returns-in-Message
returns-in-Message c = is_token_of_same_line _ _ _ _ _ _ _ c.in-Message.is refl c.one_line-in-Message.ensures
