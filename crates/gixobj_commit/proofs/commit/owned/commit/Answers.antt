use Rattle.std.proofs.Common.{rules}
use Rattle.gixobj_commit.proofs.commit.owned.commit.Goals as goal

pub returns : goal.returns
returns c = record {
  tree = search rules;
  parents = search rules;
  author = search rules;
  committer = search rules;
  encoding = search rules;
  message = search rules;
  extra_headers = search rules;
}
