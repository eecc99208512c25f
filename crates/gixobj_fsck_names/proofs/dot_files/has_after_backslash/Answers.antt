use Rattle.gixobj_fsck_names.proofs.NamesByByte.{after_backslash_iff_found}
use Rattle.gixobj_fsck_names.specs.DotFiles.{IsGitModulesOnNtfs}
use Rattle.gixobj_fsck_names.proofs.dot_files.has_after_backslash.Goals as goal

pub returns : goal.returns
returns c =
    let same = after_backslash_iff_found IsGitModulesOnNtfs c.args.name.now in
    (λ answer. same.0 (c.finds_backslash.ensures.0 answer), λ it. c.finds_backslash.ensures.1 (same.1 it))
