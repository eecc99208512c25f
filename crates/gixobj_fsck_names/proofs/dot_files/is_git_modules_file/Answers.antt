use Rattle.gixobj_fsck_names.proofs.Either.{either_of_first, either_of_second}
use Rattle.gixobj_fsck_names.proofs.dot_files.is_git_modules_file.Goals as goal

pub returns-then-is_on_hfs : goal.returns-then-is_on_hfs
returns-then-is_on_hfs c = either_of_first _ _ _ c.if-is_on_hfs.true c.is_on_hfs.ensures

pub returns-else-is_on_hfs : goal.returns-else-is_on_hfs
returns-else-is_on_hfs c = either_of_second _ _ _ _ c.if-is_on_hfs.false c.is_on_hfs.ensures c.is_git_modules_on_ntfs.ensures
