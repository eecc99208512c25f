-- The error of a tool for a write of the editor.
use Rattle.gixobj_editor_write.specs.declared.write.WriteError.{WriteError}
use Rattle.gixobj_editor_write.specs.declared.write.WriteError.TheVariants as write
use Rattle.gix_object.specs.declared.error.Error.{Error}
use Rattle.gix_object.specs.declared.error.Error.TheVariants as tool

-- the error of the closure as that of a tool; or out of memory
abbrev pub error_of_write : {E : Type 0} → (E → Error) → WriteError E → Error
error_of_write of (write.Out cause) = of cause
error_of_write of write.OutOfMemory = tool.OutOfMemory
