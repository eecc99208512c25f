use Rattle.std.proofs.Common.{subst}
use Rattle.gix_object.specs.LooseObjects.{IsLooseObject}
use Rattle.gix_object.specs.hash.hash.kind.Kind.{Kind}
use Rattle.gixobj_examples_objects.proofs.store.taken_over.Goals as goal

pub returns-in-Err-write_to_vec-clause-error : goal.returns-in-Err-write_to_vec-clause-error
returns-in-Err-write_to_vec-clause-error c =
    let read = subst (λ (k : Kind). IsLooseObject k c.args.loose.now c.in-Ok.object) c.kind.ensures c.in-Ok.ensures.found in (
      c.in-Ok.object,
      read,
      (
        c.new-bytes.result,
        c.write_to_vec.new.out,
        c.new-bytes.ensures.items,
        c.in-Err-write_to_vec.ensures.error,
      ),
    )
