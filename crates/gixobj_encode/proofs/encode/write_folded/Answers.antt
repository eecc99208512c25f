-- One more line is written, and the next line begins with a space.
use Rattle.std.proofs.Common.{[], refl, ◌∷◌, ◌++◌, ◌∙◌, List, ℕ}
use Rattle.std.proofs.lemmas.Result.{err_from_is_err_and}
use Rattle.gixobj_encode.specs.FieldWriting.{folded}
use Rattle.gixobj_encode.proofs.FieldWrites.{appends_prefix_of_folded, folded_prefix_append}
use Rattle.gixobj_streams.proofs.Appends.{appends_all_append, appends_all_nil, appends_or_fails_append}
use Rattle.gixobj_encode.proofs.encode.write_folded.Goals as goal

pub loop-line-init : goal.loop-line-init
loop-line-init g c = record { prefix = []; write_bytes = appends_all_nil _; joined = refl; same_loan = refl }

pub returns-in_err-write_line-clause-appended : goal.returns-in_err-write_line-clause-appended
returns-in_err-write_line-clause-appended g c =
    let before = c.loop-line.invariant in
    let p = err_from_is_err_and c.from_residual.result c.from_residual.ensures.1 in
    rw (p.1, p.2) (appends_prefix_of_folded _ _ _ c.args.value.now before.prefix c.loop-line.rest.now c.in-Some.line.now c.in-Some.after.now
    before.write_bytes before.joined c.in-Some.ensures.0 c.in_err-write_line.ensures.appended)

pub returns-clause-appended : goal.returns-clause-appended
returns-clause-appended g c =
    let before = c.loop-line.invariant in
    rw before.joined (appends_or_fails_append _ _ _ _ before.prefix (folded c.loop-line.rest.now) before.write_bytes c.write_last_line.ensures.appended)

pub loop-line-preserved : goal.loop-line-preserved
loop-line-preserved g c =
    let before = c.loop-line.invariant in
    let line : List ℕ = c.in-Some.line.now ++ 10 ∷ 32 ∷ [] in
    record {
      prefix = before.prefix ++ line;
      write_bytes = appends_all_append _ _ _ before.prefix line before.write_bytes c.in_ok-write_line.ensures.appended;
      joined = folded_prefix_append c.args.value.now before.prefix c.loop-line.rest.now c.in-Some.line.now c.in-Some.after.now before.joined
          c.in-Some.ensures.0;
      same_loan = c.in_ok-write_line.ensures.same_loan ∙ before.same_loan;
    }
