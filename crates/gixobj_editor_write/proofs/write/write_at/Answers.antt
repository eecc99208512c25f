-- A write at a deep path is one at the rest of the path, in the directory that a descent reached.
use Rattle.std.proofs.Common.{◌≡◌, ◌∙◌, Ok, Err, sym}
use Rattle.std.specs.Fn.{CalledAt}
use Rattle.std.proofs.lemmas.Result.{MatchResult-weaker}
use Rattle.gixobj_editor_files.specs.Bases.{base_edited}
use Rattle.gixobj_editor_files.specs.Edits.{only_open}
use Rattle.gixobj_editor_files.specs.Opening.{in_path}
use Rattle.gixobj_editor_write.specs.Calls.{names_of}
use Rattle.gixobj_editor_open.specs.Nested.{base_side, bases_of, dirs_of, entries_side}
use Rattle.gixobj_editor_open.proofs.BaseSteps.{editing}
use Rattle.gixobj_editor_open.proofs.Descents.{ascent_unchanged, at_path_of_descent, bases_of_ascent, dirs_of_descent, written_of_ascent}
use Rattle.gixobj_editor_write.proofs.Emitting.{emits_below_of_both, stopped_of_same_dirs}
use Rattle.gixobj_editor_write.proofs.write.write_at.Goals as goal

pub ascend-requires : goal.ascend-requires
ascend-requires g c = c.descend-descent.ensures.descended.are_above

pub returns-clause-bases : goal.returns-clause-bases
returns-clause-bases g c = MatchResult-weaker c.write_recursively-written.result c.write_recursively-written.ensures.bases (λ _ bases.
    let descent = c.descend-descent.result in
    bases_of_ascent c.args.path.now descent.consumed.now descent.rest.now c.descend-descent.ensures.path c.ascend.new.self c.write_recursively-written.new.node
    c.descend-descent.ensures.descended c.ascend.ensures base_edited editing bases) (λ _ u. u)

pub returns-clause-unchanged : goal.returns-clause-unchanged
returns-clause-unchanged g c = MatchResult-weaker c.write_recursively-written.result c.write_recursively-written.ensures.unchanged (λ _ u. u)
    (λ _ same. ascent_unchanged c.descend-descent.ensures.descended c.ascend.new.self c.write_recursively-written.new.node c.ascend.ensures same)

pub returns-clause-error : goal.returns-clause-error
returns-clause-error g c = MatchResult-weaker c.write_recursively-written.result c.write_recursively-written.ensures.error (λ _ u. u) (λ error stopped.
    let descent = c.descend-descent.result in
    let rest = names_of descent.rest.now in
    let path = names_of c.args.path.now in
    let here = c.descend-descent.new.self in
    let same : in_path rest (dirs_of here) ≡ in_path path (dirs_of c.args.node.now) =
    at_path_of_descent c.args.path.now descent.consumed.now descent.rest.now c.descend-descent.ensures.path c.descend-descent.ensures.descended entries_side in
    let same_bases : in_path rest (bases_of here) ≡ in_path path (bases_of c.args.node.now) =
    at_path_of_descent c.args.path.now descent.consumed.now descent.rest.now c.descend-descent.ensures.path c.descend-descent.ensures.descended base_side in
    stopped_of_same_dirs (λ f p h. CalledAt g.F.FnMut f p.1 (Ok p.0) h) (λ f tree x h. CalledAt g.F.FnMut f tree (Err x) h) (in_path rest (dirs_of here))
    (in_path path (dirs_of c.args.node.now)) (in_path rest (bases_of here)) (in_path path (bases_of c.args.node.now)) same same_bases
    c.args.out.now c.write_recursively-written.new.out error stopped)

pub returns-clause-written : goal.returns-clause-written
returns-clause-written g c = MatchResult-weaker c.write_recursively-written.result c.write_recursively-written.ensures.written (λ it ok.
    let descent = c.descend-descent.result in
    let rest = names_of descent.rest.now in
    let path = names_of c.args.path.now in
    let here = c.descend-descent.new.self in
    let same : in_path rest (dirs_of here) ≡ in_path path (dirs_of c.args.node.now) =
    at_path_of_descent c.args.path.now descent.consumed.now descent.rest.now c.descend-descent.ensures.path c.descend-descent.ensures.descended entries_side in
    let same_bases : in_path rest (bases_of here) ≡ in_path path (bases_of c.args.node.now) =
    at_path_of_descent c.args.path.now descent.consumed.now descent.rest.now c.descend-descent.ensures.path c.descend-descent.ensures.descended base_side in (
      ok.0,
      ok.1,
      (ok.2.0, emits_below_of_both _ _ _ _ same same_bases ok.0 ok.1 ok.2.0 ok.2.1, ok.2.2),
      ok.3,
      ok.4,
      ok.5,
      written_of_ascent c.args.path.now descent.consumed.now descent.rest.now c.descend-descent.ensures.path c.ascend.new.self
          c.write_recursively-written.new.node c.descend-descent.ensures.descended c.ascend.ensures (only_open ok.1) ok.6,
    )) (λ _ u. u)

pub write_recursively-written-requires-clause-is_open : goal.write_recursively-written-requires-clause-is_open
write_recursively-written-requires-clause-is_open g c =
    let descent = c.descend-descent.result in
    λ none. c.requires.is_open (sym (dirs_of_descent c.args.path.now descent.consumed.now descent.rest.now c.descend-descent.ensures.path
    c.descend-descent.ensures.descended) ∙ none)
