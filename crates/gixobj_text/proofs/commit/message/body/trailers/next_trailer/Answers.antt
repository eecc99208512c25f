-- A line that isn't a trailer line is skipped.
use Rattle.std.proofs.Common.{◌≡◌, ◌∙◌, None, Some, arith, refl, rules, sym}
use Rattle.gixobj_text.specs.BodyLines.{parts_of_line}
use Rattle.gixobj_text.proofs.LastLines.{last_lines_refl, last_lines_step}
use Rattle.gixobj_text.proofs.TrailerDecoding.{first_is_folded_skip, is_next_trailer_at_line, rest_len_lt, trailers_of_bytes_nil, trailers_of_bytes_skip}
use Rattle.gixobj_text.proofs.commit.message.body.trailers.next_trailer.Goals as goal

pub lines-init : goal.lines-init
lines-init c = record { trailers = refl; folded = refl; within = omega arith; last_lines = last_lines_refl _ }

pub lines-preserved : goal.lines-preserved
lines-preserved c =
    let before = c.lines.invariant in
    let first = c.in-Some.ensures in
    let none : parts_of_line c.in-Some.line.now ≡ None = search rules in
    record {
      trailers = sym (trailers_of_bytes_skip _ _ _ first none) ∙ before.trailers;
      folded = sym (first_is_folded_skip _ _ _ first none) ∙ before.folded;
      within = omega (arith, rest_len_lt _ _ _ first, before.within);
      last_lines = last_lines_step _ _ _ _ before.last_lines first;
    }

pub lines-smaller : goal.lines-smaller
lines-smaller c = rest_len_lt _ _ _ c.in-Some.ensures

pub returns-in-Some-split_trailer : goal.returns-in-Some-split_trailer
returns-in-Some-split_trailer c =
    let before = c.lines.invariant in
    let is : Some (c.in-Some-split_trailer.token.now, c.in-Some-split_trailer.first.now) ≡ parts_of_line c.in-Some.line.now = search rules in
    is_next_trailer_at_line _ _ _ _ _ _ before.trailers before.folded before.within before.last_lines c.in-Some.ensures is

pub returns : goal.returns
returns c = sym c.lines.invariant.trailers ∙ trailers_of_bytes_nil c.lines.rest.now c.in_default.ensures
