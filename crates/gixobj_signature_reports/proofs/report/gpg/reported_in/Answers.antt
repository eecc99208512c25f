use Rattle.std.proofs.Common.{rules, ◌≡◌, ◌∷◌, codes}
use Rattle.std.specs.Option.{option_map}
use Rattle.gixobj_signature_reports.proofs.StatusesRead.{reported_after_cons, statuses_in_cons}
use Rattle.gixobj_signature_reports.proofs.report.gpg.reported_in.Goals as goal

pub lines-preserved : goal.lines-preserved
lines-preserved c =
    let first : c.lines.lines ≡ c.in-Some.line.now ∷ c.next.new.self = search rules in
    let before = c.lines.reported in
    let after = c.with_line-reported.result in
    let more = c.with_line-reported.ensures in (
      statuses_in_cons c.in-Some.line.now c.lines.lines c.next.new.self before.statuses after.statuses _
          first more.statuses c.lines.invariant.0,
      reported_after_cons (codes "TRUST_") c.in-Some.line.now c.lines.lines c.next.new.self (option_map (λ it. it.now) before.trust)
          (option_map (λ it. it.now) after.trust) _
          first more.trust c.lines.invariant.1,
      reported_after_cons (codes "VALIDSIG ") c.in-Some.line.now c.lines.lines c.next.new.self (option_map (λ it. it.now) before.valid)
          (option_map (λ it. it.now) after.valid) _
          first more.valid c.lines.invariant.2,
    )
