use Rattle.std.proofs.Common.{◌≡◌, ◌∙◌, ap, rules, List, not, map}
use Rattle.std.proofs.lemmas.Fn.{filter_same}
use Rattle.std.specs.List.{filter}
use Rattle.gixobj_commit.specs.CommitSigning.{is_header_named}
use Rattle.gixobj_commit.specs.CommitViews.{owned_commit_lines}
use Rattle.gixobj_parse.specs.HeaderReading.{owned_header_of}
use Rattle.gixobj_hash.specs.HeaderFormat.{Header}
use Rattle.gixobj_commit.proofs.CommitSigned.{map_filter_view}
use Rattle.gixobj_commit.proofs.commit.sign.without_headers_of.Goals as goal

pub returns-clause-lines : goal.returns-clause-lines
returns-clause-lines c =
    let kept : c.retain.new.self.items ≡ filter (λ h. not (is_header_named c.args.name.now (owned_header_of h))) c.args.commit.extra_headers.items =
    filter_same _ _ _ (λ x b f' k. search rules) _ _ c.retain.ensures.filtered in
    ap (λ (hs : List Header). record (owned_commit_lines c.args.commit) { extra_headers = hs })
    (ap (map owned_header_of) kept ∙ map_filter_view owned_header_of (λ h. not (is_header_named c.args.name.now h)) c.args.commit.extra_headers.items)
