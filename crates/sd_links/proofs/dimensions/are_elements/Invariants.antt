use Rattle.std.proofs.Common.{◌≡◌, drop}
use Rattle.std.specs.List.{list_all}
use Rattle.sd_graph.specs.declared.link.Link.{Link}
use Rattle.sd_validity.specs.rules.Parts.{is_empty, link_spans}
use Rattle.sd_links.proofs.dimensions.are_elements.Given as goal

-- those left are single elements where all are
abbrev pub invariant-loop-link : goal.invariant-loop-link
invariant-loop-link l =
    list_all (λ (link : Link). is_empty (link_spans link)) (drop l.link-index l.links) ≡ list_all (λ (link : Link). is_empty (link_spans link)) l.links
