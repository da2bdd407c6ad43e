use Rattle.std.proofs.Common.{◌≡◌, ◌++◌, drop, map}
use Rattle.sd_validity.specs.rules.Parts.{spans_of}
use Rattle.sd_links.proofs.spans.link_spans.Given as goal

-- those so far, with those of the dimensions that are left, are all
abbrev pub invariant-loop-dim : goal.invariant-loop-dim
invariant-loop-dim l = map (λ span. span.now) l.spans.items ++ spans_of (drop l.dim-index l.dim-items) ≡ spans_of l.dim-items
