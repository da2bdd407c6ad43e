use Rattle.std.proofs.Common.{◌≡◌, ◌+◌, ◌≤◌, drop, length}
use Rattle.sd_validity.specs.rules.Parts.{spans_of}
use Rattle.sd_links.proofs.spans.span_count.Given as goal

-- those so far, with those of the dimensions that are left, are all
abbrev pub invariant-loop-dim : goal.invariant-loop-dim
invariant-loop-dim l = record {
  counted : l.count + length (spans_of (drop l.dim-index l.dim-items)) ≡ length (spans_of l.dim-items);
  few : l.count ≤ l.dim-index;
}
