use Rattle.std.proofs.Common.{◌≡◌, drop}
use Rattle.std.specs.List.{list_any}
use Rattle.sd_wire.specs.loops.Spans.{leads_to_end}
use Rattle.sd_wire.proofs.loops.span.leads_to_end.Given as goal

-- the state leads to one of those left where it leads to one of all
abbrev pub invariant-loop-end : goal.invariant-loop-end
invariant-loop-end l = list_any (leads_to_end l.state) (drop l.end-index l.ends) ≡ list_any (leads_to_end l.state) l.ends
