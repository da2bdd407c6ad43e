use Rattle.std.proofs.Common.{◌≡◌, ◌++◌, drop}
use Rattle.sd_wire.specs.loops.Spans.{variables_in}
use Rattle.sd_wire.proofs.loops.span.variables_in.Given as goal

-- those so far, with those of the spans left
abbrev pub invariant-loop-span : goal.invariant-loop-span
invariant-loop-span l = l.found.items ++ variables_in (drop l.span-index l.spans) l.state ≡ variables_in l.spans l.state
