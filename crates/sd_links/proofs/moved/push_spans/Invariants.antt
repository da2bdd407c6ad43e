use Rattle.std.proofs.Common.{◌≡◌, ◌++◌, take}
use Rattle.sd_links.proofs.moved.push_spans.Given as goal

-- those so far
abbrev pub invariant-loop-span : goal.invariant-loop-span
invariant-loop-span l = l.all.items ≡ l.initial.all.items ++ take l.span-index l.spans
