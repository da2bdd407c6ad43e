use Rattle.std.proofs.Common.{◌≡◌, drop, map}
use Rattle.sd_wire.specs.wiring.Mentioned.{with_numbers, mentioned}
use Rattle.sd_wire.proofs.wiring.mentioned.mentioned.Given as goal

-- those so far, with those that are left
abbrev pub invariant-loop-use_ : goal.invariant-loop-use_
invariant-loop-use_ l = with_numbers l.known.items (map (λ use'. use'.container) (drop l.use_-index l.uses)) ≡ mentioned l.uses
