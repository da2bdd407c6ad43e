use Rattle.std.proofs.Common.{◌≡◌, ◌++◌, map, take}
use Rattle.sd_tcode.specs.tcode.Held.{kept_output}
use Rattle.sd_tcode.proofs.tcode.running.keep_outputs.Given as goal

-- the outputs so far
abbrev pub invariant-loop-connector : goal.invariant-loop-connector
invariant-loop-connector l = record {
  kept : l.log.0 ≡ l.fn.log.0 ++ map (kept_output l.variables l.registers) (take l.connector-index l.order);
  slots : l.log.1 ≡ l.fn.log.1;
}
