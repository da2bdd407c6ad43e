use Rattle.sd_tcode.specs.tcode.Held.{IsReady}
use Rattle.sd_bench.specs.Scalars.{HasScalars}
use Rattle.sd_bench.proofs.points.rounds.Given as goal

-- the frame is ready for each round
abbrev pub invariant-loop : goal.invariant-loop
invariant-loop l = record {
  ready : IsReady l.code l.frame;
  scalars : HasScalars l.frame;
}

-- and at each point
abbrev pub invariant-loop-point : goal.invariant-loop-point
invariant-loop-point l = record {
  ready : IsReady l.code l.frame;
  scalars : HasScalars l.frame;
}
