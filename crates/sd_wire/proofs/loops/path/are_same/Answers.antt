use Rattle.std.proofs.lemmas.Slice.Eq.{slice_eq-Decides}
use Rattle.sd_wire.proofs.loops_lemmas.Tables.{decides_beq}
use Rattle.sd_wire.proofs.loops.path.are_same.Goals as goal

pub returns : goal.returns
returns c = (slice_eq-Decides decides_beq c.args.a.now c.args.b.now c.eq.result c.eq.ensures).0
