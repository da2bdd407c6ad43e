use Rattle.std.proofs.Common.{rules}
use Rattle.std.specs.Int.{w128}
use Rattle.std.proofs.lemmas.Int.{wraps, wrapping_add-bits}
use Rattle.sd_range.proofs.affine.with_term.Goals as goal

pub returns : goal.returns
returns c = search (rules, wraps, wrapping_add-bits w128)
