use Rattle.sd_tcode.specs.tcode.Compiled.{Compiled}
use Rattle.sd_tcode.specs.tcode.Held.{IsReady, given}
use Rattle.sd_tcode.specs.columns.Columns.{value_on}
use Rattle.sd_row.proofs.row_lemmas.Loading.{AreSet}
use Rattle.sd_row.proofs.row.point.set_variables.Given as goal

-- the variables so far
abbrev pub invariant-loop-number : goal.invariant-loop-number
invariant-loop-number l = record {
  set : AreSet (λ numbers. value_on numbers l.k) l.variables l.number (given l.fn.frame) (given l.frame);
  ready : (code : Compiled) → IsReady code l.fn.frame → IsReady code l.frame;
}
