use Rattle.sd_tcode.specs.tcode.Compiled.{Compiled}
use Rattle.sd_tcode.specs.tcode.Held.{IsReady, given}
use Rattle.sd_row.specs.row.Point.{seen_on}
use Rattle.sd_row.proofs.row_lemmas.Loading.{IsLoaded}
use Rattle.sd_row.proofs.view.running.load_first.Given as goal

-- the elements so far
abbrev pub invariant-loop-number : goal.invariant-loop-number
invariant-loop-number l = record {
  loaded : IsLoaded (λ window. seen_on l.k l.machine.memories window.first) l.inputs l.number (given l.fn.frame) (given l.frame);
  ready : (code : Compiled) → IsReady code l.fn.frame → IsReady code l.frame;
}
