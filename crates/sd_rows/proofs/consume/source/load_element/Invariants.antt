use Rattle.sd_tcode.specs.tcode.Compiled.{Compiled}
use Rattle.sd_tcode.specs.tcode.Held.{IsReady, given}
use Rattle.sd_row.proofs.row_lemmas.Loading.{IsLoaded}
use Rattle.sd_rows.specs.consume.Own.{seen_from}
use Rattle.sd_rows.proofs.consume.source.load_element.Given as goal

-- the inputs so far
abbrev pub invariant-loop-number : goal.invariant-loop-number
invariant-loop-number l = record {
  loaded : IsLoaded (seen_from l.value l.machine.memories) l.sources l.number (given l.fn.frame) (given l.frame);
  ready : (code : Compiled) → IsReady code l.fn.frame → IsReady code l.frame;
}
