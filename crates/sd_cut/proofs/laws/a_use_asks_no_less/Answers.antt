use Rattle.sd_cut.specs.Turning.{kept_left, gathered_left, written_left}
use Rattle.sd_cut.proofs.Asking.{turned-agrees, kept-asks, gathered-asks, written-asks, pushed-agrees, taken-agrees, drained-agrees, appended-agrees}
use Rattle.sd_cut.proofs.laws.a_use_asks_no_less.Goals as goal

pub returns : goal.returns
returns c = record {
  kept = λ cut memory container number. turned-agrees kept_left kept-asks container number cut memory;
  gathered = λ cut memory container number by. turned-agrees (gathered_left by) (gathered-asks by) container number cut memory;
  written = λ cut memory container number by value. turned-agrees (written_left by value) (written-asks by value) container number cut memory;
  pushed = λ cut memory container value. pushed-agrees container value cut memory;
  taken = λ cut memory container. taken-agrees container cut memory;
  drained = λ cut memory container. drained-agrees container cut memory;
  appended = λ cut memory container. appended-agrees container cut memory;
}
