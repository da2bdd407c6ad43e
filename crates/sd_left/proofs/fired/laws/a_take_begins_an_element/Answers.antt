use Rattle.sd_left.proofs.fired_lemmas.Takes.{value-taken, nothing-taken}
use Rattle.sd_left.proofs.fired.laws.a_take_begins_an_element.Goals as goal

pub returns : goal.returns
returns c = record {
  value = λ level container closed active element kind context position path value before after. value-taken level container closed active kind context position path before after element value;
  none = nothing-taken;
}
