use Rattle.std.proofs.Common.{inl, inr}
use Rattle.sd_elab.proofs.items_lemmas.CallLemmas.{no_argument_left, no_parameter_left}
use Rattle.sd_elab.proofs.items_lemmas.ListLemmas.{all_made}
use Rattle.sd_elab.proofs.items.call.call_links.Goals as goal

pub returns : goal.returns
returns c =
    elim c.in-None.ensures.steps [
      | inl arguments ↦ all_made _ _ _ c.loop-name.invariant.made (no_argument_left _ _ _ arguments.1.0)
      | inr parameters ↦ all_made _ _ _ c.loop-name.invariant.made (no_parameter_left _ _ _ parameters.1.0)
    ]
