use Rattle.sd_validity.proofs.rules_lemmas.InForceLemmas.{names_what_is_in_force}
use Rattle.sd_validity.proofs.rules_lemmas.UpwardsLemmas.{leads_upwards}
use Rattle.sd_validity.proofs.rules_lemmas.InPlaceLemmas.{has_streams_in_place}
use Rattle.sd_validity.proofs.rules_lemmas.LinkedLemmas.{is_linked}
use Rattle.sd_validity.proofs.rules.laws.a_valid_graph_is_as_its_laws_ask.Goals as goal

pub returns-clause-in_force : goal.returns-clause-in_force
returns-clause-in_force c = λ tree valid. names_what_is_in_force tree valid.names

pub returns-clause-upwards : goal.returns-clause-upwards
returns-clause-upwards c = λ tree valid. leads_upwards tree valid.transitions

pub returns-clause-in_place : goal.returns-clause-in_place
returns-clause-in_place c = λ tree valid. has_streams_in_place tree valid.streams

pub returns-clause-linked : goal.returns-clause-linked
returns-clause-linked c = λ tree valid. is_linked tree valid.nesting
