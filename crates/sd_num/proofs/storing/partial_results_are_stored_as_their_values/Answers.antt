use Rattle.sd_num.proofs.StoredLemmas.{stored-partial, stored_all-partials}
use Rattle.sd_num.proofs.storing.partial_results_are_stored_as_their_values.Goals as goal

pub returns-clause-one : goal.returns-clause-one
returns-clause-one c = λ old identity values fits is. stored-partial c.args.width c.args.resolution identity old values is fits

pub returns-clause-several : goal.returns-clause-several
returns-clause-several c = λ old identity parts fits is. stored_all-partials c.args.width c.args.resolution identity old parts is fits
