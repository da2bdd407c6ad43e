use Rattle.sd_num.proofs.ResolutionLemmas.{resolved-partial, resolved_all-partials}
use Rattle.sd_num.proofs.laws.partial_results_merge.Goals as goal

pub returns-clause-one : goal.returns-clause-one
returns-clause-one c = λ identity values is fit. resolved-partial c.args.resolution identity c.args.old values is c.ranges.old fit

pub returns-clause-several : goal.returns-clause-several
returns-clause-several c = λ identity parts is fit. resolved_all-partials c.args.resolution identity c.args.old parts is c.ranges.old fit
