use Rattle.std.proofs.Common.{codes}
use Rattle.sd_phrase.proofs.PhraseLemmas.{third}
use Rattle.sd_phrase.proofs.lambda.lambda_names.Goals as goal

pub returns-clause-second : goal.returns-clause-second
returns-clause-second c =
    rw c.in_ok-first.ensures.token (third c.args.text.now (codes ",") c.in_ok-first.rest.now c.in_ok-rest.rest.now c.in_ok-second.rest.now c.in_ok-first.first c.in_ok-second.second c.in_ok-rest.ensures.rest c.in_ok-second.ensures.token)
