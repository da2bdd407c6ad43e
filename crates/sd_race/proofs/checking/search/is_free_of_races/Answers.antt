use Rattle.sd_race.proofs.checking_lemmas.Searching.{scope_verdict}
use Rattle.sd_race.proofs.checking.search.is_free_of_races.Goals as goal

pub returns : goal.returns
returns c = scope_verdict c.args.scope.now _ c.is_none.result c.is_none.ensures c.in_ok-race.ensures
