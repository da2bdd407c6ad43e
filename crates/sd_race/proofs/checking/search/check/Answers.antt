use Rattle.std.proofs.Common.{option_map, ◌∙◌, subst}
use Rattle.std.specs.List.{AllByRecursion, flat_map}
use Rattle.sd_graph.specs.TreeFold.{graph_tree}
use Rattle.sd_prop.specs.propagation.Scopes.{all_scopes}
use Rattle.sd_race.specs.race.Pairs.{IsAccepted, asked_pairs}
use Rattle.sd_race.specs.checking.Found.{IsFirstOf, race_of}
use Rattle.sd_race.proofs.checking_lemmas.Searching.{scopes_accepted}
use Rattle.sd_race.proofs.checking.search.check.Goals as goal

pub returns-in-None-clause-accepted : goal.returns-in-None-clause-accepted
returns-in-None-clause-accepted c =
    scopes_accepted (all_scopes (graph_tree c.args.bound.now.graph))
    (subst (λ scopes. AllByRecursion IsAccepted (flat_map asked_pairs scopes)) (c.as_slice.ensures.value ∙ c.in_ok-all.ensures)
    (subst (λ found. IsFirstOf (flat_map asked_pairs c.as_slice.result.now) (option_map race_of found)) c.in-None.is c.in_ok-race_among.ensures))
