use Rattle.std.proofs.Common.{◌≡◌, ◌∙◌, ◌≤◌, [], ap, subst, map, length, arith}
use Rattle.std.proofs.lemmas.List.{drop_all}
use Rattle.sd_lex.specs.TreeFold.{call_argument_of}
use Rattle.sd_names.proofs.NameLemmas.{repeated_from, among_repeated_all}
use Rattle.sd_names.specs.Names.{is_among}
use Rattle.sd_uses.specs.ShapeMismatch.{containers_of}
use Rattle.sd_uses.proofs.shape_mismatch.repeated_containers.Goals as goal

-- all arguments were met
pub returns : goal.returns
returns c =
    let ended : length c.args.arguments.now ≤ c.loop-name.name-index = omega (arith, c.loop-name-test.false) in
    let all = containers_of (map call_argument_of c.args.arguments.now) in
    let done : c.loop-name.twice ≡ repeated_from [] [] all =
    subst (λ rest. repeated_from c.loop-name.met c.loop-name.twice (containers_of (map call_argument_of rest)) ≡ repeated_from [] [] all) (drop_all c.loop-name.name-index c.args.arguments.now ended) c.loop-name.invariant in
    λ name. ap (λ set. is_among set name) done ∙ among_repeated_all all name
