use Rattle.std.proofs.Common.{◌≡◌, ◌+◌, ℤ, Some, option_map, ap, sym, ◌∙◌, rules, w64, FitsSigned}
use Rattle.std.proofs.lemmas.Int.{to_z-of_z}
use Rattle.std.specs.List.{position}
use Rattle.std.specs.Ordering.{int_eq}
use Rattle.sd_tasklet.proofs.literals_lemmas.LiftedLists.{not_found}
use Rattle.sd_tasklet.proofs.literals.lifting.variable_of.Goals as goal

pub returns-in_default : goal.returns-in_default
returns-in_default c =
    let fits : FitsSigned w64 c.args.number = search rules in
    let place : c.place_of.result ≡ position (int_eq c.args.number) c.args.numbers.now =
    c.place_of.ensures ∙ ap (λ (number : ℤ). position (int_eq number) c.args.numbers.now) (to_z-of_z w64 c.args.number fits) in
    ap (option_map (λ place. c.args.own + place)) (sym (not_found c.place_of.result c.in_default.not-Some) ∙ place)

pub returns-in-Ok : goal.returns-in-Ok
returns-in-Ok c =
    let fits : FitsSigned w64 c.args.number = search rules in
    let place : c.place_of.result ≡ position (int_eq c.args.number) c.args.numbers.now =
    c.place_of.ensures ∙ ap (λ (number : ℤ). position (int_eq number) c.args.numbers.now) (to_z-of_z w64 c.args.number fits) in
    let sum : c.in-Ok.variable ≡ c.args.own + c.in-Some.place = search rules in
    ap Some sum ∙ ap (option_map (λ place. c.args.own + place)) (sym c.in-Some.is ∙ place)
