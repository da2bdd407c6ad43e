use Rattle.std.proofs.Common.{◌≡◌, ◌+◌, ◌<◌, ◌^◌, ℤ, List, length, map, sym, ap, ◌∙◌, subst}
use Rattle.std.proofs.lemmas.List.{length-append, length-map}
use Rattle.sd_tcode.specs.tcode.Held.{given}
use Rattle.sd_tcode.specs.columns.Columns.{value_on}
use Rattle.sd_tcode.specs.declared.columns.spacing.Spaced.{Spaced}
use Rattle.sd_rows.proofs.consume.setup.set_values.Goals as goal

pub set_variables-requires-clause-variables : goal.set_variables-requires-clause-variables
set_variables-requires-clause-variables c =
    let all = c.in_ok-all.all.items in
    let many : length all ≡ length c.args.variables.now + length c.args.numbers.now =
    sym (length-map all (λ numbers. value_on numbers 0)) ∙ ap length c.in_ok-all.ensures ∙ length-append (map (λ numbers. value_on numbers 0) c.args.variables.now) c.args.numbers.now
    ∙ ap (λ many. many + length c.args.numbers.now) (length-map c.args.variables.now (λ numbers. value_on numbers 0)) in
    c.requires.many ∙ sym many ∙ ap length (sym c.as_slice.ensures.value)

pub set_variables-requires-clause-few : goal.set_variables-requires-clause-few
set_variables-requires-clause-few c =
    let all = c.in_ok-all.all.items in
    let many : length all ≡ length c.args.variables.now + length c.args.numbers.now =
    sym (length-map all (λ numbers. value_on numbers 0)) ∙ ap length c.in_ok-all.ensures ∙ length-append (map (λ numbers. value_on numbers 0) c.args.variables.now) c.args.numbers.now
    ∙ ap (λ many. many + length c.args.numbers.now) (length-map c.args.variables.now (λ numbers. value_on numbers 0)) in
    subst (λ many. many < 2 ^ 32) (sym many ∙ ap length (sym c.as_slice.ensures.value)) c.requires.few

pub returns-clause-given : goal.returns-clause-given
returns-clause-given c =
    c.set_variables.ensures.given ∙ ap (λ (all : List Spaced). record (given c.args.frame.now) { variables = map (λ numbers. value_on numbers 0) all }) c.as_slice.ensures.value
    ∙ ap (λ (variables : List ℤ). record (given c.args.frame.now) { variables = variables }) c.in_ok-all.ensures
