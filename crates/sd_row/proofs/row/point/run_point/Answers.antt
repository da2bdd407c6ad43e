use Rattle.std.proofs.Common.{◌≡◌, [], ◌∷◌, List, map, None, ap, ◌∙◌, subst}
use Rattle.sd_graph.specs.TaskletMeaning.{Inputs}
use Rattle.sd_tcode.specs.tcode.Held.{given, output_of}
use Rattle.sd_tcode.specs.tcode.Outputs.{output_effects}
use Rattle.sd_tcode.specs.op.Machine.{answered}
use Rattle.sd_leaves.specs.leaves.Done.{IsDone, performing}
use Rattle.sd_row.specs.declared.row.row.Write.{Write}
use Rattle.sd_tcode.specs.columns.Columns.{value_on}
use Rattle.sd_row.specs.row.Row.{write_on, order_of}
use Rattle.sd_row.specs.row.Point.{seen_on}
use Rattle.sd_row.proofs.row_lemmas.Instances.{given_here, point_fails, point_writes}
use Rattle.sd_row.proofs.row_lemmas.Loading.{scalars_again}
use Rattle.sd_row.proofs.row.point.run_point.Goals as goal

pub run_plain-requires : goal.run_plain-requires
run_plain-requires c = c.set_variables.ensures.ready c.args.code.now (c.load.ensures.ready c.args.code.now c.requires.ready)

pub returns-in-Ok-clause-done : goal.returns-in-Ok-clause-done
returns-in-Ok-clause-done c tree ins outs context code connectors at =
    let row = c.args.row.now in
    let now = c.args.machine.now in
    let frame = c.run_plain.new.frame in
    let inputs = given c.set_variables.new.frame in
    let values : inputs.values ≡ map (λ track. seen_on c.args.k now.memories track ∷ []) row.reads.items =
    ap (λ (inputs : Inputs). inputs.values) c.set_variables.ensures.given ∙ ap (λ (inputs : Inputs). inputs.values) c.load.ensures.given
    ∙ ap (map (λ track. seen_on c.args.k now.memories track ∷ [])) c.deref.ensures.value in
    let variables : inputs.variables ≡ map (λ numbers. value_on numbers c.args.k) row.variables.items =
    ap (λ (inputs : Inputs). inputs.variables) c.set_variables.ensures.given ∙ ap (map (λ numbers. value_on numbers c.args.k)) c.deref-2.ensures.value in
    let extents = ap (λ (inputs : Inputs). inputs.extents) c.set_variables.ensures.given ∙ ap (λ (inputs : Inputs). inputs.extents) c.load.ensures.given ∙ c.requires.scalars.extents in
    let goes = c.run_plain.ensures.meaning tree (order_of row) code c.requires.plain ∙ ap (λ result. answered result (output_effects (output_of frame) (order_of row))) c.in-Ok.is in
    point_writes tree ins outs row c.args.k context at now inputs
    (given_here tree ins outs row c.args.k context at now.memories inputs c.args.code.now.layout.connectors connectors values variables extents)
    (output_of frame) c.write_outputs.new.machine goes
    (subst (λ (writes : List Write). IsDone (performing (map (write_on (output_of frame) c.args.k) writes)) now None c.write_outputs.new.machine) c.deref-in-Ok.ensures.value c.write_outputs.ensures.done)

pub returns-in-Ok-clause-scalars : goal.returns-in-Ok-clause-scalars
returns-in-Ok-clause-scalars c =
    let row = c.args.row.now in
    let now = c.args.machine.now in
    let given_is = c.run_plain.ensures.given ∙ c.set_variables.ensures.given in
    scalars_again row c.args.code.now.layout.connectors (seen_on c.args.k now.memories) (λ numbers. value_on numbers c.args.k) (given c.args.frame.now) (given c.run_plain.new.frame) c.requires.scalars
    (ap (λ (inputs : Inputs). inputs.values) given_is ∙ ap (λ (inputs : Inputs). inputs.values) c.load.ensures.given ∙ ap (map (λ track. seen_on c.args.k now.memories track ∷ [])) c.deref.ensures.value)
    (ap (λ (inputs : Inputs). inputs.variables) given_is ∙ ap (map (λ numbers. value_on numbers c.args.k)) c.deref-2.ensures.value)
    (ap (λ (inputs : Inputs). inputs.extents) given_is ∙ ap (λ (inputs : Inputs). inputs.extents) c.load.ensures.given)

pub returns-in-Err-clause-done : goal.returns-in-Err-clause-done
returns-in-Err-clause-done c tree ins outs context code connectors at =
    let row = c.args.row.now in
    let now = c.args.machine.now in
    let frame = c.run_plain.new.frame in
    let inputs = given c.set_variables.new.frame in
    let values : inputs.values ≡ map (λ track. seen_on c.args.k now.memories track ∷ []) row.reads.items =
    ap (λ (inputs : Inputs). inputs.values) c.set_variables.ensures.given ∙ ap (λ (inputs : Inputs). inputs.values) c.load.ensures.given
    ∙ ap (map (λ track. seen_on c.args.k now.memories track ∷ [])) c.deref.ensures.value in
    let variables : inputs.variables ≡ map (λ numbers. value_on numbers c.args.k) row.variables.items =
    ap (λ (inputs : Inputs). inputs.variables) c.set_variables.ensures.given ∙ ap (map (λ numbers. value_on numbers c.args.k)) c.deref-2.ensures.value in
    let extents = ap (λ (inputs : Inputs). inputs.extents) c.set_variables.ensures.given ∙ ap (λ (inputs : Inputs). inputs.extents) c.load.ensures.given ∙ c.requires.scalars.extents in
    let fails = c.run_plain.ensures.meaning tree (order_of row) code c.requires.plain ∙ ap (λ result. answered result (output_effects (output_of frame) (order_of row))) c.in-Err.is in
    point_fails tree ins outs row c.args.k context at now inputs
    (given_here tree ins outs row c.args.k context at now.memories inputs c.args.code.now.layout.connectors connectors values variables extents)
    c.in-Err.kind fails

pub returns-in-Err-clause-scalars : goal.returns-in-Err-clause-scalars
returns-in-Err-clause-scalars c =
    let row = c.args.row.now in
    let now = c.args.machine.now in
    let given_is = c.run_plain.ensures.given ∙ c.set_variables.ensures.given in
    scalars_again row c.args.code.now.layout.connectors (seen_on c.args.k now.memories) (λ numbers. value_on numbers c.args.k) (given c.args.frame.now) (given c.run_plain.new.frame) c.requires.scalars
    (ap (λ (inputs : Inputs). inputs.values) given_is ∙ ap (λ (inputs : Inputs). inputs.values) c.load.ensures.given ∙ ap (map (λ track. seen_on c.args.k now.memories track ∷ [])) c.deref.ensures.value)
    (ap (λ (inputs : Inputs). inputs.variables) given_is ∙ ap (map (λ numbers. value_on numbers c.args.k)) c.deref-2.ensures.value)
    (ap (λ (inputs : Inputs). inputs.extents) given_is ∙ ap (λ (inputs : Inputs). inputs.extents) c.load.ensures.given)
