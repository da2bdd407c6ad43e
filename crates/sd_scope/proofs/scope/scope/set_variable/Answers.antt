use Rattle.std.proofs.Common.{rules, FitsSigned, ◌≡◌, sym, slice_set}
use Rattle.std.specs.Int.{w128}
use Rattle.std.proofs.lemmas.Int.{to_z-of_z}
use Rattle.sd_range.proofs.Variables.{variable_replaced}
use Rattle.sd_range.specs.Variables.{with_variable}
use Rattle.sd_scope.proofs.scope_lemmas.Assigned.{variable_resized}
use Rattle.sd_scope.proofs.scope.scope.set_variable.Goals as goal
use Rattle.sd_scope.proofs.scope.scope.set_variable.Goals.{then-index-len+in_ok-resize, else-index-len}

pub returns : goal.returns
returns c =
    let fits : FitsSigned w128 c.args.value = search rules in
    let set_here : slice_set c.if-index-len.values.items c.args.variable c.args.value ≡ with_variable c.args.variable c.args.value c.args.values.now.items =
    elim c.if-index-len.branch [ then-index-len+in_ok-resize w ↦ rw (w.values-is, w.in_ok-resize.ensures.items) (variable_resized c.args.variable c.args.values.now.len c.args.value c.args.values.now.items (search rules) (search rules)) | else-index-len w ↦ rw w.values-is (sym (variable_replaced c.args.variable c.args.value c.args.values.now.items (search rules))) ] in
    rw (to_z-of_z w128 c.args.value fits) set_here
