-- The code of a tasklet names what is there, with sizes too.
use Rattle.std.proofs.Common.{◌≡◌, ℤ, List, [], length, map, true, refl, arith}
use Rattle.sd_lex.specs.PlainTree.{Block}
use Rattle.sd_graph.specs.PlainTree.{TaskletTree}
use Rattle.sd_graph.specs.declared.link.Link.{Link}
use Rattle.sd_task.specs.task.Table.{Table}
use Rattle.sd_task.specs.tasklets.Item.{code_with, task_with}
use Rattle.sd_task.specs.tasklet_names.UsedNames.{connectors_from}
use Rattle.sd_valid.specs.BoundCode.{bound_tasklet}
use Rattle.sd_valid.specs.BoundExpression.{bound_link}
use Rattle.sd_valid.specs.BoundTree.{bound_kind}
use Rattle.sd_validity.specs.rules.CodeNames.{is_code_known}
use Rattle.sd_validity.specs.rules.Parts.{is_kind_passed}
use Rattle.sd_made_valid.specs.values.Names.{names_tests}
use Rattle.sd_made_valid.proofs.values_lemmas.Values.{links_passed}
use Rattle.sd_made_valid.specs.tasks.Counted.{dimensions_of, AreCounted}
use Rattle.sd_made_valid.proofs.tasks_lemmas.Ports.{ins_matched, outs_matched}
use Rattle.sd_made_valid.proofs.tasks_lemmas.Lines.{lines_known}

code_known : (sizes : List ℤ) (table : Table) (ins outs : List Link) (body : Block) → AreCounted (dimensions_of ins []) (dimensions_of outs []) body → is_code_known (bound_tasklet sizes (code_with table.variables ins outs body)) ≡ true
code_known sizes table ins outs body counts =
    let code : TaskletTree = bound_tasklet sizes (code_with table.variables ins outs body) in
    lines_known sizes table.variables (connectors_from 0 ins) (connectors_from (length ins) outs) (dimensions_of ins []) (dimensions_of outs []) code (ins_matched code ins refl) (outs_matched code ins outs refl refl)
    body [] [] 0 [] tt counts (omega arith) (λ other h. h)

pub task_known : (sizes : List ℤ) (table : Table) (ins outs : List Link) (body : Block) → AreCounted (dimensions_of ins []) (dimensions_of outs []) body →
    is_kind_passed names_tests (bound_kind sizes (task_with table ins outs body)) ≡ true
task_known sizes table ins outs body counts =
    rw (code_known sizes table ins outs body counts, links_passed (map (bound_link sizes) ins)) (links_passed (map (bound_link sizes) outs))
