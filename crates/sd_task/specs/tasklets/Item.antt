-- A tasklet as an item: its connectors with their links, and its code.
use Rattle.std.specs.Prelude.{ℕ, List, [], ◌∷◌, length, map}
use Rattle.sd_lex.specs.PlainTree.{StatementTree, input, output, Block, no_statement, and_statement}
use Rattle.sd_graph.specs.PlainTree.{TaskletTree, KindTree, task}
use Rattle.sd_graph.specs.declared.link.Link.{Link}
use Rattle.sd_program.specs.Names.{Named}
use Rattle.sd_task.specs.in_force.Names.{with_numbered}
use Rattle.sd_task.specs.task.Table.{Table}
use Rattle.sd_task.specs.task.Links.{memlet_link, ports_of}
use Rattle.sd_task.specs.tasklet_names.UsedNames.{connectors_from, used_acts_all, next_behind_all}
use Rattle.sd_task.specs.tasklets.Code.{acts_of}

-- the link of a line that declares an input, before these
abbrev pub input_before : Table → StatementTree → List Link → List Link
input_before table (input line connector memlet) rest = memlet_link table connector memlet ∷ rest
input_before table statement rest = rest

abbrev pub inputs_of : Table → Block → List Link
inputs_of table no_statement = []
inputs_of table (and_statement first rest) = input_before table first (inputs_of table rest)

-- the same of an output
abbrev pub output_before : Table → StatementTree → List Link → List Link
output_before table (output line connector memlet) rest = memlet_link table connector memlet ∷ rest
output_before table statement rest = rest

abbrev pub outputs_of : Table → Block → List Link
outputs_of table no_statement = []
outputs_of table (and_statement first rest) = output_before table first (outputs_of table rest)

-- the code of a tasklet with these links: its inputs are numbered first, then its outputs
abbrev pub code_with : (variables : Named ℕ) → (ins outs : List Link) → Block → TaskletTree
code_with variables ins outs body =
    let in_numbers : Named ℕ = connectors_from 0 ins in
    let out_numbers : Named ℕ = connectors_from (length ins) outs in
    let used : List ℕ = used_acts_all variables in_numbers out_numbers body [] 0 [] in
    record {
      ins = ports_of ins;
      outs = ports_of outs;
      variables = used;
      locals = next_behind_all variables in_numbers out_numbers body [] 0;
      body = acts_of variables in_numbers out_numbers used body [] 0;
    }

-- a tasklet with these links
abbrev pub task_with : Table → (ins outs : List Link) → Block → KindTree
task_with table ins outs body = task (code_with table.variables ins outs body) ins outs

-- `with dace.tasklet:` and its block
abbrev pub tasklet_item : Table → Block → KindTree
tasklet_item table body = task_with table (inputs_of table body) (outputs_of table body) body
