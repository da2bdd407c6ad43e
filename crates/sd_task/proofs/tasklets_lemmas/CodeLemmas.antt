-- Code of several expressions and of several lines.
use Rattle.std.specs.declared.alloc.Global.{Global}
use Rattle.std.specs.declared.vec.Vec.{Vec}
use Rattle.std.proofs.Common.{◌≡◌, ℕ, List, [], ◌∷◌, ◌++◌, length, map, Option, refl, ap, ◌∙◌}
use Rattle.sd_lex.specs.PlainTree.{StatementTree, Block, and_statement}
use Rattle.sd_lex.specs.TreeFold.{expression_of, expressions_of}
use Rattle.sd_lex.specs.declared.syntax.expression.Expr.{Expr}
use Rattle.sd_graph.specs.PlainTree.{and_value, ActTree, ActTrees, no_act, and_act, KindTree, GraphTree, task}
use Rattle.sd_graph.specs.TreeFold.{values_listed, act_tree, acts_listed, PlainState, PlainItem, tasklet_tree, kind_tree, kind_step, item_step, graph_step, state_step}
use Rattle.sd_graph.specs.declared.tasklet.Act.{Act}
use Rattle.sd_graph.specs.declared.graph.ItemKind.TheFolds.{fold-roll-ItemKind}
use Rattle.sd_graph.specs.declared.graph.ItemKind.TheOpen as open_kind
use Rattle.sd_graph.specs.declared.graph.ItemKind as shape
use Rattle.sd_graph.specs.declared.link.Link.{Link}
use Rattle.sd_graph.specs.declared.tasklet.Tasklet.{Tasklet}
use Rattle.sd_graph.specs.declared.tasklet.Port.{Port}
use Rattle.sd_program.specs.Names.{Named}
use Rattle.sd_task.specs.task.Links.{ports_of}
use Rattle.sd_task.specs.tasklet_names.UsedNames.{locals_behind, next_behind, used_acts_all, next_behind_all}
use Rattle.sd_task.specs.tasklets.Code.{task_value, task_values, followed_by, act_of, acts_of}
use Rattle.sd_task.specs.tasklet_names.UsedNames.{connectors_from}
use Rattle.sd_task.specs.tasklets.Item.{code_with}

-- the code of several expressions, one by one
pub values_mapped : (variables ins outs : Named ℕ) (used : List ℕ) (locals : Named ℕ) (expressions : List Expr) →
    values_listed (map (λ e. task_value variables ins outs used locals (expression_of e)) expressions) ≡ task_values variables ins outs used locals (expressions_of expressions)
values_mapped variables ins outs used locals [] = refl
values_mapped variables ins outs used locals (first ∷ rest) =
    ap (and_value (task_value variables ins outs used locals (expression_of first))) (values_mapped variables ins outs used locals rest)

-- these statements, and others behind them
abbrev pub acts_before : List ActTree → ActTrees → ActTrees
acts_before [] rest = rest
acts_before (first ∷ acts) rest = and_act first (acts_before acts rest)

-- one more statement stands before those behind it
pub acts_before_more : (acts : List Act) (act : Act) (rest : ActTrees) → acts_before (map act_tree (acts ++ act ∷ [])) rest ≡ acts_before (map act_tree acts) (and_act (act_tree act) rest)
acts_before_more [] act rest = refl
acts_before_more (first ∷ acts) act rest = ap (and_act (act_tree first)) (acts_before_more acts act rest)

-- before none they are all
pub acts_before_none : (acts : List ActTree) → acts_before acts no_act ≡ acts_listed acts
acts_before_none [] = refl
acts_before_none (first ∷ acts) = ap (and_act first) (acts_before_none acts)

-- the code of a line goes before that of the lines behind it
pub acts_stepped : (variables ins outs : Named ℕ) (used : List ℕ) (all : ActTrees) (acts : List ActTree) (act : Option ActTree) (first : StatementTree) (rest : Block) (locals behind : Named ℕ) (next then : ℕ) →
    act ≡ act_of variables ins outs used first locals next → behind ≡ locals_behind variables ins outs first locals next → then ≡ next_behind variables ins outs first locals next →
    acts_before acts (acts_of variables ins outs used (and_statement first rest) locals next) ≡ all →
    acts_before acts (followed_by act (acts_of variables ins outs used rest behind then)) ≡ all
acts_stepped variables ins outs used all acts act first rest locals behind next then act_is behind_is then_is whole =
    ap (λ act. acts_before acts (followed_by act (acts_of variables ins outs used rest behind then))) act_is
    ∙ ap (λ behind. acts_before acts (followed_by (act_of variables ins outs used first locals next) (acts_of variables ins outs used rest behind then))) behind_is
    ∙ ap (λ then. acts_before acts (followed_by (act_of variables ins outs used first locals next) (acts_of variables ins outs used rest (locals_behind variables ins outs first locals next) then))) then_is
    ∙ whole

-- code is that of a tasklet where each part of it is
pub code_made : (variables in_numbers out_numbers : Named ℕ) (ins outs : List Link) (body : Block) (in_ports out_ports : List Port) (used : List ℕ) (locals : ℕ) (acts : ActTrees) →
    in_numbers ≡ connectors_from 0 ins → out_numbers ≡ connectors_from (length ins) outs →
    in_ports ≡ ports_of ins → out_ports ≡ ports_of outs →
    used ≡ used_acts_all variables in_numbers out_numbers body [] 0 [] →
    locals ≡ next_behind_all variables in_numbers out_numbers body [] 0 →
    acts ≡ acts_of variables in_numbers out_numbers used body [] 0 →
    record { ins = in_ports; outs = out_ports; variables = used; locals = locals; body = acts } ≡ code_with variables ins outs body
code_made variables in_numbers out_numbers ins outs body in_ports out_ports used locals acts in_numbered out_numbered in_ported out_ported used_are locals_are acts_are = cc

-- a tasklet as an item
pub task_tree : (code : Tasklet) (ins outs : Vec Link Global) → kind_tree (shape.Task code ins outs) ≡ task (tasklet_tree code) ins.items outs.items
unfolding shape.roll-ItemKind denote.Hole.Carrier.roll
task_tree code ins outs = fold-roll-ItemKind KindTree PlainItem GraphTree PlainState kind_step item_step graph_step state_step (open_kind.Task code ins outs)
