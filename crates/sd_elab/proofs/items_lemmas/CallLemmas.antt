-- Links of calls, where no argument or no parameter is left.
use Rattle.std.proofs.Common.{◌≡◌, ℕ, List, [], ◌∷◌, length, map, refl, ap, String}
use Rattle.std.specs.declared.alloc.Global.{Global}
use Rattle.std.specs.declared.vec.Vec.{Vec}
use Rattle.sd_lex.specs.PlainTree.{Dimension}
use Rattle.sd_lex.specs.TreeFold.{call_argument_of}
use Rattle.sd_lex.specs.declared.syntax.memlet.Slot.{Slot}
use Rattle.sd_graph.specs.TreeFold.{named_container}
use Rattle.sd_graph.specs.declared.container.Container.{Container}
use Rattle.sd_task.specs.task.Table.{Table}
use Rattle.sd_elab.specs.items.Items.{call_links}

pub no_argument_left : (table : Table) (arguments : List (String Global × Vec Slot Global)) (parameters : List (List ℕ × Container)) →
    length arguments ≡ 0 → call_links table (map call_argument_of arguments) parameters ≡ []
no_argument_left table [] parameters none = refl
no_argument_left table (first ∷ rest) parameters none = cc

pub no_parameter_left : (table : Table) (arguments : List (List ℕ × List Dimension)) (parameters : List (String Global × Container)) →
    parameters ≡ [] → call_links table arguments (map named_container parameters) ≡ []
no_parameter_left table [] parameters none = refl
no_parameter_left table (argument ∷ arguments) parameters none = ap (λ parameters. call_links table (argument ∷ arguments) (map named_container parameters)) none
