-- Parts of which the example graphs are made.
use Rattle.std.proofs.Common.{ℕ, ℤ, pos, List, [], ◌∷◌, map, Option, None, Bool}
use Rattle.sd_num.specs.declared.width.Width.TheVariants.{W64}
use Rattle.sd_range.specs.declared.affine.Affine.{Affine}
use Rattle.sd_range.specs.declared.range.Range.{Range}
use Rattle.sd_range.specs.declared.subset.Dim.{Dim}
use Rattle.sd_range.specs.declared.subset.Dim.TheVariants.{Index, Span}
use Rattle.sd_graph.specs.PlainTree.{ValueTree, literal, variable, two, no_value, ActTrees, assign, no_act, and_act, TaskletTree, GuardTree, ExitTree, KindTree, task, ItemTrees, no_item, and_item}
use Rattle.sd_graph.specs.declared.container.Container.{Container}
use Rattle.sd_graph.specs.declared.container.ContainerKind.{ContainerKind}
use Rattle.sd_graph.specs.declared.link.Link.{Link}
use Rattle.sd_graph.specs.declared.operator.TwoSign.TheVariants.{Less}

abbrev pub number : ℤ → Affine
number value = record { constant = value; terms = [] }

-- a variable and a number
abbrev pub plus : (variable : ℕ) → ℤ → Affine
plus name value = record { constant = value; terms = (name, pos 1) ∷ [] }

-- from a begin to an end, in steps of 1
abbrev pub range : (begin end : Affine) → Range
range begin end = record { begin = begin; ends = end ∷ []; step = pos 1 }

abbrev pub span : (begin end : ℤ) → Dim
span begin end = Span (range (number begin) (number end))

abbrev pub container : (extents : List ℤ) → ContainerKind → List ℕ × Container
container extents kind = ([], record { extents = map number extents; kind = kind; width = W64 })

abbrev pub link : (container : ℕ) → List Dim → Link
link container dims = record { connector = []; memlet = record { container = container; subset = record { dims = dims }; volume = pos 1; resolution = None } }

-- code with so many scalar inputs and outputs
abbrev pub code : (ins outs : List ℕ) → (variables : List ℕ) → (locals : ℕ) → ActTrees → TaskletTree
code ins outs variables locals body =
    record { ins = map (λ dims. record { connector = []; dims = dims }) ins; outs = map (λ dims. record { connector = []; dims = dims }) outs; variables = variables; locals = locals; body = body }

-- code that gives a value to its one output, a scalar, behind so many inputs
abbrev pub giving : (ins : List ℕ) → (connector : ℕ) → (variables : List ℕ) → ValueTree → TaskletTree
giving ins connector variables value = code ins (0 ∷ []) variables 0 (and_act (assign connector no_value value) no_act)

-- the condition that a variable is below a value
abbrev pub below : (variable : ℕ) → ValueTree → GuardTree
below name value = record { line = 0; reads = []; code = giving [] 0 (name ∷ []) (two Less (variable 0) value) }

abbrev pub exit : (to : ℕ) → (back : Bool) → Option GuardTree → List (ℕ × Affine) → ExitTree
exit to back when set = record { to = to; back = back; when = when; set = set }

abbrev pub one_item : KindTree → ItemTrees
one_item kind = and_item 1 kind no_item

-- a task that writes a number to an element of a container
abbrev pub writing : (container : ℕ) → (at : Affine) → KindTree
writing name at = task (giving [] 0 [] (literal (pos 7))) [] (link name (Index at ∷ []) ∷ [])
