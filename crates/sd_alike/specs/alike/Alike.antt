-- Graphs that name their own variables alone, and contexts in which such work is the same.
use Rattle.std.specs.Prelude.{◌≡◌, ℕ, ◌<◌, length, Option, Some, None, ⊤}
use Rattle.std.specs.List.{AllByRecursion}
use Rattle.sd_range.specs.declared.affine.Affine.{Affine}
use Rattle.sd_range.specs.declared.range.Range.{Range}
use Rattle.sd_range.specs.declared.subset.Dim.{Dim}
use Rattle.sd_range.specs.declared.subset.Dim.TheVariants.{Index, Span}
use Rattle.sd_graph.specs.PlainTree.{KindTree, task, map_scope, consume_scope, nested_graph, reduction, copy, ItemTrees, no_item, and_item, StateTrees, no_state, and_state, GraphTree, graph, TaskletTree, GuardTree, ExitTree}
use Rattle.sd_graph.specs.Context.{Context}
use Rattle.sd_graph.specs.declared.link.Link.{Link}
use Rattle.sd_alike.specs.alike.Lift.{Lift, reach_in}
use Rattle.sd_alike.specs.alike.SameWork.{AgreeBelow}

-- each variable is one of the first so many
abbrev pub AffineBelow : (count : ℕ) → Affine → Type 0
AffineBelow count a = AllByRecursion (λ term. term.0 < count) a.terms

abbrev pub RangeBelow : (count : ℕ) → Range → Type 0
RangeBelow count range = AffineBelow count range.begin × AllByRecursion (AffineBelow count) range.ends

abbrev pub DimBelow : (count : ℕ) → Dim → Type 0
DimBelow count (Index at) = AffineBelow count at
DimBelow count (Span range) = RangeBelow count range

abbrev pub LinkBelow : (count : ℕ) → Link → Type 0
LinkBelow count link = AllByRecursion (DimBelow count) link.memlet.subset.dims

abbrev pub CodeBelow : (count : ℕ) → TaskletTree → Type 0
CodeBelow count code = AllByRecursion (λ variable. variable < count) code.variables

abbrev pub GuardBelow : (count : ℕ) → Option GuardTree → Type 0
GuardBelow count None = ⊤
GuardBelow count (Some guard) = AllByRecursion (LinkBelow count) guard.reads × CodeBelow count guard.code

abbrev pub ExitBelow : (count : ℕ) → ExitTree → Type 0
ExitBelow count exit = GuardBelow count exit.when × AllByRecursion (λ assignment. AffineBelow count assignment.1) exit.set

-- so it is in items and states, and in nested graphs each has its own variables
abbrev mutual
  pub KindBelow : (count : ℕ) → KindTree → Type 0
  KindBelow count (task code ins outs) = CodeBelow count code × (AllByRecursion (LinkBelow count) ins × AllByRecursion (LinkBelow count) outs)
  KindBelow count (map_scope sequential params private body) = AllByRecursion (λ param. RangeBelow count param.1) params × ItemsBelow count body
  KindBelow count (consume_scope stream element private body) = ItemsBelow count body
  KindBelow count (nested_graph inner links) = NamesItsVariables inner × AllByRecursion (LinkBelow count) links
  KindBelow count (reduction resolution axis identity from to) = LinkBelow count from × LinkBelow count to
  KindBelow count (copy from to) = LinkBelow count from × LinkBelow count to

  pub ItemsBelow : (count : ℕ) → ItemTrees → Type 0
  ItemsBelow count no_item = ⊤
  ItemsBelow count (and_item line kind items) = KindBelow count kind × ItemsBelow count items

  pub StatesBelow : (count : ℕ) → StateTrees → Type 0
  StatesBelow count no_state = ⊤
  StatesBelow count (and_state items exits states) = ItemsBelow count items × (AllByRecursion (ExitBelow count) exits × StatesBelow count states)

  -- each variable that a graph names is one of its own
  pub NamesItsVariables : GraphTree → Type 0
  NamesItsVariables (graph name containers arguments variables symbols states) = StatesBelow (length variables) states

-- two contexts have the same containers, the same values of the first so many variables, and reach each container alike, in a lifted stack
pub record AreAlike (lift : Lift) (count : ℕ) (context other : Context) : Type 0 where
  pub containers : other.containers ≡ context.containers
  pub values : AgreeBelow count context.values other.values
  pub reach : (number : ℕ) → other.reach number ≡ reach_in lift (context.reach number)
