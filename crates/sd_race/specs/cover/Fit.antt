-- What of a graph's validity its boxes rest on: map parameters are fresh, expressions in normal form, and links and targets have the shapes that they stand for.
use Rattle.std.specs.Prelude.{◌≡◌, ◌≢◌, ℕ, suc, ℤ, pos, ◌+ℤ◌, List, [], ◌∷◌, ◌++◌, Option, Some, None, true, ⊤, slice_get}
use Rattle.std.specs.List.{AllByRecursion, Contains}
use Rattle.sd_range.specs.Terms.{IsNormal}
use Rattle.sd_range.specs.Arithmetic.{affine_difference}
use Rattle.sd_range.specs.declared.range.Range.{Range}
use Rattle.sd_range.specs.declared.subset.Dim.{Dim}
use Rattle.sd_range.specs.declared.subset.Dim.TheVariants.{Index, Span}
use Rattle.sd_work.specs.Change.{without}
use Rattle.sd_subset.specs.boxes.Box.{Parameter, last_end}
use Rattle.sd_subset.specs.boxes.InForce.{IsNormalRange, AreFresh}
use Rattle.sd_graph.specs.declared.link.Link.{Link}
use Rattle.sd_graph.specs.ContainerParts.{Containers, container_at, extents_of}
use Rattle.sd_graph.specs.Context.{span_counts}
use Rattle.sd_graph.specs.Mode.{Mode, Read, Write, Resolve, Push, Take, do_conflict}
use Rattle.sd_graph.specs.Wiring.{Use, graph_uses}
use Rattle.sd_graph.specs.PlainTree.{GuardTree, ExitTree, KindTree, task, map_scope, consume_scope, nested_graph, reduction, copy, ItemTrees, no_item, and_item, StateTrees, no_state, and_state, GraphTree, graph}

-- a dimension in normal form
abbrev pub IsNormalDim : Dim → Type 0
IsNormalDim (Index at) = IsNormal at.terms
IsNormalDim (Span r) = IsNormalRange r

abbrev pub IsNormalLink : Link → Type 0
IsNormalLink link = AllByRecursion IsNormalDim link.memlet.subset.dims

-- a range of steps of 1 with so many values, whatever the variables are
pub record HasLength (extent : ℕ) (r : Range) : Type 0 where
  pub step : r.step ≡ pos 1
  pub constant : (affine_difference (last_end r) r.begin).terms ≡ []
  pub long : (affine_difference (last_end r) r.begin).constant +ℤ pos 1 ≡ pos extent

-- the ranges of a link have the extents of its parameter; a parameter of one element may be one index
abbrev pub HasShape : (extents : List ℕ) → List Dim → Type 0
HasShape [] [] = ⊤
HasShape (extent ∷ extents) [] = (extent ≡ 1) × HasShape extents []
HasShape [] (Index at ∷ dims) = HasShape [] dims
HasShape (extent ∷ extents) (Index at ∷ dims) = HasShape (extent ∷ extents) dims
HasShape [] (Span r ∷ dims) = ⊥
HasShape (extent ∷ extents) (Span r ∷ dims) = HasLength extent r × HasShape extents dims

-- links from this number on have the shapes of their parameters
abbrev pub HaveShapes : Containers → (number : ℕ) → List Link → Type 0
HaveShapes containers number [] = ⊤
HaveShapes containers number (link ∷ links) = HasShape (extents_of (container_at containers number)) link.memlet.subset.dims × HaveShapes containers (suc number) links

-- no two parameters of one container are used in modes that conflict
abbrev pub IsAliasFree : List Link → List Use → Type 0
IsAliasFree links uses = (use' other : Use) (link second : Link) → Contains uses use' → Contains uses other →
    slice_get links use'.container ≡ Some link → slice_get links other.container ≡ Some second → use'.container ≢ other.container →
    link.memlet.container ≡ second.memlet.container → do_conflict use'.mode other.mode ≡ true → ⊥

-- a mode of arrays
abbrev pub IsArrayMode : Mode → Type 0
IsArrayMode Read = ⊤
IsArrayMode Write = ⊤
IsArrayMode (Resolve by) = ⊤
IsArrayMode Push = ⊥
IsArrayMode Take = ⊥

-- no parameter is used as a stream
abbrev pub AreArrays : List Link → List Use → Type 0
AreArrays links uses = (use' : Use) (link : Link) → Contains uses use' → slice_get links use'.container ≡ Some link → IsArrayMode use'.mode

-- the counts of a shape: without a range it is one value in one dimension
abbrev pub shape_counts : List ℕ → List ℕ
shape_counts [] = 1 ∷ []
shape_counts (count ∷ counts) = count ∷ counts

-- a reduction's target has as many values in each range as its source has in those without the axis; without an axis it has one
abbrev pub HasTargetCounts : (axis : Option ℕ) → (from to : List ℕ) → Type 0
HasTargetCounts None from to = AllByRecursion (λ count. count ≡ 1) to
HasTargetCounts (Some axis) from to = shape_counts to ≡ shape_counts (without axis from)

abbrev pub IsGuardFit : Option GuardTree → Type 0
IsGuardFit None = ⊤
IsGuardFit (Some guard) = AllByRecursion IsNormalLink guard.reads

abbrev pub AreExitsFit : List ExitTree → Type 0
AreExitsFit [] = ⊤
AreExitsFit (exit ∷ exits) = IsGuardFit exit.when × AreExitsFit exits

abbrev mutual
  -- an item, where these parameters are in force around it, the outermost first
  pub IsFit : KindTree → (around : List Parameter) → Type 0
  IsFit (task code ins outs) around = AllByRecursion IsNormalLink ins × AllByRecursion IsNormalLink outs
  IsFit (map_scope sequential params private body) around = AreFresh around params × AreFit body (around ++ params)
  IsFit (consume_scope stream element private body) around = AreFit body around
  IsFit (nested_graph inner links) around =
      AllByRecursion IsNormalLink links × IsGraphFit inner links × IsAliasFree links (graph_uses inner) × AreArrays links (graph_uses inner)
  IsFit (reduction resolution axis identity from to) around =
      IsNormalLink from × IsNormalLink to × ((values : List ℤ) → HasTargetCounts axis (span_counts from.memlet.subset.dims values) (span_counts to.memlet.subset.dims values))
  IsFit (copy from to) around = IsNormalLink from × IsNormalLink to

  pub AreFit : ItemTrees → (around : List Parameter) → Type 0
  AreFit no_item around = ⊤
  AreFit (and_item line kind items) around = IsFit kind around × AreFit items around

  pub AreStatesFit : StateTrees → Type 0
  AreStatesFit no_state = ⊤
  AreStatesFit (and_state items exits states) = (AreFit items [] × AreExitsFit exits) × AreStatesFit states

  -- a graph with these links for its arguments
  pub IsGraphFit : GraphTree → List Link → Type 0
  IsGraphFit (graph name containers arguments variables symbols states) links = HaveShapes containers 0 links × AreStatesFit states
