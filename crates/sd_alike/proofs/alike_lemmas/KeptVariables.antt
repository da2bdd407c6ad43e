-- A rewritten graph names its own variables alone, as the old one.
use Rattle.std.proofs.Common.{◌≡◌, ℕ, zero, suc, ◌+◌, ◌<◌, ◌≤◌, ℤ, List, [], ◌∷◌, ◌++◌, length, Option, Some, None, Bool, true, false, if◌then◌else◌, refl, subst, arith}
use Rattle.std.specs.List.{AllByRecursion}
use Rattle.sd_range.specs.declared.affine.Affine.{Affine}
use Rattle.sd_range.specs.declared.range.Range.{Range}
use Rattle.sd_range.specs.declared.subset.Dim.{Dim}
use Rattle.sd_range.specs.declared.subset.Dim.TheVariants.{Index, Span}
use Rattle.sd_graph.specs.PlainTree.{KindTree, task, map_scope, consume_scope, nested_graph, reduction, copy, ItemTrees, no_item, and_item, StateTrees, no_state, and_state, GraphTree, graph, GuardTree, ExitTree}
use Rattle.sd_graph.specs.declared.link.Link.{Link}
use Rattle.sd_alike.specs.alike.Alike.{AffineBelow, RangeBelow, DimBelow, LinkBelow, GuardBelow, ExitBelow, KindBelow, ItemsBelow, StatesBelow, NamesItsVariables}
use Rattle.sd_alike.specs.alike.Places.{Replacing, items_then, kind_nests, items_nest, states_nest, kind_with, items_with, states_with, graph_with, KindLeads, ItemsLead, StatesLead, GraphLeads}
use Rattle.sd_alike.specs.alike.Rewritten.{ReplacesBelow}

all_by : {A : Type 0} (P Q : A → Type 0) → ((x : A) → P x → Q x) → (xs : List A) → AllByRecursion P xs → AllByRecursion Q xs
all_by P Q h [] all = tt
all_by P Q h (x ∷ xs) all = (h x all.0, all_by P Q h xs all.1)

module _ (count more : ℕ) (up : count ≤ more) where
  below_more : (variable : ℕ) → variable < count → variable < more
  below_more variable below = omega (arith, up, below)

  affine_more : (a : Affine) → AffineBelow count a → AffineBelow more a
  affine_more a below = all_by {A = ℕ × ℤ} (λ term. term.0 < count) (λ term. term.0 < more) (λ term. below_more term.0) a.terms below

  range_more : (range : Range) → RangeBelow count range → RangeBelow more range
  range_more range below = (affine_more range.begin below.0, all_by (AffineBelow count) (AffineBelow more) affine_more range.ends below.1)

  dim_more : (dim : Dim) → DimBelow count dim → DimBelow more dim
  dim_more (Index at) below = affine_more at below
  dim_more (Span range) below = range_more range below

  link_more : (link : Link) → LinkBelow count link → LinkBelow more link
  link_more link below = all_by (DimBelow count) (DimBelow more) dim_more link.memlet.subset.dims below

  links_more : (links : List Link) → AllByRecursion (LinkBelow count) links → AllByRecursion (LinkBelow more) links
  links_more links below = all_by (LinkBelow count) (LinkBelow more) link_more links below

  numbers_more : (numbers : List ℕ) → AllByRecursion (λ variable. variable < count) numbers → AllByRecursion (λ variable. variable < more) numbers
  numbers_more numbers below = all_by (λ variable. variable < count) (λ variable. variable < more) below_more numbers below

  guard_more : (when : Option GuardTree) → GuardBelow count when → GuardBelow more when
  guard_more None below = tt
  guard_more (Some guard) below = (links_more guard.reads below.0, numbers_more guard.code.variables below.1)

  exit_more : (exit : ExitTree) → ExitBelow count exit → ExitBelow more exit
  exit_more exit below =
      (guard_more exit.when below.0, all_by {A = ℕ × Affine} (λ assignment. AffineBelow count assignment.1) (λ assignment. AffineBelow more assignment.1) (λ assignment. affine_more assignment.1) exit.set below.1)

  exits_more : (exits : List ExitTree) → AllByRecursion (ExitBelow count) exits → AllByRecursion (ExitBelow more) exits
  exits_more exits below = all_by (ExitBelow count) (ExitBelow more) exit_more exits below

  pub ranges_more : (params : List (ℕ × Range)) → AllByRecursion (λ param. RangeBelow count param.1) params → AllByRecursion (λ param. RangeBelow more param.1) params
  ranges_more params below = all_by {A = ℕ × Range} (λ param. RangeBelow count param.1) (λ param. RangeBelow more param.1) (λ param. range_more param.1) params below

  mutual
    pub kind_more : (kind : KindTree) → KindBelow count kind → KindBelow more kind
    kind_more (task code ins outs) below = (numbers_more code.variables below.0, (links_more ins below.1.0, links_more outs below.1.1))
    kind_more (map_scope sequential params private body) below = (ranges_more params below.0, items_more body below.1)
    kind_more (consume_scope stream element private body) below = items_more body below
    kind_more (nested_graph inner links) below = (below.0, links_more links below.1)
    kind_more (reduction resolution axis identity from to) below = (link_more from below.0, link_more to below.1)
    kind_more (copy from to) below = (link_more from below.0, link_more to below.1)

    pub items_more : (items : ItemTrees) → ItemsBelow count items → ItemsBelow more items
    items_more no_item below = tt
    items_more (and_item line kind items) below = (kind_more kind below.0, items_more items below.1)

  pub states_more : (states : StateTrees) → StatesBelow count states → StatesBelow more states
  states_more no_state below = tt
  states_more (and_state items exits states) below = (items_more items below.0, (exits_more exits below.1.0, states_more states below.1.1))

then_below : (count : ℕ) (items others : ItemTrees) → ItemsBelow count items → ItemsBelow count others → ItemsBelow count (items_then items others)
then_below count no_item others below also_below = also_below
then_below count (and_item line kind items) others below also_below = (below.0, then_below count items others below.1 also_below)

-- how many variables a graph has then
abbrev count_after : (nests : Bool) → (count added : ℕ) → ℕ
count_after nests count added = if nests then count else count + added

not_less : (nests : Bool) (count added : ℕ) → count ≤ count_after nests count added
not_less true count added = omega arith
not_less false count added = omega arith

length_after : (nests : Bool) (variables names : List (List ℕ)) → count_after nests (length variables) (length names) ≡ length (if nests then variables else variables ++ names)
length_after true variables names = refl
length_after false variables names = length_both variables
  where
    length_both : (variables : List (List ℕ)) → length variables + length names ≡ length (variables ++ names)
    length_both [] = omega arith
    length_both (variable ∷ variables) = let both : length variables + length names ≡ length (variables ++ names) = length_both variables in omega (arith, both)

module _ (Holds : ℕ → KindTree → Type 0) (replacing : Replacing) (names : List (List ℕ)) (replaces : ReplacesBelow Holds replacing (length names)) where
  abbrev after : (nests : Bool) → ℕ → ℕ
  after nests count = count_after nests count (length names)

  mutual
    kind_kept : (kind : KindTree) (path : List ℕ) (count : ℕ) → KindLeads Holds count kind path → KindBelow count kind → KindBelow (after (kind_nests kind path) count) (kind_with replacing names count kind path)
    kind_kept (task code ins outs) path count leads below = elim leads [ ]
    kind_kept (map_scope sequential params private body) path count leads below = (ranges_more count (after (items_nest body path) count) (not_less (items_nest body path) count (length names)) params below.0, items_kept body path count leads below.1)
    kind_kept (consume_scope stream element private body) path count leads below = items_kept body path count leads below
    kind_kept (nested_graph inner links) path count leads below = (graph_kept inner path leads below.0, below.1)
    kind_kept (reduction resolution axis identity from to) path count leads below = elim leads [ ]
    kind_kept (copy from to) path count leads below = elim leads [ ]

    items_kept : (items : ItemTrees) (path : List ℕ) (count : ℕ) → ItemsLead Holds count items path → ItemsBelow count items → ItemsBelow (after (items_nest items path) count) (items_with replacing names count items path)
    items_kept no_item path count leads below = elim leads [ ]
    items_kept (and_item line kind items) [] count leads below = elim leads [ ]
    items_kept (and_item line kind items) (zero ∷ []) count leads below =
        then_below (after false count) (replacing count line kind) items (replaces count line kind leads below.0) (items_more count (after false count) (not_less false count (length names)) items below.1)
    items_kept (and_item line kind items) (zero ∷ next ∷ path) count leads below =
        (kind_kept kind (next ∷ path) count leads below.0, items_more count (after (kind_nests kind (next ∷ path)) count) (not_less (kind_nests kind (next ∷ path)) count (length names)) items below.1)
    items_kept (and_item line kind items) (suc number ∷ path) count leads below =
        (kind_more count (after (items_nest items (number ∷ path)) count) (not_less (items_nest items (number ∷ path)) count (length names)) kind below.0, items_kept items (number ∷ path) count leads below.1)

    states_kept : (states : StateTrees) (path : List ℕ) (count : ℕ) → StatesLead Holds count states path → StatesBelow count states → StatesBelow (after (states_nest states path) count) (states_with replacing names count states path)
    states_kept no_state path count leads below = elim leads [ ]
    states_kept (and_state items exits states) [] count leads below = elim leads [ ]
    states_kept (and_state items exits states) (zero ∷ path) count leads below =
        let more : ℕ = after (items_nest items path) count in
        let up : count ≤ more = not_less (items_nest items path) count (length names) in
        (items_kept items path count leads below.0, (exits_more count more up exits below.1.0, states_more count more up states below.1.1))
    states_kept (and_state items exits states) (suc number ∷ path) count leads below =
        let more : ℕ = after (states_nest states (number ∷ path)) count in
        let up : count ≤ more = not_less (states_nest states (number ∷ path)) count (length names) in
        (items_more count more up items below.0, (exits_more count more up exits below.1.0, states_kept states (number ∷ path) count leads below.1.1))

    pub graph_kept : (tree : GraphTree) (path : List ℕ) → GraphLeads Holds tree path → NamesItsVariables tree → NamesItsVariables (graph_with replacing names tree path)
    graph_kept (graph name containers arguments variables symbols states) path leads below =
        subst (λ count. StatesBelow count (states_with replacing names (length variables) states path)) (length_after (states_nest states path) variables names)
        (states_kept states path (length variables) leads below)
