-- Maps of tasklets that begin.
use Rattle.std.proofs.Common.{◌≡◌, ℕ, zero, suc, ◌+◌, ◌<◌, ℤ, List, [], ◌∷◌, map, length, replicate, drop, get_or, None, Some, Bool, true, false, refl, sym, ap, ap₂, ◌∙◌, subst, arith}
use Rattle.std.proofs.lemmas.List.{get_or-drop, drop_more}
use Rattle.std.specs.declared.option.Option.{Option}
use Rattle.sd_range.specs.declared.range.Range.{Range}
use Rattle.sd_range.specs.Points.{points, ranges_of}
use Rattle.sd_work.specs.Residual.{leaf, list, Items}
use Rattle.sd_graph.specs.PlainTree.{KindTree, task, map_scope, consume_scope, nested_graph, reduction, copy, TaskletTree, and_item}
use Rattle.sd_graph.specs.TreeFold.{PlainItem, item_tree, item_trees, kind_tree}
use Rattle.sd_graph.specs.Context.{Context, place_at}
use Rattle.sd_graph.specs.Unfold.{at_point, task_of, unfold_kind}
use Rattle.sd_graph.specs.Wiring.{before}
use Rattle.sd_graph.specs.declared.graph.Item.{Item}
use Rattle.sd_graph.specs.declared.graph.ItemKind.TheViews.{out-Item}
use Rattle.sd_graph.specs.declared.link.Link.{Link}
use Rattle.sd_leaves.specs.leaves.Done.{evaluation_of}
use Rattle.sd_leaves.specs.moves.Left.{instance_left}
use Rattle.sd_leaves.specs.declared.moves.instance.Instance.{Instance}
use Rattle.sd_order.specs.table.Told.{told}
use Rattle.sd_left.specs.tree.Standing.{ItemLeft, parts_left}
use Rattle.sd_left.specs.tree.Begun.{AreBegun, ArePointsBegun}
use Rattle.sd_left.specs.declared.sparse.point.Begun.{Begun}
use Rattle.sd_left.specs.declared.sparse.point.Tasks.{Tasks}
use Rattle.sd_left.specs.sparse.Terms.{task_left, body_at, placed_from, bodies_at}
use Rattle.sd_left.proofs.tree_lemmas.Begins.{items-begin}
use Rattle.sd_fire.proofs.begin_lemmas.ItemKinds.{item_opened}
use Rattle.sd_fire.specs.sparse.Tasklets.{and_tasks, are_tasks}

-- a tasklet that has not begun does what its item unfolds to
is-task : (kind : KindTree) (others : Bool) → and_tasks kind others ≡ true → ((line : ℕ) (context : Context) → task_left None kind line context ≡ unfold_kind kind line context) × (others ≡ true)
is-task (task code ins outs) others is = (λ line context. refl, is)
is-task (map_scope sequential params private body) others is = absurd (let no : false ≡ true = is in cc)
is-task (consume_scope stream element private body) others is = absurd (let no : false ≡ true = is in cc)
is-task (nested_graph inner links) others is = absurd (let no : false ≡ true = is in cc)
is-task (reduction resolution axis identity from to) others is = absurd (let no : false ≡ true = is in cc)
is-task (copy from to) others is = absurd (let no : false ≡ true = is in cc)

pub fresh-begun : (items : List Item) (context : Context) → are_tasks (item_trees items) ≡ true → AreBegun (map task_left (replicate (length items) None)) (item_trees items) context
fresh-begun [] context are = tt
fresh-begun (item ∷ items) context are =
    let is = is-task (item_tree item).1 (are_tasks (item_trees items)) are in
    (is.0 (item_tree item).0 context, fresh-begun items context is.1)

-- where both begin, they are the same work
pub fresh-same : (items : List Item) (context : Context) (count : ℕ) (others : List ItemLeft) → are_tasks (item_trees items) ≡ true → length items ≡ count → AreBegun others (item_trees items) context
    → parts_left others (item_trees items) context ≡ parts_left (map task_left (replicate count None)) (item_trees items) context
fresh-same items context count others are long begun =
    items-begin others (item_trees items) context begun
    ∙ sym (items-begin (map task_left (replicate count None)) (item_trees items) context (subst (λ (n : ℕ). AreBegun (map task_left (replicate n None)) (item_trees items) context) long (fresh-begun items context are)))

module _ (sequential : Bool) (params : List (ℕ × Range)) (private : List ℕ) (items : List Item) (context : Context) (tasks : Tasks)
    (are : are_tasks (item_trees items) ≡ true) (long : tasks.count ≡ length items) (ordered : told tasks.order ≡ before context.containers (item_trees items)) where
  abbrev every : List (List ℤ)
  every = points (ranges_of params) context.values

  abbrev scope : KindTree
  scope = map_scope sequential params private (item_trees items)

  some-begun : (left : List (List ℤ)) (start : ℕ) → left ≡ drop start every
      → ArePointsBegun params private (item_trees items) context left (map (body_at tasks scope context) (placed_from start (replicate {A = Option Begun} (length left) None)))
  some-begun [] start is = tt
  some-begun (at ∷ left) start is =
      let plain : start + 0 ≡ start = omega arith in
      let here : get_or every start [] ≡ at =
      sym (ap (λ (n : ℕ). get_or every n []) plain) ∙ sym (get_or-drop start every 0 []) ∙ sym (ap (λ (ps : List (List ℤ)). get_or ps 0 []) is) in
      let more : drop 1 (drop start every) ≡ drop (suc start) every = drop-drop start every in
      let there = at_point context params private at in (
        record {
          at = here;
          own = refl;
          begun = ap₂ (λ (numbers : List ℤ) (order : ℕ → ℕ → Bool). list Items order (parts_left (map task_left (replicate tasks.count None)) (item_trees items) there)) here ordered
              ∙ ap (list Items (before context.containers (item_trees items))) (items-begin (map task_left (replicate tasks.count None)) (item_trees items) there
              (subst (λ (n : ℕ). AreBegun (map task_left (replicate n None)) (item_trees items) there) (sym long) (fresh-begun items there are)));
        },
        some-begun left (suc start) (ap (drop 1) is ∙ more),
      )
    where
      drop-drop : {A : Type 0} (n : ℕ) (xs : List A) → drop 1 (drop n xs) ≡ drop (suc n) xs
      drop-drop zero xs = refl
      drop-drop (suc n) [] = refl
      drop-drop (suc n) (x ∷ xs) = drop-drop n xs

  pub points-begun : ArePointsBegun params private (item_trees items) context every (bodies_at tasks (replicate (length every) None) scope context)
  points-begun = some-begun every 0 refl

opened : (items : List Item) (index : ℕ) (item : Item) → index < length items → item ≡ get_or items index item
    → item_trees (drop index items) ≡ and_item (out-Item item).line (kind_tree (out-Item item).kind) (item_trees (drop (index + 1) items))
opened items index item within is =
    ap item_trees (drop_more items index item within)
    ∙ ap (λ (i : Item). item_trees (i ∷ drop (index + 1) items)) (sym is)
    ∙ ap (λ (first : PlainItem). and_item first.0 first.1 (item_trees (drop (index + 1) items))) (item_opened item)

-- a tasklet more
pub tasks-on : (items : List Item) (index : ℕ) (item : Item) (code : TaskletTree) (ins outs : List Link) (all : Bool) → index < length items → item ≡ get_or items index item
    → kind_tree (out-Item item).kind ≡ task code ins outs → are_tasks (item_trees (drop index items)) ≡ all → are_tasks (item_trees (drop (index + 1) items)) ≡ all
tasks-on items index item code ins outs all within is kind so_far =
    sym (ap are_tasks (opened items index item within is) ∙ ap (λ (k : KindTree). and_tasks k (are_tasks (item_trees (drop (index + 1) items)))) kind) ∙ so_far

pub task-begun : (kind : KindTree) (code : TaskletTree) (ins outs : List Link) (line : ℕ) (context : Context) (instance : Instance) → kind ≡ task code ins outs
    → instance_left (evaluation_of context code ins outs) instance ≡ task_of context code ins outs → task_left (Some instance) kind line context ≡ unfold_kind kind line context
task-begun kind code ins outs line context instance is begun =
    subst (λ (k : KindTree). task_left (Some instance) k line context ≡ unfold_kind k line context) (sym is) (ap (leaf (place_at context line)) begun)

-- tasklets that have begun, told
pub told-some : (all : List Instance) → map task_left (map Some all) ≡ map (λ instance. task_left (Some instance)) all
told-some [] = refl
told-some (instance ∷ all) = ap (λ (rest : List ItemLeft). task_left (Some instance) ∷ rest) (told-some all)
