-- When a rewritten graph does the same as the old one.
use Rattle.std.specs.Prelude.{◌↔◌, ℕ, ◌+◌}
use Rattle.sd_work.specs.Memory.{Memory}
use Rattle.sd_work.specs.Residual.{none, also}
use Rattle.sd_work.specs.Step.{Done}
use Rattle.sd_work.specs.Run.{Left, Sequential}
use Rattle.sd_graph.specs.PlainTree.{KindTree, GraphTree}
use Rattle.sd_graph.specs.Context.{Context}
use Rattle.sd_graph.specs.Unfold.{unfold_kind, unfold_items, run_of}
use Rattle.sd_alike.specs.alike.Lift.{as_it_is}
use Rattle.sd_alike.specs.alike.SameWork.{DoSame}
use Rattle.sd_alike.specs.alike.Alike.{KindBelow, ItemsBelow, AreAlike}
use Rattle.sd_alike.specs.alike.Places.{Replacing}

-- what stands in the place of an item of which this holds does the same as the item, wherever it stands
abbrev pub ReplacesSame : (most : ℕ) → (ℕ → KindTree → Type 0) → Replacing → Type 0
ReplacesSame most Holds replacing =
    (variables line : ℕ) (kind : KindTree) (context other : Context) → Holds variables kind → KindBelow variables kind → AreAlike as_it_is variables context other
    → DoSame most as_it_is (also (unfold_kind kind line context) none) (unfold_items (replacing variables line kind) other)

-- it names no variables but those of the graph, of which it gets so many more
abbrev pub ReplacesBelow : (ℕ → KindTree → Type 0) → Replacing → (added : ℕ) → Type 0
ReplacesBelow Holds replacing added =
    (variables line : ℕ) (kind : KindTree) → Holds variables kind → KindBelow variables kind → ItemsBelow (variables + added) (replacing variables line kind)

-- the sequential run of one is done exactly where that of the other is, and then the memories and the turns left are equal
abbrev pub RunsSame : GraphTree → GraphTree → Type 0
RunsSame tree other = (memory : Memory) (turns : ℕ) (left : Left) → (Sequential (run_of tree memory) turns (Done left)) ↔ (Sequential (run_of other memory) turns (Done left))
