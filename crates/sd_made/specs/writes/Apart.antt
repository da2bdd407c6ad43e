-- Calls that write no container which they name twice, and graphs in which of two links of one container a nested graph writes neither.
use Rattle.std.specs.Prelude.{◌≡◌, List, [], ◌∷◌, Bool, true, false, ◌||◌, unwrap_or, ⊤}
use Rattle.sd_lex.specs.PlainTree.{Dimension, StatementTree, call}
use Rattle.sd_graph.specs.PlainTree.{KindTree, task, map_scope, consume_scope, nested_graph, reduction, copy, ItemTrees, no_item, and_item, StateTrees, no_state, and_state, GraphTree, graph}
use Rattle.sd_program.specs.Names.{Name, in_force}
use Rattle.sd_program.specs.Place.{Place}
use Rattle.sd_validity.specs.rules.NestedLinks.{written_of, are_unshared}
use Rattle.sd_made.specs.writes.Writes.{written_by_programs}

-- ---- calls

-- an argument whose parameter is written, or not, is none of these, or neither parameter is written
abbrev pub IsApart : (written : Bool) → Name → (parameters : List Bool) → List (Name × List Dimension) → Type 0
IsApart written name [] arguments = ⊤
IsApart written name (other ∷ parameters) [] = ⊤
IsApart written name (other ∷ parameters) (argument ∷ arguments) = (name ≡ argument.0 → (written || other) ≡ false) × IsApart written name parameters arguments

-- of two arguments that are one container neither parameter is written
abbrev pub AreApart : (parameters : List Bool) → List (Name × List Dimension) → Type 0
AreApart [] arguments = ⊤
AreApart (written ∷ parameters) [] = ⊤
AreApart (written ∷ parameters) (argument ∷ arguments) = IsApart written argument.0 parameters arguments × AreApart parameters arguments

-- a call writes none of its arguments that is another one too
abbrev pub CallsApart : Place → StatementTree → Type 0
CallsApart place (call line name arguments) = AreApart (unwrap_or (in_force (written_by_programs place.programs) name) []) arguments
CallsApart place statement = ⊤

-- ---- graphs

abbrev mutual
  pub IsKindApart : KindTree → Type 0
  IsKindApart (task code ins outs) = ⊤
  IsKindApart (map_scope sequential params private body) = AreItemsApart body
  IsKindApart (consume_scope stream element private body) = AreItemsApart body
  IsKindApart (nested_graph inner links) = (are_unshared (written_of inner) 0 links ≡ true) × IsGraphApart inner
  IsKindApart (reduction resolution axis identity from to) = ⊤
  IsKindApart (copy from to) = ⊤

  pub AreItemsApart : ItemTrees → Type 0
  AreItemsApart no_item = ⊤
  AreItemsApart (and_item line kind items) = IsKindApart kind × AreItemsApart items

  pub AreStatesApart : StateTrees → Type 0
  AreStatesApart no_state = ⊤
  AreStatesApart (and_state items exits states) = AreItemsApart items × AreStatesApart states

  -- of two links of one container a nested graph writes neither; so it is in each state of a graph, and in the graphs nested in it
  pub IsGraphApart : GraphTree → Type 0
  IsGraphApart (graph name containers arguments variables symbols states) = AreStatesApart states
