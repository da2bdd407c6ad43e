-- The parameters of maps are of the levels of the maps, and their ranges name variables of lower ones.
use Rattle.std.proofs.Common.{◌≡◌, ℕ, ◌+◌, ◌<◌, ◌≤◌, ℤ, List, [], ◌∷◌, map, length, replicate, Bool, true, false, cond, ◌&&◌, refl, subst, arith}
use Rattle.std.specs.Prelude.{⊤}
use Rattle.std.specs.List.{AllByRecursion, flat_map}
use Rattle.std.proofs.lemmas.List.{length-replicate}
use Rattle.sd_range.specs.declared.affine.Affine.{Affine}
use Rattle.sd_range.specs.declared.range.Range.{Range}
use Rattle.sd_lex.specs.PlainTree.{Dimension, StatementTree, local_array, local_stream, assign, copy, reduce, map_scope, tasklet, consume_scope, call, Block, no_statement, and_statement}
use Rattle.sd_lex.specs.StatementKind.{has_connector}
use Rattle.sd_graph.specs.PlainTree as plain
use Rattle.sd_graph.specs.PlainTree.{KindTree, ItemTrees, no_item, and_item, GraphTree}
use Rattle.sd_program.specs.Names.{Name, Named}
use Rattle.sd_program.specs.Declared.{containers_in}
use Rattle.sd_program.specs.Limits.{HasFewParameters, HasFewAbout}
use Rattle.sd_program.specs.Place.{Place, in_map, in_consume, past, EveryAt, EveryFrom}
use Rattle.sd_task.specs.in_force.Ranges.{range_of, parameters_of}
use Rattle.sd_task.specs.task.Table.{Table, with_container, with_variables}
use Rattle.sd_task.specs.tasklets.Item.{task_with, inputs_of, outputs_of}
use Rattle.sd_elab.specs.items.Counts.{variables_in}
use Rattle.sd_elab.specs.items.NamesBehind.{table_behind}
use Rattle.sd_elab.specs.items.Items.{taken_link, items_with, items_of_body}
use Rattle.sd_validity.specs.rules.Shapes.{variables_in as variables_of_affine}
use Rattle.sd_validity.specs.rules.Ranks.{Naming, param_naming, range_variables}
use Rattle.sd_made.proofs.elab_lemmas.ContainersMade.{holds_here}
use Rattle.sd_read.specs.blocks.Blocks.{IsWritten, HasBlock, HasOtherEnd}
use Rattle.sd_validity.specs.levels.Levels.{IsSizeOrLower, IsLowerBesideSizes}
use Rattle.sd_validity.proofs.levels_lemmas.Named.{joined}
use Rattle.sd_made.proofs.places_lemmas.Named.{InAffine, InRange, range_named}
use Rattle.sd_made_valid.proofs.ranks_lemmas.Levels.{levels_of, levels_of_all, one_counted, AreFrom, from_both, all_at}
use Rattle.sd_made_valid.proofs.ranks_lemmas.Below.{AreBelow, named_by, below_deeper, below_more}

-- ---- what is given of each statement

abbrev pub Given : Place → StatementTree → Type 0
Given place statement = (HasFewAbout place statement × HasFewParameters statement) × (HasBlock statement × HasOtherEnd statement)

-- at most seven scopes and loops are about a block that is not empty
pub block_depth : (place : Place) (body : Block) → IsWritten body → EveryFrom Given place body → place.depth ≤ 7
block_depth place no_statement written given = absurd written
block_depth place (and_statement first rest) written given = (holds_here Given place first given.0).0.0

-- ---- the variables of ranges

module _ (P : ℕ → Type 0) where
  terms_listed : (terms : List (ℕ × ℤ)) → AllByRecursion (λ term. P term.0) terms → AllByRecursion P (map (λ term. term.0) terms)
  terms_listed [] all = tt
  terms_listed (term ∷ terms) all = (all.0, terms_listed terms all.1)

  pub affine_listed : (a : Affine) → InAffine P a → AllByRecursion P (variables_of_affine a)
  affine_listed a is = terms_listed a.terms is

  affines_listed : (affines : List Affine) → AllByRecursion (InAffine P) affines → AllByRecursion P (flat_map variables_of_affine affines)
  affines_listed [] all = tt
  affines_listed (a ∷ affines) all = joined P (variables_of_affine a) (flat_map variables_of_affine affines) (affine_listed a all.0) (affines_listed affines all.1)

  range_listed : (range : Range) → InRange P range → AllByRecursion P (range_variables range)
  range_listed range is = affines_listed (range.begin ∷ range.ends) is

-- ---- items

-- with so many size symbols
module _ (symbols : ℕ) (level : ℕ → ℕ) where
  abbrev pub Lower : Naming → Type 0
  Lower = IsLowerBesideSizes symbols level

  -- a parameter of a level below seven, with those that its range names
  abbrev pub IsRightParam : ℕ × Range → Type 0
  IsRightParam param = (level param.0 < 7) × Lower (param_naming param)

  abbrev mutual
    pub KindRight : KindTree → Type 0
    KindRight (plain.task code ins outs) = ⊤
    KindRight (plain.map_scope sequential params private body) = AllByRecursion IsRightParam params × ItemsRight body
    KindRight (plain.consume_scope stream element private body) = ItemsRight body
    KindRight (plain.nested_graph inner links) = ⊤
    KindRight (plain.reduction resolution axis identity from to) = ⊤
    KindRight (plain.copy from to) = ⊤

    pub ItemsRight : ItemTrees → Type 0
    ItemsRight no_item = ⊤
    ItemsRight (and_item line kind items) = KindRight kind × ItemsRight items

  module _ (depth : ℕ) (few : depth < 7) (numbers : Named ℕ) (are : AreBelow symbols level depth numbers) where
    param_right : (own : ℕ) (range : Dimension) → level own ≡ depth → IsRightParam (own, range_of numbers range)
    param_right own range e = (
      omega (arith, e, few),
      range_listed (IsSizeOrLower symbols level own) (range_of numbers range)
          (range_named (IsSizeOrLower symbols level own) numbers (λ name variable found. named_by symbols level depth own variable e (are name variable found)) range),
    )

    params_right : (ranges : List Dimension) (variable : ℕ) → ((number : ℕ) → variable ≤ number → number < variable + length ranges → level number ≡ depth) →
        AllByRecursion IsRightParam (parameters_of numbers ranges variable)
    params_right [] variable own = tt
    params_right (range ∷ ranges) variable own =
        (param_right variable range (own variable (omega arith) (omega arith)), params_right ranges (variable + 1) (λ number least most. own number (omega (arith, least)) (omega (arith, most))))

  either_right : (test : Bool) (one other : KindTree) → KindRight one → KindRight other → KindRight (cond test one other)
  either_right true one other is others = is
  either_right false one other is others = others

  -- what stands in the block of a scope or a statement: its levels, and the variables in force
  abbrev pub Levels : (variable : ℕ) → List ℕ → Type 0
  Levels variable levels = AreFrom level variable levels

  abbrev pub Below : (depth : ℕ) → Table → Type 0
  Below depth table = AreBelow symbols level depth table.variables

  below_behind : (statement : StatementTree) (container depth : ℕ) (table : Table) → Below depth table → Below depth (table_behind statement container table)
  below_behind statement container depth table are = subst (AreBelow symbols level depth) (same statement) are where
    same : (statement : StatementTree) → table.variables ≡ (table_behind statement container table).variables
    same (local_array line name extents bits) = refl
    same (local_stream line name bits size) = refl
    same statement = refl

  module _ (graphs : Name → GraphTree) where
    consumed_right : (is_task : Bool) (line : ℕ) (element : Name) (body : Block) (table : Table) (container variable : ℕ) (place : Place) → EveryFrom Given (in_consume is_task element place) body →
        (EveryFrom Given (in_consume false element place) body → ItemsRight (items_of_body graphs body (with_container element container table) (container + 1) variable)) →
        ItemsRight
        (cond is_task (and_item line (task_with table (taken_link element container ∷ inputs_of table body) (outputs_of table body) body) no_item)
        (items_of_body graphs body (with_container element container table) (container + 1) variable))
    consumed_right true line element body table container variable place given of_body = (tt, tt)
    consumed_right false line element body table container variable place given of_body = of_body given

    mutual
      pub item_right : (statement : StatementTree) (in_scope : Bool) (table : Table) (container variable : ℕ) (rest : ItemTrees) (place : Place) → EveryAt Given place statement →
          Levels variable (levels_of statement place.depth) → Below place.depth table → ItemsRight rest → ItemsRight (items_with graphs statement in_scope table container variable rest)
      item_right (assign line name at add value) in_scope table container variable rest place given levels below others = (either_right (add && in_scope) _ _ tt tt, others)
      item_right (copy line to to_dimensions from from_dimensions) in_scope table container variable rest place given levels below others = (tt, others)
      item_right (reduce line lambda from to axis identity) in_scope table container variable rest place given levels below others = (tt, others)
      item_right (map_scope line parameters ranges body) in_scope table container variable rest place given levels below others =
          let few : place.depth + 1 ≤ 7 = block_depth (in_map place) body given.0.1.0 given.1 in
          let counted : length parameters ≡ length ranges = given.0.0.1.0 in
          let next : variable + length (replicate (length parameters) place.depth) ≡ variable + length parameters = omega (arith, length-replicate (length parameters) place.depth) in
          let both : Levels variable (replicate (length parameters) place.depth) × Levels (variable + length parameters) (levels_of_all body (place.depth + 1)) =
          from_both level (replicate (length parameters) place.depth) (levels_of_all body (place.depth + 1)) variable (variable + length parameters) next levels in
          let own : (number : ℕ) → variable ≤ number → number < variable + length parameters → level number ≡ place.depth =
          λ number least most. all_at level (length parameters) place.depth variable number both.0 least most in (
            (
              params_right place.depth (omega (arith, few)) table.variables below ranges variable (λ number least most. own number least (omega (arith, most, counted))),
              body_right body (with_variables parameters variable table) container (variable + length parameters) (in_map place) given.1 both.1
                  (below_more symbols level parameters variable place.depth table.variables own below),
            ),
            others,
          )
      item_right (tasklet line body) in_scope table container variable rest place given levels below others = (tt, others)
      item_right (consume_scope line stream size name element worker body) in_scope table container variable rest place given levels below others = (
        consumed_right (has_connector body) line element body table container variable place given.1
            (λ given. body_right body (with_container element container table) (container + 1) variable (in_consume false element place) given levels
            (below_deeper symbols level place.depth table.variables below)),
        others,
      )
      item_right (call line name arguments) in_scope table container variable rest place given levels below others = (tt, others)
      item_right statement in_scope table container variable rest place given levels below others = others

      body_right : (body : Block) (table : Table) (container variable : ℕ) (place : Place) → EveryFrom Given place body → Levels variable (levels_of_all body place.depth) → Below place.depth table →
          ItemsRight (items_of_body graphs body table container variable)
      body_right no_statement table container variable place given levels below = tt
      body_right (and_statement first rest) table container variable place given levels below =
          let next : variable + length (levels_of first place.depth) ≡ variable + variables_in first = omega (arith, one_counted first place.depth) in
          let both : Levels variable (levels_of first place.depth) × Levels (variable + variables_in first) (levels_of_all rest place.depth) =
          from_both level (levels_of first place.depth) (levels_of_all rest place.depth) variable (variable + variables_in first) next levels in
          item_right first true table container variable _ place given.0 both.0 below
          (body_right rest (table_behind first container table) (container + containers_in first) (variable + variables_in first) (past first place) given.1 both.1
          (below_behind first container place.depth table below))
