-- What is known of shapes while a source is read.
use Rattle.std.proofs.Common.{◌≡◌, ◌⊎◌, ℕ, ◌<◌, List, [], ◌∷◌, map, reverse, true, Some, refl}
use Rattle.std.specs.Bool.{⊤}
use Rattle.std.specs.List.{AllByRecursion}
use Rattle.sd_range.specs.declared.affine.Affine.{Affine}
use Rattle.sd_lex.specs.PlainTree.{Expression, Dimension, StatementTree, argument_array, local_array, copy, reduce, map_scope, consume_scope, call, for_loop, tasklet, while_loop, branch, tasklet_branch, FunctionTree}
use Rattle.sd_lex.specs.TreeFold.{block_listed}
use Rattle.sd_names.specs.declared.meaning.Meaning.TheVariants.{Symbol}
use Rattle.sd_names.specs.Names.{Name, Names, listed, is_among}
use Rattle.sd_context.specs.context.Context.{OpenBlock, Context}
use Rattle.sd_program.specs.Names.{Named, in_force}
use Rattle.sd_read.proofs.readable_lemmas.kept.Heads.{IsFile}
use Rattle.sd_read.proofs.readable_lemmas.kept.Trees.{bare}
use Rattle.sd_made_valid.proofs.read_shapes_lemmas.Blocks.{IsOfLines, BlocksHold}
use Rattle.sd_made_valid.specs.read_shapes.Fits.{extents_written, parameter_extents, AreExtents, HaveShapes, Fits, AllFit}
use Rattle.sd_made_valid.proofs.read_shapes_lemmas.Values.{by_place}
use Rattle.sd_made_valid.proofs.read_shapes_lemmas.Said.{AreNamed}

-- the names of size symbols come before those of each open block
abbrev pub AllInside : List Name → (Name → ℕ) → List OpenBlock → Type 0
AllInside symbols place [] = ⊤
AllInside symbols place (b ∷ outer) = (IsFile b.opener ⊎ ((name : Name) → is_among symbols name ≡ true → place name < b.before.meanings)) × AllInside symbols place outer

-- the parameters so far have these extents
abbrev pub AreParameters : List Name → (Name → ℕ) → List (Name × List Affine) → List (List Expression) → Type 0
AreParameters symbols place [] [] = ⊤
AreParameters symbols place [] (extents ∷ rest) = ⊥
AreParameters symbols place (parameter ∷ parameters) [] = ⊥
AreParameters symbols place (parameter ∷ parameters) (extents ∷ rest) = (AreExtents symbols extents × (parameter.1 ≡ map (by_place place) extents)) × AreParameters symbols place parameters rest

abbrev pub ArgumentFits : List Name → Named (List Expression) → StatementTree → Type 0
ArgumentFits symbols arrays (argument_array line name bits extents) = (in_force arrays name ≡ Some (extents_written extents)) × AreExtents symbols (extents_written extents)
ArgumentFits symbols arrays s = ⊥

pub record FitBy (symbols : List Name) (functions : List FunctionTree) (parameters : List (Name × List Affine)) (arguments : List StatementTree) (names : Names) (blocks : List OpenBlock) : Type 0 where
  pub arrays : Named (List Expression)
  pub place : Name → ℕ
  pub around : BlocksHold (Fits symbols arrays (reverse functions)) blocks
  pub inside : AllInside symbols place blocks
  pub named : AreNamed names symbols place arrays (reverse functions)
  pub known : (name : Name) → listed names.meanings name ≡ Some Symbol → is_among symbols name ≡ true
  pub fresh : (name : Name) (extents : List Expression) → in_force arrays name ≡ Some extents → is_among names.declared name ≡ true
  pub given : AreParameters symbols place parameters (parameter_extents (block_listed arguments))
  pub begun : AllByRecursion (ArgumentFits symbols arrays) arguments
  pub ended : AllFit (reverse functions)

abbrev pub FitSoFar : Context → Type 0
FitSoFar context = FitBy context.symbols context.functions context.parameters context.arguments context.names (context.block ∷ context.outer)

-- ---- more arrays

abbrev pub HasMore : (arrays more : Named (List Expression)) → Type 0
HasMore arrays more = (name : Name) (extents : List Expression) → in_force arrays name ≡ Some extents → in_force more name ≡ Some extents

module _ (symbols : List Name) (arrays more : Named (List Expression)) (above : List FunctionTree) (has : HasMore arrays more) where
  shapes_more : (arguments : List (Name × List Dimension)) (parameters : List (List Expression)) → HaveShapes symbols arrays above arguments parameters → HaveShapes symbols more above arguments parameters
  shapes_more [] [] have = tt
  shapes_more [] (parameter ∷ parameters) have = absurd have
  shapes_more (argument ∷ arguments) [] have = absurd have
  shapes_more (argument ∷ arguments) (parameter ∷ parameters) have =
      ((have.0.0, (have.0.1.0, (has argument.0 have.0.1.0 have.0.1.1.0, have.0.1.1.1))), shapes_more arguments parameters have.1)

  pub fits_more : (s : StatementTree) → Fits symbols arrays above s → Fits symbols more above s
  fits_more (argument_array line name bits extents) fit = (has name (extents_written extents) fit.0, fit.1)
  fits_more (local_array line name extents bits) fit = (has name (extents_written extents) fit.0, fit.1)
  fits_more (copy line to to_dimensions from from_dimensions) fit =
      (fit.0, (fit.1.0, (fit.1.1.0, (has to fit.1.0 fit.1.1.1.0, (has from fit.1.1.0 fit.1.1.1.1.0, fit.1.1.1.1.1)))))
  fits_more (reduce line lambda from to axis identity) fit =
      (fit.0, (fit.1.0, (fit.1.1.0, (has from fit.1.0 fit.1.1.1.0, (has to fit.1.1.0 fit.1.1.1.1.0, fit.1.1.1.1.1)))))
  fits_more (map_scope line parameters ranges body) fit = fit
  fits_more (consume_scope line stream size name element worker body) fit = λ none. has element _ (fit none)
  fits_more (call line name arguments) fit = (fit.0, (fit.1.0, shapes_more arguments fit.0 fit.1.1))
  fits_more (for_loop line name begin end step body) fit = fit
  fits_more s fit = tt

  pub arguments_more : (arguments : List StatementTree) → AllByRecursion (ArgumentFits symbols arrays) arguments → AllByRecursion (ArgumentFits symbols more) arguments
  arguments_more [] all = tt
  arguments_more (s ∷ arguments) all = (one_more s all.0, arguments_more arguments all.1) where
    one_more : (s : StatementTree) → ArgumentFits symbols arrays s → ArgumentFits symbols more s
    one_more (argument_array line name bits extents) fit = (has name (extents_written extents) fit.0, fit.1)
    one_more s fit = absurd fit

module _ (symbols : List Name) (arrays : Named (List Expression)) (above : List FunctionTree) where
  fill_fits : (s : StatementTree) → Fits symbols arrays above (bare s) → Fits symbols arrays above s
  fill_fits (map_scope line parameters ranges body) fit = fit
  fill_fits (tasklet line body) fit = tt
  fill_fits (consume_scope line stream size name element worker body) fit = λ none. fit refl
  fill_fits (for_loop line name begin end step body) fit = fit
  fill_fits (while_loop line when body) fit = tt
  fill_fits (branch line when body other) fit = tt
  fill_fits (tasklet_branch line when body other) fit = tt
  fill_fits s fit = fit

  pub fits_of_lines : IsOfLines (Fits symbols arrays above)
  fits_of_lines = record {
    fill = fill_fits;
    branched = λ line when body other. tt;
    branched_inside = λ line when body other. tt;
    consumed = λ line stream size name element worker body holds none. holds none refl;
  }
