-- Each line that is accepted keeps that no call writes an argument that is another one too.
use Rattle.std.proofs.Common.{◌≡◌, ℕ, List, [], ◌∷◌, ◌++◌, map, reverse, Bool, refl, ap, sym, ◌∙◌, subst}
use Rattle.std.specs.Bool.{⊤}
use Rattle.std.specs.List.{AllByRecursion}
use Rattle.sd_lex.specs.PlainTree.{Expressions, StatementTree, argument_array, FunctionTree}
use Rattle.sd_lex.specs.TreeFold.{block_listed}
use Rattle.sd_range.specs.declared.affine.Affine.{Affine}
use Rattle.sd_line.specs.line.Head.{HeadTree, symbol_line, program_head, statement_head, reduce_head, input_head, output_head, consume_head}
use Rattle.sd_names.specs.Names.{Name}
use Rattle.sd_context.specs.context.Context.{Context}
use Rattle.sd_context.specs.context.After.{context_after}
use Rattle.sd_context.specs.context.Declaring.{names_behind}
use Rattle.sd_context.specs.context.Writing.{statement_writes, noted_all}
use Rattle.sd_program.specs.Every.{Every, EveryOf}
use Rattle.sd_program.specs.Names.{Named}
use Rattle.sd_read.proofs.readable_lemmas.kept.Heads.{Fits}
use Rattle.sd_read.proofs.readable_lemmas.kept.Steps.{IsAccepted}
use Rattle.sd_read.proofs.readable_lemmas.kept.Trees.{all-more}
use Rattle.sd_made.specs.writes.Writes.{parameter_names, written_by_programs}
use Rattle.sd_made_valid.proofs.read_shapes_lemmas.Signatures.{AreTold, line_told}
use Rattle.sd_made_valid.proofs.read_shapes_lemmas.Noted.{names_still, all_noted}
use Rattle.sd_made_valid.proofs.read_shapes_lemmas.Blocks.{BlocksHold, blocks_so, blocks_more, consumer_held}
use Rattle.sd_made_valid.proofs.read_shapes_lemmas.Passed.{no_argument, IsPassed, statement_passed, same_names, statement_blocks}
use Rattle.sd_made_valid.proofs.apart_lemmas.Calls.{Tells, IsApartCall, own_written, IsGood, said_good}

abbrev pub first_of : Name × List Affine → Name
first_of parameter = parameter.0

abbrev pub AreFunctionsApart : List FunctionTree → Type 0
AreFunctionsApart [] = ⊤
AreFunctionsApart (function ∷ above) = EveryOf (IsApartCall (written_by_programs above)) function × AreFunctionsApart above

-- so it is of all that was read
pub record AreApartSoFar (context : Context) : Type 0 where
  pub blocks : BlocksHold (IsGood (written_by_programs (reverse context.functions)) context.written) (context.block ∷ context.outer)
  pub told : AreTold (Tells (reverse context.functions)) context.names.meanings
  pub parameters : map first_of context.parameters ≡ parameter_names (block_listed context.arguments)
  pub arguments : AllByRecursion (Every (IsApartCall (written_by_programs (reverse context.functions)))) context.arguments
  pub functions : AreFunctionsApart (reverse context.functions)

-- behind a line
passed_apart : (context after : Context) (more : List Name) → IsPassed context after more → AreApartSoFar context → AreTold (Tells (reverse context.functions)) after.names.meanings →
    (let Holds = IsGood (written_by_programs (reverse context.functions)) (noted_all context.written more) in BlocksHold Holds (context.block ∷ context.outer) → BlocksHold Holds (after.block ∷ after.outer)) →
    AreApartSoFar after
passed_apart context after more passed good told so =
    let programs : Named (List Bool) = written_by_programs (reverse context.functions) in
    let all = so (blocks_so (IsGood programs context.written) (IsGood programs (noted_all context.written more))
    (λ s holds. (names_still more context.written (own_written programs s) holds.0, holds.1)) (context.block ∷ context.outer) good.blocks) in
    record {
      blocks = subst (λ functions. BlocksHold (IsGood (written_by_programs (reverse functions)) after.written) (after.block ∷ after.outer)) (sym passed.functions)
          (subst (λ written. BlocksHold (IsGood programs written) (after.block ∷ after.outer)) (sym passed.written) all);
      told = subst (λ functions. AreTold (Tells (reverse functions)) after.names.meanings) (sym passed.functions) told;
      parameters = ap (map first_of) passed.parameters ∙ good.parameters ∙ sym (ap (λ arguments. parameter_names (block_listed arguments)) passed.arguments);
      arguments = subst (λ functions. AllByRecursion (Every (IsApartCall (written_by_programs (reverse functions)))) after.arguments) (sym passed.functions)
          (subst (AllByRecursion (Every (IsApartCall programs))) (sym passed.arguments) good.arguments);
      functions = subst (λ functions. AreFunctionsApart (reverse functions)) (sym passed.functions) good.functions;
    }

-- ---- lines

module _ (context : Context) (line : ℕ) (scoped : Bool) (good : AreApartSoFar context) where
  abbrev programs : Named (List Bool)
  programs = written_by_programs (reverse context.functions)

  told_behind : (head : HeadTree) → AreTold (Tells (reverse context.functions)) (names_behind context.names scoped head).meanings
  told_behind head = line_told (Tells (reverse context.functions)) context.names scoped head good.told

  statement_apart : (s : StatementTree) → Fits context.block.kind (statement_head s) → IsAccepted context (statement_head s) → AreApartSoFar (context_after context line scoped (statement_head s))
  statement_apart s fit accepted' =
      passed_apart context (context_after context line scoped (statement_head s)) (statement_writes context.names s) (statement_passed context line scoped s (no_argument context.block.kind s fit)) good
      (subst (λ names. AreTold (Tells (reverse context.functions)) names.meanings) (sym (same_names context line scoped s)) (told_behind (statement_head s)))
      (statement_blocks (IsGood programs (noted_all context.written (statement_writes context.names s))) context line scoped s fit (said_good context s fit accepted' good.told))

  pub line_apart : (head : HeadTree) → Fits context.block.kind head → IsAccepted context head → AreApartSoFar (context_after context line scoped head)
  line_apart (symbol_line name quoted) fit accepted' = record { blocks = good.blocks; told = told_behind (symbol_line name quoted); parameters = good.parameters; arguments = good.arguments; functions = good.functions }
  line_apart (program_head name arguments) fit accepted' = record { blocks = tt; told = told_behind (program_head name arguments); parameters = refl; arguments = tt; functions = good.functions }
  line_apart (statement_head s) fit accepted' = statement_apart s fit accepted'
  line_apart (reduce_head lambda from to axis identity) fit accepted' =
      passed_apart context (context_after context line scoped (reduce_head lambda from to axis identity)) (to ∷ []) (record { symbols = refl; functions = refl; written = refl; parameters = refl; arguments = refl }) good
      (told_behind (reduce_head lambda from to axis identity)) (λ all. blocks_more (IsGood programs (noted_all context.written (to ∷ []))) context.block context.outer (_ ∷ []) ((all_noted (to ∷ []) context.written, tt), tt) all)
  line_apart (input_head connector memlet) fit accepted' =
      passed_apart context (context_after context line scoped (input_head connector memlet)) [] (record { symbols = refl; functions = refl; written = refl; parameters = refl; arguments = refl }) good
      (told_behind (input_head connector memlet)) (λ all. blocks_more (IsGood programs context.written) context.block context.outer (_ ∷ []) ((tt, tt), tt) all)
  line_apart (output_head connector memlet) fit accepted' =
      passed_apart context (context_after context line scoped (output_head connector memlet)) (memlet.name ∷ []) (record { symbols = refl; functions = refl; written = refl; parameters = refl; arguments = refl }) good
      (told_behind (output_head connector memlet)) (λ all. blocks_more (IsGood programs (noted_all context.written (memlet.name ∷ []))) context.block context.outer (_ ∷ []) ((all_noted (memlet.name ∷ []) context.written, tt), tt) all)
  line_apart (consume_head name element worker) fit accepted' = record {
    blocks = consumer_held (IsGood programs context.written) _ context.awaited name element worker (BlocksHold (IsGood programs context.written) (context.block ∷ context.outer)) (λ line stream size is. (tt, tt)) good.blocks;
    told = told_behind (consume_head name element worker);
    parameters = good.parameters;
    arguments = good.arguments;
    functions = good.functions;
  }
  line_apart head fit accepted' = record { blocks = good.blocks; told = good.told; parameters = good.parameters; arguments = good.arguments; functions = good.functions }

-- ---- an argument of a program

names_joined : (arguments : List StatementTree) (line : ℕ) (name : Name) (bits : ℕ) (extents : Expressions) →
    parameter_names (block_listed (arguments ++ argument_array line name bits extents ∷ [])) ≡ parameter_names (block_listed arguments) ++ name ∷ []
names_joined [] line name bits extents = refl
names_joined (argument_array at other bits' extents' ∷ arguments) line name bits extents = ap (λ rest. other ∷ rest) (names_joined arguments line name bits extents)
names_joined (s ∷ arguments) line name bits extents = names_joined arguments line name bits extents

firsts_joined : (parameters : List (Name × List Affine)) (name : Name) (extents : List Affine) → map first_of (parameters ++ (name, extents) ∷ []) ≡ map first_of parameters ++ name ∷ []
firsts_joined [] name extents = refl
firsts_joined (parameter ∷ parameters) name extents = ap (λ rest. parameter.0 ∷ rest) (firsts_joined parameters name extents)

pub argument_apart : (context : Context) (line : ℕ) (scoped : Bool) (at : ℕ) (name : Name) (bits : ℕ) (extents : Expressions) → AreApartSoFar context → AreApartSoFar (context_after context line scoped (statement_head (argument_array at name bits extents)))
argument_apart context line scoped at name bits extents good = record {
  blocks = good.blocks;
  told = good.told;
  parameters = firsts_joined context.parameters name _ ∙ ap (λ names. names ++ name ∷ []) good.parameters ∙ sym (names_joined context.arguments at name bits extents);
  arguments = all-more (Every (IsApartCall (written_by_programs (reverse context.functions)))) context.arguments (argument_array at name bits extents) good.arguments tt;
  functions = good.functions;
}
