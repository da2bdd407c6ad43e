-- No call of a program that was read writes an argument that is another one too.
use Rattle.std.proofs.Common.{◌≡◌, ℕ, List, [], ◌∷◌, reverse, Bool, true, false, unwrap_or, Ok, refl, sym, subst}
use Rattle.sd_lex.specs.PlainTree.{StatementTree, map_scope, tasklet, consume_scope, call, for_loop, while_loop, branch, tasklet_branch, Block, no_statement, and_statement, FunctionTree, ProgramTree}
use Rattle.sd_lex.specs.StatementKind.{has_connector}
use Rattle.sd_source.specs.source.SourceReading.{reads}
use Rattle.sd_program.specs.Place.{Place, past, past_all, in_map, in_tasklet, in_loop, in_consume, in_signature, in_function, EveryAt, EveryFrom, EveryFunction, EveryPlace}
use Rattle.sd_program.specs.Every.{Every, EveryIn}
use Rattle.sd_program.specs.Names.{in_force}
use Rattle.sd_made_valid.proofs.read_shapes_lemmas.AtTheEnd.{read_so}
use Rattle.sd_made.specs.writes.Writes.{written_by_programs}
use Rattle.sd_made.specs.writes.Apart.{AreApart, CallsApart}
use Rattle.sd_made_valid.proofs.apart_lemmas.Calls.{IsApartCall}
use Rattle.sd_made_valid.proofs.apart_lemmas.Lines.{AreFunctionsApart, AreApartSoFar}
use Rattle.sd_made_valid.proofs.apart_lemmas.Ends.{calls_are_kept}

-- ---- statements in their places

module _ (above : List FunctionTree) where
  consumed : (is_task : Bool) (element : List ℕ) (place : Place) → place.programs ≡ above → (in_consume is_task element place).programs ≡ above
  consumed true element place of = of
  consumed false element place of = of

  mutual
    apart_at : (place : Place) (s : StatementTree) → place.programs ≡ above → Every (IsApartCall (written_by_programs above)) s → EveryAt CallsApart place s
    apart_at place (map_scope line parameters ranges body) of all = (tt, apart_from (in_map place) body of all.1)
    apart_at place (tasklet line body) of all = (tt, apart_from (in_tasklet place) body of all.1)
    apart_at place (consume_scope line stream size name element worker body) of all =
        (tt, apart_from (in_consume (has_connector body) element place) body (consumed (has_connector body) element place of) all.1)
    apart_at place (call line name arguments) of all = subst (λ programs. AreApart (unwrap_or (in_force (written_by_programs programs) name) []) arguments) (sym of) all
    apart_at place (for_loop line name begin end step body) of all = (tt, apart_from (in_loop place) body of all.1)
    apart_at place (while_loop line when body) of all = (tt, apart_from (in_loop place) body of all.1)
    apart_at place (branch line when body other) of all = (tt, (apart_from place body of all.1.0, apart_from (past_all body place) other of all.1.1))
    apart_at place (tasklet_branch line when body other) of all = (tt, (apart_from place body of all.1.0, apart_from (past_all body place) other of all.1.1))
    apart_at place s of all = tt

    apart_from : (place : Place) (block : Block) → place.programs ≡ above → EveryIn (IsApartCall (written_by_programs above)) block → EveryFrom CallsApart place block
    apart_from place no_statement of all = tt
    apart_from place (and_statement first rest) of all = (apart_at place first of all.0, apart_from (past first place) rest of all.1)

every_apart : (functions : List FunctionTree) → AreFunctionsApart functions → EveryFunction CallsApart functions
every_apart [] all = tt
every_apart (function ∷ above) all =
    ((apart_from above (in_signature above) function.arguments refl all.0.0, apart_from above (in_function above function.arguments) function.body refl all.0.1), every_apart above all.1)

-- ---- texts

pub calls_apart : (text : List ℕ) (program : ProgramTree) → reads text ≡ Ok program → EveryPlace CallsApart program
calls_apart text program is =
    let end = read_so AreApartSoFar calls_are_kept text program is in
    every_apart (reverse program.functions) (subst (λ program. AreFunctionsApart (reverse program.functions)) end.1.1 end.1.0.functions)
