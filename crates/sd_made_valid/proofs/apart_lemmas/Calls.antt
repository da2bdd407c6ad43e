-- What an accepted line calls and writes.
use Rattle.std.proofs.Common.{◌≡◌, ℕ, nat_eq, List, [], ◌∷◌, length, reverse, Bool, false, not, ◌||◌, Option, Some, None, unwrap_or, refl}
use Rattle.std.specs.Bool.{⊤}
use Rattle.std.specs.List.{AllByRecursion, list_any, zip}
use Rattle.sd_lex.specs.PlainTree.{Dimension, StatementTree, assign, copy, reduce, map_scope, tasklet, consume_scope, call, for_loop, while_loop, branch, output, tasklet_branch, Block, no_statement, and_statement, FunctionTree}
use Rattle.sd_line.specs.line.Head.{statement_head}
use Rattle.sd_names.specs.declared.meaning.Signature.{Signature}
use Rattle.sd_names.specs.Names.{Name, Names, meaning_of, signature_by}
use Rattle.sd_uses.specs.ShapeMismatch.{is_no_argument, is_shared, is_no_call}
use Rattle.sd_context.specs.context.Context.{Context, site_of}
use Rattle.sd_context.specs.context.Writing.{written_by_call, statement_writes, noted_all}
use Rattle.sd_program.specs.Every.{Every, EveryIn}
use Rattle.sd_program.specs.Names.{Named, in_force}
use Rattle.sd_read.proofs.readable_lemmas.kept.Heads.{Fits}
use Rattle.sd_read.proofs.readable_lemmas.kept.Passing.{passes, neither, true_is_not_false}
use Rattle.sd_read.proofs.readable_lemmas.kept.Steps.{IsAccepted}
use Rattle.sd_read.proofs.readable_lemmas.kept.Trees.{bare, of_line, all-joined}
use Rattle.sd_made.specs.writes.Writes.{arguments_written, names_written, all_written, written_by_programs}
use Rattle.sd_made.specs.writes.Apart.{AreApart}
use Rattle.sd_made_valid.proofs.read_shapes_lemmas.Signatures.{AreTold, by_signature}
use Rattle.sd_made_valid.proofs.apart_lemmas.Shared.{TellWrites, unshared_apart}
use Rattle.sd_made_valid.proofs.read_shapes_lemmas.Noted.{IsAmong, all_noted}
use Rattle.sd_made_valid.proofs.apart_lemmas.Told.{arguments_noted}
use Rattle.sd_made_valid.proofs.read_shapes_lemmas.Blocks.{each_so, IsOfLines}

-- the signature of a program tells what the program writes
abbrev pub Tells : List FunctionTree → Name → Signature → Type 0
Tells programs name signature' = TellWrites (unwrap_or (in_force (written_by_programs programs) name) []) signature'.parameters

-- where the programs above write these of their parameters
module _ (programs : Named (List Bool)) where
  -- a call writes none of its arguments that is another one too
  abbrev pub IsApartCall : StatementTree → Type 0
  IsApartCall (call line name arguments) = AreApart (unwrap_or (in_force programs name) []) arguments
  IsApartCall s = ⊤

  -- what a statement writes, those in the blocks below it aside
  abbrev pub own_written : StatementTree → List Name
  own_written (assign line name at add value) = name ∷ []
  own_written (copy line to to_dimensions from from_dimensions) = to ∷ []
  own_written (reduce line lambda from to axis identity) = to ∷ []
  own_written (call line name arguments) = arguments_written (unwrap_or (in_force programs name) []) arguments
  own_written (output line connector memlet) = memlet.name ∷ []
  own_written s = []

  -- and it is noted
  abbrev pub IsGood : List Name → StatementTree → Type 0
  IsGood written s = AllByRecursion (IsAmong written) (own_written s) × IsApartCall s

  fill_good : (written : List Name) (s : StatementTree) → IsGood written (bare s) → IsGood written s
  fill_good written (map_scope line parameters ranges body) good = (tt, tt)
  fill_good written (tasklet line body) good = (tt, tt)
  fill_good written (consume_scope line from size name element worker body) good = (tt, tt)
  fill_good written (for_loop line name begin end step body) good = (tt, tt)
  fill_good written (while_loop line when body) good = (tt, tt)
  fill_good written (branch line when body other) good = (tt, tt)
  fill_good written (tasklet_branch line when body other) good = (tt, tt)
  fill_good written s good = good

  pub good_of_lines : (written : List Name) → IsOfLines (IsGood written)
  good_of_lines written = record {
    fill = fill_good written;
    branched = λ line when body other. (tt, tt);
    branched_inside = λ line when body other. (tt, tt);
    consumed = λ line stream size name element worker body holds. (tt, tt);
  }

  module _ (written : List Name) where
    mutual
      names_among : (s : StatementTree) → Every (IsGood written) s → AllByRecursion (IsAmong written) (names_written programs s)
      names_among (assign line name at add value) all = all.0
      names_among (copy line to to_dimensions from from_dimensions) all = all.0
      names_among (reduce line lambda from to axis identity) all = all.0
      names_among (map_scope line parameters ranges body) all = all_among body all.1
      names_among (tasklet line body) all = all_among body all.1
      names_among (consume_scope line stream size name element worker body) all = all_among body all.1
      names_among (call line name arguments) all = all.0
      names_among (for_loop line name begin end step body) all = all_among body all.1
      names_among (while_loop line when body) all = all_among body all.1
      names_among (branch line when body other) all = all-joined (IsAmong written) (all_written programs body) (all_written programs other) (all_among body all.1.0) (all_among other all.1.1)
      names_among (output line connector memlet) all = all.0
      names_among (tasklet_branch line when body other) all = all-joined (IsAmong written) (all_written programs body) (all_written programs other) (all_among body all.1.0) (all_among other all.1.1)
      names_among s all = tt

      -- what a block writes is noted
      pub all_among : (block : Block) → EveryIn (IsGood written) block → AllByRecursion (IsAmong written) (all_written programs block)
      all_among no_statement all = tt
      all_among (and_statement first rest) all = all-joined (IsAmong written) (names_written programs first) (all_written programs rest) (names_among first all.0) (all_among rest all.1)

    pub calls_of : (block : Block) → EveryIn (IsGood written) block → EveryIn IsApartCall block
    calls_of = each_so (IsGood written) IsApartCall (λ s good. good.1)

-- ---- a call

call_good : (names : Names) (programs : List FunctionTree) (written : List Name) (line : ℕ) (name : Name) (arguments : List (Name × List Dimension)) → AreTold (Tells programs) names.meanings →
    is_no_call names arguments (signature_by (meaning_of names name)) ≡ false →
    IsGood (written_by_programs programs) (noted_all written (statement_writes names (call line name arguments))) (call line name arguments)
call_good names programs written line name arguments told matching = by_found (signature_by (meaning_of names name)) refl matching where
  own : List Bool
  own = unwrap_or (in_force (written_by_programs programs) name) []

  by_found : (found : Option Signature) → signature_by (meaning_of names name) ≡ found → is_no_call names arguments found ≡ false →
      IsGood (written_by_programs programs) (noted_all written (written_by_call arguments found)) (call line name arguments)
  by_found None is fits = true_is_not_false fits
  by_found (Some signature') is fits =
      by_signature (meaning_of names name) signature' is
      (λ known.
      let tell : TellWrites own signature'.parameters = told name signature' known in
      let writes : List Name = written_by_call arguments (Some signature') in
      let all = neither (not (nat_eq (length arguments) (length signature'.parameters)) || list_any (is_no_argument names) (zip arguments signature'.parameters)) (list_any (is_shared arguments) (zip arguments signature'.parameters)) fits in (
        arguments_noted (IsAmong (noted_all written writes)) own arguments signature'.parameters tell (all_noted writes written),
        unshared_apart own arguments signature'.parameters tell all.1,
      ))

-- ---- statements

pub said_good : (context : Context) (s : StatementTree) → Fits context.block.kind (statement_head s) → IsAccepted context (statement_head s) → AreTold (Tells (reverse context.functions)) context.names.meanings →
    IsGood (written_by_programs (reverse context.functions)) (noted_all context.written (statement_writes context.names s)) (bare s)
said_good context (assign at name subscripts add value) fit accepted' told = (all_noted (name ∷ []) context.written, tt)
said_good context (copy at to to_dimensions from from_dimensions) fit accepted' told = (all_noted (to ∷ []) context.written, tt)
said_good context (reduce at lambda from to axis identity) fit accepted' told = absurd (of_line context.block.kind (reduce at lambda from to axis identity) fit)
said_good context (call at name arguments) fit accepted' told =
    call_good context.names (reverse context.functions) context.written at name arguments told (passes context.names (site_of context) (statement_head (call at name arguments)) accepted').matching
said_good context (output at connector memlet) fit accepted' told = absurd (of_line context.block.kind (output at connector memlet) fit)
said_good context s fit accepted' told = (tt, tt)
