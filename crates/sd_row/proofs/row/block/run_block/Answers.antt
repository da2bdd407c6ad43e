use Rattle.std.proofs.Common.{◌≡◌, refl, ◌-◌, ◌+◌, ◌<◌, ℕ, pos, List, ◌++◌, length, map, take, slice_index_or, Ok, ap, ◌∙◌, subst, arith, rules}
use Rattle.sd_work.specs.BigStep.{Reached}
use Rattle.sd_tcode.specs.tcode.Outputs.{output_effects}
use Rattle.sd_tcode.specs.tcode.Held.{given_by}
use Rattle.sd_tcode.specs.declared.columns.spacing.Spaced.{Spaced}
use Rattle.sd_tcode.specs.columns.Columns.{value_on, registers_of}
use Rattle.sd_row.specs.declared.row.track.Track.{Track}
use Rattle.sd_row.specs.row.Row.{order_of}
use Rattle.sd_row.specs.row.Point.{seen_on}
use Rattle.sd_row.specs.row.Block.{column_value, after_points}
use Rattle.sd_row.proofs.row_lemmas.Registers.{values_given, variables_given}
use Rattle.sd_row.proofs.row_lemmas.Instances.{over_kept}
use Rattle.sd_row.proofs.row_lemmas.Blocks.{over_points}
use Rattle.sd_row.proofs.row_lemmas.BlockRuns.{IsMeant, block_ends}
use Rattle.sd_row.proofs.row.block.run_block.Goals as goal

pub returns-clause-done : goal.returns-clause-done
returns-clause-done c done setting arrays is over dims none =
    let row = c.args.row.now in
    let code = c.args.code.now in
    let from = c.args.from in
    let count = c.args.until - from in
    let old = c.args.machine.now in
    let reads = row.reads.items in
    let variables = row.variables.items in
    let given = c.spread_variables.new.columns in
    let after = c.run.new.self in
    let value = column_value (length variables) after in
    let inputs_is : code.layout.inputs ≡ length reads = c.is_for.ensures.inputs (search rules) in
    let variables_is : code.layout.variables ≡ length variables = c.is_for.ensures.variables (search rules) in
    let reads_many : c.len.result ≡ length reads = search rules in
    let variables_many : c.len-2.result ≡ length variables = search rules in
    let safe = c.is_for.ensures.safe in
    let low = safe.inputs in
    let read_is : (run : ℕ) → run < count → take (length reads) (registers_of c.gather_reads.new.columns run) ≡ map (seen_on (from + run) old.memories) reads =
    subst (λ (reads : List Track). (run : ℕ) → run < count → take (length reads) (registers_of c.gather_reads.new.columns run) ≡ map (seen_on (from + run) old.memories) reads) c.deref.ensures.value c.gather_reads.ensures.read in
    let fixed : (run : ℕ) → run < count → take (code.layout.inputs + code.layout.variables) (registers_of given run) ≡ map (seen_on (from + run) old.memories) reads ++ map (λ numbers. value_on numbers (from + run)) variables =
    (λ run below.
    (λ i. take (inputs_is i + variables_is i) (registers_of given run))
    ∙ subst (λ (first : ℕ). take (first + length variables) (registers_of given run) ≡ take first (registers_of c.gather_reads.new.columns run) ++ map (λ numbers. value_on numbers (from + run)) variables) reads_many
    (subst (λ (variables : List Spaced). take (c.len.result + length variables) (registers_of given run) ≡ take c.len.result (registers_of c.gather_reads.new.columns run) ++ map (λ numbers. value_on numbers (from + run)) variables) c.deref-2.ensures.value
    (c.spread_variables.ensures.set run below))
    ∙ ap (λ front. front ++ map (λ numbers. value_on numbers (from + run)) variables) (read_is run below)) in
    let meant : (run : ℕ) → run < count → IsMeant setting row code old.memories (from + run) (value run) =
    (λ run below. record {
      inputs = given_by code.layout.inputs (take (code.layout.inputs + code.layout.variables) (registers_of given run)) arrays;
      values = values_given (seen_on (from + run) old.memories) reads (λ numbers. value_on numbers (from + run)) variables code.layout.inputs code.layout.connectors (take (code.layout.inputs + code.layout.variables) (registers_of given run)) arrays inputs_is (fixed run below) none low;
      variables = variables_given (seen_on (from + run) old.memories) reads (λ numbers. value_on numbers (from + run)) variables code.layout.inputs code.layout.connectors (take (code.layout.inputs + code.layout.variables) (registers_of given run)) arrays inputs_is (fixed run below);
      extents = none;
      goes = c.run.ensures.meaning (search rules) setting.tree (order_of row) arrays run is.code c.requires.plain dims below
          ∙ ap (λ first. Ok (output_effects (λ connector. slice_index_or (registers_of after run) (first + connector) (pos 0)) (order_of row))) variables_is;
    }) in
    block_ends setting row code c.args.until from count is value c.requires.apart (omega (arith, c.requires.order)) old.memories c.pay_for.new.self.turns over meant old c.write_runs.new.machine refl
    (c.write_runs.ensures.memories ∙ λ i. after_points (column_value (variables_many i) after) (c.deref-3.ensures.value i) from count (c.pay_for.ensures.memories i)) (c.pay_for.ensures.paid (search rules)) c.write_runs.ensures.turns

pub returns-clause-own : goal.returns-clause-own
returns-clause-own c done setting is over =
    let own = setting.own in
    let paid = c.pay_for.new.self in
    let value = column_value c.len-2.result c.run.new.self in
    let after : Reached = record { memories = after_points value c.deref-3.result.now c.args.from (c.args.until - c.args.from) paid.memories; turns = paid.turns } in
    over_kept own after c.write_runs.new.machine c.write_runs.ensures.memories
    (over_points own value c.deref-3.result.now c.args.from (c.args.until - c.args.from) paid.memories paid.turns is.bare (over_kept own c.args.machine.now paid c.pay_for.ensures.memories over))
