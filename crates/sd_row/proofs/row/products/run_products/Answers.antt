use Rattle.std.proofs.Common.{◌≡◌, ℕ, ◌+◌, ◌-◌, ◌<◌, ℤ, ◌*ℤ◌, [], ◌∷◌, length, get_or, None, FitsSigned, w64, to_z, of_z, refl, sym, ap, ◌∙◌, subst, arith, rules}
use Rattle.std.specs.List.{AllByRecursion}
use Rattle.std.proofs.lemmas.Int.{to_z-of_z, SFits-int_wrap}
use Rattle.sd_num.specs.Wrapped.{wrapped}
use Rattle.sd_num.specs.declared.width.Width.TheVariants.{W64}
use Rattle.sd_work.specs.Memory.{Reference, look}
use Rattle.sd_work.specs.Change.{apply, write}
use Rattle.sd_tcode.specs.declared.op.op.Op.TheVariants.{Mul}
use Rattle.sd_tcode.specs.op.Within.{IsWithin}
use Rattle.sd_tcode.specs.tcode.Compiled.{room_of}
use Rattle.sd_mem.specs.machine.Stack.{reference_of}
use Rattle.sd_tcode.specs.columns.Products.{added}
use Rattle.sd_tcode.proofs.columns_lemmas.Sides.{same_added}
use Rattle.sd_row.specs.declared.row.track.Track.{Track}
use Rattle.sd_row.specs.declared.row.row.Write.{Write}
use Rattle.sd_row.specs.row.Row.{reference_on}
use Rattle.sd_row.specs.row.Point.{seen_on, width_on}
use Rattle.sd_row.specs.row.Block.{after_points}
use Rattle.sd_row.proofs.row_lemmas.Instances.{over_kept, over_written}
use Rattle.sd_row.proofs.row_lemmas.BlockRuns.{IsMeant, block_ends}
use Rattle.sd_row.proofs.row_lemmas.Sums.{output_at, products_meant, output_seen, added_fits, sum_written}
use Rattle.sd_row.proofs.row.products.run_products.Goals as goal

pub returns-clause-done : goal.returns-clause-done
returns-clause-done c done setting arrays is over dims none =
    let row = c.args.row.now in
    let code = c.args.code.now in
    let from = c.args.from in
    let count = c.args.until - from in
    let old = c.args.machine.now in
    let to = c.in-Some.factors.to in
    let left = c.in-Some.factors.left in
    let right = c.in-Some.factors.right in
    let target : Write = c.in-Some-sum_of.write.now in
    let first : Track = c.index.result.now in
    let second : Track = c.index-2.result.now in
    let held = c.look-held.result in
    let wide : width_on old.memories target.to ≡ W64 = c.is_wide.ensures.0 (search rules) in
    let sum = c.in-Some-add_reads.sum in
    let inputs : code.layout.inputs ≡ length row.reads.items = c.is_for.ensures.inputs (search rules) in
    let variables : code.layout.variables ≡ length row.variables.items = c.is_for.ensures.variables (search rules) in
    let safe = c.is_for.ensures.safe in
    let only : code.ops ≡ Mul to left right ∷ [] = c.in-Some.ensures in
    let within : AllByRecursion (IsWithin (room_of code)) (Mul to left right ∷ []) = subst (AllByRecursion (IsWithin (room_of code))) only safe.within in
    let left_within : left < length row.reads.items = search rules in
    let right_within : right < length row.reads.items = search rules in
    let first_is : first ≡ get_or row.reads.items left first = search rules in
    let second_is : second ≡ get_or row.reads.items right second = search rules in
    let here : length row.variables.items + target.connector ≡ to = search rules in
    let value : (run connector : ℕ) → ℤ = λ run. output_at row code old.memories (from + run) to left right in
    let seen : (run : ℕ) → value run target.connector ≡ wrapped (seen_on (from + run) old.memories first *ℤ seen_on (from + run) old.memories second) =
    (λ run. output_seen row code old.memories (from + run) inputs variables safe to left right target.connector first second left_within right_within first_is second_is here within.0.0.1) in
    let value_fits : (run : ℕ) → FitsSigned w64 (value run target.connector) =
    (λ run. subst (FitsSigned w64) (sym (seen run)) (SFits-int_wrap w64 (seen_on (from + run) old.memories first *ℤ seen_on (from + run) old.memories second))) in
    let held_fits : FitsSigned w64 held = record { sfits = c.look-held.type_inv } in
    let held_is : held ≡ look (reference_on target.to from) old.memories = c.look-held.ensures ∙ ap (λ (r : Reference). look r old.memories) c.cell-cell.ensures in
    let told : sum ≡ added (λ run. wrapped (seen_on (from + run) old.memories first *ℤ seen_on (from + run) old.memories second)) (to_z w64 (of_z w64 held)) count = c.in-Some-add_reads.ensures in
    let sum_is : sum ≡ added (λ run. value run target.connector) held count =
    told ∙ ap (λ number. added (λ run. wrapped (seen_on (from + run) old.memories first *ℤ seen_on (from + run) old.memories second)) number count) (to_z-of_z w64 held held_fits)
    ∙ same_added _ _ held count (λ run below. sym (seen run)) in
    let sum_fits : FitsSigned w64 sum = subst (FitsSigned w64) (sym sum_is) (added_fits (λ run. value run target.connector) held count held_fits) in
    let meant : (run : ℕ) → run < count → IsMeant setting row code old.memories (from + run) (value run) =
    (λ run below. products_meant row code old.memories (from + run) inputs variables safe setting to left right arrays only is.code c.requires.plain dims none) in
    block_ends setting row code c.args.until from count is value c.requires.apart (omega (arith, c.requires.order)) old.memories c.pay_for.new.self.turns over meant old c.write.new.self refl
    (c.write.ensures.memories
    ∙ ap (λ (r : Reference). apply (write r None (to_z w64 (of_z w64 sum))) c.pay_for.new.self.memories) c.cell-cell.ensures
    ∙ (λ i. apply (write (reference_on target.to from) None ((to_z-of_z w64 sum sum_fits ∙ sum_is) i)) (c.pay_for.ensures.memories i))
    ∙ sum_written value target from old.memories held c.in-Some-sum_of.ensures.by c.in-Some-sum_of.ensures.step wide held_is held_fits value_fits count
    ∙ ap (λ writes. after_points value writes from count old.memories) (sym c.in-Some-sum_of.ensures.all ∙ c.deref.ensures.value))
    (c.pay_for.ensures.paid (search rules)) c.write.ensures.turns

pub returns-clause-own : goal.returns-clause-own
returns-clause-own c done setting is over =
    over_written setting.own c.pay_for.new.self c.write.new.self (reference_of c.cell-cell.result) None (to_z w64 (of_z w64 c.in-Some-add_reads.sum)) is.bare c.write.ensures.memories
    (over_kept setting.own c.args.machine.now c.pay_for.new.self c.pay_for.ensures.memories over)
