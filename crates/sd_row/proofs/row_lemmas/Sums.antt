-- Products of two reads that are added to one element.
use Rattle.std.proofs.Common.{◌≡◌, ℕ, zero, suc, ◌+◌, ◌-◌, ◌<◌, ℤ, pos, ◌+ℤ◌, ◌*ℤ◌, List, [], ◌∷◌, ◌++◌, map, length, take, replicate, get_or, slice_index_or, slice_set, Option, Some, None, Ok, FitsSigned, w64, sym, ap, ◌∙◌, arith}
use Rattle.std.specs.Option.{MatchOption}
use Rattle.std.specs.Bool.{⊤}
use Rattle.std.proofs.Math.Seq.{take-append_seam}
use Rattle.std.proofs.lemmas.Int.{SFits-int_wrap}
use Rattle.std.proofs.lemmas.List.{map-id, length-map, length-append, length-replicate, get_or-map, get_or_append_left, get_or-set_same}
use Rattle.sd_num.specs.Wrapped.{wrapped}
use Rattle.sd_num.specs.declared.resolution.Resolution.TheVariants.{Sum}
use Rattle.sd_num.specs.declared.width.Width.TheVariants.{W64}
use Rattle.sd_work.specs.Memory.{Memories, look, elements_of, contents_of}
use Rattle.sd_work.specs.Change.{apply, became, write}
use Rattle.sd_tcode.specs.declared.op.op.Op.{Op}
use Rattle.sd_tcode.specs.declared.op.op.Op.TheVariants.{Mul}
use Rattle.sd_tcode.specs.op.Machine.{Held, State, after_all, state_only}
use Rattle.sd_tcode.specs.tcode.Compiled.{Compiled, IsCodeOf, IsSafe}
use Rattle.sd_tcode.specs.tcode.Held.{given_by}
use Rattle.sd_tcode.specs.tcode.Outputs.{output_effects}
use Rattle.sd_tcode.proofs.tcode_lemmas.Linked.{Fits, plain_means}
use Rattle.sd_tcode.specs.declared.columns.spacing.Spaced.{Spaced}
use Rattle.sd_tcode.specs.columns.Columns.{value_on}
use Rattle.sd_tcode.specs.columns.Products.{added, element_on}
use Rattle.sd_tcode.proofs.columns_lemmas.Sides.{same_added}
use Rattle.sd_row.specs.declared.row.track.Track.{Track}
use Rattle.sd_row.specs.declared.row.row.Write.{Write}
use Rattle.sd_row.specs.declared.row.row.Row.{Row}
use Rattle.sd_row.specs.row.Row.{reference_on, order_of}
use Rattle.sd_row.specs.row.Point.{seen_on, width_on}
use Rattle.sd_row.specs.row.Setting.{Setting}
use Rattle.sd_row.specs.row.Block.{after_points}
use Rattle.sd_row.proofs.row_lemmas.Folds.{nothing_new, fold_on}
use Rattle.sd_row.proofs.row_lemmas.Registers.{values_given, variables_given}
use Rattle.sd_row.proofs.row_lemmas.BlockRuns.{IsMeant}

-- ---- what the code is given at a point

module _ (row : Row) (compiled : Compiled) (memories : Memories) (k : ℕ) where
  abbrev given : List ℤ
  given = map (seen_on k memories) row.reads.items ++ map (λ numbers. value_on numbers k) row.variables.items

  -- registers that hold it
  abbrev registers_at : List ℤ
  registers_at = given ++ replicate (compiled.registers - (compiled.layout.inputs + compiled.layout.variables)) (pos 0)

  -- the product of two registers
  abbrev product_at : (left right : ℕ) → ℤ
  product_at left right = wrapped (slice_index_or registers_at left (pos 0) *ℤ slice_index_or registers_at right (pos 0))

  -- the outputs where it is put into a register
  abbrev pub output_at : (to left right : ℕ) → (connector : ℕ) → ℤ
  output_at to left right connector = slice_index_or (slice_set registers_at to (product_at left right)) (length row.variables.items + connector) (pos 0)

  given_many : length given ≡ length row.reads.items + length row.variables.items
  given_many =
      let reads = length-map row.reads.items (seen_on k memories) in
      let variables = length-map row.variables.items (λ (numbers : Spaced). value_on numbers k) in
      length-append (map (seen_on k memories) row.reads.items) (map (λ numbers. value_on numbers k) row.variables.items) ∙ (λ i. reads i + variables i)

  module _ (inputs : compiled.layout.inputs ≡ length row.reads.items) (variables : compiled.layout.variables ≡ length row.variables.items) (safe : IsSafe compiled) where
    registers_many : length registers_at ≡ compiled.registers
    registers_many =
        let many = given_many in
        let rest = length-replicate (compiled.registers - (compiled.layout.inputs + compiled.layout.variables)) (pos 0) in
        let low = safe.inputs in
        let room = safe.registers in
        length-append given (replicate (compiled.registers - (compiled.layout.inputs + compiled.layout.variables)) (pos 0)) ∙ omega (arith, many, rest, low, room, inputs, variables)

    registers_given : take (compiled.layout.inputs + compiled.layout.variables) registers_at ≡ given
    registers_given =
        let many = given_many in
        let count : compiled.layout.inputs + compiled.layout.variables ≡ length given = omega (arith, many, inputs, variables) in
        ap (λ count. take count registers_at) count
        ∙ take-append_seam given (replicate (compiled.registers - (compiled.layout.inputs + compiled.layout.variables)) (pos 0))

    -- the code means what its one instruction does
    pub products_meant : (setting : Setting) (to left right : ℕ) (arrays : List Held) → compiled.ops ≡ Mul to left right ∷ [] → IsCodeOf setting.tree compiled → compiled.plain ≡ Some (order_of row) →
        map (λ array. length array.extents) arrays ≡ compiled.dims → map (λ array. array.extents) arrays ≡ replicate compiled.layout.connectors [] →
        IsMeant setting row compiled memories k (output_at to left right)
    products_meant setting to left right arrays only is_code plain dims none =
        let fits : Fits compiled registers_at arrays = record { registers_many = registers_many; arrays_dims = dims } in
        let after : State = record { registers = slice_set registers_at to (product_at left right); effects = [] } in
        let came : state_only (after_all arrays 0 compiled.ops (record { registers = registers_at; effects = [] })) ≡ Ok after =
        ap (λ (ops : List Op). state_only (after_all arrays 0 ops (record { registers = registers_at; effects = [] }))) only in
        record {
          inputs = given_by compiled.layout.inputs (take (compiled.layout.inputs + compiled.layout.variables) registers_at) arrays;
          values = values_given (seen_on k memories) row.reads.items (λ numbers. value_on numbers k) row.variables.items compiled.layout.inputs compiled.layout.connectors (take (compiled.layout.inputs + compiled.layout.variables) registers_at) arrays inputs registers_given none safe.inputs;
          variables = variables_given (seen_on k memories) row.reads.items (λ numbers. value_on numbers k) row.variables.items compiled.layout.inputs compiled.layout.connectors (take (compiled.layout.inputs + compiled.layout.variables) registers_at) arrays inputs registers_given;
          extents = none;
          goes = plain_means setting.tree compiled registers_at arrays safe fits is_code (order_of row) plain (Ok tt) after came
              ∙ ap (λ first. Ok (output_effects (λ connector. slice_index_or after.registers (first + connector) (pos 0)) (order_of row))) variables;
        }

    -- a register holds what is read
    register_seen : (number : ℕ) (track : Track) → number < length row.reads.items → track ≡ get_or row.reads.items number track → slice_index_or registers_at number (pos 0) ≡ seen_on k memories track
    register_seen number track within is =
        let many = length-map row.reads.items (seen_on k memories) in
        let all = given_many in
        get_or_append_left given (replicate (compiled.registers - (compiled.layout.inputs + compiled.layout.variables)) (pos 0)) (pos 0) number (omega (arith, within, all))
        ∙ get_or_append_left (map (seen_on k memories) row.reads.items) (map (λ numbers. value_on numbers k) row.variables.items) (pos 0) number (omega (arith, within, many))
        ∙ get_or-map (seen_on k memories) row.reads.items number track (pos 0) within
        ∙ ap (seen_on k memories) (sym is)

    -- the output of the register that is set is the product of two reads
    pub output_seen : (to left right connector : ℕ) (first second : Track) → left < length row.reads.items → right < length row.reads.items → first ≡ get_or row.reads.items left first → second ≡ get_or row.reads.items right second →
        length row.variables.items + connector ≡ to → to < compiled.registers → output_at to left right connector ≡ wrapped (seen_on k memories first *ℤ seen_on k memories second)
    output_seen to left right connector first second left_within right_within first_is second_is here room =
        let many = registers_many in
        ap (λ number. slice_index_or (slice_set registers_at to (product_at left right)) number (pos 0)) here
        ∙ get_or-set_same registers_at to (product_at left right) (pos 0) (omega (arith, many, room))
        ∙ (λ i. wrapped (register_seen left first left_within first_is i *ℤ register_seen right second right_within second_is i))

-- ---- what is read

-- the elements that stand in a track's container are what the track reads
pub elements_seen : (track : Track) (memories : Memories) (cells : List ℤ) → cells ≡ elements_of (contents_of track.station.level track.station.container memories) → (k : ℕ) →
    element_on (map (λ cell. cell) cells) track.elements k ≡ seen_on k memories track
elements_seen track memories cells is k = ap (λ elements. element_on elements track.elements k) (map-id cells ∙ is)

-- the same values come to the same sum, where there is one
pub same_sums : (value other : ℕ → ℤ) (start number : ℤ) (count : ℕ) (result : Option ℤ) → ((run : ℕ) → value run ≡ other run) → start ≡ number →
    MatchOption result ⊤ (λ sum. sum ≡ added value start count) → MatchOption result ⊤ (λ sum. sum ≡ added other number count)
same_sums value other start number count None same is told = tt
same_sums value other start number count (Some sum) same is told =
    told ∙ ap (λ number. added value number count) is ∙ same_added value other number count (λ run below. same run)

-- ---- what is added up

-- a number to which values are added is an element
pub added_fits : (value : ℕ → ℤ) (number : ℤ) (count : ℕ) → FitsSigned w64 number → FitsSigned w64 (added value number count)
added_fits value number zero fits = fits
added_fits value number (suc count) fits = SFits-int_wrap w64 (added value number count +ℤ value count)

module _ (value : (run connector : ℕ) → ℤ) (to : Write) (from : ℕ) (memories : Memories) (held : ℤ) (sum : to.by ≡ Some Sum) (still : to.to.elements.step ≡ pos 0) (wide : width_on memories to.to ≡ W64)
    (held_is : held ≡ look (reference_on to.to from) memories) (held_fits : FitsSigned w64 held) (fits : (run : ℕ) → FitsSigned w64 (value run to.connector)) where
  -- the sum is what the writes of the points come to
  pub sum_written : (count : ℕ) → apply (write (reference_on to.to from) None (added (λ run. value run to.connector) held count)) memories ≡ after_points value (to ∷ []) from count memories
  sum_written zero = nothing_new (reference_on to.to from) held memories wide held_is held_fits
  sum_written (suc count) =
      let old = added (λ run. value run to.connector) held count in
      let new = added (λ run. value run to.connector) held (suc count) in
      let next : count + 1 ≡ suc count = omega arith in
      fold_on value to from count memories old new still wide (added_fits (λ run. value run to.connector) held count held_fits) (fits count) (added_fits (λ run. value run to.connector) held (suc count) held_fits)
      (ap (λ by. became by old (value count to.connector)) (sym sum)) (sum_written count)
      ∙ ap (λ count. after_points value (to ∷ []) from count memories) next
