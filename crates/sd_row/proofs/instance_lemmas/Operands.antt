-- What instructions do that put operands into registers.
use Rattle.std.proofs.Common.{◌≡◌, ◌≢◌, ℕ, ◌+◌, ◌-◌, ◌<◌, ◌≤◌, ℤ, pos, List, [], ◌∷◌, ◌++◌, map, length, take, drop, slice_index_or, slice_get, Some, Ok, Err, true, int_le, int_lt, ◌&&◌, if◌then◌else◌, refl, sym, ap, ◌∙◌, subst, arith, drop-cons}
use Rattle.std.proofs.lemmas.Int.{ints}
use Rattle.std.proofs.lemmas.List.{length-map, length-set, get_or-take, get_or-append-add, get_or_append_left, get_or-set_same, get_or-set_other, take-set-le}
use Rattle.std.proofs.lemmas.Option.{slice_get_within}
use Rattle.sd_work.specs.declared.fault.FaultKind.TheVariants.{Subscript}
use Rattle.sd_work.specs.Memory.{Memories}
use Rattle.sd_graph.specs.TaskletMeaning.{and_then, checked}
use Rattle.sd_tasklet.specs.tasklet.Kept.{filled}
use Rattle.sd_tasklet.specs.declared.tasklet.effect.Effect.{Effect}
use Rattle.sd_tcode.specs.op.Machine.{Held, State, register, index_in, with_register, with_kept, extents_at, after_one, passed, after_all, state_only}
use Rattle.sd_tcode.specs.op.Within.{Room, IsFree, IsWithin}
use Rattle.sd_tcode.specs.declared.op.op.Op.{Op}
use Rattle.sd_tcode.specs.declared.op.op.Op.TheVariants as ops
use Rattle.sd_tcode.specs.declared.columns.spacing.Spaced.{Spaced}
use Rattle.sd_tcode.specs.columns.Columns.{value_on}
use Rattle.sd_row.specs.declared.row.track.Track.{Track}
use Rattle.sd_row.specs.row.Point.{seen_on}
use Rattle.sd_row.specs.declared.instance.accesses.Accesses.{Accesses}
use Rattle.sd_row.specs.declared.instance.scatter.Operand.{Operand}
use Rattle.sd_row.specs.declared.instance.scatter.Operand.TheVariants.{Read, Variable, Number}
use Rattle.sd_row.specs.declared.instance.scatter.Parts.{Parts}
use Rattle.sd_row.specs.instance.Scatter.{operand_on, IsPut, ops_of}
use Rattle.sd_row.proofs.instance_lemmas.Targets.{made_of}

-- what the first registers hold at a point: what is read, and the values of variables
abbrev pub fixed_on : Accesses → (k : ℕ) → Memories → List ℤ
fixed_on accesses k memories = map (seen_on k memories) accesses.reads.items ++ map (λ numbers. value_on numbers k) accesses.variables.items

-- how many those are
abbrev pub fixed_count : Accesses → ℕ
fixed_count accesses = length accesses.reads.items + length accesses.variables.items

-- ---- one instruction

module _ (accesses : Accesses) (k : ℕ) (memories : Memories) where
  -- registers that begin with it
  abbrev pub IsFixed : State → Type 0
  IsFixed state = take (fixed_count accesses) state.registers ≡ fixed_on accesses k memories

  held : (state : State) → IsFixed state → (number : ℕ) → number < fixed_count accesses → register state number ≡ slice_index_or (fixed_on accesses k memories) number (pos 0)
  held state fixed number within = sym (get_or-take (fixed_count accesses) state.registers number (pos 0) within) ∙ ap (λ values. slice_index_or values number (pos 0)) fixed

  read_held : (state : State) → IsFixed state → (number : ℕ) (track : Track) → slice_get accesses.reads.items number ≡ Some track → register state number ≡ seen_on k memories track
  read_held state fixed number track there =
      let within = slice_get_within accesses.reads.items number track there in
      let many = length-map accesses.reads.items (seen_on k memories) in
      held state fixed number (omega (arith, within))
      ∙ get_or_append_left (map (seen_on k memories) accesses.reads.items) (map (λ numbers. value_on numbers k) accesses.variables.items) (pos 0) number (omega (arith, within, many))
      ∙ made_of (seen_on k memories) accesses.reads.items number track (pos 0) there

  variable_held : (state : State) → IsFixed state → (number : ℕ) (numbers : Spaced) → slice_get accesses.variables.items number ≡ Some numbers → register state (length accesses.reads.items + number) ≡ value_on numbers k
  variable_held state fixed number numbers there =
      let within = slice_get_within accesses.variables.items number numbers there in
      let many = length-map accesses.reads.items (seen_on k memories) in
      let seen = map (seen_on k memories) accesses.reads.items in
      let values = map (λ (numbers : Spaced). value_on numbers k) accesses.variables.items in
      held state fixed (length accesses.reads.items + number) (omega (arith, within))
      ∙ ap (λ count. slice_index_or (seen ++ values) (count + number) (pos 0)) (sym many)
      ∙ get_or-append-add seen values number (pos 0)
      ∙ made_of (λ (numbers : Spaced). value_on numbers k) accesses.variables.items number numbers (pos 0) there

  -- the operand stands in its register
  put_goes : (arrays : List Held) (op : Op) (to : ℕ) (operand : Operand) (state : State) → IsPut accesses op to operand → IsFixed state →
      after_one arrays op state ≡ Ok (with_register state to (operand_on k memories operand))
  put_goes arrays op to (Read track) state put fixed =
      ap (λ op. after_one arrays op state) put.1 ∙ ap (λ value. Ok (with_register state to value)) (read_held state fixed put.0 track put.2)
  put_goes arrays op to (Variable numbers) state put fixed =
      ap (λ op. after_one arrays op state) put.1 ∙ ap (λ value. Ok (with_register state to value)) (variable_held state fixed put.0 numbers put.2)
  put_goes arrays op to (Number value) state put fixed = ap (λ op. after_one arrays op state) put

  -- what the code was given stays
  fixed_stays : (state : State) (to : ℕ) (value : ℤ) → fixed_count accesses ≤ to → IsFixed state → IsFixed (with_register state to value)
  fixed_stays state to value behind fixed = take-set-le (fixed_count accesses) state.registers to value behind ∙ fixed

put_passes : (accesses : Accesses) (op : Op) (to : ℕ) (operand : Operand) (state : State) → IsPut accesses op to operand → passed op state ≡ 0
put_passes accesses op to (Read track) state put = ap (λ op. passed op state) put.1
put_passes accesses op to (Variable numbers) state put = ap (λ op. passed op state) put.1
put_passes accesses op to (Number value) state put = ap (λ op. passed op state) put

-- the register may be written
put_free : (accesses : Accesses) (room : Room) (op : Op) (to : ℕ) (operand : Operand) → IsPut accesses op to operand → IsWithin room op → IsFree room to
put_free accesses room op to (Read track) put within = (subst (IsWithin room) put.1 within).0
put_free accesses room op to (Variable numbers) put within = (subst (IsWithin room) put.1 within).0
put_free accesses room op to (Number value) put within = subst (IsWithin room) put within

-- ---- a place

one_index : (state : State) (first : ℕ) → first < length state.registers → index_in state first 1 ≡ register state first ∷ []
one_index state first within =
    let one : (first + 1) - first ≡ 1 = omega arith in
    ap (λ count. take count (drop first state.registers)) one ∙ ap (take 1) (drop-cons state.registers first (pos 0) within)

below_passes : (count place : ℕ) → place < count → (int_le (pos 0) (pos place) && int_lt (pos place) (pos count)) ≡ true
below_passes count place within = grind (arith, ints)

-- one that is below the extent of its connector
place_checked : (count place : ℕ) → place < count → checked (count ∷ []) (pos place ∷ []) ≡ Ok (pos place ∷ [])
place_checked count place within = ap (λ test. if test && true then Ok (pos place ∷ []) else Err Subscript) (below_passes count place within)

-- ---- all of them

next_op : (arrays : List Held) (op : Op) (later : List Op) (state next : State) → after_one arrays op state ≡ Ok next → passed op state ≡ 0 →
    after_all arrays 0 (op ∷ later) state ≡ after_all arrays 0 later next
next_op arrays op later state next goes none =
    ap (λ end. and_then end (λ next. after_all arrays (passed op state) later next)) goes ∙ ap (λ pass. after_all arrays pass later next) none

module _ (accesses : Accesses) (k : ℕ) (memories : Memories) (room : Room) (parts : Parts) (index value : Operand) (given : room.given ≡ fixed_count accesses)
    (index_put : IsPut accesses parts.index parts.at index) (value_put : IsPut accesses parts.value parts.to value) (index_within : IsWithin room parts.index) (value_within : IsWithin room parts.value)
    (differ : parts.at ≢ parts.to) (arrays : List Held) (count place : ℕ) (extents : extents_at arrays parts.connector ≡ count ∷ []) (below : place < count)
    (placed : operand_on k memories index ≡ pos place) (state : State) (many : length state.registers ≡ room.registers) (fixed : IsFixed accesses k memories state) where
  abbrev with_index : State
  with_index = with_register state parts.at (operand_on k memories index)

  abbrev with_value : State
  with_value = with_register with_index parts.to (operand_on k memories value)

  -- the effect
  abbrev pub kept : Effect
  kept = record { connector = parts.connector; at = place ∷ 0 ∷ 0 ∷ 0 ∷ []; value = operand_on k memories value }

  at_free : IsFree room parts.at
  at_free = put_free accesses room parts.index parts.at index index_put index_within

  to_free : IsFree room parts.to
  to_free = put_free accesses room parts.value parts.to value value_put value_within

  index_here : register with_index parts.at ≡ pos place
  index_here = get_or-set_same state.registers parts.at (operand_on k memories index) (pos 0) (omega (arith, at_free.1, many)) ∙ placed

  index_stays : register with_value parts.at ≡ pos place
  index_stays = get_or-set_other with_index.registers parts.to parts.at (operand_on k memories value) (pos 0) differ ∙ index_here

  many_indexed : length with_index.registers ≡ room.registers
  many_indexed = length-set state.registers parts.at (operand_on k memories index) ∙ many

  many_valued : length with_value.registers ≡ room.registers
  many_valued = length-set with_index.registers parts.to (operand_on k memories value) ∙ many_indexed

  value_here : register with_value parts.to ≡ operand_on k memories value
  value_here = get_or-set_same with_index.registers parts.to (operand_on k memories value) (pos 0) (omega (arith, to_free.1, many_indexed))

  tested : after_one arrays (ops.Inside 1 parts.connector parts.at) with_index ≡ Ok with_index
  tested =
      (λ i. and_then (checked (extents i) ((one_index with_index parts.at (omega (arith, at_free.1, many_indexed)) ∙ ap (λ number. number ∷ []) index_here) i)) (λ at. Ok with_index))
      ∙ ap (λ end. and_then end (λ at. Ok with_index)) (place_checked count place below)

  kept_there : after_one arrays (ops.Keep 1 parts.connector parts.at parts.to) with_value ≡ Ok (with_kept with_value kept)
  kept_there =
      (λ i. Ok (with_kept with_value (record {
        connector = parts.connector;
        at = filled ((one_index with_value parts.at (omega (arith, at_free.1, many_valued)) ∙ ap (λ number. number ∷ []) index_stays) i);
        value = value_here i;
      })))

  -- one effect is kept
  pub keeps_one : state_only (after_all arrays 0 (ops_of parts) state) ≡ Ok (with_kept with_value kept)
  keeps_one =
      ap state_only
      (next_op arrays parts.index (ops.Inside 1 parts.connector parts.at ∷ parts.value ∷ ops.Keep 1 parts.connector parts.at parts.to ∷ []) state with_index
      (put_goes accesses k memories arrays parts.index parts.at index state index_put fixed) (put_passes accesses parts.index parts.at index state index_put)
      ∙ next_op arrays (ops.Inside 1 parts.connector parts.at) (parts.value ∷ ops.Keep 1 parts.connector parts.at parts.to ∷ []) with_index with_index tested refl
      ∙ next_op arrays parts.value (ops.Keep 1 parts.connector parts.at parts.to ∷ []) with_index with_value
      (put_goes accesses k memories arrays parts.value parts.to value with_index value_put
      (fixed_stays accesses k memories state parts.at (operand_on k memories index) (omega (arith, at_free.0, given)) fixed)) (put_passes accesses parts.value parts.to value with_index value_put)
      ∙ next_op arrays (ops.Keep 1 parts.connector parts.at parts.to) [] with_value (with_kept with_value kept) kept_there refl)
