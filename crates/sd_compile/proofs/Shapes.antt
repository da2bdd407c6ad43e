-- The instructions of a tasklet name only what is there.
use Rattle.std.proofs.Common.{◌≡◌, ℕ, zero, suc, ◌+◌, ◌<◌, ◌≤◌, List, [], ◌∷◌, ◌++◌, length, Bool, true, false, not, ◌&&◌, if◌then◌else◌, arith}
use Rattle.std.specs.Prelude.{⊤}
use Rattle.std.specs.List.{AllByRecursion}
use Rattle.sd_graph.specs.PlainTree.{ValueTree, literal, variable, local, input, one, two, choice, ValueTrees, no_value, and_value, ActTree, set_local, assign, branch, ActTrees, no_act, and_act, TaskletTree}
use Rattle.sd_graph.specs.declared.operator.OneSign.{OneSign}
use Rattle.sd_graph.specs.declared.operator.OneSign.TheVariants as before
use Rattle.sd_graph.specs.declared.operator.TwoSign.{TwoSign}
use Rattle.sd_graph.specs.declared.operator.TwoSign.TheVariants as between
use Rattle.sd_tcode.specs.tcode.Named.{count_of, dimensions_of, NamesOf, AllNamesOf, SetsOf, AllSetsOf, IsNamed}
use Rattle.sd_tcode.specs.op.Within.{Room, IsWithin}
use Rattle.sd_compile.specs.Reach.{reach, reach_all}
use Rattle.sd_tcode.specs.tcode.Emitted.{output_register, local_register, free_register, one_op, two_op, is_lazy, is_ready, is_comparison, operand_register, unless_ready, unless_op, test_op, either_code, jumps_where, second_code, condition_op, condition_code, input_code, inside_code, keep_code, value_code, values_code, act_code, acts_code, locals_code, tasklet_code, layout_of}
use Rattle.sd_tcode.specs.declared.tcode.layout.Layout.{Layout}
use Rattle.sd_tcode.specs.declared.op.op.Op.{Op}
use Rattle.sd_tcode.specs.declared.op.op.Op.TheVariants.{Number, Copy, Not, Neg, Inv, Or, And, Less, LessEqual, Greater, GreaterEqual, Equal, Differ, BitOr, BitXor, BitAnd, Add, Sub, Mul, FloorDiv, Mod, Min, Max, Element, Inside, Keep, Skip, SkipIfZero, SkipUnlessZero, SkipUnlessLess, SkipUnlessLessEqual, SkipUnlessEqual, SkipUnlessDiffer}

-- what instructions name beside registers that are read
abbrev pub IsShaped : Room → Op → Type 0
IsShaped room (Number to value) = room.given ≤ to
IsShaped room (Copy to from) = room.given ≤ to
IsShaped room (Not to of) = room.given ≤ to
IsShaped room (Neg to of) = room.given ≤ to
IsShaped room (Inv to of) = room.given ≤ to
IsShaped room (Or to left right) = room.given ≤ to
IsShaped room (And to left right) = room.given ≤ to
IsShaped room (Less to left right) = room.given ≤ to
IsShaped room (LessEqual to left right) = room.given ≤ to
IsShaped room (Greater to left right) = room.given ≤ to
IsShaped room (GreaterEqual to left right) = room.given ≤ to
IsShaped room (Equal to left right) = room.given ≤ to
IsShaped room (Differ to left right) = room.given ≤ to
IsShaped room (BitOr to left right) = room.given ≤ to
IsShaped room (BitXor to left right) = room.given ≤ to
IsShaped room (BitAnd to left right) = room.given ≤ to
IsShaped room (Add to left right) = room.given ≤ to
IsShaped room (Sub to left right) = room.given ≤ to
IsShaped room (Mul to left right) = room.given ≤ to
IsShaped room (FloorDiv to left right) = room.given ≤ to
IsShaped room (Mod to left right) = room.given ≤ to
IsShaped room (Min to left right) = room.given ≤ to
IsShaped room (Max to left right) = room.given ≤ to
IsShaped room (Element dims to connector first) = (room.given ≤ to) × (connector < room.inputs) × (dims ≤ 4) × (1 ≤ dims)
IsShaped room (Inside dims connector first) = (connector < room.connectors) × (dims ≤ 4)
IsShaped room (Keep dims connector first value) = dims ≤ 4
IsShaped room (Skip count) = ⊤
IsShaped room (SkipIfZero value count) = ⊤
IsShaped room (SkipUnlessZero value count) = ⊤
IsShaped room (SkipUnlessLess left right count) = ⊤
IsShaped room (SkipUnlessLessEqual left right count) = ⊤
IsShaped room (SkipUnlessEqual left right count) = ⊤
IsShaped room (SkipUnlessDiffer left right count) = ⊤

within_one : (room : Room) (op : Op) → IsShaped room op → reach op ≤ room.registers → IsWithin room op
within_one room (Number to value) h r = (h, omega (arith, r))
within_one room (Copy to from) h r = ((h, omega (arith, r)), omega (arith, r))
within_one room (Not to of) h r = ((h, omega (arith, r)), omega (arith, r))
within_one room (Neg to of) h r = ((h, omega (arith, r)), omega (arith, r))
within_one room (Inv to of) h r = ((h, omega (arith, r)), omega (arith, r))
within_one room (Or to left right) h r = ((h, omega (arith, r)), omega (arith, r), omega (arith, r))
within_one room (And to left right) h r = ((h, omega (arith, r)), omega (arith, r), omega (arith, r))
within_one room (Less to left right) h r = ((h, omega (arith, r)), omega (arith, r), omega (arith, r))
within_one room (LessEqual to left right) h r = ((h, omega (arith, r)), omega (arith, r), omega (arith, r))
within_one room (Greater to left right) h r = ((h, omega (arith, r)), omega (arith, r), omega (arith, r))
within_one room (GreaterEqual to left right) h r = ((h, omega (arith, r)), omega (arith, r), omega (arith, r))
within_one room (Equal to left right) h r = ((h, omega (arith, r)), omega (arith, r), omega (arith, r))
within_one room (Differ to left right) h r = ((h, omega (arith, r)), omega (arith, r), omega (arith, r))
within_one room (BitOr to left right) h r = ((h, omega (arith, r)), omega (arith, r), omega (arith, r))
within_one room (BitXor to left right) h r = ((h, omega (arith, r)), omega (arith, r), omega (arith, r))
within_one room (BitAnd to left right) h r = ((h, omega (arith, r)), omega (arith, r), omega (arith, r))
within_one room (Add to left right) h r = ((h, omega (arith, r)), omega (arith, r), omega (arith, r))
within_one room (Sub to left right) h r = ((h, omega (arith, r)), omega (arith, r), omega (arith, r))
within_one room (Mul to left right) h r = ((h, omega (arith, r)), omega (arith, r), omega (arith, r))
within_one room (FloorDiv to left right) h r = ((h, omega (arith, r)), omega (arith, r), omega (arith, r))
within_one room (Mod to left right) h r = ((h, omega (arith, r)), omega (arith, r), omega (arith, r))
within_one room (Min to left right) h r = ((h, omega (arith, r)), omega (arith, r), omega (arith, r))
within_one room (Max to left right) h r = ((h, omega (arith, r)), omega (arith, r), omega (arith, r))
within_one room (Element dims to connector first) h r = ((h.0, omega (arith, r)), h.1, (omega (arith, r), h.2), h.3)
within_one room (Inside dims connector first) h r = (h.0, (omega (arith, r), h.1))
within_one room (Keep dims connector first value) h r = ((omega (arith, r), h), omega (arith, r))
within_one room (Skip count) h r = tt
within_one room (SkipIfZero value count) h r = omega (arith, r)
within_one room (SkipUnlessZero value count) h r = omega (arith, r)
within_one room (SkipUnlessLess left right count) h r = (omega (arith, r), omega (arith, r))
within_one room (SkipUnlessLessEqual left right count) h r = (omega (arith, r), omega (arith, r))
within_one room (SkipUnlessEqual left right count) h r = (omega (arith, r), omega (arith, r))
within_one room (SkipUnlessDiffer left right count) h r = (omega (arith, r), omega (arith, r))

pub within_all : (room : Room) (ops : List Op) → AllByRecursion (IsShaped room) ops → reach_all ops ≤ room.registers → AllByRecursion (IsWithin room) ops
within_all room [] all r = tt
within_all room (op ∷ ops) all r = (within_one room op all.0 (omega (arith, r)), within_all room ops all.1 (omega (arith, r)))

module _ (code : TaskletTree) (room : Room) where
  abbrev Shaped : List Op → Type 0
  Shaped ops = AllByRecursion (IsShaped room) ops

  join : (first second : List Op) → Shaped first → Shaped second → Shaped (first ++ second)
  join [] second all more = more
  join (op ∷ first) second all more = (all.0, join first second all.1 more)

  shaped_one : (sign : OneSign) (to of : ℕ) → room.given ≤ to → IsShaped room (one_op sign to of)
  shaped_one before.Not to of h = h
  shaped_one before.Neg to of h = h
  shaped_one before.Inv to of h = h

  shaped_two : (sign : TwoSign) (to left right : ℕ) → room.given ≤ to → IsShaped room (two_op sign to left right)
  shaped_two between.Or to left right h = h
  shaped_two between.And to left right h = h
  shaped_two between.Less to left right h = h
  shaped_two between.LessEqual to left right h = h
  shaped_two between.Greater to left right h = h
  shaped_two between.GreaterEqual to left right h = h
  shaped_two between.Equal to left right h = h
  shaped_two between.Differ to left right h = h
  shaped_two between.BitOr to left right h = h
  shaped_two between.BitXor to left right h = h
  shaped_two between.BitAnd to left right h = h
  shaped_two between.Add to left right h = h
  shaped_two between.Sub to left right h = h
  shaped_two between.Mul to left right h = h
  shaped_two between.FloorDiv to left right h = h
  shaped_two between.Mod to left right h = h
  shaped_two between.Min to left right h = h
  shaped_two between.Max to left right h = h

  shaped_test : (skips : Bool) (value count : ℕ) → IsShaped room (test_op skips value count)
  shaped_test true value count = tt
  shaped_test false value count = tt

  shaped_either : (test : ℕ → Op) (first second : List Op) → ((count : ℕ) → IsShaped room (test count)) → Shaped first → Shaped second → Shaped (either_code test first second)
  shaped_either test first second h all more = (h (length first + 1), join first (Skip (length second) ∷ second) all (tt, more))

  shaped_unless : (tree : ValueTree) (ops : List Op) → Shaped ops → Shaped (unless_ready tree ops)
  shaped_unless tree ops all = either_way (is_ready tree)
    where
      either_way : (b : Bool) → Shaped (if b then [] else ops)
      either_way true = tt
      either_way false = all

  shaped_op : (sign : TwoSign) (left right value count : ℕ) → IsShaped room (unless_op sign left right value count)
  shaped_op between.Or left right value count = tt
  shaped_op between.And left right value count = tt
  shaped_op between.Less left right value count = tt
  shaped_op between.LessEqual left right value count = tt
  shaped_op between.Greater left right value count = tt
  shaped_op between.GreaterEqual left right value count = tt
  shaped_op between.Equal left right value count = tt
  shaped_op between.Differ left right value count = tt
  shaped_op between.BitOr left right value count = tt
  shaped_op between.BitXor left right value count = tt
  shaped_op between.BitAnd left right value count = tt
  shaped_op between.Add left right value count = tt
  shaped_op between.Sub left right value count = tt
  shaped_op between.Mul left right value count = tt
  shaped_op between.FloorDiv left right value count = tt
  shaped_op between.Mod left right value count = tt
  shaped_op between.Min left right value count = tt
  shaped_op between.Max left right value count = tt

  shaped_condition : (layout : Layout) (free : ℕ) (when : ValueTree) (count : ℕ) → IsShaped room (condition_op layout free when count)
  shaped_condition layout free (literal value) count = tt
  shaped_condition layout free (variable place) count = tt
  shaped_condition layout free (local number) count = tt
  shaped_condition layout free (input connector at) count = tt
  shaped_condition layout free (one sign of) count = tt
  shaped_condition layout free (two sign left right) count = shaped_op sign (operand_register layout free left) (operand_register layout (free + 1) right) free count
  shaped_condition layout free (choice value when other) count = tt

  shaped_compared : (sign : TwoSign) (compared straight : List Op) → Shaped compared → Shaped straight → Shaped (if is_comparison sign then compared else straight)
  shaped_compared sign compared straight all more = either_way (is_comparison sign)
    where
      either_way : (b : Bool) → Shaped (if b then compared else straight)
      either_way true = all
      either_way false = more

  shaped_second : (sign : TwoSign) (left to right : ℕ) (tree : ValueTree) (jumped straight : List Op) → room.given ≤ to → Shaped jumped → Shaped straight → Shaped (second_code sign left to right tree jumped straight)
  shaped_second sign left to right tree jumped straight h all more = either_way (is_lazy sign && not (is_ready tree))
    where
      either_way : (b : Bool) → Shaped (if b then either_code (test_op (jumps_where sign) left) jumped (Copy to left ∷ []) else unless_ready tree straight ++ two_op sign to left right ∷ [])
      either_way true = shaped_either (test_op (jumps_where sign) left) jumped (Copy to left ∷ []) (shaped_test (jumps_where sign) left) all (h, tt)
      either_way false = join (unless_ready tree straight) (two_op sign to left right ∷ []) (shaped_unless tree straight more) (shaped_two sign to left right h, tt)

  -- the room of the code
  pub record IsRoom : Type 0 where
    pub given : room.given ≡ length code.ins + length code.variables
    pub inputs : room.inputs ≡ length code.ins
    pub connectors : room.connectors ≡ length code.ins + length code.outs
    pub dimensions : (connector : ℕ) → dimensions_of code connector ≤ 4

  shaped_input : IsRoom → (connector to free : ℕ) (at : ValueTrees) (ops : List Op) → room.given ≤ to → connector < length code.ins → count_of at ≡ dimensions_of code connector → Shaped ops → Shaped (input_code to connector free at ops)
  shaped_input room_is connector to free no_value ops h there d all = (h, tt)
  shaped_input room_is connector to free (and_value first rest) ops h there d all =
      let few = room_is.dimensions connector in
      join ops (Element (count_of (and_value first rest)) to connector free ∷ []) all ((h, omega (arith, there, room_is.inputs), omega (arith, d, few), omega arith), tt)

  mutual
    value_shaped : IsRoom → (tree : ValueTree) (to free : ℕ) → NamesOf code tree → room.given ≤ to → room.given ≤ free → Shaped (value_code (layout_of code) to free tree)
    value_shaped room_is (literal value) to free names h low = (h, tt)
    value_shaped room_is (variable place) to free names h low = (h, tt)
    value_shaped room_is (local number) to free names h low = (h, tt)
    value_shaped room_is (input connector at) to free names h low = shaped_input room_is connector to free at (values_code (layout_of code) free at) h names.0 names.1 (values_shaped room_is at free names.2 low)
    value_shaped room_is (one sign of) to free names h low =
        join (unless_ready of (value_code (layout_of code) free (free + 1) of)) (one_op sign to (operand_register (layout_of code) free of) ∷ [])
        (shaped_unless of (value_code (layout_of code) free (free + 1) of) (value_shaped room_is of free (free + 1) names low (omega arith))) (shaped_one sign to (operand_register (layout_of code) free of) h, tt)
    value_shaped room_is (two sign left right) to free names h low =
        let layout = layout_of code in
        let jumped = value_code layout to (free + 1) right in
        let straight = value_code layout (free + 1) (free + 1 + 1) right in
        join (unless_ready left (value_code layout free (free + 1) left)) (second_code sign (operand_register layout free left) to (operand_register layout (free + 1) right) right jumped straight)
        (shaped_unless left (value_code layout free (free + 1) left) (value_shaped room_is left free (free + 1) names.0 low (omega arith)))
        (shaped_second sign (operand_register layout free left) to (operand_register layout (free + 1) right) right jumped straight h
        (value_shaped room_is right to (free + 1) names.1 h (omega arith)) (value_shaped room_is right (free + 1) (free + 1 + 1) names.1 (omega arith) (omega arith)))
    value_shaped room_is (choice value when other) to free names h low =
        let layout = layout_of code in
        let first = value_code layout to free value in
        let second = value_code layout to free other in
        let straight = value_code layout free (free + 1) when in
        let test = condition_op layout free when in
        join (condition_code layout free when straight) (either_code test first second)
        (condition_shaped room_is when free names.1 low straight (value_shaped room_is when free (free + 1) names.1 low (omega arith)))
        (shaped_either test first second (shaped_condition layout free when) (value_shaped room_is value to free names.0 h low) (value_shaped room_is other to free names.2 h low))

    condition_shaped : IsRoom → (when : ValueTree) (free : ℕ) → NamesOf code when → room.given ≤ free → (straight : List Op) → Shaped straight → Shaped (condition_code (layout_of code) free when straight)
    condition_shaped room_is (literal value) free names low straight all = all
    condition_shaped room_is (variable place) free names low straight all = tt
    condition_shaped room_is (local number) free names low straight all = tt
    condition_shaped room_is (input connector at) free names low straight all = shaped_unless (input connector at) straight all
    condition_shaped room_is (one sign of) free names low straight all = all
    condition_shaped room_is (two sign left right) free names low straight all =
        let layout = layout_of code in
        let first = value_code layout free (free + 1) left in
        let second = value_code layout (free + 1) (free + 1 + 1) right in
        shaped_compared sign (unless_ready left first ++ unless_ready right second) straight
        (join (unless_ready left first) (unless_ready right second) (shaped_unless left first (value_shaped room_is left free (free + 1) names.0 low (omega arith)))
        (shaped_unless right second (value_shaped room_is right (free + 1) (free + 1 + 1) names.1 (omega arith) (omega arith)))) all
    condition_shaped room_is (choice value when other) free names low straight all = all

    values_shaped : IsRoom → (trees : ValueTrees) (free : ℕ) → AllNamesOf code trees → room.given ≤ free → Shaped (values_code (layout_of code) free trees)
    values_shaped room_is no_value free names low = tt
    values_shaped room_is (and_value first rest) free names low =
        join (value_code (layout_of code) free (free + 1) first) (values_code (layout_of code) (free + 1) rest)
        (value_shaped room_is first free (free + 1) names.0 low (omega arith)) (values_shaped room_is rest (free + 1) names.1 (omega arith))

  shaped_inside : IsRoom → (connector first : ℕ) (at : ValueTrees) → connector < length code.ins + length code.outs → count_of at ≡ dimensions_of code connector → Shaped (inside_code connector first at)
  shaped_inside room_is connector first no_value there d = tt
  shaped_inside room_is connector first (and_value value rest) there d =
      let few = room_is.dimensions connector in
      ((omega (arith, there, room_is.connectors), omega (arith, d, few)), tt)

  shaped_keep : IsRoom → (plain : Bool) (connector first : ℕ) (at : ValueTrees) → count_of at ≡ dimensions_of code connector → Shaped (keep_code plain (layout_of code) connector first at)
  shaped_keep room_is true connector first at d = tt
  shaped_keep room_is false connector first at d = let few = room_is.dimensions connector in (omega (arith, d, few), tt)

  mutual
    act_shaped : IsRoom → (plain : Bool) (act : ActTree) → SetsOf code act → Shaped (act_code plain (layout_of code) act)
    act_shaped room_is plain (set_local number value) sets = value_shaped room_is value (local_register (layout_of code) number) (free_register (layout_of code)) sets.1 (omega (arith, room_is.given)) (omega (arith, room_is.given))
    act_shaped room_is plain (assign connector at value) sets =
        let layout = layout_of code in
        let free = free_register layout in
        let subscripts = values_code layout free at in
        let checks = inside_code connector free at in
        let values = value_code layout (output_register layout connector) (free + count_of at) value in
        let keeps = keep_code plain layout connector free at in
        join subscripts (checks ++ (values ++ keeps)) (values_shaped room_is at free sets.3 (omega (arith, room_is.given)))
        (join checks (values ++ keeps) (shaped_inside room_is connector free at sets.1 sets.2)
        (join values keeps (value_shaped room_is value (output_register layout connector) (free + count_of at) sets.4 (omega (arith, room_is.given, sets.0)) (omega (arith, room_is.given))) (shaped_keep room_is plain connector free at sets.2)))
    act_shaped room_is plain (branch when body other) sets =
        let layout = layout_of code in
        let free = free_register layout in
        let straight = value_code layout free (free + 1) when in
        let test = condition_op layout free when in
        let first = acts_code plain layout body in
        let second = acts_code plain layout other in
        join (condition_code layout free when straight) (either_code test first second)
        (condition_shaped room_is when free sets.0 (omega (arith, room_is.given)) straight (value_shaped room_is when free (free + 1) sets.0 (omega (arith, room_is.given)) (omega (arith, room_is.given))))
        (shaped_either test first second (shaped_condition layout free when) (acts_shaped room_is plain body sets.1) (acts_shaped room_is plain other sets.2))

    acts_shaped : IsRoom → (plain : Bool) (acts : ActTrees) → AllSetsOf code acts → Shaped (acts_code plain (layout_of code) acts)
    acts_shaped room_is plain no_act sets = tt
    acts_shaped room_is plain (and_act first rest) sets =
        join (act_code plain (layout_of code) first) (acts_code plain (layout_of code) rest) (act_shaped room_is plain first sets.0) (acts_shaped room_is plain rest sets.1)

  locals_shaped : (count first : ℕ) → room.given ≤ first → Shaped (locals_code first count)
  locals_shaped zero first h = tt
  locals_shaped (suc count) first h = (h, locals_shaped count (first + 1) (omega arith))

  pub tasklet_shaped : IsRoom → (plain : Bool) → IsNamed code → Shaped (tasklet_code plain code)
  tasklet_shaped room_is plain named =
      join (locals_code (local_register (layout_of code) 0) code.locals) (acts_code plain (layout_of code) code.body)
      (locals_shaped code.locals (local_register (layout_of code) 0) (omega (arith, room_is.given))) (acts_shaped room_is plain code.body named.names)
