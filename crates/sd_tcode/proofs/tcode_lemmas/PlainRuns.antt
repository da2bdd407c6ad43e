-- The instructions of plain code leave each output in its register.
use Rattle.std.proofs.Common.{◌≡◌, ◌≢◌, ℕ, ◌+◌, ◌<◌, ◌≤◌, ℤ, List, [], ◌∷◌, ◌++◌, length, Some, None, Ok, Err, Bool, true, false, not, ◌&&◌, ◌||◌, nat_eq, if◌then◌else◌, refl, sym, ◌∙◌, subst, arith}
use Rattle.std.specs.Prelude.{slice_set}
use Rattle.std.specs.List.{AllByRecursion}
use Rattle.std.proofs.lemmas.Bool.{eqb-false}
use Rattle.std.proofs.lemmas.List.{length-set, map-append}
use Rattle.sd_graph.specs.PlainTree.{ValueTree, ValueTrees, no_value, and_value, ActTree, set_local, assign, branch, ActTrees, no_act, and_act, TaskletTree}
use Rattle.sd_graph.specs.TaskletMeaning as meaning
use Rattle.sd_graph.specs.TaskletMeaning.{Meaning, Inputs, Progress, and_then, place_of, extents_of_connector, value_of, act_of, acts_of, with_effect}
use Rattle.sd_tcode.specs.tcode.Named.{dimensions_of, SetsOf, AllSetsOf}
use Rattle.sd_tcode.specs.op.Machine.{Held, State, register}
use Rattle.sd_tcode.specs.op.Within.{Room, IsWithin}
use Rattle.sd_tcode.specs.tcode.Emitted.{output_register, local_register, free_register, value_code, act_code, acts_code, is_scalar, layout_of}
use Rattle.sd_tcode.specs.tcode.Plain.{is_among, set_after, set_by}
use Rattle.sd_tcode.specs.tcode.Outputs.{output_effects}
use Rattle.sd_tcode.specs.declared.op.op.Op.{Op}
use Rattle.sd_tcode.proofs.tcode_lemmas.Flow.{all_front, all_back, Comes, comes_on, comes_not}
use Rattle.sd_tcode.proofs.tcode_lemmas.Runs.{Holds, Stands, Yields, AllIn, scalar_inside, value_runs}
use Rattle.sd_tcode.proofs.tcode_lemmas.Plains.{next_set, all_and_one}
use Rattle.sd_tcode.proofs.tcode_lemmas.ActRuns.{set_stands, out_stands}

no_others : (Q : ℕ → Type 0) (order : List ℕ) (connector : ℕ) → is_among order connector ≡ false → AllByRecursion Q order → AllByRecursion (λ c. Q c × (c ≢ connector)) order
no_others Q [] connector h all = tt
no_others Q (first ∷ rest) connector h all =
    let parts = neither (nat_eq first connector) (is_among rest connector) h in
    ((all.0, eqb-false first connector parts.0), no_others Q rest connector parts.1 all.1)
  where
    neither : (first second : Bool) → (first || second) ≡ false → (first ≡ false) × (second ≡ false)
    neither false second h = (refl, h)
    neither true second h = cc

module _ (code : TaskletTree) (inputs : Inputs) (arrays : List Held) (room : Room) where
  abbrev pub outputs_at : State → List ℕ → List meaning.Effect
  outputs_at state order = output_effects (λ connector. register state (output_register (layout_of code) connector)) order

  abbrev IsOutput : ℕ → Type 0
  IsOutput connector = (length code.ins ≤ connector) × (connector < length code.ins + length code.outs)

  outputs_same : (P : ℕ → Type 0) (order : List ℕ) (state after : State) → AllByRecursion P order →
      ((connector : ℕ) → P connector → register after (output_register (layout_of code) connector) ≡ register state (output_register (layout_of code) connector)) → outputs_at after order ≡ outputs_at state order
  outputs_same P [] state after all same = refl
  outputs_same P (first ∷ rest) state after all same =
      (λ i. record { connector = first; at = []; value = same first all.0 i } ∷ outputs_same P rest state after all.1 same i)

  -- what there is before statements, with the outputs that are set
  pub record PlainBefore (order : List ℕ) (now : Progress) (state : State) : Type 0 where
    pub many : length state.registers ≡ room.registers
    pub stands : Stands code inputs arrays room now.locals state
    pub locals_many : length now.locals ≡ code.locals
    pub effects : outputs_at state order ≡ now.effects
    pub low : AllByRecursion IsOutput order

  abbrev pub PlainDoes : List Op → State → (order : List ℕ) → Meaning Progress → Type 0
  PlainDoes ops state order (Ok next) = (after : State) × PlainBefore order next after × Comes arrays ops state (Ok after)
  PlainDoes ops state order (Err kind) = Comes arrays ops state (Err kind)

  set_plain : (number : ℕ) (ops : List Op) (state : State) (order : List ℕ) (now : Progress) (meant : Meaning ℤ) → number < code.locals → PlainBefore order now state →
      Yields code inputs arrays room ops state (free_register (layout_of code)) (local_register (layout_of code) number) meant →
      PlainDoes ops state order (and_then meant (λ value. Ok (record now { locals = slice_set now.locals number value })))
  set_plain number ops state order now (Err kind) h b y = y
  set_plain number ops state order now (Ok value) h b y = (
    y.0,
    record {
      many = y.1.many ∙ b.many;
      stands = set_stands code inputs arrays room now.locals number value state y.0 h b.locals_many b.stands y.1;
      locals_many = length-set now.locals number value ∙ b.locals_many;
      effects = outputs_same IsOutput order state y.0 b.low (λ connector output. y.1.rest (output_register (layout_of code) connector) (omega (arith, output)) (λ e. absurd (omega (arith, e, output)))) ∙ b.effects;
      low = b.low;
    },
    y.2,
  )

  out_plain : (connector : ℕ) (ops : List Op) (state : State) (order : List ℕ) (now : Progress) (meant : Meaning ℤ) → IsOutput connector → is_among order connector ≡ false → PlainBefore order now state →
      Yields code inputs arrays room ops state (free_register (layout_of code) + 0) (output_register (layout_of code) connector) meant →
      PlainDoes (ops ++ []) state (order ++ connector ∷ []) (and_then meant (λ value. Ok (with_effect now connector [] value)))
  out_plain connector ops state order now (Err kind) h new b y = comes_not arrays ops [] state kind y
  out_plain connector ops state order now (Ok value) h new b y =
      let before : outputs_at y.0 order ≡ now.effects = outputs_same (λ c. IsOutput c × (c ≢ connector)) order state y.0 (no_others IsOutput order connector new b.low)
      (λ other output. y.1.rest (output_register (layout_of code) other) (omega (arith, output.0)) (λ e. output.1 (omega (arith, e)))) ∙ b.effects in (
        y.0,
        record {
          many = y.1.many ∙ b.many;
          stands = out_stands code inputs arrays room now.locals connector (free_register (layout_of code) + 0) value state y.0 h.0 h.1 (omega arith) b.stands y.1;
          locals_many = b.locals_many;
          effects = map-append (λ c. record { connector = c; at = []; value = register y.0 (output_register (layout_of code) c) }) order (connector ∷ []) ∙ (λ i. before i ++ record { connector = connector; at = []; value = y.1.value_is i } ∷ []);
          low = all_and_one IsOutput order connector b.low h;
        },
        comes_on arrays ops [] state y.0 (Ok y.0) y.2 refl,
      )

  scalar_place : Holds code inputs arrays room → (connector : ℕ) → dimensions_of code connector ≡ 0 → place_of inputs connector (Ok []) ≡ Ok []
  scalar_place given connector h = rw (scalar_inside code inputs arrays room (extents_of_connector inputs connector) (given.dimensions connector ∙ h)) refl

  assign_plain : Holds code inputs arrays room → (connector : ℕ) (at : ValueTrees) (value : ValueTree) (order next : List ℕ) (now : Progress) (state : State) (new : Bool) → SetsOf code (assign connector at value) →
      is_among order connector ≡ new → (if is_scalar at && not new then Some (order ++ connector ∷ []) else None) ≡ Some next →
      AllIn code inputs arrays room (act_code true (layout_of code) (assign connector at value)) → PlainBefore order now state →
      PlainDoes (act_code true (layout_of code) (assign connector at value)) state next (act_of inputs (assign connector at value) now)
  assign_plain given connector no_value value order next now state false sets new e all b =
      let ops = value_code (layout_of code) (output_register (layout_of code) connector) (free_register (layout_of code) + 0) value in
      let order_is : order ++ connector ∷ [] ≡ next = cc in
      subst (λ o. PlainDoes (ops ++ []) state o (act_of inputs (assign connector no_value value) now)) order_is
      (subst (λ m. PlainDoes (ops ++ []) state (order ++ connector ∷ []) (and_then m (λ at. and_then (value_of inputs now.locals value) (λ value. Ok (with_effect now connector at value))))) (sym (scalar_place given connector (sym sets.2)))
      (out_plain connector ops state order now (value_of inputs now.locals value) (sets.0, sets.1) new b
      (value_runs code inputs arrays room given value now.locals (output_register (layout_of code) connector) (free_register (layout_of code) + 0) state sets.4 (omega arith) (omega (arith, sets.1)) (all_front (IsWithin room) ops [] all) b.many b.stands)))
  assign_plain given connector no_value value order next now state true sets new e all b = cc
  assign_plain given connector (and_value first rest) value order next now state new sets is_new e all b = cc

  act_plain : Holds code inputs arrays room → (act : ActTree) (order next : List ℕ) (now : Progress) (state : State) → SetsOf code act → set_after order act ≡ Some next →
      AllIn code inputs arrays room (act_code true (layout_of code) act) → PlainBefore order now state → PlainDoes (act_code true (layout_of code) act) state next (act_of inputs act now)
  act_plain given (set_local number value) order next now state sets e all b =
      let order_is : order ≡ next = cc in
      subst (λ o. PlainDoes (act_code true (layout_of code) (set_local number value)) state o (act_of inputs (set_local number value) now)) order_is
      (set_plain number (act_code true (layout_of code) (set_local number value)) state order now (value_of inputs now.locals value) sets.0 b
      (value_runs code inputs arrays room given value now.locals (local_register (layout_of code) number) (free_register (layout_of code)) state sets.1 (omega arith) (omega (arith, sets.0)) all b.many b.stands))
  act_plain given (assign connector at value) order next now state sets e all b = assign_plain given connector at value order next now state (is_among order connector) sets refl e all b
  act_plain given (branch when body other) order next now state sets e all b = cc

  then_plain : (ops more : List Op) (state : State) (order last : List ℕ) (meant : Meaning Progress) (rest : Progress → Meaning Progress) → PlainDoes ops state order meant →
      ((next : Progress) (after : State) → PlainBefore order next after → PlainDoes more after last (rest next)) → PlainDoes (ops ++ more) state last (and_then meant rest)
  then_plain ops more state order last (Ok next) rest d f = plain_on (rest next) (f next d.0 d.1)
    where
      plain_on : (meant : Meaning Progress) → PlainDoes more d.0 last meant → PlainDoes (ops ++ more) state last meant
      plain_on (Ok end) p = (p.0, p.1, comes_on arrays ops more state d.0 (Ok p.0) d.2 p.2)
      plain_on (Err kind) p = comes_on arrays ops more state d.0 (Err kind) d.2 p
  then_plain ops more state order last (Err kind) rest d f = comes_not arrays ops more state kind d

  pub plain_run : Holds code inputs arrays room → (acts : ActTrees) (order last : List ℕ) (now : Progress) (state : State) → AllSetsOf code acts → set_by order acts ≡ Some last →
      AllIn code inputs arrays room (acts_code true (layout_of code) acts) → PlainBefore order now state → PlainDoes (acts_code true (layout_of code) acts) state last (acts_of inputs acts now)
  plain_run given no_act order last now state sets e all b =
      let order_is : order ≡ last = cc in
      (state, subst (λ o. PlainBefore o now state) order_is b, refl)
  plain_run given (and_act act acts) order last now state sets e all b =
      let ops = act_code true (layout_of code) act in
      let more = acts_code true (layout_of code) acts in
      let set = next_set act acts order last (set_after order act) refl e in
      then_plain ops more state set.0 last (act_of inputs act now) (acts_of inputs acts) (act_plain given act order set.0 now state sets.0 set.1 (all_front (IsWithin room) ops more all) b)
      (λ next after before. plain_run given acts set.0 last next after sets.1 set.2 (all_back (IsWithin room) ops more all) before)
