-- The instructions of a tasklet give its meaning.
use Rattle.std.proofs.Common.{◌≡◌, ◌⊎◌, inl, inr, ℕ, zero, suc, ◌+◌, ◌<◌, ◌≤◌, pos, List, [], length, map, replicate, Ok, Err, Some, true, false, refl, sym, ap, ◌∙◌, subst, arith}
use Rattle.std.specs.Prelude.{slice_index_or}
use Rattle.std.proofs.lemmas.Bool.{cases_lt}
use Rattle.std.proofs.lemmas.List.{get_or-set_same, get_or-set_other, length-set, get_or-replicate, length-replicate}
use Rattle.sd_graph.specs.PlainTree.{TaskletTree}
use Rattle.sd_graph.specs.TaskletMeaning as meaning
use Rattle.sd_graph.specs.TaskletMeaning.{Meaning, Inputs, Progress, and_then, element_of, acts_of, meaning_of}
use Rattle.sd_tasklet.specs.tasklet.Kept.{told}
use Rattle.sd_tcode.specs.tcode.Named.{dimensions_of, IsNamed}
use Rattle.sd_tcode.specs.op.Machine.{Held, State, register, with_register, after_all}
use Rattle.sd_tcode.specs.op.Within.{Room, IsWithin}
use Rattle.sd_tcode.specs.tcode.Emitted.{variable_register, local_register, acts_code, locals_code, tasklet_code, layout_of}
use Rattle.sd_tcode.specs.tcode.Plain.{set_by}
use Rattle.sd_tcode.specs.declared.op.op.Op.{Op}
use Rattle.sd_tcode.proofs.tcode_lemmas.Flow.{all_front, all_back, Comes, comes_on}
use Rattle.sd_tcode.proofs.tcode_lemmas.Runs.{Holds, Stands, AllIn}
use Rattle.sd_tcode.proofs.tcode_lemmas.ActRuns.{Before, Does, does_on, acts_run}
use Rattle.sd_tcode.proofs.tcode_lemmas.PlainRuns.{PlainBefore, PlainDoes, outputs_at, plain_run}

-- registers that are 0, and all before them as they were
pub record Zeros (first count : ℕ) (state after : State) : Type 0 where
  pub many : length after.registers ≡ length state.registers
  pub effects : after.effects ≡ state.effects
  pub rest : (i : ℕ) → i < first → register after i ≡ register state i
  pub zeros : (i : ℕ) → first ≤ i → i < first + count → register after i ≡ pos 0

module _ (code : TaskletTree) (inputs : Inputs) (arrays : List Held) (room : Room) where
  zero_at : (first count i : ℕ) (state after : State) → first < length state.registers → Zeros (first + 1) count (with_register state first (pos 0)) after → first ≤ i → i < first + suc count → (i < first + 1) ⊎ (first + 1 ≤ i) → register after i ≡ pos 0
  zero_at first count i state after h z low high (inl less) =
      let e : i ≡ first = omega arith in
      z.rest i less ∙ (ap (λ n. register (with_register state first (pos 0)) n) e ∙ get_or-set_same state.registers first (pos 0) (pos 0) h)
  zero_at first count i state after h z low high (inr more) = z.zeros i more (omega arith)

  locals_run : (count first : ℕ) (state : State) → AllIn code inputs arrays room (locals_code first count) → length state.registers ≡ room.registers →
      (after : State) × Zeros first count state after × Comes arrays (locals_code first count) state (Ok after)
  locals_run zero first state all n = (state, record { many = refl; effects = refl; rest = λ i low. refl; zeros = λ i low high. absurd (omega arith) }, refl)
  locals_run (suc count) first state all n =
      let fits = all.0.1 in
      let next = with_register state first (pos 0) in
      let more = locals_run count (first + 1) next all.1 (length-set state.registers first (pos 0) ∙ n) in (
        more.0,
        record {
          many = more.1.many ∙ length-set state.registers first (pos 0);
          effects = more.1.effects;
          rest = λ i low. more.1.rest i (omega arith) ∙ get_or-set_other state.registers first i (pos 0) (pos 0) (λ e. absurd (omega (arith, e)));
          zeros = λ i low high. zero_at first count i state more.0 (omega (arith, fits)) more.1 low high (cases_lt i (first + 1));
        },
        more.2,
      )

  -- the registers hold the scalars and the variables
  pub record IsGiven (state : State) : Type 0 where
    pub many : length state.registers ≡ room.registers
    pub effects : state.effects ≡ []
    pub scalars : (connector : ℕ) → connector < length code.ins → dimensions_of code connector ≡ 0 → register state connector ≡ element_of inputs connector []
    pub variables : (place : ℕ) → place < length code.variables → register state (variable_register (layout_of code) place) ≡ slice_index_or inputs.variables place (pos 0)

  abbrev start : Progress
  start = record { locals = replicate code.locals (pos 0); effects = [] }

  begun : (state after : State) → IsGiven state → Zeros (local_register (layout_of code) 0) code.locals state after → Stands code inputs arrays room (replicate code.locals (pos 0)) after
  begun state after given z = record {
    scalars = λ connector there scalar. z.rest connector (omega arith) ∙ given.scalars connector there scalar;
    variables = λ place there. z.rest (variable_register (layout_of code) place) (omega arith) ∙ given.variables place there;
    locals_are = λ number there. z.zeros (local_register (layout_of code) number) (omega arith) (omega arith) ∙ sym (get_or-replicate code.locals number (pos 0) (pos 0) there);
  }

  -- where a run of instructions ends, its effects are those that are meant; where it faults, so does the meaning
  abbrev pub Gives : (told_by : State → List meaning.Effect) → List Op → State → Meaning (List meaning.Effect) → Type 0
  Gives told_by ops state (Ok effects) = (after : State) × (told_by after ≡ effects) × Comes arrays ops state (Ok after)
  Gives told_by ops state (Err kind) = Comes arrays ops state (Err kind)

  pub tasklet_runs : Holds code inputs arrays room → IsNamed code → AllIn code inputs arrays room (tasklet_code false code) → (state : State) → IsGiven state →
      Gives (λ after. map (told inputs) after.effects) (tasklet_code false code) state (meaning_of code inputs)
  tasklet_runs holds named all state given =
      let locals = locals_code (local_register (layout_of code) 0) code.locals in
      let body = acts_code false (layout_of code) code.body in
      let zeros = locals_run code.locals (local_register (layout_of code) 0) state (all_front (IsWithin room) locals body all) given.many in
      let before : Before code inputs arrays room start zeros.0 = record {
        many = zeros.1.many ∙ given.many;
        stands = begun state zeros.0 given zeros.1;
        locals_many = length-replicate code.locals (pos 0);
        effects = ap (map (told inputs)) (zeros.1.effects ∙ given.effects);
      } in
      effects_of (acts_of inputs code.body start) (does_on code inputs arrays room locals body state zeros.0 (acts_of inputs code.body start) zeros.2
      (acts_run code inputs arrays room holds code.body start zeros.0 named.names (all_back (IsWithin room) locals body all) before))
    where
      effects_of : (meant : Meaning Progress) → Does code inputs arrays room (tasklet_code false code) state meant → Gives (λ after. map (told inputs) after.effects) (tasklet_code false code) state (and_then meant (λ now. Ok now.effects))
      effects_of (Ok now) d = (d.0, d.1.effects, d.2)
      effects_of (Err kind) d = d

  pub plain_runs : Holds code inputs arrays room → IsNamed code → (order : List ℕ) → set_by [] code.body ≡ Some order → AllIn code inputs arrays room (tasklet_code true code) → (state : State) → IsGiven state →
      Gives (λ after. outputs_at code inputs arrays room after order) (tasklet_code true code) state (meaning_of code inputs)
  plain_runs holds named order set all state given =
      let locals = locals_code (local_register (layout_of code) 0) code.locals in
      let body = acts_code true (layout_of code) code.body in
      let zeros = locals_run code.locals (local_register (layout_of code) 0) state (all_front (IsWithin room) locals body all) given.many in
      let before : PlainBefore code inputs arrays room [] start zeros.0 = record {
        many = zeros.1.many ∙ given.many;
        stands = begun state zeros.0 given zeros.1;
        locals_many = length-replicate code.locals (pos 0);
        effects = refl;
        low = tt;
      } in
      effects_of (acts_of inputs code.body start) zeros.0 zeros.2
      (plain_run code inputs arrays room holds code.body [] order start zeros.0 named.names set (all_back (IsWithin room) locals body all) before)
    where
      effects_of : (meant : Meaning Progress) (middle : State) → Comes arrays (locals_code (local_register (layout_of code) 0) code.locals) state (Ok middle) → PlainDoes code inputs arrays room (acts_code true (layout_of code) code.body) middle order meant →
          Gives (λ after. outputs_at code inputs arrays room after order) (tasklet_code true code) state (and_then meant (λ now. Ok now.effects))
      effects_of (Ok now) middle c d = (d.0, d.1.effects, comes_on arrays (locals_code (local_register (layout_of code) 0) code.locals) (acts_code true (layout_of code) code.body) state middle (Ok d.0) c d.2)
      effects_of (Err kind) middle c d = comes_on arrays (locals_code (local_register (layout_of code) 0) code.locals) (acts_code true (layout_of code) code.body) state middle (Err kind) c d

-- what a run came to is what is meant
pub is_meant : (code : TaskletTree) (inputs : Inputs) (arrays : List Held) (room : Room) (told_by : State → List meaning.Effect) (ops : List Op) (state : State) (meant : Meaning (List meaning.Effect)) → Gives code inputs arrays room told_by ops state meant →
    (end : Meaning (State × ℕ)) → after_all arrays 0 ops state ≡ end → meant ≡ and_then end (λ here. Ok (told_by here.0))
is_meant code inputs arrays room told_by ops state (Ok effects) g end e = subst (λ m. Ok effects ≡ and_then m (λ here. Ok (told_by here.0))) (sym g.2 ∙ e) (ap Ok (sym g.1))
is_meant code inputs arrays room told_by ops state (Err kind) g end e = subst (λ m. Err kind ≡ and_then m (λ here. Ok (told_by here.0))) (sym g ∙ e) refl
