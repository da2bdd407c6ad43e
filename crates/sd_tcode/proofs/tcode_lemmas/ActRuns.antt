-- The instructions of statements leave the locals and the effects that are meant.
use Rattle.std.proofs.Common.{◌≡◌, ◌⊎◌, ℕ, zero, suc, ◌+◌, ◌<◌, ◌≤◌, ℤ, pos, List, [], ◌∷◌, ◌++◌, length, map, append_assoc, take, inl, inr, Ok, Err, Bool, true, false, if◌then◌else◌, refl, sym, ap, ◌∙◌, subst, arith}
use Rattle.std.specs.Prelude.{slice_index_or, slice_set}
use Rattle.std.proofs.lemmas.Bool.{cases_lt}
use Rattle.std.proofs.lemmas.List.{get_or-set_same, get_or-set_other, length-set, map-append}
use Rattle.sd_range.specs.Subset.{inside}
use Rattle.sd_graph.specs.PlainTree.{ValueTree, ValueTrees, no_value, and_value, ActTree, set_local, assign, branch, ActTrees, no_act, and_act, TaskletTree}
use Rattle.sd_graph.specs.TaskletMeaning.{Meaning, Inputs, Progress, and_then, holds, checked, place_of, extents_of_connector, value_of, values_of, act_of, acts_of, with_effect}
use Rattle.sd_work.specs.declared.fault.FaultKind.TheVariants.{Subscript}
use Rattle.sd_tasklet.specs.tasklet.Kept.{filled, told}
use Rattle.sd_tasklet.specs.declared.tasklet.effect.Effect.{Effect}
use Rattle.sd_tasklet.proofs.tasklet_lemmas.KeptLemmas.{front_filled}
use Rattle.sd_tcode.specs.tcode.Named.{count_of, dimensions_of, SetsOf, AllSetsOf}
use Rattle.sd_tcode.specs.op.Machine.{Held, State, register, index_in, with_kept}
use Rattle.sd_tcode.specs.op.Within.{Room, IsWithin}
use Rattle.sd_tcode.specs.tcode.Emitted.{output_register, local_register, free_register, either_code, condition_op, condition_code, value_code, values_code, inside_code, act_code, acts_code, layout_of}
use Rattle.sd_tcode.specs.declared.op.op.Op.{Op}
use Rattle.sd_tcode.specs.declared.op.op.Op.TheVariants.{Keep, Skip}
use Rattle.sd_tcode.proofs.tcode_lemmas.Flow.{all_front, all_back, Comes, comes_on, comes_not, Jumps, either_first, either_second}
use Rattle.sd_tcode.proofs.tcode_lemmas.States.{Kept, Leaves}
use Rattle.sd_tcode.proofs.tcode_lemmas.Runs.{scalar_inside, Holds, Stands, Yields, Decides, ReadsAll, AllIn, value_runs, values_run, condition_runs, still_stands, index_more, index_none}

module _ (code : TaskletTree) (inputs : Inputs) (arrays : List Held) (room : Room) where
  abbrev first_free : ℕ
  first_free = free_register (layout_of code)

  -- an index stays where its registers do
  index_stays : (count first : ℕ) (state after : State) → length after.registers ≡ length state.registers → first + count ≤ length state.registers →
      ((i : ℕ) → i < first + count → first ≤ i → register after i ≡ register state i) → index_in after first count ≡ index_in state first count
  index_stays zero first state after many few same = index_none code inputs arrays room first after ∙ sym (index_none code inputs arrays room first state)
  index_stays (suc count) first state after many few same =
      let one_more : suc count ≡ count + 1 = omega arith in
      let here : register after first ≡ register state first = same first (omega arith) (omega arith) in
      let rest : index_in after (first + 1) count ≡ index_in state (first + 1) count = index_stays count (first + 1) state after many (omega arith) (λ i low high. same i (omega arith) (omega arith)) in
      ap (index_in after first) one_more
      ∙ (index_more code inputs arrays room first count after (omega (arith, many))
      ∙ ((λ i. here i ∷ rest i)
      ∙ (sym (index_more code inputs arrays room first count state (omega arith)) ∙ ap (index_in state first) (sym one_more))))

  -- what there is before statements
  pub record Before (now : Progress) (state : State) : Type 0 where
    pub many : length state.registers ≡ room.registers
    pub stands : Stands code inputs arrays room now.locals state
    pub locals_many : length now.locals ≡ code.locals
    pub effects : map (told inputs) state.effects ≡ now.effects

  -- instructions that leave what is meant, or come to its fault
  abbrev pub Does : List Op → State → Meaning Progress → Type 0
  Does ops state (Ok next) = (after : State) × Before next after × Comes arrays ops state (Ok after)
  Does ops state (Err kind) = Comes arrays ops state (Err kind)

  pub does_on : (ops more : List Op) (state middle : State) (meant : Meaning Progress) → Comes arrays ops state (Ok middle) → Does more middle meant → Does (ops ++ more) state meant
  does_on ops more state middle (Ok next) c d = (d.0, d.1, comes_on arrays ops more state middle (Ok d.0) c d.2)
  does_on ops more state middle (Err kind) c d = comes_on arrays ops more state middle (Err kind) c d

  -- ---- a local

  local_is : (locals : List ℤ) (number other : ℕ) (value : ℤ) (state after : State) → number < code.locals → other < code.locals → length locals ≡ code.locals → Stands code inputs arrays room locals state →
      Leaves first_free (local_register (layout_of code) number) value state after → (other < number) ⊎ (number ≤ other) → (number < other) ⊎ (other ≤ number) →
      register after (local_register (layout_of code) other) ≡ slice_index_or (slice_set locals number value) other (pos 0)
  local_is locals number other value state after h g many stands l (inl less) any =
      l.rest (local_register (layout_of code) other) (omega arith) (λ e. absurd (omega (arith, e))) ∙ (stands.locals_are other g ∙ sym (get_or-set_other locals number other value (pos 0) (λ e. absurd (omega (arith, e)))))
  local_is locals number other value state after h g many stands l (inr more) (inl greater) =
      l.rest (local_register (layout_of code) other) (omega arith) (λ e. absurd (omega (arith, e))) ∙ (stands.locals_are other g ∙ sym (get_or-set_other locals number other value (pos 0) (λ e. absurd (omega (arith, e)))))
  local_is locals number other value state after h g many stands l (inr more) (inr less) =
      let e : other ≡ number = omega arith in
      ap (λ n. register after (local_register (layout_of code) n)) e ∙ (l.value_is ∙ (sym (get_or-set_same locals number value (pos 0) (omega arith)) ∙ ap (λ n. slice_index_or (slice_set locals number value) n (pos 0)) (sym e)))

  pub set_stands : (locals : List ℤ) (number : ℕ) (value : ℤ) (state after : State) → number < code.locals → length locals ≡ code.locals → Stands code inputs arrays room locals state →
      Leaves first_free (local_register (layout_of code) number) value state after → Stands code inputs arrays room (slice_set locals number value) after
  set_stands locals number value state after h many stands l = record {
    scalars = λ connector there scalar. l.rest connector (omega arith) (λ e. absurd (omega (arith, e))) ∙ stands.scalars connector there scalar;
    variables = λ place there. l.rest ((layout_of code).inputs + place) (omega arith) (λ e. absurd (omega (arith, e))) ∙ stands.variables place there;
    locals_are = λ other there. local_is locals number other value state after h there many stands l (cases_lt other number) (cases_lt number other);
  }

  set_does : (number : ℕ) (ops : List Op) (state : State) (now : Progress) (meant : Meaning ℤ) → number < code.locals → Before now state → Yields code inputs arrays room ops state first_free (local_register (layout_of code) number) meant →
      Does ops state (and_then meant (λ value. Ok (record now { locals = slice_set now.locals number value })))
  set_does number ops state now (Ok value) h b y = (
    y.0,
    record {
      many = y.1.many ∙ b.many;
      stands = set_stands now.locals number value state y.0 h b.locals_many b.stands y.1;
      locals_many = length-set now.locals number value ∙ b.locals_many;
      effects = ap (map (told inputs)) y.1.effects ∙ b.effects;
    },
    y.2,
  )
  set_does number ops state now (Err kind) h b y = y

  -- ---- an output

  pub out_stands : (locals : List ℤ) (connector more : ℕ) (value : ℤ) (state after : State) → length code.ins ≤ connector → connector < length code.ins + length code.outs → first_free ≤ more → Stands code inputs arrays room locals state →
      Leaves more (output_register (layout_of code) connector) value state after → Stands code inputs arrays room locals after
  out_stands locals connector more value state after low high h stands l = record {
    scalars = λ other there scalar. l.rest other (omega arith) (λ e. absurd (omega (arith, e))) ∙ stands.scalars other there scalar;
    variables = λ place there. l.rest ((layout_of code).inputs + place) (omega arith) (λ e. absurd (omega (arith, e))) ∙ stands.variables place there;
    locals_are = λ number there. l.rest (local_register (layout_of code) number) (omega arith) (λ e. absurd (omega (arith, e))) ∙ stands.locals_are number there;
  }

  -- a place that was checked stands in the free registers
  abbrev Placed : List Op → State → (connector count : ℕ) → Meaning (List ℤ) → Type 0
  Placed ops state connector count (Ok place) =
      (after : State) × Kept first_free state after × (index_in after first_free count ≡ place) × (inside (extents_of_connector inputs connector) place ≡ true) × Comes arrays ops state (Ok after)
  Placed ops state connector count (Err kind) = Comes arrays ops state (Err kind)

  inside_by : (extents : List ℕ) (values : List ℤ) (after : State) (b : Bool) → inside extents values ≡ b →
      and_then {B = State × ℕ} (and_then {B = State} (checked extents values) (λ at. Ok after)) (λ next. Ok (next, 0)) ≡ and_then {A = State} (if b then Ok after else Err Subscript) (λ state. Ok (state, 0))
  inside_by extents values after true h = rw h refl
  inside_by extents values after false h = rw h refl

  inside_comes : Holds code inputs arrays room → (at : ValueTrees) (connector : ℕ) (after : State) (values : List ℤ) (b : Bool) → index_in after first_free (count_of at) ≡ values → count_of at ≡ dimensions_of code connector →
      inside (extents_of_connector inputs connector) values ≡ b → Comes arrays (inside_code connector first_free at) after (if b then Ok after else Err Subscript)
  inside_comes given no_value connector after values true e d h = refl
  inside_comes given no_value connector after values false e d h =
      let none : [] ≡ values = sym (index_none code inputs arrays room first_free after) ∙ e in
      let always : inside (extents_of_connector inputs connector) [] ≡ true = scalar_inside code inputs arrays room (extents_of_connector inputs connector) (given.dimensions connector ∙ sym d) in
      let never : true ≡ false = sym always ∙ (ap (inside (extents_of_connector inputs connector)) none ∙ h) in
      cc
  inside_comes given (and_value first rest) connector after values b e d h =
      (λ i. and_then {B = State × ℕ} (and_then {B = State} (checked (given.extents connector i) (e i)) (λ at. Ok after)) (λ next. Ok (next, 0)))
      ∙ inside_by (extents_of_connector inputs connector) values after b h

  placed_by : Holds code inputs arrays room → (at : ValueTrees) (connector : ℕ) (ops : List Op) (state : State) (meant : Meaning (List ℤ)) → count_of at ≡ dimensions_of code connector →
      ReadsAll code inputs arrays room ops state first_free (count_of at) meant → Placed (ops ++ inside_code connector first_free at) state connector (count_of at) (and_then meant (checked (extents_of_connector inputs connector)))
  placed_by given at connector ops state (Err kind) d r = comes_not arrays ops (inside_code connector first_free at) state kind r
  placed_by given at connector ops state (Ok values) d r = by_inside (inside (extents_of_connector inputs connector) values) refl
    where
      by_inside : (b : Bool) → inside (extents_of_connector inputs connector) values ≡ b → Placed (ops ++ inside_code connector first_free at) state connector (count_of at) (if b then Ok values else Err Subscript)
      by_inside true h = (r.0, r.1, r.2, h, comes_on arrays ops (inside_code connector first_free at) state r.0 (Ok r.0) r.3 (inside_comes given at connector r.0 values true r.2 d h))
      by_inside false h = comes_on arrays ops (inside_code connector first_free at) state r.0 (Err Subscript) r.3 (inside_comes given at connector r.0 values false r.2 d h)

  -- the effect of an assignment
  keep_does : (connector count : ℕ) (ops : List Op) (state : State) (now : Progress) (place : List ℤ) (meant : Meaning ℤ) → length code.ins ≤ connector → connector < length code.ins + length code.outs →
      first_free + count ≤ room.registers → Before now state → index_in state first_free count ≡ place → inside (extents_of_connector inputs connector) place ≡ true →
      Yields code inputs arrays room ops state (first_free + count) (output_register (layout_of code) connector) meant →
      Does (ops ++ Keep count connector first_free (output_register (layout_of code) connector) ∷ []) state (and_then meant (λ value. Ok (with_effect now connector place value)))
  keep_does connector count ops state now place (Err kind) low high few b e h y = comes_not arrays ops (Keep count connector first_free (output_register (layout_of code) connector) ∷ []) state kind y
  keep_does connector count ops state now place (Ok value) low high few b e h y =
      let kept : Effect = record { connector = connector; at = filled (index_in y.0 first_free count); value = register y.0 (output_register (layout_of code) connector) } in
      let index : index_in y.0 first_free count ≡ place =
      index_stays count first_free state y.0 y.1.many (omega (arith, b.many)) (λ i below above. y.1.rest i below (λ same. absurd (omega (arith, same)))) ∙ e in
      let same : told inputs kept ≡ record { connector = connector; at = place; value = value } =
      (λ i. record { connector = connector; at = map pos (take (length (extents_of_connector inputs connector)) (filled (index i))); value = y.1.value_is i })
      ∙ ap (λ at. record { connector = connector; at = at; value = value }) (front_filled (extents_of_connector inputs connector) place h) in (
        with_kept y.0 kept,
        record {
          many = y.1.many ∙ b.many;
          stands = let s = out_stands now.locals connector (first_free + count) value state y.0 low high (omega arith) b.stands y.1 in record { scalars = s.scalars; variables = s.variables; locals_are = s.locals_are };
          locals_many = b.locals_many;
          effects = map-append (told inputs) y.0.effects (kept ∷ []) ∙ (λ i. (ap (map (told inputs)) y.1.effects ∙ b.effects) i ++ same i ∷ []);
        },
        comes_on arrays ops (Keep count connector first_free (output_register (layout_of code) connector) ∷ []) state y.0 (Ok (with_kept y.0 kept)) y.2 refl,
      )

  assign_does : Holds code inputs arrays room → (connector : ℕ) (at : ValueTrees) (value : ValueTree) (now : Progress) (state : State) → SetsOf code (assign connector at value) →
      AllIn code inputs arrays room (act_code false (layout_of code) (assign connector at value)) → Before now state → Does (act_code false (layout_of code) (assign connector at value)) state (act_of inputs (assign connector at value) now)
  assign_does given connector at value now state sets all b =
      let layout = layout_of code in
      let subscripts = values_code layout first_free at in
      let checks = inside_code connector first_free at in
      let values = value_code layout (output_register layout connector) (first_free + count_of at) value in
      let keeps = Keep (count_of at) connector first_free (output_register layout connector) ∷ [] in
      let behind = all_back (IsWithin room) checks (values ++ keeps) (all_back (IsWithin room) subscripts (checks ++ (values ++ keeps)) all) in
      let few = (all_back (IsWithin room) values keeps behind).0.0.0 in
      let reads = values_run code inputs arrays room given at now.locals first_free state sets.3 (omega arith) (omega (arith, few)) (all_front (IsWithin room) subscripts (checks ++ (values ++ keeps)) all) b.many b.stands in
      does_together subscripts checks (values ++ keeps) state now (place_of inputs connector (values_of inputs now.locals at))
      (λ place. and_then (value_of inputs now.locals value) (λ value. Ok (with_effect now connector place value)))
      connector (count_of at) (placed_by given at connector subscripts state (values_of inputs now.locals at) sets.2 reads)
      (λ place after kept index h.
      let stands = still_stands code inputs arrays room now.locals first_free state after (omega arith) kept b.stands in
      let before : Before now after = record { many = kept.many ∙ b.many; stands = stands; locals_many = b.locals_many; effects = ap (map (told inputs)) kept.effects ∙ b.effects } in
      keep_does connector (count_of at) values after now place (value_of inputs now.locals value) sets.0 sets.1 (omega (arith, few)) before index h
      (value_runs code inputs arrays room given value now.locals (output_register layout connector) (first_free + count_of at) after sets.4 (omega arith) (omega (arith, sets.1)) (all_front (IsWithin room) values keeps behind) before.many stands))
    where
      does_together : (subscripts checks more : List Op) (state : State) (now : Progress) (meant : Meaning (List ℤ)) (rest : List ℤ → Meaning Progress) (connector count : ℕ) → Placed (subscripts ++ checks) state connector count meant →
          ((place : List ℤ) (after : State) → Kept first_free state after → index_in after first_free count ≡ place → inside (extents_of_connector inputs connector) place ≡ true → Does more after (rest place)) →
          Does (subscripts ++ (checks ++ more)) state (and_then meant rest)
      does_together subscripts checks more state now (Ok place) rest connector count p f =
          subst (λ ops. Does ops state (rest place)) (append_assoc subscripts checks more) (does_on (subscripts ++ checks) more state p.0 (rest place) p.4 (f place p.0 p.1 p.2 p.3))
      does_together subscripts checks more state now (Err kind) rest connector count p f =
          subst (λ ops. Comes arrays ops state (Err kind)) (append_assoc subscripts checks more) (comes_not arrays (subscripts ++ checks) more state kind p)

  -- a branch, behind its condition
  branch_by : (test : ℕ → Op) (first second : List Op) (state : State) (meant other : Meaning Progress) (b : Bool) → ((count : ℕ) → Jumps arrays (test count) state (if b then 0 else count)) → Does first state meant → Does second state other →
      Does (either_code test first second) state (if b then meant else other)
  branch_by test first second state (Ok next) other true h d e = (d.0, d.1, either_first arrays test first second state (Ok d.0) (h (length first + 1)) d.2)
  branch_by test first second state (Err kind) other true h d e = either_first arrays test first second state (Err kind) (h (length first + 1)) d
  branch_by test first second state meant (Ok next) false h d e = (e.0, e.1, either_second arrays test first second state (Ok e.0) (h (length first + 1)) e.2)
  branch_by test first second state meant (Err kind) false h d e = either_second arrays test first second state (Err kind) (h (length first + 1)) e

  branch_does : (ops more : List Op) (state : State) (now : Progress) (test : ℕ → Op) (meant : Meaning ℤ) (rest : ℤ → Meaning Progress) → Before now state → Decides code inputs arrays room ops state first_free test meant →
      ((value : ℤ) (after : State) → Before now after → ((count : ℕ) → Jumps arrays (test count) after (if holds value then 0 else count)) → Does more after (rest value)) → Does (ops ++ more) state (and_then meant rest)
  branch_does ops more state now test (Ok value) rest b r f =
      let before : Before now r.0 = record { many = r.1.many ∙ b.many; stands = still_stands code inputs arrays room now.locals first_free state r.0 (omega arith) r.1 b.stands; locals_many = b.locals_many; effects = ap (map (told inputs)) r.1.effects ∙ b.effects } in
      does_on ops more state r.0 (rest value) r.3 (f value r.0 before r.2)
  branch_does ops more state now test (Err kind) rest b r f = comes_not arrays ops more state kind r

  then_does : (ops more : List Op) (state : State) (meant : Meaning Progress) (rest : Progress → Meaning Progress) → Does ops state meant → ((next : Progress) (after : State) → Before next after → Does more after (rest next)) → Does (ops ++ more) state (and_then meant rest)
  then_does ops more state (Ok next) rest d f = does_on ops more state d.0 (rest next) d.2 (f next d.0 d.1)
  then_does ops more state (Err kind) rest d f = comes_not arrays ops more state kind d

  mutual
    pub act_runs : Holds code inputs arrays room → (act : ActTree) (now : Progress) (state : State) → SetsOf code act → AllIn code inputs arrays room (act_code false (layout_of code) act) → Before now state →
        Does (act_code false (layout_of code) act) state (act_of inputs act now)
    act_runs given (set_local number value) now state sets all b =
        set_does number (value_code (layout_of code) (local_register (layout_of code) number) first_free value) state now (value_of inputs now.locals value) sets.0 b
        (value_runs code inputs arrays room given value now.locals (local_register (layout_of code) number) first_free state sets.1 (omega arith) (omega (arith, sets.0)) all b.many b.stands)
    act_runs given (assign connector at value) now state sets all b = assign_does given connector at value now state sets all b
    act_runs given (branch when body other) now state sets all b =
        let layout = layout_of code in
        let straight = value_code layout first_free (first_free + 1) when in
        let front = condition_code layout first_free when straight in
        let test = condition_op layout first_free when in
        let first = acts_code false layout body in
        let second = acts_code false layout other in
        let behind = either_code test first second in
        let inside_behind = (all_back (IsWithin room) front behind all).1 in
        branch_does front behind state now test (value_of inputs now.locals when) (λ condition. if holds condition then acts_of inputs body now else acts_of inputs other now) b
        (condition_runs code inputs arrays room given when now.locals first_free state sets.0 (omega arith) straight
        (λ all. value_runs code inputs arrays room given when now.locals first_free (first_free + 1) state sets.0 (omega arith) (omega arith) all b.many b.stands) (all_front (IsWithin room) front behind all) b.many b.stands)
        (λ condition after before jumps. branch_by test first second after (acts_of inputs body now) (acts_of inputs other now) (holds condition) jumps
        (acts_run given body now after sets.1 (all_front (IsWithin room) first (Skip (length second) ∷ second) inside_behind) before)
        (acts_run given other now after sets.2 (all_back (IsWithin room) first (Skip (length second) ∷ second) inside_behind).1 before))

    pub acts_run : Holds code inputs arrays room → (acts : ActTrees) (now : Progress) (state : State) → AllSetsOf code acts → AllIn code inputs arrays room (acts_code false (layout_of code) acts) → Before now state →
        Does (acts_code false (layout_of code) acts) state (acts_of inputs acts now)
    acts_run given no_act now state sets all b = (state, b, refl)
    acts_run given (and_act first rest) now state sets all b =
        let ops = act_code false (layout_of code) first in
        let more = acts_code false (layout_of code) rest in
        then_does ops more state (act_of inputs first now) (acts_of inputs rest) (act_runs given first now state sets.0 (all_front (IsWithin room) ops more all) b)
        (λ next after before. acts_run given rest next after sets.1 (all_back (IsWithin room) ops more all) before)
