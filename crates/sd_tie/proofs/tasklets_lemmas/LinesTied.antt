-- What a tasklet's lines come to by code is what they come to by name.
use Rattle.std.proofs.Common.{◌≡◌, ◌∙◌, ℕ, ◌+◌, ◌-◌, ◌<◌, ◌≤◌, ℤ, List, [], ◌∷◌, ◌++◌, length, map, drop, Option, Some, None, option_map, unwrap_or, is_some, Ok, Err, Bool, true, false, cond, ◌||◌, if◌then◌else◌, slice_index_or, slice_set, refl, ap, sym, subst, arith, append_assoc}
use Rattle.std.proofs.lemmas.List.{map-append, length-set}
use Rattle.sd_lex.specs.PlainTree.{Expression, Expressions, StatementTree, set, set_at, tasklet_branch, Block, no_statement, and_statement}
use Rattle.sd_num.specs.Wrapped.{wrapped}
use Rattle.sd_range.specs.Affine.{variable_value}
use Rattle.sd_work.specs.Leaf.{Pending}
use Rattle.sd_graph.specs.TaskletMeaning as graph
use Rattle.sd_graph.specs.TaskletMeaning.{Inputs, Effect, Meaning, holds, and_then, checked, extents_of_connector, place_of}
use Rattle.sd_graph.specs.PlainTree as plain
use Rattle.sd_graph.specs.PlainTree.{ActTree, ActTrees}
use Rattle.sd_program.specs.Names.{Name, Named, in_force}
use Rattle.sd_task.specs.in_force.Names.{number_or}
use Rattle.sd_task.specs.tasklets.Code as code
use Rattle.sd_task.specs.tasklet_names.UsedNames.{is_assigned, locals_behind, next_behind, next_behind_all, used_value, used_values, used_acts, used_acts_all}
use Rattle.sd_task.specs.tasklets.Code.{followed_by}
use Rattle.sd_says.specs.Setting.{with_each}
use Rattle.sd_says.specs.Connectors.{Input, Outlet}
use Rattle.sd_says.specs.Tasklets as said
use Rattle.sd_says.specs.Tasklets.{with_local, forgetting, given_to, given_at, set_to, task_value, task_values, task_line, task_lines}
use Rattle.sd_tie.proofs.elements_lemmas.Lookups.{in_force_made}
use Rattle.sd_made.proofs.names_lemmas.UsedPlaces.{Has}
use Rattle.sd_tie.specs.tasklets.Connected.{IsAmong, SubscriptsInputs, SubscriptInputs, IsConnected, AreConnected}
use Rattle.sd_tie.proofs.tasklets_lemmas.TaskValues.{kept_value, kept_values, expression_tied, expressions_tied}
use Rattle.sd_tie.proofs.tasklets_lemmas.Locals.{value_in, Descends, descends_more, number_below, replaced_tied, pushed_tied, oldest_made, length_same}

-- both come to something that is so, or to one fault
abbrev pub Agrees : {A B : Type 0} → (A → B → Type 0) → Meaning A → Meaning B → Type 0
Agrees P (Ok value) (Ok other) = P value other
Agrees P (Ok value) (Err kind) = ⊥
Agrees P (Err kind) (Ok other) = ⊥
Agrees P (Err kind) (Err fault) = kind ≡ fault

pub agree_then : {A B C D : Type 0} (P : A → B → Type 0) (Q : C → D → Type 0) (first : Meaning A) (other : Meaning B) (f : A → Meaning C) (g : B → Meaning D) →
    Agrees P first other → ((value : A) (said : B) → P value said → Agrees Q (f value) (g said)) → Agrees Q (and_then first f) (and_then other g)
agree_then P Q (Ok value) (Ok said) f g h k = k value said h
agree_then P Q (Ok value) (Err kind) f g h k = absurd h
agree_then P Q (Err kind) (Ok said) f g h k = absurd h
agree_then P Q (Err kind) (Err fault) f g h k = h

-- the same values
pub agree_same : {A C D : Type 0} (Q : C → D → Type 0) (first other : Meaning A) (f : A → Meaning C) (g : A → Meaning D) → first ≡ other → ((value : A) → Agrees Q (f value) (g value)) → Agrees Q (and_then first f) (and_then other g)
agree_same {A} Q first other f g e k = subst (λ made. Agrees Q (and_then first f) (and_then made g)) e (go first)
  where
    go : (made : Meaning A) → Agrees Q (and_then made f) (and_then made g)
    go (Ok value) = k value
    go (Err kind) = refl

agree_if : {C D : Type 0} (Q : C → D → Type 0) (b : Bool) (f h : Meaning C) (g k : Meaning D) → Agrees Q f g → Agrees Q h k → Agrees Q (if b then f else h) (if b then g else k)
agree_if Q true f h g k a b = a
agree_if Q false f h g k a b = b

-- an effect becomes what is to be done
module _ (pend : Effect → Pending) (inputs : Inputs) (values : List ℤ) (variables ins outs : Named ℕ) (all : List ℕ) (in_names out_names : List Name)
    (are : inputs.variables ≡ map (λ variable. wrapped (variable_value values variable)) all)
    (numbered_in : (name : Name) → IsAmong in_names name → (k : ℕ) × (in_force ins name ≡ Some k))
    (numbered_out : (name : Name) → IsAmong out_names name → (k : ℕ) × (in_force outs name ≡ Some k)) (total : ℕ) where
  abbrev outlet_of : ℕ → Outlet
  outlet_of k = record { extents = slice_index_or inputs.extents k []; give = λ place value. pend (record { connector = k; at = place; value = value }) }

  abbrev pub outlets : Named Outlet
  outlets = with_each outlet_of outs

  abbrev pub inlets : Named Input
  inlets = with_each (λ k. record { extents = slice_index_or inputs.extents k []; values = slice_index_or inputs.values k [] }) ins

  abbrev pub named_values : Named ℤ
  named_values = with_each (variable_value values) variables

  abbrev WithinAll : List ℕ → Type 0
  WithinAll used = (other : ℕ) → Has used other → Has all other

  -- where both stand
  pub record Held (next : ℕ) (numbers : Named ℕ) (now : graph.Progress) (told : said.Progress) : Type 0 where
    pub locals : told.locals ≡ with_each (value_in now.locals) numbers
    pub effects : told.effects ≡ map pend now.effects
    pub order : Descends next numbers
    pub room : length now.locals ≡ total

  value_said : (numbers : Named ℕ) (now : graph.Progress) (told : said.Progress) → told.locals ≡ with_each (value_in now.locals) numbers → (expression : Expression) (start : List ℕ) →
      WithinAll (used_value variables ins outs numbers expression start) → SubscriptsInputs in_names expression →
      graph.value_of inputs now.locals (code.task_value variables ins outs all numbers expression) ≡ task_value named_values inlets outlets told.locals expression
  value_said numbers now told e expression start within c =
      expression_tied inputs values variables ins outs all in_names are numbered_in outlets now.locals numbers expression start within c
      ∙ ap (λ locals. task_value named_values inlets outlets locals expression) (sym e)

  values_said : (numbers : Named ℕ) (now : graph.Progress) (told : said.Progress) → told.locals ≡ with_each (value_in now.locals) numbers → (expressions : Expressions) (start : List ℕ) →
      WithinAll (used_values variables ins outs numbers expressions start) → SubscriptInputs in_names expressions →
      graph.values_of inputs now.locals (code.task_values variables ins outs all numbers expressions) ≡ task_values named_values inlets outlets told.locals expressions
  values_said numbers now told e expressions start within c =
      expressions_tied inputs values variables ins outs all in_names are numbered_in outlets now.locals numbers expressions start within c
      ∙ ap (λ locals. task_values named_values inlets outlets locals expressions) (sym e)

  -- ---- what used variables and numbers a line leaves

  mutual
    kept_acts : (first : StatementTree) (numbers : Named ℕ) (next : ℕ) (used : List ℕ) (other : ℕ) → Has used other → Has (used_acts variables ins outs first numbers next used) other
    kept_acts (set line name value) numbers next used other h = kept_value variables ins outs numbers value used other h
    kept_acts (set_at line name at value) numbers next used other h = kept_value variables ins outs numbers value (used_values variables ins outs numbers at used) other (kept_values variables ins outs numbers at used other h)
    kept_acts (tasklet_branch line when body last) numbers next used other h =
        kept_acts_all last numbers (next_behind_all variables ins outs body numbers next) (used_acts_all variables ins outs body numbers next (used_value variables ins outs numbers when used)) other
        (kept_acts_all body numbers next (used_value variables ins outs numbers when used) other (kept_value variables ins outs numbers when used other h))
    kept_acts statement numbers next used other h = h

    kept_acts_all : (block : Block) (numbers : Named ℕ) (next : ℕ) (used : List ℕ) (other : ℕ) → Has used other → Has (used_acts_all variables ins outs block numbers next used) other
    kept_acts_all no_statement numbers next used other h = h
    kept_acts_all (and_statement first rest) numbers next used other h =
        kept_acts_all rest (locals_behind variables ins outs first numbers next) (next_behind variables ins outs first numbers next) (used_acts variables ins outs first numbers next used) other (kept_acts first numbers next used other h)

  mutual
    grows : (first : StatementTree) (numbers : Named ℕ) (next : ℕ) → next ≤ next_behind variables ins outs first numbers next
    grows (set line name value) numbers next = go (is_assigned variables ins outs numbers name)
      where
        go : (b : Bool) → next ≤ cond b next (next + 1)
        go true = omega arith
        go false = omega arith
    grows (tasklet_branch line when body other) numbers next = omega (arith, grow body numbers next, grow other numbers (next_behind_all variables ins outs body numbers next))
    grows statement numbers next = omega arith

    grow : (block : Block) (numbers : Named ℕ) (next : ℕ) → next ≤ next_behind_all variables ins outs block numbers next
    grow no_statement numbers next = omega arith
    grow (and_statement first rest) numbers next =
        omega (arith, grows first numbers next, grow rest (locals_behind variables ins outs first numbers next) (next_behind variables ins outs first numbers next))

  -- a line leaves the numbers, with one more at most
  one_more : (first : StatementTree) (numbers : Named ℕ) (next : ℕ) → (new : Named ℕ) × (locals_behind variables ins outs first numbers next ≡ new ++ numbers)
  one_more (set line name value) numbers next = go (is_assigned variables ins outs numbers name)
    where
      go : (b : Bool) → (new : Named ℕ) × (cond b numbers ((name, next) ∷ numbers) ≡ new ++ numbers)
      go true = ([], refl)
      go false = ((name, next) ∷ [], refl)
  one_more statement numbers next = ([], refl)

  -- the code of a line alone
  abbrev one_act : Option ActTree → graph.Progress → Meaning graph.Progress
  one_act None now = Ok now
  one_act (Some act) now = graph.act_of inputs act now

  act_first : (found : Option ActTree) (rest : ActTrees) (now : graph.Progress) → graph.acts_of inputs (followed_by found rest) now ≡ and_then (one_act found now) (graph.acts_of inputs rest)
  act_first None rest now = refl
  act_first (Some act) rest now = refl

  abbrev LineTied : StatementTree → Type 0
  LineTied first =
      (numbers : Named ℕ) (next : ℕ) (start : List ℕ) (now : graph.Progress) (told : said.Progress) → Held next numbers now told → IsConnected in_names out_names first →
      next_behind variables ins outs first numbers next ≤ total → WithinAll (used_acts variables ins outs first numbers next start) →
      Agrees (Held (next_behind variables ins outs first numbers next) (locals_behind variables ins outs first numbers next)) (one_act (code.act_of variables ins outs all first numbers next) now) (task_line named_values inlets outlets first told)

  -- behind a block there may be more locals
  pub record HeldBehind (next : ℕ) (numbers : Named ℕ) (now : graph.Progress) (told : said.Progress) : Type 0 where
    pub more : Named ℕ
    pub held : Held next (more ++ numbers) now told

  abbrev LinesTied : Block → Type 0
  LinesTied block =
      (numbers : Named ℕ) (next : ℕ) (start : List ℕ) (now : graph.Progress) (told : said.Progress) → Held next numbers now told → AreConnected in_names out_names block →
      next_behind_all variables ins outs block numbers next ≤ total → WithinAll (used_acts_all variables ins outs block numbers next start) →
      Agrees (HeldBehind (next_behind_all variables ins outs block numbers next) numbers) (graph.acts_of inputs (code.acts_of variables ins outs all block numbers next) now) (task_lines named_values inlets outlets block told)

  -- ---- lines

  -- a value given to an output
  given_tied : (next : ℕ) (numbers : Named ℕ) (k : ℕ) (places : Meaning (List ℤ)) (value : Meaning ℤ) (now : graph.Progress) (told : said.Progress) → Held next numbers now told →
      Agrees (Held next numbers) (and_then (place_of inputs k places) (λ at. and_then value (λ value. Ok (graph.with_effect now k at value)))) (given_to (outlet_of k) places value told)
  given_tied next numbers k places value now told h =
      agree_same (Held next numbers) (place_of inputs k places) (place_of inputs k places) (λ at. and_then value (λ value. Ok (graph.with_effect now k at value))) _ refl
      (λ at. agree_same (Held next numbers) value value (λ value. Ok (graph.with_effect now k at value)) _ refl
      (λ value. record {
        locals = h.locals;
        effects = ap (λ effects. effects ++ pend (record { connector = k; at = at; value = value }) ∷ []) h.effects ∙ sym (map-append pend now.effects (record { connector = k; at = at; value = value } ∷ []));
        order = h.order;
        room = h.room;
      }))

  -- a local gets a value
  local_tied : (numbers : Named ℕ) (next : ℕ) (name : Name) (value : ℤ) (now : graph.Progress) (told : said.Progress) → Held next numbers now told → (found : Option ℕ) → in_force numbers name ≡ found →
      cond (is_some found) next (next + 1) ≤ total →
      Held (cond (is_some found) next (next + 1)) (cond (is_some found) numbers ((name, next) ∷ numbers)) (record now { locals = slice_set now.locals (unwrap_or found next) value }) (record told { locals = with_local name value told.locals })
  local_tied numbers next name value now told h (Some k) e b =
      let below : k < length now.locals = omega (arith, number_below next k numbers name h.order e, b, h.room) in
      record {
        locals =
            ap (λ is. if is then said.replaced name value told.locals else (name, value) ∷ told.locals)
            (ap (λ locals. is_some (in_force locals name)) h.locals ∙ ap is_some (in_force_made (value_in now.locals) numbers name ∙ ap (option_map (value_in now.locals)) e))
            ∙ ap (said.replaced name value) h.locals ∙ replaced_tied next k numbers name value now.locals h.order e below;
        effects = h.effects;
        order = h.order;
        room = length-set now.locals k value ∙ h.room;
      }
  local_tied numbers next name value now told h None e b =
      let below : next < length now.locals = omega (arith, b, h.room) in
      record {
        locals =
            ap (λ is. if is then said.replaced name value told.locals else (name, value) ∷ told.locals)
            (ap (λ locals. is_some (in_force locals name)) h.locals ∙ ap is_some (in_force_made (value_in now.locals) numbers name ∙ ap (option_map (value_in now.locals)) e))
            ∙ ap (λ locals. (name, value) ∷ locals) h.locals ∙ pushed_tied next numbers name value now.locals h.order below;
        effects = h.effects;
        order = (omega arith, h.order);
        room = length-set now.locals next value ∙ h.room;
      }

  set_tied : (line : ℕ) (name : Name) (value : Expression) → LineTied (set line name value)
  set_tied line name value numbers next start now told h connected fits within =
      subst (λ outlet. Agrees (Held (next_behind variables ins outs (set line name value) numbers next) (locals_behind variables ins outs (set line name value) numbers next))
      (graph.act_of inputs (code.assigned (in_force outs name) (number_or next numbers name) (code.task_value variables ins outs all numbers value)) now) (set_to outlet name (task_value named_values inlets outlets told.locals value) told))
      (sym (in_force_made outlet_of outs name)) (go (in_force outs name) (in_force numbers name) refl fits)
    where
      said_value : graph.value_of inputs now.locals (code.task_value variables ins outs all numbers value) ≡ task_value named_values inlets outlets told.locals value
      said_value = value_said numbers now told h.locals value start within connected

      go : (connector found : Option ℕ) → in_force numbers name ≡ found → cond (is_some connector || is_some found) next (next + 1) ≤ total →
          Agrees (Held (cond (is_some connector || is_some found) next (next + 1)) (cond (is_some connector || is_some found) numbers ((name, next) ∷ numbers)))
          (graph.act_of inputs (code.assigned connector (unwrap_or found next) (code.task_value variables ins outs all numbers value)) now)
          (set_to (option_map outlet_of connector) name (task_value named_values inlets outlets told.locals value) told)
      go (Some k) found e b =
          subst (λ made. Agrees (Held next numbers) (graph.act_of inputs (plain.assign k plain.no_value (code.task_value variables ins outs all numbers value)) now) (given_to (outlet_of k) (Ok []) made told)) said_value
          (given_tied next numbers k (Ok []) (graph.value_of inputs now.locals (code.task_value variables ins outs all numbers value)) now told h)
      go None found e b =
          agree_same (Held (cond (is_some found) next (next + 1)) (cond (is_some found) numbers ((name, next) ∷ numbers)))
          (graph.value_of inputs now.locals (code.task_value variables ins outs all numbers value)) (task_value named_values inlets outlets told.locals value)
          (λ value. Ok (record now { locals = slice_set now.locals (unwrap_or found next) value })) (λ value. Ok (record told { locals = with_local name value told.locals }))
          said_value (λ value. local_tied numbers next name value now told h found e b)

  set_at_tied : (line : ℕ) (name : Name) (at : Expressions) (value : Expression) → LineTied (set_at line name at value)
  set_at_tied line name at value numbers next start now told h connected fits within =
      let found : (k : ℕ) × (in_force outs name ≡ Some k) = numbered_out name connected.0 in
      let k : ℕ = number_or 0 outs name in
      let is : in_force outlets name ≡ Some (outlet_of k) =
      in_force_made outlet_of outs name ∙ ap (option_map outlet_of) found.1 ∙ ap (λ k. Some (outlet_of (unwrap_or k 0))) (sym found.1) in
      let places = values_said numbers now told h.locals at start (λ other g. within other (kept_value variables ins outs numbers value (used_values variables ins outs numbers at start) other g)) connected.1.0 in
      let given = value_said numbers now told h.locals value (used_values variables ins outs numbers at start) within connected.1.1 in
      subst (λ outlet. Agrees (Held next numbers) (graph.act_of inputs (plain.assign k (code.task_values variables ins outs all numbers at) (code.task_value variables ins outs all numbers value)) now)
      (given_at outlet (task_values named_values inlets outlets told.locals at) (task_value named_values inlets outlets told.locals value) told)) (sym is)
      (subst (λ made. Agrees (Held next numbers) (graph.act_of inputs (plain.assign k (code.task_values variables ins outs all numbers at) (code.task_value variables ins outs all numbers value)) now)
      (given_to (outlet_of k) (task_values named_values inlets outlets told.locals at) made told)) given
      (subst (λ made. Agrees (Held next numbers) (graph.act_of inputs (plain.assign k (code.task_values variables ins outs all numbers at) (code.task_value variables ins outs all numbers value)) now)
      (given_to (outlet_of k) made (graph.value_of inputs now.locals (code.task_value variables ins outs all numbers value)) told)) places
      (given_tied next numbers k (graph.values_of inputs now.locals (code.task_values variables ins outs all numbers at)) (graph.value_of inputs now.locals (code.task_value variables ins outs all numbers value)) now told h)))

  -- the locals of a block are forgotten behind it
  forgotten : (next last : ℕ) (numbers : Named ℕ) (before : said.Progress) (now : graph.Progress) → before.locals ≡ with_each (value_in now.locals) numbers → Descends last numbers →
      (made : Meaning graph.Progress) (told : Meaning said.Progress) → Agrees (HeldBehind next numbers) made told → Agrees (Held last numbers) made (forgetting before.locals told)
  forgotten next last numbers before now e order (Err kind) (Err fault) h = h
  forgotten next last numbers before now e order (Ok after) (Err fault) h = absurd h
  forgotten next last numbers before now e order (Err kind) (Ok told) h = absurd h
  forgotten next last numbers before now e order (Ok after) (Ok told) h =
      record {
        locals = ap (λ locals. drop (length locals - length before.locals) locals) h.held.locals
            ∙ oldest_made (value_in after.locals) h.more numbers before.locals (length_same now.locals numbers before.locals e);
        effects = h.held.effects;
        order = order;
        room = h.held.room;
      }

  branch_tied : (line : ℕ) (when : Expression) (body other : Block) → LinesTied body → LinesTied other → LineTied (tasklet_branch line when body other)
  branch_tied line when body other all_body all_other numbers next start now told h connected fits within =
      let middle : ℕ = next_behind_all variables ins outs body numbers next in
      let last : ℕ = next_behind_all variables ins outs other numbers middle in
      let asked : List ℕ = used_value variables ins outs numbers when start in
      let used : List ℕ = used_acts_all variables ins outs body numbers next asked in
      let grown : middle ≤ last = grow other numbers middle in
      let begun : next ≤ middle = grow body numbers next in
      let order : Descends last numbers = descends_more next last numbers (omega (arith, grown, begun)) h.order in
      let middle_held : Held middle numbers now told = record { locals = h.locals; effects = h.effects; order = descends_more next middle numbers begun h.order; room = h.room } in
      let first_case = forgotten middle last numbers told now h.locals order _ _
      (all_body numbers next asked now told h connected.1.0 (omega (arith, fits, grown)) (λ variable g. within variable (kept_acts_all other numbers middle used variable g))) in
      let other_case = forgotten last last numbers told now h.locals order _ _ (all_other numbers middle used now told middle_held connected.1.1 fits within) in
      agree_same (Held last numbers) (graph.value_of inputs now.locals (code.task_value variables ins outs all numbers when)) (task_value named_values inlets outlets told.locals when) _ _
      (value_said numbers now told h.locals when start
      (λ variable g. within variable (kept_acts_all other numbers middle used variable (kept_acts_all body numbers next asked variable g))) connected.0)
      (λ condition. choose (holds condition) (graph.acts_of inputs (code.acts_of variables ins outs all body numbers next) now) (graph.acts_of inputs (code.acts_of variables ins outs all other numbers middle) now)
      (task_lines named_values inlets outlets body told) (task_lines named_values inlets outlets other told) told.locals (Held last numbers) first_case other_case)
    where
      choose : (b : Bool) (f h : Meaning graph.Progress) (g k : Meaning said.Progress) (before : Named ℤ) (Q : graph.Progress → said.Progress → Type 0) → Agrees Q f (forgetting before g) → Agrees Q h (forgetting before k) →
          Agrees Q (if b then f else h) (forgetting before (if b then g else k))
      choose true f h g k before Q a b = a
      choose false f h g k before Q a b = b

  -- more locals, of the lines before
  widened : (last : ℕ) (after numbers new : Named ℕ) → after ≡ new ++ numbers → (made : Meaning graph.Progress) (told : Meaning said.Progress) → Agrees (HeldBehind last after) made told → Agrees (HeldBehind last numbers) made told
  widened last after numbers new e (Err kind) (Err fault) h = h
  widened last after numbers new e (Ok now) (Err fault) h = absurd h
  widened last after numbers new e (Err kind) (Ok told) h = absurd h
  widened last after numbers new e (Ok now) (Ok told) h =
      record { more = h.more ++ new; held = subst (λ all. Held last all now told) (ap (λ rest. h.more ++ rest) e ∙ sym (append_assoc h.more new numbers)) h.held }

  mutual
    line_tied : (first : StatementTree) → LineTied first
    line_tied (set line name value) = set_tied line name value
    line_tied (set_at line name at value) = set_at_tied line name at value
    line_tied (tasklet_branch line when body other) = branch_tied line when body other (lines_tied body) (lines_tied other)
    line_tied statement = λ numbers next start now told h connected fits within. h

    pub lines_tied : (block : Block) → LinesTied block
    lines_tied no_statement = λ numbers next start now told h connected fits within. record { more = []; held = h }
    lines_tied (and_statement first rest) = λ numbers next start now told h connected fits within.
        (let after : Named ℕ = locals_behind variables ins outs first numbers next in
        let following : ℕ = next_behind variables ins outs first numbers next in
        let used : List ℕ = used_acts variables ins outs first numbers next start in
        let new : (new : Named ℕ) × (after ≡ new ++ numbers) = one_more first numbers next in
        let last : ℕ = next_behind_all variables ins outs rest after following in
        subst (λ made. Agrees (HeldBehind last numbers) made (task_lines named_values inlets outlets (and_statement first rest) told))
        (sym (act_first (code.act_of variables ins outs all first numbers next) (code.acts_of variables ins outs all rest after following) now))
        (agree_then (Held following after) (HeldBehind last numbers) _ _ _ _
        (line_tied first numbers next start now told h connected.0 (omega (arith, fits, grow rest after following)) (λ variable g. within variable (kept_acts_all rest after following used variable g)))
        (λ now told held. widened last after numbers new.0 new.1 _ _ (lines_tied rest after following used now told held connected.1 fits within))))
