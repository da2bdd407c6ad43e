-- The states of statements stand as they are made.
use Rattle.std.proofs.Common.{◌≡◌, ◌∙◌, ℕ, ◌+◌, List, [], ◌∷◌, ◌++◌, Option, ℤ, false, refl, subst, arith}
use Rattle.sd_lex.specs.PlainTree.{Expression, StatementTree, argument_array, local_array, local_stream, for_loop, while_loop, branch, Block, no_statement, and_statement}
use Rattle.sd_graph.specs.PlainTree.{StateTrees, ItemTrees, no_item, ExitTree, GraphTree}
use Rattle.sd_graph.specs.TreeFold.{PlainState}
use Rattle.sd_graph.specs.TreeParts.{items_at, exits_at}
use Rattle.sd_program.specs.Names.{Name}
use Rattle.sd_program.specs.Declared.{states_in, states_in_all}
use Rattle.sd_elab.specs.items.Items.{items_with}
use Rattle.sd_elab.specs.states.Exits.{plainly, back_to, stepped_on}
use Rattle.sd_elab.specs.states.Standing.{Standing, behind, behind_all, state_behind, with_loop_variable}
use Rattle.sd_elab.specs.states.States.{chained, chained_all}
use Rattle.sd_made.proofs.elab_lemmas.StateCounts.{all_counted}
use Rattle.sd_tie.specs.states.Made.{IsMade, AreMade}
use Rattle.sd_made.specs.loops_shown.Shown.{ShowsOne, ShowsAll}
use Rattle.sd_tie.proofs.made_lemmas.StatesFound.{Has, has_first, has_second, Begins, all_begins, begin_items}

module _ (graphs : Name → GraphTree) (states : StateTrees) (shows : ℕ → List ℕ) where
  -- what a statement makes from a current state on, and what stands behind it
  abbrev OneMade : StatementTree → Type 0
  OneMade first =
      (at : Standing) (items : ItemTrees) (rest : ItemTrees → List PlainState) (loops : List ℕ) (n : ℕ) → Begins graphs rest → Has states at.state (chained graphs first at items rest) → ShowsOne shows first at.state at.variable loops →
      n + 1 ≡ at.state →
      (m : ℕ) × (m + 1 ≡ at.state + states_in first) × IsMade graphs states shows first at.table at.container at.variable loops n m × (later : ItemTrees) × Has states (at.state + states_in first) (rest later)

  abbrev pub AllMade : Block → Type 0
  AllMade block =
      (at : Standing) (items : ItemTrees) (exits : List ExitTree) (loops : List ℕ) (n : ℕ) → Has states at.state (chained_all graphs block at items exits) → ShowsAll shows block at.state at.variable loops → n + 1 ≡ at.state →
      (m : ℕ) × (m + 1 ≡ at.state + states_in_all block) × AreMade graphs states shows block at.table at.container at.variable loops n m × (exits_at states m ≡ exits)

  declared_made : (at : Standing) (items : ItemTrees) (rest : ItemTrees → List PlainState) (n : ℕ) → Has states at.state (rest items) → n + 1 ≡ at.state →
      (m : ℕ) × (m + 1 ≡ at.state + 0) × (n ≡ m) × (later : ItemTrees) × Has states (at.state + 0) (rest later)
  declared_made at items rest n h e =
      let same : at.state ≡ at.state + 0 = omega arith in
      (n, e ∙ same, refl, items, subst (λ number. Has states number (rest items)) same h)

  item_made : (first : StatementTree) (at : Standing) (items : ItemTrees) (rest : ItemTrees → List PlainState) (loops : List ℕ) (n : ℕ) → Begins graphs rest →
      (let new = items_with graphs first false at.table at.container at.variable no_item in
      Has states at.state ((items, plainly at.state ∷ []) ∷ rest new) → shows at.state ≡ loops → n + 1 ≡ at.state →
      (m : ℕ) × (m + 1 ≡ at.state + 1) × ((exits_at states n ≡ plainly m ∷ []) × (items_at states m ≡ new) × (shows m ≡ loops)) × (later : ItemTrees) × Has states (at.state + 1) (rest later))
  item_made first at items rest loops n begins h s e =
      let new : ItemTrees = items_with graphs first false at.table at.container at.variable no_item in
      (at.state, refl, ((h.0 n e).1, begin_items states (at.state + 1) new (rest new) (begins new) h.1 at.state refl, s), new, h.1)

  while_made : (line : ℕ) (when : Expression) (body : Block) → AllMade body → OneMade (while_loop line when body)
  while_made line when body all at items rest loops n begins h s e =
      let inside : Standing = state_behind (state_behind at) in
      let back : List ExitTree = back_to at.state [] ∷ [] in
      let A : List PlainState = chained_all graphs body inside no_item back in
      let m : ℕ = at.state + 1 + 1 + states_in_all body in
      let in_body : Has states inside.state A = has_first states (at.state + 1 + 1) A (rest no_item) h.1.1 in
      let made = all inside no_item back loops (at.state + 1) in_body s.2 refl in
      let after : Has states (at.state + (2 + states_in_all body + 1)) (rest no_item) =
      subst (λ number. Has states number (rest no_item)) (omega (arith, all_counted graphs body inside no_item back)) (has_second states (at.state + 1 + 1) A (rest no_item) h.1.1) in
      let last : m + 1 ≡ at.state + (2 + states_in_all body + 1) = omega arith in (
        m,
        last,
        (
          at.state,
          at.state + 1,
          made.0,
          (h.0 n e).1,
          ((h.1.0 at.state refl).0, s.0),
          (h.1.0 at.state refl).1,
          (begin_items states (at.state + 1 + 1) no_item A (all_begins graphs body inside no_item back) in_body (at.state + 1) refl, s.1),
          made.2,
          made.3,
          (begin_items states (at.state + (2 + states_in_all body + 1)) no_item (rest no_item) (begins no_item) after m last, s.3),
        ),
        no_item,
        after,
      )

  for_made : (line : ℕ) (name : Name) (begin : Option Expression) (end : Expression) (step : Option ℤ) (body : Block) → AllMade body → OneMade (for_loop line name begin end step body)
  for_made line name begin end step body all at items rest loops n begins h s e =
      let inside : Standing = with_loop_variable name (state_behind (state_behind at)) in
      let back : List ExitTree = back_to at.state ((at.variable, stepped_on at.variable step) ∷ []) ∷ [] in
      let A : List PlainState = chained_all graphs body inside no_item back in
      let m : ℕ = at.state + 1 + 1 + states_in_all body in
      let in_body : Has states inside.state A = has_first states (at.state + 1 + 1) A (rest no_item) h.1.1 in
      let made = all inside no_item back (loops ++ at.variable ∷ []) (at.state + 1) in_body s.2 refl in
      let after : Has states (at.state + (2 + states_in_all body + 1)) (rest no_item) =
      subst (λ number. Has states number (rest no_item)) (omega (arith, all_counted graphs body inside no_item back)) (has_second states (at.state + 1 + 1) A (rest no_item) h.1.1) in
      let last : m + 1 ≡ at.state + (2 + states_in_all body + 1) = omega arith in (
        m,
        last,
        (
          at.state,
          at.state + 1,
          made.0,
          (h.0 n e).1,
          ((h.1.0 at.state refl).0, s.0),
          (h.1.0 at.state refl).1,
          (begin_items states (at.state + 1 + 1) no_item A (all_begins graphs body inside no_item back) in_body (at.state + 1) refl, s.1),
          made.2,
          made.3,
          (begin_items states (at.state + (2 + states_in_all body + 1)) no_item (rest no_item) (begins no_item) after m last, s.3),
        ),
        no_item,
        after,
      )

  -- an `if` without `else`
  if_made : (line : ℕ) (when : Expression) (body : Block) → AllMade body → OneMade (branch line when body no_statement)
  if_made line when body all at items rest loops n begins h s e =
      let inner : Standing = state_behind at in
      let join : ℕ = at.state + 1 + states_in_all body in
      let A : List PlainState = chained_all graphs body inner no_item (plainly join ∷ []) in
      let in_body : Has states inner.state A = has_first states (at.state + 1) A (rest no_item) h.1 in
      let made = all inner no_item (plainly join ∷ []) loops at.state in_body s.1 refl in
      let after : Has states (at.state + (1 + states_in_all body + 1)) (rest no_item) =
      subst (λ number. Has states number (rest no_item)) (omega (arith, all_counted graphs body inner no_item (plainly join ∷ []))) (has_second states (at.state + 1) A (rest no_item) h.1) in
      let last : join + 1 ≡ at.state + (1 + states_in_all body + 1) = omega arith in
      let idle : items_at states join ≡ no_item = begin_items states (at.state + (1 + states_in_all body + 1)) no_item (rest no_item) (begins no_item) after join last in (
        join,
        last,
        (
          at.state,
          made.0,
          join,
          0,
          (h.0 n e).1,
          (begin_items states (at.state + 1) no_item A (all_begins graphs body inner no_item (plainly join ∷ [])) in_body at.state refl, s.0),
          made.2,
          made.3,
          (idle, s.2),
          refl,
          (idle, s.2),
        ),
        no_item,
        after,
      )

  -- an `if` with an `else`
  if_else_made : (line : ℕ) (when : Expression) (body : Block) (first : StatementTree) (others : Block) → AllMade body → AllMade (and_statement first others) → OneMade (branch line when body (and_statement first others))
  if_else_made line when body first others all_body all_other at items rest loops n begins h s e =
      let other : Block = and_statement first others in
      let inner : Standing = state_behind at in
      let second : ℕ = at.state + 1 + states_in_all body in
      let outer : Standing = state_behind (behind_all body inner) in
      let join : ℕ = second + 1 + states_in_all other in
      let A : List PlainState = chained_all graphs body inner no_item (plainly join ∷ []) in
      let B : List PlainState = chained_all graphs other outer no_item (plainly join ∷ []) in
      let in_body : Has states inner.state A = has_first states (at.state + 1) A (B ++ rest no_item) h.1 in
      let made = all_body inner no_item (plainly join ∷ []) loops at.state in_body s.1 refl in
      let behind_body : Has states (second + 1) (B ++ rest no_item) =
      subst (λ number. Has states number (B ++ rest no_item)) (omega (arith, all_counted graphs body inner no_item (plainly join ∷ []))) (has_second states (at.state + 1) A (B ++ rest no_item) h.1) in
      let in_other : Has states outer.state B = has_first states (second + 1) B (rest no_item) behind_body in
      let made_other = all_other outer no_item (plainly join ∷ []) loops second in_other s.2.1 refl in
      let after : Has states (at.state + (1 + states_in_all body + (1 + states_in_all other + 1))) (rest no_item) =
      subst (λ number. Has states number (rest no_item)) (omega (arith, all_counted graphs other outer no_item (plainly join ∷ []))) (has_second states (second + 1) B (rest no_item) behind_body) in
      let last : join + 1 ≡ at.state + (1 + states_in_all body + (1 + states_in_all other + 1)) = omega arith in (
        join,
        last,
        (
          at.state,
          made.0,
          second,
          made_other.0,
          (h.0 n e).1,
          (begin_items states (at.state + 1) no_item A (all_begins graphs body inner no_item (plainly join ∷ [])) in_body at.state refl, s.0),
          made.2,
          made.3,
          (begin_items states (second + 1) no_item B (all_begins graphs other outer no_item (plainly join ∷ [])) in_other second refl, s.2.0),
          (made_other.2.0, made_other.2.1, made_other.2.2, made_other.3),
          (begin_items states (at.state + (1 + states_in_all body + (1 + states_in_all other + 1))) no_item (rest no_item) (begins no_item) after join last, s.2.2),
        ),
        no_item,
        after,
      )

  both_made : (first : StatementTree) (rest : Block) → OneMade first → AllMade rest → AllMade (and_statement first rest)
  both_made first rest one all at items exits loops n h s e =
      let following : ItemTrees → List PlainState = λ items. chained_all graphs rest (behind first at) items exits in
      let made = one at items following loops n (λ items. all_begins graphs rest (behind first at) items exits) h s.0 e in
      let more = all (behind first at) made.3 exits loops made.0 made.4 s.1 made.1 in
      let counted : more.0 + 1 ≡ at.state + (states_in first + states_in_all rest) = more.1 ∙ omega arith in
      (more.0, counted, (made.0, made.2, more.2), more.3)

  mutual
    one_made : (first : StatementTree) → OneMade first
    one_made (argument_array line name bits extents) = λ at items rest loops n begins h s e. declared_made at items rest n h e
    one_made (local_array line name extents bits) = λ at items rest loops n begins h s e. declared_made at items rest n h e
    one_made (local_stream line name bits size) = λ at items rest loops n begins h s e. declared_made at items rest n h e
    one_made (branch line when body no_statement) = if_made line when body (all_made body)
    one_made (branch line when body (and_statement first others)) = if_else_made line when body first others (all_made body) (both_made first others (one_made first) (all_made others))
    one_made (while_loop line when body) = while_made line when body (all_made body)
    one_made (for_loop line name begin end step body) = for_made line name begin end step body (all_made body)
    one_made statement = λ at items rest loops n begins h s e. item_made statement at items rest loops n begins h s e

    pub all_made : (block : Block) → AllMade block
    all_made no_statement = λ at items exits loops n h s e. (let same : at.state ≡ at.state + 0 = omega arith in (n, e ∙ same, refl, (h.0 n e).1))
    all_made (and_statement first rest) = both_made first rest (one_made first) (all_made rest)
