-- What an accepted line adds: statements, blocks, containers and connectors.
use Rattle.std.proofs.Common.{◌≡◌, ◌∙◌, ℕ, ◌≤◌, List, [], ◌∷◌, ◌++◌, length, take, Bool, true, false, ◌||◌, refl, ap, sym, subst}
use Rattle.std.specs.List.{AllByRecursion, list_any}
use Rattle.sd_lex.specs.PlainTree.{StatementTree}
use Rattle.sd_lex.specs.StatementKind.{is_connector}
use Rattle.sd_line.specs.declared.line.head.BlockKind.{BlockKind}
use Rattle.sd_line.specs.declared.line.head.BlockKind.TheVariants.{Top, Program, Scope, Tasklet}
use Rattle.sd_line.specs.line.Head.{HeadTree, statement_head}
use Rattle.sd_names.specs.declared.meaning.Meaning.{Meaning}
use Rattle.sd_names.specs.declared.meaning.Container.{Container}
use Rattle.sd_names.specs.Names.{Name, Names, put, is_free, noted}
use Rattle.sd_uses.specs.Uses.{uses}
use Rattle.sd_uses.specs.UnknownName.{is_unknown_use, assigns_unknown}
use Rattle.sd_refusal.specs.NotAForm.{is_misplaced, misuses, block_is_misplaced, map_is_misplaced, set_is_misplaced}
use Rattle.sd_uses.specs.Twice.{declares}
use Rattle.sd_refusal.specs.declared.site.Site.{Site}
use Rattle.sd_context.specs.context.Context.{Opener, file, function, statement, consumer, if_block, else_block, OpenBlock, Context}
use Rattle.sd_program.specs.Every.{Every}
use Rattle.sd_program.specs.Names.{Named}
use Rattle.sd_read.proofs.readable_lemmas.kept.Heads.{IsTaskletStatement, Fits, IsBody}
use Rattle.sd_read.proofs.readable_lemmas.kept.NewNames.{declares_new}
use Rattle.sd_read.proofs.readable_lemmas.kept.Passing.{Passes, neither, false_is_not_true}
use Rattle.sd_read.proofs.readable_lemmas.kept.Trees.{all-more}
use Rattle.sd_made_valid.proofs.read_shapes_lemmas.Declared.{free_unlisted, all_free}
use Rattle.sd_made_valid.specs.tasks.Counted.{IsCounted}
use Rattle.sd_made_valid.specs.read_dimensions.Counts.{input_with, output_with, IsNoted, Counts}
use Rattle.sd_made_valid.proofs.read_dimensions_lemmas.Connectors.{inputs_in, outputs_in, inputs-joined, outputs-joined, noted-joined, AreConnectors, connectors_counted}
use Rattle.sd_made_valid.proofs.read_dimensions_lemmas.Meanings.{AreTied}
use Rattle.sd_made_valid.proofs.read_dimensions_lemmas.Wholes.{whole_dimensions}
use Rattle.sd_made_valid.proofs.read_dimensions_lemmas.Stack.{in_task, inputs_by, outputs_by, IsStraight, unless_so, inputs_open, outputs_open, IsGoodOpener, IsGoodBlock, IsStack, AreWholes, IsGoodBy, outside_same, all_more, stack_more}
use Rattle.sd_made_valid.proofs.read_dimensions_lemmas.Kept.{inputs_alike, outputs_alike, begun, AreLines, added, off, IsFresh, fresh_of, none_known, opens_body}
use Rattle.sd_made_valid.proofs.read_dimensions_lemmas.Held.{one_more, held_more}

-- ---- what is known of a line

pub unknown_uses : (names : Names) (site : Site) (head : HeadTree) → Passes names site head → list_any (is_unknown_use names) (uses site.kind head) ≡ false
unknown_uses names site head passed = (neither (assigns_unknown names head) (list_any (is_unknown_use names) (uses site.kind head)) passed.known).1

pub wrong_uses : (names : Names) (site : Site) (head : HeadTree) → Passes names site head → list_any (misuses names) (uses site.kind head) ≡ false
wrong_uses names site head passed = (neither (is_misplaced names site head) (list_any (misuses names) (uses site.kind head)) passed.form).1

pub well_placed : (names : Names) (site : Site) (s : StatementTree) → Passes names site (statement_head s) → set_is_misplaced names s ≡ false
well_placed names site s passed =
    (neither (block_is_misplaced site.kind s || map_is_misplaced s) (set_is_misplaced names s) (neither (is_misplaced names site (statement_head s)) (list_any (misuses names) (uses site.kind (statement_head s))) passed.form).0).1

-- a statement that stands in no tasklet
pub body_of : (kind : BlockKind) (s : StatementTree) → (IsTaskletStatement s → ⊥) → Fits kind (statement_head s) → IsBody kind
body_of Top s none fit = absurd fit
body_of Program s none fit = tt
body_of Scope s none fit = tt
body_of Tasklet s none fit = absurd (none fit)

module _ (context : Context) (wholes : Named ℕ) (good : IsGoodBy wholes context.block context.outer context.names context.connects context.arguments) where
  abbrev pub names : Names
  names = context.names

  abbrev pub meanings : List (Name × Meaning)
  meanings = context.names.meanings

  abbrev pub ins : Named ℕ
  ins = inputs_open wholes (context.block ∷ context.outer)

  abbrev pub outs : Named ℕ
  outs = outputs_open wholes (context.block ∷ context.outer)

  pub quiet : IsStack wholes context.block context.outer meanings false
  quiet = off wholes context.block context.outer meanings context.connects good.stack

  -- a name that is free is that of no connector
  pub fresh : (name : Name) → is_free names name ≡ true → IsFresh wholes context.block context.outer meanings name
  fresh name free = fresh_of wholes context.block context.outer meanings context.connects name good.stack (free_unlisted names name free).0

  pub new_names : (site : Site) (head : HeadTree) → Passes names site head → AllByRecursion (λ name. is_free names name ≡ true) (declares names head)
  new_names site head passed = all_free names [] (declares names head) (declares_new names site head passed)

  -- a line that is one statement without a connector, in the innermost block
  pub leaf : (s : StatementTree) → ((known : Named ℕ) → input_with wholes s known ≡ known) → ((known : Named ℕ) → output_with wholes s known ≡ known) → Every (Counts wholes) s → IsNoted wholes s → IsCounted ins outs s →
      IsStack wholes (record context.block { statements = context.block.statements ++ s ∷ [] }) context.outer meanings false
  leaf s no_in no_out counts noted counted =
      let lines : AreLines wholes ins outs (s ∷ []) = record { no_input = no_in; no_output = no_out; hold = (counts, tt); noted = (noted, tt); counted = (counted, tt) } in
      added wholes context.block context.outer meanings context.connects false (s ∷ []) (λ may task. false_is_not_true may) lines good.stack

  -- with the same containers
  pub as_before : (b : OpenBlock) (outer : List OpenBlock) (after : Names) (may : Bool) → after.containers ≡ names.containers → after.declared ≡ names.declared → IsStack wholes b outer after.meanings may → IsGoodBy wholes b outer after may context.arguments
  as_before b outer after may containers declared stack = record {
    stack = stack;
    held = subst (λ containers. AreWholes wholes containers after.declared) (sym containers) (subst (λ declared. AreWholes wholes names.containers declared) (sym declared) good.held);
    arguments = good.arguments;
  }

  pub one_leaf : (s : StatementTree) → ((known : Named ℕ) → input_with wholes s known ≡ known) → ((known : Named ℕ) → output_with wholes s known ≡ known) → Every (Counts wholes) s → IsNoted wholes s → IsCounted ins outs s →
      IsGoodBy wholes (record context.block { statements = context.block.statements ++ s ∷ [] }) context.outer names false context.arguments
  one_leaf s no_in no_out counts noted counted = as_before _ context.outer names false refl refl (leaf s no_in no_out counts noted counted)

  -- outside of tasklets no connector is in force
  pub none_in : (s : StatementTree) → (IsTaskletStatement s → ⊥) → Fits context.block.kind (statement_head s) → AreTied meanings [] []
  none_in s none fit = none_known wholes context.block context.outer meanings (body_of context.block.kind s none fit) good.stack.tied

  pub body_opens : (opener : Opener) (kind : BlockKind) (line depth : ℕ) → IsBody kind → AreTied meanings [] [] → IsGoodOpener wholes [] [] kind opener →
      IsStack wholes (begun (length names.containers) opener kind line depth (length meanings)) (context.block ∷ context.outer) meanings false
  body_opens opener kind line depth inside none right = opens_body wholes context.block context.outer meanings context.connects (length names.containers) opener kind line depth inside none right good.stack

  -- names that are new are none in a block of its own either
  pub opened_fresh : (b : OpenBlock) (outer : List OpenBlock) → IsStack wholes b outer meanings false → (wanted : List Name) → AllByRecursion (λ name. is_free names name ≡ true) wanted → AllByRecursion (IsFresh wholes b outer meanings) wanted
  opened_fresh b outer stack [] free = tt
  opened_fresh b outer stack (name ∷ wanted) free = (fresh_of wholes b outer meanings false name stack (free_unlisted names name free.0).0, opened_fresh b outer stack wanted free.1)

  -- ---- a container more

  -- a statement that declares it
  pub declaring : (s : StatementTree) (name : Name) (found : Container) → is_free names name ≡ true → ((more : Named ℕ) (known : Named ℕ) → input_with more s known ≡ known) → ((more : Named ℕ) (known : Named ℕ) → output_with more s known ≡ known) →
      ((more : Named ℕ) → IsNoted more s) → ((ins outs : Named ℕ) → IsCounted ins outs s) → Every (Counts ((name, whole_dimensions found) ∷ wholes)) s →
      (more : Named ℕ) × IsGoodBy more (record context.block { statements = context.block.statements ++ s ∷ [] }) context.outer (record names { containers = put names.containers name found; declared = noted names.declared name }) false context.arguments
  declaring s name found free no_in no_out noted counted counts =
      let more : Named ℕ = (name, whole_dimensions found) ∷ wholes in
      let has = one_more wholes names good.held name (whole_dimensions found) free in
      let lines : AreLines more (inputs_open more (context.block ∷ context.outer)) (outputs_open more (context.block ∷ context.outer)) (s ∷ []) =
      record { no_input = no_in more; no_output = no_out more; hold = (counts, tt); noted = (noted more, tt); counted = (counted _ _, tt) } in (
        more,
        record {
          stack = added more context.block context.outer meanings context.connects false (s ∷ []) (λ may task. false_is_not_true may) lines (stack_more wholes more has context.block context.outer meanings context.connects good.stack);
          held = held_more wholes names good.held name found free;
          arguments = all_more wholes more has context.arguments good.arguments;
        },
      )

  -- ---- connectors

  task_connectors : (kind : BlockKind) (connectors : Named ℕ) → kind ≡ Tasklet → in_task kind connectors ≡ connectors
  task_connectors kind connectors is = ap (λ kind. in_task kind connectors) is

  -- those of a block that is a whole tasklet, with one more
  straight_inputs : (opener : Opener) (own more : Named ℕ → Named ℕ) (outside : Named ℕ) → IsStraight opener → inputs_by opener (λ known. more (own known)) outside ≡ more (inputs_by opener own outside)
  straight_inputs file own more outside straight = absurd straight
  straight_inputs (function name) own more outside straight = absurd straight
  straight_inputs (statement s) own more outside straight = refl
  straight_inputs (consumer line from size name element worker) own more outside straight = refl
  straight_inputs (if_block earlier when) own more outside straight = absurd straight
  straight_inputs (else_block earlier) own more outside straight = absurd straight

  straight_outputs : (opener : Opener) (own more : Named ℕ → Named ℕ) (outside : Named ℕ) → IsStraight opener → outputs_by opener (λ known. more (own known)) outside ≡ more (outputs_by opener own outside)
  straight_outputs file own more outside straight = absurd straight
  straight_outputs (function name) own more outside straight = absurd straight
  straight_outputs (statement s) own more outside straight = refl
  straight_outputs (consumer line from size name element worker) own more outside straight = refl
  straight_outputs (if_block earlier when) own more outside straight = absurd straight
  straight_outputs (else_block earlier) own more outside straight = absurd straight

  straight_right : (in_names out_names in_after out_after : Named ℕ) (kind : BlockKind) (opener : Opener) → IsStraight opener → IsGoodOpener wholes in_names out_names kind opener → IsGoodOpener wholes in_after out_after kind opener
  straight_right in_names out_names in_after out_after kind file straight right = absurd straight
  straight_right in_names out_names in_after out_after kind (function name) straight right = absurd straight
  straight_right in_names out_names in_after out_after kind (statement s) straight right = tt
  straight_right in_names out_names in_after out_after kind (consumer line from size name element worker) straight right = right
  straight_right in_names out_names in_after out_after kind (if_block earlier when) straight right = absurd straight
  straight_right in_names out_names in_after out_after kind (else_block earlier) straight right = absurd straight

  -- a connector more, by its line
  pub connector_more : (s : StatementTree) (after : List (Name × Meaning)) → is_connector s ≡ true → context.block.kind ≡ Tasklet → IsStraight context.block.opener × AreConnectors context.block.statements → Every (Counts wholes) s → IsNoted wholes s →
      AreTied after (input_with wholes s ins) (output_with wholes s outs) → take context.block.before.meanings after ≡ take context.block.before.meanings meanings → length meanings ≤ length after →
      IsStack wholes (record context.block { statements = context.block.statements ++ s ∷ [] }) context.outer after true
  connector_more s after is task straight counts noted tied same more =
      let b = context.block in
      let outer = context.outer in
      let all : AreConnectors (b.statements ++ s ∷ []) = all-more (λ s. is_connector s ≡ true) b.statements s straight.1 is in
      let now : OpenBlock = record b { statements = b.statements ++ s ∷ [] } in
      let new_ins : inputs_open wholes (now ∷ outer) ≡ input_with wholes s ins =
      task_connectors b.kind (inputs_by b.opener (inputs_in wholes (b.statements ++ s ∷ [])) (inputs_open wholes outer)) task
      ∙ inputs_alike b.opener (inputs_in wholes (b.statements ++ s ∷ [])) (λ known. input_with wholes s (inputs_in wholes b.statements known)) (inputs_open wholes outer) (λ known. inputs-joined wholes b.statements (s ∷ []) known)
      ∙ straight_inputs b.opener (inputs_in wholes b.statements) (input_with wholes s) (inputs_open wholes outer) straight.0
      ∙ ap (input_with wholes s) (sym (task_connectors b.kind (inputs_by b.opener (inputs_in wholes b.statements) (inputs_open wholes outer)) task)) in
      let new_outs : outputs_open wholes (now ∷ outer) ≡ output_with wholes s outs =
      task_connectors b.kind (outputs_by b.opener (outputs_in wholes (b.statements ++ s ∷ [])) (outputs_open wholes outer)) task
      ∙ outputs_alike b.opener (outputs_in wholes (b.statements ++ s ∷ [])) (λ known. output_with wholes s (outputs_in wholes b.statements known)) (outputs_open wholes outer) (λ known. outputs-joined wholes b.statements (s ∷ []) known)
      ∙ straight_outputs b.opener (outputs_in wholes b.statements) (output_with wholes s) (outputs_open wholes outer) straight.0
      ∙ ap (output_with wholes s) (sym (task_connectors b.kind (outputs_by b.opener (outputs_in wholes b.statements) (outputs_open wholes outer)) task)) in
      let block_now : IsGoodBlock wholes ins outs b.kind b.opener b.statements → IsGoodBlock wholes (inputs_open wholes (now ∷ outer)) (outputs_open wholes (now ∷ outer)) b.kind b.opener (b.statements ++ s ∷ []) =
      λ before. (
        (
          all-more (Every (Counts wholes)) b.statements s before.0.0 counts,
          (noted-joined wholes b.statements (s ∷ []) before.0.1.0 (noted, tt), connectors_counted (inputs_open wholes (now ∷ outer)) (outputs_open wholes (now ∷ outer)) (b.statements ++ s ∷ []) all),
        ),
        straight_right ins outs (inputs_open wholes (now ∷ outer)) (outputs_open wholes (now ∷ outer)) b.kind b.opener straight.0 before.1,
      ) in
      record {
        blocks = (unless_so b.opener block_now good.stack.blocks.0, good.stack.blocks.1);
        tied = subst (λ ins. AreTied after ins (outputs_open wholes (now ∷ outer))) (sym new_ins) (subst (λ outs. AreTied after (input_with wholes s ins) outs) (sym new_outs) tied);
        outside = outside_same wholes meanings after b.before.meanings outer same more good.stack.outside;
        straight = λ may task. (straight.0, all);
      }
