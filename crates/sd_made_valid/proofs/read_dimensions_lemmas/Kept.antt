-- What is known of the open blocks is kept where statements, names and blocks are added.
use Rattle.std.proofs.Common.{◌≡◌, ◌∙◌, ◌≤◌, ℕ, List, [], ◌∷◌, ◌++◌, length, take, Bool, true, false, None, is_some, refl, ap, sym, subst, arith}
use Rattle.std.specs.List.{AllByRecursion}
use Rattle.std.proofs.lemmas.List.{take_all}
use Rattle.sd_lex.specs.PlainTree.{StatementTree}
use Rattle.sd_lex.specs.TreeFold.{block_listed}
use Rattle.sd_line.specs.declared.line.head.BlockKind.{BlockKind}
use Rattle.sd_line.specs.declared.line.head.BlockKind.TheVariants.{Tasklet}
use Rattle.sd_names.specs.declared.meaning.Meaning.{Meaning}
use Rattle.sd_names.specs.declared.meaning.Meaning.TheVariants.{Variable}
use Rattle.sd_names.specs.Names.{Name, Names, listed, put, with_meaning, all_meaning}
use Rattle.sd_context.specs.context.Context.{Opener, file, function, statement, consumer, if_block, else_block, OpenBlock}
use Rattle.sd_program.specs.Every.{Every}
use Rattle.sd_program.specs.Names.{Named, in_force}
use Rattle.sd_read.proofs.readable_lemmas.kept.Heads.{IsBody}
use Rattle.sd_read.proofs.readable_lemmas.kept.Passing.{false_is_not_true}
use Rattle.sd_read.proofs.readable_lemmas.kept.Trees.{all-joined}
use Rattle.sd_made_valid.specs.tasks.Counted.{AreCounted}
use Rattle.sd_made_valid.specs.read_dimensions.Counts.{AreNoted, Counts}
use Rattle.sd_made_valid.proofs.read_dimensions_lemmas.Connectors.{inputs_in, outputs_in, inputs-joined, outputs-joined, noted-joined, counted-joined}
use Rattle.sd_made_valid.proofs.read_dimensions_lemmas.Meanings.{AreTied, IsPlain, no_connector, plain_tied, take_put, longer, none_taken}
use Rattle.sd_made_valid.proofs.read_dimensions_lemmas.Stack.{in_task, inputs_by, outputs_by, no_task, IsStraight, unless_of, unless_so, inputs_open, outputs_open, AllCount, IsGoodOpener, IsGoodBlock, Outside, IsStack, room, outside_same}

-- ---- connectors of a block by its own

pub inputs_alike : (opener : Opener) (own other : Named ℕ → Named ℕ) (outside : Named ℕ) → ((known : Named ℕ) → own known ≡ other known) → inputs_by opener own outside ≡ inputs_by opener other outside
inputs_alike file own other outside same = refl
inputs_alike (function name) own other outside same = refl
inputs_alike (statement s) own other outside same = same []
inputs_alike (consumer line from size name element worker) own other outside same = same ((element, 0) ∷ [])
inputs_alike (if_block earlier when) own other outside same = refl
inputs_alike (else_block earlier) own other outside same = refl

pub outputs_alike : (opener : Opener) (own other : Named ℕ → Named ℕ) (outside : Named ℕ) → ((known : Named ℕ) → own known ≡ other known) → outputs_by opener own outside ≡ outputs_by opener other outside
outputs_alike file own other outside same = refl
outputs_alike (function name) own other outside same = refl
outputs_alike (statement s) own other outside same = same []
outputs_alike (consumer line from size name element worker) own other outside same = same []
outputs_alike (if_block earlier when) own other outside same = refl
outputs_alike (else_block earlier) own other outside same = refl

-- ---- a block of its own

abbrev pub begun : (containers : ℕ) (opener : Opener) (kind : BlockKind) (line depth before : ℕ) → OpenBlock
begun containers opener kind line depth before = record { opener = opener; kind = kind; line = line; depth = depth; before = record { meanings = before; containers = containers }; statements = [] }

module _ (wholes : Named ℕ) where
  -- ---- statements more in the innermost block

  -- statements without a connector that count
  pub record AreLines (ins outs : Named ℕ) (ys : List StatementTree) : Type 0 where
    pub no_input : (known : Named ℕ) → inputs_in wholes ys known ≡ known
    pub no_output : (known : Named ℕ) → outputs_in wholes ys known ≡ known
    pub hold : AllCount wholes ys
    pub noted : AreNoted wholes (block_listed ys)
    pub counted : AreCounted ins outs (block_listed ys)

  pub added : (b : OpenBlock) (outer : List OpenBlock) (meanings : List (Name × Meaning)) (may now : Bool) (ys : List StatementTree) → (now ≡ true → b.kind ≡ Tasklet → ⊥) →
      AreLines (inputs_open wholes (b ∷ outer)) (outputs_open wholes (b ∷ outer)) ys → IsStack wholes b outer meanings may → IsStack wholes (record b { statements = b.statements ++ ys }) outer meanings now
  added b outer meanings may now ys never lines good =
      let after : OpenBlock = record b { statements = b.statements ++ ys } in
      let old_ins = inputs_open wholes (b ∷ outer) in
      let old_outs = outputs_open wholes (b ∷ outer) in
      let ins : inputs_open wholes (after ∷ outer) ≡ old_ins =
      ap (in_task b.kind) (inputs_alike b.opener (inputs_in wholes (b.statements ++ ys)) (inputs_in wholes b.statements) (inputs_open wholes outer) (λ known. inputs-joined wholes b.statements ys known ∙ lines.no_input (inputs_in wholes b.statements known))) in
      let outs : outputs_open wholes (after ∷ outer) ≡ old_outs =
      ap (in_task b.kind) (outputs_alike b.opener (outputs_in wholes (b.statements ++ ys)) (outputs_in wholes b.statements) (outputs_open wholes outer) (λ known. outputs-joined wholes b.statements ys known ∙ lines.no_output (outputs_in wholes b.statements known))) in
      let more : IsGoodBlock wholes old_ins old_outs b.kind b.opener b.statements → IsGoodBlock wholes old_ins old_outs b.kind b.opener (b.statements ++ ys) =
      λ is. (
        (
          all-joined (Every (Counts wholes)) b.statements ys is.0.0 lines.hold,
          (noted-joined wholes b.statements ys is.0.1.0 lines.noted, counted-joined old_ins old_outs b.statements ys is.0.1.1 lines.counted),
        ),
        is.1,
      ) in
      let to_now : IsGoodBlock wholes old_ins old_outs b.kind b.opener b.statements → IsGoodBlock wholes (inputs_open wholes (after ∷ outer)) (outputs_open wholes (after ∷ outer)) b.kind b.opener (b.statements ++ ys) =
      λ is. subst (λ ins. IsGoodBlock wholes ins (outputs_open wholes (after ∷ outer)) b.kind b.opener (b.statements ++ ys)) (sym ins) (subst (λ outs. IsGoodBlock wholes old_ins outs b.kind b.opener (b.statements ++ ys)) (sym outs) (more is)) in
      record {
        blocks = (unless_so b.opener to_now good.blocks.0, good.blocks.1);
        tied = subst (λ ins. AreTied meanings ins (outputs_open wholes (after ∷ outer))) (sym ins) (subst (λ outs. AreTied meanings old_ins outs) (sym outs) good.tied);
        outside = good.outside;
        straight = λ may task. absurd (never may task);
      }

  -- no connector line may come
  pub off : (b : OpenBlock) (outer : List OpenBlock) (meanings : List (Name × Meaning)) (may : Bool) → IsStack wholes b outer meanings may → IsStack wholes b outer meanings false
  off b outer meanings may good = record { blocks = good.blocks; tied = good.tied; outside = good.outside; straight = λ may task. false_is_not_true may }

  -- ---- names more

  -- a name that is none of a connector, nor one of those before the block
  pub record IsFresh (b : OpenBlock) (outer : List OpenBlock) (meanings : List (Name × Meaning)) (name : Name) : Type 0 where
    pub none : (in_force (inputs_open wholes (b ∷ outer)) name ≡ None) × (in_force (outputs_open wholes (b ∷ outer)) name ≡ None)
    pub new : is_some (listed (take b.before.meanings meanings) name) ≡ false

  pub fresh_of : (b : OpenBlock) (outer : List OpenBlock) (meanings : List (Name × Meaning)) (may : Bool) (name : Name) → IsStack wholes b outer meanings may → is_some (listed meanings name) ≡ false → IsFresh b outer meanings name
  fresh_of b outer meanings may name good new =
      record { none = no_connector meanings (inputs_open wholes (b ∷ outer)) (outputs_open wholes (b ∷ outer)) name good.tied new; new = none_taken b.before.meanings meanings name new }

  fresh_kept : (b : OpenBlock) (outer : List OpenBlock) (meanings : List (Name × Meaning)) (name other : Name) (meaning : Meaning) → b.before.meanings ≤ length meanings → IsFresh b outer meanings name → IsFresh b outer meanings other →
      IsFresh b outer (put meanings name meaning) other
  fresh_kept b outer meanings name other meaning few fresh others =
      record { none = others.none; new = subst (λ taken. is_some (listed taken other) ≡ false) (sym (take_put b.before.meanings meanings name meaning few fresh.new)) others.new }

  pub plain_more : (b : OpenBlock) (outer : List OpenBlock) (meanings : List (Name × Meaning)) (may : Bool) (name : Name) (meaning : Meaning) → IsPlain meaning → IsFresh b outer meanings name →
      IsStack wholes b outer meanings may → IsStack wholes b outer (put meanings name meaning) may
  plain_more b outer meanings may name meaning plain fresh good = record {
    blocks = good.blocks;
    tied = plain_tied meanings (inputs_open wholes (b ∷ outer)) (outputs_open wholes (b ∷ outer)) name meaning plain fresh.none good.tied;
    outside = outside_same wholes meanings (put meanings name meaning) b.before.meanings outer
        (take_put b.before.meanings meanings name meaning (room wholes meanings b.before.meanings outer good.outside) fresh.new) (longer meanings name meaning) good.outside;
    straight = good.straight;
  }

  all_fresh : (b : OpenBlock) (outer : List OpenBlock) (meanings : List (Name × Meaning)) (name : Name) (meaning : Meaning) (others : List Name) → b.before.meanings ≤ length meanings → IsFresh b outer meanings name →
      AllByRecursion (IsFresh b outer meanings) others → AllByRecursion (IsFresh b outer (put meanings name meaning)) others
  all_fresh b outer meanings name meaning [] few fresh all = tt
  all_fresh b outer meanings name meaning (other ∷ others) few fresh all = (fresh_kept b outer meanings name other meaning few fresh all.0, all_fresh b outer meanings name meaning others few fresh all.1)

  pub variables_more : (b : OpenBlock) (outer : List OpenBlock) (may : Bool) (parameters : List Name) (names : Names) → AllByRecursion (IsFresh b outer names.meanings) parameters → IsStack wholes b outer names.meanings may →
      IsStack wholes b outer (all_meaning Variable names parameters).meanings may
  variables_more b outer may [] names fresh good = good
  variables_more b outer may (parameter ∷ parameters) names fresh good =
      variables_more b outer may parameters (with_meaning names parameter Variable)
      (all_fresh b outer names.meanings parameter Variable parameters (room wholes names.meanings b.before.meanings outer good.outside) fresh.0 fresh.1)
      (plain_more b outer names.meanings may parameter Variable tt fresh.0 good)

  -- ---- a block opens

  pub opens : (b : OpenBlock) (outer : List OpenBlock) (meanings after : List (Name × Meaning)) (may now : Bool) → IsStack wholes b outer meanings may → length meanings ≤ length after → take (length meanings) after ≡ meanings →
      (containers : ℕ) (opener : Opener) (kind : BlockKind) (line depth : ℕ) →
      IsGoodOpener wholes (inputs_open wholes (begun containers opener kind line depth (length meanings) ∷ b ∷ outer)) (outputs_open wholes (begun containers opener kind line depth (length meanings) ∷ b ∷ outer)) kind opener →
      AreTied after (inputs_open wholes (begun containers opener kind line depth (length meanings) ∷ b ∷ outer)) (outputs_open wholes (begun containers opener kind line depth (length meanings) ∷ b ∷ outer)) →
      (now ≡ true → kind ≡ Tasklet → IsStraight opener) → IsStack wholes (begun containers opener kind line depth (length meanings)) (b ∷ outer) after now
  opens b outer meanings after may now good few same containers opener kind line depth right tied straight = record {
    blocks = (unless_of opener ((tt, (tt, tt)), right), good.blocks);
    tied = tied;
    outside = (
      few,
      (
        subst (λ taken. AreTied taken (inputs_open wholes (b ∷ outer)) (outputs_open wholes (b ∷ outer))) (sym same) good.tied,
        subst (λ taken. Outside wholes taken b.before.meanings outer) (sym same) good.outside,
      ),
    );
    straight = λ may task. (straight may task, tt);
  }

  pub whole_taken : (meanings : List (Name × Meaning)) → take (length meanings) meanings ≡ meanings
  whole_taken meanings = take_all (length meanings) meanings (omega arith)

  -- outside of tasklets no connector is in force
  pub none_known : (b : OpenBlock) (outer : List OpenBlock) (meanings : List (Name × Meaning)) → IsBody b.kind → AreTied meanings (inputs_open wholes (b ∷ outer)) (outputs_open wholes (b ∷ outer)) → AreTied meanings [] []
  none_known b outer meanings is tied =
      subst (λ ins. AreTied meanings ins []) (no_task b.kind (inputs_by b.opener (inputs_in wholes b.statements) (inputs_open wholes outer)) is)
      (subst (λ outs. AreTied meanings (inputs_open wholes (b ∷ outer)) outs) (no_task b.kind (outputs_by b.opener (outputs_in wholes b.statements) (outputs_open wholes outer)) is) tied)

  -- and none in a block of its own there
  pub opens_body : (b : OpenBlock) (outer : List OpenBlock) (meanings : List (Name × Meaning)) (may : Bool) (containers : ℕ) (opener : Opener) (kind : BlockKind) (line depth : ℕ) → IsBody kind → AreTied meanings [] [] → IsGoodOpener wholes [] [] kind opener →
      IsStack wholes b outer meanings may → IsStack wholes (begun containers opener kind line depth (length meanings)) (b ∷ outer) meanings false
  opens_body b outer meanings may containers opener kind line depth inside none right good =
      let new : OpenBlock = begun containers opener kind line depth (length meanings) in
      let ins : inputs_open wholes (new ∷ b ∷ outer) ≡ [] = no_task kind (inputs_by opener (λ known. known) (inputs_open wholes (b ∷ outer))) inside in
      let outs : outputs_open wholes (new ∷ b ∷ outer) ≡ [] = no_task kind (outputs_by opener (λ known. known) (outputs_open wholes (b ∷ outer))) inside in
      opens b outer meanings meanings may false good (omega arith) (whole_taken meanings) containers opener kind line depth
      (subst (λ ins. IsGoodOpener wholes ins (outputs_open wholes (new ∷ b ∷ outer)) kind opener) (sym ins) (subst (λ outs. IsGoodOpener wholes [] outs kind opener) (sym outs) right))
      (subst (λ ins. AreTied meanings ins (outputs_open wholes (new ∷ b ∷ outer))) (sym ins) (subst (λ outs. AreTied meanings [] outs) (sym outs) none))
      (λ may task. false_is_not_true may)
