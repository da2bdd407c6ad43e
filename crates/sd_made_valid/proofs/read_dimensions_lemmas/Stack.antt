-- What is known of the open blocks: the connectors of the tasklet that is open with their dimensions, and that all which was read counts.
use Rattle.std.proofs.Common.{◌≡◌, ◌∙◌, ◌≤◌, ℕ, List, [], ◌∷◌, length, take, Bool, true, false, Some, refl, ap, sym, subst, arith}
use Rattle.std.specs.Bool.{⊤}
use Rattle.std.specs.List.{AllByRecursion}
use Rattle.sd_lex.specs.PlainTree.{StatementTree}
use Rattle.sd_lex.specs.TreeFold.{block_listed}
use Rattle.sd_line.specs.declared.line.head.BlockKind.{BlockKind}
use Rattle.sd_line.specs.declared.line.head.BlockKind.TheVariants.{Top, Program, Scope, Tasklet}
use Rattle.sd_names.specs.declared.meaning.Meaning.{Meaning}
use Rattle.sd_names.specs.declared.meaning.Container.{Container}
use Rattle.sd_names.specs.Names.{Name, Names, is_among}
use Rattle.sd_refusal.specs.OverLimit.{is_tasklet}
use Rattle.sd_context.specs.context.Context.{Branch, Opener, file, function, statement, consumer, if_block, else_block, OpenBlock, Context}
use Rattle.sd_program.specs.Every.{Every}
use Rattle.sd_program.specs.Names.{Named, in_force}
use Rattle.sd_read.proofs.readable_lemmas.kept.Heads.{IsBody, IsFile}
use Rattle.sd_made_valid.proofs.read_shapes_lemmas.Blocks.{all_so}
use Rattle.sd_made_valid.specs.tasks.Counted.{CountsInputs, AreCounted}
use Rattle.sd_made_valid.specs.read_dimensions.Counts.{AreNoted, Counts, CountsOf}
use Rattle.sd_made_valid.proofs.read_dimensions_lemmas.Connectors.{inputs_in, outputs_in, AreConnectors, HasMore, noted_more, inputs_more, outputs_more, counts_more}
use Rattle.sd_made_valid.proofs.read_dimensions_lemmas.Meanings.{AreTied}
use Rattle.sd_made_valid.proofs.read_dimensions_lemmas.Wholes.{AreKnown}

-- ---- connectors of the tasklet that is open

abbrev pub in_task : BlockKind → Named ℕ → Named ℕ
in_task Tasklet connectors = connectors
in_task kind connectors = []

-- with connectors of its own, and those of the block about it
abbrev pub inputs_by : Opener → (own : Named ℕ → Named ℕ) → (outside : Named ℕ) → Named ℕ
inputs_by file own outside = []
inputs_by (function name) own outside = []
inputs_by (statement s) own outside = own []
inputs_by (consumer line from size name element worker) own outside = own ((element, 0) ∷ [])
inputs_by (if_block earlier when) own outside = outside
inputs_by (else_block earlier) own outside = outside

abbrev pub outputs_by : Opener → (own : Named ℕ → Named ℕ) → (outside : Named ℕ) → Named ℕ
outputs_by file own outside = []
outputs_by (function name) own outside = []
outputs_by (statement s) own outside = own []
outputs_by (consumer line from size name element worker) own outside = own []
outputs_by (if_block earlier when) own outside = outside
outputs_by (else_block earlier) own outside = outside

-- outside of tasklets there are none
pub no_task : (kind : BlockKind) (connectors : Named ℕ) → IsBody kind → in_task kind connectors ≡ []
no_task Top connectors is = absurd is
no_task Program connectors is = refl
no_task Scope connectors is = refl
no_task Tasklet connectors is = absurd is

-- ---- what was read

abbrev pub IfTask : BlockKind → Type 0 → Type 0
IfTask Tasklet P = P
IfTask kind P = ⊤

abbrev pub IsSome : List Branch → Type 0
IsSome [] = ⊥
IsSome (b ∷ branches) = ⊤

-- a block has connector lines only where it is a whole tasklet
abbrev pub IsStraight : Opener → Type 0
IsStraight (statement s) = ⊤
IsStraight (consumer line from size name element worker) = ⊤
IsStraight opener = ⊥

-- nothing is asked of the file
abbrev pub Unless : Opener → Type 0 → Type 0
Unless file P = ⊤
Unless opener P = P

pub unless_of : {P : Type 0} (opener : Opener) → P → Unless opener P
unless_of file holds = tt
unless_of (function name) holds = holds
unless_of (statement s) holds = holds
unless_of (consumer line from size name element worker) holds = holds
unless_of (if_block earlier when) holds = holds
unless_of (else_block earlier) holds = holds

pub unless_so : {P Q : Type 0} (opener : Opener) → (P → Q) → Unless opener P → Unless opener Q
unless_so file so holds = tt
unless_so (function name) so holds = so holds
unless_so (statement s) so holds = so holds
unless_so (consumer line from size name element worker) so holds = so holds
unless_so (if_block earlier when) so holds = so holds
unless_so (else_block earlier) so holds = so holds

module _ (wholes : Named ℕ) where
  abbrev pub inputs_open : List OpenBlock → Named ℕ
  inputs_open [] = []
  inputs_open (b ∷ outer) = in_task b.kind (inputs_by b.opener (inputs_in wholes b.statements) (inputs_open outer))

  abbrev pub outputs_open : List OpenBlock → Named ℕ
  outputs_open [] = []
  outputs_open (b ∷ outer) = in_task b.kind (outputs_by b.opener (outputs_in wholes b.statements) (outputs_open outer))

  abbrev pub AllCount : List StatementTree → Type 0
  AllCount statements = AllByRecursion (Every (Counts wholes)) statements

  abbrev pub IsGoodBranch : (ins outs : Named ℕ) → BlockKind → Branch → Type 0
  IsGoodBranch ins outs kind b = AllCount b.statements × IfTask kind (CountsInputs ins b.when × AreCounted ins outs (block_listed b.statements))

  abbrev pub IsGoodOpener : (ins outs : Named ℕ) → BlockKind → Opener → Type 0
  IsGoodOpener ins outs kind (if_block earlier when) = AllByRecursion (IsGoodBranch ins outs kind) earlier × IfTask kind (CountsInputs ins when)
  IsGoodOpener ins outs kind (else_block earlier) = AllByRecursion (IsGoodBranch ins outs kind) earlier × IsSome earlier
  IsGoodOpener ins outs kind (consumer line from size name element worker) = is_tasklet kind ≡ false → in_force wholes element ≡ Some 0
  IsGoodOpener ins outs kind opener = ⊤

  abbrev pub IsGoodBlock : (ins outs : Named ℕ) → BlockKind → Opener → List StatementTree → Type 0
  IsGoodBlock ins outs kind opener statements =
      (AllCount statements × (AreNoted wholes (block_listed statements) × AreCounted ins outs (block_listed statements))) × IsGoodOpener ins outs kind opener

  abbrev pub AreGood : List OpenBlock → Type 0
  AreGood [] = ⊤
  AreGood (b ∷ outer) = Unless b.opener (IsGoodBlock (inputs_open (b ∷ outer)) (outputs_open (b ∷ outer)) b.kind b.opener b.statements) × AreGood outer

  -- before the innermost block so many names were in force; the connectors among them are those of the blocks about it
  abbrev pub Outside : List (Name × Meaning) → (before : ℕ) → List OpenBlock → Type 0
  Outside meanings before [] = before ≤ length meanings
  Outside meanings before (about ∷ outer) =
      (before ≤ length meanings) × (AreTied (take before meanings) (inputs_open (about ∷ outer)) (outputs_open (about ∷ outer)) × Outside (take before meanings) about.before.meanings outer)

  pub record IsStack (b : OpenBlock) (outer : List OpenBlock) (meanings : List (Name × Meaning)) (may : Bool) : Type 0 where
    pub blocks : AreGood (b ∷ outer)
    pub tied : AreTied meanings (inputs_open (b ∷ outer)) (outputs_open (b ∷ outer))
    pub outside : Outside meanings b.before.meanings outer
    pub straight : may ≡ true → b.kind ≡ Tasklet → IsStraight b.opener × AreConnectors b.statements

  -- the containers in force are counted, and no others than were declared
  pub record AreWholes (containers : List (Name × Container)) (declared : List Name) : Type 0 where
    pub known : AreKnown wholes containers
    pub fresh : (name : Name) (count : ℕ) → in_force wholes name ≡ Some count → is_among declared name ≡ true

  pub record IsGoodBy (b : OpenBlock) (outer : List OpenBlock) (names : Names) (may : Bool) (given : List StatementTree) : Type 0 where
    pub stack : IsStack b outer names.meanings may
    pub held : AreWholes names.containers names.declared
    pub arguments : AllCount given

  -- ---- names in force before a block

  pub room : (meanings : List (Name × Meaning)) (before : ℕ) (outer : List OpenBlock) → Outside meanings before outer → before ≤ length meanings
  room meanings before [] outside = outside
  room meanings before (about ∷ outer) outside = outside.0

  -- where there are more names behind them
  pub outside_same : (meanings after : List (Name × Meaning)) (before : ℕ) (outer : List OpenBlock) → take before after ≡ take before meanings → length meanings ≤ length after → Outside meanings before outer → Outside after before outer
  outside_same meanings after before [] same more outside = omega (arith, more, outside)
  outside_same meanings after before (about ∷ outer) same more outside = (
    omega (arith, more, outside.0),
    (
      subst (λ taken. AreTied taken (inputs_open (about ∷ outer)) (outputs_open (about ∷ outer))) (sym same) outside.1.0,
      subst (λ taken. Outside taken about.before.meanings outer) (sym same) outside.1.1,
    ),
  )

-- it holds of all that was read
abbrev pub IsGood : Context → Type 0
IsGood context = ((wholes : Named ℕ) × IsGoodBy wholes context.block context.outer context.names context.connects context.arguments) × AllByRecursion CountsOf context.functions

-- the file is about a program, whatever containers that has
pub file_stack : (wholes other : Named ℕ) (b : OpenBlock) (outer : List OpenBlock) (meanings : List (Name × Meaning)) (may : Bool) → b.kind ≡ Top → outer ≡ [] → IsFile b.opener → IsStack wholes b outer meanings may → IsStack other b outer meanings may
file_stack wholes other b (about ∷ outer) meanings may top none is good = cc
file_stack wholes other b [] meanings may top none is good = record {
  blocks = (unless_file (IsGoodBlock other (inputs_open other (b ∷ [])) (outputs_open other (b ∷ [])) b.kind b.opener b.statements) b.opener is, tt);
  tied = subst (λ ins. AreTied meanings ins (outputs_open other (b ∷ []))) (at_top (inputs_by b.opener (inputs_in wholes b.statements) []) (inputs_by b.opener (inputs_in other b.statements) []))
      (subst (λ outs. AreTied meanings (inputs_open wholes (b ∷ [])) outs) (at_top (outputs_by b.opener (outputs_in wholes b.statements) []) (outputs_by b.opener (outputs_in other b.statements) [])) good.tied);
  outside = good.outside;
  straight = good.straight;
} where
  unless_file : (P : Type 0) (opener : Opener) → IsFile opener → Unless opener P
  unless_file P file is = tt
  unless_file P opener is = absurd is

  at_top : (first second : Named ℕ) → in_task b.kind first ≡ in_task b.kind second
  at_top first second = ap (λ kind. in_task kind first) top ∙ ap (λ kind. in_task kind second) (sym top)

-- ---- more containers

module _ (wholes more : Named ℕ) (has : HasMore wholes more) where
  pub all_more : (statements : List StatementTree) → AllCount wholes statements → AllCount more statements
  all_more = all_so (Counts wholes) (Counts more) (counts_more wholes more has)

  own_inputs : (ins outs : Named ℕ) (kind : BlockKind) (opener : Opener) (statements : List StatementTree) (first second : Named ℕ) → Unless opener (IsGoodBlock wholes ins outs kind opener statements) → first ≡ second →
      inputs_by opener (inputs_in more statements) first ≡ inputs_by opener (inputs_in wholes statements) second
  own_inputs ins outs kind file statements first second good same = refl
  own_inputs ins outs kind (function name) statements first second good same = refl
  own_inputs ins outs kind (statement s) statements first second good same = inputs_more wholes more has (block_listed statements) [] good.0.1.0
  own_inputs ins outs kind (consumer line from size name element worker) statements first second good same = inputs_more wholes more has (block_listed statements) ((element, 0) ∷ []) good.0.1.0
  own_inputs ins outs kind (if_block earlier when) statements first second good same = same
  own_inputs ins outs kind (else_block earlier) statements first second good same = same

  inputs_same : (blocks : List OpenBlock) → AreGood wholes blocks → inputs_open more blocks ≡ inputs_open wholes blocks
  inputs_same [] good = refl
  inputs_same (b ∷ outer) good =
      ap (in_task b.kind) (own_inputs (inputs_open wholes (b ∷ outer)) (outputs_open wholes (b ∷ outer)) b.kind b.opener b.statements (inputs_open more outer) (inputs_open wholes outer) good.0 (inputs_same outer good.1))

  own_outputs : (ins outs : Named ℕ) (kind : BlockKind) (opener : Opener) (statements : List StatementTree) (first second : Named ℕ) → Unless opener (IsGoodBlock wholes ins outs kind opener statements) → first ≡ second →
      outputs_by opener (outputs_in more statements) first ≡ outputs_by opener (outputs_in wholes statements) second
  own_outputs ins outs kind file statements first second good same = refl
  own_outputs ins outs kind (function name) statements first second good same = refl
  own_outputs ins outs kind (statement s) statements first second good same = outputs_more wholes more has (block_listed statements) [] good.0.1.0
  own_outputs ins outs kind (consumer line from size name element worker) statements first second good same = outputs_more wholes more has (block_listed statements) [] good.0.1.0
  own_outputs ins outs kind (if_block earlier when) statements first second good same = same
  own_outputs ins outs kind (else_block earlier) statements first second good same = same

  outputs_same : (blocks : List OpenBlock) → AreGood wholes blocks → outputs_open more blocks ≡ outputs_open wholes blocks
  outputs_same [] good = refl
  outputs_same (b ∷ outer) good =
      ap (in_task b.kind) (own_outputs (inputs_open wholes (b ∷ outer)) (outputs_open wholes (b ∷ outer)) b.kind b.opener b.statements (outputs_open more outer) (outputs_open wholes outer) good.0 (outputs_same outer good.1))

  branches_more : (ins outs : Named ℕ) (kind : BlockKind) (branches : List Branch) → AllByRecursion (IsGoodBranch wholes ins outs kind) branches → AllByRecursion (IsGoodBranch more ins outs kind) branches
  branches_more ins outs kind [] all = tt
  branches_more ins outs kind (b ∷ branches) all = ((all_more b.statements all.0.0, all.0.1), branches_more ins outs kind branches all.1)

  opener_more : (ins outs : Named ℕ) (kind : BlockKind) (opener : Opener) → IsGoodOpener wholes ins outs kind opener → IsGoodOpener more ins outs kind opener
  opener_more ins outs kind (if_block earlier when) good = (branches_more ins outs kind earlier good.0, good.1)
  opener_more ins outs kind (else_block earlier) good = (branches_more ins outs kind earlier good.0, good.1)
  opener_more ins outs kind (consumer line from size name element worker) good = λ none. has element 0 (good none)
  opener_more ins outs kind opener good = tt

  block_more : (ins outs : Named ℕ) (kind : BlockKind) (opener : Opener) (statements : List StatementTree) → IsGoodBlock wholes ins outs kind opener statements → IsGoodBlock more ins outs kind opener statements
  block_more ins outs kind opener statements good =
      ((all_more statements good.0.0, (noted_more wholes more has (block_listed statements) good.0.1.0, good.0.1.1)), opener_more ins outs kind opener good.1)

  good_more : (blocks : List OpenBlock) → AreGood wholes blocks → AreGood more blocks
  good_more [] good = tt
  good_more (b ∷ outer) good =
      let now : Unless b.opener (IsGoodBlock more (inputs_open wholes (b ∷ outer)) (outputs_open wholes (b ∷ outer)) b.kind b.opener b.statements) =
      unless_so b.opener (block_more (inputs_open wholes (b ∷ outer)) (outputs_open wholes (b ∷ outer)) b.kind b.opener b.statements) good.0 in (
        subst (λ ins. Unless b.opener (IsGoodBlock more ins (outputs_open more (b ∷ outer)) b.kind b.opener b.statements)) (sym (inputs_same (b ∷ outer) good))
            (subst (λ outs. Unless b.opener (IsGoodBlock more (inputs_open wholes (b ∷ outer)) outs b.kind b.opener b.statements)) (sym (outputs_same (b ∷ outer) good)) now),
        good_more outer good.1,
      )

  tied_more : (meanings : List (Name × Meaning)) (blocks : List OpenBlock) → AreGood wholes blocks → AreTied meanings (inputs_open wholes blocks) (outputs_open wholes blocks) → AreTied meanings (inputs_open more blocks) (outputs_open more blocks)
  tied_more meanings blocks good tied =
      subst (λ ins. AreTied meanings ins (outputs_open more blocks)) (sym (inputs_same blocks good)) (subst (λ outs. AreTied meanings (inputs_open wholes blocks) outs) (sym (outputs_same blocks good)) tied)

  outside_more : (meanings : List (Name × Meaning)) (before : ℕ) (outer : List OpenBlock) → AreGood wholes outer → Outside wholes meanings before outer → Outside more meanings before outer
  outside_more meanings before [] good outside = outside
  outside_more meanings before (about ∷ outer) good outside =
      (outside.0, (tied_more (take before meanings) (about ∷ outer) good outside.1.0, outside_more (take before meanings) about.before.meanings outer good.1 outside.1.1))

  pub stack_more : (b : OpenBlock) (outer : List OpenBlock) (meanings : List (Name × Meaning)) (may : Bool) → IsStack wholes b outer meanings may → IsStack more b outer meanings may
  stack_more b outer meanings may good = record {
    blocks = good_more (b ∷ outer) good.blocks;
    tied = tied_more meanings (b ∷ outer) good.blocks good.tied;
    outside = outside_more meanings b.before.meanings outer good.blocks.1 good.outside;
    straight = good.straight;
  }
