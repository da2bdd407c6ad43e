-- What is known of the open blocks: the connectors of the tasklet that is open, and that all which was read is joined.
use Rattle.std.proofs.Common.{◌≡◌, ◌≤◌, ℕ, List, [], ◌∷◌, ◌++◌, length, take, Bool, true, refl, arith}
use Rattle.std.specs.Bool.{⊤}
use Rattle.std.specs.List.{AllByRecursion}
use Rattle.sd_lex.specs.PlainTree.{StatementTree, FunctionTree}
use Rattle.sd_lex.specs.TreeFold.{block_listed}
use Rattle.sd_line.specs.declared.line.head.BlockKind.{BlockKind}
use Rattle.sd_line.specs.declared.line.head.BlockKind.TheVariants.{Top, Program, Scope, Tasklet}
use Rattle.sd_names.specs.declared.meaning.Meaning.{Meaning}
use Rattle.sd_names.specs.Names.{Name, put}
use Rattle.sd_context.specs.context.Context.{Branch, Opener, consumer, if_block, else_block, OpenBlock, Context}
use Rattle.sd_program.specs.Every.{Every, EveryOf}
use Rattle.sd_tie.specs.items.Standing.{IsJoined}
use Rattle.sd_tie.specs.tasklets.Connected.{SubscriptsInputs, AreConnected}
use Rattle.sd_read.proofs.readable_lemmas.kept.Heads.{IsBody}
use Rattle.sd_tie.proofs.joined_lemmas.Connectors.{inputs_in, outputs_in}
use Rattle.sd_tie.proofs.joined_lemmas.Meanings.{AreOf, FirstOf, IsPlain, first_taken, first_more, plain_first}

-- ---- connectors of the tasklet that is open

abbrev pub in_task : BlockKind → List Name → List Name
in_task Tasklet names = names
in_task kind names = []

-- with connectors of its own, and those of the block about it
abbrev pub inputs_by : Opener → (own outside : List Name) → List Name
inputs_by (if_block earlier when) own outside = outside
inputs_by (else_block earlier) own outside = outside
inputs_by (consumer line from size name element worker) own outside = element ∷ own
inputs_by opener own outside = own

abbrev pub outputs_by : Opener → (own outside : List Name) → List Name
outputs_by (if_block earlier when) own outside = outside
outputs_by (else_block earlier) own outside = outside
outputs_by opener own outside = own

abbrev pub inputs_open : List OpenBlock → List Name
inputs_open [] = []
inputs_open (b ∷ outer) = in_task b.kind (inputs_by b.opener (inputs_in b.statements) (inputs_open outer))

abbrev pub outputs_open : List OpenBlock → List Name
outputs_open [] = []
outputs_open (b ∷ outer) = in_task b.kind (outputs_by b.opener (outputs_in b.statements) (outputs_open outer))

-- outside of tasklets there are none
pub no_task : (kind : BlockKind) (names : List Name) → IsBody kind → in_task kind names ≡ []
no_task Top names is = absurd is
no_task Program names is = refl
no_task Scope names is = refl
no_task Tasklet names is = absurd is

-- ---- what was read

abbrev pub AllJoined : List StatementTree → Type 0
AllJoined statements = AllByRecursion (Every IsJoined) statements

abbrev pub IfTask : BlockKind → Type 0 → Type 0
IfTask Tasklet P = P
IfTask kind P = ⊤

abbrev pub IsGoodBranch : (ins outs : List Name) → BlockKind → Branch → Type 0
IsGoodBranch ins outs kind b = AllJoined b.statements × IfTask kind (SubscriptsInputs ins b.when × AreConnected ins outs (block_listed b.statements))

abbrev pub IsSome : List Branch → Type 0
IsSome [] = ⊥
IsSome (b ∷ branches) = ⊤

abbrev pub IsGoodOpener : (ins outs : List Name) → BlockKind → Opener → Type 0
IsGoodOpener ins outs kind (if_block earlier when) = AllByRecursion (IsGoodBranch ins outs kind) earlier × IfTask kind (SubscriptsInputs ins when)
IsGoodOpener ins outs kind (else_block earlier) = AllByRecursion (IsGoodBranch ins outs kind) earlier × IsSome earlier
IsGoodOpener ins outs kind opener = ⊤

abbrev pub IsGoodBlock : (ins outs : List Name) → OpenBlock → Type 0
IsGoodBlock ins outs b = (AllJoined b.statements × AreConnected ins outs (block_listed b.statements)) × IsGoodOpener ins outs b.kind b.opener

abbrev pub AreGood : List OpenBlock → Type 0
AreGood [] = ⊤
AreGood (b ∷ outer) = IsGoodBlock (inputs_open (b ∷ outer)) (outputs_open (b ∷ outer)) b × AreGood outer

-- a block has connector lines only where it is a whole tasklet
abbrev pub IsStraight : Opener → Type 0
IsStraight (if_block earlier when) = ⊥
IsStraight (else_block earlier) = ⊥
IsStraight opener = ⊤

-- before the innermost block so many names were in force; those of them that are connectors are of the blocks about it
abbrev pub Outside : (limit : ℕ) → List (Name × Meaning) → (before : ℕ) → List OpenBlock → Type 0
Outside limit meanings before [] = ⊤
Outside limit meanings before (about ∷ outer) =
    (before ≤ limit) × (FirstOf before (inputs_open (about ∷ outer)) (outputs_open (about ∷ outer)) meanings × Outside before meanings about.before.meanings outer)

pub record IsGoodOf (b : OpenBlock) (outer : List OpenBlock) (meanings : List (Name × Meaning)) (may : Bool) (given : List StatementTree) (programs : List FunctionTree) : Type 0 where
  pub blocks : AreGood (b ∷ outer)
  pub known : AreOf (inputs_open (b ∷ outer)) (outputs_open (b ∷ outer)) meanings
  pub outside : Outside (length meanings) meanings b.before.meanings outer
  pub straight : may ≡ true → b.kind ≡ Tasklet → IsStraight b.opener
  pub arguments : AllJoined given
  pub functions : AllByRecursion (EveryOf IsJoined) programs

-- it holds of all that was read
abbrev pub IsGood : Context → Type 0
IsGood context = IsGoodOf context.block context.outer context.names.meanings context.connects context.arguments context.functions

-- ---- names more and less

pub outside_wider : (limit wider : ℕ) (meanings : List (Name × Meaning)) (before : ℕ) (outer : List OpenBlock) → limit ≤ wider → Outside limit meanings before outer → Outside wider meanings before outer
outside_wider limit wider meanings before [] few outside = tt
outside_wider limit wider meanings before (about ∷ outer) few outside = (omega (arith, few, outside.0), outside.1)

pub outside_plain : (limit : ℕ) (meanings : List (Name × Meaning)) (before : ℕ) (outer : List OpenBlock) (name : Name) (meaning : Meaning) → IsPlain meaning →
    Outside limit meanings before outer → Outside limit (put meanings name meaning) before outer
outside_plain limit meanings before [] name meaning plain outside = tt
outside_plain limit meanings before (about ∷ outer) name meaning plain outside = (
  outside.0,
  (plain_first before (inputs_open (about ∷ outer)) (outputs_open (about ∷ outer)) meanings name meaning plain outside.1.0, outside_plain before meanings about.before.meanings outer name meaning plain outside.1.1),
)

pub outside_more : (limit : ℕ) (meanings more : List (Name × Meaning)) (before : ℕ) (outer : List OpenBlock) → limit ≤ length meanings → Outside limit meanings before outer → Outside limit (meanings ++ more) before outer
outside_more limit meanings more before [] few outside = tt
outside_more limit meanings more before (about ∷ outer) few outside =
    let few' : before ≤ length meanings = omega (arith, few, outside.0) in (
      outside.0,
      (first_more before (inputs_open (about ∷ outer)) (outputs_open (about ∷ outer)) meanings more few' outside.1.0, outside_more before meanings more about.before.meanings outer few' outside.1.1),
    )

pub outside_taken : (limit taken : ℕ) (meanings : List (Name × Meaning)) (before : ℕ) (outer : List OpenBlock) → Outside limit meanings before outer → Outside limit (take taken meanings) before outer
outside_taken limit taken meanings before [] outside = tt
outside_taken limit taken meanings before (about ∷ outer) outside = (
  outside.0,
  (first_taken before taken (inputs_open (about ∷ outer)) (outputs_open (about ∷ outer)) meanings outside.1.0, outside_taken before taken meanings about.before.meanings outer outside.1.1),
)
