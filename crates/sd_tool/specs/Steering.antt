-- What steers a call behind its source and its arrays: a chain of rewrites and a list of picks.
use Rattle.std.specs.Prelude.{◌≡◌, ℕ, ◌^◌, List, Result, Ok, Err}
use Rattle.sd_graph.specs.PlainTree.{GraphTree}
use Rattle.sd_chain.specs.Chain.{chain_reading}
use Rattle.sd_chain.specs.Picks.{picks_reading}
use Rattle.sd_chain.specs.declared.step.Step.{Step}
use Rattle.sd_steps.specs.Chained.{chained}
use Rattle.sd_words.specs.Command.{Call}
use Rattle.sd_tool.specs.Answer.{Answer, chain_refused, condition_fails, picks_refused}
use Rattle.sd_tool.specs.Files.{ShelfUse, ReadsNamed, UnreadNamed, picks_file}

-- the rewritten graph with the picks, or the first condition of the chain that fails
abbrev pub rewritten_with : Result GraphTree (ℕ × ℕ) → (picks : List ℕ) → Result (GraphTree × List ℕ) Answer
rewritten_with (Ok other) picks = Ok (other, picks)
rewritten_with (Err failing) picks = Err (condition_fails failing.0 failing.1)

-- the forms of the two files go first, that of the chain before that of the picks
abbrev pub steered_by : GraphTree → Result (List (ℕ × Step)) ℕ → Result (List ℕ) ℕ → Result (GraphTree × List ℕ) Answer
steered_by tree (Err line) picks = Err (chain_refused line)
steered_by tree (Ok steps) (Err word) = Err (picks_refused word)
steered_by tree (Ok steps) (Ok picks) = rewritten_with (chained tree steps) picks

-- what a chain file and a picks file make of a graph: the graph with the steps of the chain done one after another, and the picks; or what is refused
abbrev pub steered : GraphTree → (chain picks : List ℕ) → Result (GraphTree × List ℕ) Answer
steered tree chain picks = steered_by tree (chain_reading chain) (picks_reading picks)

-- the chain file and the picks file of a call are read
pub record ReadsBoth (shelf : ShelfUse) (call : Call) (chain picks : List ℕ) : Type 0 where
  pub chain_read : ReadsNamed shelf call.chain (2 ^ 16) chain
  pub picks_read : ReadsNamed shelf (picks_file call.command) (2 ^ 24) picks

-- and they make this graph and these picks
pub record Steers (shelf : ShelfUse) (call : Call) (tree other : GraphTree) (picks : List ℕ) : Type 0 where
  pub chain : List ℕ
  pub file : List ℕ
  pub reads : ReadsBoth shelf call chain file
  pub is : steered tree chain file ≡ Ok (other, picks)

-- the chain file is not read; or the picks file is not; or something in them is refused
pub data Unsteered (shelf : ShelfUse) (call : Call) (tree : GraphTree) : Answer → Type 0 where
  no_chain : {answer : Answer} → UnreadNamed shelf call.chain (2 ^ 16) answer → Unsteered shelf call tree answer
  no_picks : {answer : Answer} (chain : List ℕ) → ReadsNamed shelf call.chain (2 ^ 16) chain → UnreadNamed shelf (picks_file call.command) (2 ^ 24) answer → Unsteered shelf call tree answer
  no_steering : {answer : Answer} (chain picks : List ℕ) → ReadsBoth shelf call chain picks → steered tree chain picks ≡ Err answer → Unsteered shelf call tree answer
