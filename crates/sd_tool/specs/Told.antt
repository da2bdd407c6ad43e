-- Calls whose files are told, and whose counts did not rise.
use Rattle.std.specs.Prelude.{◌≡◌, ℕ, ◌^◌, ◌≤◌, List, [], length, Option, Some, None, Ok}
use Rattle.sd_io.specs.Count.{HasRisen}
use Rattle.sd_lex.specs.PlainTree.{ProgramTree}
use Rattle.sd_graph.specs.PlainTree.{GraphTree}
use Rattle.sd_parse.specs.grammar.Programs.{tree_of}
use Rattle.sd_elab.specs.elab.Elaboration.{graph_of}
use Rattle.sd_chain.specs.Chain.{chain_reading}
use Rattle.sd_chain.specs.Picks.{picks_reading}
use Rattle.sd_chain.specs.declared.step.Step.{Step}
use Rattle.sd_steps.specs.Chained.{chained}
use Rattle.serde_json.specs.Data.{Members}
use Rattle.sd_json.specs.ArraysReading.{entries_of}
use Rattle.sd_words.specs.Command.{Command, Call, IsCall}
use Rattle.sd_tool.specs.Work.{Work, source_graph, prepared, work_of}
use Rattle.sd_tool.specs.Files.{ShelfUse, picks_file}

-- the source is told and its count did not rise
pub record TellsSource (words : List (List ℕ)) (shelf : ShelfUse) (call : Call) (source : List ℕ) : Type 0 where
  pub asked : IsCall words call
  pub told : shelf.told call.source ≡ Some source
  pub quiet : ¬ HasRisen (shelf.faults_before call.source) (shelf.faults_after call.source)

-- so is the arrays file, and the source has this graph
pub record TellsArrays (words : List (List ℕ)) (shelf : ShelfUse) (call : Call) (source : List ℕ) (tree : GraphTree) (arrays : List ℕ) : Type 0 where
  pub before : TellsSource words shelf call source
  pub within : length source ≤ 2 ^ 20
  pub has_graph : source_graph source ≡ Ok tree
  pub told : shelf.told call.arrays ≡ Some arrays
  pub quiet : ¬ HasRisen (shelf.faults_before call.arrays) (shelf.faults_after call.arrays)

-- both are within their limits and in their forms, and come to this work
pub record Asks (words : List (List ℕ)) (shelf : ShelfUse) (call : Call) (work : Work) : Type 0 where
  pub source : List ℕ
  pub tree : GraphTree
  pub arrays : List ℕ
  pub tells : TellsArrays words shelf call source tree arrays
  pub within : length arrays ≤ 2 ^ 26
  pub comes : prepared tree arrays ≡ Ok work

-- the words are this call; both files are told, no count of theirs rose, and they are within their limits; by the grammar the source is a program; the arrays file is an object, and this work is the program's graph with its sizes and arrays
pub record Presents (words : List (List ℕ)) (shelf : ShelfUse) (call : Call) (work : Work) : Type 0 where
  pub source : List ℕ
  pub program : ProgramTree
  pub arrays : List ℕ
  pub tells : TellsSource words shelf call source
  pub within : length source ≤ 2 ^ 20
  pub is : tree_of source ≡ Some program
  pub told : shelf.told call.arrays ≡ Some arrays
  pub quiet : ¬ HasRisen (shelf.faults_before call.arrays) (shelf.faults_after call.arrays)
  pub arrays_within : length arrays ≤ 2 ^ 26
  pub entries : Members
  pub has : entries_of arrays ≡ Some entries
  pub comes : work_of (graph_of program) entries ≡ work

-- ---- what steers a call

-- a file is told and its count did not rise
pub record TellsFile (shelf : ShelfUse) (name : List ℕ) (file : List ℕ) : Type 0 where
  pub told : shelf.told name ≡ Some file
  pub quiet : ¬ HasRisen (shelf.faults_before name) (shelf.faults_after name)

-- a chain file is told and within its limit; each of its lines is a step or asks for nothing; the steps are done one after another, each condition holds on the graph as it then is, and this graph comes of it
pub record ChainedBy (shelf : ShelfUse) (name : List ℕ) (tree other : GraphTree) : Type 0 where
  pub file : List ℕ
  pub tells : TellsFile shelf name file
  pub within : length file ≤ 2 ^ 16
  pub steps : List (ℕ × Step)
  pub is : chain_reading file ≡ Ok steps
  pub holds : chained tree steps ≡ Ok other

-- so it is with the chain file of a call; without one the graph is as it is
abbrev pub Chained : ShelfUse → (chain : Option (List ℕ)) → (tree other : GraphTree) → Type 0
Chained shelf None tree other = other ≡ tree
Chained shelf (Some name) tree other = ChainedBy shelf name tree other

-- a picks file is told, within its limit and in its form, and has these picks
pub record HoldsPicks (shelf : ShelfUse) (name : List ℕ) (picks : List ℕ) : Type 0 where
  pub file : List ℕ
  pub tells : TellsFile shelf name file
  pub within : length file ≤ 2 ^ 24
  pub is : picks_reading file ≡ Ok picks

-- so it is with the picks file that is named; where none is named there are no picks
abbrev pub Holds : ShelfUse → (name : Option (List ℕ)) → (picks : List ℕ) → Type 0
Holds shelf None picks = picks ≡ []
Holds shelf (Some name) picks = HoldsPicks shelf name picks

-- so it is with the picks file of a command, which goes by these picks; a command without such a file has none
abbrev pub GivesPicks : ShelfUse → Command → (picks : List ℕ) → Type 0
GivesPicks shelf command picks = Holds shelf (picks_file command) picks

-- a file is told so where it is named, and is within its limit; one that is not named is as an empty one
abbrev pub TellsNamed : ShelfUse → (name : Option (List ℕ)) → (limit : ℕ) → (file : List ℕ) → Type 0
TellsNamed shelf None limit file = file ≡ []
TellsNamed shelf (Some name) limit file = TellsFile shelf name file × (length file ≤ limit)

-- the chain file and the picks file of a call are told so
pub record TellsBoth (shelf : ShelfUse) (call : Call) (chain picks : List ℕ) : Type 0 where
  pub chain_told : TellsNamed shelf call.chain (2 ^ 16) chain
  pub picks_told : TellsNamed shelf (picks_file call.command) (2 ^ 24) picks
