-- What alone can be answered where the files that steer a call are told.
use Rattle.std.proofs.Common.{◌≡◌, ℕ, ◌<◌, ◌≤◌, ◌^◌, List, [], length, Option, Some, None, Ok, Err, refl, ap, sym, ◌∙◌, subst, arith, inl, inr}
use Rattle.sd_graph.specs.PlainTree.{GraphTree}
use Rattle.sd_chain.specs.Chain.{chain_reading}
use Rattle.sd_chain.specs.Picks.{picks_reading}
use Rattle.sd_chain.specs.declared.step.Step as chains
use Rattle.sd_steps.specs.Chained.{chained}
use Rattle.sd_words.specs.Command.{Step, to_step, Call}
use Rattle.sd_tool.specs.Work.{Work}
use Rattle.sd_tool.specs.Answer.{Answer, too_long}
use Rattle.sd_tool.specs.Files.{ShelfUse, Reads, Unread, faulty, longer, picks_file, ReadsNamed, UnreadNamed}
use Rattle.sd_tool.specs.Steering.{steered, ReadsBoth, Steers, Unsteered, no_chain, no_picks, no_steering}
use Rattle.sd_tool.specs.Answers.{Tells, Answers}
use Rattle.sd_tool.specs.Told.{Asks, TellsFile, Chained, Holds, GivesPicks, TellsNamed, TellsBoth}
use Rattle.sd_tool.proofs.Reading.{same_Ok, same_Err, Ok_or_Err}
use Rattle.sd_tool.proofs.ToldFiles.{not_unread, read_content}
use Rattle.sd_tool.proofs.Chains.{steers_so}
use Rattle.sd_tool.proofs.Only.{Later, come_later}

-- what comes behind the arrays file
pub later : (words : List (List ℕ)) (shelf : ShelfUse) (call : Call) (work : Work) → Asks words shelf call work → (answer : Answer) → Answers words shelf answer → Later shelf call work answer
later words shelf call work asks = come_later words shelf call asks.source asks.tree asks.arrays asks.tells work asks.within asks.comes

-- a chain file that may be named is told so, and its steps make this graph
record GivesChain (shelf : ShelfUse) (name : Option (List ℕ)) (tree other : GraphTree) : Type 0 where
  chain : List ℕ
  tells : TellsNamed shelf name (2 ^ 16) chain
  steps : List (ℕ × chains.Step)
  form : chain_reading chain ≡ Ok steps
  holds : chained tree steps ≡ Ok other

gives_chain : (shelf : ShelfUse) (name : Option (List ℕ)) (tree other : GraphTree) → Chained shelf name tree other → GivesChain shelf name tree other
gives_chain shelf None tree other same = record { chain = []; tells = refl; steps = []; form = refl; holds = ap Ok (sym same) }
gives_chain shelf (Some name) tree other by = record { chain = by.file; tells = (by.tells, by.within); steps = by.steps; form = by.is; holds = by.holds }

-- so is a picks file, which has these picks
record GivesFile (shelf : ShelfUse) (name : Option (List ℕ)) (picks : List ℕ) : Type 0 where
  file : List ℕ
  tells : TellsNamed shelf name (2 ^ 24) file
  form : picks_reading file ≡ Ok picks

gives_file : (shelf : ShelfUse) (name : Option (List ℕ)) (picks : List ℕ) → Holds shelf name picks → GivesFile shelf name picks
gives_file shelf None picks none = record { file = []; tells = refl; form = ap Ok (sym none) }
gives_file shelf (Some name) picks holds = record { file = holds.file; tells = (holds.tells, holds.within); form = holds.is }

module _ (shelf : ShelfUse) where
  -- ---- one file

  -- a file that is told so is read where it is named
  named_read : (name : Option (List ℕ)) (limit : ℕ) (file : List ℕ) (answer : Answer) → TellsNamed shelf name limit file → UnreadNamed shelf name limit answer → ⊥
  named_read None limit file answer tells unread = unread
  named_read (Some name) limit file answer tells unread = not_unread shelf name file limit tells.0.told tells.1 tells.0.quiet unread

  -- and what is read of it is told
  named_is : (name : Option (List ℕ)) (limit : ℕ) (file bytes : List ℕ) → TellsNamed shelf name limit file → ReadsNamed shelf name limit bytes → bytes ≡ file
  named_is None limit file bytes tells reads = reads ∙ sym tells
  named_is (Some name) limit file bytes tells reads = read_content shelf name file bytes limit tells.0.told reads

  -- a file above its limit is not read
  named_too_long : (name : Option (List ℕ)) (found : List ℕ) (limit : ℕ) (file bytes : List ℕ) → name ≡ Some found → TellsFile shelf found file → limit < length file → ReadsNamed shelf name limit bytes → ⊥
  named_too_long name found limit file bytes is tells long reads =
      let read : Reads shelf found limit bytes = subst (λ n. ReadsNamed shelf n limit bytes) is reads in
      let within : length file ≤ limit = subst (λ b. length b ≤ limit) (read_content shelf found file bytes limit tells.told read) read.within in
      omega arith

  long_file : (limit : ℕ) {answer : Answer} (name file : List ℕ) → TellsFile shelf name file → Unread shelf name limit answer → answer ≡ too_long name
  long_file limit name file tells (faulty rose) = absurd (tells.quiet rose)
  long_file limit name file tells (longer told rose) = refl

  named_long : (name : Option (List ℕ)) (found : List ℕ) (limit : ℕ) (file : List ℕ) (answer : Answer) → name ≡ Some found → TellsFile shelf found file → UnreadNamed shelf name limit answer → answer ≡ too_long found
  named_long name found limit file answer is tells unread = long_file limit found file tells (subst (λ n. UnreadNamed shelf n limit answer) is unread)

  -- ---- both files

  module _ (call : Call) (work : Work) where
    -- both texts are told: what is refused of them, or what their graph and picks tell
    module _ (chain file : List ℕ) (tells : TellsBoth shelf call chain file) where
      made_again : (read also : List ℕ) → ReadsBoth shelf call read also → steered work.tree read also ≡ steered work.tree chain file
      made_again read also reads =
          λ i. steered work.tree (named_is call.chain (2 ^ 16) chain read tells.chain_told reads.chain_read i) (named_is (picks_file call.command) (2 ^ 24) file also tells.picks_told reads.picks_read i)

      refused_so : (answer : Answer) → Unsteered shelf call work.tree answer → steered work.tree chain file ≡ Err answer
      refused_so answer (no_chain unread) = absurd (named_read call.chain (2 ^ 16) chain answer tells.chain_told unread)
      refused_so answer (no_picks read reads unread) = absurd (named_read (picks_file call.command) (2 ^ 24) file answer tells.picks_told unread)
      refused_so answer (no_steering read also reads is) = sym (made_again read also reads) ∙ is

      steers_again : (other : GraphTree) (picks : List ℕ) → Steers shelf call work.tree other picks → steered work.tree chain file ≡ Ok (other, picks)
      steers_again other picks steers = sym (made_again steers.chain steers.file steers.reads) ∙ steers.is

      -- what is refused of them alone is answered
      pub refused_later : (only answer : Answer) → steered work.tree chain file ≡ Err only → Later shelf call work answer → answer ≡ only
      refused_later only answer is (inl why) = same_Err (steered work.tree chain file) answer only (refused_so answer why) is
      refused_later only answer is (inr told) = absurd (Ok_or_Err (steered work.tree chain file) (told.0, told.1) only (steers_again told.0 told.1 told.2) is)

      -- and where nothing is, what the command tells
      pub steered_later : (other : GraphTree) (picks : List ℕ) (answer : Answer) → steered work.tree chain file ≡ Ok (other, picks) → Later shelf call work answer → Tells work other picks call.command answer
      steered_later other picks answer is (inl why) = absurd (Ok_or_Err (steered work.tree chain file) (other, picks) answer is (refused_so answer why))
      steered_later other picks answer is (inr told) =
          let same = same_Ok (steered work.tree chain file) (told.0, told.1) (other, picks) (steers_again told.0 told.1 told.2) is in
          subst (λ both. Tells work both.0 both.1 call.command answer) same told.3

    -- ---- a chain that holds, and picks

    -- where the files make this graph and these picks, only what the command tells of them is answered
    pub told_later : (other : GraphTree) (picks : List ℕ) (answer : Answer) → Chained shelf call.chain work.tree other → GivesPicks shelf call.command picks → Later shelf call work answer → Tells work other picks call.command answer
    told_later other picks answer makes gives told =
        let chain = gives_chain shelf call.chain work.tree other makes in
        let file = gives_file shelf (picks_file call.command) picks gives in
        let both : TellsBoth shelf call chain.chain file.file = record { chain_told = chain.tells; picks_told = file.tells } in
        steered_later chain.chain file.file both other picks answer (steers_so work.tree other chain.chain file.file chain.steps picks chain.form file.form chain.holds) told

    -- ---- a file above its limit

    pub long_chain_later : (name file : List ℕ) (answer : Answer) → call.chain ≡ Some name → TellsFile shelf name file → 2 ^ 16 < length file → Later shelf call work answer → answer ≡ too_long name
    long_chain_later name file answer is tells long (inl (no_chain unread)) = named_long call.chain name (2 ^ 16) file answer is tells unread
    long_chain_later name file answer is tells long (inl (no_picks read reads unread)) = absurd (named_too_long call.chain name (2 ^ 16) file read is tells long reads)
    long_chain_later name file answer is tells long (inl (no_steering read also reads has)) = absurd (named_too_long call.chain name (2 ^ 16) file read is tells long reads.chain_read)
    long_chain_later name file answer is tells long (inr told) = absurd (named_too_long call.chain name (2 ^ 16) file told.2.chain is tells long told.2.reads.chain_read)

    -- the chain file, where one is named, is told before
    pub long_picks_later : (step : Step) (chain file : List ℕ) (answer : Answer) → TellsNamed shelf call.chain (2 ^ 16) chain → call.command ≡ to_step step → TellsFile shelf step.picks file → 2 ^ 24 < length file → Later shelf call work answer → answer ≡ too_long step.picks
    long_picks_later step chain file answer before is tells long told = by_place told where
      named : picks_file call.command ≡ Some step.picks
      named = ap picks_file is

      by_place : Later shelf call work answer → answer ≡ too_long step.picks
      by_place (inl (no_chain unread)) = absurd (named_read call.chain (2 ^ 16) chain answer before unread)
      by_place (inl (no_picks read reads unread)) = named_long (picks_file call.command) step.picks (2 ^ 24) file answer named tells unread
      by_place (inl (no_steering read also reads has)) = absurd (named_too_long (picks_file call.command) step.picks (2 ^ 24) file also named tells long reads.picks_read)
      by_place (inr told) = absurd (named_too_long (picks_file call.command) step.picks (2 ^ 24) file told.2.file named tells long told.2.reads.picks_read)
