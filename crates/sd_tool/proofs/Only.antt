-- What alone can be answered where files are told.
use Rattle.std.proofs.Common.{◌≡◌, ◌⊎◌, ℕ, ◌<◌, ◌≤◌, ◌^◌, List, length, Ok, Err, refl, ap, sym, ◌∙◌, subst, arith, inl, inr}
use Rattle.sd_io.specs.Count.{HasRisen}
use Rattle.sd_graph.specs.PlainTree.{GraphTree}
use Rattle.sd_context.specs.declared.blocks.refusal.Refusal.{Refusal}
use Rattle.sd_words.specs.Command.{Call, IsCall}
use Rattle.sd_tool.specs.declared.ending.ArraysRefusal.{ArraysRefusal}
use Rattle.sd_tool.specs.Work.{Work, source_graph, prepared}
use Rattle.sd_tool.specs.Answer.{Answer, bad_words, source_refused, arrays_refused, too_long}
use Rattle.sd_tool.specs.Files.{ShelfUse, Reads, Unread, faulty, longer}
use Rattle.sd_tool.specs.Steering.{Steers, Unsteered}
use Rattle.sd_tool.specs.Answers.{ReadsSource, Comes, Tells, Answers, no_command, no_source, no_program, no_arrays, no_work, unsteered, answered}
use Rattle.sd_tool.specs.Told.{TellsSource, TellsArrays}
use Rattle.sd_tool.specs.Statuses.{NamesNothing}
use Rattle.sd_tool.proofs.Reading.{same_Ok, same_Err, Ok_or_Err}
use Rattle.sd_tool.proofs.Words.{one_call}
use Rattle.sd_tool.proofs.ToldFiles.{not_unread, read_content}

-- where the words name nothing
pub bad_words_only : (words : List (List ℕ)) (shelf : ShelfUse) → NamesNothing words → (answer : Answer) → Answers words shelf answer → answer ≡ bad_words
bad_words_only words shelf nothing answer (no_command none) = refl
bad_words_only words shelf nothing answer (no_source call asked why) = absurd (nothing call asked)
bad_words_only words shelf nothing answer (no_program call bytes refusal asked reads is) = absurd (nothing call asked)
bad_words_only words shelf nothing answer (no_arrays call tree reads why) = absurd (nothing call reads.asked)
bad_words_only words shelf nothing answer (no_work call tree arrays refusal reads read is) = absurd (nothing call reads.asked)
bad_words_only words shelf nothing answer (unsteered call work comes why) = absurd (nothing call comes.source.asked)
bad_words_only words shelf nothing answer (answered call work found picks reaches tells) = absurd (nothing call reaches.comes.source.asked)

-- where the source is told and quiet
module _ (words : List (List ℕ)) (shelf : ShelfUse) (call : Call) (source : List ℕ) (tells : TellsSource words shelf call source) where
  same_call : (other : Call) → IsCall words other → other ≡ call
  same_call other asked = one_call words other call asked tells.asked

  -- what is read of the source is what is told
  source_is : (other : Call) (bytes : List ℕ) → IsCall words other → Reads shelf other.source (2 ^ 20) bytes → bytes ≡ source
  source_is other bytes asked reads = read_content shelf call.source source bytes (2 ^ 20) tells.told (subst (λ c. Reads shelf c.source (2 ^ 20) bytes) (same_call other asked) reads)

  is_read : {answer : Answer} (other : Call) → length source ≤ 2 ^ 20 → IsCall words other → Unread shelf other.source (2 ^ 20) answer → ⊥
  is_read {answer} other within asked why =
      not_unread shelf call.source source (2 ^ 20) tells.told within tells.quiet (subst (λ c. Unread shelf c.source (2 ^ 20) answer) (same_call other asked) why)

  -- the graph that is read is that of what is told
  graph_is : (other : Call) (tree : GraphTree) → ReadsSource words shelf other tree → source_graph source ≡ Ok tree
  graph_is other tree reads = subst (λ s. source_graph s ≡ Ok tree) (source_is other reads.source reads.asked reads.reads) reads.is

  -- and so is an error
  error_is : (other : Call) (bytes : List ℕ) (refusal : Refusal) → IsCall words other → Reads shelf other.source (2 ^ 20) bytes → source_graph bytes ≡ Err refusal → source_graph source ≡ Err refusal
  error_is other bytes refusal asked reads is = subst (λ s. source_graph s ≡ Err refusal) (source_is other bytes asked reads) is

  pub refused_source : (refusal : Refusal) → length source ≤ 2 ^ 20 → source_graph source ≡ Err refusal → (answer : Answer) → Answers words shelf answer → answer ≡ source_refused refusal
  refused_source refusal within is answer (no_command nothing) = absurd (nothing call tells.asked)
  refused_source refusal within is answer (no_source other asked why) = absurd (is_read other within asked why)
  refused_source refusal within is answer (no_program other bytes found asked reads has) =
      ap source_refused (same_Err (source_graph source) found refusal (error_is other bytes found asked reads has) is)
  refused_source refusal within is answer (no_arrays other tree reads why) = absurd (Ok_or_Err (source_graph source) tree refusal (graph_is other tree reads) is)
  refused_source refusal within is answer (no_work other tree arrays found reads read has) = absurd (Ok_or_Err (source_graph source) tree refusal (graph_is other tree reads) is)
  refused_source refusal within is answer (unsteered other work comes why) = absurd (Ok_or_Err (source_graph source) comes.tree refusal (graph_is other comes.tree comes.source) is)
  refused_source refusal within is answer (answered other work found picks reaches tells) = absurd (Ok_or_Err (source_graph source) reaches.comes.tree refusal (graph_is other reaches.comes.tree reaches.comes.source) is)

  too_long_to_read : (other : Call) (bytes : List ℕ) → 2 ^ 20 < length source → IsCall words other → Reads shelf other.source (2 ^ 20) bytes → ⊥
  too_long_to_read other bytes long asked reads =
      let within : length source ≤ 2 ^ 20 = subst (λ b. length b ≤ 2 ^ 20) (source_is other bytes asked reads) reads.within in
      omega arith

  long_source : {answer : Answer} (other : Call) → IsCall words other → Unread shelf other.source (2 ^ 20) answer → answer ≡ too_long call.source
  long_source other asked (faulty rose) = absurd (tells.quiet (subst (λ c. HasRisen (shelf.faults_before c.source) (shelf.faults_after c.source)) (same_call other asked) rose))
  long_source other asked (longer told rose) = ap (λ c. too_long c.source) (same_call other asked)

  pub long_at_source : 2 ^ 20 < length source → (answer : Answer) → Answers words shelf answer → answer ≡ too_long call.source
  long_at_source long answer (no_command nothing) = absurd (nothing call tells.asked)
  long_at_source long answer (no_source other asked why) = long_source other asked why
  long_at_source long answer (no_program other bytes found asked reads has) = absurd (too_long_to_read other bytes long asked reads)
  long_at_source long answer (no_arrays other tree reads why) = absurd (too_long_to_read other reads.source long reads.asked reads.reads)
  long_at_source long answer (no_work other tree arrays found reads read has) = absurd (too_long_to_read other reads.source long reads.asked reads.reads)
  long_at_source long answer (unsteered other work comes why) = absurd (too_long_to_read other comes.source.source long comes.source.asked comes.source.reads)
  long_at_source long answer (answered other work found picks reaches tells) = absurd (too_long_to_read other reaches.comes.source.source long reaches.comes.source.asked reaches.comes.source.reads)

-- what is answered of the work of a call: that nothing steers it, or what its command tells of the graph and the picks that steer it
abbrev pub Later : ShelfUse → Call → Work → Answer → Type 0
Later shelf call work answer =
    Unsteered shelf call work.tree answer ⊎ ((made : GraphTree) × (picks : List ℕ) × Steers shelf call work.tree made picks × Tells work made picks call.command answer)

-- where the arrays file is told and quiet too
module _ (words : List (List ℕ)) (shelf : ShelfUse) (call : Call) (source : List ℕ) (tree : GraphTree) (arrays : List ℕ) (tells : TellsArrays words shelf call source tree arrays) where
  same_tree : (other : Call) (found : GraphTree) → ReadsSource words shelf other found → found ≡ tree
  same_tree other found reads = same_Ok (source_graph source) found tree (graph_is words shelf call source tells.before other found reads) tells.has_graph

  arrays_are : (other : Call) (bytes : List ℕ) → IsCall words other → Reads shelf other.arrays (2 ^ 26) bytes → bytes ≡ arrays
  arrays_are other bytes asked reads =
      read_content shelf call.arrays arrays bytes (2 ^ 26) tells.told (subst (λ c. Reads shelf c.arrays (2 ^ 26) bytes) (same_call words shelf call source tells.before other asked) reads)

  -- what comes of what is read comes of what is told
  comes_again : (other : Call) (found : GraphTree) (bytes : List ℕ) → ReadsSource words shelf other found → Reads shelf other.arrays (2 ^ 26) bytes → prepared found bytes ≡ prepared tree arrays
  comes_again other found bytes reads read = λ i. prepared (same_tree other found reads i) (arrays_are other bytes reads.asked read i)

  not_source : {answer : Answer} (other : Call) → IsCall words other → Unread shelf other.source (2 ^ 20) answer → ⊥
  not_source other asked why = is_read words shelf call source tells.before other tells.within asked why

  not_program : (other : Call) (bytes : List ℕ) (refusal : Refusal) → IsCall words other → Reads shelf other.source (2 ^ 20) bytes → source_graph bytes ≡ Err refusal → ⊥
  not_program other bytes refusal asked reads has = Ok_or_Err (source_graph source) tree refusal tells.has_graph (error_is words shelf call source tells.before other bytes refusal asked reads has)

  not_arrays : {answer : Answer} (other : Call) (found : GraphTree) → length arrays ≤ 2 ^ 26 → ReadsSource words shelf other found → Unread shelf other.arrays (2 ^ 26) answer → ⊥
  not_arrays {answer} other found within reads why =
      not_unread shelf call.arrays arrays (2 ^ 26) tells.told within tells.quiet (subst (λ c. Unread shelf c.arrays (2 ^ 26) answer) (same_call words shelf call source tells.before other reads.asked) why)

  no_other_work : {answer : Answer} (refusal : ArraysRefusal) → prepared tree arrays ≡ Err refusal → (other : Call) (work : Work) → Comes words shelf other work → answer ≡ arrays_refused refusal
  no_other_work refusal is other work comes = absurd (Ok_or_Err (prepared tree arrays) work refusal (sym (comes_again other comes.tree comes.arrays comes.source comes.reads) ∙ comes.is) is)

  pub refused_arrays : (refusal : ArraysRefusal) → length arrays ≤ 2 ^ 26 → prepared tree arrays ≡ Err refusal → (answer : Answer) → Answers words shelf answer → answer ≡ arrays_refused refusal
  refused_arrays refusal within is answer (no_command nothing) = absurd (nothing call tells.before.asked)
  refused_arrays refusal within is answer (no_source other asked why) = absurd (not_source other asked why)
  refused_arrays refusal within is answer (no_program other bytes found asked reads has) = absurd (not_program other bytes found asked reads has)
  refused_arrays refusal within is answer (no_arrays other found reads why) = absurd (not_arrays other found within reads why)
  refused_arrays refusal within is answer (no_work other found bytes error reads read has) =
      ap arrays_refused (same_Err (prepared tree arrays) error refusal (sym (comes_again other found bytes reads read) ∙ has) is)
  refused_arrays refusal within is answer (unsteered other work comes why) = no_other_work refusal is other work comes
  refused_arrays refusal within is answer (answered other work found picks reaches tells) = no_other_work refusal is other work reaches.comes

  -- what another call tells of its work, this one does of this
  moved : (work : Work) → prepared tree arrays ≡ Ok work → (answer : Answer) (other : Call) (found : Work) → Comes words shelf other found → Later shelf other found answer → Later shelf call work answer
  moved work is answer other found comes told =
      let same = same_Ok (prepared tree arrays) found work (sym (comes_again other comes.tree comes.arrays comes.source comes.reads) ∙ comes.is) is in
      subst (λ c. Later shelf c work answer) (same_call words shelf call source tells.before other comes.source.asked) (subst (λ w. Later shelf other w answer) same told)

  -- only what comes behind the arrays file is answered
  pub come_later : (work : Work) → length arrays ≤ 2 ^ 26 → prepared tree arrays ≡ Ok work → (answer : Answer) → Answers words shelf answer → Later shelf call work answer
  come_later work within is answer (no_command nothing) = absurd (nothing call tells.before.asked)
  come_later work within is answer (no_source other asked why) = absurd (not_source other asked why)
  come_later work within is answer (no_program other bytes found asked reads has) = absurd (not_program other bytes found asked reads has)
  come_later work within is answer (no_arrays other found reads why) = absurd (not_arrays other found within reads why)
  come_later work within is answer (no_work other found bytes error reads read has) =
      absurd (Ok_or_Err (prepared tree arrays) work error is (sym (comes_again other found bytes reads read) ∙ has))
  come_later work within is answer (unsteered other found comes why) = moved work is answer other found comes (inl why)
  come_later work within is answer (answered other found made picks reaches here) = moved work is answer other found reaches.comes (inr (made, picks, reaches.steers, here))

  arrays_too_long : (other : Call) (bytes : List ℕ) → 2 ^ 26 < length arrays → IsCall words other → Reads shelf other.arrays (2 ^ 26) bytes → ⊥
  arrays_too_long other bytes long asked reads =
      let within : length arrays ≤ 2 ^ 26 = subst (λ b. length b ≤ 2 ^ 26) (arrays_are other bytes asked reads) reads.within in
      omega arith

  long_arrays : {answer : Answer} (other : Call) → IsCall words other → Unread shelf other.arrays (2 ^ 26) answer → answer ≡ too_long call.arrays
  long_arrays other asked (faulty rose) =
      absurd (tells.quiet (subst (λ c. HasRisen (shelf.faults_before c.arrays) (shelf.faults_after c.arrays)) (same_call words shelf call source tells.before other asked) rose))
  long_arrays other asked (longer told rose) = ap (λ c. too_long c.arrays) (same_call words shelf call source tells.before other asked)

  pub long_at_arrays : 2 ^ 26 < length arrays → (answer : Answer) → Answers words shelf answer → answer ≡ too_long call.arrays
  long_at_arrays long answer (no_command nothing) = absurd (nothing call tells.before.asked)
  long_at_arrays long answer (no_source other asked why) = absurd (not_source other asked why)
  long_at_arrays long answer (no_program other bytes found asked reads has) = absurd (not_program other bytes found asked reads has)
  long_at_arrays long answer (no_arrays other found reads why) = long_arrays other reads.asked why
  long_at_arrays long answer (no_work other found bytes error reads read has) = absurd (arrays_too_long other bytes long reads.asked read)
  long_at_arrays long answer (unsteered other work comes why) = absurd (arrays_too_long other comes.arrays long comes.source.asked comes.reads)
  long_at_arrays long answer (answered other work found picks reaches tells) = absurd (arrays_too_long other reaches.comes.arrays long reaches.comes.source.asked reaches.comes.reads)
