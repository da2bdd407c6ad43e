-- The rules of answers over plain variables: what one use of a shelf says, said of a longer one.
use Rattle.std.proofs.Common.{◌≡◌, ℕ, ◌^◌, ◌≤◌, List, length, Option, Some, None, Result, Ok, Err, refl, subst, sym, arith, IfSome}
use Rattle.std.proofs.lemmas.Option.{IfSome_then}
use Rattle.sd_io.specs.Shelf.{IsTold, IsToldLonger}
use Rattle.sd_graph.specs.PlainTree.{GraphTree}
use Rattle.sd_words.specs.Command.{Call, IsCall}
use Rattle.sd_tool.specs.Work.{Work, source_graph, prepared}
use Rattle.sd_tool.specs.Answer.{Answer, source_refused, arrays_refused}
use Rattle.sd_tool.specs.Files.{ShelfUse, shelf_use, Reads, Unread, faulty, longer, picks_file, ReadsNamed, UnreadNamed}
use Rattle.sd_tool.specs.Steering.{steered, ReadsBoth, Steers, Unsteered, no_chain, no_picks, no_steering}
use Rattle.sd_tool.specs.Answers.{ReadsSource, Comes, Answers, no_source, no_program, no_arrays, no_work}
use Rattle.sd_tool.specs.Ending.{answer_of, Refuses}
use Rattle.sd_tool.specs.declared.ending.Ending.{Ending}
use Rattle.sd_report.proofs.write_lemmas.SinkLemmas.{HasRisen-later, HasRisen-earlier}

-- one use is a part of another: what is told is the same, and no count falls outside it
pub record IsPart (part whole : ShelfUse) : Type 0 where
  pub told : (name : List ℕ) → whole.told name ≡ part.told name
  pub faults_before : (name : List ℕ) → whole.faults_before name ≤ part.faults_before name
  pub faults_after : (name : List ℕ) → part.faults_after name ≤ whole.faults_after name
  pub overruns_before : (name : List ℕ) → whole.overruns_before name ≤ part.overruns_before name
  pub overruns_after : (name : List ℕ) → part.overruns_after name ≤ whole.overruns_after name

-- the first of two uses
pub first_part : {Shelf : Type 0} (told : Shelf → List ℕ → Option (List ℕ)) (faults overruns : Shelf → List ℕ → ℕ) (old mid now : Shelf) →
    ((name : List ℕ) → faults mid name ≤ faults now name) → ((name : List ℕ) → overruns mid name ≤ overruns now name) →
    IsPart (shelf_use told faults overruns old mid) (shelf_use told faults overruns old now)
first_part told faults overruns old mid now faults_grow overruns_grow = record {
  told = λ name. refl;
  faults_before = λ name. omega arith;
  faults_after = faults_grow;
  overruns_before = λ name. omega arith;
  overruns_after = overruns_grow;
}

-- and the second
pub second_part : {Shelf : Type 0} (told : Shelf → List ℕ → Option (List ℕ)) (faults overruns : Shelf → List ℕ → ℕ) (old mid now : Shelf) →
    ((name : List ℕ) → told mid name ≡ told old name) → ((name : List ℕ) → faults old name ≤ faults mid name) → ((name : List ℕ) → overruns old name ≤ overruns mid name) →
    IsPart (shelf_use told faults overruns mid now) (shelf_use told faults overruns old now)
second_part told faults overruns old mid now stays faults_grow overruns_grow = record {
  told = λ name. sym (stays name);
  faults_before = faults_grow;
  faults_after = λ name. omega arith;
  overruns_before = overruns_grow;
  overruns_after = λ name. omega arith;
}

pub Reads-part : (part whole : ShelfUse) (name : List ℕ) (limit : ℕ) (bytes : List ℕ) → IsPart part whole → Reads part name limit bytes → Reads whole name limit bytes
Reads-part part whole name limit bytes is reads = record {
  told = subst (λ told. IsTold told bytes) (sym (is.told name)) reads.told;
  within = reads.within;
}

pub Unread-part : (part whole : ShelfUse) (name : List ℕ) (limit : ℕ) {answer : Answer} → IsPart part whole → Unread part name limit answer → Unread whole name limit answer
Unread-part part whole name limit is (faulty rose) =
    faulty (HasRisen-earlier _ _ _ (HasRisen-later _ _ _ (is.faults_before name) rose) (is.faults_after name))
Unread-part part whole name limit is (longer told rose) =
    longer (subst (λ content. IsToldLonger content limit) (sym (is.told name)) told)
    (HasRisen-earlier _ _ _ (HasRisen-later _ _ _ (is.overruns_before name) rose) (is.overruns_after name))

-- a reading that is refused has an error, of which this is so
refused_so : {X E : Type 0} (told : E → Answer) (reading : Result X E) (answer : Option Answer) (P : Answer → Type 0) → ((error : E) → reading ≡ Err error → P (told error)) → Refuses told reading answer → IfSome answer P
refused_so told reading None P each refuses = tt
refused_so told (Ok read) (Some answer) P each refuses = absurd refuses
refused_so told (Err error) (Some answer) P each refuses = subst P (sym refuses) (each error refl)

-- a source that is not read
pub refuses_source : (words : List (List ℕ)) (shelf : ShelfUse) (call : Call) (ending : Ending) → IsCall words call →
    IfSome (answer_of ending) (Unread shelf call.source (2 ^ 20)) → IfSome (answer_of ending) (Answers words shelf)
refuses_source words shelf call ending asked unread = IfSome_then (answer_of ending) unread (λ answer why. no_source call asked why)

-- a source with an error
pub refuses_program : (words : List (List ℕ)) (shelf : ShelfUse) (call : Call) (text : List ℕ) (ending : Ending) → IsCall words call → Reads shelf call.source (2 ^ 20) text →
    Refuses source_refused (source_graph text) (answer_of ending) → IfSome (answer_of ending) (Answers words shelf)
refuses_program words shelf call text ending asked reads refuses =
    refused_so source_refused (source_graph text) (answer_of ending) (Answers words shelf) (λ refusal is. no_program call text refusal asked reads is) refuses

-- a source was read in a part of the call
pub reads_source : (words : List (List ℕ)) (part whole : ShelfUse) (call : Call) (text : List ℕ) (tree : GraphTree) → IsPart part whole → IsCall words call → Reads part call.source (2 ^ 20) text →
    source_graph text ≡ Ok tree → ReadsSource words whole call tree
reads_source words part whole call text tree is_part asked reads is = record {
  asked = asked;
  source = text;
  reads = Reads-part part whole call.source (2 ^ 20) text is_part reads;
  is = is;
}

-- an arrays file that is not read in a part of the call
pub refuses_arrays : (words : List (List ℕ)) (part whole : ShelfUse) (call : Call) (tree : GraphTree) (ending : Ending) → IsPart part whole → ReadsSource words whole call tree →
    IfSome (answer_of ending) (Unread part call.arrays (2 ^ 26)) → IfSome (answer_of ending) (Answers words whole)
refuses_arrays words part whole call tree ending is_part source unread =
    IfSome_then (answer_of ending) unread (λ answer why. no_arrays call tree source (Unread-part part whole call.arrays (2 ^ 26) is_part why))

-- an arrays file that comes to no work
pub refuses_work : (words : List (List ℕ)) (part whole : ShelfUse) (call : Call) (tree : GraphTree) (bytes : List ℕ) (ending : Ending) → IsPart part whole → ReadsSource words whole call tree → Reads part call.arrays (2 ^ 26) bytes →
    Refuses arrays_refused (prepared tree bytes) (answer_of ending) → IfSome (answer_of ending) (Answers words whole)
refuses_work words part whole call tree bytes ending is_part source reads refuses =
    refused_so arrays_refused (prepared tree bytes) (answer_of ending) (Answers words whole)
    (λ refusal is. no_work call tree bytes refusal source (Reads-part part whole call.arrays (2 ^ 26) bytes is_part reads) is) refuses

-- one that does
pub comes_to : (words : List (List ℕ)) (part whole : ShelfUse) (call : Call) (tree : GraphTree) (bytes : List ℕ) (work : Work) → IsPart part whole → ReadsSource words whole call tree → Reads part call.arrays (2 ^ 26) bytes →
    prepared tree bytes ≡ Ok work → Comes words whole call work
comes_to words part whole call tree bytes work is_part source reads is =
    record { tree = tree; source = source; arrays = bytes; reads = Reads-part part whole call.arrays (2 ^ 26) bytes is_part reads; is = is }

-- what was read in a part of the call was read in the whole
pub Comes-part : (words : List (List ℕ)) (part whole : ShelfUse) (call : Call) (work : Work) → IsPart part whole → Comes words part call work → Comes words whole call work
Comes-part words part whole call work is_part comes =
    let source = comes.source in
    comes_to words part whole call comes.tree comes.arrays work is_part (reads_source words part whole call source.source comes.tree is_part source.asked source.reads source.is) comes.reads comes.is

-- ---- files that a call need not name

pub ReadsNamed-part : (part whole : ShelfUse) (name : Option (List ℕ)) (limit : ℕ) (bytes : List ℕ) → IsPart part whole → ReadsNamed part name limit bytes → ReadsNamed whole name limit bytes
ReadsNamed-part part whole None limit bytes is_part reads = reads
ReadsNamed-part part whole (Some name) limit bytes is_part reads = Reads-part part whole name limit bytes is_part reads

pub UnreadNamed-part : (part whole : ShelfUse) (name : Option (List ℕ)) (limit : ℕ) (answer : Answer) → IsPart part whole → UnreadNamed part name limit answer → UnreadNamed whole name limit answer
UnreadNamed-part part whole None limit answer is_part unread = unread
UnreadNamed-part part whole (Some name) limit answer is_part unread = Unread-part part whole name limit is_part unread

-- a named file is within its limit, and an empty text is within each
pub within_limit : (shelf : ShelfUse) (name : Option (List ℕ)) (limit : ℕ) (bytes : List ℕ) → ReadsNamed shelf name limit bytes → length bytes ≤ limit
within_limit shelf None limit bytes reads = subst (λ b. length b ≤ limit) (sym reads) (omega arith)
within_limit shelf (Some name) limit bytes reads = reads.within

ReadsBoth-part : (part whole : ShelfUse) (call : Call) (chain picks : List ℕ) → IsPart part whole → ReadsBoth part call chain picks → ReadsBoth whole call chain picks
ReadsBoth-part part whole call chain picks is_part reads = record {
  chain_read = ReadsNamed-part part whole call.chain (2 ^ 16) chain is_part reads.chain_read;
  picks_read = ReadsNamed-part part whole (picks_file call.command) (2 ^ 24) picks is_part reads.picks_read;
}

pub Steers-part : (part whole : ShelfUse) (call : Call) (tree other : GraphTree) (picks : List ℕ) → IsPart part whole → Steers part call tree other picks → Steers whole call tree other picks
Steers-part part whole call tree other picks is_part steers =
    record { chain = steers.chain; file = steers.file; reads = ReadsBoth-part part whole call steers.chain steers.file is_part steers.reads; is = steers.is }

pub Unsteered-part : (part whole : ShelfUse) (call : Call) (tree : GraphTree) (answer : Answer) → IsPart part whole → Unsteered part call tree answer → Unsteered whole call tree answer
Unsteered-part part whole call tree answer is_part (no_chain unread) = no_chain (UnreadNamed-part part whole call.chain (2 ^ 16) answer is_part unread)
Unsteered-part part whole call tree answer is_part (no_picks chain read unread) =
    no_picks chain (ReadsNamed-part part whole call.chain (2 ^ 16) chain is_part read) (UnreadNamed-part part whole (picks_file call.command) (2 ^ 24) answer is_part unread)
Unsteered-part part whole call tree answer is_part (no_steering chain picks reads is) = no_steering chain picks (ReadsBoth-part part whole call chain picks is_part reads) is

-- ---- what steers a call, in two parts

module _ (first second whole : ShelfUse) (call : Call) (tree : GraphTree) (before : IsPart first whole) (behind : IsPart second whole) where
  -- the chain file is read in the first, and the picks file is not in the second
  pub lacks_picks : (chain : List ℕ) (ending : Ending) → ReadsNamed first call.chain (2 ^ 16) chain → IfSome (answer_of ending) (UnreadNamed second (picks_file call.command) (2 ^ 24)) → IfSome (answer_of ending) (Unsteered whole call tree)
  lacks_picks chain ending read unread =
      IfSome_then (answer_of ending) unread
      (λ answer why. no_picks chain (ReadsNamed-part first whole call.chain (2 ^ 16) chain before read) (UnreadNamed-part second whole (picks_file call.command) (2 ^ 24) answer behind why))

  -- both are read
  both_read : (chain picks : List ℕ) → ReadsNamed first call.chain (2 ^ 16) chain → ReadsNamed second (picks_file call.command) (2 ^ 24) picks → ReadsBoth whole call chain picks
  both_read chain picks read also = record {
    chain_read = ReadsNamed-part first whole call.chain (2 ^ 16) chain before read;
    picks_read = ReadsNamed-part second whole (picks_file call.command) (2 ^ 24) picks behind also;
  }

  pub lacks_steering : (chain picks : List ℕ) (ending : Ending) → ReadsNamed first call.chain (2 ^ 16) chain → ReadsNamed second (picks_file call.command) (2 ^ 24) picks → Refuses (λ answer. answer) (steered tree chain picks) (answer_of ending) → IfSome (answer_of ending) (Unsteered whole call tree)
  lacks_steering chain picks ending read also refuses =
      refused_so (λ answer. answer) (steered tree chain picks) (answer_of ending) (Unsteered whole call tree) (λ answer is. no_steering chain picks (both_read chain picks read also) is) refuses

  pub has_steering : (chain file picks : List ℕ) (other : GraphTree) → ReadsNamed first call.chain (2 ^ 16) chain → ReadsNamed second (picks_file call.command) (2 ^ 24) file → steered tree chain file ≡ Ok (other, picks) → Steers whole call tree other picks
  has_steering chain file picks other read also is = record { chain = chain; file = file; reads = both_read chain file read also; is = is }

-- a chain file that is not read
pub lacks_chain : (shelf : ShelfUse) (call : Call) (tree : GraphTree) (ending : Ending) → IfSome (answer_of ending) (UnreadNamed shelf call.chain (2 ^ 16)) → IfSome (answer_of ending) (Unsteered shelf call tree)
lacks_chain shelf call tree ending unread = IfSome_then (answer_of ending) unread (λ answer why. no_chain why)
