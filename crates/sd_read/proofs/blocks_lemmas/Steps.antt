-- What a step of the reading comes to, by its parts.
use Rattle.std.proofs.Common.{◌≡◌, ◌∙◌, ℕ, zero, suc, ◌+◌, List, [], ◌∷◌, length, Bool, true, false, not, ◌&&◌, nat_eq, if◌then◌else◌, Option, Some, None, Result, Ok, Err, refl, ap, sym, subst, arith}
use Rattle.std.proofs.lemmas.Bool.{ne_eqb}
use Rattle.sd_lex.specs.PlainTree.{ProgramTree}
use Rattle.sd_line.specs.line.Head.{HeadTree}
use Rattle.sd_phrase.specs.declared.reading.Reading.TheVariants.{Form}
use Rattle.sd_refusal.specs.declared.site.Counts.{Counts}
use Rattle.sd_refusal.specs.NotAForm.{is_program}
use Rattle.sd_context.specs.context.Awaiting.{comes_right}
use Rattle.sd_context.specs.context.Context.{Opener, file, function, statement, consumer, if_block, else_block, OpenBlock, Awaited, nothing, block, function_def, consume_def, Context}
use Rattle.sd_context.specs.declared.blocks.refusal.Refusal.{Refusal}
use Rattle.sd_context.specs.blocks.Closing.{Step, states_counted, with_counts, with_states, late_states, closed_by, closed, closed_into}
use Rattle.sd_context.specs.blocks.Continuing.{goes_on, with_branch_state}
use Rattle.sd_context.specs.blocks.Judging.{least, settled}
use Rattle.sd_source.specs.source.LineReading.{kind_in, kind_at}
use Rattle.sd_source.specs.source.LinesReading.{program_in, program_by}
use Rattle.sd_read.proofs.readable_lemmas.kept.Heads.{IsFile, AreNested}
use Rattle.sd_read.proofs.readable_lemmas.kept.Passing.{true_is_not_false, false_is_not_true}
use Rattle.sd_read.proofs.readable_lemmas.kept.Steps.{refused_is_none, same_value, by_if, halves, IsSome', IsWellNested, branch_counted}

-- ---- tests

pub second_of : (first second : Bool) → first && second ≡ true → second ≡ true
second_of true second is = is
second_of false second is = false_is_not_true is

pub least_first : (a b : Option ℕ) → least a b ≡ None → a ≡ None
least_first None b none = refl
least_first (Some a) None none = none
least_first (Some a) (Some b) none = absurd (subst IsSome' none tt)

-- ---- blocks that end

pub by_counts : {P : Type 0} (context middle : Context) (counts : Result Counts Refusal) → with_counts context counts ≡ Ok middle →
    ((now : Counts) → counts ≡ Ok now → record context { counts = now } ≡ middle → P) → P
by_counts context middle (Ok now) is go = go now refl (same_value (Ok (record context { counts = now })) middle is)
by_counts context middle (Err refusal) is go = refused_is_none refusal middle is

pub by_closed : {P : Type 0} (context next : Context) → closed context ≡ Ok next → ((now : Counts) → closed_into context.outer (record context { counts = now }) ≡ next → P) → P
by_closed context next is go =
    halves (with_states context (late_states context.block)) (λ next. Ok (closed_into next.outer next)) next is
    (λ middle first rest. by_counts context middle (states_counted context.counts (late_states context.block)) first
    (λ now counts same. go now (ap (λ c. closed_into c.outer c) same ∙ same_value (Ok (closed_into middle.outer middle)) next rest)))

awaited_after : (outer : List OpenBlock) (context : Context) → (closed_into outer context).awaited ≡ context.awaited
awaited_after [] context = refl
awaited_after (about ∷ outer) context = by_opener context.block.opener where
  by_opener : (opener : Opener) → (closed_by opener about outer context).awaited ≡ context.awaited
  by_opener file = refl
  by_opener (function name) = refl
  by_opener (statement s) = refl
  by_opener (consumer line from size name element worker) = refl
  by_opener (if_block earlier when) = refl
  by_opener (else_block earlier) = refl

pub awaited_closed : (context next : Context) → closed context ≡ Ok next → next.awaited ≡ context.awaited
awaited_closed context next is = by_closed context next is (λ now same. sym (ap (λ c. c.awaited) same) ∙ awaited_after context.outer (record context { counts = now }))

kind_after : (outer : List OpenBlock) (context : Context) → AreNested context.block outer → context.outer ≡ outer → (n : ℕ) →
    kind_in (context.block ∷ outer) (suc n) ≡ kind_in ((closed_into outer context).block ∷ (closed_into outer context).outer) n
kind_after [] context nested is zero = sym nested.0
kind_after [] context nested is (suc n) = rw is refl
kind_after (about ∷ outer) context nested is n = by_opener context.block.opener n where
  by_opener : (opener : Opener) (n : ℕ) → kind_in (about ∷ outer) n ≡ kind_in ((closed_by opener about outer context).block ∷ (closed_by opener about outer context).outer) n
  by_opener file zero = refl
  by_opener file (suc n) = refl
  by_opener (function name) zero = refl
  by_opener (function name) (suc n) = refl
  by_opener (statement s) zero = refl
  by_opener (statement s) (suc n) = refl
  by_opener (consumer line from size name element worker) zero = refl
  by_opener (consumer line from size name element worker) (suc n) = refl
  by_opener (if_block earlier when) zero = refl
  by_opener (if_block earlier when) (suc n) = refl
  by_opener (else_block earlier) zero = refl
  by_opener (else_block earlier) (suc n) = refl

-- the kinds of the blocks about one that ends
pub kind_closed : (context next : Context) → closed context ≡ Ok next → IsWellNested context → (n : ℕ) → kind_in (context.block ∷ context.outer) (suc n) ≡ kind_in (next.block ∷ next.outer) n
kind_closed context next is nested n =
    by_closed context next is (λ now same. kind_after context.outer (record context { counts = now }) nested refl n ∙ ap (λ c. kind_in (c.block ∷ c.outer) n) same)

-- ---- where a line stands

never : (test : Bool) (n : ℕ) → test && nat_eq (suc n) 0 ≡ true → ⊥
never test n right = true_is_not_false (sym (second_of test (nat_eq (suc n) 0) right) ∙ ne_eqb (suc n) 0 (λ is. omega arith))

-- a block ends only where nothing is awaited
pub closes_free : (awaited : Awaited) (opens : Bool) (n : ℕ) → comes_right awaited opens (suc n) ≡ true → awaited ≡ nothing
closes_free nothing opens n right = refl
closes_free block opens n right = absurd (never opens n right)
closes_free (function_def line) opens n right = absurd (never (not opens) n right)
closes_free (consume_def line from size) opens n right = absurd (never (not opens) n right)

pub right_kind : (awaited : Awaited) (innermost : OpenBlock) (outer : List OpenBlock) (opens : Bool) (closes : ℕ) → comes_right awaited opens closes ≡ true →
    kind_at awaited innermost outer opens closes ≡ kind_in (innermost ∷ outer) closes
right_kind nothing innermost outer opens closes right = refl
right_kind block innermost outer true closes right = refl
right_kind block innermost outer false closes right = false_is_not_true right
right_kind (function_def line) innermost outer opens closes right = refl
right_kind (consume_def line from size) innermost outer opens closes right = refl

-- ---- judgements

pub by_accepted : {P : Type 0} (judgement : Option ℕ × Context) (line : ℕ) (next : Context) → settled line judgement ≡ Ok next → (judgement.0 ≡ None → judgement.1 ≡ next → P) → P
by_accepted (None, context) line next is go = go refl (same_value (Ok context) next is)
by_accepted (Some number, context) line next is go = refused_is_none (record { number = number; line = line }) next is

-- the file is no branch
file_ends : (head : HeadTree) (opener : Opener) → goes_on (Form head) opener ≡ true → IsFile opener → ⊥
file_ends head file on is = false_is_not_true on
file_ends head opener on is = is

-- about a branch is another block
pub by_about : {P : Type 0} (context : Context) (head : HeadTree) → goes_on (Form head) context.block.opener ≡ true → (outer : List OpenBlock) → context.outer ≡ outer → AreNested context.block outer →
    ((about : OpenBlock) (rest : List OpenBlock) → context.outer ≡ about ∷ rest → P) → P
by_about context head on [] is nested go = absurd (file_ends head context.block.opener on nested.1)
by_about context head on (about ∷ rest) is nested go = go about rest is

pub by_branch_state : {P : Type 0} (context middle : Context) → with_branch_state context.block context ≡ Ok middle →
    ((counts : Counts) → branch_counted context.block context.counts ≡ Ok counts → record context { counts = counts } ≡ middle → P) → P
by_branch_state context middle is go =
    by_if (is_program context.block.kind) (with_states context (context.block.line ∷ [])) (Ok context) (Ok middle) is
    (λ holds is. by_counts context middle (states_counted context.counts (context.block.line ∷ [])) is
    (λ now counts same. go now (subst (λ b. (if b then states_counted context.counts (context.block.line ∷ []) else Ok context.counts) ≡ Ok now) (sym holds) counts) same))
    (λ fails is. go context.counts (subst (λ b. (if b then states_counted context.counts (context.block.line ∷ []) else Ok context.counts) ≡ Ok context.counts) (sym fails) refl)
    (same_value (Ok context) middle is))

pub by_program : {P : Type 0} (last : ℕ) (step : Step) (program : ProgramTree) → program_by last step ≡ Ok program → ((context : Context) → step ≡ Ok context → program_in context ≡ program → P) → P
by_program last (Err refusal) program is go = refused_is_none refusal program is
by_program last (Ok context) program is go =
    by_if (nat_eq (length context.functions) 0) (Err (record { number = 4; line = last + 1 })) (Ok (program_in context)) (Ok program) is
    (λ none is. refused_is_none (record { number = 4; line = last + 1 }) program is)
    (λ some is. go context refl (same_value (Ok (program_in context)) program is))
