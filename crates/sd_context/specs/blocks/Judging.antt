-- A line is judged: the least number that stands against it, or the context behind it.
use Rattle.std.specs.Prelude.{ℕ, min, List, [], ◌∷◌, Bool, Option, Some, None, Ok, Err}
use Rattle.sd_lex.specs.PlainTree.{Block, no_statement, and_statement}
use Rattle.sd_line.specs.line.Head.{HeadTree, program_head, statement_head}
use Rattle.sd_refusal.specs.Refusals.{refusal}
use Rattle.sd_context.specs.context.Context.{Context, site_of}
use Rattle.sd_context.specs.context.After.{context_after}
use Rattle.sd_context.specs.blocks.Closing.{Step}

abbrev pub refused : (number line : ℕ) → Step
refused number line = Err (record { number = number; line = line })

-- the least number that stands against a head where the next line stands
abbrev pub against : Context → HeadTree → Option ℕ
against context head = refusal context.names (site_of context) head

abbrev pub statement_heads : Block → List HeadTree
statement_heads no_statement = []
statement_heads (and_statement first rest) = statement_head first ∷ statement_heads rest

-- the arguments of a program are judged one after another behind its name, as statements of their own
abbrev pub steps_of : HeadTree → List HeadTree
steps_of (program_head name arguments) = program_head name no_statement ∷ statement_heads arguments
steps_of head = head ∷ []

abbrev pub least : Option ℕ → Option ℕ → Option ℕ
least None b = b
least (Some a) None = Some a
least (Some a) (Some b) = Some (min a b)

abbrev pub accepted : Option ℕ → (line : ℕ) → Context → Step
accepted None line context = Ok context
accepted (Some number) line context = refused number line

-- one head more: the lesser number that stands against it or one before, and the context behind it
abbrev pub judged_one : (line : ℕ) → (is_tasklet : Bool) → Option ℕ × Context → HeadTree → Option ℕ × Context
judged_one line is_tasklet so_far head = (least so_far.0 (against so_far.1 head), context_after so_far.1 line is_tasklet head)

abbrev pub judged_all : (line : ℕ) → (is_tasklet : Bool) → Option ℕ × Context → List HeadTree → Option ℕ × Context
judged_all line is_tasklet so_far [] = so_far
judged_all line is_tasklet so_far (head ∷ heads) = judged_all line is_tasklet (judged_one line is_tasklet so_far head) heads

abbrev pub settled : (line : ℕ) → Option ℕ × Context → Step
settled line judgement = accepted judgement.0 line judgement.1

-- the least number that stands against one of the heads, or a number before, or the context behind them
abbrev pub judged_from : (number : Option ℕ) → Context → (line : ℕ) → (is_tasklet : Bool) → List HeadTree → Step
judged_from number context line is_tasklet heads = settled line (judged_all line is_tasklet (number, context) heads)

abbrev pub judged : Context → (line : ℕ) → (is_tasklet : Bool) → HeadTree → Step
judged context line is_tasklet head = judged_from None context line is_tasklet (steps_of head)
