-- The lines before the first that is refused, and the blocks that end behind them.
use Rattle.std.proofs.Common.{◌≡◌, refl, ap, sym, ◌∙◌, ℕ, List, [], ◌∷◌, arith}
use Rattle.std.specs.Prelude.{Ok, Err}
use Rattle.sd_context.specs.context.Context.{Opener, file, function, statement, consumer, if_block, else_block, OpenBlock, Context}
use Rattle.sd_context.specs.blocks.Closing.{Step, closed_by, closed_all}
use Rattle.sd_source.specs.source.LineReading.{line_read}
use Rattle.sd_line.specs.lines.Lines.{Line}
use Rattle.sd_source.specs.source.Prefix.{or_stays, count_behind, context_before_refusal, count_before_refusal, ended}

stays : (step : Step) (context : Context) (count : Context → ℕ) (rest : Context → Context) → count_behind step count ≡ 0 → or_stays step context rest ≡ context
stays (Ok next) context count rest none = absurd (omega (arith, none))
stays (Err refusal) context count rest none = refl

-- where no line stands before the first that is refused, nothing is read
pub none_read : (context : Context) (lines : List Line) → count_before_refusal context lines ≡ 0 → context_before_refusal context lines ≡ context
none_read context [] none = refl
none_read context (line ∷ lines) none = stays (line_read context line lines) context (λ next. count_before_refusal next lines) (λ next. context_before_refusal next lines) none

-- a block that ends leaves the blocks about it
pub outer_left : (opener : Opener) (about : OpenBlock) (outer : List OpenBlock) (context : Context) → (closed_by opener about outer context).outer ≡ outer
outer_left file about outer context = refl
outer_left (function name) about outer context = refl
outer_left (statement s) about outer context = refl
outer_left (consumer line stream size name element worker) about outer context = refl
outer_left (if_block earlier when) about outer context = refl
outer_left (else_block earlier) about outer context = refl

-- all blocks end where the innermost one ends and then those about it
pub ended_next : (context : Context) (about : OpenBlock) (outer : List OpenBlock) → context.outer ≡ about ∷ outer → ended context ≡ ended (closed_by context.block.opener about outer context)
ended_next context about outer is =
    ap (λ blocks. closed_all blocks context) is
    ∙ ap (λ blocks. closed_all blocks (closed_by context.block.opener about outer context)) (sym (outer_left context.block.opener about outer context))
