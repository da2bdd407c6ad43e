-- Each accepted line keeps that extents name size symbols.
use Rattle.std.proofs.Common.{◌≡◌, List, [], ◌∷◌, Bool, true, refl, sym, subst, ℕ}
use Rattle.std.specs.List.{AllByRecursion}
use Rattle.sd_lex.specs.PlainTree.{Expression, number, named, element_at, one, two, choice, Expressions, StatementTree, argument_array, local_array, FunctionTree}
use Rattle.sd_line.specs.line.Head.{HeadTree, import_line, symbol_line, program_decorator, program_head, statement_head, reduce_head, input_head, output_head, consume_decorator, consume_head, elif_head, else_head}
use Rattle.sd_names.specs.Names.{Name, is_among}
use Rattle.sd_context.specs.context.Context.{OpenBlock, Context, site_of}
use Rattle.sd_context.specs.context.After.{context_after}
use Rattle.sd_context.specs.context.Placing.{consume_kind}
use Rattle.sd_program.specs.Every.{Every, EveryOf}
use Rattle.sd_read.proofs.readable_lemmas.kept.Heads.{AreExtents as HasFewExtents, Fits as IsFit}
use Rattle.sd_read.proofs.readable_lemmas.kept.Passing.{passes}
use Rattle.sd_read.proofs.readable_lemmas.kept.Steps.{IsAccepted}
use Rattle.sd_read.proofs.readable_lemmas.kept.Trees.{bare, all-more, of_line}
use Rattle.sd_made_valid.specs.read_shapes.Fits.{extents_written, IsOver, AreExtents}
use Rattle.sd_made_valid.proofs.read_shapes_lemmas.Blocks.{IsOfLines, BlocksHold, blocks_more, consumer_held}
use Rattle.sd_made_valid.proofs.read_shapes_lemmas.FitSoFar.{FitSoFar}
use Rattle.sd_made_valid.proofs.read_shapes_lemmas.FitLines.{extents_known}
use Rattle.sd_made_valid.proofs.read_shapes_lemmas.Noted.{longer_among}
use Rattle.sd_made_valid.proofs.read_shapes_lemmas.Passed.{no_argument, statement_passed, statement_blocks}
use Rattle.sd_made_valid.proofs.read_shapes_lemmas.Sound.{plain_extents, bounds_accepted}
use Rattle.sd_made_valid.specs.read_extents.Symbols.{NamesSymbols}

-- the names are among these
abbrev pub AreWithin : (symbols more : List Name) → Type 0
AreWithin symbols more = (name : Name) → is_among symbols name ≡ true → is_among more name ≡ true

module _ (symbols more : List Name) (within : AreWithin symbols more) where
  over_more : (e : Expression) → IsOver symbols e → IsOver more e
  over_more (number value) over = tt
  over_more (named name) over = within name over
  over_more (element_at name at) over = tt
  over_more (one sign of) over = over_more of over
  over_more (two sign left right) over = (over_more left over.0, over_more right over.1)
  over_more (choice value when other) over = tt

  pub extents_more : (extents : List Expression) → AreExtents symbols extents → AreExtents more extents
  extents_more [] are = tt
  extents_more (e ∷ extents) are = ((are.0.0, over_more e are.0.1), extents_more extents are.1)

module _ (all : List Name) where
  abbrev pub Holds : StatementTree → Type 0
  Holds = NamesSymbols all

  -- it is of the line of a statement alone
  fill : (s : StatementTree) → Holds (bare s) → Holds s
  fill (argument_array line name bits extents) holds = holds
  fill (local_array line name extents bits) holds = holds
  fill s holds = tt

  pub of_lines : IsOfLines Holds
  of_lines = record {
    fill = fill;
    branched = λ line when body other. tt;
    branched_inside = λ line when body other. tt;
    consumed = λ line stream size name element worker body holds. tt;
  }

  -- of all that was read
  pub record IsOverBy (blocks : List OpenBlock) (arguments : List StatementTree) (functions : List FunctionTree) : Type 0 where
    pub around : BlocksHold Holds blocks
    pub given : AllByRecursion (Every Holds) arguments
    pub ended : AllByRecursion (EveryOf Holds) functions

  abbrev pub IsOverAll : Context → Type 0
  IsOverAll context = IsOverBy (context.block ∷ context.outer) context.arguments context.functions

  -- where the size symbols so far are among these
  abbrev pub OverSoFar : Context → Type 0
  OverSoFar context = FitSoFar context × (AreWithin context.symbols all → IsOverAll context)

  pub argument_over : (context : Context) (line : ℕ) (scoped : Bool) (at : ℕ) (name : Name) (bits : ℕ) (extents : Expressions) → HasFewExtents extents → IsAccepted context (statement_head (argument_array at name bits extents)) → FitSoFar context →
      AreWithin context.symbols all → IsOverAll context → IsOverAll (context_after context line scoped (statement_head (argument_array at name bits extents)))
  argument_over context line scoped at name bits extents few accepted' fit within over =
      let s = argument_array at name bits extents in
      let passed = passes context.names (site_of context) (statement_head s) accepted' in
      let own = (extents_known context fit s extents (bounds_accepted context.names (site_of context) s passed few (plain_extents extents)) refl passed).0 in
      record { around = over.around; given = all-more (Every Holds) context.arguments s over.given (extents_more context.symbols all within (extents_written extents) own); ended = over.ended }

  -- what a statement declares
  said : (context : Context) (s : StatementTree) → IsFit context.block.kind (statement_head s) → IsAccepted context (statement_head s) → FitSoFar context → AreWithin context.symbols all → Holds (bare s)
  said context (argument_array at name bits extents) fit' accepted' fit within = absurd (no_argument context.block.kind (argument_array at name bits extents) fit')
  said context (local_array at name extents bits) fit' accepted' fit within =
      let s = local_array at name extents bits in
      let passed = passes context.names (site_of context) (statement_head s) accepted' in
      extents_more context.symbols all within (extents_written extents) (extents_known context fit s extents (bounds_accepted context.names (site_of context) s passed (of_line context.block.kind s fit') (plain_extents extents)) refl passed).0
  said context s fit' accepted' fit within = tt

  statement_over : (context : Context) (line : ℕ) (scoped : Bool) (s : StatementTree) → IsFit context.block.kind (statement_head s) → IsAccepted context (statement_head s) → FitSoFar context → AreWithin context.symbols all →
      IsOverAll context → IsOverAll (context_after context line scoped (statement_head s))
  statement_over context line scoped s fit' accepted' fit within over =
      let same = statement_passed context line scoped s (no_argument context.block.kind s fit') in
      record {
        around = statement_blocks Holds context line scoped s fit' (said context s fit' accepted' fit within) over.around;
        given = subst (AllByRecursion (Every Holds)) (sym same.arguments) over.given;
        ended = subst (AllByRecursion (EveryOf Holds)) (sym same.functions) over.ended;
      }

  pub line_over : (context : Context) (line : ℕ) (scoped : Bool) (head : HeadTree) → IsFit context.block.kind head → IsAccepted context head → FitSoFar context →
      AreWithin (context_after context line scoped head).symbols all → (AreWithin context.symbols all → IsOverAll context) → IsOverAll (context_after context line scoped head)
  line_over context line scoped import_line fit' accepted' fit within over = over within
  line_over context line scoped (symbol_line name quoted) fit' accepted' fit within over =
      let before = over (λ wanted is. within wanted (longer_among context.symbols name wanted is)) in
      record { around = before.around; given = before.given; ended = before.ended }
  line_over context line scoped program_decorator fit' accepted' fit within over = over within
  line_over context line scoped (program_head name arguments) fit' accepted' fit within over = record { around = tt; given = tt; ended = (over within).ended }
  line_over context line scoped (statement_head s) fit' accepted' fit within over =
      let before = subst (λ symbols. AreWithin symbols all) (statement_passed context line scoped s (no_argument context.block.kind s fit')).symbols within in
      statement_over context line scoped s fit' accepted' fit before (over before)
  line_over context line scoped (reduce_head lambda from to axis identity) fit' accepted' fit within over =
      record { around = blocks_more Holds context.block context.outer (_ ∷ []) (tt, tt) (over within).around; given = (over within).given; ended = (over within).ended }
  line_over context line scoped (input_head connector memlet) fit' accepted' fit within over =
      record { around = blocks_more Holds context.block context.outer (_ ∷ []) (tt, tt) (over within).around; given = (over within).given; ended = (over within).ended }
  line_over context line scoped (output_head connector memlet) fit' accepted' fit within over =
      record { around = blocks_more Holds context.block context.outer (_ ∷ []) (tt, tt) (over within).around; given = (over within).given; ended = (over within).ended }
  line_over context line scoped (consume_decorator from size) fit' accepted' fit within over = over within
  line_over context line scoped (consume_head name element worker) fit' accepted' fit within over =
      record {
        around = consumer_held Holds (consume_kind scoped) context.awaited name element worker (BlocksHold Holds (context.block ∷ context.outer)) (λ at stream size is. tt) (over within).around;
        given = (over within).given;
        ended = (over within).ended;
      }
  line_over context line scoped (elif_head when) fit' accepted' fit within over = over within
  line_over context line scoped else_head fit' accepted' fit within over = over within
