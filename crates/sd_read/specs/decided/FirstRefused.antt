-- The lines of a source one after another: the first that is refused decides.
use Rattle.std.specs.Prelude.{◌≡◌, ℕ, ◌+◌, List, [], ◌∷◌, ◌++◌, false, ◌⊎◌, ◌<◌, ◌≤◌, Option, Some, None, Result, Ok, Err, ⊤}
use Rattle.sd_lex.specs.PlainTree.{ProgramTree}
use Rattle.sd_source.specs.nodes.NodeLimits.{nodes_over, node_limits}
use Rattle.sd_context.specs.context.Context.{Context, opening}
use Rattle.sd_context.specs.declared.blocks.refusal.Refusal.{Refusal}
use Rattle.sd_source.specs.source.LineReading.{line_read}
use Rattle.sd_source.specs.source.LinesReading.{at_end, program_by, program_of_lines}
use Rattle.sd_line.specs.lines.Lines.{Line}
use Rattle.sd_source.specs.source.NodeRefusal.{program_so_far}
use Rattle.sd_read.specs.decided.Standing.{IsLeast, place_of, stands_against}

-- no number stands against a line
abbrev pub IsAccepted : Context → Line → (rest : List Line) → Type 0
IsAccepted context line rest = (number : ℕ) → stands_against context line rest number ≡ false

-- lines, none of which is refused, lead from one context to another, where these lines are behind them
abbrev pub Leads : Context → List Line → (rest : List Line) → Context → Type 0
Leads from [] rest to = from ≡ to
Leads from (line ∷ lines) rest to =
    IsAccepted from line (lines ++ rest) × (next : Context) × (line_read from line (lines ++ rest) ≡ Ok next) × Leads next lines rest to

-- the least number that stands against a line, or 8 at the line of a block that it closes, which ends with a state too many
abbrev pub IsRefused : Context → Line → (rest : List Line) → Refusal → Type 0
IsRefused context line rest refusal =
    ((refusal.line ≡ line.number) × IsLeast (stands_against context line rest) refusal.number)
    ⊎ ((refusal.number ≡ 8) × (place_of context line ≡ Err refusal))

-- the first of the lines that is refused, and its refusal: none of those before it is
pub record IsFirstRefused (from : Context) (lines : List Line) (refusal : Refusal) : Type 0 where
  pub before : List Line
  pub line : Line
  pub behind : List Line
  pub context : Context
  pub all : lines ≡ before ++ line ∷ behind
  pub accepted : Leads from before (line ∷ behind) context
  pub refused : IsRefused context line behind refusal

-- behind all lines, of which none is refused: what is awaited there is missing, or a program is; or a block ends with a state too many
pub record IsRefusedAtEnd (last : ℕ) (lines : List Line) (refusal : Refusal) : Type 0 where
  pub context : Context
  pub accepted : Leads opening lines [] context
  pub refused : program_by last (at_end last context.awaited context) ≡ Err refusal
  pub which : ((refusal.number ≡ 4) × (refusal.line ≡ last + 1)) ⊎ (refusal.number ≡ 8)

-- nothing that the lines say is told before this: no line before its line is refused, and on its line no lesser number stands
abbrev pub GoesBefore : Refusal → Result ProgramTree Refusal → Type 0
GoesBefore refusal (Ok program) = ⊤
GoesBefore refusal (Err other) = (refusal.line < other.line) ⊎ ((refusal.line ≡ other.line) × (refusal.number < other.number))

-- the program, as far as it is read, passes a limit on nodes at this line, which goes before what the lines say
pub record PassesNodes (last : ℕ) (lines : List Line) (refusal : Refusal) : Type 0 where
  pub number : refusal.number ≡ 8
  pub over : nodes_over node_limits (program_so_far lines (program_of_lines last lines)) ≡ Some refusal.line
  pub first : GoesBefore refusal (program_of_lines last lines)

-- no limit on nodes is passed before this
abbrev pub GoesBeforeNodes : Refusal → Option ℕ → Type 0
GoesBeforeNodes refusal None = ⊤
GoesBeforeNodes refusal (Some line) = (refusal.line < line) ⊎ ((refusal.line ≡ line) × (refusal.number ≤ 8))

-- a line is refused, or what is behind all lines, and no limit on nodes is passed before
abbrev pub DecidesLines : (last : ℕ) → List Line → Refusal → Type 0
DecidesLines last lines refusal =
    (IsFirstRefused opening lines refusal ⊎ IsRefusedAtEnd last lines refusal)
    × GoesBeforeNodes refusal (nodes_over node_limits (program_so_far lines (program_of_lines last lines)))

-- what decides where a source is refused whose tokens are without an error
abbrev pub Decides : (last : ℕ) → List Line → Refusal → Type 0
Decides last lines refusal = DecidesLines last lines refusal ⊎ PassesNodes last lines refusal

-- lines of which none is refused, and their program, which passes no limit on nodes
pub record IsAllAccepted (last : ℕ) (lines : List Line) (program : ProgramTree) : Type 0 where
  pub context : Context
  pub accepted : Leads opening lines [] context
  pub ends : program_by last (at_end last context.awaited context) ≡ Ok program
  pub nodes : nodes_over node_limits program ≡ None
