-- The steps of a chain file.
use Rattle.std.specs.Prelude.{◌≡◌, ⊤, ℕ, zero, suc, ◌^◌, nat_lt, List, [], ◌∷◌, Option, Some, None, option_map, Result, Ok, Err, Bool, false, ◌&&◌, ◌==◌, if◌then◌else◌, codes}
use Rattle.std.specs.Str.{all_ascii_digits, bytes_eq}
use Rattle.std.specs.Str.Parse.{digits_value}
use Rattle.sd_graph.specs.declared.path.Path.{Path}
use Rattle.sd_chain.specs.Picks.{has_bytes, words, pick_of}
use Rattle.sd_chain.specs.Parts.{parts}
use Rattle.sd_chain.specs.declared.step.Step.{Step}
use Rattle.sd_chain.specs.declared.step.Step.TheVariants.{MapCollapse, MapExpansion, MapInterchange, MapTiling}
use Rattle.sd_chain.specs.declared.line.Line.{Line}
use Rattle.sd_chain.specs.declared.line.Line.TheVariants.{Nothing, Does, NoForm}
use Rattle.sd_chain.specs.declared.error.ChainError.{ChainError}
use Rattle.sd_chain.specs.declared.error.ChainError.TheVariants as errors

-- ---- paths

-- the number that a part of a path writes: decimal digits alone, one at least, with a number below 2^32
abbrev pub number_of : (part : List ℕ) → Option ℕ
number_of part = if has_bytes part && (all_ascii_digits part && nat_lt (digits_value 10 part) (2 ^ 32)) then Some (digits_value 10 part) else None

-- a number before others, where all are numbers
abbrev pub with_number : Option ℕ → Option (List ℕ) → Option (List ℕ)
with_number None later = None
with_number (Some number) later = option_map (λ later. number ∷ later) later

abbrev pub numbers_of : (parts : List (List ℕ)) → Option (List ℕ)
numbers_of [] = Some []
numbers_of (part ∷ parts) = with_number (number_of part) (numbers_of parts)

-- the path that a word writes: numbers with a dot between two of them
abbrev pub path_of : (word : List ℕ) → Option Path
path_of word = option_map (λ steps. record { steps = steps }) (numbers_of (parts 46 word))

-- ---- lines

-- the one path that arguments are
abbrev pub sole_path : (arguments : List (List ℕ)) → Option Path
sole_path [] = None
sole_path (path ∷ []) = path_of path
sole_path (path ∷ other ∷ others) = None

-- the sizes that words write, each as picks are: in decimal digits, below 2^64
abbrev pub sizes_of : (words : List (List ℕ)) → Option (List ℕ)
sizes_of [] = Some []
sizes_of (word ∷ words) = with_number (pick_of word) (sizes_of words)

-- a tiling of a path has one size at least
abbrev pub tiling_with : Option Path → Option (List ℕ) → Option Step
tiling_with (Some at) (Some (size ∷ sizes)) = Some (MapTiling at (size ∷ sizes))
tiling_with at sizes = None

-- the tiling that arguments are: a path and sizes
abbrev pub tiling_of : (arguments : List (List ℕ)) → Option Step
tiling_of [] = None
tiling_of (path ∷ sizes) = tiling_with (path_of path) (sizes_of sizes)

-- the step with a name and arguments
abbrev pub step_of : (name : List ℕ) → (arguments : List (List ℕ)) → Option Step
step_of name arguments =
    if bytes_eq name (codes "MapCollapse") then option_map MapCollapse (sole_path arguments)
    else if bytes_eq name (codes "MapExpansion") then option_map MapExpansion (sole_path arguments)
    else if bytes_eq name (codes "MapInterchange") then option_map MapInterchange (sole_path arguments)
    else if bytes_eq name (codes "MapTiling") then tiling_of arguments
    else None

-- a step, or no form
abbrev pub does : Option Step → Line
does None = NoForm
does (Some step) = Does step

-- what words ask for; where there are none, nothing
abbrev pub line_of_words : (words : List (List ℕ)) → Line
line_of_words [] = Nothing
line_of_words (name ∷ arguments) = does (step_of name arguments)

-- a line that begins with a number sign
abbrev pub is_remark : (line : List ℕ) → Bool
is_remark [] = false
is_remark (byte ∷ bytes) = byte == 35

-- what a line asks for
abbrev pub line_of : (line : List ℕ) → Line
line_of line = if is_remark line then Nothing else line_of_words (words line)

-- ---- files

-- the most steps of a chain
abbrev pub most_steps : ℕ
most_steps = 256

-- what a line asks for before the steps of later lines, or its number where it is no form, or a step for which no room is left
abbrev pub with_line : (number room : ℕ) → Line → Result (List (ℕ × Step)) ℕ → Result (List (ℕ × Step)) ℕ
with_line number room Nothing later = later
with_line number room NoForm later = Err number
with_line number zero (Does step) later = Err number
with_line number (suc room) (Does step) (Ok steps) = Ok ((number, step) ∷ steps)
with_line number (suc room) (Does step) (Err other) = Err other

-- a step takes room
abbrev pub room_behind : Line → (room : ℕ) → ℕ
room_behind Nothing room = room
room_behind NoForm room = room
room_behind (Does step) zero = zero
room_behind (Does step) (suc room) = room

-- the steps of lines, the first of which has this number, with room for so many
abbrev pub steps_of : (number room : ℕ) → (lines : List (List ℕ)) → Result (List (ℕ × Step)) ℕ
steps_of number room [] = Ok []
steps_of number room (line ∷ lines) = with_line number room (line_of line) (steps_of (suc number) (room_behind (line_of line) room) lines)

-- the steps of a text, each with the number of its line, counted from 1; or the number of the first line that is no form, or a step too many
abbrev pub chain_reading : (text : List ℕ) → Result (List (ℕ × Step)) ℕ
chain_reading text = steps_of 1 most_steps (parts 10 text)

-- a refusal tells the line that is none; want of memory is free, and no condition is asked yet
abbrev pub IsNoForm : Result (List (ℕ × Step)) ℕ → ChainError → Type 0
IsNoForm reading (errors.NoForm number) = reading ≡ Err number
IsNoForm reading (errors.Condition number condition) = ⊥
IsNoForm reading errors.Memory = ⊤
