-- What clap is told of the arguments of each command, and what it then says of the words.
use Rattle.std.specs.Prelude.{◌≡◌, List, [], ◌∷◌, Bool, true, false, Option, Some, None, codes}
use Rattle.std.specs.Str.{bytes_eq}
use Rattle.clap.specs.Words.{App, Row, Rule, Text, fault_of, first_of, matches_of, new_app, new_rule}
use Rattle.clap.specs.Simple.{on_top}
use Rattle.clap.specs.declared.builder.action.ArgAction.TheVariants.{SetTrue}

-- the commands, each of which is one word
pub data Kind : Type 0 where
  running : Kind
  stepping : Kind
  printing : Kind
  checking : Kind
  planning : Kind
  matching : Kind

abbrev pub word_of : Kind → Text
word_of running = codes "run"
word_of stepping = codes "step"
word_of printing = codes "print"
word_of checking = codes "check"
word_of planning = codes "plan"
word_of matching = codes "matches"

-- a file that has to be named, at its place
abbrev pub file : Text → Rule
file name = record (new_rule name) { required = true }

-- an option that has one text, behind its long name
abbrev pub option : Text → Rule
option name = record (new_rule name) { long = Some name }

-- a flag, which is its long name alone
abbrev pub flag : Text → Rule
flag name = record (new_rule name) { long = Some name; action = Some SetTrue }

-- what a command has besides the files
abbrev pub others_of : Kind → List Rule
others_of running = option (codes "workers") ∷ option (codes "turns") ∷ []
others_of stepping = file (codes "picks") ∷ option (codes "turns") ∷ flag (codes "trace") ∷ []
others_of printing = []
others_of checking = []
others_of planning = []
others_of matching = []

-- a source and an arrays file, a chain where one is wanted, and the others
abbrev pub with_files : (others : List Rule) → List Rule
with_files others = file (codes "source") ∷ file (codes "arrays") ∷ option (codes "chain") ∷ others

-- a command of this name with these arguments, of which nothing else is told
abbrev pub of_name : (name : Text) → (arguments : List Rule) → App
of_name name arguments = on_top (λ shape. record shape { rules = arguments }) (new_app name)

abbrev pub declared : Kind → App
declared kind = of_name (word_of kind) (with_files (others_of kind))

-- the words, of which the first is the command's, parse
abbrev pub Parse : Kind → (words : List Text) → Type 0
Parse kind words = fault_of (declared kind) words ≡ []

-- what the words give the arguments of the command
abbrev pub given : Kind → (words : List Text) → List Row
given kind words = matches_of (declared kind) words

-- the text of an argument, where it has one
abbrev pub text_of : (name : Text) → List Row → Option Text
text_of name rows = first_of name rows

-- a flag is there where its value is `true`
abbrev pub is_true : Option Text → Bool
is_true None = false
is_true (Some text) = bytes_eq text (codes "true")
