-- What a parse answers: what clap finds in the words, or nothing where they do not parse.
use Rattle.std.specs.Prelude.{◌≡◌, List, [], Option, Some, None}
use Rattle.clap.specs.Words.{App, Text, fault_of, found_of, matches_of, rows_of}
use Rattle.clap.specs.declared.parser.matches.ArgMatches.{ArgMatches}
use Rattle.sd_words.specs.Arguments.{Kind, Parse, given}
use Rattle.sd_words.specs.Command.{Call, Give, kind_of}

abbrev pub IsParseOf : App → (words : List Text) → Option ArgMatches → Type 0
IsParseOf app words None = fault_of app words ≡ [] → ⊥
IsParseOf app words (Some matches) = (fault_of app words ≡ []) × (rows_of (found_of matches) ≡ matches_of app words)

-- the words, of which the first is the command's, are a call of the command
pub record IsCallOf (kind : Kind) (words : List Text) (call : Call) : Type 0 where
  pub kind_is : kind_of call.command ≡ kind
  pub parse : Parse kind words
  pub give : Give (given kind words) call
