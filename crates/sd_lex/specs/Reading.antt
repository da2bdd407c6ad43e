-- What a part of a text reads as: its tokens, or the first error in it.
use Rattle.std.specs.Prelude.{Result, Ok, Err, List, ◌++◌}
use Rattle.sd_lex.specs.declared.error.LexError.{LexError}
use Rattle.sd_lex.specs.declared.token.Token.{Token}

abbrev pub Reading : Type 0
Reading = Result (List Token) LexError

-- what comes after these tokens
abbrev pub after : List Token → Reading → Reading
after tokens (Ok others) = Ok (tokens ++ others)
after tokens (Err error) = Err error

-- what comes after tokens, if they can be read
abbrev pub followed_by : Reading → (List Token → Reading) → Reading
followed_by (Ok tokens) rest = rest tokens
followed_by (Err error) rest = Err error
