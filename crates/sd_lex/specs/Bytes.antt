-- Kinds of bytes of a source.
use Rattle.std.specs.Prelude.{ℕ, nat_eq, nat_le, Bool, ◌&&◌, ◌||◌}

abbrev pub is_space : ℕ → Bool
is_space byte = nat_eq byte 32

abbrev pub is_tab : ℕ → Bool
is_tab byte = nat_eq byte 9

-- a space, or a tab, which counts as a space
abbrev pub is_blank : ℕ → Bool
is_blank byte = is_space byte || is_tab byte

abbrev pub is_newline : ℕ → Bool
is_newline byte = nat_eq byte 10

-- a comment runs from here to the end of its line
abbrev pub is_comment : ℕ → Bool
is_comment byte = nat_eq byte 35

abbrev pub is_digit : ℕ → Bool
is_digit byte = nat_le 48 byte && nat_le byte 57

-- a letter or an underscore
abbrev pub is_letter : ℕ → Bool
is_letter byte = (nat_le 65 byte && nat_le byte 90) || (nat_le 97 byte && nat_le byte 122) || nat_eq byte 95

-- a byte of a name behind its first
abbrev pub is_name_byte : ℕ → Bool
is_name_byte byte = is_letter byte || is_digit byte

-- the quotes ' and "
abbrev pub is_quote : ℕ → Bool
is_quote byte = nat_eq byte 39 || nat_eq byte 34
