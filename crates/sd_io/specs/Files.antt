-- Files held in memory: names with their contents.
use Rattle.std.specs.Prelude.{ℕ, List, [], ◌∷◌, Vec, String, string_bytes, Option, Some, None, if◌then◌else◌, is_some}
use Rattle.std.specs.Str.{bytes_eq}
use Rattle.std.specs.declared.alloc.Global.{Global}

-- a name and a content, apart from where they lie in memory
abbrev pub plain_file : String Global × Vec ℕ Global → List ℕ × List ℕ
plain_file file = (string_bytes file.0, file.1.items)

-- the content of the first file of this name
abbrev pub content_of : List (List ℕ × List ℕ) → List ℕ → Option (List ℕ)
content_of [] name = None
content_of (file ∷ files) name = if bytes_eq file.0 name then Some file.1 else content_of files name

-- files, and how often a name that none of them has was asked for, and a file that is too long
pub record Held : Type 0 where
  pub files : List (List ℕ × List ℕ)
  pub missing : ℕ
  pub overruns : ℕ

-- the count of a name: nothing goes wrong with a file that is held
abbrev pub faults_of : Held → List ℕ → ℕ
faults_of held name = if is_some (content_of held.files name) then 0 else held.missing
