-- A stack of names, as names in force: the last one is the newest.
use Rattle.std.specs.Prelude.{⊤, ℕ, ◌-◌, ◌≡◌, List, [], ◌∷◌, ◌++◌, length, drop, Option, None, unwrap_or, String, string_bytes}
use Rattle.std.specs.declared.alloc.Global.{Global}
use Rattle.indexmap.specs.IndexMap.{IndexMap, get_by_text}
use Rattle.sd_program.specs.Names.{Named, in_force}
use Rattle.sd_task.specs.declared.in_force.scope.Entry.{Entry}

abbrev pub stacked : List Entry → Named ℕ
stacked [] = []
stacked (entry ∷ entries) = stacked entries ++ (string_bytes entry.name, entry.number) ∷ []

-- each entry knows what its name stood for before, above these names
abbrev pub KnowHidden : (below : Named ℕ) → List Entry → Type 0
KnowHidden below [] = ⊤
KnowHidden below (entry ∷ entries) = (entry.hidden ≡ in_force below (string_bytes entry.name)) × KnowHidden ((string_bytes entry.name, entry.number) ∷ below) entries

-- a map has what each name stands for
abbrev pub HasNumbers : {S : Type 0} → IndexMap (String Global) (Option ℕ) S → Named ℕ → Type 0
HasNumbers numbers names = (name : List ℕ) → unwrap_or (get_by_text numbers name) None ≡ in_force names name

-- without the newest name
abbrev pub without_newest : Named ℕ → Named ℕ
without_newest [] = []
without_newest (entry ∷ entries) = entries

-- the oldest of some names, so many
abbrev pub oldest : ℕ → Named ℕ → Named ℕ
oldest count names = drop (length names - count) names
