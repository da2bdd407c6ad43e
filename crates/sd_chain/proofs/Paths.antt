-- The numbers of a path, one after another.
use Rattle.std.proofs.Common.{◌≡◌, ℕ, List, [], ◌∷◌, ◌++◌, Option, Some, None, refl, ap, sym, ◌∙◌, append_assoc, append-nil}
use Rattle.sd_chain.specs.Parts.{parts, parts_left, IsFirstPart}
use Rattle.sd_chain.specs.Chain.{number_of, numbers_of, with_number}

-- numbers that were read before the others
abbrev pub before : (read : List ℕ) → Option (List ℕ) → Option (List ℕ)
before read None = None
before read (Some later) = Some (read ++ later)

pub before-none : (later : Option (List ℕ)) → later ≡ before [] later
before-none None = refl
before-none (Some later) = refl

pub path_begins : (word : List ℕ) → numbers_of (parts 46 word) ≡ before [] (numbers_of (parts 46 word))
path_begins word = before-none (numbers_of (parts 46 word))

pub before-push : (read : List ℕ) (number : ℕ) (later : Option (List ℕ)) → before read (with_number (Some number) later) ≡ before (read ++ number ∷ []) later
before-push read number None = refl
before-push read number (Some later) = ap Some (sym (append_assoc read (number ∷ []) later))

pub path_goes_on : (all : Option (List ℕ)) (read from part : List ℕ) (rest : Option (List ℕ)) (number : ℕ) → IsFirstPart 46 from part rest → Some number ≡ number_of part
    → all ≡ before read (numbers_of (parts 46 from)) → all ≡ before (read ++ number ∷ []) (numbers_of (parts_left 46 rest))
path_goes_on all read from part rest number first is so_far =
    so_far ∙ ap (λ parts. before read (numbers_of parts)) first.parted
    ∙ ap (λ found. before read (with_number found (numbers_of (parts_left 46 rest)))) (sym is)
    ∙ before-push read number (numbers_of (parts_left 46 rest))

pub path_refused : (all : Option (List ℕ)) (read from part : List ℕ) (rest : Option (List ℕ)) → IsFirstPart 46 from part rest → None ≡ number_of part
    → all ≡ before read (numbers_of (parts 46 from)) → all ≡ None
path_refused all read from part rest first is so_far =
    so_far ∙ ap (λ parts. before read (numbers_of parts)) first.parted
    ∙ ap (λ found. before read (with_number found (numbers_of (parts_left 46 rest)))) (sym is)

pub path_ends : (all : Option (List ℕ)) (read : List ℕ) → all ≡ before read (numbers_of []) → all ≡ Some read
path_ends all read so_far = so_far ∙ ap Some (append-nil read)

pub ruleset path_steps = (path_begins, path_goes_on, path_refused, path_ends)
