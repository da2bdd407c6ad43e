-- The sizes of a tiling, one after another.
use Rattle.std.proofs.Common.{◌≡◌, ℕ, List, [], ◌∷◌, ◌++◌, Option, Some, None, ap, sym, ◌∙◌, append-nil}
use Rattle.sd_chain.specs.Picks.{pick_of}
use Rattle.sd_chain.specs.Chain.{sizes_of, with_number}
use Rattle.sd_chain.proofs.Paths.{before, before-none, before-push}

pub sizes_begin : (all : List (List ℕ)) → sizes_of all ≡ before [] (sizes_of all)
sizes_begin all = before-none (sizes_of all)

pub sizes_go_on : (reading : Option (List ℕ)) (read : List ℕ) (size : ℕ) (word : List ℕ) (all later : List (List ℕ)) → all ≡ word ∷ later → Some size ≡ pick_of word
    → reading ≡ before read (sizes_of all) → reading ≡ before (read ++ size ∷ []) (sizes_of later)
sizes_go_on reading read size word all later parted is so_far =
    so_far ∙ ap (λ all. before read (sizes_of all)) parted ∙ ap (λ found. before read (with_number found (sizes_of later))) (sym is) ∙ before-push read size (sizes_of later)

pub size_refused : (reading : Option (List ℕ)) (read word : List ℕ) (all later : List (List ℕ)) → all ≡ word ∷ later → None ≡ pick_of word
    → reading ≡ before read (sizes_of all) → reading ≡ None
size_refused reading read word all later parted is so_far =
    so_far ∙ ap (λ all. before read (sizes_of all)) parted ∙ ap (λ found. before read (with_number found (sizes_of later))) (sym is)

pub sizes_end : (reading : Option (List ℕ)) (read : List ℕ) (all : List (List ℕ)) → all ≡ [] → reading ≡ before read (sizes_of all) → reading ≡ Some read
sizes_end reading read all is so_far = so_far ∙ ap (λ all. before read (sizes_of all)) is ∙ ap Some (append-nil read)

pub ruleset size_steps = (sizes_begin, sizes_go_on, size_refused, sizes_end)
