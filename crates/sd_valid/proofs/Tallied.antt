-- Tallies of containers one after another.
use Rattle.std.proofs.Common.{◌≡◌, ℕ, ◌+◌, List, [], ◌∷◌, ◌++◌, Result, Ok, Err, Bool, true, false, if◌then◌else◌, refl, ap, sym, subst, ◌∙◌}
use Rattle.sd_graph.specs.ContainerParts.{Containers}
use Rattle.sd_valid.specs.declared.error.BindError.{BindError}
use Rattle.sd_valid.specs.declared.error.BindError.TheVariants.{MissingSize, BadSize, OverLimit, Memory}
use Rattle.sd_valid.specs.Limits.{tally, is_over, elements_in}
use Rattle.sd_valid.specs.Counting.{Tallies}

-- a tally goes on where there is one
abbrev pub and_then : Result ℕ (List ℕ) → Containers → Result ℕ (List ℕ)
and_then (Ok total) containers = tally total containers
and_then (Err name) containers = Err name

by_test : (over : Bool) (name : List ℕ) (first : Result ℕ (List ℕ)) (others : Containers) →
    (if over then Err name else and_then first others) ≡ and_then (if over then Err name else first) others
by_test true name first others = refl
by_test false name first others = refl

-- the tally of two lists
pub tally-append : (before : ℕ) (first others : Containers) → tally before (first ++ others) ≡ and_then (tally before first) others
tally-append before [] others = refl
tally-append before (entry ∷ entries) others =
    ap (λ (rest : Result ℕ (List ℕ)). if is_over before entry.1 then Err entry.0 else rest) (tally-append (before + elements_in entry.1) entries others)
    ∙ by_test (is_over before entry.1) entry.0 (tally (before + elements_in entry.1) entries) others

-- a refusal stays one
err_stays : (error : BindError) (first : Result ℕ (List ℕ)) (others : Containers) → Tallies (Err error) first → Tallies (Err error) (and_then first others)
err_stays (OverLimit name) first others is = ap (λ (tally : Result ℕ (List ℕ)). and_then tally others) is
err_stays Memory first others is = tt
err_stays (MissingSize name) first others is = is
err_stays (BadSize name) first others is = is

pub tallies_err : (error : BindError) (before : ℕ) (first others : Containers) → Tallies (Err error) (tally before first) → Tallies (Err error) (tally before (first ++ others))
tallies_err error before first others is = subst (Tallies (Err error)) (sym (tally-append before first others)) (err_stays error (tally before first) others is)

-- a total goes on
pub tally_ok : (total before : ℕ) (first others : Containers) → tally before first ≡ Ok total → tally total others ≡ tally before (first ++ others)
tally_ok total before first others is = sym (tally-append before first others ∙ ap (λ (tally : Result ℕ (List ℕ)). and_then tally others) is)
