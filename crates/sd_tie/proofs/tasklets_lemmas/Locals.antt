-- The locals of a tasklet by name and by number.
use Rattle.std.proofs.Common.{◌≡◌, ◌∙◌, ℕ, suc, ◌-◌, ◌<◌, ◌≤◌, ℤ, pos, List, [], ◌∷◌, ◌++◌, length, drop, Some, Bool, true, false, cond, if◌then◌else◌, bytes_eq, slice_index_or, slice_set, refl, ap, sym, arith, length-append}
use Rattle.std.specs.Bool.{⊤}
use Rattle.std.proofs.lemmas.List.{get_or-set_same, get_or-set_other}
use Rattle.sd_program.specs.Names.{Name, Named, in_force}
use Rattle.sd_says.specs.Setting.{with_each}
use Rattle.sd_says.specs.Tasklets.{replaced}

-- the value of a local by its number
abbrev pub value_in : List ℤ → ℕ → ℤ
value_in held k = slice_index_or held k (pos 0)

-- each number is below the one before it
abbrev pub Descends : ℕ → Named ℕ → Type 0
Descends bound [] = ⊤
Descends bound (entry ∷ entries) = (entry.1 < bound) × Descends entry.1 entries

pub descends_more : (bound more : ℕ) (entries : Named ℕ) → bound ≤ more → Descends bound entries → Descends more entries
descends_more bound more [] h d = tt
descends_more bound more (entry ∷ entries) h d = (omega (arith, h, d.0), d.1)

-- functions that agree below a bound make the same of numbers below it
made_below : {A : Type 0} (bound : ℕ) (make other : ℕ → A) → ((k : ℕ) → k < bound → make k ≡ other k) → (entries : Named ℕ) → Descends bound entries → with_each make entries ≡ with_each other entries
made_below bound make other same [] d = refl
made_below bound make other same (entry ∷ entries) d =
    λ i. (entry.0, same entry.1 d.0 i) ∷ made_below entry.1 make other (λ k b. same k (omega (arith, b, d.0))) entries d.1 i

-- the number of a name is below the bound
pub number_below : (bound k : ℕ) (entries : Named ℕ) (name : Name) → Descends bound entries → in_force entries name ≡ Some k → k < bound
number_below bound k [] name d e = cc
number_below bound k (entry ∷ entries) name d e = go (bytes_eq name entry.0) e (number_below entry.1 k entries name d.1)
  where
    go : (same : Bool) → cond same (Some entry.1) (in_force entries name) ≡ Some k → (in_force entries name ≡ Some k → k < entry.1) → k < bound
    go true e later = let is : entry.1 ≡ k = cc in omega (arith, is, d.0)
    go false e later = omega (arith, later e, d.0)

pub replaced_tied : (bound k : ℕ) (entries : Named ℕ) (name : Name) (value : ℤ) (held : List ℤ) → Descends bound entries → in_force entries name ≡ Some k → k < length held →
    replaced name value (with_each (value_in held) entries) ≡ with_each (value_in (slice_set held k value)) entries
replaced_tied bound k [] name value held d e b = cc
replaced_tied bound k (entry ∷ entries) name value held d e b =
    go (bytes_eq name entry.0) e (number_below entry.1 k entries name d.1) (λ f. replaced_tied entry.1 k entries name value held d.1 f b)
  where
    go : (same : Bool) → cond same (Some entry.1) (in_force entries name) ≡ Some k → (in_force entries name ≡ Some k → k < entry.1) →
        (in_force entries name ≡ Some k → replaced name value (with_each (value_in held) entries) ≡ with_each (value_in (slice_set held k value)) entries) →
        (if same then (entry.0, value) ∷ with_each (value_in held) entries else (entry.0, value_in held entry.1) ∷ replaced name value (with_each (value_in held) entries))
        ≡ with_each (value_in (slice_set held k value)) (entry ∷ entries)
    go true e below later =
        let is : k ≡ entry.1 = cc in
        (λ i. (entry.0, sym (ap (value_in (slice_set held k value)) (sym is) ∙ get_or-set_same held k value (pos 0) b) i)
        ∷ made_below entry.1 (value_in held) (value_in (slice_set held k value)) (λ n l. sym (get_or-set_other held k n value (pos 0) (λ same. omega (arith, l, same, is)))) entries d.1 i)
    go false e below later =
        (λ i. (entry.0, sym (get_or-set_other held k entry.1 value (pos 0) (λ same. (let l = below e in omega (arith, l, same)))) i) ∷ later e i)

-- one more local
pub pushed_tied : (next : ℕ) (entries : Named ℕ) (name : Name) (value : ℤ) (held : List ℤ) → Descends next entries → next < length held →
    (name, value) ∷ with_each (value_in held) entries ≡ with_each (value_in (slice_set held next value)) ((name, next) ∷ entries)
pushed_tied next entries name value held d b =
    (λ i. (name, sym (get_or-set_same held next value (pos 0) b) i)
    ∷ made_below next (value_in held) (value_in (slice_set held next value)) (λ n l. sym (get_or-set_other held next n value (pos 0) (λ same. omega (arith, l, same)))) entries d i)

length_made : {A B : Type 0} (make : A → B) (entries : Named A) → length (with_each make entries) ≡ length entries
length_made make [] = refl
length_made make (entry ∷ entries) = ap suc (length_made make entries)

-- the oldest ones, as many as there were
pub oldest_made : {A B : Type 0} (make : A → B) (more entries : Named A) (before : Named B) → length before ≡ length entries →
    drop (length (with_each make (more ++ entries)) - length before) (with_each make (more ++ entries)) ≡ with_each make entries
oldest_made {A} {B} make more entries before e = ap (λ count. drop count (with_each make (more ++ entries))) count ∙ behind more
  where
    count : length (with_each make (more ++ entries)) - length before ≡ length more
    count = omega (arith, length_made make (more ++ entries), length-append more entries, e)

    behind : (more : Named A) → drop (length more) (with_each make (more ++ entries)) ≡ with_each make entries
    behind [] = refl
    behind (entry ∷ more) = behind more

pub length_same : (held : List ℤ) (entries : Named ℕ) (locals : Named ℤ) → locals ≡ with_each (value_in held) entries → length locals ≡ length entries
length_same held entries locals e = ap length e ∙ length_made (value_in held) entries
