-- A mode put in the place of that of a container.
use Rattle.std.proofs.Common.{◌≡◌, ℕ, zero, suc, ◌+◌, ◌-◌, ◌<◌, ◌≤◌, nat_eq, List, [], ◌∷◌, ◌++◌, length, take, replicate, slice_set, slice_index_or, Option, None, Bool, true, false, if◌then◌else◌, refl, sym, ap, ◌∙◌, arith}
use Rattle.std.proofs.lemmas.Bool.{eqb-true, eqb-false}
use Rattle.std.proofs.lemmas.List.{take_all, get_or-set_same, get_or-set_other}

module _ {A : Type 0} where
  none-there : (count other : ℕ) → slice_index_or (replicate {A = Option A} count None) other None ≡ None
  none-there zero other = refl
  none-there (suc count) zero = refl
  none-there (suc count) (suc other) = none-there count other

  filled : (list : List (Option A)) (count other : ℕ) → slice_index_or (list ++ replicate count None) other None ≡ slice_index_or list other None
  filled [] count other = none-there count other
  filled (first ∷ list) count zero = refl
  filled (first ∷ list) count (suc other) = filled list count other

  -- a list that was made long enough
  pub resized : (index size other : ℕ) (list : List (Option A)) → size ≡ length list → size ≤ index →
      slice_index_or (take (index + 1) list ++ replicate (index + 1 - size) None) other None ≡ slice_index_or list other None
  resized index size other list is within = rw (take_all (index + 1) list (omega arith)) (filled list (index + 1 - size) other)

  pub put-there : (old list : List (Option A)) (index : ℕ) (value : Option A) → index < length list → ((other : ℕ) → slice_index_or list other None ≡ slice_index_or old other None) →
      (other : ℕ) → slice_index_or (slice_set list index value) other None ≡ (if nat_eq other index then value else slice_index_or old other None)
  put-there old list index value within same other = go (nat_eq other index) refl where
    go : (is : Bool) → nat_eq other index ≡ is → slice_index_or (slice_set list index value) other None ≡ (if nat_eq other index then value else slice_index_or old other None)
    go true is =
        ap (λ (at : ℕ). slice_index_or (slice_set list index value) at None) (eqb-true other index is)
        ∙ get_or-set_same list index value None within
        ∙ ap (λ (b : Bool). if b then value else slice_index_or old other None) (sym is)
    go false is =
        get_or-set_other list index other value None (eqb-false other index is)
        ∙ same other
        ∙ ap (λ (b : Bool). if b then value else slice_index_or old other None) (sym is)
