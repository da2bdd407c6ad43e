-- Parameters and sizes of which nothing is left.
use Rattle.std.proofs.Common.{◌≡◌, ℕ, List, [], ◌∷◌, ◌++◌, length, true, refl, sym, ap, ◌∙◌, append-nil}
use Rattle.sd_range.specs.declared.range.Range.{Range}
use Rattle.sd_exchange.specs.tiles.Tiled.{tile_params, params_in_tile}
use Rattle.sd_mapx.specs.MapTests.{are_steps_small}

-- what was made is all where nothing is left
pub all_made : {A : Type 0} (made left all : List A) → made ++ left ≡ all → left ≡ [] → made ≡ all
all_made made left all whole none = sym (append-nil made) ∙ ap (λ rest. made ++ rest) (sym none) ∙ whole

pub no_size : (sizes : List ℕ) (variable : ℕ) (params : List (ℕ × Range)) → length sizes ≡ 0 → tile_params sizes variable params ≡ []
no_size [] variable params none = refl
no_size (size ∷ sizes) variable params none = cc

pub no_param : (sizes : List ℕ) (variable : ℕ) (params : List (ℕ × Range)) → length params ≡ 0 → tile_params sizes variable params ≡ []
no_param [] variable params none = refl
no_param (size ∷ sizes) variable [] none = refl
no_param (size ∷ sizes) variable (param ∷ params) none = cc

pub no_size_within : (sizes : List ℕ) (variable : ℕ) (params : List (ℕ × Range)) → length sizes ≡ 0 → params_in_tile sizes variable params ≡ []
no_size_within [] variable params none = refl
no_size_within (size ∷ sizes) variable params none = cc

pub no_param_within : (sizes : List ℕ) (variable : ℕ) (params : List (ℕ × Range)) → length params ≡ 0 → params_in_tile sizes variable params ≡ []
no_param_within [] variable params none = refl
no_param_within (size ∷ sizes) variable [] none = refl
no_param_within (size ∷ sizes) variable (param ∷ params) none = cc

pub no_size_small : (sizes : List ℕ) (params : List (ℕ × Range)) → length sizes ≡ 0 → are_steps_small sizes params ≡ true
no_size_small [] params none = refl
no_size_small (size ∷ sizes) params none = cc

pub no_param_small : (sizes : List ℕ) (params : List (ℕ × Range)) → length params ≡ 0 → are_steps_small sizes params ≡ true
no_param_small [] params none = refl
no_param_small (size ∷ sizes) [] none = refl
no_param_small (size ∷ sizes) (param ∷ params) none = cc
