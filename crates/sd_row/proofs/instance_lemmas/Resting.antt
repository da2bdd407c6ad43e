-- Accesses that stay where they are.
use Rattle.std.proofs.Common.{◌≡◌, ℕ, ◌+◌, ◌<◌, ◌≤◌, ℤ, pos, List, [], ◌∷◌, ◌++◌, length, take, get_or, Some, true, false, if◌then◌else◌, sym, ap, ◌∙◌, subst, w64, FitsSigned}
use Rattle.std.specs.List.{AllZip}
use Rattle.std.proofs.lemmas.Int.{int_wrap_fits}
use Rattle.std.proofs.lemmas.List.{take_more, take_all}
use Rattle.sd_num.specs.Wrapped.{wrapped}
use Rattle.sd_work.specs.Leaf.{write_value, push_to}
use Rattle.sd_graph.specs.ContainerParts.{container_at, is_stream}
use Rattle.sd_graph.specs.TaskletMeaning.{Effect}
use Rattle.sd_graph.specs.Context.{Context, link_element}
use Rattle.sd_graph.specs.Unfold.{pending_through}
use Rattle.sd_graph.specs.declared.link.Link.{Link}
use Rattle.sd_mem.specs.declared.machine.address.Station.{Station}
use Rattle.sd_scope.specs.even.Even.{is_scalar, spaced}
use Rattle.sd_scope.proofs.even_lemmas.Distances.{spaced_still}
use Rattle.sd_row.specs.declared.row.track.Track.{Track}
use Rattle.sd_row.specs.row.Row.{reference_on}
use Rattle.sd_row.specs.declared.instance.target.Target.TheVariants.{Stream, Element, Computed}
use Rattle.sd_row.specs.instance.Known.{IsTarget}
use Rattle.sd_row.proofs.instance_lemmas.Links.{scalar_element}

-- a number that is added nothing to
pub rests : (number : ℤ) → FitsSigned w64 number → wrapped (spaced number (pos 0) 0) ≡ number
rests number fits = ap wrapped (spaced_still number 0) ∙ int_wrap_fits w64 number fits

-- ---- targets

module _ (k : ℕ) (context standing : Context) (link : Link) where
  pub stream_target : (station : Station) → is_stream (container_at context.containers link.memlet.container).kind ≡ true → station.level ≡ (context.reach link.memlet.container).level →
      station.container ≡ (context.reach link.memlet.container).container → IsTarget k context standing link (Stream station)
  stream_target station streams level container = record {
    effects = λ effect.
        ap (λ test. if test then push_to (context.reach link.memlet.container).level (context.reach link.memlet.container).container effect.value else write_value effect.value (link_element context link effect.at) link.memlet.resolution) streams
        ∙ ap (λ l. push_to l (context.reach link.memlet.container).container effect.value) (sym level)
        ∙ ap (λ c. push_to station.level c effect.value) (sym container);
    places = tt;
  }

  pub element_target : (to : Track) → is_stream (container_at context.containers link.memlet.container).kind ≡ false → is_scalar link.memlet.subset.dims ≡ true →
      link_element context link [] ≡ Some (reference_on to k) → IsTarget k context standing link (Element link.memlet.resolution to)
  element_target to arrays scalar found = record {
    effects = λ effect.
        ap (λ test. if test then push_to (context.reach link.memlet.container).level (context.reach link.memlet.container).container effect.value else write_value effect.value (link_element context link effect.at) link.memlet.resolution) arrays
        ∙ ap (λ element. write_value effect.value element link.memlet.resolution) (scalar_element context link effect.at scalar ∙ found);
    places = tt;
  }

  -- the element at a place is found in the same way from there
  pub computed_target : ((effect : Effect) → pending_through context link effect ≡ pending_through standing link effect) → IsTarget k context standing link Computed
  computed_target same = record { effects = same; places = tt }

-- ---- lists side by side

zip_more : {A B : Type 0} (Is : A → B → Type 0) (members : List A) (others : List B) (member : A) (other : B) → AllZip Is members others → Is member other → AllZip Is (members ++ member ∷ []) (others ++ other ∷ [])
zip_more Is [] [] member other all is = (is, tt)
zip_more Is [] (second ∷ others) member other all is = absurd all
zip_more Is (first ∷ members) [] member other all is = absurd all
zip_more Is (first ∷ members) (second ∷ others) member other all is = (all.0, zip_more Is members others member other all.1 is)

-- one more of both
pub zip_next : {A B : Type 0} (Is : A → B → Type 0) (members : List A) (others new : List B) (number : ℕ) (member : A) (other : B) → number < length members → member ≡ get_or members number member →
    AllZip Is (take number members) others → Is member other → new ≡ others ++ other ∷ [] → AllZip Is (take (number + 1) members) new
zip_next Is members others new number member other within here all is more =
    subst (λ list. AllZip Is (take (number + 1) members) list) (sym more)
    (subst (λ list. AllZip Is list (others ++ other ∷ [])) (sym (take_more members number member within ∙ ap (λ member. take number members ++ member ∷ []) (sym here)))
    (zip_more Is (take number members) others member other all is))

pub zip_whole : {A B : Type 0} (Is : A → B → Type 0) (members : List A) (others : List B) (number : ℕ) → length members ≤ number → AllZip Is (take number members) others → AllZip Is members others
zip_whole Is members others number over all = subst (λ list. AllZip Is list others) (take_all number members over) all
